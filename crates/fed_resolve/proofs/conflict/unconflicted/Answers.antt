use Rattle.std.proofs.Common.{[], map, subst, sym, ap, ◌∙◌}
use Rattle.fed_room_contract.specs.Entry.{seen}
use Rattle.fed_resolve.specs.Conflict.{unconflicted}
use Rattle.fed_resolve.specs.ConflictParts.{AreKept}
use Rattle.fed_resolve.proofs.Unconflicteds.{kept-none, kept-first, kept-nowhere}
use Rattle.fed_resolve.proofs.conflict.unconflicted.Goals.{in-Some+in_ok-entries+in_ok-keep, in_default}
use Rattle.fed_resolve.proofs.conflict.unconflicted.Goals as goal

pub keep-requires : goal.keep-requires
keep-requires c = subst (AreKept (unconflicted c.args.states.now) []) (sym c.new-state.ensures) (kept-none (unconflicted c.args.states.now))

pub returns : goal.returns
returns c =
    let states = c.args.states.now in
    elim c.match-first.branch [
      | in-Some+in_ok-entries+in_ok-keep w ↦
          w.state-is
          ∙ kept-first states w.in-Some.first.now w.keep.new.state (map seen w.deref.result.now) w.in-Some.ensures.value (ap (map seen) w.deref.ensures.value ∙ w.in_ok-entries.ensures) w.in_ok-keep.ensures
      | in_default w ↦ w.state-is ∙ c.new-state.ensures ∙ kept-nowhere states w.in_default.ensures.value
    ]
