use Rattle.std.proofs.Common.{◌++◌, ◌∷◌, [], ℕ, List, map, take, subst, sym}
use Rattle.fed_room_contract.specs.Entry.{seen}
use Rattle.fed_room_contract.specs.State.{StateKey}
use Rattle.fed_resolve.specs.KeptParts.{IsWithout}
use Rattle.fed_resolve.proofs.Disputes.{without-more}
use Rattle.fed_resolve.proofs.Unconflicteds.{more_seen}
use Rattle.fed_resolve.proofs.kept.without.Goals as goal

pub loop-entry-preserved : goal.loop-entry-preserved
loop-entry-preserved c =
    let entry = c.entry-item.result in
    let es : List (StateKey × List ℕ) = map seen (take c.loop-entry.entry-index c.args.entries.now) in
    let more = more_seen seen c.args.entries.now c.loop-entry.entry-index entry c.loop-entry-test.true c.entry-item.is in
    subst (λ xs. IsWithout c.args.state xs c.remove.new.self) (sym more)
    (subst (IsWithout c.args.state (es ++ seen entry ∷ [])) (sym c.remove.ensures) (without-more c.args.state c.loop-entry.left es (seen entry) c.loop-entry.invariant))
