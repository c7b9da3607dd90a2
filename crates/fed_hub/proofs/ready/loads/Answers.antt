use Rattle.std.proofs.Common.{◌++◌, ◌∷◌, [], take, sym, ap, ◌∙◌, subst}
use Rattle.std.proofs.lemmas.List.{take_more}
use Rattle.fed_journal.specs.Offered.{load_of}
use Rattle.fed_hub_state.specs.declared.unplaced.Unplaced.{Unplaced}
use Rattle.fed_hub_state.specs.Spreading.{AreAll, dests_of}
use Rattle.fed_hub.proofs.Loaded.{dests_more, all_more}
use Rattle.fed_hub.proofs.ready.loads.Goals as goal

pub loop-dest-preserved : goal.loop-dest-preserved
loop-dest-preserved c =
    let loads = c.loop-dest.loads.items in
    let dests = c.as_slice-dest-items.result.now in
    let k = c.loop-dest.dest-index in
    let one : Unplaced = record { dest = c.dest-item.result; load = c.in_ok-load.load } in
    record {
      dests = ap dests_of c.in_ok-push.ensures.items ∙ dests_more loads one ∙ ap (λ ds. ds ++ c.dest-item.result ∷ []) c.loop-dest.invariant.dests
          ∙ ap (λ d. take k dests ++ d ∷ []) c.dest-item.is ∙ sym (take_more dests k c.dest-item.result c.loop-dest-test.true);
      same = subst (AreAll (load_of c.args.offered.now)) (sym c.in_ok-push.ensures.items) (all_more (load_of c.args.offered.now) loads one c.loop-dest.invariant.same c.in_ok-load.ensures);
    }
