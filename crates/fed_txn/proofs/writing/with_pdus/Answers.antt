use Rattle.std.proofs.Common.{All, arith, ap, subst, sym, ◌∙◌}
use Rattle.std.proofs.lemmas.Grind.{common_steps}
use Rattle.std.proofs.lemmas.List.{take_all}
use Rattle.std.proofs.lemmas.List.Elements.{All-more}
use Rattle.fed_txn.specs.WritingParts.{IsWritten, IsWrittenEvent}
use Rattle.fed_txn.proofs.writing.with_pdus.Goals as goal

pub loop-event-preserved : goal.loop-event-preserved
loop-event-preserved c =
    let this : IsWrittenEvent c.event-item.result = record {
      written = subst IsWritten (c.json.ensures.value ∙ ap (λ e. e.value) c.event.ensures.event) c.in_ok-add.ensures.item;
      passes = rw (sym c.event.ensures.event) c.json.ensures.passes;
    } in
    record {
      text = grind (arith, common_steps);
      each = All-more IsWrittenEvent c.args.pdus.now c.loop-event.event-index c.event-item.result c.loop-event-test.true c.loop-event.invariant.each (subst IsWrittenEvent c.event-item.is this);
    }

pub returns-clause-each : goal.returns-clause-each
returns-clause-each c = subst (λ all. All IsWrittenEvent all) (take_all c.loop-event.event-index c.args.pdus.now c.loop-event-test.false) c.loop-event.invariant.each
