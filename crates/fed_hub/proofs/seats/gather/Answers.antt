use Rattle.std.proofs.Common.{arith, ◌∷◌, [], All, drop, length, length-append, ap, ◌∙◌, subst}
use Rattle.std.proofs.Math.Seq.{drop-append_seam}
use Rattle.fed_hub.specs.Seats.{IsReaderAt}
use Rattle.fed_hub.proofs.Ended.{all_taken, one_reader, one_taken}
use Rattle.fed_hub.proofs.seats.gather.Goals as goal

pub push_reserved-requires : goal.push_reserved-requires
push_reserved-requires g c =
    let seats = c.loop-reader.seats.items in
    let rest = c.loop-reader.reader-iterator.rest.items in
    omega (
      arith,
      length-append seats rest,
      length-append c.args.seats.now.items c.args.readers.items,
      ap length c.loop-reader.invariant.all,
      ap length c.in-Some.ensures.steps.0,
      c.loop-reader.invariant.room,
      c.requires,
      c.loop-reader.seats.ok.0,
    )

pub loop-reader-preserved : goal.loop-reader-preserved
loop-reader-preserved g c =
    let seats = c.loop-reader.seats.items in
    let seat = c.reader.inside.seat in
    let more = c.push_reserved.ensures.items in
    record {
      all = one_taken seats _ _ _ _ seat c.in-Some.reader more c.reader.view_is c.in-Some.ensures.steps.0 c.loop-reader.invariant.all;
      some = omega (arith, ap length more, length-append seats (seat ∷ []), c.loop-reader.invariant.some);
      readers = one_reader (IsReaderAt g.N.Naming.board) (length c.args.seats.now.items) seats _ seat more c.loop-reader.invariant.some c.loop-reader.invariant.readers c.reader.invariant;
      room = c.push_reserved.ensures.capacity ∙ c.loop-reader.invariant.room;
    }

pub returns-clause-readers : goal.returns-clause-readers
returns-clause-readers g c =
    let front = c.args.seats.now.items in
    let seats = c.loop-reader.seats.items in
    let rest = c.loop-reader.reader-iterator.rest in
    let whole = all_taken seats rest.items _ (omega (arith, rest.ok.0, c.in-None.ensures.steps.0)) c.loop-reader.invariant.all in
    subst (All (IsReaderAt g.N.Naming.board)) (ap (drop (length front)) whole ∙ drop-append_seam front c.args.readers.items) c.loop-reader.invariant.readers
