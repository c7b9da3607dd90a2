use Rattle.std.proofs.Common.{arith, length, sym, ap, ◌∙◌, subst}
use Rattle.std.specs.List.{AllZip}
use Rattle.std.proofs.lemmas.Slice.Zip.{AllZip-long}
use Rattle.fed_wires.specs.Seat.{AreAll}
use Rattle.fed_hub.specs.Seats.{IsSeatOf}
use Rattle.fed_hub.proofs.Ended.{all_seats, no_reader_saw_more, written_back}
use Rattle.fed_hub.proofs.seats.end_board.Goals as goal

pub gather-requires : goal.gather-requires
gather-requires g c =
    let seated = c.args.seated.items in
    let same = written_back seated c.look.new.outboxes c.args.seated.len (omega (arith, c.args.seated.ok.0)) (c.look.ensures.same ∙ c.deref_mut.ensures.value) in
    let long = AllZip-long (IsSeatOf g.N.Naming.board) _ c.part.new.seats.items c.part.ensures.seats in
    omega (arith, long, ap length same, c.part.ensures.room, c.requires.room.for_seats)

pub finish-requires : goal.finish-requires
finish-requires g c =
    let board = g.N.Naming.board in
    let seated = c.args.seated.items in
    let owners = c.part.new.seats.items in
    let same = written_back seated c.look.new.outboxes c.args.seated.len (omega (arith, c.args.seated.ok.0)) (c.look.ensures.same ∙ c.deref_mut.ensures.value) in
    let are = subst (λ os. AllZip (IsSeatOf board) os owners) same c.part.ensures.seats in
    let all = all_seats board c.args.board.readers seated owners c.args.readers.items c.gather.new.seats.items c.requires.board.1 c.requires.board.2 are c.gather.ensures.readers c.gather.ensures.seats in
    record { all = subst (λ id. AreAll id c.args.board.readers c.gather.new.seats.items) (sym c.requires.board.0) all }

pub returns-clause-seen : goal.returns-clause-seen
returns-clause-seen g c =
    let board = g.N.Naming.board in
    let seated = c.args.seated.items in
    let owners = c.part.new.seats.items in
    let same = written_back seated c.look.new.outboxes c.args.seated.len (omega (arith, c.args.seated.ok.0)) (c.look.ensures.same ∙ c.deref_mut.ensures.value) in
    let are = subst (λ os. AllZip (IsSeatOf board) os owners) same c.part.ensures.seats in
    no_reader_saw_more board seated owners c.args.readers.items c.gather.new.seats.items are c.gather.ensures.seats c.finish.ensures.shown
