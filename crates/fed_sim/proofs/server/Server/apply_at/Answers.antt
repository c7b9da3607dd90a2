use Rattle.fed_sim.specs.ServerParts.{server_of}
use Rattle.fed_sim.proofs.Rooms.{no_such_room, given, not_given, given_in_part}
use Rattle.fed_sim.proofs.Servers.{there_past, there_below, on_error}
use Rattle.fed_sim.proofs.server.Server.apply_at.Goals as goal

pub returns-in_default-clause-applied : goal.returns-in_default-clause-applied
returns-in_default-clause-applied c = no_such_room (server_of c.args.self.now) c.args.self.now.rooms.items c.args.place (there_past c.args.self.now.rooms c.args.place c.get_mut.result c.get_mut.ensures.variant c.in_default.is)

pub returns-in_err-receipt-clause-err : goal.returns-in_err-receipt-clause-err
returns-in_err-receipt-clause-err c =
    let within = there_below c.args.self.now.rooms c.args.place c.get_mut.result c.get_mut.ensures.variant c.in-Some.hosted c.in-Some.is in
    on_error c.from_residual.result
    (given_in_part (server_of c.args.self.now) c.args.self.now.rooms.items c.args.place c.in-Some.hosted.now c.apply.new.self within c.in-Some.ensures.value c.in_err-receipt.ensures.err)

pub returns-in-Some-2-clause-applied : goal.returns-in-Some-2-clause-applied
returns-in-Some-2-clause-applied c =
    let within = there_below c.args.self.now.rooms c.args.place c.get_mut.result c.get_mut.ensures.variant c.in-Some.hosted c.in-Some.is in
    given (server_of c.args.self.now) c.args.self.now.rooms.items c.args.place c.in-Some.hosted.now c.apply.new.self within c.in-Some.ensures.value c.in_ok-receipt.field-0 c.in-Some-2.field-0 c.in-Some-2.is c.in_ok-receipt.ensures.applied

pub returns-in-None-clause-applied : goal.returns-in-None-clause-applied
returns-in-None-clause-applied c =
    let within = there_below c.args.self.now.rooms c.args.place c.get_mut.result c.get_mut.ensures.variant c.in-Some.hosted c.in-Some.is in
    not_given (server_of c.args.self.now) c.args.self.now.rooms.items c.args.place c.in-Some.hosted.now c.apply.new.self within c.in-Some.ensures.value c.in_ok-receipt.field-0 c.in-None.is c.in_ok-receipt.ensures.empty (λ empty. (c.in_ok-receipt.ensures.nothing empty).1)
