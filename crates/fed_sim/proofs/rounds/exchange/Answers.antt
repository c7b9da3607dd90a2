use Rattle.std.proofs.Common.{sym, ◌∙◌, subst}
use Rattle.fed_sim.specs.declared.outcome.Outcome.{Outcome}
use Rattle.fed_sim.specs.Packets.{IsPosted, IsTaken}
use Rattle.fed_sim.specs.Rounds.{IsExchanged, nothing, left_alone, brought, risen_to}
use Rattle.fed_sim.specs.RoundsInPart.{IsExchangedInPart, not_posted, not_taken, not_settled}
use Rattle.fed_sim.specs.WorldParts.{world_of}
use Rattle.fed_sim.proofs.Servers.{on_error}
use Rattle.fed_sim.proofs.CalmSteps.{not_waited, waited, is_posted, is_answered}
use Rattle.fed_sim.proofs.Views.{posted_by}
use Rattle.fed_sim.proofs.rounds.exchange.Goals as goal

pub returns-in_default-clause-exchanged : goal.returns-in_default-clause-exchanged
returns-in_default-clause-exchanged c = nothing (sym c.due_at.ensures ∙ c.in_default.is)

pub returns-then-not-wait_until-clause-exchanged : goal.returns-then-not-wait_until-clause-exchanged
returns-then-not-wait_until-clause-exchanged c =
    let late = not_waited (world_of c.args.world.now) c.in-Some.due_at c.wait_until.result (world_of c.wait_until.new.self) c.wait_until.ensures.waited c.if-not-wait_until.true in
    subst (IsExchanged c.args.server c.args.dest (world_of c.args.world.now)) (sym late.1) (left_alone c.in-Some.due_at (sym c.due_at.ensures ∙ c.in-Some.is) late.0)

pub returns-in_err-packet-clause-err : goal.returns-in_err-packet-clause-err
returns-in_err-packet-clause-err c =
    let now = waited (world_of c.args.world.now) c.in-Some.due_at c.wait_until.result (world_of c.wait_until.new.self) c.wait_until.ensures.waited c.if-not-wait_until.false in
    on_error c.from_residual.result (not_posted c.in-Some.due_at (sym c.due_at.ensures ∙ c.in-Some.is) now.0 (c.in_err-packet.ensures.err ∙ now.1))

pub returns-in_default-2 : goal.returns-in_default-2
returns-in_default-2 c =
    let now = waited (world_of c.args.world.now) c.in-Some.due_at c.wait_until.result (world_of c.wait_until.new.self) c.wait_until.ensures.waited c.if-not-wait_until.false in
    absurd (is_posted (world_of c.args.world.now) c.args.server c.args.dest c.in-Some.due_at c.in_ok-packet.field-0 (world_of c.post.new.self) (sym c.due_at.ensures ∙ c.in-Some.is)
    (subst (λ w. IsPosted c.args.server c.args.dest w c.in_ok-packet.field-0 (world_of c.post.new.self)) now.1 c.in_ok-packet.ensures.posted) c.in_default-2.not-Posted)

pub returns-in_err-packet-2-clause-err : goal.returns-in_err-packet-2-clause-err
returns-in_err-packet-2-clause-err c =
    let old = world_of c.args.world.now in
    let now = waited old c.in-Some.due_at c.wait_until.result (world_of c.wait_until.new.self) c.wait_until.ensures.waited c.if-not-wait_until.false in
    on_error c.from_residual-in_err-packet-2.result
    (subst (IsExchangedInPart c.args.server c.args.dest old) (sym c.in_err-packet-2.ensures.err)
    (not_taken c.in-Some.due_at c.in-Posted.packet (sym c.due_at.ensures ∙ c.in-Some.is) now.0
    (subst (λ (told : Outcome). IsPosted c.args.server c.args.dest (risen_to c.in-Some.due_at old) told (world_of c.post.new.self)) c.in-Posted.is
    (subst (λ w. IsPosted c.args.server c.args.dest w c.in_ok-packet.field-0 (world_of c.post.new.self)) now.1 c.in_ok-packet.ensures.posted))))

pub returns-in_default-3 : goal.returns-in_default-3
returns-in_default-3 c =
    let sent = posted_by c.args.server c.args.dest c.in-Posted.packet (world_of c.wait_until.new.self) c.in_ok-packet.field-0 (world_of c.post.new.self) c.in_ok-packet.ensures.posted c.in-Posted.is in
    absurd (is_answered c.runs_deliver.ensures.takes (world_of c.post.new.self) c.post.new.self.comes c.in-Posted.packet c.args.server c.args.dest sent.n sent.bytes sent.request_is c.in_ok-packet-2.field-0 (world_of c.take.new.self)
    c.in_ok-packet-2.ensures.taken c.in_default-3.not-Answered)

pub returns-in_err-settle-clause-err : goal.returns-in_err-settle-clause-err
returns-in_err-settle-clause-err c =
    let old = world_of c.args.world.now in
    let now = waited old c.in-Some.due_at c.wait_until.result (world_of c.wait_until.new.self) c.wait_until.ensures.waited c.if-not-wait_until.false in
    on_error c.from_residual-in_err-settle.result
    (subst (IsExchangedInPart c.args.server c.args.dest old) (sym c.in_err-settle.ensures.err)
    (not_settled c.in-Some.due_at c.in-Posted.packet (world_of c.post.new.self) c.in-Answered.packet c.in-Answered.status (sym c.due_at.ensures ∙ c.in-Some.is) now.0
    (subst (λ (told : Outcome). IsPosted c.args.server c.args.dest (risen_to c.in-Some.due_at old) told (world_of c.post.new.self)) c.in-Posted.is
    (subst (λ w. IsPosted c.args.server c.args.dest w c.in_ok-packet.field-0 (world_of c.post.new.self)) now.1 c.in_ok-packet.ensures.posted))
    (subst (λ (told : Outcome). IsTaken c.in-Posted.packet (world_of c.post.new.self) told (world_of c.take.new.self)) c.in-Answered.is c.in_ok-packet-2.ensures.taken)))

pub returns-clause-exchanged : goal.returns-clause-exchanged
returns-clause-exchanged c =
    let now = waited (world_of c.args.world.now) c.in-Some.due_at c.wait_until.result (world_of c.wait_until.new.self) c.wait_until.ensures.waited c.if-not-wait_until.false in
    brought c.in-Some.due_at (world_of c.settle.new.self) (sym c.due_at.ensures ∙ c.in-Some.is) now.0 (record {
      posted = world_of c.post.new.self;
      request = c.in-Posted.packet;
      is_posted = subst (λ (told : Outcome). IsPosted c.args.server c.args.dest (risen_to c.in-Some.due_at (world_of c.args.world.now)) told (world_of c.post.new.self)) c.in-Posted.is
          (subst (λ w. IsPosted c.args.server c.args.dest w c.in_ok-packet.field-0 (world_of c.post.new.self)) now.1 c.in_ok-packet.ensures.posted);
      answered = world_of c.take.new.self;
      answer = c.in-Answered.packet;
      status = c.in-Answered.status;
      is_taken = subst (λ (told : Outcome). IsTaken c.in-Posted.packet (world_of c.post.new.self) told (world_of c.take.new.self)) c.in-Answered.is c.in_ok-packet-2.ensures.taken;
      told = c.in_ok-settle.field-0;
      is_settled = c.in_ok-settle.ensures.settled;
    })
