use Rattle.std.proofs.Common.{sym, subst}
use Rattle.fed_journal.specs.declared.parcel.Parcel.{Parcel}
use Rattle.fed_hub.specs.declared.collected.Collected.TheVariants.{Nothing, Closed}
use Rattle.fed_hub.specs.Held.{Held}
use Rattle.fed_hub.specs.Collecting.{IsInHand, HasNone}
use Rattle.fed_hub.proofs.Going.{token_of, was_in_hand, was_ended, nothing_came, gone_then, message_came}
use Rattle.fed_hub.proofs.tokens.SenderToken.take_out.Goals as goal

pub returns-then-is_some-clause-took : goal.returns-then-is_some-clause-took
returns-then-is_some-clause-took g c =
    let old = token_of c.self.inside.dest c.self.inside.«end» c.self.inside.hand c.self.inside.ended in
    subst (λ (h : Held). (parcel : Parcel) × IsInHand h parcel h) c.self.view_is (was_in_hand old (sym c.if-is_some.ensures))

pub returns-then-self-clause-took : goal.returns-then-self-clause-took
returns-then-self-clause-took g c =
    let old = token_of c.self.inside.dest c.self.inside.«end» c.self.inside.hand c.self.inside.ended in
    subst (λ (h : Held). HasNone h Closed h) c.self.view_is (was_ended old (sym c.if-is_some.ensures) c.if-self.true)

pub returns-in-Message-clause-took : goal.returns-in-Message-clause-took
returns-in-Message-clause-took g c =
    (c.in-Message.parcel, subst (λ (h : Held). IsInHand h c.in-Message.parcel c.hold.new.self) c.self.view_is (message_came c.self.inside.dest c.self.inside.«end» c.receive.new.self c.self.inside.hand c.self.inside.ended c.in-Message.parcel c.hold.new.self (sym c.if-is_some.ensures) c.if-self.false c.in-Message.ensures.received.1 c.in-Message.ensures.received.0 c.hold.ensures))

pub returns-in-Empty-clause-took : goal.returns-in-Empty-clause-took
returns-in-Empty-clause-took g c =
    let after = token_of c.self.inside.dest c.receive.new.self c.self.inside.hand c.self.inside.ended in
    subst (λ (h : Held). HasNone h Nothing after) c.self.view_is (nothing_came c.self.inside.dest c.self.inside.«end» c.receive.new.self c.self.inside.hand c.self.inside.ended (sym c.if-is_some.ensures) c.if-self.false c.in-Empty.ensures.received)

pub returns-in-Gone-clause-took : goal.returns-in-Gone-clause-took
returns-in-Gone-clause-took g c =
    let after = token_of c.self.inside.dest c.receive.new.self c.self.inside.hand c.self.inside.ended in
    subst (λ (h : Held). HasNone h Closed after) c.self.view_is (gone_then c.self.inside.dest c.self.inside.«end» c.receive.new.self c.self.inside.hand c.self.inside.ended (sym c.if-is_some.ensures) c.if-self.false c.in-Gone.ensures.received)
