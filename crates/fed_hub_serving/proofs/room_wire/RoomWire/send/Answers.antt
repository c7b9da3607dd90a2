use Rattle.std.proofs.Common.{◌≡◌, Bool, Some, sym, ap, ◌∙◌, subst}
use Rattle.std.specs.Prelude.{MatchBool}
use Rattle.fed_wires.specs.SendEnd.{with_sent, with_returned}
use Rattle.fed_hub_serving.specs.declared.end_place.EndPlace.{EndPlace}
use Rattle.fed_hub_serving.specs.declared.room_wire.RoomWire.{RoomWire}
use Rattle.fed_hub_serving.specs.Spreading.{Goes, ended, sent, back}
use Rattle.fed_hub_serving.proofs.Wiring.{some_at, none_at}
use Rattle.fed_hub_serving.proofs.room_wire.RoomWire.send.Goals as goal

pub returns-then-is_some : goal.returns-then-is_some
returns-then-is_some g c = let at = some_at c.args.self.now.ended (sym c.is_some.ensures ∙ c.if-is_some.true) in ended at.0 at.1

pub returns-then-not-goes : goal.returns-then-not-goes
returns-then-not-goes g c =
    let none = none_at c.args.self.now.ended (sym c.is_some.ensures ∙ c.if-is_some.false) in
    let end = c.args.self.now.end in
    let returned : c.goes.new.end ≡ with_returned end =
    subst (λ (b : Bool). MatchBool b (c.goes.new.end ≡ with_sent end c.args.event) (c.goes.new.end ≡ with_returned end)) c.if-not-goes.true c.goes.ensures in
    subst (λ e. Goes c.args.event c.args.place c.args.self.now (record { end = e; ended = Some c.args.place })) (sym returned) (back none)

pub returns-else-not-goes : goal.returns-else-not-goes
returns-else-not-goes g c =
    let none = none_at c.args.self.now.ended (sym c.is_some.ensures ∙ c.if-is_some.false) in
    let end = c.args.self.now.end in
    let went : c.goes.new.end ≡ with_sent end c.args.event =
    subst (λ (b : Bool). MatchBool b (c.goes.new.end ≡ with_sent end c.args.event) (c.goes.new.end ≡ with_returned end)) c.if-not-goes.false c.goes.ensures in
    subst (λ (w : RoomWire). Goes c.args.event c.args.place c.args.self.now w) (λ i. record { end = sym went i; ended = sym none i }) (sent none)
