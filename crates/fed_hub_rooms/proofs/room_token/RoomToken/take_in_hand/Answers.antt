use Rattle.std.proofs.Common.{[], Some, subst}
use Rattle.fed_hub_rooms.specs.RoomHeld.{RoomHeld}
use Rattle.fed_hub_rooms.specs.Turns.{GoesOn}
use Rattle.fed_hub_rooms.proofs.Gifts.{token_of, came}
use Rattle.fed_hub_rooms.proofs.room_token.RoomToken.take_in_hand.Goals as goal

pub returns-in-Message-clause-goes_on : goal.returns-in-Message-clause-goes_on
returns-in-Message-clause-goes_on g c =
    let t = c.self.inside in
    subst (λ (h : RoomHeld). GoesOn [] h (token_of t.room c.receive.new.self (Some c.in-Message.event) t.given.items)) c.self.view_is
    (came t.room t.end c.receive.new.self t.hand t.given.items c.in-Message.event c.in-Message.ensures.received.0)
