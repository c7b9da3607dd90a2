-- The reception of a hub.
use Rattle.std.proofs.Common.{◌≡◌, ℕ, List, sym, ap, ◌∙◌, subst}
use Rattle.std.specs.FinMap as finite
use Rattle.fed_replies.specs.Kept.{KeptReplies}
use Rattle.fed_inbox.specs.Inbox.{Held, InboxState, new_held}
use Rattle.fed_inbox.specs.Receiver.{ReceiverState, new_receiver, IsInboxOf}
use Rattle.fed_inbox.proofs.Deliveries.{new_is_inbox_of}
use Rattle.fed_hub.specs.Setup.{IsReceptionOf}

-- an inbox that nothing came to, by equal names
pub record IsNewBy (own : List ℕ) (servers rooms : List (List ℕ)) (held : Held) : Type 0 where
  pub new : held ≡ new_held finite.empty own servers rooms

pub new_by : (own own' : List ℕ) (servers servers' rooms rooms' : List (List ℕ)) (kept : KeptReplies) (held : Held) → own' ≡ own → servers' ≡ servers → rooms' ≡ rooms → kept ≡ finite.empty
    → held ≡ new_held kept own' servers' rooms' → IsNewBy own servers rooms held
new_by own own' servers servers' rooms rooms' kept held o s r k new = record { new = new ∙ (λ i. new_held (k i) (o i) (s i) (r i)) }

pub is_inbox_of : (own : List ℕ) (servers rooms : List (List ℕ)) (receiver : ReceiverState) (beginning : InboxState) (held : Held) → IsReceptionOf own servers rooms receiver beginning
    → IsNewBy own servers rooms held → IsInboxOf receiver held.state
is_inbox_of own servers rooms receiver beginning held of by =
    subst (λ (h : Held). IsInboxOf receiver h.state) (sym by.new) (subst (λ (x : ReceiverState). IsInboxOf x (new_held finite.empty own servers rooms).state) (sym of.receives) (new_is_inbox_of finite.empty own servers rooms))

pub begins_so : (own : List ℕ) (servers rooms : List (List ℕ)) (receiver : ReceiverState) (beginning : InboxState) (held : Held) → IsReceptionOf own servers rooms receiver beginning
    → IsNewBy own servers rooms held → held.state ≡ beginning
begins_so own servers rooms receiver beginning held of by = ap (λ (h : Held). h.state) by.new ∙ sym of.begins

pub receives_so : (own own' : List ℕ) (servers servers' rooms rooms' : List (List ℕ)) (receiver : ReceiverState) (beginning : InboxState) (made : ReceiverState) → IsReceptionOf own servers rooms receiver beginning
    → own' ≡ own → servers' ≡ servers → rooms' ≡ rooms → made ≡ new_receiver own' servers' rooms' → made ≡ receiver
receives_so own own' servers servers' rooms rooms' receiver beginning made of o s r new = new ∙ (λ i. new_receiver (o i) (s i) (r i)) ∙ sym of.receives
