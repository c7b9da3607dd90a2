use Rattle.std.proofs.Common.{◌≡◌, ℕ, List, map, string_bytes, sym, ap, ◌∙◌, subst}
use Rattle.fed_replies.specs.Kept.{KeptReplies}
use Rattle.fed_inbox.specs.Inbox.{Held, new_held}
use Rattle.fed_inbox.specs.Receiver.{ReceiverState, new_receiver, IsInboxOf}
use Rattle.fed_inbox.proofs.Deliveries.{new_is_inbox_of}
use Rattle.fed_hub_part_tests.proofs.serving.both.Goals as goal

of_one_server : (kept : KeptReplies) (own own' : List ℕ) (servers servers' rooms rooms' : List (List ℕ)) (receiver : ReceiverState) (held : Held) → own' ≡ own → servers' ≡ servers → rooms' ≡ rooms
    → receiver ≡ new_receiver own' servers' rooms' → held ≡ new_held kept own servers rooms → IsInboxOf receiver held.state
of_one_server kept own own' servers servers' rooms rooms' receiver held o s r is new =
    let same : receiver ≡ new_receiver own servers rooms = is ∙ (λ i. new_receiver (o i) (s i) (r i)) in
    subst (λ (h : Held). IsInboxOf receiver h.state) (sym new) (subst (λ (x : ReceiverState). IsInboxOf x (new_held kept own servers rooms).state) (sym same) (new_is_inbox_of kept own servers rooms))

pub returns : goal.returns
returns c =
    of_one_server _ c.args.own _ c.args.servers _ _ _ _ _ c.in_ok-name.ensures c.in_ok-list.ensures (ap (map string_bytes) (c.new.ensures.items ∙ sym c.new-3.ensures.items)) c.in_ok-receiver.ensures c.in_ok-inbox.ensures
