-- How a whole request is answered.
use Rattle.std.proofs.Common.{◌≡◌, ℕ, List, false, Result, IsErrAnd, inl, inr, refl, sym, subst}
use Rattle.fed_event.specs.Keys.{Checks}
use Rattle.fed_event.specs.Checked.{CheckedEvent}
use Rattle.fed_http.specs.Message.{RequestValue}
use Rattle.fed_inbox.specs.declared.log.Accepted.{Accepted}
use Rattle.fed_inbox.specs.declared.refusal.Refusal.{Refusal}
use Rattle.fed_inbox.specs.declared.refusal.Refusal.TheVariants.{OutOfMemory}
use Rattle.fed_inbox.specs.Reply.{Answer}
use Rattle.fed_inbox.specs.Inbox.{InboxState}
use Rattle.fed_inbox.specs.Answer.{SendRequest, IsAnswered}
use Rattle.fed_inbox.specs.AnswerParts.{answer_with, fresh_with}
use Rattle.fed_inbox.specs.WholeRequest.{IsRefused, IsAnsweredWhole, no_memory, not_read}
use Rattle.fed_inbox.specs.IncomingParts.{IsReadFault}
use Rattle.fed_inbox.proofs.Steps.{answer_of_err, fresh_of_err}

-- want of memory answers any request
pub untried : (checks : Checks) (s : InboxState) (request : SendRequest) (x : Result Accepted Refusal) → IsErrAnd x (λ y. y ≡ OutOfMemory)
    → IsAnswered checks s request (answer_with x) s (fresh_with x)
untried checks s request x h = record { found = false; answer_is = answer_of_err x OutOfMemory h; new_is = refl; fresh_is = fresh_of_err x OutOfMemory h }

refusal_is : (s : InboxState) (e : Refusal) (x : Result Accepted Refusal) → IsErrAnd x (λ y. y ≡ e) → IsRefused s e (answer_with x) s (fresh_with x)
refusal_is s e x h = record { answer_is = answer_of_err x e h; new_is = refl; fresh_is = fresh_of_err x e h }

pub refused_whole : (checks : Checks) (s : InboxState) (r : RequestValue) (own : List ℕ) (e : Refusal) (x : Result Accepted Refusal) → own ≡ s.own
    → IsErrAnd x (λ y. y ≡ e) → IsReadFault own r e → IsAnsweredWhole checks s r (answer_with x) s (fresh_with x)
refused_whole checks s r own e x same h fault = by (subst (λ o. IsReadFault o r e) same fault)
  where
    by : IsReadFault s.own r e → IsAnsweredWhole checks s r (answer_with x) s (fresh_with x)
    by (inl is) = not_read e is (refusal_is s e x h)
    by (inr memory) = no_memory (refusal_is s OutOfMemory x (subst (λ o. IsErrAnd x (λ y. y ≡ o)) memory h))

-- the reply to what was tried
pub settled : (checks : Checks) (old : InboxState) (r : RequestValue) (x : Result Accepted Refusal) (answer : Answer) (tried new : InboxState) (fresh : List CheckedEvent)
    → answer ≡ answer_with x → new ≡ tried → fresh ≡ fresh_with x → IsAnsweredWhole checks old r (answer_with x) tried (fresh_with x) → IsAnsweredWhole checks old r answer new fresh
settled checks old r x answer tried new fresh a n f is =
    subst (λ g. IsAnsweredWhole checks old r answer new g) (sym f)
    (subst (λ m. IsAnsweredWhole checks old r answer m (fresh_with x)) (sym n) (subst (λ b. IsAnsweredWhole checks old r b tried (fresh_with x)) (sym a) is))
