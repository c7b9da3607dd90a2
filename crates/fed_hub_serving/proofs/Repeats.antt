-- What an inbox makes of a transaction that was taken before.
use Rattle.std.proofs.Common.{arith, ◌≡◌, ◌≢◌, ◌⊎◌, inl, inr, ℕ, List, [], ◌∷◌, true, Option, Some, None, Result, Ok, Err, refl, sym, ap, subst, ◌∙◌}
use Rattle.std.specs.FinMap as finite
use Rattle.std.proofs.lemmas.Option.{none-some}
use Rattle.json.proofs.Printed.Utf8.{IsUtf8-are_ascii}
use Rattle.serde_json.specs.Data.{Data, null}
use Rattle.fed_json.proofs.ReadBack.{read-compact_text}
use Rattle.fed_event.specs.Checked.{CheckedEvent}
use Rattle.fed_keys.specs.Keys.{Checks}
use Rattle.fed_http.specs.Message.{RequestValue, Answer}
use Rattle.fed_txn.specs.declared.fault.BodyField.TheVariants.{Body}
use Rattle.fed_txn.specs.declared.fault.TxnFault.TheVariants.{BadJson}
use Rattle.fed_txn.specs.Reading.{read_of, transaction_or_fault}
use Rattle.fed_txn.specs.Transaction.{Transaction}
use Rattle.fed_txn.proofs.Bodies.{body_of_value}
use Rattle.fed_inbox.specs.Answer.{request_of, marked_answer, marked_after, marked_fresh, IsAnswered, Steps}
use Rattle.fed_inbox.specs.Delivery.{DeliveryState, JudgedState, IsTaken, in_log, judged_of, step_unless, Settles}
use Rattle.fed_inbox.specs.Inbox.{InboxState, log_at}
use Rattle.fed_inbox.specs.Log.{LogState}
use Rattle.fed_inbox.specs.Receiver.{ReceiverState, IsInboxOf}
use Rattle.fed_inbox.specs.Reply.{accepted}
use Rattle.fed_inbox.specs.Runs.{kept_reply, reply_by}
use Rattle.fed_inbox.specs.WholeRequest.{IsAnsweredWhole}
use Rattle.fed_inbox.proofs.Cases.{RequestCases, cases}
use Rattle.fed_inbox.proofs.FoundLogs.{option_cases, put_back}
use Rattle.fed_inbox.proofs.Runs.{not_refused}
use Rattle.fed_hub_serving.specs.Answering.{IsKeptFor}

-- `null`, which is no transaction
abbrev pub nothing : List ℕ
nothing = 110 ∷ 117 ∷ 108 ∷ 108 ∷ []

nothing_is_brought : (t : Transaction) → read_of nothing ≡ Ok t → ⊥
nothing_is_brought t is =
    let reads = body_of_value nothing null (omega arith) (record { reads = (IsUtf8-are_ascii nothing refl, read-compact_text null refl refl (omega arith)); whole = refl; shallow = omega arith }) in
    let refused : transaction_or_fault (Ok null) ≡ Ok t = ap transaction_or_fault (sym reads) ∙ is in
    absurd (cc)

-- who asks with it gets the kept reply, or a refusal; the inbox stays
module _ (checks : Checks) (old : InboxState) (delivery : DeliveryState) (answer : Answer) (new : InboxState) (fresh : List CheckedEvent) (so : IsAnswered checks old (request_of delivery.origin delivery.txn nothing) answer new fresh) where
  abbrev Told : Answer → InboxState → Type 0
  Told a n = (n ≡ old) × (a.status ≡ 200 → IsKeptFor old delivery a)

  of_case : (a : Answer) (n : InboxState) (f : List CheckedEvent) → RequestCases checks old (request_of delivery.origin delivery.txn nothing) a n f → Told a n
  of_case a n f (inl none) = (none.new_is, λ is. absurd (not_refused none.refusal (ap (λ (x : Answer). x.status) (sym none.answer_is) ∙ is)))
  of_case a n f (inr (inl again)) = (again.new_is, λ _. record { reply = again.reply; kept = again.kept; answer_is = again.answer_is })
  of_case a n f (inr (inr first)) = absurd (nothing_is_brought first.transaction first.read)

  told : Told (marked_answer checks old (request_of delivery.origin delivery.txn nothing) so.found) (marked_after checks old (request_of delivery.origin delivery.txn nothing) so.found)
  told = of_case _ _ (marked_fresh checks old (request_of delivery.origin delivery.txn nothing) so.found) (cases checks old (request_of delivery.origin delivery.txn nothing) so.found)

  pub stays : new ≡ old
  stays = so.new_is ∙ told.0

  pub is_kept : answer.status ≡ 200 → IsKeptFor old delivery answer
  is_kept is = subst (IsKeptFor old delivery) (sym so.answer_is) (told.1 (ap (λ (x : Answer). x.status) (sym so.answer_is) ∙ is))

-- whatever a transaction comes to, the kept reply is the answer to it, and the inbox stays
module _ (old : InboxState) (judged : JudgedState) where
  in_its_log : (reply : List ℕ) → kept_reply old judged.origin judged.txn ≡ Some reply → (o : Option LogState) → log_at judged.origin old.logs ≡ o → IsTaken old judged (accepted reply) old []
  in_its_log reply kept None none = absurd (none-some reply (ap (λ found. reply_by found judged.txn) (sym none) ∙ kept))
  in_its_log reply kept (Some log) there =
      let is : finite.get log.replies judged.txn ≡ Some reply = ap (λ found. reply_by found judged.txn) (sym there) ∙ kept in
      in_log log log there
      (subst (λ o. Steps log (step_unless log judged.txn judged.comes_to o) (accepted reply) log []) (sym is) (record { found = true; answer_is = refl; log_is = refl; fresh_is = refl }))
      (λ i. record { own = old.own; rooms = old.rooms; logs = sym (put_back judged.origin old.logs log there) i })

-- so it is the answer to each request that delivers it
pub repeats : (checks : Checks) (receiver : ReceiverState) (request : RequestValue) (delivery : DeliveryState) (old : InboxState) (answer : Answer) → IsInboxOf receiver old
    → Settles checks receiver request (judged_of checks receiver.rooms delivery) → IsKeptFor old delivery answer → IsAnsweredWhole checks old request answer old []
repeats checks receiver request delivery old answer server settles kept =
    subst (λ (a : Answer). IsAnsweredWhole checks old request a old []) (sym kept.answer_is)
    (settles old server (accepted kept.reply) old [] (in_its_log old (judged_of checks receiver.rooms delivery) kept.reply kept.kept (log_at delivery.origin old.logs) refl))
