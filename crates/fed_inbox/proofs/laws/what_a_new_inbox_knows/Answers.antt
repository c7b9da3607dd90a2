use Rattle.std.proofs.Common.{ℕ, List, [], Bool, true, false, None, Some, if◌then◌else◌, ◌≡◌, refl, ap, ◌∙◌}
use Rattle.std.specs.FinMap as finite
use Rattle.fed_replies.specs.Kept.{KeptReplies, reply_at}
use Rattle.fed_replies.proofs.Kept.{none_of_empty}
use Rattle.fed_inbox.specs.Inbox.{new_log}
use Rattle.fed_inbox.specs.LookUps.{is_taken_from, log_of_new, reply_of_new}
use Rattle.fed_inbox.specs.Runs.{reply_by}
use Rattle.fed_inbox.proofs.LookUps.{logs_listed, rooms_known}
use Rattle.fed_inbox.proofs.laws.what_a_new_inbox_knows.Goals as goal

reply_of : (kept : KeptReplies) (own : List ℕ) (servers : List (List ℕ)) (origin txn : List ℕ) → reply_by (log_of_new kept own servers origin) txn ≡ reply_of_new kept own servers origin txn
reply_of kept own servers origin txn =
    elim (is_taken_from own servers origin) as (λ (b : Bool). reply_by (if b then Some (new_log kept origin) else None) txn ≡ (if b then reply_at kept origin txn else None))
    [ true ↦ refl | false ↦ refl ]

nothing_of : (own : List ℕ) (servers : List (List ℕ)) (origin txn : List ℕ) → reply_of_new finite.empty own servers origin txn ≡ None
nothing_of own servers origin txn =
    elim (is_taken_from own servers origin) as (λ (b : Bool). (if b then reply_at finite.empty origin txn else None) ≡ None)
    [ true ↦ none_of_empty origin txn | false ↦ refl ]

pub returns-clause-logs : goal.returns-clause-logs
returns-clause-logs c kept own servers rooms server = logs_listed kept own servers server

pub returns-clause-rooms : goal.returns-clause-rooms
returns-clause-rooms c kept own servers rooms room = rooms_known [] rooms room

pub returns-clause-replies : goal.returns-clause-replies
returns-clause-replies c kept own servers rooms origin txn = ap (λ o. reply_by o txn) (logs_listed kept own servers origin) ∙ reply_of kept own servers origin txn

pub returns-clause-none : goal.returns-clause-none
returns-clause-none c own servers rooms origin txn =
    ap (λ o. reply_by o txn) (logs_listed finite.empty own servers origin) ∙ reply_of finite.empty own servers origin txn ∙ nothing_of own servers origin txn
