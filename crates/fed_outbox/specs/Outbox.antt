-- The outbox of a destination: of what was accepted, the part that was settled, the transaction that waits for its answer, and what waits
-- to be sent; the number of the newest transaction; how often in a row it failed and when it is due again. Each call is one of the
-- functions below. (Matrix, Server-Server API, "Transactions": a sender keeps a transaction, and sends it again, until it is answered.)
use Rattle.std.specs.Prelude.{ℕ, ◌+◌, ◌-◌, ◌*◌, ◌^◌, min, Bool, true, false, not, ◌==◌, ◌&&◌, nat_le, if◌then◌else◌, List, [], ◌∷◌, ◌++◌, length, take, drop, Option, Some, None, refl}
use Rattle.std.specs.Coded.{Coded, code_by, coded×, coded_ℕ, coded_bool, coded_list, coded_option}
use Rattle.serde_json.specs.Data.{Data}
use Rattle.fed_json.specs.Code.{coded_data}
use Rattle.fed_event.specs.Checked.{CheckedEvent, checked_code}
use Rattle.fed_journal.specs.Place.{PlaceValue}
use Rattle.fed_journal.specs.declared.parcel.Load.{Load}
use Rattle.fed_journal.specs.declared.parcel.Load.TheVariants.{Event, Edu, End}
use Rattle.fed_outbox.specs.Transaction.{TransactionValue, transaction_code}

pub record OutboxState : Type 0 where
  pub dest : ℕ
  pub settled : List CheckedEvent
  pub settled_edus : List Data
  pub unanswered : Option TransactionValue
  pub waiting : List CheckedEvent
  pub waiting_edus : List Data
  -- the number of the newest transaction, 0 before the first
  pub last : ℕ
  -- failures of the unanswered transaction in a row, counted up to 13
  pub failures : ℕ
  -- when the unanswered transaction is to be sent, 0 where there is none
  pub due_at : ℕ
  -- an end was accepted
  pub has_end : Bool

-- the events, and the EDUs, of the transaction that waits for its answer
abbrev pub unanswered_pdus : Option TransactionValue → List CheckedEvent
unanswered_pdus None = []
unanswered_pdus (Some t) = t.pdus

abbrev pub unanswered_edus : Option TransactionValue → List Data
unanswered_edus None = []
unanswered_edus (Some t) = t.edus

-- all events, and all EDUs, that were accepted, in order: the settled ones, then those unanswered, then those that wait
abbrev pub accepted : OutboxState → List CheckedEvent
accepted o = o.settled ++ (unanswered_pdus o.unanswered ++ o.waiting)

abbrev pub accepted_edus : OutboxState → List Data
accepted_edus o = o.settled_edus ++ (unanswered_edus o.unanswered ++ o.waiting_edus)

-- how many parcels were accepted, and the number of the next one
abbrev pub accepted_count : OutboxState → ℕ
accepted_count o = length (accepted o) + length (accepted_edus o) + (if o.has_end then 1 else 0)

abbrev pub expected : OutboxState → ℕ
expected o = accepted_count o + 1

-- an outbox that has accepted nothing
abbrev pub new_outbox : ℕ → OutboxState
new_outbox dest = record {
  dest = dest;
  settled = [];
  settled_edus = [];
  unanswered = None;
  waiting = [];
  waiting_edus = [];
  last = 0;
  failures = 0;
  due_at = 0;
  has_end = false;
}

-- the parcel at this place may be accepted: it is for this destination and comes next, and no end was accepted
abbrev pub is_next : OutboxState → PlaceValue → Bool
is_next o place = (place.dest == o.dest) && (place.number == expected o)

abbrev pub fits : OutboxState → PlaceValue → Bool
fits o place = not o.has_end && is_next o place

-- with what a parcel holds
abbrev pub with_load : OutboxState → Load → OutboxState
with_load o (Event event) = record o { waiting = o.waiting ++ event ∷ [] }
with_load o (Edu edu) = record o { waiting_edus = o.waiting_edus ++ edu ∷ [] }
with_load o End = record o { has_end = true }

abbrev pub is_empty : {A : Type 0} → List A → Bool
is_empty [] = true
is_empty (x ∷ xs) = false

abbrev pub is_unanswered : Option TransactionValue → Bool
is_unanswered None = false
is_unanswered (Some t) = true

-- a cut makes a transaction: none waits for its answer, and something waits to be sent
abbrev pub can_cut : OutboxState → Bool
can_cut o = not (is_unanswered o.unanswered) && not (is_empty o.waiting && is_empty o.waiting_edus)

-- the transaction of the first at most 50 events and the first at most 100 EDUs that wait
abbrev pub next_transaction : OutboxState → ℕ → TransactionValue
next_transaction o now = record { number = o.last + 1; at_ms = now; pdus = take 50 o.waiting; edus = take 100 o.waiting_edus }

abbrev pub cut : OutboxState → ℕ → OutboxState
cut o now =
    if can_cut o
    then record o {
      unanswered = Some (next_transaction o now);
      waiting = drop 50 o.waiting;
      waiting_edus = drop 100 o.waiting_edus;
      last = o.last + 1;
      due_at = now;
    }
    else o

-- the unanswered transaction is to be sent now
abbrev pub is_due : OutboxState → ℕ → Bool
is_due o now = is_unanswered o.unanswered && nat_le o.due_at now

-- the transaction of this number is the unanswered one
abbrev pub has_number : Option TransactionValue → ℕ → Bool
has_number None n = false
has_number (Some t) n = t.number == n

-- how long to wait after so many failures in a row, in milliseconds: doubled each time from a second up to an hour (this project's
-- choice: the standard asks for a back-off and gives no figures)
abbrev pub delay : ℕ → ℕ
delay failures = min (1000 * 2 ^ (failures - 1)) 3600000

abbrev pub one_failure_more : OutboxState → ℕ → OutboxState
one_failure_more o now = record o { failures = min (o.failures + 1) 13; due_at = now + delay (min (o.failures + 1) 13) }

-- the sending of transaction n failed; nothing changes where another one is unanswered
abbrev pub failed : OutboxState → ℕ → ℕ → OutboxState
failed o n now = if has_number o.unanswered n then one_failure_more o now else o

-- the unanswered transaction was taken
abbrev pub taken : OutboxState → OutboxState
taken o = record o {
  settled = o.settled ++ unanswered_pdus o.unanswered;
  settled_edus = o.settled_edus ++ unanswered_edus o.unanswered;
  unanswered = None;
  failures = 0;
  due_at = 0;
}

-- transaction n was answered with this status; nothing changes where another one is unanswered
abbrev pub settle : OutboxState → ℕ → ℕ → ℕ → OutboxState
settle o n status now = if has_number o.unanswered n then (if status == 200 then taken o else one_failure_more o now) else o

-- an end was accepted, and nothing waits or is unanswered
abbrev pub is_ended : OutboxState → Bool
is_ended o = o.has_end && (not (is_unanswered o.unanswered) && (is_empty o.waiting && is_empty o.waiting_edus))

abbrev pub outbox_code : Coded OutboxState
outbox_code =
    code_by (ℕ × (List CheckedEvent × (List Data × (Option TransactionValue × (List CheckedEvent × (List Data × (ℕ × (ℕ × (ℕ × Bool)))))))))
    (coded× coded_ℕ (coded× (coded_list checked_code) (coded× (coded_list coded_data) (coded× (coded_option transaction_code)
    (coded× (coded_list checked_code) (coded× (coded_list coded_data) (coded× coded_ℕ (coded× coded_ℕ (coded× coded_ℕ coded_bool)))))))))
    (λ o. (o.dest, (o.settled, (o.settled_edus, (o.unanswered, (o.waiting, (o.waiting_edus, (o.last, (o.failures, (o.due_at, o.has_end))))))))))
    (λ p. record {
      dest = p.0;
      settled = p.1.0;
      settled_edus = p.1.1.0;
      unanswered = p.1.1.1.0;
      waiting = p.1.1.1.1.0;
      waiting_edus = p.1.1.1.1.1.0;
      last = p.1.1.1.1.1.1.0;
      failures = p.1.1.1.1.1.1.1.0;
      due_at = p.1.1.1.1.1.1.1.1.0;
      has_end = p.1.1.1.1.1.1.1.1.1;
    })
    (λ _. refl)
