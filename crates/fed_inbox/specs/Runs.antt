-- What an inbox answers to requests in turn, its state after them, and what they bring for the rooms. Beside each request stands whether
-- memory was found for it.
use Rattle.std.specs.Prelude.{◌≡◌, ℕ, List, [], ◌∷◌, ◌++◌, ◌⊎◌, Bool, true, false, Option, None, Some, Ok}
use Rattle.std.specs.FinMap as finite
use Rattle.fed_event.specs.Names.{is_one_of}
use Rattle.fed_event.specs.Fields.{room_id_of}
use Rattle.fed_event.specs.Keys.{Checks}
use Rattle.fed_event.specs.Checked.{CheckedEvent, IsCheckedUnder}
use Rattle.fed_txn.specs.Reading.{read_of}
use Rattle.fed_txn.specs.Transaction.{Transaction}
use Rattle.fed_inbox.specs.declared.refusal.Refusal.{Refusal}
use Rattle.fed_inbox.specs.declared.refusal.Refusal.TheVariants.{BodyTooLarge, NotJson, NotCanonical, BadSignature, OriginDiffers, OutOfMemory}
use Rattle.fed_inbox.specs.Reply.{Answer, accepted, refused}
use Rattle.fed_inbox.specs.Log.{LogState}
use Rattle.fed_inbox.specs.Taking.{taking_of}
use Rattle.fed_inbox.specs.Inbox.{InboxState, log_at, taken_of, taken_edus_of}
use Rattle.fed_inbox.specs.Answer.{SendRequest, marked_answer, marked_after, marked_fresh}

-- a request, and whether memory was found for it
abbrev pub MarkedRequest : Type 0
MarkedRequest = SendRequest × Bool

abbrev pub reply_by : Option LogState → List ℕ → Option (List ℕ)
reply_by None txn = None
reply_by (Some log) txn = finite.get log.replies txn

-- the reply that is kept for a transaction of an origin
abbrev pub kept_reply : InboxState → List ℕ → List ℕ → Option (List ℕ)
kept_reply inbox origin txn = reply_by (log_at origin inbox.logs) txn

-- ---- by the keys that check signatures

module _ (checks : Checks) where
  -- the answers, in order
  abbrev pub answers : InboxState → List MarkedRequest → List Answer
  answers inbox [] = []
  answers inbox (one ∷ later) = marked_answer checks inbox one.0 one.1 ∷ answers (marked_after checks inbox one.0 one.1) later

  -- the state after them
  abbrev pub after_all : InboxState → List MarkedRequest → InboxState
  after_all inbox [] = inbox
  after_all inbox (one ∷ later) = after_all (marked_after checks inbox one.0 one.1) later

  -- the events that they bring for the rooms, in order
  abbrev pub fresh_all : InboxState → List MarkedRequest → List CheckedEvent
  fresh_all inbox [] = []
  fresh_all inbox (one ∷ later) = marked_fresh checks inbox one.0 one.1 ++ fresh_all (marked_after checks inbox one.0 one.1) later

  -- some request among these, of this origin and number, was answered so
  pub record WasAnswered (inbox : InboxState) (asked : List MarkedRequest) (origin txn : List ℕ) (answer : Answer) : Type 0 where
    pub earlier : List MarkedRequest
    pub one : MarkedRequest
    pub later : List MarkedRequest
    pub among : asked ≡ earlier ++ one ∷ later
    pub origin_is : one.0.origin ≡ origin
    pub txn_is : one.0.txn ≡ txn
    pub answer_is : marked_answer checks (after_all inbox earlier) one.0 one.1 ≡ answer

  -- a request's first 200: its body is a transaction, and all that this brings is taken
  pub record Takes (inbox : InboxState) (request : SendRequest) (found : Bool) : Type 0 where
    pub transaction : Transaction
    pub body : read_of request.body ≡ Ok transaction
    pub answer : marked_answer checks inbox request found ≡ accepted (taking_of checks inbox.rooms transaction).reply
    pub pdus : taken_of (marked_after checks inbox request found) request.origin ≡ taken_of inbox request.origin ++ (taking_of checks inbox.rooms transaction).pdus
    pub edus : taken_edus_of (marked_after checks inbox request found) request.origin ≡ taken_edus_of inbox request.origin ++ (taking_of checks inbox.rooms transaction).edus
    pub fresh : marked_fresh checks inbox request found ≡ (taking_of checks inbox.rooms transaction).fresh

  -- an event for the rooms: what these keys leave of an event that its sender's server has signed, of a room that is known
  abbrev pub IsForRooms : List (List ℕ) → CheckedEvent → Type 0
  IsForRooms rooms checked = IsCheckedUnder checks checked × (is_one_of rooms (room_id_of checked.event) ≡ true)

-- the refusals that are told before a kept reply is looked for, and want of memory
abbrev pub comes_first : Refusal → Bool
comes_first BodyTooLarge = true
comes_first NotJson = true
comes_first NotCanonical = true
comes_first BadSignature = true
comes_first OriginDiffers = true
comes_first OutOfMemory = true
comes_first refusal = false

-- the kept reply, or one of those refusals
abbrev pub IsRepeatAnswer : List ℕ → Answer → Type 0
IsRepeatAnswer reply answer = (answer ≡ accepted reply) ⊎ ((refusal : Refusal) × (comes_first refusal ≡ true) × (answer ≡ refused refusal))
