-- Whole requests that an inbox answered one after another (Server-Server API, "Transactions").
use Rattle.std.specs.Prelude.{◌≡◌, ℕ, List, [], ◌∷◌, ◌++◌, Ok}
use Rattle.std.specs.List.{flat_map, Contains}
use Rattle.fed_event.specs.Keys.{Checks}
use Rattle.fed_event.specs.Checked.{CheckedEvent}
use Rattle.fed_http.specs.Message.{RequestValue}
use Rattle.fed_txn.specs.Reading.{read_of}
use Rattle.fed_txn.specs.Transaction.{Transaction}
use Rattle.fed_inbox.specs.Reply.{Answer, accepted}
use Rattle.fed_inbox.specs.Taking.{taking_of}
use Rattle.fed_inbox.specs.Inbox.{InboxState, taken_of, taken_edus_of}
use Rattle.fed_inbox.specs.WholeRequest.{Heading, IsReadAs, IsAnsweredWhole}

-- a request, the reply to it, and the events that it brought for the rooms
pub record Point : Type 0 where
  pub request : RequestValue
  pub reply : Answer
  pub fresh : List CheckedEvent

-- From the state `begin` these requests were answered one after another, each over what was kept before it, and this is the state then.
pub data IsHistory (checks : Checks) (begin : InboxState) : List Point → InboxState → Type 0 where
  begun : IsHistory checks begin [] begin
  one_more : (points : List Point) (old : InboxState) (point : Point) (new : InboxState) → IsHistory checks begin points old
      → IsAnsweredWhole checks old point.request point.reply new point.fresh → IsHistory checks begin (points ++ point ∷ []) new

-- all events that they brought for the rooms, in order
abbrev pub brought : List Point → List CheckedEvent
brought points = flat_map (λ (point : Point). point.fresh) points

-- A first 200 to a transaction of the origin: the body is a transaction, and all that this brings is taken.
pub record IsFirst (checks : Checks) (old : InboxState) (origin bytes : List ℕ) (reply : Answer) (new : InboxState) (fresh : List CheckedEvent) : Type 0 where
  pub transaction : Transaction
  pub body : read_of bytes ≡ Ok transaction
  pub answer : reply ≡ accepted (taking_of checks old.rooms transaction).reply
  pub pdus : taken_of new origin ≡ taken_of old origin ++ (taking_of checks old.rooms transaction).pdus
  pub edus : taken_edus_of new origin ≡ taken_edus_of old origin ++ (taking_of checks old.rooms transaction).edus
  pub rooms : fresh ≡ (taking_of checks old.rooms transaction).fresh

-- one of the requests: it was answered in the state `old` that those before it led to, and those after it began in the state `new`
pub record IsAmong (checks : Checks) (begin : InboxState) (points : List Point) (end : InboxState) (point : Point) : Type 0 where
  pub earlier : List Point
  pub later : List Point
  pub old : InboxState
  pub new : InboxState
  pub among : points ≡ earlier ++ point ∷ later
  pub before : IsHistory checks begin earlier old
  pub here : IsAnsweredWhole checks old point.request point.reply new point.fresh
  pub after : IsHistory checks new later end

-- some request among these to the server `own`, of this origin and transaction id, was answered so
pub record WasAnsweredWhole (own : List ℕ) (points : List Point) (origin txn : List ℕ) (answer : Answer) : Type 0 where
  pub point : Point
  pub among : Contains points point
  pub heading : Heading
  pub reads : IsReadAs own point.request (Ok heading)
  pub origin_is : heading.header.origin ≡ origin
  pub txn_is : heading.txn ≡ txn
  pub answer_is : point.reply ≡ answer
