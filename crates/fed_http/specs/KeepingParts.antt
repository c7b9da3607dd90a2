-- What the steps of a reader come to.
use Rattle.std.specs.Prelude.{◌≡◌, ◌≢◌, ℕ, ◌+◌, ◌<◌, ◌≤◌, List, [], ◌++◌, length, take, drop, min, ◌⊎◌, ◌-◌, Some, vec_len, vec_capacity, Bool, true, false, ⊤}
use Rattle.httparse.specs.declared.spans.HeaderSpan.{HeaderSpan}
use Rattle.fed_http.specs.Limits.{max_head, max_body}
use Rattle.fed_http.specs.Head.{Head, ReadsHead, IsWithinLimits, IsFinal, head_framing, message_of, print_head}
use Rattle.fed_http.specs.HeadParts.{IsHeadAt}
use Rattle.fed_http.specs.Unfinished.{IsUnfinishedHead}
use Rattle.fed_http.specs.Faults.{IsFault}
use Rattle.fed_http.specs.Waiting.{IsWaiting}
use Rattle.fed_http.specs.Text.{HasNoText}
use Rattle.fed_http.specs.Keeping.{Kept, IsKept}
use Rattle.fed_http.specs.declared.fault.HttpFault.{HttpFault}
use Rattle.fed_http.specs.declared.fault.HttpFault.TheVariants.{Memory}
use Rattle.fed_http.specs.declared.framing.Framing.{Framing}
use Rattle.fed_http.specs.declared.framing.Framing.TheVariants.{NoBody, Fixed, Chunked}
use Rattle.fed_http.specs.declared.head.HeadSpans.{HeadSpans}
use Rattle.fed_http.specs.declared.opening.Opening.{Opening}
use Rattle.fed_http.specs.declared.message.Kind.{Kind}
use Rattle.fed_http.specs.declared.message.Message.{Message}
use Rattle.fed_http.specs.declared.place.Place.{Place}
use Rattle.fed_http.specs.declared.place.Place.TheVariants.{InHead, InBody, InLine, InData, BehindData, BehindReturn, InTrailer, Ended}
use Rattle.fed_http.specs.declared.state.State.{State}

-- ---- the head

-- the first bytes are a head whose body is framed so
pub record IsFramedHead (kind : Kind) (bytes : List ℕ) (headers : List HeaderSpan) (found : HeadSpans) (framing : Framing) (h : Head) : Type 0 where
  pub at : IsHeadAt kind (take max_head bytes) headers found h
  pub final : IsFinal h
  pub framed : head_framing h ≡ Some framing
  pub fits : found.len ≤ length bytes

abbrev pub IsFramedAt : Kind → List ℕ → List HeaderSpan → HeadSpans → Framing → Type 0
IsFramedAt kind bytes headers found framing = (h : Head) × IsFramedHead kind bytes headers found framing h

-- the bytes are the beginning of a head
pub record LacksHead (kind : Kind) (bytes : List ℕ) : Type 0 where
  pub few : length bytes < max_head
  pub unfinished : IsUnfinishedHead kind bytes

-- the first bytes are a head, and this is its message
pub record IsOpeningAt (kind : Kind) (bytes : List ℕ) (found : Opening) : Type 0 where
  pub head : Head
  pub reads : ReadsHead kind bytes head (drop found.len bytes)
  pub within : IsWithinLimits head
  pub final : IsFinal head
  pub framed : head_framing head ≡ Some found.framing
  pub len : found.len ≡ length (print_head head)
  pub message : found.message ≡ message_of head []

-- it is the message of each head that is there
abbrev pub IsMessageOf : Kind → List ℕ → List HeaderSpan → HeadSpans → Message → Type 0
IsMessageOf kind bytes headers found m = (h : Head) → IsHeadAt kind bytes headers found h → m ≡ message_of h []

-- ---- the state

abbrev pub kept_of : State → Kept
kept_of s = record { place = s.place; at = s.at; head = s.head; text = s.text.items; start = s.start; body = s.body.items }

-- it is kept of some bytes
abbrev pub IsSound : Kept → Type 0
IsSound k = ∥ ((kind : Kind) × ((bytes : List ℕ) × IsKept kind k bytes)) ∥₁

abbrev pub IsSoundFor : Kind → Kept → Type 0
IsSoundFor kind k = ∥ ((bytes : List ℕ) × IsKept kind k bytes) ∥₁

-- what a reader keeps of a message that has not ended; and nothing, nor memory for it, once it has failed
pub record IsReading (kind : Kind) (s : State) (failed : Bool) : Type 0 where
  pub sound : failed ≡ false → (bytes : List ℕ) × (IsKept kind (kept_of s) bytes × HasNoText kind bytes)
  pub unended : failed ≡ false → s.place ≢ Ended
  pub head : failed ≡ true → s.head ≡ 0
  pub text : failed ≡ true → s.text.items ≡ []
  pub body : failed ≡ true → s.body.items ≡ []
  pub no_text_room : failed ≡ true → vec_capacity s.text ≡ 0
  pub no_body_room : failed ≡ true → vec_capacity s.body ≡ 0

-- there is memory for what so many bytes bring to the text
abbrev pub HasTextRoom : State → ℕ → Type 0
HasTextRoom s more = min (vec_len s.text + more) max_head ≤ vec_capacity s.text

-- there is memory for what so many bytes bring to a body in chunks
abbrev pub HasBodyRoom : State → ℕ → Type 0
HasBodyRoom s more = min (vec_len s.body + more) max_body ≤ vec_capacity s.body

-- there is memory for what so many bytes bring at this place
abbrev pub HasRoomAt : Place → State → ℕ → Type 0
HasRoomAt InHead s more = ⊤
HasRoomAt (InBody left) s more = vec_len s.body + min left more ≤ vec_capacity s.body
HasRoomAt InLine s more = HasTextRoom s more × HasBodyRoom s more
HasRoomAt (InData left) s more = HasTextRoom s more × HasBodyRoom s more
HasRoomAt BehindData s more = HasTextRoom s more × HasBodyRoom s more
HasRoomAt BehindReturn s more = HasTextRoom s more × HasBodyRoom s more
HasRoomAt InTrailer s more = HasTextRoom s more
HasRoomAt Ended s more = ⊤

-- the first bytes of these were taken
pub record Stepped (old new : State) (rest : List ℕ) (taken : ℕ) : Type 0 where
  pub within : taken ≤ length rest
  pub some : 0 < length rest → 0 < taken
  pub begun : new.place ≢ InHead
  pub room : HasRoomAt new.place new (length rest - taken)
  pub kept : (kind : Kind) (bytes : List ℕ) → IsKept kind (kept_of old) bytes → IsKept kind (kept_of new) (bytes ++ take taken rest)
  pub waits : (kind : Kind) (bytes : List ℕ) → IsKept kind (kept_of old) bytes → new.place ≢ Ended → IsWaiting kind (bytes ++ take taken rest)

-- with them comes a fault
pub record StepFails (old : State) (rest : List ℕ) (fault : HttpFault) : Type 0 where
  pub other : fault ≢ Memory
  pub is : (kind : Kind) (bytes : List ℕ) → IsKept kind (kept_of old) bytes → IsFault kind (bytes ++ rest) fault

-- the message ended with so many of these bytes
pub record BodyEnds (old new : State) (rest : List ℕ) (used : ℕ) : Type 0 where
  pub within : used ≤ length rest
  pub ended : new.place ≡ Ended
  pub kept : (kind : Kind) (bytes : List ℕ) → IsKept kind (kept_of old) bytes → IsKept kind (kept_of new) (bytes ++ take used rest)

-- it did not end with them
pub record BodyWaits (old new : State) (rest : List ℕ) : Type 0 where
  pub kept : (kind : Kind) (bytes : List ℕ) → IsKept kind (kept_of old) bytes → IsKept kind (kept_of new) (bytes ++ rest)
  pub waits : (kind : Kind) (bytes : List ℕ) → IsKept kind (kept_of old) bytes → IsWaiting kind (bytes ++ rest)
  pub unended : new.place ≢ Ended

-- the head was read, of so many of these bytes
pub record Begun (kind : Kind) (old new : State) (piece : List ℕ) (used : ℕ) : Type 0 where
  pub within : used ≤ length piece
  pub begun : new.place ≢ InHead
  pub room : HasRoomAt new.place new (length piece - used)
  pub kept : (bytes : List ℕ) → IsKept kind (kept_of old) bytes → IsKept kind (kept_of new) (bytes ++ take used piece)

-- all of the bytes were taken, and more are waited for
pub record StillWaits (kind : Kind) (old new : State) (piece : List ℕ) : Type 0 where
  pub kept : (bytes : List ℕ) → IsKept kind (kept_of old) bytes → IsKept kind (kept_of new) (bytes ++ piece)
  pub waits : (bytes : List ℕ) → IsKept kind (kept_of old) bytes → IsWaiting kind (bytes ++ piece)
  pub unended : new.place ≢ Ended

-- the message ended with so many of the bytes
pub record Ends (kind : Kind) (old new : State) (piece : List ℕ) (used : ℕ) : Type 0 where
  pub within : used ≤ length piece
  pub ended : new.place ≡ Ended
  pub kept : (bytes : List ℕ) → IsKept kind (kept_of old) bytes → IsKept kind (kept_of new) (bytes ++ take used piece)

-- a fault of the bytes, or want of memory, which leaves what is kept
pub record TakeFails (kind : Kind) (old new : State) (piece : List ℕ) (fault : HttpFault) : Type 0 where
  pub same : fault ≡ Memory → kept_of new ≡ kept_of old
  pub is : (bytes : List ℕ) → IsKept kind (kept_of old) bytes → IsFault kind (bytes ++ piece) fault

-- the head is whole in the text, and has so many bytes of it; so many more may have come with it
pub record Opens (kind : Kind) (old new : State) (more len : ℕ) : Type 0 where
  pub head : Head
  pub reads : ReadsHead kind old.text.items head (drop len old.text.items)
  pub len_is : len ≡ length (print_head head)
  pub begun : new.place ≢ InHead
  pub room : (rest : ℕ) → rest ≤ more → HasRoomAt new.place new rest
  pub kept : IsKept kind (kept_of new) (take len old.text.items)

-- where the body of a head begins that is framed so
abbrev pub IsPlaceBehind : Framing → Place → Type 0
IsPlaceBehind NoBody place = place ≡ Ended
IsPlaceBehind (Fixed n) place = ((n ≡ 0) × (place ≡ Ended)) ⊎ ((0 < n) × (n ≤ max_body) × (place ≡ InBody n))
IsPlaceBehind Chunked place = place ≡ InLine

abbrev pub IsLargeFraming : Framing → Type 0
IsLargeFraming NoBody = ⊥
IsLargeFraming (Fixed n) = max_body < n
IsLargeFraming Chunked = ⊥
