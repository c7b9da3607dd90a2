-- What a step keeps, in the state of a reader.
use Rattle.std.proofs.Common.{arith, ◌≡◌, ◌≢◌, ℕ, ◌+◌, ◌-◌, ◌<◌, ◌≤◌, List, [], ◌∷◌, ◌++◌, length, take, get_or, replicate, refl, sym, ap, subst, ◌∙◌, append-nil, length-append}
use Rattle.std.specs.Prelude.{min, vec_len, vec_capacity}
use Rattle.std.proofs.lemmas.List.{length-take}
use Rattle.httparse.specs.Ascii.{crlf_bytes}
use Rattle.fed_http.specs.Waiting.{IsWaiting}
use Rattle.fed_http.specs.Keeping.{Kept, IsKept, IsKeptAt, IsInBody, IsInLine, IsInChunk}
use Rattle.fed_http.specs.KeepingParts.{kept_of, HasRoomAt, HasTextRoom, HasBodyRoom, Stepped, StepFails}
use Rattle.fed_http.specs.declared.fault.HttpFault.TheVariants.{BadChunk}
use Rattle.fed_http.specs.declared.message.Kind.{Kind}
use Rattle.fed_http.specs.declared.place.Place.{Place}
use Rattle.fed_http.specs.declared.place.Place.TheVariants.{InHead, InBody, InLine, InData, BehindData, BehindReturn, Ended}
use Rattle.fed_http.specs.declared.state.State.{State}
use Rattle.fed_http.specs.declared.text_place.TextPlace.TheVariants.{Size}
use Rattle.fed_http.proofs.Keeping.{body_waits, chunk_waits}
use Rattle.fed_http.proofs.BodySteps.{body_on, body_ends, data_on, return_on, feed_on, return_bad, feed_bad}

-- ---- places

pub at_place : (p : Place) (kind : Kind) (k : Kept) (bytes : List ℕ) → k.place ≡ p → IsKept kind k bytes → IsKeptAt p kind k bytes
at_place p kind k bytes at kept = subst (λ q. IsKeptAt q kind k bytes) at kept

pub of_place : (p : Place) (kind : Kind) (k : Kept) (bytes : List ℕ) → k.place ≡ p → IsKeptAt p kind k bytes → IsKept kind k bytes
of_place p kind k bytes at kept = subst (λ q. IsKeptAt q kind k bytes) (sym at) kept

pub room_of : (p : Place) (s : State) (more : ℕ) → s.place ≡ p → HasRoomAt s.place s more → HasRoomAt p s more
room_of p s more at room = subst (λ q. HasRoomAt q s more) at room

pub as_room : (p : Place) (s : State) (more : ℕ) → s.place ≡ p → HasRoomAt p s more → HasRoomAt s.place s more
as_room p s more at room = subst (λ q. HasRoomAt q s more) (sym at) room

pub begun_at : (p q : Place) → q ≡ p → p ≢ InHead → q ≢ InHead
begun_at p q is other e = other (sym is ∙ e)

-- what a step leaves of the state
pub record SameStart (s t : State) : Type 0 where
  pub head : t.head ≡ s.head
  pub start : t.start ≡ s.start

pub record SameText (s t : State) : Type 0 where
  pub items : t.text.items ≡ s.text.items
  pub len : vec_len t.text ≡ vec_len s.text
  pub cap : vec_capacity t.text ≡ vec_capacity s.text

pub record SameBody (s t : State) : Type 0 where
  pub items : t.body.items ≡ s.body.items
  pub len : vec_len t.body ≡ vec_len s.body
  pub cap : vec_capacity t.body ≡ vec_capacity s.body

-- bytes were appended
pub record MoreBody (s t : State) (more : List ℕ) : Type 0 where
  pub items : t.body.items ≡ s.body.items ++ more
  pub len : vec_len t.body ≡ vec_len s.body + length more
  pub cap : vec_capacity s.body ≤ vec_capacity t.body

pub record MoreText (s : State) (all : List ℕ) (count room : ℕ) (more : List ℕ) : Type 0 where
  pub items : all ≡ s.text.items ++ more
  pub len : count ≡ vec_len s.text + length more
  pub cap : vec_capacity s.text ≤ room

pub length_taken : (taken : ℕ) (rest : List ℕ) → taken ≤ length rest → length (take taken rest) ≡ taken
length_taken taken rest short = omega (arith, length-take taken rest)

-- ---- nothing came

pub still : (s : State) (rest : List ℕ) → length rest < 1 → s.place ≢ InHead → HasRoomAt s.place s (length rest) → ((kind : Kind) (bytes : List ℕ) → IsKept kind (kept_of s) bytes → IsWaiting kind bytes) → Stepped s s rest 0
still s rest few begun room waits =
    let same : length rest ≡ length rest - 0 = omega arith in
    record {
      within = omega arith;
      some = λ more. omega arith;
      begun = begun;
      room = subst (HasRoomAt s.place s) same room;
      kept = λ kind bytes x. subst (IsKept kind (kept_of s)) (sym (append-nil bytes)) x;
      waits = λ kind bytes x unended. subst (IsWaiting kind) (sym (append-nil bytes)) (waits kind bytes x);
    }

return_waits : (kind : Kind) (k : Kept) (bytes : List ℕ) → k.place ≡ BehindData → IsKept kind k bytes → IsWaiting kind bytes
return_waits kind k bytes at kept = chunk_waits kind k bytes 0 [] crlf_bytes (at_place BehindData kind k bytes at kept) refl (omega arith)

feed_waits : (kind : Kind) (k : Kept) (bytes : List ℕ) → k.place ≡ BehindReturn → IsKept kind k bytes → IsWaiting kind bytes
feed_waits kind k bytes at kept = chunk_waits kind k bytes 0 (13 ∷ []) (10 ∷ []) (at_place BehindReturn kind k bytes at kept) refl (omega arith)

pub still_behind_data : (s : State) (rest : List ℕ) → s.place ≡ BehindData → length rest < 1 → HasRoomAt s.place s (length rest) → Stepped s s rest 0
still_behind_data s rest at few room = still s rest few (begun_at BehindData s.place at (λ e. cc)) room (λ kind bytes kept. return_waits kind (kept_of s) bytes at kept)

pub still_behind_return : (s : State) (rest : List ℕ) → s.place ≡ BehindReturn → length rest < 1 → HasRoomAt s.place s (length rest) → Stepped s s rest 0
still_behind_return s rest at few room = still s rest few (begun_at BehindReturn s.place at (λ e. cc)) room (λ kind bytes kept. feed_waits kind (kept_of s) bytes at kept)

-- ---- one byte

first_is : (b : ℕ) (rest : List ℕ) → 0 < length rest → get_or rest 0 0 ≡ b → b ∷ [] ≡ take 1 rest
first_is b [] some is = absurd (omega arith)
first_is b (x ∷ rest) some is = ap (λ v. v ∷ []) (sym is)

pub returned : (s t : State) (rest : List ℕ) → s.place ≡ BehindData → t.place ≡ BehindReturn → SameStart s t → SameText s t → SameBody s t → 0 < length rest → get_or rest 0 0 ≡ 13 → HasRoomAt s.place s (length rest) → Stepped s t rest 1
returned s t rest at now start text body some is room =
    let first = first_is 13 rest some is in
    let had = room_of BehindData s (length rest) at room in
    let kept : (kind : Kind) (bytes : List ℕ) → IsKept kind (kept_of s) bytes → IsKept kind (kept_of t) (bytes ++ take 1 rest) =
    (λ kind bytes x.
    let here = return_on kind (kept_of s) (kept_of t) bytes (at_place BehindData kind (kept_of s) bytes at x) start.start start.head text.items body.items in
    of_place BehindReturn kind (kept_of t) (bytes ++ take 1 rest) now (subst (λ v. IsInChunk kind (kept_of t) (bytes ++ v) 0 (13 ∷ [])) first here)) in
    record {
      within = omega (arith, some);
      some = λ more. omega arith;
      begun = begun_at BehindReturn t.place now (λ e. cc);
      room = as_room BehindReturn t (length rest - 1) now (omega (arith, had.0, text.len, text.cap), omega (arith, had.1, body.len, body.cap));
      kept = kept;
      waits = λ kind bytes x unended. feed_waits kind (kept_of t) (bytes ++ take 1 rest) now (kept kind bytes x);
    }

pub fed : (s t : State) (rest : List ℕ) → s.place ≡ BehindReturn → t.place ≡ InLine → t.at ≡ Size 0 → SameStart s t → t.text.items ≡ [] → vec_len t.text ≤ vec_len s.text → vec_capacity t.text ≡ vec_capacity s.text → SameBody s t → 0 < length rest
    → get_or rest 0 0 ≡ 10 → HasRoomAt s.place s (length rest) → Stepped s t rest 1
fed s t rest at now begins start none len cap body some is room =
    let first = first_is 10 rest some is in
    let had = room_of BehindReturn s (length rest) at room in
    let both : (kind : Kind) (bytes : List ℕ) → IsKept kind (kept_of s) bytes → IsInLine kind (kept_of t) (bytes ++ take 1 rest) × IsWaiting kind (bytes ++ take 1 rest) =
    (λ kind bytes x.
    let here = feed_on kind (kept_of s) (kept_of t) bytes (at_place BehindReturn kind (kept_of s) bytes at x) start.start start.head none body.items begins in
    subst (λ v. IsInLine kind (kept_of t) (bytes ++ v) × IsWaiting kind (bytes ++ v)) first here) in
    record {
      within = omega (arith, some);
      some = λ more. omega arith;
      begun = begun_at InLine t.place now (λ e. cc);
      room = as_room InLine t (length rest - 1) now (omega (arith, had.0, len, cap), omega (arith, had.1, body.len, body.cap));
      kept = λ kind bytes x. of_place InLine kind (kept_of t) (bytes ++ take 1 rest) now (both kind bytes x).0;
      waits = λ kind bytes x unended. (both kind bytes x).1;
    }

pub not_returned : (s : State) (rest : List ℕ) → s.place ≡ BehindData → 0 < length rest → get_or rest 0 0 ≢ 13 → StepFails s rest BadChunk
not_returned s rest at some other = record { other = λ e. cc; is = λ kind bytes x. return_bad kind (kept_of s) bytes rest (at_place BehindData kind (kept_of s) bytes at x) some other }

pub not_fed : (s : State) (rest : List ℕ) → s.place ≡ BehindReturn → 0 < length rest → get_or rest 0 0 ≢ 10 → StepFails s rest BadChunk
not_fed s rest at some other = record { other = λ e. cc; is = λ kind bytes x. feed_bad kind (kept_of s) bytes rest (at_place BehindReturn kind (kept_of s) bytes at x) some other }

-- ---- a body of a known length, and the data of a chunk

pub body_taken : (s t : State) (rest : List ℕ) (left taken : ℕ) → s.place ≡ InBody left → t.place ≡ InBody (left - taken) → taken ≤ left → taken ≢ left → taken ≡ min left (length rest) → SameStart s t → SameText s t → MoreBody s t (take taken rest)
    → HasRoomAt s.place s (length rest) → (0 < left) → Stepped s t rest taken
body_taken s t rest left taken at now small other is start text body room some =
    let had : vec_len s.body + min left (length rest) ≤ vec_capacity s.body = room_of (InBody left) s (length rest) at room in
    let within : taken ≤ length rest = omega (arith, is) in
    let len = length_taken taken rest within in
    let kept : (kind : Kind) (bytes : List ℕ) → IsKept kind (kept_of s) bytes → IsInBody kind (kept_of t) (bytes ++ take taken rest) (left - taken) =
    (λ kind bytes x.
    body_on kind (kept_of s) (kept_of t) bytes (take taken rest) left (left - taken) (at_place (InBody left) kind (kept_of s) bytes at x) (omega (arith, len, small)) (omega (arith, small, other)) start.start start.head text.items body.items) in
    record {
      within = within;
      some = λ more. omega (arith, is, some, more);
      begun = begun_at (InBody (left - taken)) t.place now (λ e. cc);
      room = as_room (InBody (left - taken)) t (length rest - taken) now (omega (arith, had, is, body.len, len, body.cap));
      kept = λ kind bytes x. of_place (InBody (left - taken)) kind (kept_of t) (bytes ++ take taken rest) now (kept kind bytes x);
      waits = λ kind bytes x unended. body_waits kind (kept_of t) (bytes ++ take taken rest) (left - taken) (kept kind bytes x);
    }

pub body_ended : (s t : State) (rest : List ℕ) (left taken : ℕ) → s.place ≡ InBody left → t.place ≡ Ended → taken ≡ left → taken ≡ min left (length rest) → SameStart s t → SameText s t → MoreBody s t (take taken rest) → (0 < left) → Stepped s t rest taken
body_ended s t rest left taken at now all is start text body some =
    let within : taken ≤ length rest = omega (arith, is) in
    let len = length_taken taken rest within in
    record {
      within = within;
      some = λ more. omega (arith, all, some);
      begun = begun_at Ended t.place now (λ e. cc);
      room = as_room Ended t (length rest - taken) now tt;
      kept = λ kind bytes x.
          of_place Ended kind (kept_of t) (bytes ++ take taken rest) now
          (body_ends kind (kept_of s) (kept_of t) bytes (take taken rest) left (at_place (InBody left) kind (kept_of s) bytes at x) (sym all ∙ sym len) start.start start.head text.items body.items);
      waits = λ kind bytes x unended. absurd (unended now);
    }

data_kept : (s t : State) (rest : List ℕ) (left taken : ℕ) → s.place ≡ InData left → taken ≤ left → taken ≤ length rest → SameStart s t → SameText s t → MoreBody s t (take taken rest) → (kind : Kind) (bytes : List ℕ) → IsKept kind (kept_of s) bytes
    → IsInChunk kind (kept_of t) (bytes ++ take taken rest) (left - taken) []
data_kept s t rest left taken at small within start text body kind bytes x =
    data_on kind (kept_of s) (kept_of t) bytes (take taken rest) left (left - taken) (at_place (InData left) kind (kept_of s) bytes at x).0 (omega (arith, length_taken taken rest within, small)) start.start start.head text.items body.items

data_room : (s t : State) (rest : List ℕ) (taken : ℕ) → taken ≤ length rest → SameStart s t → SameText s t → MoreBody s t (take taken rest) → HasTextRoom s (length rest) × HasBodyRoom s (length rest)
    → HasTextRoom t (length rest - taken) × HasBodyRoom t (length rest - taken)
data_room s t rest taken within start text body had =
    (omega (arith, had.0, text.len, text.cap), omega (arith, had.1, body.len, body.cap, length_taken taken rest within))

pub zeros_end : (left : ℕ) → 0 < length (replicate left 0 ++ crlf_bytes)
zeros_end left = omega (arith, length-append (replicate left 0) crlf_bytes)

pub data_taken : (s t : State) (rest : List ℕ) (left taken : ℕ) → s.place ≡ InData left → t.place ≡ InData (left - taken) → taken ≤ left → taken ≢ left → taken ≡ min left (length rest) → SameStart s t → SameText s t → MoreBody s t (take taken rest)
    → HasRoomAt s.place s (length rest) → (0 < left) → Stepped s t rest taken
data_taken s t rest left taken at now small other is start text body room some =
    let within : taken ≤ length rest = omega (arith, is) in
    let later = left - taken in
    let kept = data_kept s t rest left taken at small within start text body in
    let more : 0 < later = omega (arith, small, other) in
    record {
      within = within;
      some = λ came. omega (arith, is, some, came);
      begun = begun_at (InData later) t.place now (λ e. cc);
      room = as_room (InData later) t (length rest - taken) now (data_room s t rest taken within start text body (room_of (InData left) s (length rest) at room));
      kept = λ kind bytes x. of_place (InData later) kind (kept_of t) (bytes ++ take taken rest) now (kept kind bytes x, more);
      waits = λ kind bytes x unended. chunk_waits kind (kept_of t) (bytes ++ take taken rest) later [] (replicate later 0 ++ crlf_bytes) (kept kind bytes x) refl (zeros_end later);
    }

pub data_ended : (s t : State) (rest : List ℕ) (left taken : ℕ) → s.place ≡ InData left → t.place ≡ BehindData → taken ≡ left → taken ≡ min left (length rest) → SameStart s t → SameText s t → MoreBody s t (take taken rest) → HasRoomAt s.place s (length rest) → (0 < left)
    → Stepped s t rest taken
data_ended s t rest left taken at now all is start text body room some =
    let within : taken ≤ length rest = omega (arith, is) in
    let none : left - taken ≡ 0 = omega (arith, all) in
    let kept : (kind : Kind) (bytes : List ℕ) → IsKept kind (kept_of s) bytes → IsInChunk kind (kept_of t) (bytes ++ take taken rest) 0 [] =
    (λ kind bytes x. subst (λ n. IsInChunk kind (kept_of t) (bytes ++ take taken rest) n []) none (data_kept s t rest left taken at (omega (arith, all)) within start text body kind bytes x)) in
    record {
      within = within;
      some = λ came. omega (arith, all, some);
      begun = begun_at BehindData t.place now (λ e. cc);
      room = as_room BehindData t (length rest - taken) now (data_room s t rest taken within start text body (room_of (InData left) s (length rest) at room));
      kept = λ kind bytes x. of_place BehindData kind (kept_of t) (bytes ++ take taken rest) now (kept kind bytes x);
      waits = λ kind bytes x unended. chunk_waits kind (kept_of t) (bytes ++ take taken rest) 0 [] crlf_bytes (kept kind bytes x) refl (omega arith);
    }
