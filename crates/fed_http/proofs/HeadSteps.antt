-- The head, as its bytes come.
use Rattle.std.proofs.Common.{arith, ◌≡◌, ◌≢◌, ℕ, ◌+◌, ◌-◌, ◌≤◌, List, [], ◌++◌, length, take, drop, refl, sym, ap, subst, ◌∙◌, append-nil, length-append, Some, inl, inr}
use Rattle.std.specs.Prelude.{vec_len, vec_capacity}
use Rattle.std.proofs.lemmas.Bool.{cases_lt}
use Rattle.std.proofs.Math.Seq.{take-append-add}
use Rattle.std.specs.Coded.{le_prop}
use Rattle.std.proofs.Math.Logic.{∥∥₁_elim}
use Rattle.fed_http.specs.Limits.{max_head, max_body}
use Rattle.fed_http.specs.Head.{Head, ReadsHead, HasNoHead, print_head, head_framing, message_of}
use Rattle.fed_http.specs.Faults.{IsFault, large_length}
use Rattle.fed_http.specs.Keeping.{Kept, IsKept, IsKeptAt, with_body, KeepsHead, IsInHead}
use Rattle.fed_http.specs.KeepingParts.{IsSoundFor, HasRoomAt, IsOpeningAt, IsPlaceBehind, IsLargeFraming}
use Rattle.fed_http.specs.declared.fault.HttpFault.{HttpFault}
use Rattle.fed_http.specs.declared.fault.HttpFault.TheVariants.{TooLarge}
use Rattle.fed_http.specs.declared.framing.Framing.{Framing}
use Rattle.fed_http.specs.declared.framing.Framing.TheVariants.{NoBody, Fixed, Chunked}
use Rattle.fed_http.specs.declared.message.Kind.{Kind}
use Rattle.fed_http.specs.declared.opening.Opening.{Opening}
use Rattle.fed_http.specs.declared.place.Place.{Place}
use Rattle.fed_http.specs.declared.place.Place.TheVariants.{InHead, InBody, InLine, InData, BehindData, BehindReturn, InTrailer, Ended}
use Rattle.fed_http.specs.declared.state.State.{State}
use Rattle.fed_http.specs.declared.text_place.TextPlace.TheVariants.{Size}
use Rattle.fed_http.specs.TextPlaces.{IsLinePlace}
use Rattle.fed_http.proofs.PlaceStarts.{line_begins}
use Rattle.fed_http.proofs.Windows.{front_of}
use Rattle.fed_http.proofs.LineCounts.{front_in}
use Rattle.fed_http.proofs.Keeping.{take_first, empty_lacks_line}
use Rattle.fed_http.proofs.BodySteps.{with_body_is}

-- ---- what is kept behind a head

pub opening_kept : (kind : Kind) (k : Kept) (bytes : List ℕ) (found : Opening) (place : Place) → IsOpeningAt kind bytes found → IsPlaceBehind found.framing place → k.place ≡ place → k.head ≡ found.len → k.text ≡ []
    → k.start ≡ Some found.message → k.body ≡ [] → k.at ≡ Size 0 → IsKept kind k (take found.len bytes)
opening_kept kind k bytes found place x behind at head text start body begins =
    let P : Place → Type 0 = λ p. IsKeptAt p kind k (take found.len bytes) in
    subst P (sym at) (by found.framing place x.framed behind)
  where
    front : take found.len bytes ≡ print_head x.head
    front = ap (λ n. take n bytes) x.len ∙ front_of bytes (print_head x.head) (drop found.len bytes) x.reads.whole

    keeps : (f : Framing) → head_framing x.head ≡ Some f → (rest : List ℕ) → rest ≡ [] → KeepsHead kind k (take found.len bytes) f [] rest
    keeps f framed rest none = record {
      head = x.head;
      valid = x.reads.valid;
      within = x.within;
      final = x.final;
      framed = framed;
      start = start ∙ ap Some x.message;
      len = head ∙ x.len;
      text = text;
      whole = front ∙ sym (append-nil (print_head x.head)) ∙ ap (λ v. print_head x.head ++ v) (sym none);
    }

    small : length k.body ≤ max_body
    small = omega (arith, ap length body)

    ended : with_body (message_of x.head []) k.body ≡ message_of x.head []
    ended = ap (with_body (message_of x.head [])) body ∙ with_body_is x.head []

    by : (f : Framing) (p : Place) → head_framing x.head ≡ Some f → IsPlaceBehind f p → IsKeptAt p kind k (take found.len bytes)
    by NoBody p framed is = subst (λ p. IsKeptAt p kind k (take found.len bytes)) (sym is) (record {
      message = message_of x.head [];
      start = start ∙ ap Some x.message;
      text = record {
        head = x.head;
        framing = NoBody;
        body = [];
        body_text = [];
        valid = x.reads.valid;
        within = x.within;
        final = x.final;
        framed = framed;
        is_body = (refl, refl);
        body_fits = omega arith;
        message_is = ended;
        text_is = front ∙ sym (append-nil (print_head x.head));
      };
      fits = small;
    })
    by (Fixed n) p framed (inl (zero, is)) = subst (λ p. IsKeptAt p kind k (take found.len bytes)) (sym is) (record {
      message = message_of x.head [];
      start = start ∙ ap Some x.message;
      text = record {
        head = x.head;
        framing = Fixed n;
        body = [];
        body_text = [];
        valid = x.reads.valid;
        within = x.within;
        final = x.final;
        framed = framed;
        is_body = (sym zero, refl);
        body_fits = omega arith;
        message_is = ended;
        text_is = front ∙ sym (append-nil (print_head x.head));
      };
      fits = small;
    })
    by (Fixed n) p framed (inr (some, fits, is)) = subst (λ p. IsKeptAt p kind k (take found.len bytes)) (sym is) (record {
      size = n;
      keeps = keeps (Fixed n) framed k.body body;
      missing = omega (arith, ap length body);
      fits = fits;
      some = some;
    })
    by Chunked p framed is = subst (λ p. IsKeptAt p kind k (take found.len bytes)) (sym is) (record {
      line = [];
      keeps = record { rest = []; keeps = keeps Chunked framed [] refl; chunks = []; reads = record { valid = tt; fits = omega arith; whole = refl } };
      body = body;
      few = empty_lacks_line.few;
      none = empty_lacks_line.none;
      at = subst (IsLinePlace []) (sym begins) line_begins;
    })

pub place_begun : (f : Framing) (p : Place) → IsPlaceBehind f p → p ≢ InHead
place_begun NoBody p is e = cc
place_begun (Fixed n) p (inl (zero, is)) e = cc
place_begun (Fixed n) p (inr (some, fits, is)) e = cc
place_begun Chunked p is e = cc

-- a length that is too large
pub large_fault : (kind : Kind) (bytes : List ℕ) (found : Opening) (fault : HttpFault) → IsOpeningAt kind bytes found → (fault ≡ TooLarge) × IsLargeFraming found.framing → IsFault kind bytes fault
large_fault kind bytes found fault x (is, large) = subst (IsFault kind bytes) (sym is) (by found.framing x.framed large)
  where
    by : (f : Framing) → head_framing x.head ≡ Some f → IsLargeFraming f → IsFault kind bytes TooLarge
    by NoBody framed large = absurd large
    by (Fixed n) framed large = large_length n (drop found.len bytes) (record { head = x.head; reads = x.reads; within = x.within; final = x.final; framed = framed }) large
    by Chunked framed large = absurd large

-- ---- memory

pub room_at : (p : Place) (s t : State) (more rest : ℕ) → HasRoomAt p s more → rest ≤ more → vec_len t.text ≤ vec_len s.text → vec_capacity t.text ≡ vec_capacity s.text → vec_len t.body ≡ vec_len s.body
    → vec_capacity t.body ≡ vec_capacity s.body → HasRoomAt p t rest
room_at InHead s t more rest room fewer text cap body size = tt
room_at (InBody left) s t more rest room fewer text cap body size = omega (arith, room)
room_at InLine s t more rest room fewer text cap body size = (omega (arith, room.0), omega (arith, room.1))
room_at (InData left) s t more rest room fewer text cap body size = (omega (arith, room.0), omega (arith, room.1))
room_at BehindData s t more rest room fewer text cap body size = (omega (arith, room.0), omega (arith, room.1))
room_at BehindReturn s t more rest room fewer text cap body size = (omega (arith, room.0), omega (arith, room.1))
room_at InTrailer s t more rest room fewer text cap body size = omega (arith, room)
room_at Ended s t more rest room fewer text cap body size = tt

-- ---- the bytes that came

-- a head ends behind the bytes that were there
pub head_beyond : (kind : Kind) (bytes more rest : List ℕ) (h : Head) → HasNoHead kind bytes → ReadsHead kind (bytes ++ more) h rest → length bytes ≤ length (print_head h)
head_beyond kind bytes more rest h none reads = elim (cases_lt (length (print_head h)) (length bytes)) [
  | inl less ↦ let x = front_in bytes more (print_head h) rest reads.whole (omega (arith, less)) in absurd (none h x.0 (record { valid = reads.valid; whole = x.1 }))
  | inr more ↦ more
]

-- the same of what is known of any bytes
pub head_beyond_sound : (kind : Kind) (k : Kept) (all more rest : List ℕ) (h : Head) → k.place ≡ InHead → IsSoundFor kind k → all ≡ k.text ++ more → ReadsHead kind all h rest → length k.text ≤ length (print_head h)
head_beyond_sound kind k all more rest h at sound is reads = ∥∥₁_elim sound le_prop (λ (bytes, kept).
    let x : IsInHead kind k bytes = subst (λ p. IsKeptAt p kind k bytes) at kept in
    let P : List ℕ → Type 0 = λ v. HasNoHead kind v in
    let Q : List ℕ → Type 0 = λ v. ReadsHead kind v h rest in
    let none : HasNoHead kind k.text = subst P (sym x.text) x.none in
    let beyond : length k.text ≤ length (print_head h) = head_beyond kind k.text more rest h none (subst Q is reads) in
    beyond)

pub head_few : (kind : Kind) (k : Kept) → k.place ≡ InHead → IsSoundFor kind k → length k.text ≤ max_head
head_few kind k at sound = ∥∥₁_elim sound le_prop (λ (bytes, kept).
    let x : IsInHead kind k bytes = subst (λ p. IsKeptAt p kind k bytes) at kept in
    let few : length k.text ≤ max_head = omega (arith, ap length x.text, x.few) in
    few)

-- the bytes up to the end of the head, in the piece
pub up_to_head : (text bytes piece all : List ℕ) (taken len : ℕ) → text ≡ bytes → all ≡ text ++ take taken piece → length text ≤ len → len ≤ length all → take len all ≡ bytes ++ take (len - length text) piece
up_to_head text bytes piece all taken len same is beyond within =
    let used = len - length text in
    let sum : len ≡ length text + used = omega arith in
    let short : used ≤ length (take taken piece) = omega (arith, ap length is, length-append text (take taken piece)) in
    ap (take len) is ∙ ap (λ n. take n (text ++ take taken piece)) sum ∙ take-append-add text (take taken piece) used ∙ (λ i. same i ++ take_first used taken piece short i)
