-- What the bytes of a head leave of the state of a reader.
use Rattle.std.proofs.Common.{arith, ◌≡◌, ℕ, ◌+◌, ◌-◌, ◌<◌, ◌≤◌, List, [], ◌∷◌, ◌++◌, length, take, drop, refl, sym, ap, subst, ◌∙◌, length-append}
use Rattle.std.specs.Prelude.{min, vec_len}
use Rattle.std.proofs.lemmas.List.{take_all, length-take}
use Rattle.std.proofs.Math.Seq.{take-append_seam}
use Rattle.std.specs.Coded.{le_prop}
use Rattle.std.proofs.Math.Logic.{∥∥₁_elim}
use Rattle.fed_http.specs.Limits.{max_head}
use Rattle.fed_http.specs.Head.{print_head}
use Rattle.fed_http.specs.Faults.{IsFault}
use Rattle.fed_http.specs.Waiting.{IsWaiting}
use Rattle.fed_http.specs.Waiting as waiting
use Rattle.fed_http.specs.Keeping.{Kept, IsKept, IsInHead}
use Rattle.fed_http.specs.TextPlaces.{IsHeadPlace, HeadGoesOnTo}
use Rattle.fed_http.specs.KeepingParts.{kept_of, IsSoundFor, Begun, StillWaits, TakeFails, Opens, LacksHead}
use Rattle.fed_http.specs.declared.fault.HttpFault.{HttpFault}
use Rattle.fed_http.specs.declared.message.Kind.{Kind}
use Rattle.fed_http.specs.declared.place.Place.TheVariants.{InHead}
use Rattle.fed_http.specs.declared.state.State.{State}
use Rattle.fed_http.specs.declared.text_place.TextPlace.{TextPlace}
use Rattle.fed_http.proofs.PlaceStarts.{place_unfinished}
use Rattle.fed_http.proofs.Windows.{fits_in}
use Rattle.fed_http.proofs.HeadSteps.{head_beyond_sound, up_to_head}
use Rattle.fed_http.proofs.Steps.{at_place, of_place}
use Rattle.fed_http.proofs.TextSteps.{grown_fault}

-- the head ends in the bytes that were taken, behind those that were there
pub record HeadEnds (text all : List ℕ) (len : ℕ) : Type 0 where
  pub beyond : length text ≤ len
  pub within : len ≤ length all

pub head_ends : (kind : Kind) (s grown now : State) (piece : List ℕ) (taken more len : ℕ) → s.place ≡ InHead → IsSoundFor kind (kept_of s) → grown.text.items ≡ s.text.items ++ take taken piece → Opens kind grown now more len
    → HeadEnds s.text.items grown.text.items len
head_ends kind s grown now piece taken more len at sound text o = record {
  beyond = omega (arith, o.len_is, head_beyond_sound kind (kept_of s) grown.text.items (take taken piece) (drop len grown.text.items) o.head at sound text o.reads);
  within = omega (arith, o.len_is, fits_in grown.text.items (print_head o.head) (drop len grown.text.items) o.reads.whole);
}

pub head_begun : (kind : Kind) (s grown now : State) (piece : List ℕ) (taken len used : ℕ) → s.place ≡ InHead → IsSoundFor kind (kept_of s) → grown.text.items ≡ s.text.items ++ take taken piece → taken ≤ length piece → Opens kind grown now (length piece) len
    → used ≡ len - length s.text.items → Begun kind s now piece used
head_begun kind s grown now piece taken len used at sound text within o used_is =
    let ends = head_ends kind s grown now piece taken (length piece) len at sound text o in
    let count : length grown.text.items ≡ length s.text.items + taken = omega (arith, ap length text, length-append s.text.items (take taken piece), length-take taken piece, within) in
    record {
      within = omega (arith, used_is, ends.beyond, ends.within, count, within);
      begun = o.begun;
      room = o.room (length piece - used) (omega arith);
      kept = λ bytes x.
          let y : IsInHead kind (kept_of s) bytes = at_place InHead kind (kept_of s) bytes at x in
          subst (IsKept kind (kept_of now)) (up_to_head s.text.items bytes piece grown.text.items taken len y.text text ends.beyond ends.within ∙ ap (λ n. bytes ++ take n piece) (sym used_is)) o.kept;
    }

pub head_waits : (kind : Kind) (s now : State) (piece : List ℕ) (taken : ℕ) → s.place ≡ InHead → now.place ≡ InHead → now.head ≡ s.head → now.text.items ≡ s.text.items ++ take taken piece → now.body.items ≡ s.body.items → taken ≡ min (length piece) (max_head - vec_len s.text)
    → length s.text.items ≡ vec_len s.text → length now.text.items < max_head → (IsHeadPlace kind s.text.items s.at → LacksHead kind now.text.items) → (IsHeadPlace kind s.text.items s.at → IsHeadPlace kind now.text.items now.at) → StillWaits kind s now piece
head_waits kind s now piece taken at here len text body taken_is vec few lacks on =
    let within : taken ≤ length piece = omega (arith, taken_is) in
    let count : length now.text.items ≡ length s.text.items + taken = omega (arith, ap length text, length-append s.text.items (take taken piece), length-take taken piece, within) in
    let whole : take taken piece ≡ piece = take_all taken piece (omega (arith, taken_is, count, few, vec)) in
    let text_is : (bytes : List ℕ) → IsKept kind (kept_of s) bytes → now.text.items ≡ bytes ++ piece =
    (λ bytes x.
    let y : IsInHead kind (kept_of s) bytes = at_place InHead kind (kept_of s) bytes at x in
    text ∙ (λ i. y.text i ++ whole i)) in
    let place : (bytes : List ℕ) → IsKept kind (kept_of s) bytes → IsHeadPlace kind s.text.items s.at =
    (λ bytes x.
    let y : IsInHead kind (kept_of s) bytes = at_place InHead kind (kept_of s) bytes at x in
    subst (λ v. IsHeadPlace kind v s.at) (sym y.text) y.at) in
    record {
      kept = λ bytes x.
          let y : IsInHead kind (kept_of s) bytes = at_place InHead kind (kept_of s) bytes at x in
          let same = text_is bytes x in
          let lack : LacksHead kind (bytes ++ piece) = subst (LacksHead kind) same (lacks (place bytes x)) in
          let next : IsInHead kind (kept_of now) (bytes ++ piece) = record {
            len = len ∙ y.len;
            text = same;
            body = body ∙ y.body;
            few = lack.few;
            none = lack.unfinished.none;
            at = subst (λ v. IsHeadPlace kind v now.at) same (on (place bytes x));
          } in
          of_place InHead kind (kept_of now) (bytes ++ piece) here next;
      waits = λ bytes x. let lack = subst (LacksHead kind) (text_is bytes x) (lacks (place bytes x)) in waiting.head lack.few lack.unfinished;
      unended = λ e. let clash = sym here ∙ e in cc;
    }

pub head_fails : (kind : Kind) (s now : State) (piece all : List ℕ) (taken : ℕ) (fault : HttpFault) → s.place ≡ InHead → all ≡ s.text.items ++ take taken piece → IsFault kind all fault → kept_of now ≡ kept_of s → TakeFails kind s now piece fault
head_fails kind s now piece all taken fault at text told same = record {
  same = λ e. same;
  is = λ bytes x.
      let y : IsInHead kind (kept_of s) bytes = at_place InHead kind (kept_of s) bytes at x in
      grown_fault kind bytes piece taken fault (subst (λ v. IsFault kind v fault) (text ∙ ap (λ v. v ++ take taken piece) y.text) told);
}

-- the text as it was
pub restored : (held more all cut : List ℕ) (n : ℕ) → all ≡ held ++ more → n ≡ length held → cut ≡ take n all → cut ≡ held
restored held more all cut n is len taken = taken ∙ ap (λ m. take m all) len ∙ ap (take (length held)) is ∙ take-append_seam held more

-- the place behind the bytes that were taken
pub placed_behind : (kind : Kind) (held more all : List ℕ) (n : ℕ) (p q : TextPlace) → all ≡ held ++ more → n ≡ length held → (IsHeadPlace kind (take n all) p → IsHeadPlace kind all q) → IsHeadPlace kind held p → IsHeadPlace kind all q
placed_behind kind held more all n p q is len on at = on (subst (λ v. IsHeadPlace kind v p) (sym (restored held more all (take n all) n is len refl)) at)

-- where the place tells that no head is whole
pub head_goes : (kind : Kind) (held more all : List ℕ) (n : ℕ) (p q : TextPlace) → all ≡ held ++ more → n ≡ length held → HeadGoesOnTo kind p n all q → IsHeadPlace kind held p → LacksHead kind all
head_goes kind held more all n p q is len g at = record { few = g.short; unfinished = place_unfinished kind all q (placed_behind kind held more all n p q is len g.on at) g.known }

-- no body is kept yet
pub head_body : (kind : Kind) (k : Kept) → k.place ≡ InHead → IsSoundFor kind k → k.body ≡ []
head_body kind k at sound =
    let none : length k.body ≤ 0 = ∥∥₁_elim sound le_prop (λ (bytes, kept).
    let x : IsInHead kind k bytes = at_place InHead kind k bytes at kept in
    let few : length k.body ≤ 0 = omega (arith, ap length x.body) in
    few) in
    empty k.body none
  where
    empty : (xs : List ℕ) → length xs ≤ 0 → xs ≡ []
    empty [] none = refl
    empty (x ∷ xs) none = absurd (omega arith)
