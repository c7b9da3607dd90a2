-- A table of texts as it is looked up, as it grows and as it shrinks.
use Rattle.std.proofs.Common.{◌≡◌, ℕ, zero, suc, ◌<◌, ◌≤◌, List, [], ◌∷◌, ◌++◌, length, get_or, Bool, true, false, ◌||◌, cond, ◌⊎◌, inl, inr, Option, Some, None, String, refl, sym, ap, subst, ◌∙◌, arith}
use Rattle.std.specs.Prelude.{MatchOption, string_bytes}
use Rattle.std.proofs.lemmas.Bool.{cases_Bool, cases_lt}
use Rattle.std.proofs.lemmas.List.{get_or_append_left, get_or_push, length_push}
use Rattle.std.proofs.lemmas.Slice.Eq.{bytes_eq-Decides}
use Rattle.std.specs.Str.{bytes_eq}
use Rattle.std.specs.String.{string_cmp}
use Rattle.std.specs.List.{list_any}
use Rattle.std.specs.Ordering.{nat_cmp}
use Rattle.std.specs.Cmp.Lexicographic.{slice_cmp}
use Rattle.std.specs.declared.alloc.Global.{Global}
use Rattle.std.specs.BTreeMap.{BTreeMap, IsOrdered, is_at, get_by_text}
use Rattle.std.specs.Map.{lookup, update}
use Rattle.fed_replies.specs.Texts.{Texts, with_text}
use Rattle.fed_replies.specs.TextTable.{IsTextAt, IsNumbered, IsNumberFor}

abbrev Numbers : Type 0
Numbers = BTreeMap (String Global) ℕ

same_text : (s t : List ℕ) → bytes_eq s t ≡ true → s ≡ t
same_text s t h = (bytes_eq-Decides s t).0 h

is_text : (s t : List ℕ) → s ≡ t → bytes_eq s t ≡ true
is_text s t e = (bytes_eq-Decides s t).1 e

-- ---- looking up

-- a text that is there stands at a place
place_behind : (text t : List ℕ) (ts : Texts) → (list_any (bytes_eq text) ts ≡ true → (number : ℕ) × IsTextAt ts number text) → (bytes_eq text t ≡ true) ⊎ (bytes_eq text t ≡ false)
    → list_any (bytes_eq text) (t ∷ ts) ≡ true → (number : ℕ) × IsTextAt (t ∷ ts) number text
place_behind text t ts rest (inl eq) h = (0, (omega arith, sym (same_text text t eq)))
place_behind text t ts rest (inr ne) h =
    let found = rest (ap (λ b. b || list_any (bytes_eq text) ts) (sym ne) ∙ h) in
    let below : found.0 < length ts = found.1.0 in
    (suc found.0, (omega arith, found.1.1))

pub place_of : (text : List ℕ) (texts : Texts) → list_any (bytes_eq text) texts ≡ true → (number : ℕ) × IsTextAt texts number text
place_of text [] h = absurd (cc)
place_of text (t ∷ ts) h = place_behind text t ts (λ e. place_of text ts e) (cases_Bool (bytes_eq text t)) h

-- and one that stands at a place is there
pub there_at : (text : List ℕ) (texts : Texts) (number : ℕ) → IsTextAt texts number text → list_any (bytes_eq text) texts ≡ true
there_at text [] number h = let below : number < 0 = h.0 in absurd (omega arith)
there_at text (t ∷ ts) zero h = ap (λ b. b || list_any (bytes_eq text) ts) (is_text text t (sym h.1))
there_at text (t ∷ ts) (suc number) h =
    let below : suc number < suc (length ts) = h.0 in
    by (bytes_eq text t) (there_at text ts number (omega arith, h.1))
  where
    by : (b : Bool) → list_any (bytes_eq text) ts ≡ true → (b || list_any (bytes_eq text) ts) ≡ true
    by true e = refl
    by false e = e

pub number_found : (texts now : Texts) (numbers : Numbers) (text : List ℕ) (r : Option ℕ) → IsNumbered texts numbers → r ≡ get_by_text numbers text → texts ≡ now
    → MatchOption r (list_any (bytes_eq text) now ≡ false) (λ number. IsTextAt now number text)
number_found texts now numbers text r h e is = subst (λ (ts : Texts). MatchOption r (list_any (bytes_eq text) ts ≡ false) (λ number. IsTextAt ts number text)) is (by r e)
  where
    absent : get_by_text numbers text ≡ None → (list_any (bytes_eq text) texts ≡ true) ⊎ (list_any (bytes_eq text) texts ≡ false) → list_any (bytes_eq text) texts ≡ false
    absent none (inr ne) = ne
    absent none (inl eq) =
        let at = place_of text texts eq in
        let some : Some at.0 ≡ get_by_text numbers text = sym (h.numbered at.0 at.1.0) ∙ ap (get_by_text numbers) at.1.1 in
        let gone : Some at.0 ≡ None = some ∙ none in
        absurd (cc)

    by : (o : Option ℕ) → o ≡ get_by_text numbers text → MatchOption o (list_any (bytes_eq text) texts ≡ false) (λ number. IsTextAt texts number text)
    by None f = absent (sym f) (cases_Bool (list_any (bytes_eq text) texts))
    by (Some number) f = h.only text number (sym f)

-- ---- the number for a text

pub number_there : (texts : Texts) (text : List ℕ) (number : ℕ) → IsTextAt texts number text → IsNumberFor texts text (Some number) texts
number_there texts text number h = (sym (ap (λ b. cond b texts (texts ++ text ∷ [])) (there_at text texts number h)), h)

pub number_new : (texts : Texts) (text : List ℕ) → list_any (bytes_eq text) texts ≡ false → IsNumberFor texts text (Some (length texts)) (texts ++ text ∷ [])
number_new texts text absent =
    let size = length_push texts text in
    (sym (ap (λ b. cond b texts (texts ++ text ∷ [])) absent), (omega arith, get_or_push texts text [] (length texts) refl))

pub no_number : (texts : Texts) (text : List ℕ) → list_any (bytes_eq text) texts ≡ false → 65535 ≤ length texts → IsNumberFor texts text None texts
no_number texts text absent full =
    let size = ap length (ap (λ b. cond b texts (texts ++ text ∷ [])) absent) ∙ length_push texts text in
    let above : 65535 < length (with_text texts text) = omega arith in
    (refl, above)

-- ---- other maps

pub numbered-same : (texts : Texts) (m n : Numbers) → IsNumbered texts m → IsOrdered string_cmp n → n.entries ≡ m.entries → IsNumbered texts n
numbered-same texts m n h ordered e = record {
  ordered = ordered;
  numbered = λ k lt. same (get_or texts k []) ∙ h.numbered k lt;
  only = λ q k f. h.only q k (sym (same q) ∙ f);
  few = h.few;
}
  where
    same : (q : List ℕ) → get_by_text n q ≡ get_by_text m q
    same q = ap (λ es. lookup (is_at (λ k. slice_cmp nat_cmp q (string_bytes k))) es) e

module _ (texts : Texts) (t : List ℕ) (m n : Numbers) where
  pub numbered-push : IsNumbered texts m → list_any (bytes_eq t) texts ≡ false → length texts < 65535 → IsOrdered string_cmp n → ((q : List ℕ) → get_by_text n q ≡ update bytes_eq (get_by_text m) t (Some (length texts)) q)
      → IsNumbered (texts ++ t ∷ []) n
  numbered-push h absent few ordered up = record {
    ordered = ordered;
    numbered = λ k lt. at k lt (cases_lt k (length texts));
    only = λ q k f. found q k (cases_Bool (bytes_eq t q)) (sym (up q) ∙ f);
    few = let size = length_push texts t in omega arith;
  }
    where
      at : (k : ℕ) → k < length (texts ++ t ∷ []) → (k < length texts) ⊎ (length texts ≤ k) → get_by_text n (get_or (texts ++ t ∷ []) k []) ≡ Some k
      at k lt (inl below) =
          let own = get_or_append_left texts (t ∷ []) [] k below in
          ap (get_by_text n) own ∙ up (get_or texts k []) ∙ other (cases_Bool (bytes_eq t (get_or texts k [])))
        where
          other : (bytes_eq t (get_or texts k []) ≡ true) ⊎ (bytes_eq t (get_or texts k []) ≡ false) → cond (bytes_eq t (get_or texts k [])) (Some (length texts)) (get_by_text m (get_or texts k [])) ≡ Some k
          other (inl eq) = let there = there_at t texts k (below, sym (same_text t (get_or texts k []) eq)) in let gone : true ≡ false = sym there ∙ absent in absurd (cc)
          other (inr ne) = ap (λ b. cond b (Some (length texts)) (get_by_text m (get_or texts k []))) ne ∙ h.numbered k below
      at k lt (inr above) =
          let size = length_push texts t in
          let last : length texts ≡ k = omega arith in
          ap (get_by_text n) (get_or_push texts t [] k last) ∙ up t ∙ ap (λ b. cond b (Some (length texts)) (get_by_text m t)) (is_text t t refl) ∙ ap Some last

      found : (q : List ℕ) (k : ℕ) → (bytes_eq t q ≡ true) ⊎ (bytes_eq t q ≡ false) → cond (bytes_eq t q) (Some (length texts)) (get_by_text m q) ≡ Some k → IsTextAt (texts ++ t ∷ []) k q
      found q k (inl eq) f =
          let size = length_push texts t in
          let both : Some (length texts) ≡ Some k = ap (λ b. cond b (Some (length texts)) (get_by_text m q)) (sym eq) ∙ f in
          let last : length texts ≡ k = cc in
          (omega arith, get_or_push texts t [] k last ∙ same_text t q eq)
      found q k (inr ne) f =
          let size = length_push texts t in
          let old = h.only q k (ap (λ b. cond b (Some (length texts)) (get_by_text m q)) (sym ne) ∙ f) in
          let below : k < length texts = old.0 in
          (omega arith, get_or_append_left texts (t ∷ []) [] k below ∙ old.1)

  pub numbered-pop : IsNumbered (texts ++ t ∷ []) m → IsOrdered string_cmp n → ((q : List ℕ) → get_by_text n q ≡ update bytes_eq (get_by_text m) t None q) → IsNumbered texts n
  numbered-pop h ordered up = record {
    ordered = ordered;
    numbered = λ k lt. up (get_or texts k []) ∙ other k lt (cases_Bool (bytes_eq t (get_or texts k [])));
    only = λ q k f. found q k (cases_Bool (bytes_eq t q)) (sym (up q) ∙ f);
    few = let size = length_push texts t in let few = h.few in omega arith;
  }
    where
      own : (k : ℕ) → k < length texts → get_by_text m (get_or texts k []) ≡ Some k
      own k below =
          let size = length_push texts t in
          let within : k < length (texts ++ t ∷ []) = omega arith in
          ap (get_by_text m) (sym (get_or_append_left texts (t ∷ []) [] k below)) ∙ h.numbered k within

      last : get_by_text m t ≡ Some (length texts)
      last =
          let size = length_push texts t in
          let within : length texts < length (texts ++ t ∷ []) = omega arith in
          ap (get_by_text m) (sym (get_or_push texts t [] (length texts) refl)) ∙ h.numbered (length texts) within

      other : (k : ℕ) → k < length texts → (bytes_eq t (get_or texts k []) ≡ true) ⊎ (bytes_eq t (get_or texts k []) ≡ false) → cond (bytes_eq t (get_or texts k [])) None (get_by_text m (get_or texts k [])) ≡ Some k
      other k below (inr ne) = ap (λ b. cond b None (get_by_text m (get_or texts k []))) ne ∙ own k below
      other k below (inl eq) =
          let both : Some (length texts) ≡ Some k = sym last ∙ ap (get_by_text m) (same_text t (get_or texts k []) eq) ∙ own k below in
          let is : length texts ≡ k = cc in
          absurd (omega arith)

      found : (q : List ℕ) (k : ℕ) → (bytes_eq t q ≡ true) ⊎ (bytes_eq t q ≡ false) → cond (bytes_eq t q) None (get_by_text m q) ≡ Some k → IsTextAt texts k q
      found q k (inl eq) f = let gone : None ≡ Some k = ap (λ b. cond b None (get_by_text m q)) (sym eq) ∙ f in absurd (cc)
      found q k (inr ne) f = before (h.only q k (ap (λ b. cond b None (get_by_text m q)) (sym ne) ∙ f)) (cases_lt k (length texts))
        where
          before : IsTextAt (texts ++ t ∷ []) k q → (k < length texts) ⊎ (length texts ≤ k) → IsTextAt texts k q
          before old (inl below) = (below, sym (get_or_append_left texts (t ∷ []) [] k below) ∙ old.1)
          before old (inr above) =
              let size = length_push texts t in
              let lt : k < length (texts ++ t ∷ []) = old.0 in
              let is : length texts ≡ k = omega arith in
              let same = is_text t q (sym (get_or_push texts t [] k is) ∙ old.1) in
              let gone : true ≡ false = sym same ∙ ne in
              absurd (cc)
