-- The log of an origin among the logs of an inbox.
use Rattle.std.proofs.Common.{◌≡◌, ◌≢◌, ℕ, List, [], ◌∷◌, true, false, cond, if◌then◌else◌, Option, Some, None, bytes_eq, refl, sym, ap, ◌∙◌, subst, ◌⊎◌, inl, inr}
use Rattle.std.proofs.lemmas.Bool.{cases_Bool}
use Rattle.std.proofs.lemmas.Slice.Eq.{bytes_eq-Decides}
use Rattle.fed_inbox.specs.Log.{LogState}
use Rattle.fed_inbox.specs.Inbox.{is_of, log_at, with_log}

pub same_or_not : (o p : List ℕ) → (o ≡ p) ⊎ (o ≢ p)
same_or_not o p = by (cases_Bool (bytes_eq o p))
  where
    by : (bytes_eq o p ≡ true) ⊎ (bytes_eq o p ≡ false) → (o ≡ p) ⊎ (o ≢ p)
    by (inl t) = inl ((bytes_eq-Decides o p).0 t)
    by (inr f) = inr (λ e. let t : bytes_eq o p ≡ true = (bytes_eq-Decides o p).1 e in cc)

pub option_cases : (o : Option LogState) → (o ≡ None) ⊎ ((l : LogState) × (o ≡ Some l))
option_cases None = inl refl
option_cases (Some l) = inr (l, refl)

named : (o : List ℕ) (l : LogState) → is_of o l ≡ true → l.origin ≡ o
named o l h = (bytes_eq-Decides l.origin o).0 h

is_named : (o : List ℕ) (l : LogState) → l.origin ≡ o → is_of o l ≡ true
is_named o l h = (bytes_eq-Decides l.origin o).1 h

other_named : (o p : List ℕ) (l : LogState) → o ≢ p → l.origin ≡ p → is_of o l ≡ false
other_named o p l apart h = by (cases_Bool (is_of o l))
  where
    by : (is_of o l ≡ true) ⊎ (is_of o l ≡ false) → is_of o l ≡ false
    by (inl t) = absurd (apart (sym (named o l t) ∙ h))
    by (inr f) = f

pub found_is : (o : List ℕ) (ls : List LogState) (old : LogState) → log_at o ls ≡ Some old → old.origin ≡ o
found_is o [] old h = absurd (cc)
found_is o (l ∷ ls) old h = by (cases_Bool (is_of o l)) (found_is o ls old)
  where
    by : (is_of o l ≡ true) ⊎ (is_of o l ≡ false) → (log_at o ls ≡ Some old → old.origin ≡ o) → old.origin ≡ o
    by (inl t) rest =
        let here : Some l ≡ Some old = ap (λ b. cond b (Some l) (log_at o ls)) (sym t) ∙ h in
        let same_log : l ≡ old = cc in
        subst (λ (m : LogState). m.origin ≡ o) same_log (named o l t)
    by (inr f) rest = rest (ap (λ b. cond b (Some l) (log_at o ls)) (sym f) ∙ h)

pub log_at-with_log_same : (o : List ℕ) (ls : List LogState) (old new : LogState) → log_at o ls ≡ Some old → new.origin ≡ o → log_at o (with_log o ls new) ≡ Some new
log_at-with_log_same o [] old new h n = absurd (cc)
log_at-with_log_same o (l ∷ ls) old new h n = by (cases_Bool (is_of o l)) (λ k. log_at-with_log_same o ls old new k n)
  where
    by : (is_of o l ≡ true) ⊎ (is_of o l ≡ false) → (log_at o ls ≡ Some old → log_at o (with_log o ls new) ≡ Some new) → log_at o (with_log o (l ∷ ls) new) ≡ Some new
    by (inl t) rest = ap (λ b. log_at o (if b then new ∷ ls else l ∷ with_log o ls new)) t ∙ ap (λ b. cond b (Some new) (log_at o ls)) (is_named o new n)
    by (inr f) rest =
        ap (λ b. log_at o (if b then new ∷ ls else l ∷ with_log o ls new)) f ∙ ap (λ b. cond b (Some l) (log_at o (with_log o ls new))) f
        ∙ rest (ap (λ b. cond b (Some l) (log_at o ls)) (sym f) ∙ h)

pub log_at-with_log_other : (o p : List ℕ) (ls : List LogState) (new : LogState) → o ≢ p → new.origin ≡ p → log_at o (with_log p ls new) ≡ log_at o ls
log_at-with_log_other o p [] new apart n = refl
log_at-with_log_other o p (l ∷ ls) new apart n = by (cases_Bool (is_of p l)) (log_at-with_log_other o p ls new apart n)
  where
    by : (is_of p l ≡ true) ⊎ (is_of p l ≡ false) → log_at o (with_log p ls new) ≡ log_at o ls → log_at o (with_log p (l ∷ ls) new) ≡ log_at o (l ∷ ls)
    by (inl t) rest =
        ap (λ b. log_at o (if b then new ∷ ls else l ∷ with_log p ls new)) t ∙ ap (λ b. cond b (Some new) (log_at o ls)) (other_named o p new apart n)
        ∙ ap (λ b. cond b (Some l) (log_at o ls)) (sym (other_named o p l apart (named p l t)))
    by (inr f) rest = ap (λ b. log_at o (if b then new ∷ ls else l ∷ with_log p ls new)) f ∙ ap (cond (is_of o l) (Some l)) rest

-- a log put back in its own place changes nothing
pub put_back : (o : List ℕ) (ls : List LogState) (l : LogState) → log_at o ls ≡ Some l → with_log o ls l ≡ ls
put_back o [] l h = refl
put_back o (m ∷ ls) l h = by (cases_Bool (is_of o m)) (put_back o ls l)
  where
    by : (is_of o m ≡ true) ⊎ (is_of o m ≡ false) → (log_at o ls ≡ Some l → with_log o ls l ≡ ls) → with_log o (m ∷ ls) l ≡ m ∷ ls
    by (inl t) rest =
        let here : Some m ≡ Some l = ap (λ b. cond b (Some m) (log_at o ls)) (sym t) ∙ h in
        let same_log : l ≡ m = cc in
        ap (λ b. if b then l ∷ ls else m ∷ with_log o ls l) t ∙ ap (λ x. x ∷ ls) same_log
    by (inr f) rest = ap (λ b. if b then l ∷ ls else m ∷ with_log o ls l) f ∙ ap (λ xs. m ∷ xs) (rest (ap (λ b. cond b (Some m) (log_at o ls)) (sym f) ∙ h))
