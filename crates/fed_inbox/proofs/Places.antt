-- The log of an origin, by its place among the logs.
use Rattle.std.proofs.Common.{◌≡◌, ◌≢◌, ◌⊎◌, inl, inr, ℕ, ◌+◌, ◌<◌, List, [], ◌∷◌, length, map, get_or, set, Bool, true, false, not, cond, if◌then◌else◌, None, Some, option_map, bytes_eq, Less, nat_cmp, refl, sym, ap, subst, ◌∙◌, nat_lt, ltb-false, one-add}
use Rattle.std.proofs.lemmas.Bool.{cases_Bool}
use Rattle.std.proofs.lemmas.List.{get_or_default}
use Rattle.std.proofs.lemmas.List.Folds.{find_at}
use Rattle.std.proofs.lemmas.Map.Text.{is_eq-slice_cmp}
use Rattle.std.proofs.lemmas.Option.{slice_get-get_or, slice_get_past}
use Rattle.std.proofs.lemmas.Slice.Eq.{bytes_eq-Decides}
use Rattle.std.specs.Cmp.Lexicographic.{slice_cmp}
use Rattle.std.specs.List.{AllByRecursion, find, position, position_or_len, slice_get}
use Rattle.std.specs.List.Sorted.{IsStrictlySortedBy}
use Rattle.std.specs.Ordering.{is_eq}
use Rattle.fed_replies.specs.Kept.{KeptReplies}
use Rattle.fed_inbox.specs.Log.{LogState, TakenFrom, with_replies, origin_of, AreByOrigin}
use Rattle.fed_inbox.specs.LogParts.{nothing_from, is_from, KeepsOthers}
use Rattle.fed_inbox.specs.Inbox.{log_at, with_log}

some_by : (b : Bool) (n i : ℕ) → Some i ≡ cond b (Some n) None → i ≡ n
some_by true n i e = cc
some_by false n i e = absurd (cc)

place_is : (o : List ℕ) (ls : List TakenFrom) (i : ℕ) → Some i ≡ position (is_from o) ls → i ≡ position_or_len (is_from o) ls
place_is o ls i e = some_by (nat_lt (position_or_len (is_from o) ls) (length ls)) (position_or_len (is_from o) ls) i e

none_by : (b : Bool) (n : ℕ) → None ≡ cond b (Some n) None → b ≡ false
none_by true n e = absurd (cc)
none_by false n e = refl

module _ (kept : KeptReplies) where
  found_by : (o : List ℕ) (ls : List TakenFrom) → log_at o (map (with_replies kept) ls) ≡ option_map (with_replies kept) (find (is_from o) ls)
  found_by o [] = refl
  found_by o (l ∷ ls) =
      elim (is_from o l) as (λ b. cond b (Some (with_replies kept l)) (log_at o (map (with_replies kept) ls)) ≡ option_map (with_replies kept) (cond b (Some l) (find (is_from o) ls)))
      [ true ↦ refl | false ↦ found_by o ls ]

  pub log_found : (o : List ℕ) (ls : List TakenFrom) (i : ℕ) (l : TakenFrom) → Some i ≡ position (is_from o) ls → i < length ls → l ≡ get_or ls i l → log_at o (map (with_replies kept) ls) ≡ Some (with_replies kept l)
  log_found o ls i l e h is =
      found_by o ls ∙ ap (option_map (with_replies kept)) (find_at (is_from o) ls ∙ ap (slice_get ls) (sym (place_is o ls i e)) ∙ slice_get-get_or ls i l h ∙ ap Some (sym is))

  pub log_there : (o : List ℕ) (ls : List TakenFrom) (i : ℕ) → Some i ≡ position (is_from o) ls → i < length ls → (l : LogState) × (log_at o (map (with_replies kept) ls) ≡ Some l)
  log_there o ls i e h =
      let l = get_or ls i (nothing_from []) in
      (with_replies kept l, log_found o ls i l e h (get_or_default ls i (nothing_from []) l h))

  pub log_missing : (o : List ℕ) (ls : List TakenFrom) → None ≡ position (is_from o) ls → log_at o (map (with_replies kept) ls) ≡ None
  log_missing o ls e =
      let past = ltb-false (position_or_len (is_from o) ls) (length ls) (none_by (nat_lt (position_or_len (is_from o) ls) (length ls)) (position_or_len (is_from o) ls) e) in
      found_by o ls ∙ ap (option_map (with_replies kept)) (find_at (is_from o) ls ∙ slice_get_past ls (position_or_len (is_from o) ls) past)

-- ---- a log that is written over, beside replies that are kept for its origin

module _ (o : List ℕ) (kept kept' : KeptReplies) (keeps : KeepsOthers o kept kept') where
  same_with : (t : TakenFrom) → t.origin ≢ o → with_replies kept' t ≡ with_replies kept t
  same_with t apart i = record { origin = t.origin; replies = keeps t.origin apart i; pdus = t.pdus; edus = t.edus }

  not_below_itself : (k : List ℕ) → slice_cmp nat_cmp o k ≡ Less → k ≢ o
  not_below_itself k h e =
      let same : bytes_eq o k ≡ true = (bytes_eq-Decides o k).1 (sym e) in
      let tie : is_eq (slice_cmp nat_cmp o k) ≡ false = ap is_eq h in
      let both = is_eq-slice_cmp o k in
      absurd (cc)

  others_same : (ls : List TakenFrom) → AllByRecursion (λ k. slice_cmp nat_cmp o k ≡ Less) (map origin_of ls) → map (with_replies kept') ls ≡ map (with_replies kept) ls
  others_same [] h = refl
  others_same (l ∷ ls) h = λ i. same_with l (not_below_itself l.origin h.0) i ∷ others_same ls h.1 i

  pub log_written : (ls : List TakenFrom) (new : TakenFrom) → AreByOrigin ls → map (with_replies kept') (set ls (position_or_len (is_from o) ls) new) ≡ with_log o (map (with_replies kept) ls) (with_replies kept' new)
  unfolding IsStrictlySortedBy
  log_written [] new h = refl
  log_written (l ∷ ls) new h = by (cases_Bool (is_from o l)) (log_written ls new h.1)
    where
      Left : Bool → List LogState
      Left b = map (with_replies kept') (set (l ∷ ls) (cond (not b) (1 + position_or_len (is_from o) ls) 0) new)

      Right : Bool → List LogState
      Right b = if b then with_replies kept' new ∷ map (with_replies kept) ls else with_replies kept l ∷ with_log o (map (with_replies kept) ls) (with_replies kept' new)

      later : map (with_replies kept') (set ls (position_or_len (is_from o) ls) new) ≡ with_log o (map (with_replies kept) ls) (with_replies kept' new) → l.origin ≢ o → Left false ≡ Right false
      later rest apart = rw (one-add (position_or_len (is_from o) ls)) (λ i. same_with l apart i ∷ rest i)

      by : (is_from o l ≡ true) ⊎ (is_from o l ≡ false) → map (with_replies kept') (set ls (position_or_len (is_from o) ls) new) ≡ with_log o (map (with_replies kept) ls) (with_replies kept' new) → Left (is_from o l) ≡ Right (is_from o l)
      by (inl t) rest =
          let is : l.origin ≡ o = (bytes_eq-Decides l.origin o).0 t in
          ap Left t ∙ ap (λ ms. with_replies kept' new ∷ ms) (others_same ls (subst (λ p. AllByRecursion (λ k. slice_cmp nat_cmp p k ≡ Less) (map origin_of ls)) is h.0)) ∙ ap Right (sym t)
      by (inr f) rest =
          ap Left f ∙ later rest (λ e. let t : is_from o l ≡ true = (bytes_eq-Decides l.origin o).1 e in absurd (cc)) ∙ ap Right (sym f)

  pub log_set : (ls : List TakenFrom) (i : ℕ) (new : TakenFrom) → AreByOrigin ls → Some i ≡ position (is_from o) ls → map (with_replies kept') (set ls i new) ≡ with_log o (map (with_replies kept) ls) (with_replies kept' new)
  log_set ls i new h e = ap (λ n. map (with_replies kept') (set ls n new)) (place_is o ls i e) ∙ log_written ls new h
