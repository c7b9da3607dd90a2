-- What is packed is unpacked as the same verdicts.
use Rattle.std.proofs.Common.{◌≡◌, ℕ, ◌-◌, ◌≤◌, List, [], ◌∷◌, ◌++◌, length, take, drop, Bool, true, false, cond, ◌⊎◌, inl, inr, if◌then◌else◌, Option, Some, None, is_some, refl, sym, ap, subst, ◌∙◌, arith}
use Rattle.std.specs.List.{slice_range}
use Rattle.std.specs.Cmp.Lexicographic.{nat_list_cmp_total}
use Rattle.std.specs.FinMap as finite
use Rattle.std.proofs.lemmas.Bool.{cases_Bool}
use Rattle.std.proofs.lemmas.List.{drop_at, take_all, length-append}
use Rattle.fed_txn.specs.Verdicts.{VerdictMap, with_verdict}
use Rattle.fed_replies.specs.PackedReply.{Verdict}
use Rattle.fed_replies.specs.Pieces.{Content, ends_of, AreEntered, AreNumbered, AreWithin, verdicts_in, verdicts_of, with_verdicts, unpacked}
use Rattle.fed_replies.proofs.Maps.{tied, same_key}
use Rattle.fed_replies.proofs.OtherValues.{order, one_map}

abbrev Error : Type 0
Error = Option (List ℕ)

abbrev at : List ℕ → List Verdict → Option Error
at q es = finite.find order q es

-- the first of two, where there is one
abbrev earlier_of : Option Error → Option Error → Option Error
earlier_of None o = o
earlier_of (Some e) o = Some e

-- ---- entering verdicts one after another

earlier_of-None : (o : Option Error) → earlier_of o None ≡ o
earlier_of-None None = refl
earlier_of-None (Some e) = refl

earlier_of-cond : (a : Option Error) (b : Bool) (e : Error) (o : Option Error) → earlier_of (earlier_of a (cond b (Some e) None)) o ≡ earlier_of a (cond b (Some e) o)
earlier_of-cond None true e o = refl
earlier_of-cond None false e o = refl
earlier_of-cond (Some x) b e o = refl

get-with_verdict : (m : VerdictMap) (k q : List ℕ) (e : Error) → finite.get (with_verdict m k e) q ≡ earlier_of (finite.get m q) (cond (tied q k) (Some e) None)
get-with_verdict m k q e = by (finite.get m k) refl (cases_Bool (tied q k))
  where
    by : (o : Option Error) → finite.get m k ≡ o → (tied q k ≡ true) ⊎ (tied q k ≡ false) → finite.get (with_verdict m k e) q ≡ earlier_of (finite.get m q) (cond (tied q k) (Some e) None)
    by (Some f) h (inl t) =
        let here : finite.get m q ≡ Some f = ap (finite.get m) (same_key q k t) ∙ h in
        ap (λ o. finite.get (if is_some o then m else finite.insert m k e) q) h ∙ rw here refl
    by (Some f) h (inr n) = ap (λ o. finite.get (if is_some o then m else finite.insert m k e) q) h ∙ rw n (sym (earlier_of-None (finite.get m q)))
    by None h (inl t) =
        let here : finite.get m q ≡ None = ap (finite.get m) (same_key q k t) ∙ h in
        ap (λ o. finite.get (if is_some o then m else finite.insert m k e) q) h ∙ finite.get-insert nat_list_cmp_total m k e q ∙ rw (t, here) refl
    by None h (inr n) =
        ap (λ o. finite.get (if is_some o then m else finite.insert m k e) q) h ∙ finite.get-insert nat_list_cmp_total m k e q ∙ rw n (sym (earlier_of-None (finite.get m q)))

get-with_verdicts : (m : VerdictMap) (vs : List Verdict) (q : List ℕ) → finite.get (with_verdicts m vs) q ≡ earlier_of (finite.get m q) (at q vs)
get-with_verdicts m [] q = sym (earlier_of-None (finite.get m q))
get-with_verdicts m (v ∷ vs) q =
    get-with_verdicts (with_verdict m v.0 v.1) vs q
    ∙ ap (λ o. earlier_of o (at q vs)) (get-with_verdict m v.0 q v.1)
    ∙ earlier_of-cond (finite.get m q) (tied q v.0) v.1 (at q vs)

-- the entries of a map give the map
same_verdicts : (m : VerdictMap) → with_verdicts finite.empty (finite.entries m) ≡ m
same_verdicts m = one_map _ _ (λ q.
    get-with_verdicts finite.empty (finite.entries m) q ∙ ap (λ o. earlier_of o (at q (finite.entries m))) (finite.get-empty order q) ∙ sym (finite.get-entries m q))

-- ---- between the ends

slice_behind : {X : Type 0} (xs ys zs : List X) → zs ≡ xs ++ ys → slice_range zs (length xs) (length zs) ≡ ys
slice_behind xs ys zs e =
    let size : length ys ≤ length zs - length xs = omega (arith, ap length e, length-append xs ys) in
    ap (λ l. take (length zs - length xs) (drop (length xs) l)) e ∙ ap (take (length zs - length xs)) (drop_at xs ys (length xs) refl) ∙ take_all (length zs - length xs) ys size

module _ (c d : Content) (m : VerdictMap) (h : AreEntered c (finite.entries m) d) where
  events_between : slice_range d.events (length c.events) (length d.events) ≡ h.events
  events_between = slice_behind c.events h.events d.events h.events_are

  numbers_between : slice_range d.numbers (length c.numbers) (length d.numbers) ≡ h.numbers
  numbers_between = slice_behind c.numbers h.numbers d.numbers h.numbers_are

  verdicts-entered : verdicts_in d (ends_of c) (ends_of d) ≡ finite.entries m
  verdicts-entered =
      ap (λ es. verdicts_of d.texts es (slice_range d.numbers (length c.numbers) (length d.numbers))) events_between
      ∙ ap (verdicts_of d.texts h.events) numbers_between ∙ h.verdicts_are

  pub unpacked-entered : unpacked d (ends_of c) (ends_of d) ≡ m
  unpacked-entered = ap (with_verdicts finite.empty) verdicts-entered ∙ same_verdicts m

  pub within-entered : AreWithin d (ends_of c) (ends_of d)
  within-entered =
      let events_size = ap length h.events_are ∙ length-append c.events h.events in
      let numbers_size = ap length h.numbers_are ∙ length-append c.numbers h.numbers in
      record {
        events = omega arith;
        numbers = omega arith;
        events_end = omega arith;
        numbers_end = omega arith;
        numbered = subst (λ es. AreNumbered d.texts es (slice_range d.numbers (length c.numbers) (length d.numbers))) (sym events_between)
            (subst (AreNumbered d.texts h.events) (sym numbers_between) h.numbered);
        in_order = ap finite.entries unpacked-entered ∙ sym verdicts-entered;
      }
