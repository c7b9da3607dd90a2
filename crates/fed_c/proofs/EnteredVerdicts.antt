-- Verdicts that are entered one after another are those of all members at once.
use Rattle.std.proofs.Common.{◌≡◌, ◌⊎◌, inl, inr, ℕ, List, [], ◌∷◌, map, Bool, true, false, ◌&&◌, cond, if◌then◌else◌, Ordering, Less, Equal, Greater, nat_cmp, Option, Some, None, is_some, option_and_then, unwrap_or, refl, sym, ap, ◌∙◌}
use Rattle.std.proofs.lemmas.Bool.{cases_Bool}
use Rattle.std.specs.FinMap as finite
use Rattle.std.specs.List.{list_all}
use Rattle.std.specs.Ordering.{is_eq, eq_by_cmp}
use Rattle.std.specs.Cmp.Lexicographic.{slice_cmp, nat_list_cmp_total}
use Rattle.serde_json.specs.Data.{Data}
use Rattle.fed_txn.specs.Verdicts.{VerdictMap, with_verdict}
use Rattle.fed_c.specs.Replies.{verdict_in, verdict_entry, verdicts_of}
use Rattle.fed_c.specs.ReplyParts.{with_verdicts_in}

abbrev Error : Type 0
Error = Option (List ℕ)

abbrev order : List ℕ → List ℕ → Ordering
order = slice_cmp nat_cmp

abbrev tied : List ℕ → List ℕ → Bool
tied = eq_by_cmp order

same_key : (k l : List ℕ) → tied k l ≡ true → k ≡ l
same_key k l = by (order k l) refl
  where
    by : (o : Ordering) → order k l ≡ o → is_eq o ≡ true → k ≡ l
    by Less e h = absurd (cc)
    by Equal e h = finite.slice_cmp-IsAntisymmetric finite.nat_cmp-IsAntisymmetric k l e
    by Greater e h = absurd (cc)

-- the first that is there
abbrev first_of : Option Error → Option Error → Option Error
first_of None o = o
first_of (Some e) o = Some e

first_of-first_of : (a b c : Option Error) → first_of (first_of a b) c ≡ first_of a (first_of b c)
first_of-first_of None b c = refl
first_of-first_of (Some e) b c = refl

first_of-None : (o : Option Error) → first_of o None ≡ o
first_of-None None = refl
first_of-None (Some e) = refl

first_of-cond : (b : Bool) (e : Error) (o : Option Error) → first_of (cond b (Some e) None) o ≡ cond b (Some e) o
first_of-cond true e o = refl
first_of-cond false e o = refl

-- ---- one more verdict

get-with_verdict : (v : VerdictMap) (k q : List ℕ) (e : Error) → finite.get (with_verdict v k e) q ≡ first_of (finite.get v q) (cond (tied q k) (Some e) None)
get-with_verdict v k q e = by (finite.get v k) refl (cases_Bool (tied q k))
  where
    by : (o : Option Error) → finite.get v k ≡ o → (tied q k ≡ true) ⊎ (tied q k ≡ false) → finite.get (with_verdict v k e) q ≡ first_of (finite.get v q) (cond (tied q k) (Some e) None)
    by (Some f) h (inl t) =
        let here : finite.get v q ≡ Some f = ap (finite.get v) (same_key q k t) ∙ h in
        ap (λ o. finite.get (if is_some o then v else finite.insert v k e) q) h ∙ rw here refl
    by (Some f) h (inr n) = ap (λ o. finite.get (if is_some o then v else finite.insert v k e) q) h ∙ rw n (sym (first_of-None (finite.get v q)))
    by None h (inl t) =
        let here : finite.get v q ≡ None = ap (finite.get v) (same_key q k t) ∙ h in
        ap (λ o. finite.get (if is_some o then v else finite.insert v k e) q) h ∙ finite.get-insert nat_list_cmp_total v k e q ∙ rw (t, here) refl
    by None h (inr n) =
        ap (λ o. finite.get (if is_some o then v else finite.insert v k e) q) h ∙ finite.get-insert nat_list_cmp_total v k e q ∙ rw n (sym (first_of-None (finite.get v q)))

-- ---- members

abbrev all_said : List (List ℕ × Data) → Bool
all_said pdus = list_all (λ pdu. is_some (verdict_in pdu.1)) pdus

-- the verdict that stands under an id, once the members are entered
entered : (v w : VerdictMap) (pdus : List (List ℕ × Data)) → with_verdicts_in v pdus ≡ Some w → (q : List ℕ) → finite.get w q ≡ first_of (finite.get v q) (finite.find order q (map verdict_entry pdus))
entered v w [] h q =
    let same : v ≡ w = cc in
    ap (λ m. finite.get m q) (sym same) ∙ sym (first_of-None (finite.get v q))
entered v w ((k, d) ∷ pdus) h q = by (verdict_in d) refl (λ e. entered (with_verdict v k e) w pdus)
  where
    by : (o : Option Error) → verdict_in d ≡ o → ((e : Error) → with_verdicts_in (with_verdict v k e) pdus ≡ Some w → (q : List ℕ) → finite.get w q ≡ first_of (finite.get (with_verdict v k e) q) (finite.find order q (map verdict_entry pdus)))
        → finite.get w q ≡ first_of (finite.get v q) (finite.find order q (map verdict_entry ((k, d) ∷ pdus)))
    by None e rest =
        let none : None ≡ Some w = ap (option_and_then (λ f. with_verdicts_in (with_verdict v k f) pdus)) (sym e) ∙ h in
        absurd (cc)
    by (Some e) is rest =
        rest e (ap (option_and_then (λ f. with_verdicts_in (with_verdict v k f) pdus)) (sym is) ∙ h) q
        ∙ ap (λ o. first_of o (finite.find order q (map verdict_entry pdus))) (get-with_verdict v k q e)
        ∙ first_of-first_of (finite.get v q) (cond (tied q k) (Some e) None) (finite.find order q (map verdict_entry pdus))
        ∙ ap (first_of (finite.get v q)) (first_of-cond (tied q k) e (finite.find order q (map verdict_entry pdus)))
        ∙ ap (λ o. first_of (finite.get v q) (cond (tied q k) (Some (unwrap_or o None)) (finite.find order q (map verdict_entry pdus)))) (sym is)

said : (v w : VerdictMap) (pdus : List (List ℕ × Data)) → with_verdicts_in v pdus ≡ Some w → all_said pdus ≡ true
said v w [] h = refl
said v w (p ∷ pdus) h = by (verdict_in p.1) refl (λ e. said (with_verdict v p.0 e) w pdus)
  where
    by : (o : Option Error) → verdict_in p.1 ≡ o → ((e : Error) → with_verdicts_in (with_verdict v p.0 e) pdus ≡ Some w → all_said pdus ≡ true) → all_said (p ∷ pdus) ≡ true
    by None e rest =
        let none : None ≡ Some w = ap (option_and_then (λ f. with_verdicts_in (with_verdict v p.0 f) pdus)) (sym e) ∙ h in
        absurd (cc)
    by (Some e) is rest = ap (λ o. is_some o && all_said pdus) is ∙ rest e (ap (option_and_then (λ f. with_verdicts_in (with_verdict v p.0 f) pdus)) (sym is) ∙ h)

unsaid : (v : VerdictMap) (pdus : List (List ℕ × Data)) → with_verdicts_in v pdus ≡ None → all_said pdus ≡ false
unsaid v [] h = absurd (cc)
unsaid v (p ∷ pdus) h = by (verdict_in p.1) refl (λ e. unsaid (with_verdict v p.0 e) pdus)
  where
    by : (o : Option Error) → verdict_in p.1 ≡ o → ((e : Error) → with_verdicts_in (with_verdict v p.0 e) pdus ≡ None → all_said pdus ≡ false) → all_said (p ∷ pdus) ≡ false
    by None e rest = ap (λ o. is_some o && all_said pdus) e
    by (Some e) is rest = ap (λ o. is_some o && all_said pdus) is ∙ rest e (ap (option_and_then (λ f. with_verdicts_in (with_verdict v p.0 f) pdus)) (sym is) ∙ h)

none_at : (q : List ℕ) → finite.get {X = Error} {R = order} finite.empty q ≡ None
none_at q = finite.get-empty order q

pub all_at_once : (pdus : List (List ℕ × Data)) → with_verdicts_in finite.empty pdus ≡ verdicts_of pdus
all_at_once pdus = by (with_verdicts_in finite.empty pdus) refl
  where
    by : (o : Option VerdictMap) → with_verdicts_in finite.empty pdus ≡ o → with_verdicts_in finite.empty pdus ≡ verdicts_of pdus
    by None e = rw (unsaid finite.empty pdus e) e
    by (Some w) e =
        let same : w ≡ finite.from_entries (map verdict_entry pdus) = finite.same_map nat_list_cmp_total (finite.slice_cmp-IsAntisymmetric finite.nat_cmp-IsAntisymmetric) w (finite.from_entries (map verdict_entry pdus)) (λ q.
        entered finite.empty w pdus e q ∙ ap (λ o. first_of o (finite.find order q (map verdict_entry pdus))) (none_at q)
        ∙ sym (finite.get-from_entries nat_list_cmp_total (map verdict_entry pdus) q)) in
        rw (said finite.empty w pdus e) (e ∙ ap Some same)
