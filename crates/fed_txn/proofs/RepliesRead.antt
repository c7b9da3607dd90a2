-- The verdicts that members are read as, and those of a reply that was written.
use Rattle.std.proofs.Common.{◌≡◌, ◌⊎◌, inl, inr, ℕ, List, [], ◌∷◌, Bool, true, false, ◌&&◌, cond, if◌then◌else◌, codes, Ordering, Less, Equal, Greater, nat_cmp, Option, Some, None, is_some, option_and_then, Result, Ok, Err, IfOk, refl, sym, ap, subst, ◌∙◌, arith}
use Rattle.std.proofs.lemmas.Bool.{cases_Bool}
use Rattle.std.specs.Result.{MatchResult}
use Rattle.std.specs.FinMap as finite
use Rattle.std.specs.List.{list_all}
use Rattle.std.specs.Ordering.{match_ordering, is_eq, eq_by_cmp}
use Rattle.std.specs.Cmp.Lexicographic.{slice_cmp, nat_list_cmp_total}
use Rattle.serde_json.specs.Data.{Data, null, boolean, number, string, array, object, Members, no_members, member}
use Rattle.serde_json.specs.Find.{get, get_member}
use Rattle.fed_json.specs.JsonRef.{pairs_of, as_members}
use Rattle.fed_json.specs.Reading.{ReadsAs, ReadsWithin}
use Rattle.fed_txn.specs.declared.reply_fault.ReplyFault.{ReplyFault}
use Rattle.fed_txn.specs.declared.reply_fault.ReplyFault.TheVariants.{Memory}
use Rattle.fed_txn.specs.Verdicts.{VerdictMap, with_verdict}
use Rattle.fed_txn.specs.Reply.{verdict_value, verdict_members, reply_value}
use Rattle.fed_txn.specs.ReplyReading.{verdict_in, IsReply}
use Rattle.fed_txn.specs.ReplyReadingParts.{with_verdicts_in, IsOf}
use Rattle.fed_txn.proofs.Poured.{verdict_members-depth}
use Rattle.fed_txn.proofs.Replies.{verdicts_whole}

abbrev Error : Type 0
Error = Option (List ℕ)

abbrev order : List ℕ → List ℕ → Ordering
order = slice_cmp nat_cmp

abbrev tied : List ℕ → List ℕ → Bool
tied = eq_by_cmp order

same_key : (k l : List ℕ) → tied k l ≡ true → k ≡ l
same_key k l = by (order k l) refl
  where
    by : (o : Ordering) → order k l ≡ o → is_eq o ≡ true → k ≡ l
    by Less e h = absurd (cc)
    by Equal e h = finite.slice_cmp-IsAntisymmetric finite.nat_cmp-IsAntisymmetric k l e
    by Greater e h = absurd (cc)

-- the first that is there
abbrev first_of : Option Error → Option Error → Option Error
first_of None o = o
first_of (Some e) o = Some e

first_of-None : (o : Option Error) → first_of o None ≡ o
first_of-None None = refl
first_of-None (Some e) = refl

first_of-first_of : (a b c : Option Error) → first_of (first_of a b) c ≡ first_of a (first_of b c)
first_of-first_of None b c = refl
first_of-first_of (Some e) b c = refl

-- ---- one more verdict

get-with_verdict : (v : VerdictMap) (k q : List ℕ) (e : Error) → finite.get (with_verdict v k e) q ≡ first_of (finite.get v q) (cond (tied q k) (Some e) None)
get-with_verdict v k q e = by (finite.get v k) refl (cases_Bool (tied q k))
  where
    by : (o : Option Error) → finite.get v k ≡ o → (tied q k ≡ true) ⊎ (tied q k ≡ false) → finite.get (with_verdict v k e) q ≡ first_of (finite.get v q) (cond (tied q k) (Some e) None)
    by (Some f) h (inl t) =
        let here : finite.get v q ≡ Some f = ap (finite.get v) (same_key q k t) ∙ h in
        ap (λ o. finite.get (if is_some o then v else finite.insert v k e) q) h ∙ rw here refl
    by (Some f) h (inr n) = ap (λ o. finite.get (if is_some o then v else finite.insert v k e) q) h ∙ rw n (sym (first_of-None (finite.get v q)))
    by None h (inl t) =
        let here : finite.get v q ≡ None = ap (finite.get v) (same_key q k t) ∙ h in
        ap (λ o. finite.get (if is_some o then v else finite.insert v k e) q) h ∙ finite.get-insert nat_list_cmp_total v k e q ∙ rw (t, here) refl
    by None h (inr n) =
        ap (λ o. finite.get (if is_some o then v else finite.insert v k e) q) h ∙ finite.get-insert nat_list_cmp_total v k e q ∙ rw n (sym (first_of-None (finite.get v q)))

-- ---- members

step : (q k : List ℕ) (d : Data) (ms : Members) (e : Error) → verdict_in d ≡ Some e
    → first_of (cond (tied q k) (Some e) None) (option_and_then verdict_in (get_member q ms)) ≡ option_and_then verdict_in (get_member q (member k d ms))
step q k d ms e h =
    elim (order q k) as (λ o. first_of (cond (is_eq o) (Some e) None) (option_and_then verdict_in (get_member q ms)) ≡ option_and_then verdict_in (match_ordering o (get_member q ms) (Some d) (get_member q ms)))
    [ Less ↦ refl | Equal ↦ sym h | Greater ↦ refl ]

-- the verdict that stands under an id, once the members are entered
entered : (v w : VerdictMap) (ms : Members) → with_verdicts_in v (pairs_of ms) ≡ Some w → (q : List ℕ) → finite.get w q ≡ first_of (finite.get v q) (option_and_then verdict_in (get_member q ms))
entered v w no_members h q =
    let same : v ≡ w = cc in
    ap (λ m. finite.get m q) (sym same) ∙ sym (first_of-None (finite.get v q))
entered v w (member k d ms) h q = by (verdict_in d) refl (λ e. entered (with_verdict v k e) w ms)
  where
    by : (o : Option Error) → verdict_in d ≡ o → ((e : Error) → with_verdicts_in (with_verdict v k e) (pairs_of ms) ≡ Some w → (q : List ℕ) → finite.get w q ≡ first_of (finite.get (with_verdict v k e) q) (option_and_then verdict_in (get_member q ms)))
        → finite.get w q ≡ first_of (finite.get v q) (option_and_then verdict_in (get_member q (member k d ms)))
    by None e rest =
        let none : None ≡ Some w = ap (option_and_then (λ f. with_verdicts_in (with_verdict v k f) (pairs_of ms))) (sym e) ∙ h in
        absurd (cc)
    by (Some e) is rest =
        rest e (ap (option_and_then (λ f. with_verdicts_in (with_verdict v k f) (pairs_of ms))) (sym is) ∙ h) q
        ∙ ap (λ o. first_of o (option_and_then verdict_in (get_member q ms))) (get-with_verdict v k q e)
        ∙ first_of-first_of (finite.get v q) (cond (tied q k) (Some e) None) (option_and_then verdict_in (get_member q ms))
        ∙ ap (first_of (finite.get v q)) (step q k d ms e is)

abbrev all_said : List (List ℕ × Data) → Bool
all_said ps = list_all (λ p. is_some (verdict_in p.1)) ps

said : (v w : VerdictMap) (ps : List (List ℕ × Data)) → with_verdicts_in v ps ≡ Some w → all_said ps ≡ true
said v w [] h = refl
said v w (p ∷ ps) h = by (verdict_in p.1) refl (λ e. said (with_verdict v p.0 e) w ps)
  where
    by : (o : Option Error) → verdict_in p.1 ≡ o → ((e : Error) → with_verdicts_in (with_verdict v p.0 e) ps ≡ Some w → all_said ps ≡ true) → all_said (p ∷ ps) ≡ true
    by None e rest =
        let none : None ≡ Some w = ap (option_and_then (λ f. with_verdicts_in (with_verdict v p.0 f) ps)) (sym e) ∙ h in
        absurd (cc)
    by (Some e) is rest = ap (λ o. is_some o && all_said ps) is ∙ rest e (ap (option_and_then (λ f. with_verdicts_in (with_verdict v p.0 f) ps)) (sym is) ∙ h)

all_entered : (v : VerdictMap) (ps : List (List ℕ × Data)) → all_said ps ≡ true → (w : VerdictMap) × (with_verdicts_in v ps ≡ Some w)
all_entered v [] h = (v, refl)
all_entered v (p ∷ ps) h = by (verdict_in p.1) refl (λ e. all_entered (with_verdict v p.0 e) ps)
  where
    by : (o : Option Error) → verdict_in p.1 ≡ o → ((e : Error) → all_said ps ≡ true → (w : VerdictMap) × (with_verdicts_in (with_verdict v p.0 e) ps ≡ Some w)) → (w : VerdictMap) × (with_verdicts_in v (p ∷ ps) ≡ Some w)
    by None e rest =
        let none : false ≡ true = ap (λ o. is_some o && all_said ps) (sym e) ∙ h in
        absurd (cc)
    by (Some e) is rest =
        let later = rest e (ap (λ o. is_some o && all_said ps) (sym is) ∙ h) in
        (later.0, ap (option_and_then (λ f. with_verdicts_in (with_verdict v p.0 f) ps)) is ∙ later.1)

-- ---- replies

object_of : (d : Data) (ps : List (List ℕ × Data)) → as_members d ≡ Some ps → (ms : Members) × (d ≡ object ms) × (pairs_of ms ≡ ps)
object_of null ps h = absurd (cc)
object_of (boolean b) ps h = absurd (cc)
object_of (number n) ps h = absurd (cc)
object_of (string s) ps h = absurd (cc)
object_of (array ds) ps h = absurd (cc)
object_of (object ms) ps h = (ms, refl, cc)

object_in : (o : Option Data) (ps : List (List ℕ × Data)) → option_and_then as_members o ≡ Some ps → (ms : Members) × (o ≡ Some (object ms)) × (pairs_of ms ≡ ps)
object_in None ps h = absurd (cc)
object_in (Some d) ps h = let is = object_of d ps h in (is.0, ap Some is.1, is.2)

none_at : (q : List ℕ) → finite.get {X = Error} {R = order} finite.empty q ≡ None
none_at q = finite.get-empty order q

pub is_reply : (bytes : List ℕ) (d : Data) (ms : Members) (v : VerdictMap) → ReadsWithin bytes 127 d → get (codes "pdus") d ≡ Some (object ms) → with_verdicts_in finite.empty (pairs_of ms) ≡ Some v → IsReply bytes v
is_reply bytes d ms v reads there h = record {
  value = d;
  pdus = ms;
  reads = reads;
  pdus_is = there;
  each = said finite.empty v (pairs_of ms) h;
  verdicts_are = λ q. entered finite.empty v ms h q ∙ ap (λ o. first_of o (option_and_then verdict_in (get_member q ms))) (none_at q);
}

-- a reply says one thing
pub only_reply : (bytes : List ℕ) (d : Data) (ms : Members) (v : VerdictMap) → ReadsAs bytes d → get (codes "pdus") d ≡ Some (object ms) → IsReply bytes v → with_verdicts_in finite.empty (pairs_of ms) ≡ Some v
only_reply bytes d ms v reads there h =
    let same_value : d ≡ h.value = let is = sym reads.1 ∙ h.reads.reads.1 in cc in
    let same_object : Some (object ms) ≡ Some (object h.pdus) = sym there ∙ ap (get (codes "pdus")) same_value ∙ h.pdus_is in
    let same_members : ms ≡ h.pdus = cc in
    let found = all_entered finite.empty (pairs_of ms) (ap (λ ns. all_said (pairs_of ns)) same_members ∙ h.each) in
    let same : found.0 ≡ v = finite.same_map nat_list_cmp_total (finite.slice_cmp-IsAntisymmetric finite.nat_cmp-IsAntisymmetric) found.0 v (λ q.
    entered finite.empty found.0 ms found.1 q ∙ ap (λ o. first_of o (option_and_then verdict_in (get_member q ms))) (none_at q)
    ∙ ap (λ ns. option_and_then verdict_in (get_member q ns)) same_members ∙ sym (h.verdicts_are q)) in
    found.1 ∙ ap Some same

module _ (bytes : List ℕ) (d : Data) (ps : List (List ℕ × Data)) (reads : ReadsWithin bytes 127 d) (there : option_and_then as_members (get (codes "pdus") d) ≡ Some ps) where
  pub reply_read : (r : Result VerdictMap ReplyFault) → IsOf (with_verdicts_in finite.empty ps) r → IfOk r (λ v. IsReply bytes v)
  reply_read (Err f) h = tt
  reply_read (Ok v) h = by (with_verdicts_in finite.empty ps) refl h
    where
      by : (o : Option VerdictMap) → with_verdicts_in finite.empty ps ≡ o → IsOf o (Ok v) → IsReply bytes v
      by None e (inl same) = absurd (cc)
      by None e (inr same) = absurd (cc)
      by (Some w) e (inr same) = absurd (cc)
      by (Some w) e (inl same) =
          let is : w ≡ v = cc in
          let parts = object_in (get (codes "pdus") d) ps there in
          is_reply bytes d parts.0 v reads parts.1 (ap (with_verdicts_in finite.empty) parts.2 ∙ e ∙ ap Some is)

  pub reply_only : (r : Result VerdictMap ReplyFault) → IsOf (with_verdicts_in finite.empty ps) r → (v : VerdictMap) → IsReply bytes v → MatchResult r (λ w. w ≡ v) (λ fault. fault ≡ Memory)
  reply_only r h v is =
      let parts = object_in (get (codes "pdus") d) ps there in
      by r (subst (λ o. IsOf o r) (ap (with_verdicts_in finite.empty) (sym parts.2) ∙ only_reply bytes d parts.0 v reads.reads parts.1 is) h)
    where
      by : (r : Result VerdictMap ReplyFault) → IsOf (Some v) r → MatchResult r (λ w. w ≡ v) (λ fault. fault ≡ Memory)
      by (Ok w) (inl e) = cc
      by (Ok w) (inr e) = absurd (cc)
      by (Err f) (inl e) = absurd (cc)
      by (Err f) (inr e) = cc

-- ---- a reply that was written

verdict_in-verdict_value : (e : Error) → verdict_in (verdict_value e) ≡ Some e
verdict_in-verdict_value None = refl
verdict_in-verdict_value (Some text) = refl

written_said : (es : List (List ℕ × Error)) → all_said (pairs_of (verdict_members es)) ≡ true
written_said [] = refl
written_said (e ∷ es) = rw (verdict_in-verdict_value e.1) (written_said es)

written_found : (es : List (List ℕ × Error)) (q : List ℕ) → finite.find order q es ≡ option_and_then verdict_in (get_member q (verdict_members es))
written_found [] q = refl
written_found (e ∷ es) q =
    elim (order q e.0) as (λ o. cond (is_eq o) (Some e.1) (finite.find order q es) ≡ option_and_then verdict_in (match_ordering o (get_member q (verdict_members es)) (Some (verdict_value e.1)) (get_member q (verdict_members es))))
    [ Less ↦ written_found es q | Equal ↦ sym (verdict_in-verdict_value e.1) | Greater ↦ written_found es q ]

pub written_is_read : (bytes : List ℕ) (v : VerdictMap) → ReadsAs bytes (reply_value v) → IsReply bytes v
written_is_read bytes v reads = record {
  value = reply_value v;
  pdus = verdict_members (finite.entries v);
  reads = record { reads = reads; whole = rw (verdicts_whole (finite.entries v)) refl; shallow = let within = verdict_members-depth (finite.entries v) in omega arith };
  pdus_is = refl;
  each = written_said (finite.entries v);
  verdicts_are = λ q. finite.get-entries v q ∙ written_found (finite.entries v) q;
}
