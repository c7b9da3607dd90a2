-- An object that is filled with verdicts in the order of their ids.
use Rattle.std.proofs.Common.{◌≡◌, ℕ, ◌≤◌, List, [], ◌∷◌, Bool, true, false, ◌&&◌, T, Ordering, Less, Equal, Greater, nat_cmp, Option, Some, None, refl, sym, ap, ◌∙◌, arith}
use Rattle.std.specs.FinMap.{is_sorted}
use Rattle.std.specs.FinMap as finite
use Rattle.std.specs.Cmp.Lexicographic.{slice_cmp, nat_list_cmp_total}
use Rattle.std.specs.Ordering.{is_lt, ordering_reverse}
use Rattle.serde_json.specs.Data.{Data, object, Members, no_members, member, put, depth, members_depth}
use Rattle.fed_json.specs.Editing.{with_member}
use Rattle.fed_txn.specs.Verdicts.{VerdictMap}
use Rattle.fed_txn.specs.Reply.{verdict_value, verdict_members}

abbrev Verdict : Type 0
Verdict = List ℕ × Option (List ℕ)

-- what is left is put in, one after another
abbrev pub poured : List Verdict → Data → Data
poured [] d = d
poured (e ∷ es) d = poured es (with_member e.0 (verdict_value e.1) d)

abbrev order : List ℕ → List ℕ → Ordering
order = slice_cmp nat_cmp

abbrev followed_by : Members → Members → Members
followed_by no_members ns = ns
followed_by (member k d ms) ns = member k d (followed_by ms ns)

-- k is above each of these keys
abbrev IsAbove : List ℕ → Members → Type 0
IsAbove k no_members = Unit {0}
IsAbove k (member l d ms) = (order k l ≡ Greater) × IsAbove k ms

abbrev AreAbove : List Verdict → Members → Type 0
AreAbove [] ms = Unit {0}
AreAbove (e ∷ es) ms = IsAbove e.0 ms × AreAbove es ms

put-last : (k : List ℕ) (d : Data) (ms : Members) → IsAbove k ms → put k d ms ≡ followed_by ms (member k d no_members)
put-last k d no_members h = refl
put-last k d (member l e ms) h = rw (h.0) (ap (member l e) (put-last k d ms h.1))

followed_by-followed_by : (k : List ℕ) (d : Data) (ms ns : Members) → followed_by (followed_by ms (member k d no_members)) ns ≡ followed_by ms (member k d ns)
followed_by-followed_by k d no_members ns = refl
followed_by-followed_by k d (member l e ms) ns = ap (member l e) (followed_by-followed_by k d ms ns)

above_more : (k l : List ℕ) (d : Data) (ms : Members) → IsAbove k ms → order k l ≡ Greater → IsAbove k (followed_by ms (member l d no_members))
above_more k l d no_members h g = (g, tt)
above_more k l d (member m e ms) h g = (h.0, above_more k l d ms h.1 g)

first : (a b : Bool) → T (a && b) → T a
first true b h = tt
first false b h = h

second : (a b : Bool) → T (a && b) → T b
second true b h = h
second false b h = absurd h

greater : (k l : List ℕ) → T (is_lt (order l k)) → order k l ≡ Greater
greater k l h = nat_list_cmp_total.antisymm k l ∙ turned (order l k) h
  where
    turned : (o : Ordering) → T (is_lt o) → ordering_reverse o ≡ Greater
    turned Less h = refl
    turned Equal h = absurd h
    turned Greater h = absurd h

all_above_more : (l : List ℕ) (d : Data) (es : List Verdict) (ms : Members) → AreAbove es ms → T (finite.Entries.below_all order l es) → AreAbove es (followed_by ms (member l d no_members))
all_above_more l d [] ms h b = tt
all_above_more l d (e ∷ es) ms h b = (above_more e.0 l d ms h.0 (greater e.0 l (first _ _ b)), all_above_more l d es ms h.1 (second _ _ b))

poured_after : (es : List Verdict) (ms : Members) → T (is_sorted order es) → AreAbove es ms → poured es (object ms) ≡ object (followed_by ms (verdict_members es))
poured_after [] ms s h = ap object (sym (nothing_more ms))
  where
    nothing_more : (ms : Members) → followed_by ms no_members ≡ ms
    nothing_more no_members = refl
    nothing_more (member k d ms) = ap (member k d) (nothing_more ms)
poured_after (e ∷ es) ms s h =
    let d = verdict_value e.1 in
    ap (λ ns. poured es (object ns)) (put-last e.0 d ms h.0)
    ∙ poured_after es (followed_by ms (member e.0 d no_members)) (second _ _ s) (all_above_more e.0 d es ms h.1 (first _ _ s))
    ∙ ap object (followed_by-followed_by e.0 d ms (verdict_members es))

pub poured_all : (v : VerdictMap) → poured (finite.entries v) (object no_members) ≡ object (verdict_members (finite.entries v))
poured_all v = poured_after (finite.entries v) no_members (finite.entries_sorted v) (nothing (finite.entries v))
  where
    nothing : (es : List Verdict) → AreAbove es no_members
    nothing [] = tt
    nothing (e ∷ es) = (tt, nothing es)

pub verdict_members-depth : (es : List Verdict) → members_depth (verdict_members es) ≤ 1
verdict_members-depth [] = omega arith
verdict_members-depth (e ∷ es) = let rest = verdict_members-depth es in let here = value e.1 in omega arith
  where
    value : (v : Option (List ℕ)) → depth (verdict_value v) ≤ 1
    value None = omega arith
    value (Some text) = omega arith
