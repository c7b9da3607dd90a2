-- Members that rise, put into an object one after another.
use Rattle.std.proofs.Common.{◌≡◌, ℕ, List, Bool, true, false, ◌&&◌, cond, Option, Some, None, Ordering, Less, Equal, Greater, nat_cmp, refl, sym, ◌∙◌, ap, subst}
use Rattle.std.proofs.lemmas.Bool.{and_parts}
use Rattle.std.proofs.lemmas.Cmp.{nat_list_cmp_total}
use Rattle.std.proofs.lemmas.Str.{IsUtf8-from_is_utf8}
use Rattle.std.specs.Ordering.{is_lt, ordering_reverse}
use Rattle.std.specs.Cmp.Lexicographic.{slice_cmp}
use Rattle.std.specs.Str.{is_utf8}
use Rattle.serde_json.specs.Data.{Data, object, Members, no_members, member, put}
use Rattle.fed_json.specs.Profile.{keys_rise, members_rise, comes_before_first}
use Rattle.fed_json.proofs.KeyOrder.{chars_order}
use Rattle.fed_json.specs.Tree.{members_view}
use Rattle.fed_json.specs.Members.{members_left}
use Rattle.fed_json.specs.declared.members.Members.{Members as Left}
use Rattle.fed_redaction.specs.Names.{select, member_if, keep, at_name, members_of}
use Rattle.fed_redaction.specs.TextsParts.{put_all}
use Rattle.fed_redaction.proofs.Parts.{members_of-pairs_of}

-- ---- keys in the order of their bytes

abbrev pub comes_first : List ℕ → List ℕ → Type 0
comes_first k l = slice_cmp nat_cmp k l ≡ Less

-- the key comes before each of these
abbrev pub IsBelow : List ℕ → Members → Type 0
IsBelow k no_members = Unit {0}
IsBelow k (member l e ms) = comes_first k l × IsBelow k ms

abbrev pub Rises : Members → Type 0
Rises no_members = Unit {0}
Rises (member k d ms) = IsBelow k ms × Rises ms

below_later : (k l : List ℕ) (ms : Members) → comes_first k l → IsBelow l ms → IsBelow k ms
below_later k l no_members h p = tt
below_later k l (member m e ms) h p = (nat_list_cmp_total.trans k l m h p.0, below_later k l ms h p.1)

less : (o : Ordering) → is_lt o ≡ true → o ≡ Less
less Less h = refl
less Equal h = absurd (cc)
less Greater h = absurd (cc)

below_first : (k : List ℕ) (ms : Members) → is_utf8 k ≡ true → comes_before_first k ms ≡ true → members_rise ms ≡ true → Rises ms → IsBelow k ms
below_first k no_members text first rise h = tt
below_first k (member l e ms) text first rise h =
    let start = and_parts (is_utf8 l && comes_before_first l ms) _ rise in
    let other = and_parts (is_utf8 l) _ start.0 in
    let order : comes_first k l = sym (chars_order k l (IsUtf8-from_is_utf8 k text) (IsUtf8-from_is_utf8 l other.0)) ∙ less _ first in
    (order, below_later k l ms order h.0)

pub Rises-members_rise : (ms : Members) → members_rise ms ≡ true → Rises ms
Rises-members_rise no_members h = tt
Rises-members_rise (member k d ms) h =
    let both = and_parts (is_utf8 k && comes_before_first k ms) _ h in
    let start = and_parts (is_utf8 k) _ both.0 in
    let rise = (and_parts (keys_rise d) _ both.1).1 in
    let rest = Rises-members_rise ms rise in
    (below_first k ms start.0 start.1 rise rest, rest)

below_cond : (b : Bool) (k l : List ℕ) (d : Data) (ms : Members) → comes_first k l → IsBelow k ms → IsBelow k (cond b (member l d ms) ms)
below_cond true k l d ms h p = (h, p)
below_cond false k l d ms h p = p

below_select : (p : List ℕ → Bool) (k : List ℕ) (ms : Members) → IsBelow k ms → IsBelow k (select p ms)
below_select p k no_members h = tt
below_select p k (member l e ms) h = below_cond (p l) k l e (select p ms) h.0 (below_select p k ms h.1)

rises_cond : (b : Bool) (k : List ℕ) (d : Data) (ms : Members) → IsBelow k ms → Rises ms → Rises (cond b (member k d ms) ms)
rises_cond true k d ms h p = (h, p)
rises_cond false k d ms h p = p

pub Rises-select : (p : List ℕ → Bool) (ms : Members) → Rises ms → Rises (select p ms)
Rises-select p no_members h = tt
Rises-select p (member k d ms) h = rises_cond (p k) k d (select p ms) (below_select p k ms h.0) (Rises-select p ms h.1)

below_at_name : (n : List ℕ) (f : Data → Data) (k : List ℕ) (ms : Members) → IsBelow k ms → IsBelow k (at_name n f ms)
below_at_name n f k no_members h = tt
below_at_name n f k (member l e ms) h = (h.0, below_at_name n f k ms h.1)

pub Rises-at_name : (n : List ℕ) (f : Data → Data) (ms : Members) → Rises ms → Rises (at_name n f ms)
Rises-at_name n f no_members h = tt
Rises-at_name n f (member k d ms) h = (below_at_name n f k ms h.0, Rises-at_name n f ms h.1)

below_if : (o : Option Data) (k l : List ℕ) (ms : Members) → comes_first k l → IsBelow k ms → IsBelow k (member_if l o ms)
below_if None k l ms h p = p
below_if (Some d) k l ms h p = (h, p)

below_keep : (f : List ℕ → Data → Option Data) (k : List ℕ) (ms : Members) → IsBelow k ms → IsBelow k (keep f ms)
below_keep f k no_members h = tt
below_keep f k (member l e ms) h = below_if (f l e) k l (keep f ms) h.0 (below_keep f k ms h.1)

rises_if : (o : Option Data) (k : List ℕ) (ms : Members) → IsBelow k ms → Rises ms → Rises (member_if k o ms)
rises_if None k ms h p = p
rises_if (Some d) k ms h p = (h, p)

pub Rises-keep : (f : List ℕ → Data → Option Data) (ms : Members) → Rises ms → Rises (keep f ms)
Rises-keep f no_members h = tt
Rises-keep f (member k d ms) h = rises_if (f k d) k (keep f ms) (below_keep f k ms h.0) (Rises-keep f ms h.1)

-- ---- put in one after another

join : Members → Members → Members
join no_members ms = ms
join (member k d acc) ms = member k d (join acc ms)

-- the key comes after each of these
abbrev IsAbove : List ℕ → Members → Type 0
IsAbove k no_members = Unit {0}
IsAbove k (member l e acc) = comes_first l k × IsAbove k acc

abbrev AreAbove : Members → Members → Type 0
AreAbove no_members acc = Unit {0}
AreAbove (member k d ms) acc = IsAbove k acc × AreAbove ms acc

put_last : (k : List ℕ) (v : Data) (acc : Members) → IsAbove k acc → put k v acc ≡ join acc (member k v no_members)
unfolding join
put_last k v no_members h = refl
put_last k v (member l e acc) h =
    let order : slice_cmp nat_cmp k l ≡ Greater = nat_list_cmp_total.antisymm k l ∙ ap ordering_reverse h.0 in
    rw order (ap (member l e) (put_last k v acc h.1))

above_last : (k l : List ℕ) (v : Data) (acc : Members) → IsAbove k acc → comes_first l k → IsAbove k (join acc (member l v no_members))
unfolding join
above_last k l v no_members h order = (order, tt)
above_last k l v (member m e acc) h order = (h.0, above_last k l v acc h.1 order)

are_above_last : (l : List ℕ) (v : Data) (ms acc : Members) → AreAbove ms acc → IsBelow l ms → AreAbove ms (join acc (member l v no_members))
are_above_last l v no_members acc h below = tt
are_above_last l v (member k d ms) acc h below = (above_last k l v acc h.0 below.0, are_above_last l v ms acc h.1 below.1)

join_join : (acc : Members) (k : List ℕ) (v : Data) (ms : Members) → join (join acc (member k v no_members)) ms ≡ join acc (member k v ms)
unfolding join
join_join no_members k v ms = refl
join_join (member l e acc) k v ms = ap (member l e) (join_join acc k v ms)

join_nothing : (acc : Members) → join acc no_members ≡ acc
unfolding join
join_nothing no_members = refl
join_nothing (member k d acc) = ap (member k d) (join_nothing acc)

put_all-join : (ms acc : Members) → Rises ms → AreAbove ms acc → put_all ms (object acc) ≡ object (join acc ms)
put_all-join no_members acc rise above = ap object (sym (join_nothing acc))
put_all-join (member k v ms) acc rise above =
    ap (λ done. put_all ms (object done)) (put_last k v acc above.0)
    ∙ put_all-join ms (join acc (member k v no_members)) rise.1 (are_above_last k v ms acc above.1 rise.0)
    ∙ ap object (join_join acc k v ms)

above_nothing : (ms : Members) → AreAbove ms no_members
above_nothing no_members = tt
above_nothing (member k d ms) = (tt, above_nothing ms)

pub put_all-rises : (ms : Members) → Rises ms → put_all ms (object no_members) ≡ object ms
unfolding join
put_all-rises ms rise = put_all-join ms no_members rise (above_nothing ms)

-- ---- the members of an object inside a `Json`

pub Rises-left : (s : Left) → Rises (members_of (members_left s))
Rises-left s = subst Rises (sym (members_of-pairs_of (members_view s.entries.now))) (Rises-members_rise (members_view s.entries.now) s.rising)
