-- The canonical text of a value is read as that value.
use Rattle.std.proofs.Common.{◌≡◌, ℕ, ◌≤◌, List, [], true, ◌&&◌, Option, Some, option_map, option_and_then, Less, Greater, refl, sym, ap, ap₂, ◌∙◌, arith, append-nil}
use Rattle.std.specs.Ordering.{nat_cmp, ordering_reverse}
use Rattle.std.specs.Str.{is_utf8}
use Rattle.std.specs.Cmp.Lexicographic.{slice_cmp, nat_list_cmp_total}
use Rattle.std.proofs.lemmas.Bool.{and_parts}
use Rattle.std.proofs.lemmas.Str.{IsUtf8-from_is_utf8}
use Rattle.json.specs.Token.{Token}
use Rattle.json.specs.Json as json
use Rattle.json.specs.Tree as tree
use Rattle.json.proofs.Printed.Trees.{value-json_tokens}
use Rattle.serde_json.specs.Data.{Data, null, boolean, number, string, array, object, Items, no_items, item, Members, no_members, member, put, depth, items_depth, members_depth}
use Rattle.serde_json.specs.Read.{of_json, of_items, of_members, max_depth, read}
use Rattle.serde_json.specs.Written.{outline, items_outline, members_outline, compact_text}
use Rattle.fed_json.specs.Profile.{comes_before, comes_before_first, all_whole, items_whole, members_whole, keys_rise, items_rise, members_rise}
use Rattle.std.specs.Prelude.{IsUtf8}
use Rattle.fed_json.specs.Reading.{ReadsAs}
use Rattle.fed_json.proofs.KeyOrder.{chars_order}
use Rattle.fed_json.proofs.Edited.{less_from, before_later}
use Rattle.fed_json.proofs.Injective.{number_read, text_tokens}

-- ---- the tree nests as the value does

mutual
  depth-outline : (d : Data) → tree.depth (outline d) ≤ depth d
  depth-outline null = omega arith
  depth-outline (boolean b) = omega arith
  depth-outline (number n) = omega arith
  depth-outline (string s) = omega arith
  depth-outline (array ds) = omega (arith, items_depth-outline ds)
  depth-outline (object ms) = omega (arith, members_depth-outline ms)

  items_depth-outline : (ds : Items) → tree.items_depth (items_outline ds) ≤ items_depth ds
  items_depth-outline no_items = omega arith
  items_depth-outline (item d ds) = omega (arith, depth-outline d, items_depth-outline ds)

  members_depth-outline : (ms : Members) → tree.members_depth (members_outline ms) ≤ members_depth ms
  members_depth-outline no_members = omega arith
  members_depth-outline (member k d ms) = omega (arith, depth-outline d, members_depth-outline ms)

-- ---- members are put in one after another, each behind those before it

abbrev joined : Members → Members → Members
joined no_members ms = ms
joined (member k d found) ms = member k d (joined found ms)

joined_one : (found : Members) (k : List ℕ) (d : Data) (ms : Members) → joined (joined found (member k d no_members)) ms ≡ joined found (member k d ms)
joined_one no_members k d ms = refl
joined_one (member l e found) k d ms = ap (member l e) (joined_one found k d ms)

rise_later : (l : List ℕ) (e : Data) (ms : Members) → members_rise (member l e ms) ≡ true → members_rise ms ≡ true
rise_later l e ms rising = (and_parts (keys_rise e) _ (and_parts (is_utf8 l && comes_before_first l ms) _ rising).1).1

rise_first : (l : List ℕ) (e : Data) (ms : Members) → members_rise (member l e ms) ≡ true → (is_utf8 l ≡ true) × (comes_before_first l ms ≡ true)
rise_first l e ms rising = and_parts (is_utf8 l) _ (and_parts (is_utf8 l && comes_before_first l ms) _ rising).0

last_is_text : (found : Members) (k : List ℕ) (d : Data) (ms : Members) → members_rise (joined found (member k d ms)) ≡ true → is_utf8 k ≡ true
last_is_text no_members k d ms rising = (rise_first k d ms rising).0
last_is_text (member l e found) k d ms rising = last_is_text found k d ms (rise_later l e _ rising)

before_last : (found : Members) (l k : List ℕ) (d : Data) (ms : Members) → comes_before_first l (joined found (member k d ms)) ≡ true → members_rise (joined found (member k d ms)) ≡ true
    → comes_before l k ≡ true
before_last no_members l k d ms first rising = first
before_last (member m e found) l k d ms first rising =
    let rest = rise_later m e _ rising in
    let next = (rise_first m e _ rising).1 in
    before_later l m (member k d ms) first (before_last found m k d ms next rest)

greater_from : (l k : List ℕ) → is_utf8 l ≡ true → is_utf8 k ≡ true → comes_before l k ≡ true → slice_cmp nat_cmp k l ≡ Greater
greater_from l k hl hk before =
    let less : slice_cmp nat_cmp l k ≡ Less = sym (chars_order l k (IsUtf8-from_is_utf8 l hl) (IsUtf8-from_is_utf8 k hk)) ∙ less_from _ before in
    nat_list_cmp_total.antisymm k l ∙ ap ordering_reverse less

put-joined : (found : Members) (k : List ℕ) (d : Data) (ms : Members) → members_rise (joined found (member k d ms)) ≡ true → put k d found ≡ joined found (member k d no_members)
put-joined no_members k d ms rising = refl
put-joined (member l e found) k d ms rising =
    let rest = rise_later l e _ rising in
    let first = rise_first l e _ rising in
    let greater = greater_from l k first.0 (last_is_text found k d ms rest) (before_last found l k d ms first.1 rest) in
    rw greater (ap (member l e) (put-joined found k d ms rest))

-- ---- the value behind the tree

joined_none : (found : Members) → found ≡ joined found no_members
joined_none no_members = refl
joined_none (member k d found) = ap (member k d) (joined_none found)

value_rises : (found : Members) (k : List ℕ) (d : Data) (ms : Members) → members_rise (joined found (member k d ms)) ≡ true → keys_rise d ≡ true
value_rises no_members k d ms r = (and_parts (keys_rise d) _ (and_parts (is_utf8 k && comes_before_first k ms) _ r).1).0
value_rises (member l e found) k d ms r = value_rises found k d ms (rise_later l e _ r)

mutual
  of_json-outline : (d : Data) → all_whole d ≡ true → keys_rise d ≡ true → of_json (outline d) ≡ Some d
  of_json-outline null w r = refl
  of_json-outline (boolean b) w r = refl
  of_json-outline (number n) w r = ap (option_map number) (number_read n w)
  of_json-outline (string s) w r = refl
  of_json-outline (array ds) w r = ap (option_map array) (of_items-outline ds w r)
  of_json-outline (object ms) w r = ap (option_map object) (of_members-outline ms no_members w r)

  of_items-outline : (ds : Items) → items_whole ds ≡ true → items_rise ds ≡ true → of_items (items_outline ds) ≡ Some ds
  of_items-outline no_items w r = refl
  of_items-outline (item d ds) w r =
      let ws = and_parts (all_whole d) _ w in
      let rs = and_parts (keys_rise d) _ r in
      ap₂ (λ one more. option_and_then (λ e. option_map (item e) more) one) (of_json-outline d ws.0 rs.0) (of_items-outline ds ws.1 rs.1)

  of_members-outline : (ms found : Members) → members_whole ms ≡ true → members_rise (joined found ms) ≡ true → of_members (members_outline ms) found ≡ Some (joined found ms)
  of_members-outline no_members found w r = ap Some (joined_none found)
  of_members-outline (member k d ms) found w r =
      let ws = and_parts (all_whole d) _ w in
      let same = put-joined found k d ms r in
      let whole = joined_one found k d ms in
      ap (option_and_then (λ e. of_members (members_outline ms) (put k e found))) (of_json-outline d ws.0 (value_rises found k d ms r))
      ∙ ap (of_members (members_outline ms)) same ∙ of_members-outline ms (joined found (member k d no_members)) ws.1 (ap members_rise whole ∙ r) ∙ ap Some whole

-- ---- all together

abbrev last : Option (json.Json × List Token) → Option Data
last o = option_and_then of_json (option_and_then (λ p. json.if_last p.0 p.1) o)

pub read-compact_text : (d : Data) → all_whole d ≡ true → keys_rise d ≡ true → depth d ≤ max_depth → read (compact_text d) ≡ Some d
read-compact_text d w r shallow =
    ap (λ ts. last (json.value max_depth ts)) (text_tokens d w ∙ sym (append-nil _)) ∙ ap last (value-json_tokens (outline d) max_depth [] (omega (arith, depth-outline d, shallow)))
    ∙ of_json-outline d w r

-- a text of UTF-8 is read as its value
pub reads_as : (d : Data) → all_whole d ≡ true → keys_rise d ≡ true → depth d ≤ max_depth → IsUtf8 (compact_text d) → ReadsAs (compact_text d) d
reads_as d w r shallow utf8 = (utf8, read-compact_text d w r shallow)
