-- Two values of whole numbers with one text are one value: the text's tokens give the value back.
use Rattle.std.proofs.Common.{◌≡◌, ◌^◌, ◌-◌, ◌<◌, max, pos, negsuc, List, [], ◌++◌, true, Option, Some, None, refl, sym, ap, ap₂, ◌∙◌, arith, ltb-true}
use Rattle.std.proofs.lemmas.Bool.{and_parts}
use Rattle.json.specs.Token.{Token}
use Rattle.json.specs.Lex.{tokens}
use Rattle.json.specs.Print.{IsNumber}
use Rattle.json.specs.Json as json
use Rattle.json.specs.Tree as tree
use Rattle.json.proofs.Printed.Decimals.{IsNumber-decimal, IsNumber-signed_decimal}
use Rattle.json.proofs.Printed.Tokens.{tokens-print}
use Rattle.json.proofs.Printed.Trees.{value-json_tokens, ArePrintable-json_tokens}
use Rattle.serde_json.specs.Data.{Num, unsigned, negative, float, Data, null, boolean, number, string, array, object, Items, no_items, item, Members, no_members, member}
use Rattle.serde_json.specs.Read.{number_of}
use Rattle.serde_json.specs.Written.{number_text, outline, items_outline, members_outline, compact_text}
use Rattle.serde_json.proofs.Numbers.{number_of-decimal, number_of-negative}
use Rattle.serde_json.proofs.Texts.{print-outline}
use Rattle.fed_json.specs.Profile.{is_whole, all_whole, items_whole, members_whole}

num_or : Option Num → Num
num_or None = unsigned 0
num_or (Some n) = n

-- the value that stands behind a tree of number texts
abbrev mutual
  value_of : json.Json → Data
  value_of json.null = null
  value_of (json.boolean b) = boolean b
  value_of (json.number s) = number (num_or (number_of s))
  value_of (json.string s) = string s
  value_of (json.array js) = array (items_of js)
  value_of (json.object ms) = object (members_of ms)

  items_of : json.Items → Items
  items_of json.no_items = no_items
  items_of (json.item j js) = item (value_of j) (items_of js)

  members_of : json.Members → Members
  members_of json.no_members = no_members
  members_of (json.member k j ms) = member k (value_of j) (members_of ms)

pub number_read : (n : Num) → is_whole n ≡ true → number_of (number_text n) ≡ Some n
number_read (unsigned n) h = let small : n < 2 ^ 53 = ltb-true n (2 ^ 53) h in number_of-decimal n (omega arith)
number_read (negative (pos n)) h = absurd (cc)
number_read (negative (negsuc n)) h = let small : n < 2 ^ 53 - 1 = ltb-true n (2 ^ 53 - 1) h in number_of-negative n (omega arith)
number_read (float x) h = absurd (cc)

number_back : (n : Num) → is_whole n ≡ true → num_or (number_of (number_text n)) ≡ n
unfolding num_or
number_back n h = ap num_or (number_read n h)

is_number : (n : Num) → is_whole n ≡ true → IsNumber (number_text n)
is_number (unsigned n) h = let small : n < 2 ^ 53 = ltb-true n (2 ^ 53) h in IsNumber-decimal n (omega arith)
is_number (negative (pos n)) h = absurd (cc)
is_number (negative (negsuc n)) h = let small : n < 2 ^ 53 - 1 = ltb-true n (2 ^ 53 - 1) h in IsNumber-signed_decimal (negsuc n) (omega arith)
is_number (float x) h = absurd (cc)

mutual
  value_back : (d : Data) → all_whole d ≡ true → value_of (outline d) ≡ d
  value_back null h = refl
  value_back (boolean b) h = refl
  value_back (number n) h = ap number (number_back n h)
  value_back (string s) h = refl
  value_back (array ds) h = ap array (items_back ds h)
  value_back (object ms) h = ap object (members_back ms h)

  items_back : (ds : Items) → items_whole ds ≡ true → items_of (items_outline ds) ≡ ds
  items_back no_items h = refl
  items_back (item d ds) h = let p = and_parts (all_whole d) _ h in ap₂ item (value_back d p.0) (items_back ds p.1)

  members_back : (ms : Members) → members_whole ms ≡ true → members_of (members_outline ms) ≡ ms
  members_back no_members h = refl
  members_back (member k d ms) h = let p = and_parts (all_whole d) _ h in ap₂ (member k) (value_back d p.0) (members_back ms p.1)

mutual
  has_numbers : (d : Data) → all_whole d ≡ true → tree.HasNumbers (outline d)
  has_numbers null h = tt
  has_numbers (boolean b) h = tt
  has_numbers (number n) h = is_number n h
  has_numbers (string s) h = tt
  has_numbers (array ds) h = items_have_numbers ds h
  has_numbers (object ms) h = members_have_numbers ms h

  items_have_numbers : (ds : Items) → items_whole ds ≡ true → tree.ItemsHaveNumbers (items_outline ds)
  items_have_numbers no_items h = tt
  items_have_numbers (item d ds) h = let p = and_parts (all_whole d) _ h in (has_numbers d p.0, items_have_numbers ds p.1)

  members_have_numbers : (ms : Members) → members_whole ms ≡ true → tree.MembersHaveNumbers (members_outline ms)
  members_have_numbers no_members h = tt
  members_have_numbers (member k d ms) h = let p = and_parts (all_whole d) _ h in (has_numbers d p.0, members_have_numbers ms p.1)

-- the text's tokens are those of the value's tree
pub text_tokens : (d : Data) → all_whole d ≡ true → tokens (compact_text d) ≡ tree.json_tokens (outline d)
text_tokens d h = ap tokens (sym (print-outline d)) ∙ tokens-print (tree.json_tokens (outline d)) (ArePrintable-json_tokens (outline d) (has_numbers d h))

tree_or : Option (json.Json × List Token) → json.Json
tree_or None = json.null
tree_or (Some p) = p.0

one_tree : (i j : json.Json) → tree.json_tokens i ≡ tree.json_tokens j → i ≡ j
unfolding tree_or
one_tree i j e =
    let n = max (tree.depth i) (tree.depth j) in
    let left : json.value n (tree.json_tokens i ++ []) ≡ Some (i, []) = value-json_tokens i n [] (omega arith) in
    let right : json.value n (tree.json_tokens j ++ []) ≡ Some (j, []) = value-json_tokens j n [] (omega arith) in
    ap tree_or (sym left ∙ ap (λ ts. json.value n (ts ++ [])) e ∙ right)

pub compact_text_injective : (d e : Data) → all_whole d ≡ true → all_whole e ≡ true → compact_text d ≡ compact_text e → d ≡ e
compact_text_injective d e hd he same =
    let trees : outline d ≡ outline e = one_tree (outline d) (outline e) (sym (text_tokens d hd) ∙ ap tokens same ∙ text_tokens e he) in
    sym (value_back d hd) ∙ ap value_of trees ∙ value_back e he
