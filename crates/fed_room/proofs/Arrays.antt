-- Arrays of ids, made id by id.
use Rattle.std.proofs.Common.{◌≡◌, ◌<◌, ℕ, List, [], ◌∷◌, ◌++◌, append_assoc, map, refl, sym, ap, ◌∙◌, arith, subst}
use Rattle.std.proofs.lemmas.List.{append-nil}
use Rattle.serde_json.specs.Data.{Data, string, array, Items, item, depth, items_depth}
use Rattle.serde_json.specs.Read.{max_depth}
use Rattle.serde_json.specs.View.{items_of}
use Rattle.fed_json.specs.Editing.{item_after, with_item}
use Rattle.fed_room.specs.Parts.{array_of}

-- a value with these ids added, one after another
abbrev pub with_ids : List (List ℕ) → Data → Data
with_ids [] value = value
with_ids (id ∷ ids) value = with_ids ids (with_item (string id) value)

one_more : (ids : List (List ℕ)) (id : List ℕ) → item_after (string id) (items_of (map (λ i. string i) ids)) ≡ items_of (map (λ i. string i) (ids ++ id ∷ []))
one_more [] id = refl
one_more (i ∷ ids) id = ap (item (string i)) (one_more ids id)

more : (ids front : List (List ℕ)) → with_ids ids (array_of front) ≡ array_of (front ++ ids)
more [] front = ap array_of (sym (append-nil front))
more (id ∷ ids) front =
    ap (λ (items : Items). with_ids ids (array items)) (one_more front id) ∙ more ids (front ++ id ∷ []) ∙ ap array_of (append_assoc front (id ∷ []) ids)

pub with_ids-all : (ids : List (List ℕ)) → with_ids ids (array_of []) ≡ array_of ids
with_ids-all ids = more ids []

none_deep : (ids : List (List ℕ)) → items_depth (items_of (map (λ id. string id) ids)) ≡ 0
none_deep [] = refl
none_deep (id ∷ ids) = let rest = none_deep ids in omega (arith, rest)

pub array-shallow : (ids : List (List ℕ)) (value : Data) → value ≡ array_of ids → depth value < max_depth
array-shallow ids value e = let flat = none_deep ids in subst (λ (v : Data). depth v < max_depth) (sym e) (omega (arith, flat))
