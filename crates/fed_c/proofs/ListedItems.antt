-- Items, and keys, that are added to an array one after another make the array of all.
use Rattle.std.proofs.Common.{◌≡◌, List, [], ◌∷◌, ◌++◌, Option, Some, None, option_map, refl, sym, ap, ◌∙◌, append_assoc}
use Rattle.std.proofs.lemmas.List.{append-nil}
use Rattle.std.specs.List.{filter_map}
use Rattle.serde_json.specs.Data.{Data, array, no_items, item}
use Rattle.serde_json.specs.View.{items_of}
use Rattle.fed_json.specs.Editing.{item_after}
use Rattle.fed_room_contract.specs.State.{StateKey}
use Rattle.fed_c.specs.Selection.{key_value}
use Rattle.fed_c.specs.ListParts.{with_items}
use Rattle.fed_c.specs.SelectionParts.{with_keys}

item_after-items_of : (d : Data) (ds : List Data) → item_after d (items_of ds) ≡ items_of (ds ++ d ∷ [])
item_after-items_of d [] = refl
item_after-items_of d (e ∷ ds) = ap (item e) (item_after-items_of d ds)

with_items-items : (ds es : List Data) → with_items (array (items_of ds)) es ≡ array (items_of (ds ++ es))
with_items-items ds [] = ap (λ fs. array (items_of fs)) (sym (append-nil ds))
with_items-items ds (e ∷ es) =
    ap (λ items. with_items (array items) es) (item_after-items_of e ds) ∙ with_items-items (ds ++ e ∷ []) es ∙ ap (λ fs. array (items_of fs)) (append_assoc ds (e ∷ []) es)

pub all_listed : (ds : List Data) → with_items (array no_items) ds ≡ array (items_of ds)
all_listed ds = with_items-items [] ds

with_keys-items : (ds : List Data) (keys : List (Option StateKey)) → with_keys (array (items_of ds)) keys ≡ array (items_of (ds ++ filter_map (option_map key_value) keys))
with_keys-items ds [] = ap (λ es. array (items_of es)) (sym (append-nil ds))
with_keys-items ds (None ∷ keys) = with_keys-items ds keys
with_keys-items ds (Some key ∷ keys) =
    ap (λ items. with_keys (array items) keys) (item_after-items_of (key_value key) ds) ∙ with_keys-items (ds ++ key_value key ∷ []) keys
    ∙ ap (λ es. array (items_of es)) (append_assoc ds (key_value key ∷ []) (filter_map (option_map key_value) keys))

pub keys_listed : (keys : List (Option StateKey)) → with_keys (array no_items) keys ≡ array (items_of (filter_map (option_map key_value) keys))
keys_listed keys = with_keys-items [] keys
