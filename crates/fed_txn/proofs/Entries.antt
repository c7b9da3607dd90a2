-- The finite map that the entries of a `Verdicts` stand for.
use Rattle.std.proofs.Common.{◌≡◌, ℕ, List, [], ◌∷◌, map, length, true, false, is_some, Option, option_map, string_bytes, String, refl, ap, ◌∙◌}
use Rattle.std.proofs.lemmas.Str.{IsUtf8-string_bytes, is_utf8-from_IsUtf8}
use Rattle.std.specs.declared.alloc.Global.{Global}
use Rattle.std.specs.FinMap as finite
use Rattle.std.specs.List.{list_all}
use Rattle.std.specs.Map.{lookup}
use Rattle.std.specs.BTreeMap.{insert_entry}
use Rattle.std.specs.String.{string_cmp}
use Rattle.std.specs.Str.{is_utf8}
use Rattle.fed_json.proofs.TextMaps as texts
use Rattle.fed_txn.specs.Verdicts.{VerdictMap, HasTextIds, with_verdict}
use Rattle.fed_txn.specs.VerdictEntries.{Entry, entry_bytes, map_of}

-- an error's text by its bytes
abbrev pub error_bytes : Option (String Global) → Option (List ℕ)
error_bytes error = option_map string_bytes error

abbrev pub AreSorted : List Entry → Type 0
AreSorted = texts.AreSorted error_bytes

pub entries_map_of : (es : List Entry) → AreSorted es → finite.entries (map_of es) ≡ map entry_bytes es
entries_map_of es h = texts.entries-text_map error_bytes es h

pub len_map_of : (es : List Entry) → AreSorted es → finite.len (map_of es) ≡ length es
len_map_of es h = texts.len-text_map error_bytes es h

pub map_of_none : (es : List Entry) → es ≡ [] → map_of es ≡ finite.empty
map_of_none es e = texts.text_map-none error_bytes es e

pub get_map_of : (es : List Entry) → AreSorted es → (id : List ℕ) → finite.get (map_of es) id ≡ option_map error_bytes (lookup (texts.at id) es)
get_map_of es h id = texts.get-text_map error_bytes es h id

pub contains_map_of : (es : List Entry) → AreSorted es → (id : List ℕ) → is_some (lookup (texts.at id) es) ≡ finite.contains_key (map_of es) id
contains_map_of es h id = texts.contains_key-text_map error_bytes es h id

pub map_of_insert : (es fs : List Entry) (k : String Global) (v : Option (String Global)) → AreSorted es → AreSorted fs → fs ≡ insert_entry string_cmp es k v → map_of fs ≡ finite.insert (map_of es) (string_bytes k) (error_bytes v)
map_of_insert es fs k v h g e = texts.text_map-insert error_bytes es fs k v h g e

all_texts : (es : List Entry) → list_all is_utf8 (map (λ f. f.0) (map entry_bytes es)) ≡ true
all_texts [] = refl
all_texts (e ∷ es) = rw (is_utf8-from_IsUtf8 (string_bytes e.0) (IsUtf8-string_bytes e.0)) (all_texts es)

-- a `String` is UTF-8
pub ids_map_of : (es : List Entry) → AreSorted es → HasTextIds (map_of es)
ids_map_of es h = ap (λ fs. list_all is_utf8 (map (λ f. f.0) fs)) (texts.entries-text_map error_bytes es h) ∙ all_texts es

pub with_verdict_new : (v : VerdictMap) (id : List ℕ) (error : Option (List ℕ)) → finite.contains_key v id ≡ false → with_verdict v id error ≡ finite.insert v id error
with_verdict_new v id error h = rw h
