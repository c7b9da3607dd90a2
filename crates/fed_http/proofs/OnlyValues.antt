-- The value of the only field of a name.
use Rattle.std.proofs.Common.{◌≡◌, ◌≤◌, ℕ, ◌+◌, ◌<◌, List, [], ◌∷◌, ◌++◌, length, drop, map, slice_index_or, sym, ap, ◌∙◌, Option, Some, None, Bor, option_map}
use Rattle.std.specs.Char.{to_ascii_lowercase}
use Rattle.std.proofs.lemmas.List.{drop_more, drop_all}
use Rattle.fed_http.specs.Framing.{values_of, only_of}
use Rattle.fed_http.proofs.Values.{hit, miss, same_text, other_text, found_list}

abbrev pub FieldValue : Type 0
FieldValue = List ℕ × List ℕ

-- the field at i has the name, or has not
pub named_there : (name : List ℕ) (fields : List FieldValue) (i : ℕ) (f : FieldValue) → i < length fields → f ≡ slice_index_or fields i f → map to_ascii_lowercase f.0 ≡ map to_ascii_lowercase name
    → values_of name (drop i fields) ≡ f.1 ∷ values_of name (drop (i + 1) fields)
named_there name fields i f within is same =
    ap (values_of name) (drop_more fields i f within ∙ ap (λ (x : FieldValue). x ∷ drop (i + 1) fields) (sym is)) ∙ hit name f (drop (i + 1) fields) (same_text f.0 name same)

pub unnamed_there : (name : List ℕ) (fields : List FieldValue) (i : ℕ) (f : FieldValue) → i < length fields → f ≡ slice_index_or fields i f → ¬ (map to_ascii_lowercase f.0 ≡ map to_ascii_lowercase name)
    → values_of name (drop i fields) ≡ values_of name (drop (i + 1) fields)
unnamed_there name fields i f within is other =
    ap (values_of name) (drop_more fields i f within ∙ ap (λ (x : FieldValue). x ∷ drop (i + 1) fields) (sym is)) ∙ miss name f (drop (i + 1) fields) (other_text f.0 name other)

-- what was found, where nothing is left
pub found_only : (found : Option (Bor (List ℕ))) (values : List (List ℕ)) → found_list found ++ [] ≡ values → option_map (λ (v : Bor (List ℕ)). v.now) found ≡ only_of values
found_only None values e = ap only_of e
found_only (Some v) values e = ap only_of e

-- two of them
pub not_only : (values : List (List ℕ)) → ((a : List ℕ) × (b : List ℕ) × (others : List (List ℕ)) × (values ≡ a ∷ b ∷ others)) → None ≡ only_of values
not_only values (a, b, others, e) = sym (ap only_of e)

-- past the end nothing is left
pub none_left : (name : List ℕ) (fields : List FieldValue) (i : ℕ) → length fields ≤ i → values_of name (drop i fields) ≡ []
none_left name fields i past = ap (values_of name) (drop_all i fields past)
