-- What parameters have under the four names, one parameter after another.
use Rattle.std.proofs.Common.{◌≡◌, ◌≢◌, ℕ, ◌+◌, ◌≤◌, Bool, true, false, cond, List, [], ◌∷◌, ◌++◌, length, map, codes, bytes_eq, Option, Some, None, refl, sym, ap, ◌∙◌, arith, length-append}
use Rattle.std.proofs.lemmas.List.{append-nil}
use Rattle.std.proofs.lemmas.Slice.Eq.{bytes_eq-Decides}
use Rattle.std.specs.Char.{to_ascii_lowercase}
use Rattle.std.specs.Option.{option_to_list}
use Rattle.fed_http.specs.XMatrix.{Parameter, values_under}
use Rattle.fed_http.specs.XMatrixParts.{IsTwice, DoesNotSay}

pub values_under-append : (name : List ℕ) (ps qs : List Parameter) → values_under name (ps ++ qs) ≡ values_under name ps ++ values_under name qs
values_under-append name [] qs = refl
values_under-append name (p ∷ ps) qs = by (bytes_eq (map to_ascii_lowercase p.0) name) (values_under-append name ps qs)
  where
    by : (b : Bool) → values_under name (ps ++ qs) ≡ values_under name ps ++ values_under name qs
        → cond b (p.1 ∷ values_under name (ps ++ qs)) (values_under name (ps ++ qs)) ≡ cond b (p.1 ∷ values_under name ps) (values_under name ps) ++ values_under name qs
    by true h = ap (λ t. p.1 ∷ t) h
    by false h = h

has : (b : Bool) (value : List ℕ) → b ≡ true → cond b (value ∷ []) [] ≡ value ∷ []
has true value h = refl
has false value h = absurd (cc)

has_not : (b : Bool) (value : List ℕ) → b ≡ false → cond b (value ∷ []) [] ≡ []
has_not true value h = absurd (cc)
has_not false value h = refl

is_false : (b : Bool) → (b ≡ true → ⊥) → b ≡ false
is_false true h = absurd (h refl)
is_false false h = refl

-- a parameter of the name, and one of another
pub values_under-named : (name : List ℕ) (ps : List Parameter) (p : Parameter) → map to_ascii_lowercase p.0 ≡ name → values_under name (ps ++ p ∷ []) ≡ values_under name ps ++ p.1 ∷ []
values_under-named name ps p is =
    values_under-append name ps (p ∷ []) ∙ ap (λ t. values_under name ps ++ t) (has (bytes_eq (map to_ascii_lowercase p.0) name) p.1 ((bytes_eq-Decides (map to_ascii_lowercase p.0) name).1 is))

pub values_under-other : (name : List ℕ) (ps : List Parameter) (p : Parameter) → map to_ascii_lowercase p.0 ≢ name → values_under name (ps ++ p ∷ []) ≡ values_under name ps
values_under-other name ps p other =
    values_under-append name ps (p ∷ []) ∙ ap (λ t. values_under name ps ++ t) (has_not (bytes_eq (map to_ascii_lowercase p.0) name) p.1 (is_false _ (λ same. other ((bytes_eq-Decides (map to_ascii_lowercase p.0) name).0 same)))) ∙ append-nil _

-- of a name that is there twice a header says nothing
more_than_one : (name : List ℕ) (ps more : List Parameter) (values : List (List ℕ)) → IsTwice name ps → values_under name (ps ++ more) ≡ values → length values ≤ 1 → ⊥
more_than_one name ps more values twice is few =
    let whole : length values ≡ length (values_under name ps) + length (values_under name more) = ap length (sym is ∙ values_under-append name ps more) ∙ length-append (values_under name ps) (values_under name more) in
    omega (arith, whole, twice, few)

pub twice_origin : (ps : List Parameter) → IsTwice (codes "origin") ps → DoesNotSay ps
twice_origin ps twice more h says = more_than_one (codes "origin") ps more _ twice says.origin (omega arith)

length-option : (o : Option (List ℕ)) → length (option_to_list o) ≤ 1
length-option None = omega arith
length-option (Some x) = omega arith

pub twice_destination : (ps : List Parameter) → IsTwice (codes "destination") ps → DoesNotSay ps
twice_destination ps twice more h says = more_than_one (codes "destination") ps more _ twice says.destination (length-option h.destination)

pub twice_key : (ps : List Parameter) → IsTwice (codes "key") ps → DoesNotSay ps
twice_key ps twice more h says = more_than_one (codes "key") ps more _ twice says.key (omega arith)

pub twice_signature : (ps : List Parameter) → IsTwice (codes "sig") ps → DoesNotSay ps
twice_signature ps twice more h says = more_than_one (codes "sig") ps more _ twice says.signature.1 (omega arith)
