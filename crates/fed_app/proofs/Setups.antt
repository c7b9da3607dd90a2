-- Texts that make a list of servers, or none.
use Rattle.std.proofs.Common.{◌≡◌, ◌∙◌, ap, ◌==◌, ◌+◌, ◌<◌, ◌≤◌, ◌⊎◌, inl, inr, ℕ, zero, suc, Bool, true, false, ◌||◌, cond, List, [], ◌∷◌, ◌++◌, length, length-append, map, bytes_eq, nat_lt, subst, sym, get_or, take, Option, Some, None, IfSome, IfNone, Result, Ok, Err, IsErrOf, refl, arith}
use Rattle.std.specs.Prelude.{IsErrAnd, fold}
use Rattle.std.specs.List.{list_any}
use Rattle.std.proofs.Math.Nat.{le_refl}
use Rattle.std.proofs.lemmas.Bool.{cases_Bool}
use Rattle.std.proofs.lemmas.Bool.Decides.{nat_tests}
use Rattle.std.proofs.lemmas.List.{take_more, map-append}
use Rattle.std.proofs.lemmas.List.Sums.{fold-append}
use Rattle.std.proofs.lemmas.List.Folds.{list_any-append}
use Rattle.fed_dest.specs.List.{has_doubled, list_fault}
use Rattle.fed_dest.specs.declared.list.ListFault.TheVariants.{Empty, TooMany, Doubled}
use Rattle.fed_app.specs.Servers.{with_name, each_once}
use Rattle.fed_dest.specs.declared.server_name.NameFault.{NameFault}
use Rattle.fed_dest.specs.declared.server_name.NameFault.TheVariants as name
use Rattle.fed_app.specs.declared.setup.SetupFault.{SetupFault}
use Rattle.fed_app.specs.declared.setup.SetupFault.TheVariants.{BadServers}
use Rattle.fed_app.specs.Servers.{IsFaultOfName}

pub at_map : {X Y : Type 0} (f : X → Y) (xs : List X) (i : ℕ) (d : X) → get_or (map f xs) i (f d) ≡ f (get_or xs i d)
at_map f [] i d = refl
at_map f (x ∷ xs) zero d = refl
at_map f (x ∷ xs) (suc i) d = at_map f xs i d

-- bad servers come of a bad name
pub bad_name_alone : {T : Type 0} (fault : NameFault) (r : Result T SetupFault) → IsErrAnd r (IsFaultOfName fault) → IsErrOf r BadServers → fault ≡ name.BadName
bad_name_alone name.BadName r is bad = refl
bad_name_alone name.Memory (Ok v) is bad = absurd is
bad_name_alone name.Memory (Err fault) is bad = absurd (cc)

-- an answer is no fault
pub no_fault_told : {T E : Type 0} (o : Option E) (r : Result T E) (v : T) → IfSome o (λ fault. r ≡ Err fault) → r ≡ Ok v → o ≡ None
no_fault_told None r v told ok = refl
no_fault_told (Some fault) r v told ok = absurd (cc)

-- a fault that is handed on stays the same
pub same_fault : {T : Type 0} (fault : SetupFault) (r : Result T SetupFault) → IsErrAnd r (λ e. e ≡ fault) → IsErrOf r BadServers → fault ≡ BadServers
same_fault fault (Ok v) is bad = absurd is
same_fault fault (Err e) is bad = cc

-- ---- names, each once

or_false : (a b : Bool) → (a || b) ≡ false → (a ≡ false) × (b ≡ false)
or_false true b h = absurd (cc)
or_false false b h = (refl, h)

-- a name behind others among which it is not
doubled_last : (names : List (List ℕ)) (name : List ℕ) → has_doubled names ≡ false
    → list_any (λ other. bytes_eq other name) names ≡ false → has_doubled (names ++ name ∷ []) ≡ false
doubled_last [] name single other = refl
doubled_last (n ∷ names) name single other =
    let one = or_false (list_any (bytes_eq n) names) (has_doubled names) single in
    let two = or_false (bytes_eq n name) (list_any (λ o. bytes_eq o name) names) other in
    let rest = doubled_last names name one.1 two.1 in
    let here = list_any-append (bytes_eq n) names (name ∷ []) in
    rw (here, one.0, two.0, rest) refl

with_name_single : (names : List (List ℕ)) (name : List ℕ) → has_doubled names ≡ false → has_doubled (with_name names name) ≡ false
with_name_single names name single = by (cases_Bool (list_any (λ other. bytes_eq other name) names))
  where
    by : (list_any (λ other. bytes_eq other name) names ≡ true) ⊎ (list_any (λ other. bytes_eq other name) names ≡ false)
        → has_doubled (with_name names name) ≡ false
    by (inl t) = subst (λ b. has_doubled (cond b names (names ++ name ∷ [])) ≡ false) (sym t) single
    by (inr f) = subst (λ b. has_doubled (cond b names (names ++ name ∷ [])) ≡ false) (sym f) (doubled_last names name single f)

all_single : (names more : List (List ℕ)) → has_doubled names ≡ false → has_doubled (fold with_name names more) ≡ false
all_single names [] single = single
all_single names (name ∷ more) single = all_single (with_name names name) more (with_name_single names name single)

with_name_more : (names : List (List ℕ)) (name : List ℕ) → length names ≤ length (with_name names name)
with_name_more names name =
    elim (list_any (λ other. bytes_eq other name) names) as (λ b. length names ≤ length (cond b names (names ++ name ∷ [])))
    [ true ↦ le_refl (length names) | false ↦ rw (length-append names (name ∷ [])) (omega arith) ]

all_more : (names more : List (List ℕ)) → length names ≤ length (fold with_name names more)
all_more names [] = le_refl (length names)
all_more names (name ∷ more) = omega (arith, with_name_more names name, all_more (with_name names name) more)

pub once_more : {X : Type 0} (g : X → List ℕ) (names : List (List ℕ)) (xs : List X) (i : ℕ) (d : X) → i < length xs
    → fold with_name names (map g (take (i + 1) xs)) ≡ with_name (fold with_name names (map g (take i xs))) (g (get_or xs i d))
once_more g names xs i d h =
    ap (λ ys. fold with_name names (map g ys)) (take_more xs i d h)
    ∙ ap (fold with_name names) (map-append g (take i xs) (get_or xs i d ∷ []))
    ∙ fold-append with_name names (map g (take i xs)) (g (get_or xs i d) ∷ [])

-- why names that stand each once make no list: there are none, or too many
no_fault : (n : ℕ) → 0 < n → n ≤ 64 → cond (n == 0) (Some Empty) (cond (nat_lt 64 n) (Some TooMany) None) ≡ None
no_fault n some most = grind (arith, nat_tests)

few : (n : ℕ) (d : Bool) → cond (n == 0) (Some Empty) (cond (nat_lt 64 n) (Some TooMany) (cond d (Some Doubled) None)) ≡ None → n ≤ 64
few n d h = grind (arith, nat_tests)

pub listed_once : (own : List ℕ) (names : List (List ℕ)) → length (each_once own names) ≤ 64 → list_fault (each_once own names) ≡ None
listed_once own names most =
    let single = all_single (own ∷ []) names refl in
    let some = all_more (own ∷ []) names in
    subst (λ d. cond (length (each_once own names) == 0) (Some Empty) (cond (nat_lt 64 (length (each_once own names))) (Some TooMany) (cond d (Some Doubled) None)) ≡ None)
    (sym single) (no_fault (length (each_once own names)) (omega (arith, some)) most)

pub most_listed : (names : List (List ℕ)) → list_fault names ≡ None → length names ≤ 64
most_listed names fine = few (length names) (has_doubled names) fine

-- what is said of no fault holds where there is none
pub when_none : {E : Type 0} (o : Option E) (P : Type 0) → IfNone o P → o ≡ None → P
when_none None P holds is = holds
when_none (Some fault) P holds is = absurd (cc)
