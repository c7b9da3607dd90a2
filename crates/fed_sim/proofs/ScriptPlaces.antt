-- The places of servers that are named.
use Rattle.std.proofs.Common.{◌≡◌, ◌==◌, ◌++◌, ◌∷◌, ◌<◌, ◌||◌, ℕ, List, [], Bool, true, false, Some, None, length, get_or, is_some, refl, sym, ap, ◌∙◌}
use Rattle.std.specs.List.{IsDistinct, filter_map}
use Rattle.std.specs.Ordering.{nat_cmp}
use Rattle.std.specs.List.Sorted.{IsPermutation, IsSortedByKey}
use Rattle.std.proofs.lemmas.Bool.Decides.{Decides-eqb}
use Rattle.std.proofs.lemmas.List.Elements.{filter_map-append}
use Rattle.std.proofs.lemmas.List.Folds.{list_any-append, list_all-append, list_all_at}
use Rattle.std.proofs.lemmas.List.Sorted.{list_any-IsPermutation}
use Rattle.fed_dest.specs.List.{place_of}
use Rattle.fed_dest.specs.ServerSet.{is_among}
use Rattle.fed_sim.specs.ScriptSteps.{ArePlaces, are_listed}
use Rattle.fed_sim.proofs.Places.{none_twice, one_more, sorted_rise}

-- these are the places of these names, each once
pub record Gathered (servers names : List (List ℕ)) (places : List ℕ) : Type 0 where
  pub once : IsDistinct ◌==◌ places
  pub named : (place : ℕ) → is_among places place ≡ is_among (filter_map (place_of servers) names) place
  pub listed : are_listed servers names ≡ true

pub gathered_none : (servers : List (List ℕ)) (places : List ℕ) → places ≡ [] → Gathered servers [] places
gathered_none servers places none = record { once = none_twice places none; named = λ place. ap (λ xs. is_among xs place) none; listed = refl }

one_more_place : (servers names : List (List ℕ)) (name : List ℕ) (place other : ℕ) → place_of servers name ≡ Some place
    → is_among (filter_map (place_of servers) (names ++ name ∷ [])) other ≡ (is_among (filter_map (place_of servers) names) other || ((place == other) || false))
one_more_place servers names name place other found =
    rw (filter_map-append (place_of servers) names (name ∷ []), found) (list_any-append (λ p. p == other) (filter_map (place_of servers) names) (place ∷ []))

still_listed : (servers names : List (List ℕ)) (name : List ℕ) (place : ℕ) → place_of servers name ≡ Some place → are_listed servers names ≡ true → are_listed servers (names ++ name ∷ []) ≡ true
still_listed servers names name place found all =
    list_all-append (λ n. is_some (place_of servers n)) names (name ∷ []) ∙ rw (all, found) refl

absorbed : (b c : Bool) → (c ≡ true → b ≡ true) → b ≡ (b || (c || false))
absorbed true c there = refl
absorbed false false there = refl
absorbed false true there = there refl

-- a name whose server is among them
pub gathered_again : (servers names : List (List ℕ)) (places : List ℕ) (name : List ℕ) (place : ℕ) → place_of servers name ≡ Some place → is_among places place ≡ true → Gathered servers names places
    → Gathered servers (names ++ name ∷ []) places
gathered_again servers names places name place found there g = record {
  once = g.once;
  named = λ other.
      let here : is_among places other ≡ (is_among places other || ((place == other) || false)) =
      absorbed (is_among places other) (place == other) (λ same. ap (is_among places) (sym ((Decides-eqb place other).0 same)) ∙ there) in
      here ∙ ap (λ b. b || ((place == other) || false)) (g.named other) ∙ sym (one_more_place servers names name place other found);
  listed = still_listed servers names name place found g.listed;
}

-- one whose server is not
pub gathered_new : (servers names : List (List ℕ)) (places after : List ℕ) (name : List ℕ) (place : ℕ) → place_of servers name ≡ Some place → is_among places place ≡ false → after ≡ places ++ place ∷ []
    → Gathered servers names places → Gathered servers (names ++ name ∷ []) after
gathered_new servers names places after name place found other grown g = record {
  once = one_more places after place grown other g.once;
  named = λ p.
      ap (λ xs. is_among xs p) grown ∙ list_any-append (λ q. q == p) places (place ∷ []) ∙ ap (λ b. b || ((place == p) || false)) (g.named p) ∙ sym (one_more_place servers names name place p found);
  listed = still_listed servers names name place found g.listed;
}

pub gathered_all : (servers names : List (List ℕ)) (places sorted : List ℕ) → Gathered servers names places → IsPermutation places sorted → IsSortedByKey (λ x. x) nat_cmp sorted → ArePlaces servers names sorted
gathered_all servers names places sorted g moved up = record {
  listed = g.listed;
  rising = sorted_rise places sorted g.once moved up;
  named = λ place. sym (list_any-IsPermutation (λ p. p == place) places sorted moved) ∙ g.named place;
}

-- one of the names is not listed
pub not_listed : (servers names : List (List ℕ)) (name : List ℕ) (k : ℕ) → k < length names → name ≡ get_or names k name → place_of servers name ≡ None → are_listed servers names ≡ false
not_listed servers names name k within at none =
    list_all_at (λ n. is_some (place_of servers n)) names k name within (ap (λ n. is_some (place_of servers n)) (sym at) ∙ ap is_some none)
