-- Room for an id.
use Rattle.std.proofs.Common.{◌≡◌, ℕ, List, Bool, true, false, cond, if◌then◌else◌, nat_cmp, Option, None, Some, IsSome, is_some, ◌≢◌, ◌⊎◌, inl, inr, refl, sym, ap, ◌∙◌, subst, Ordering}
use Rattle.std.specs.FinMap as finite
use Rattle.std.specs.Ordering.{eq_by_cmp}
use Rattle.std.specs.Cmp.{tied_itself}
use Rattle.std.specs.Cmp.Lexicographic.{slice_cmp, nat_list_cmp_total}
use Rattle.std.specs.Ordering.{is_eq}
use Rattle.fed_room_contract.specs.Places.{PlaceMap, place_in, place_at, with_room_for, without_room_for, with_room_in_place_of}
use Rattle.std.specs.Str.{bytes_eq}
use Rattle.std.proofs.lemmas.Slice.Eq.{bytes_eq-Decides}
use Rattle.fed_room_contract.proofs.Filled.{tied}
use Rattle.fed_room_contract.proofs.TextUpdates.{text_order_same}

abbrev order : List ℕ → List ℕ → Ordering
order = slice_cmp nat_cmp

is_none : (o : Option (Option ℕ)) → is_some o ≡ false → o ≡ None
is_none None h = refl
is_none (Some x) h = absurd (cc)

no_place : (places : PlaceMap) (id q : List ℕ) → finite.contains_key places id ≡ false → place_at (finite.insert places id None) q ≡ place_at places q
no_place places id q absent = ap place_in (finite.get-insert nat_list_cmp_total places id None q) ∙ by (eq_by_cmp order q id) refl
  where
    by : (b : Bool) → eq_by_cmp order q id ≡ b → place_in (cond b (Some None) (finite.get places q)) ≡ place_at places q
    by true t = sym (ap place_in (sym (finite.get_tied nat_list_cmp_total places q id (tied _ t)) ∙ is_none _ absent))
    by false t = refl

-- room changes no place
pub place_at-room : (places : PlaceMap) (id q : List ℕ) → place_at (with_room_for places id) q ≡ place_at places q
place_at-room places id q = by (finite.contains_key places id) refl
  where
    by : (b : Bool) → finite.contains_key places id ≡ b → place_at (if finite.contains_key places id then places else finite.insert places id None) q ≡ place_at places q
    by true t = ap (λ b. place_at (if b then places else finite.insert places id None) q) t
    by false t = ap (λ b. place_at (if b then places else finite.insert places id None) q) t ∙ no_place places id q t

pub room_is_made : (places : PlaceMap) (id : List ℕ) → IsSome (finite.get (with_room_for places id) id)
room_is_made places id = by (finite.contains_key places id) refl
  where
    made : (b : Bool) → is_eq (order id id) ≡ b → IsSome (cond b (Some None) (finite.get places id))
    made true t = refl
    made false t = let here = ap is_eq (tied_itself nat_list_cmp_total id) in absurd (cc)

    by : (b : Bool) → finite.contains_key places id ≡ b → IsSome (finite.get (if finite.contains_key places id then places else finite.insert places id None) id)
    by true t = subst (λ b. IsSome (finite.get (if b then places else finite.insert places id None) id)) (sym t) t
    by false t = subst (λ b. IsSome (finite.get (if b then places else finite.insert places id None) id)) (sym t) (subst IsSome (sym (finite.get-insert nat_list_cmp_total places id None id)) (made (eq_by_cmp order id id) refl))

-- ---- room that is taken back

pub itself : (id : List ℕ) → eq_by_cmp order id id ≡ true
itself id = ap is_eq (tied_itself nat_list_cmp_total id)

-- of an id without a place
gone : (places : PlaceMap) (id q : List ℕ) → is_some (place_at places id) ≡ false → place_at (finite.remove places id) q ≡ place_at places q
gone places id q h = ap place_in (finite.get-remove nat_list_cmp_total places id q) ∙ by (eq_by_cmp order q id) refl
  where
    no_place_in : (o : Option (Option ℕ)) → is_some (place_in o) ≡ false → place_in o ≡ None
    no_place_in None t = refl
    no_place_in (Some None) t = refl
    no_place_in (Some (Some n)) t = absurd (cc)

    by : (b : Bool) → eq_by_cmp order q id ≡ b → place_in (cond b None (finite.get places q)) ≡ place_at places q
    by true t = sym (no_place_in (finite.get places q) (ap (λ o. is_some (place_in o)) (sym (finite.get_tied nat_list_cmp_total places q id (tied _ t))) ∙ h))
    by false t = refl

place_at-taken : (places : PlaceMap) (id q : List ℕ) → place_at (without_room_for places id) q ≡ place_at places q
place_at-taken places id q = by (is_some (place_at places id)) refl
  where
    by : (b : Bool) → is_some (place_at places id) ≡ b → place_at (if b then places else finite.remove places id) q ≡ place_at places q
    by true t = refl
    by false t = gone places id q t

taken_stays : (places : PlaceMap) (id q : List ℕ) → q ≢ id → IsSome (finite.get places q) → IsSome (finite.get (without_room_for places id) q)
taken_stays places id q apart h = by (is_some (place_at places id))
  where
    left : (b : Bool) → eq_by_cmp order q id ≡ b → IsSome (cond b None (finite.get places q))
    left true t = absurd (apart (text_order_same q id (tied _ t)))
    left false t = h

    by : (b : Bool) → IsSome (finite.get (if b then places else finite.remove places id) q)
    by true = h
    by false = subst IsSome (sym (finite.get-remove nat_list_cmp_total places id q)) (left (eq_by_cmp order q id) refl)

-- room that is left was there, and for another id
room_left : (places : PlaceMap) (id q : List ℕ) → finite.get (without_room_for places id) q ≡ Some None → (finite.get places q ≡ Some None) × (q ≢ id)
room_left places id q = by (is_some (place_at places id)) refl
  where
    left : (b : Bool) → eq_by_cmp order q id ≡ b → cond b None (finite.get places q) ≡ Some None → (finite.get places q ≡ Some None) × (q ≢ id)
    left true t h = absurd (cc)
    left false t h = (h, λ e. let here = itself id in let same = ap (λ i. eq_by_cmp order i id) e in absurd (cc))

    by : (b : Bool) → is_some (place_at places id) ≡ b → finite.get (if b then places else finite.remove places id) q ≡ Some None → (finite.get places q ≡ Some None) × (q ≢ id)
    by true t h = (h, λ e. let none = ap (λ o. is_some (place_in o)) h in let same = ap (λ i. is_some (place_at places i)) e in absurd (cc))
    by false t h = left (eq_by_cmp order q id) refl (sym (finite.get-remove nat_list_cmp_total places id q) ∙ h)

-- room was there, or is that of the id
room_more : (places : PlaceMap) (id q : List ℕ) → finite.get (with_room_for places id) q ≡ Some None → (q ≡ id) ⊎ (finite.get places q ≡ Some None)
room_more places id q = by (finite.contains_key places id)
  where
    more : (b : Bool) → eq_by_cmp order q id ≡ b → cond b (Some None) (finite.get places q) ≡ Some None → (q ≡ id) ⊎ (finite.get places q ≡ Some None)
    more true t h = inl (text_order_same q id (tied _ t))
    more false t h = inr h

    by : (b : Bool) → finite.get (if b then places else finite.insert places id None) q ≡ Some None → (q ≡ id) ⊎ (finite.get places q ≡ Some None)
    by true h = inr h
    by false h = more (eq_by_cmp order q id) refl (sym (finite.get-insert nat_list_cmp_total places id None q) ∙ h)

-- ---- room in place of that for the id before

pub place_at-moved : (places : PlaceMap) (before : Option (List ℕ)) (id q : List ℕ) → place_at (with_room_in_place_of places before id) q ≡ place_at places q
place_at-moved places None id q = place_at-room places id q
place_at-moved places (Some b) id q =
    elim (bytes_eq b id) as (λ same. place_at (if same then with_room_for places id else without_room_for (with_room_for places id) b) q ≡ place_at places q)
    [ true ↦ place_at-room places id q | false ↦ place_at-taken (with_room_for places id) b q ∙ place_at-room places id q ]

pub moved_is_made : (places : PlaceMap) (before : Option (List ℕ)) (id : List ℕ) → IsSome (finite.get (with_room_in_place_of places before id) id)
moved_is_made places None id = room_is_made places id
moved_is_made places (Some b) id = by (bytes_eq b id) refl
  where
    by : (same : Bool) → bytes_eq b id ≡ same → IsSome (finite.get (if same then with_room_for places id else without_room_for (with_room_for places id) b) id)
    by true t = room_is_made places id
    by false t = taken_stays (with_room_for places id) b id (λ e. let same = (bytes_eq-Decides b id).1 (sym e) in absurd (cc)) (room_is_made places id)

-- there is no other room
pub moved_once : (places : PlaceMap) (before : Option (List ℕ)) (id : List ℕ) → ((q : List ℕ) → finite.get places q ≡ Some None → before ≡ Some q)
    → (q : List ℕ) → finite.get (with_room_in_place_of places before id) q ≡ Some None → q ≡ id
moved_once places before id once q = by before once
  where
    either : (o : Option (List ℕ)) → ((q : List ℕ) → finite.get places q ≡ Some None → o ≡ Some q) → (o ≡ Some q → q ≡ id) → (q ≡ id) ⊎ (finite.get places q ≡ Some None) → q ≡ id
    either o once only (inl e) = e
    either o once only (inr r) = only (once q r)

    chosen : (b : List ℕ) → ((q : List ℕ) → finite.get places q ≡ Some None → Some b ≡ Some q) → (same : Bool) → bytes_eq b id ≡ same
        → finite.get (if same then with_room_for places id else without_room_for (with_room_for places id) b) q ≡ Some None → q ≡ id
    chosen b once true t h = either (Some b) once (λ e. let same = (bytes_eq-Decides b id).0 t in cc) (room_more places id q h)
    chosen b once false t h =
        let left = room_left (with_room_for places id) b q h in
        let apart = left.1 in
        either (Some b) once (λ e. let same : b ≡ q = cc in absurd (apart (sym same))) (room_more places id q left.0)

    by : (o : Option (List ℕ)) → ((q : List ℕ) → finite.get places q ≡ Some None → o ≡ Some q) → finite.get (with_room_in_place_of places o id) q ≡ Some None → q ≡ id
    by None once h = either None once (λ e. absurd (cc)) (room_more places id q h)
    by (Some b) once h = chosen b once (bytes_eq b id) refl h
