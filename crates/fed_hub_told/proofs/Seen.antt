-- Things that are seen through a function.
use Rattle.std.proofs.Common.{◌≡◌, ◌↔◌, IsTrue, ℕ, ◌-◌, ◌==◌, Bool, true, false, if◌then◌else◌, List, map, Option, Some, None, option_map, IfOk, Result, Ok, Err, refl, sym, subst}
use Rattle.std.specs.Prelude.{IsSomeAnd, slice_get, flat_map}
use Rattle.std.proofs.lemmas.Option.{slice_get-map}
use Rattle.std.proofs.lemmas.List.{length-map}
use Rattle.std.proofs.lemmas.List.Elements.{All-weaker}
use Rattle.fed_hub_told.specs.Numbers.{AreEachOnce, numbered}
use Rattle.fed_hub_told.specs.AsTold.{IsClientAsTold, AreAsTold}

some_and : {X Y : Type 0} (see : X → Y) (P : Y → Type 0) (o : Option X) → IsSomeAnd o (λ x. P (see x)) ↔ IsSomeAnd (option_map see o) P
some_and see P None = ((λ is. is), (λ is. is))
some_and see P (Some x) = ((λ is. is), (λ is. is))

numbered-map : {X Y : Type 0} (see : X → Y) (things : List X) (n : ℕ) → numbered (map see things) n ≡ option_map see (numbered things n)
numbered-map see things n = by (n == 0)
  where
    by : (b : Bool) → (if b then None else slice_get (map see things) (n - 1)) ≡ option_map see (if b then None else slice_get things (n - 1))
    by true = refl
    by false = slice_get-map see things (n - 1)

module _ {T X Y : Type 0} (number : T → ℕ) (IsOf : T → Y → Type 0) (see : X → Y) (things : List X) where
  is_of_seen : (t : T) → IsSomeAnd (numbered things (number t)) (λ x. IsOf t (see x)) ↔ IsSomeAnd (numbered (map see things) (number t)) (IsOf t)
  is_of_seen t = subst (λ o. IsSomeAnd (numbered things (number t)) (λ x. IsOf t (see x)) ↔ IsSomeAnd o (IsOf t)) (sym (numbered-map see things (number t))) (some_and see (IsOf t) (numbered things (number t)))

  client_seen : (told : List T) → IsClientAsTold number (λ t x. IsOf t (see x)) things told ↔ IsClientAsTold number IsOf (map see things) told
  client_seen told = (
    (λ is. record { rising = is.rising; same = All-weaker _ _ (λ t. (is_of_seen t).0) told is.same }),
    (λ is. record { rising = is.rising; same = All-weaker _ _ (λ t. (is_of_seen t).1) told is.same }),
  )

  seen : (told : List (List T)) → AreAsTold number (λ t x. IsOf t (see x)) things told ↔ AreAsTold number IsOf (map see things) told
  seen told = (
    (λ is. record { each = All-weaker _ _ (λ t. (client_seen t).0) told is.each; once = subst (λ n. AreEachOnce n (flat_map (map number) told)) (sym (length-map things see)) is.once }),
    (λ is. record { each = All-weaker _ _ (λ t. (client_seen t).1) told is.each; once = subst (λ n. AreEachOnce n (flat_map (map number) told)) (length-map things see) is.once }),
  )

  -- what a comparison answers, of what the things and the lists of notes are seen as
  pub answer_seen : {E : Type 0} (those : List Y) (told lists : List (List T)) (result : Result Bool E) → map see things ≡ those → told ≡ lists
      → IfOk result (λ are. IsTrue are ↔ AreAsTold number (λ t x. IsOf t (see x)) things told) → IfOk result (λ are. IsTrue are ↔ AreAsTold number IsOf those lists)
  answer_seen those told lists (Err e) same_things same_lists is = is
  answer_seen those told lists (Ok are) same_things same_lists is =
      subst (λ ys. IsTrue are ↔ AreAsTold number IsOf ys lists) same_things
      (subst (λ ts. IsTrue are ↔ AreAsTold number IsOf (map see things) ts) same_lists
      ((λ yes. (seen told).0 (is.0 yes)), (λ told_so. is.1 ((seen told).1 told_so))))
