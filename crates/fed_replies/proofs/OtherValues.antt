-- Maps with other values, and the replies that stand at places of a list.
use Rattle.std.proofs.Common.{◌≡◌, ℕ, suc, ◌<◌, List, [], ◌∷◌, ◌++◌, map, length, get_or, Bool, true, false, ◌&&◌, cond, T, ◌⊎◌, inl, inr, Ordering, nat_cmp, Option, Some, None, option_map, refl, sym, ap, subst, ◌∙◌, arith}
use Rattle.std.specs.Option.{unwrap_or}
use Rattle.std.specs.Ordering.{is_lt, is_eq}
use Rattle.std.specs.Cmp.Lexicographic.{slice_cmp, nat_list_cmp_total}
use Rattle.std.specs.FinMap as finite
use Rattle.std.specs.FinMap.{find, is_sorted}
use Rattle.std.proofs.lemmas.Bool.{cases_Bool}
use Rattle.std.proofs.lemmas.List.{get_or_push, get_or_append_left}
use Rattle.fed_json.specs.TextMap.{TextMap}
use Rattle.fed_replies.specs.Kept.{replies_of, reply_at, with_reply}
use Rattle.fed_replies.specs.Places.{OriginPlaces, AllPlaces, places_of, place_at, with_place, map_values, replies_at}
use Rattle.fed_replies.proofs.Maps.{tied}

abbrev pub order : List ℕ → List ℕ → Ordering
order = slice_cmp nat_cmp

-- maps that give the same are the same
pub one_map : {X : Type 0} (m n : TextMap X) → ((q : List ℕ) → finite.get m q ≡ finite.get n q) → m ≡ n
one_map m n h = finite.same_map nat_list_cmp_total (finite.slice_cmp-IsAntisymmetric finite.nat_cmp-IsAntisymmetric) m n h

module _ {X Y : Type 0} (f : X → Y) where
  abbrev other : List ℕ × X → List ℕ × Y
  other e = (e.0, f e.1)

  same_below : (k : List ℕ) (es : List (List ℕ × X)) → finite.Entries.below_all order k (map other es) ≡ finite.Entries.below_all order k es
  same_below k [] = refl
  same_below k (e ∷ es) = ap (λ b. is_lt (order k e.0) && b) (same_below k es)

  same_sorted : (es : List (List ℕ × X)) → is_sorted order (map other es) ≡ is_sorted order es
  same_sorted [] = refl
  same_sorted (e ∷ es) = ap (λ b. b && is_sorted order (map other es)) (same_below e.0 es) ∙ ap (λ b. finite.Entries.below_all order e.0 es && b) (same_sorted es)

  same_find : (q : List ℕ) (es : List (List ℕ × X)) → find order q (map other es) ≡ option_map f (find order q es)
  same_find q [] = refl
  same_find q (e ∷ es) =
      elim (is_eq (order q e.0)) as (λ b. cond b (Some (f e.1)) (find order q (map other es)) ≡ option_map f (cond b (Some e.1) (find order q es)))
      [ true ↦ refl | false ↦ same_find q es ]

  pub get-map_values : (m : TextMap X) (q : List ℕ) → finite.get (map_values f m) q ≡ option_map f (finite.get m q)
  get-map_values m q =
      finite.get-from_sorted order (map other (finite.entries m)) q (subst T (sym (same_sorted (finite.entries m))) (finite.entries_sorted m))
      ∙ same_find q (finite.entries m) ∙ ap (option_map f) (sym (finite.get-entries m q))

  some_other : (b : Bool) (x : X) (o : Option X) → option_map f (cond b (Some x) o) ≡ cond b (Some (f x)) (option_map f o)
  some_other true x o = refl
  some_other false x o = refl

  pub map_values-insert : (m : TextMap X) (k : List ℕ) (x : X) → map_values f (finite.insert m k x) ≡ finite.insert (map_values f m) k (f x)
  map_values-insert m k x = one_map _ _ (λ q.
      get-map_values (finite.insert m k x) q ∙ ap (option_map f) (finite.get-insert nat_list_cmp_total m k x q) ∙ some_other (tied q k) x (finite.get m q)
      ∙ ap (cond (tied q k) (Some (f x))) (sym (get-map_values m q)) ∙ sym (finite.get-insert nat_list_cmp_total (map_values f m) k (f x) q))

  pub map_values-empty : map_values f finite.empty ≡ finite.empty
  map_values-empty = one_map _ _ (λ q. get-map_values finite.empty q ∙ ap (option_map f) (finite.get-empty order q) ∙ sym (finite.get-empty order q))

-- the values that are there decide
pub map_values-same : {X Y : Type 0} (f g : X → Y) (m : TextMap X) → ((q : List ℕ) (x : X) → finite.get m q ≡ Some x → f x ≡ g x) → map_values f m ≡ map_values g m
map_values-same {X} f g m h = one_map _ _ (λ q. get-map_values f m q ∙ by q (finite.get m q) refl ∙ sym (get-map_values g m q))
  where
    by : (q : List ℕ) (o : Option X) → finite.get m q ≡ o → option_map f (finite.get m q) ≡ option_map g (finite.get m q)
    by q None e = ap (option_map f) e ∙ sym (ap (option_map g) e)
    by q (Some x) e = ap (option_map f) e ∙ ap Some (h q x e) ∙ sym (ap (option_map g) e)

-- ---- places

pub no_places_of : (places : AllPlaces) (origin : List ℕ) → finite.get places origin ≡ None → places_of places origin ≡ finite.empty
no_places_of places origin h = ap (λ (o : Option OriginPlaces). unwrap_or o finite.empty) h

pub one_places_of : (places : AllPlaces) (origin : List ℕ) (m : OriginPlaces) → finite.get places origin ≡ Some m → places_of places origin ≡ m
one_places_of places origin m h = ap (λ (o : Option OriginPlaces). unwrap_or o finite.empty) h

pub no_place : (places : AllPlaces) (origin txn : List ℕ) → finite.get places origin ≡ None → place_at places origin txn ≡ None
no_place places origin txn h = ap (λ m. finite.get m txn) (no_places_of places origin h) ∙ finite.get-empty order txn

pub one_place : (places : AllPlaces) (origin txn : List ℕ) (m : OriginPlaces) → finite.get places origin ≡ Some m → place_at places origin txn ≡ finite.get m txn
one_place places origin txn m h = ap (λ n. finite.get n txn) (one_places_of places origin m h)

-- ---- replies at places

abbrev reply_in : List (List ℕ) → ℕ → List ℕ
reply_in replies place = get_or replies place []

pub reply_at-places : (replies : List (List ℕ)) (places : AllPlaces) (origin txn : List ℕ) → reply_at (replies_at replies places) origin txn ≡ option_map (reply_in replies) (place_at places origin txn)
reply_at-places replies places origin txn =
    ap (λ m. finite.get (unwrap_or m finite.empty) txn) (get-map_values (map_values (reply_in replies)) places origin) ∙ by (finite.get places origin)
  where
    by : (o : Option OriginPlaces) → finite.get (unwrap_or (option_map (map_values (reply_in replies)) o) finite.empty) txn ≡ option_map (reply_in replies) (finite.get (unwrap_or o finite.empty) txn)
    by None = finite.get-empty order txn ∙ sym (ap (option_map (reply_in replies)) (finite.get-empty order txn))
    by (Some m) = get-map_values (reply_in replies) m txn

replies_of-places : (replies : List (List ℕ)) (places : AllPlaces) (origin : List ℕ) → replies_of (replies_at replies places) origin ≡ map_values (reply_in replies) (places_of places origin)
replies_of-places replies places origin =
    ap (λ m. unwrap_or m finite.empty) (get-map_values (map_values (reply_in replies)) places origin) ∙ by (finite.get places origin)
  where
    by : (o : Option OriginPlaces) → unwrap_or (option_map (map_values (reply_in replies)) o) finite.empty ≡ map_values (reply_in replies) (unwrap_or o finite.empty)
    by None = sym (map_values-empty (reply_in replies))
    by (Some m) = refl

pub no_places : (replies : List (List ℕ)) → replies_at replies finite.empty ≡ finite.empty
no_places replies = map_values-empty (map_values (reply_in replies))

module _ (replies : List (List ℕ)) (places : AllPlaces) (placed : (origin txn : List ℕ) (place : ℕ) → place_at places origin txn ≡ Some place → place < length replies) (reply : List ℕ) where
  abbrev longer : List (List ℕ)
  longer = replies ++ reply ∷ []

  stays : (origin : List ℕ) (m : OriginPlaces) → finite.get places origin ≡ Some m → map_values (reply_in longer) m ≡ map_values (reply_in replies) m
  stays origin m e = map_values-same (reply_in longer) (reply_in replies) m (λ txn place h.
      get_or_append_left replies (reply ∷ []) [] place (placed origin txn place (ap (λ o. finite.get (unwrap_or o finite.empty) txn) e ∙ h)))

  of_origin : (origin : List ℕ) → map_values (reply_in longer) (places_of places origin) ≡ map_values (reply_in replies) (places_of places origin)
  of_origin origin = map_values-same (reply_in longer) (reply_in replies) (places_of places origin) (λ txn place h. get_or_append_left replies (reply ∷ []) [] place (placed origin txn place h))

  -- one more reply at the end, and its place
  pub replies_at-push : (origin txn : List ℕ) → replies_at longer (with_place places origin txn (length replies)) ≡ with_reply (replies_at replies places) origin txn reply
  replies_at-push origin txn =
      let others : replies_at longer places ≡ replies_at replies places = map_values-same (map_values (reply_in longer)) (map_values (reply_in replies)) places stays in
      let own : map_values (reply_in longer) (finite.insert (places_of places origin) txn (length replies)) ≡ finite.insert (replies_of (replies_at replies places) origin) txn reply =
      map_values-insert (reply_in longer) (places_of places origin) txn (length replies)
      ∙ ap (λ m. finite.insert m txn (reply_in longer (length replies))) (of_origin origin ∙ sym (replies_of-places replies places origin))
      ∙ ap (finite.insert (replies_of (replies_at replies places) origin) txn) (get_or_push replies reply [] (length replies) refl) in
      map_values-insert (map_values (reply_in longer)) places origin (finite.insert (places_of places origin) txn (length replies))
      ∙ ap (λ m. finite.insert m origin (map_values (reply_in longer) (finite.insert (places_of places origin) txn (length replies)))) others
      ∙ ap (finite.insert (replies_at replies places) origin) own

-- ---- one more place

place_at-after : (places : AllPlaces) (origin txn : List ℕ) (place : ℕ) (other number : List ℕ)
    → place_at (with_place places origin txn place) other number ≡ cond (tied other origin) (cond (tied number txn) (Some place) (place_at places origin number)) (place_at places other number)
place_at-after places origin txn place other number =
    ap (λ (o : Option OriginPlaces). finite.get (unwrap_or o finite.empty) number) (finite.get-insert nat_list_cmp_total places origin (finite.insert (places_of places origin) txn place) other)
    ∙ split (tied other origin)
    ∙ ap (λ r. cond (tied other origin) r (place_at places other number)) (finite.get-insert nat_list_cmp_total (places_of places origin) txn place number)
  where
    split : (b : Bool) → finite.get (unwrap_or (cond b (Some (finite.insert (places_of places origin) txn place)) (finite.get places other)) finite.empty) number
        ≡ cond b (finite.get (finite.insert (places_of places origin) txn place) number) (place_at places other number)
    split true = refl
    split false = refl

pub placed-more : (places : AllPlaces) (origin txn : List ℕ) (size : ℕ) → ((o t : List ℕ) (place : ℕ) → place_at places o t ≡ Some place → place < size)
    → (o t : List ℕ) (place : ℕ) → place_at (with_place places origin txn size) o t ≡ Some place → place < suc size
placed-more places origin txn size placed o t place h = by (cases_Bool (tied o origin)) (cases_Bool (tied t txn)) (sym (place_at-after places origin txn size o t) ∙ h)
  where
    by : (tied o origin ≡ true) ⊎ (tied o origin ≡ false) → (tied t txn ≡ true) ⊎ (tied t txn ≡ false)
        → cond (tied o origin) (cond (tied t txn) (Some size) (place_at places origin t)) (place_at places o t) ≡ Some place → place < suc size
    by (inr f) s e =
        let old : place_at places o t ≡ Some place = ap (λ b. cond b (cond (tied t txn) (Some size) (place_at places origin t)) (place_at places o t)) (sym f) ∙ e in
        let below = placed o t place old in
        omega arith
    by (inl q) (inl s) e =
        let new : Some size ≡ Some place = ap (λ b. cond b (Some size) (place_at places origin t)) (sym s) ∙ ap (λ b. cond b (cond (tied t txn) (Some size) (place_at places origin t)) (place_at places o t)) (sym q) ∙ e in
        let same : size ≡ place = cc in
        omega arith
    by (inl q) (inr f) e =
        let old : place_at places origin t ≡ Some place = ap (λ b. cond b (Some size) (place_at places origin t)) (sym f) ∙ ap (λ b. cond b (cond (tied t txn) (Some size) (place_at places origin t)) (place_at places o t)) (sym q) ∙ e in
        let below = placed origin t place old in
        omega arith
