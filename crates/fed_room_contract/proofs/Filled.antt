-- Finite maps that are filled entry by entry.
use Rattle.std.proofs.Common.{◌≡◌, List, [], ◌∷◌, Bool, true, false, ◌&&◌, cond, T, Ordering, Less, Equal, Greater, Option, Some, None, refl, sym, ap, ◌∙◌}
use Rattle.std.specs.FinMap as finite
use Rattle.std.specs.FinMap.{FinMap, IsAntisymmetric, find, is_sorted}
use Rattle.std.specs.FinMap.Entries.{below_all}
use Rattle.std.specs.Ordering.{is_eq, is_lt, eq_by_cmp}
use Rattle.std.specs.Cmp.{IsTotalOrder}

pub first : (a b : Bool) → T (a && b) → T a
first true b h = tt
first false b h = h

pub second : (a b : Bool) → T (a && b) → T b
second true b h = h
second false b h = absurd h

less : (o : Ordering) → T (is_lt o) → o ≡ Less
less Less h = refl
less Equal h = absurd h
less Greater h = absurd h

pub tied : (o : Ordering) → is_eq o ≡ true → o ≡ Equal
tied Equal h = refl
tied Less h = absurd (cc)
tied Greater h = absurd (cc)

-- the first, or else the second
abbrev pub or : {X : Type 0} → Option X → Option X → Option X
or None o = o
or (Some x) o = Some x

pub or_none : {X : Type 0} (o : Option X) → or o None ≡ o
or_none None = refl
or_none (Some x) = refl

module _ {K X : Type 0} {R : K → K → Ordering} where
  -- the entries are inserted, one after another
  abbrev pub with_all : FinMap R X → List (K × X) → FinMap R X
  with_all m [] = m
  with_all m (e ∷ es) = with_all (finite.insert m e.0 e.1) es

  module _ (o : IsTotalOrder R) where
    -- a key that ties with one that is below a list in order is not found in it
    pub absent : (q k : K) (es : List (K × X)) → R q k ≡ Equal → T (below_all R k es) → find R q es ≡ None
    absent q k [] t h = refl
    absent q k (e ∷ es) t h =
        ap (λ (r : Ordering). cond (is_eq r) (Some e.1) (find R q es)) (o.congr q k e.0 t ∙ less _ (first _ _ h)) ∙ absent q k es t (second _ _ h)

    get-with_all : (es : List (K × X)) (m : FinMap R X) (q : K) → T (is_sorted R es) → finite.get (with_all m es) q ≡ or (find R q es) (finite.get m q)
    get-with_all [] m q h = refl
    get-with_all (e ∷ es) m q h =
        get-with_all es (finite.insert m e.0 e.1) q (second _ _ h) ∙ ap (or (find R q es)) (finite.get-insert o m e.0 e.1 q)
        ∙ elim (eq_by_cmp R q e.0) as (λ b. eq_by_cmp R q e.0 ≡ b → or (find R q es) (cond b (Some e.1) (finite.get m q)) ≡ or (cond b (Some e.1) (find R q es)) (finite.get m q))
        [ true ↦ λ t. ap (λ (f : Option X). or f (Some e.1)) (absent q e.0 es (tied _ t) (first _ _ h)) | false ↦ λ t. refl ] refl

    -- a map is filled by its entries
    pub with_all-entries : IsAntisymmetric R → (m : FinMap R X) → with_all finite.empty (finite.entries m) ≡ m
    with_all-entries same m =
        finite.same_map o same _ _ (λ q. get-with_all (finite.entries m) finite.empty q (finite.entries_sorted m) ∙ ap (or (find R q (finite.entries m))) (finite.get-empty R q) ∙ or_none (find R q (finite.entries m)) ∙ sym (finite.get-entries m q))
