-- States that are made entry by entry, from the last to the first.
use Rattle.std.proofs.Common.{◌≡◌, ℕ, List, [], ◌∷◌, ◌++◌, map, filter, Bool, true, false, cond, refl, ap, ◌∙◌}
use Rattle.std.specs.FinMap as finite
use Rattle.fed_room_contract.specs.declared.entry.Entry.{Entry}
use Rattle.fed_room_contract.specs.State.{StateKey, StateMap}
use Rattle.fed_room_contract.specs.Entry.{seen}
use Rattle.fed_room.specs.Table.{keeping}

-- the entries are laid over, the last one first
abbrev pub laid : List (StateKey × List ℕ) → StateMap → StateMap
laid [] state = state
laid (e ∷ es) state = finite.insert (laid es state) e.0 e.1

pub laid-all : (es : List (StateKey × List ℕ)) → laid es finite.empty ≡ finite.from_entries es
laid-all [] = refl
laid-all (e ∷ es) = ap (λ (m : StateMap). finite.insert m e.0 e.1) (laid-all es)

pub laid-popped : {X : Type 0} (seen : X → StateKey × List ℕ) (xs : List X) (x : X) (state : StateMap) → laid (map seen (xs ++ x ∷ [])) state ≡ laid (map seen xs) (finite.insert state (seen x).0 (seen x).1)
laid-popped seen [] x state = refl
laid-popped seen (y ∷ xs) x state = ap (λ (m : StateMap). finite.insert m (seen y).0 (seen y).1) (laid-popped seen xs x state)

map_filtered : {X Y : Type 0} (f : X → Y) (q : Y → Bool) (xs : List X) → map f (filter (λ x. q (f x)) xs) ≡ filter q (map f xs)
map_filtered f q [] = refl
map_filtered f q (x ∷ xs) = by (q (f x)) (map_filtered f q xs)
  where
    by : (b : Bool) → map f (filter (λ x. q (f x)) xs) ≡ filter q (map f xs) → map f (cond b (x ∷ filter (λ x. q (f x)) xs) (filter (λ x. q (f x)) xs)) ≡ cond b (f x ∷ filter q (map f xs)) (filter q (map f xs))
    by true rest = ap (λ ys. f x ∷ ys) rest
    by false rest = rest

-- the entries that pass make the state that keeps them
pub kept_state : (passes : List ℕ → Bool) (entries kept : List Entry) (state : StateMap) → map seen entries ≡ finite.entries state → kept ≡ filter (λ entry. passes entry.id.now) entries
    → finite.from_entries (map seen kept) ≡ keeping passes state
kept_state passes entries kept state told e =
    ap (λ (xs : List Entry). finite.from_entries (map seen xs)) e ∙ ap (λ xs. finite.from_entries xs) (map_filtered seen (λ e. passes e.1) entries ∙ ap (filter (λ e. passes e.1)) told)
