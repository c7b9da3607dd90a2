-- Events that were brought, taken one after another off what is left of the rooms that they are for.
use Rattle.std.proofs.Common.{arith, rules, ◌≡◌, ◌≢◌, ◌↔◌, ◌⊎◌, inl, inr, ℕ, suc, ◌+◌, ◌-◌, ◌<◌, ◌≤◌, ◌==◌, take, Bool, false, if◌then◌else◌, List, [], ◌∷◌, ◌++◌, length, drop, set, map, get_or, Option, Some, None, option_map, All, refl, sym, ap, ◌∙◌, subst, drop-cons, add-one, length-drop, append-nil}
use Rattle.std.specs.Borrow.{Bor}
use Rattle.std.specs.List.{slice_get}
use Rattle.std.proofs.lemmas.Bool.{eq-eqb, ne_eqb, cases_eq}
use Rattle.std.proofs.lemmas.List.{drop_all, take_all}
use Rattle.std.proofs.lemmas.List.Concat.{flat_map-cons}
use Rattle.std.proofs.lemmas.List.Elements.{All-get_or, All-from_get_or}
use Rattle.std.proofs.lemmas.Option.{same_Some, slice_get_within, slice_get-map, slice_get-get_or, get_or_from_slice_get}
use mathlib.Core.List.{IsPrefix}
use Rattle.fed_event.specs.Checked.{CheckedEvent}
use Rattle.fed_event.specs.Fields.{room_id_of}
use Rattle.fed_event.specs.Tests.{holds}
use Rattle.fed_dest.specs.List.{place_of}
use Rattle.fed_inbox.specs.History.{Point, brought}
use Rattle.fed_inbox.specs.Queues.{for_place}
use Rattle.fed_wires.proofs.Places.{set_here, set_there, set_all}
use Rattle.fed_hub_kept.specs.Received.{received}
use Rattle.fed_hub_kept.specs.Brought.{AreBrought}
use Rattle.fed_hub_kept.specs.Unfound.{events_for, AreFronts, IsBehind, IsNotNext}
use Rattle.fed_room_contract.specs.declared.input.Input.{Input}
use Rattle.fed_room_contract.specs.declared.input.Input.TheVariants.{Receive}
use Rattle.fed_hub_state.specs.KeptRoom.{KeptState}

-- ---- one list

pub none_is_front : {X : Type 0} (xs : List X) → IsPrefix [] xs
none_is_front xs = (xs, refl)

front_of_none : {X : Type 0} (xs : List X) → IsPrefix xs [] → xs ≡ []
front_of_none [] f = refl
front_of_none (x ∷ xs) f = let e : x ∷ (xs ++ f.0) ≡ [] = f.1 in absurd (cc)

module _ {X : Type 0} (came next : X) (rest later : List X) where
  pub not_first : ¬ (came ≡ next) → ¬ IsPrefix (came ∷ rest) (next ∷ later)
  not_first other f = other (ap first_or f.1)
    where
      first_or : List X → X
      first_or [] = came
      first_or (x ∷ xs) = x

  pub first : came ≡ next → IsPrefix (came ∷ rest) (next ∷ later) ↔ IsPrefix rest later
  first same = ((λ f. (f.0, ap (drop 1) f.1)), (λ f. (f.0, (λ i. same i ∷ f.1 i))))

-- the elements from a place on
pub at_place : {X : Type 0} (xs : List X) (i : ℕ) (x : X) → i < length xs → x ≡ get_or xs i x → drop i xs ≡ x ∷ drop (i + 1) xs
at_place xs i x within here = drop-cons xs i x within ∙ ap (λ y. y ∷ drop (suc i) xs) (sym here) ∙ ap (λ n. x ∷ drop n xs) (sym (add-one i))

-- what is written through a slice of all elements
pub written : {X : Type 0} (old new : List X) (n : ℕ) → length old ≡ n → length new ≡ length old → take n (new ++ drop (length new) old) ≡ new
written old new n all same =
    ap (λ xs. take n (new ++ xs)) (drop_all (length new) old (omega arith)) ∙ ap (take n) (append-nil new) ∙ take_all n new (omega arith)

pub rest_of : {X : Type 0} (xs : List X) (i : ℕ) → take (length xs - i) (drop i xs) ≡ drop i xs
rest_of xs i = take_all (length xs - i) (drop i xs) (omega (arith, length-drop i xs))

-- the first event by which one came
pub came_first : (inputs : List Input) (i : ℕ) (input : Input) (came : CheckedEvent) → i < length inputs → input ≡ get_or inputs i input → input ≡ Receive came
    → received inputs ≡ received (drop i inputs) → received inputs ≡ came ∷ received (drop (i + 1) inputs)
came_first inputs i input came within here is none_before = none_before ∙ ap received (at_place inputs i input within here) ∙ ap (λ x. received (x ∷ drop (i + 1) inputs)) is

-- ---- one event

module _ (place_at : List ℕ → Option ℕ) (event : CheckedEvent) where
  for_own : (k : ℕ) → place_at (room_id_of event.event) ≡ Some k → (later : List CheckedEvent) → events_for place_at k (event ∷ later) ≡ event ∷ events_for place_at k later
  for_own k is later =
      let rest = events_for place_at k later in
      ap (λ (o : Option ℕ). if◌then◌else◌ {A = List CheckedEvent} (holds (λ place. place == k) o) (event ∷ rest) rest) is
      ∙ ap (λ (b : Bool). if◌then◌else◌ {A = List CheckedEvent} b (event ∷ rest) rest) (eq-eqb k k refl)

  for_other : (k : ℕ) → holds (λ place. place == k) (place_at (room_id_of event.event)) ≡ false → (later : List CheckedEvent) → events_for place_at k (event ∷ later) ≡ events_for place_at k later
  for_other k not later = let rest = events_for place_at k later in ap (λ (b : Bool). if◌then◌else◌ {A = List CheckedEvent} b (event ∷ rest) rest) not

  module _ (left : List (List Input)) where
    passed_over : ((k : ℕ) → k < length left → holds (λ place. place == k) (place_at (room_id_of event.event)) ≡ false)
        → (later : List CheckedEvent) → AreFronts place_at (event ∷ later) left ↔ AreFronts place_at later left
    passed_over not later = (
      (λ all k inputs here. subst (IsPrefix (received inputs)) (for_other k (not k (slice_get_within left k inputs here)) later) (all k inputs here)),
      (λ all k inputs here. subst (IsPrefix (received inputs)) (sym (for_other k (not k (slice_get_within left k inputs here)) later)) (all k inputs here)),
    )

    -- its room is not known
    pub of_no_room : place_at (room_id_of event.event) ≡ None → (later : List CheckedEvent) → AreFronts place_at (event ∷ later) left ↔ AreFronts place_at later left
    of_no_room none = passed_over (λ k within. ap (λ (o : Option ℕ). holds (λ place. place == k) o) none)

    -- its room is not among these
    pub of_later_room : (place : ℕ) → place_at (room_id_of event.event) ≡ Some place → length left ≤ place
        → (later : List CheckedEvent) → AreFronts place_at (event ∷ later) left ↔ AreFronts place_at later left
    of_later_room place is beyond =
        passed_over (λ k within. ap (λ (o : Option ℕ). holds (λ place. place == k) o) is ∙ ne_eqb place k (λ same. absurd (omega arith)))

    module _ (place : ℕ) (inputs : List Input) (is : place_at (room_id_of event.event) ≡ Some place) (here : slice_get left place ≡ Some inputs) where
      other : (k : ℕ) → k ≢ place → holds (λ place. place == k) (place_at (room_id_of event.event)) ≡ false
      other k ne = ap (λ (o : Option ℕ). holds (λ place. place == k) o) is ∙ ne_eqb place k (λ same. ne (sym same))

      -- it is not the next that came there
      pub refused : IsNotNext inputs event → (later : List CheckedEvent) → ¬ AreFronts place_at (event ∷ later) left
      refused never later all = never (events_for place_at place later) (subst (IsPrefix (received inputs)) (for_own place is later) (all place inputs here))

      module _ (rest : List Input) (behind : IsBehind inputs event rest) (later : List CheckedEvent) where
        abbrev Fronts : ℕ → List Input → Type 0
        Fronts k xs = IsPrefix (received xs) (events_for place_at k later)

        fewer : AreFronts place_at (event ∷ later) left → AreFronts place_at later (set left place rest)
        fewer all =
            set_all Fronts left place rest
            ((behind (events_for place_at place later)).0 (subst (IsPrefix (received inputs)) (for_own place is later) (all place inputs here)))
            (λ k xs ne found. subst (IsPrefix (received xs)) (for_other k (other k ne) later) (all k xs found))

        more : AreFronts place_at later (set left place rest) → AreFronts place_at (event ∷ later) left
        more all k xs found = by (cases_eq k place)
          where
            by : (k ≡ place) ⊎ (k ≢ place) → IsPrefix (received xs) (events_for place_at k (event ∷ later))
            by (inl same) =
                let within = slice_get_within left place inputs here in
                let is_its : inputs ≡ xs = same_Some inputs xs (sym here ∙ ap (slice_get left) (sym same) ∙ found) in
                let front = (behind (events_for place_at place later)).1 (all place rest (set_here left place rest within)) in
                subst (λ n. IsPrefix (received xs) (events_for place_at n (event ∷ later))) (sym same)
                (subst (λ ys. IsPrefix (received ys) (events_for place_at place (event ∷ later))) is_its (subst (IsPrefix (received inputs)) (sym (for_own place is later)) front))
            by (inr ne) = subst (IsPrefix (received xs)) (sym (for_other k (other k ne) later)) (all k xs (set_there left place k rest ne ∙ found))

        pub taken : AreFronts place_at (event ∷ later) left ↔ AreFronts place_at later (set left place rest)
        taken = (fewer, more)

-- ---- all rooms

pub fronts_of_none : (place_at : List ℕ → Option ℕ) (left : List (Bor (List Input))) → AreFronts place_at [] (map (λ inputs. inputs.now) left) ↔ All (λ inputs. received inputs.now ≡ []) left
fronts_of_none place_at left = (to left, from)
  where
    seen : (xs : List (Bor (List Input))) (k : ℕ) (x : Bor (List Input)) → slice_get xs k ≡ Some x → slice_get (map (λ inputs. inputs.now) xs) k ≡ Some x.now
    seen xs k x found = slice_get-map (λ inputs. inputs.now) xs k ∙ ap (option_map (λ inputs. inputs.now)) found

    to : (xs : List (Bor (List Input))) → AreFronts place_at [] (map (λ inputs. inputs.now) xs) → All (λ inputs. received inputs.now ≡ []) xs
    to [] all = search rules
    to (x ∷ xs) all =
        All-from_get_or (λ inputs. received inputs.now ≡ []) (x ∷ xs) x
        (λ k within. front_of_none (received (get_or (x ∷ xs) k x).now) (all k (get_or (x ∷ xs) k x).now (seen (x ∷ xs) k (get_or (x ∷ xs) k x) (slice_get-get_or (x ∷ xs) k x within))))

    from : All (λ inputs. received inputs.now ≡ []) left → AreFronts place_at [] (map (λ inputs. inputs.now) left)
    from all k inputs found = by (slice_get left k) refl (sym (slice_get-map (λ inputs. inputs.now) left k) ∙ found)
      where
        by : (o : Option (Bor (List Input))) → slice_get left k ≡ o → option_map (λ inputs. inputs.now) o ≡ Some inputs → IsPrefix (received inputs) []
        by None there is = absurd (cc)
        by (Some x) there is =
            let none : received x.now ≡ [] =
            ap (λ (y : Bor (List Input)). received y.now) (sym (get_or_from_slice_get left k x x there)) ∙ All-get_or (λ inputs. received inputs.now ≡ []) left k x (slice_get_within left k x there) all in
            ([], append-nil (received inputs) ∙ ap received (sym (same_Some x.now inputs is)) ∙ none)

-- the places of the rooms are those of their ids
pub fronts_of_known : (place_at : List ℕ → Option ℕ) (known : List (List ℕ)) → ((id : List ℕ) → place_at id ≡ place_of known id) → (points : List Point) (rooms : List KeptState)
    → AreFronts place_at (brought points) (map (λ room. room.inputs) rooms) ↔ AreBrought known points rooms
fronts_of_known place_at known same points rooms = (to, from)
  where
    same_events : (k : ℕ) → events_for place_at k (brought points) ≡ for_place known k (brought points)
    same_events k = λ i. events_for (λ id. same id i) k (brought points)

    to : AreFronts place_at (brought points) (map (λ room. room.inputs) rooms) → AreBrought known points rooms
    to all k room found =
        subst (IsPrefix (received room.inputs)) (same_events k)
        (all k room.inputs (slice_get-map (λ room. room.inputs) rooms k ∙ ap (option_map (λ room. room.inputs)) found))

    from : AreBrought known points rooms → AreFronts place_at (brought points) (map (λ room. room.inputs) rooms)
    from all k inputs found = by (slice_get rooms k) refl (sym (slice_get-map (λ room. room.inputs) rooms k) ∙ found)
      where
        by : (o : Option KeptState) → slice_get rooms k ≡ o → option_map (λ room. room.inputs) o ≡ Some inputs → IsPrefix (received inputs) (events_for place_at k (brought points))
        by None there is = absurd (cc)
        by (Some room) there is =
            subst (λ xs. IsPrefix (received xs) (events_for place_at k (brought points))) (same_Some room.inputs inputs is)
            (subst (IsPrefix (received room.inputs)) (sym (same_events k)) (all k room there))

-- ---- several events

pub both : {A B C : Type 0} → (A ↔ B) → (B ↔ C) → (A ↔ C)
both f g = ((λ a. g.0 (f.0 a)), (λ c. f.1 (g.1 c)))

pub brought_from : (points : List Point) (i : ℕ) (point : Point) → i < length points → point ≡ get_or points i point
    → brought (drop i points) ≡ point.fresh ++ brought (drop (i + 1) points)
brought_from points i point within here = ap brought (at_place points i point within here) ∙ flat_map-cons (λ (p : Point). p.fresh) point (drop (i + 1) points)
