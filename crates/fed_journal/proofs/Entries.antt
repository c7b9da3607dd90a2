-- What is addressed to a destination, and placed for it, as entries follow entries.
use Rattle.std.proofs.Common.{arith, ◌≡◌, ℕ, zero, suc, ◌+◌, ◌≤◌, ◌==◌, Bool, true, false, not, ◌||◌, cond, if◌then◌else◌, List, [], ◌∷◌, ◌++◌, length, Option, Some, None, refl, sym, ap, ◌∙◌, length-append}
use Rattle.std.specs.List.{slice_get, filter_map, cons_option}
use Rattle.std.specs.Option.{option_map, option_to_list}
use Rattle.std.proofs.lemmas.List.{append-nil}
use Rattle.std.proofs.lemmas.List.Elements.{filter_map-append}
use Rattle.fed_dest.specs.ServerSet.{is_among}
use Rattle.fed_journal.specs.declared.entry.Cause.{Cause}
use Rattle.fed_journal.specs.declared.entry.Cause.TheVariants.{Asked, Lost}
use Rattle.fed_journal.specs.declared.entry.Entry.{Entry}
use Rattle.fed_journal.specs.declared.entry.Entry.TheVariants.{Event, Edu, Close}
use Rattle.fed_journal.specs.declared.parcel.Load.{Load}
use Rattle.fed_journal.specs.declared.parcel.Load.TheVariants as load
use Rattle.fed_journal.specs.Place.{PlaceValue}
use Rattle.fed_journal.specs.Journal.{closes, open_after, is_open, is_closed, reaching, event_for, edu_for, load_for, end_of, event_in, edu_in, events_of, edus_of, addressed, addressed_edus, loads, placed, next_place, numbered, parcels}
use Rattle.fed_journal.specs.Loads.{event_in_load, edu_in_load}

-- an outbox that is closed stays closed, and nothing reaches it
pub shut_stays : (d : ℕ) (xs : List Entry) → is_open d false xs ≡ false
shut_stays d [] = refl
shut_stays d (x ∷ xs) = shut_stays d xs

pub none_reaches : (d : ℕ) (xs : List Entry) → reaching d false xs ≡ []
none_reaches d [] = refl
none_reaches d (x ∷ xs) = none_reaches d xs

open-append : (d : ℕ) (was_open : Bool) (xs ys : List Entry) → is_open d was_open (xs ++ ys) ≡ is_open d (is_open d was_open xs) ys
open-append d was_open [] ys = refl
open-append d was_open (x ∷ xs) ys = open-append d (open_after d was_open x) xs ys

reach-append : (d : ℕ) (was_open : Bool) (xs ys : List Entry) → reaching d was_open (xs ++ ys) ≡ reaching d was_open xs ++ reaching d (is_open d was_open xs) ys
reach-append d was_open [] ys = refl
reach-append d true (x ∷ xs) ys = ap (λ zs. x ∷ zs) (reach-append d (open_after d true x) xs ys)
reach-append d false (x ∷ xs) ys = reach-append d false xs ys

-- what comes after a list, where the outbox is open
pub reaching-append : (d : ℕ) (xs ys : List Entry) → reaching d true (xs ++ ys) ≡ reaching d true xs ++ (if is_closed xs d then [] else reaching d true ys)
reaching-append d xs ys = reach-append d true xs ys ∙ ap (λ zs. reaching d true xs ++ zs) (by (is_open d true xs))
  where
    by : (was_open : Bool) → reaching d was_open ys ≡ (if not was_open then [] else reaching d true ys)
    by true = refl
    by false = none_reaches d ys

picked_after : {X : Type 0} (f : Entry → Option X) (b : Bool) (xs ys : List Entry) → filter_map f (xs ++ (if b then [] else ys)) ≡ (if b then filter_map f xs else filter_map f xs ++ filter_map f ys)
picked_after f true xs ys = ap (filter_map f) (append-nil xs)
picked_after f false xs ys = filter_map-append f xs ys

module _ (entries more : List Entry) (d : ℕ) where
  pub is_closed-more : is_closed (entries ++ more) d ≡ (is_closed entries d || is_closed more d)
  is_closed-more = ap not (open-append d true entries more) ∙ by (is_open d true entries)
    where
      by : (was_open : Bool) → not (is_open d was_open more) ≡ (not was_open || is_closed more d)
      by true = refl
      by false = ap not (shut_stays d more)

  pub addressed-more : addressed (entries ++ more) d ≡ (if is_closed entries d then addressed entries d else addressed entries d ++ addressed more d)
  addressed-more = ap (filter_map (event_for d)) (reaching-append d entries more) ∙ picked_after (event_for d) (is_closed entries d) (reaching d true entries) (reaching d true more)

  pub addressed_edus-more : addressed_edus (entries ++ more) d ≡ (if is_closed entries d then addressed_edus entries d else addressed_edus entries d ++ addressed_edus more d)
  addressed_edus-more = ap (filter_map (edu_for d)) (reaching-append d entries more) ∙ picked_after (edu_for d) (is_closed entries d) (reaching d true entries) (reaching d true more)

  pub loads-more : loads (entries ++ more) d ≡ (if is_closed entries d then loads entries d else loads entries d ++ loads more d)
  loads-more = ap (filter_map (load_for d)) (reaching-append d entries more) ∙ picked_after (load_for d) (is_closed entries d) (reaching d true entries) (reaching d true more)

  pub placed-more : placed (entries ++ more) d ≡ (if is_closed entries d then placed entries d else placed entries d + placed more d)
  placed-more = ap length loads-more ∙ counted (is_closed entries d)
    where
      counted : (b : Bool) → length (if b then loads entries d else loads entries d ++ loads more d) ≡ (if b then placed entries d else placed entries d + placed more d)
      counted true = refl
      counted false = length-append (loads entries d) (loads more d)

-- a single entry reaches an outbox that is open at first
pub loads-one : (d : ℕ) (entry : Entry) → loads (entry ∷ []) d ≡ filter_map (load_for d) (entry ∷ [])
loads-one d entry = refl

pub addressed-one : (d : ℕ) (entry : Entry) → addressed (entry ∷ []) d ≡ filter_map (event_for d) (entry ∷ [])
addressed-one d entry = refl

pub addressed_edus-one : (d : ℕ) (entry : Entry) → addressed_edus (entry ∷ []) d ≡ filter_map (edu_for d) (entry ∷ [])
addressed_edus-one d entry = refl

no_event : (b : Bool) (cause : Cause) (rest : List Load) → filter_map event_in_load (cons_option (if b then end_of cause else None) rest) ≡ filter_map event_in_load rest
no_event true Asked rest = refl
no_event true Lost rest = refl
no_event false cause rest = refl

-- what is addressed is what was placed
events_among : (d : ℕ) (xs : List Entry) → filter_map event_in_load (filter_map (load_for d) xs) ≡ filter_map (event_for d) xs
events_among d [] = refl
events_among d (Event event dests ∷ xs) = by (is_among dests d) (events_among d xs)
  where
    by : (b : Bool) → filter_map event_in_load (filter_map (load_for d) xs) ≡ filter_map (event_for d) xs
        → filter_map event_in_load (cons_option (if b then Some (load.Event event) else None) (filter_map (load_for d) xs)) ≡ cons_option (if b then Some event else None) (filter_map (event_for d) xs)
    by true rest = ap (λ es. event ∷ es) rest
    by false rest = rest
events_among d (Edu edu dests ∷ xs) = by (is_among dests d) (events_among d xs)
  where
    by : (b : Bool) → filter_map event_in_load (filter_map (load_for d) xs) ≡ filter_map (event_for d) xs
        → filter_map event_in_load (cons_option (if b then Some (load.Edu edu) else None) (filter_map (load_for d) xs)) ≡ filter_map (event_for d) xs
    by true rest = rest
    by false rest = rest
events_among d (Close dest cause ∷ xs) = no_event (dest == d) cause (filter_map (load_for d) xs) ∙ events_among d xs

pub events_placed : (entries : List Entry) (d : ℕ) → filter_map event_in_load (loads entries d) ≡ addressed entries d
events_placed entries d = events_among d (reaching d true entries)

no_edu : (b : Bool) (cause : Cause) (rest : List Load) → filter_map edu_in_load (cons_option (if b then end_of cause else None) rest) ≡ filter_map edu_in_load rest
no_edu true Asked rest = refl
no_edu true Lost rest = refl
no_edu false cause rest = refl

-- what is addressed is what was placed
edus_among : (d : ℕ) (xs : List Entry) → filter_map edu_in_load (filter_map (load_for d) xs) ≡ filter_map (edu_for d) xs
edus_among d [] = refl
edus_among d (Event event dests ∷ xs) = by (is_among dests d) (edus_among d xs)
  where
    by : (b : Bool) → filter_map edu_in_load (filter_map (load_for d) xs) ≡ filter_map (edu_for d) xs
        → filter_map edu_in_load (cons_option (if b then Some (load.Event event) else None) (filter_map (load_for d) xs)) ≡ filter_map (edu_for d) xs
    by true rest = rest
    by false rest = rest
edus_among d (Edu edu dests ∷ xs) = by (is_among dests d) (edus_among d xs)
  where
    by : (b : Bool) → filter_map edu_in_load (filter_map (load_for d) xs) ≡ filter_map (edu_for d) xs
        → filter_map edu_in_load (cons_option (if b then Some (load.Edu edu) else None) (filter_map (load_for d) xs)) ≡ cons_option (if b then Some edu else None) (filter_map (edu_for d) xs)
    by true rest = ap (λ es. edu ∷ es) rest
    by false rest = rest
edus_among d (Close dest cause ∷ xs) = no_edu (dest == d) cause (filter_map (load_for d) xs) ∙ edus_among d xs

pub edus_placed : (entries : List Entry) (d : ℕ) → filter_map edu_in_load (loads entries d) ≡ addressed_edus entries d
edus_placed entries d = edus_among d (reaching d true entries)

picked_within : {X Y : Type 0} (f : X → Option Y) (xs : List X) → length (filter_map f xs) ≤ length xs
picked_within f [] = omega arith
picked_within {X} {Y} f (x ∷ xs) = by (f x) (picked_within f xs)
  where
    by : (o : Option Y) → length (filter_map f xs) ≤ length xs → length (cons_option o (filter_map f xs)) ≤ length (x ∷ xs)
    by None rest = omega arith
    by (Some y) rest = omega arith

reaching_within : (d : ℕ) (was_open : Bool) (xs : List Entry) → length (reaching d was_open xs) ≤ length xs
reaching_within d was_open [] = omega arith
reaching_within d true (x ∷ xs) = let rest = reaching_within d (open_after d true x) xs in omega (arith, rest)
reaching_within d false (x ∷ xs) = let rest = reaching_within d false xs in omega (arith, rest)

-- an entry places one parcel at most
pub placed_within : (entries : List Entry) (d : ℕ) → placed entries d ≤ length entries
placed_within entries d = let picked = picked_within (load_for d) (reaching d true entries) in let within = reaching_within d true entries in omega arith

pub events_within : (entries : List Entry) → length (events_of entries) ≤ length entries
events_within entries = picked_within event_in entries

pub edus_within : (entries : List Entry) → length (edus_of entries) ≤ length entries
edus_within entries = picked_within edu_in entries

-- the parcels bear the numbers from the next one on
numbered_at : (d n : ℕ) (xs : List Load) (k : ℕ) → slice_get (numbered d n xs) k ≡ option_map (λ load. record { place = record { dest = d; number = n + k + 1 }; load = load }) (slice_get xs k)
numbered_at d n [] k = refl
numbered_at d n (x ∷ xs) zero = ap (λ m. Some (record { place = record { dest = d; number = m }; load = x })) (omega arith)
numbered_at d n (x ∷ xs) (suc k) = numbered_at d (n + 1) xs k ∙ ap (λ m. option_map (λ load. record { place = record { dest = d; number = m }; load = load }) (slice_get xs k)) (omega arith)

pub parcel_at : (entries : List Entry) (d k : ℕ) → slice_get (parcels entries d) k ≡ option_map (λ load. record { place = record { dest = d; number = k + 1 }; load = load }) (slice_get (loads entries d) k)
parcel_at entries d k = numbered_at d 0 (loads entries d) k ∙ ap (λ m. option_map (λ load. record { place = record { dest = d; number = m }; load = load }) (slice_get (loads entries d) k)) (omega arith)

pub next_number : (entries : List Entry) (d : ℕ) (place : PlaceValue) → next_place entries d ≡ Some place → (place.dest ≡ d) × (place.number ≡ placed entries d + 1)
next_number entries d place = by (is_closed entries d)
  where
    by : (b : Bool) → (if b then None else Some (record { dest = d; number = placed entries d + 1 })) ≡ Some place → (place.dest ≡ d) × (place.number ≡ placed entries d + 1)
    by true e = absurd (cc)
    by false e = let same : record { dest = d; number = placed entries d + 1 } ≡ place = cc in (ap (λ (p : PlaceValue). p.dest) (sym same), ap (λ (p : PlaceValue). p.number) (sym same))

pub is_closed-one : (d : ℕ) (entry : Entry) → is_closed (entry ∷ []) d ≡ closes d entry
is_closed-one d entry = by (closes d entry)
  where
    by : (b : Bool) → not (not b) ≡ b
    by true = refl
    by false = refl

-- all events, and all EDUs, with those of one more entry
picked_one : {X : Type 0} (o : Option X) → cons_option o [] ≡ option_to_list o
picked_one None = refl
picked_one (Some x) = refl

pub all_events-more : (entries : List Entry) (entry : Entry) → events_of (entries ++ entry ∷ []) ≡ events_of entries ++ option_to_list (event_in entry)
all_events-more entries entry = filter_map-append event_in entries (entry ∷ []) ∙ ap (λ xs. events_of entries ++ xs) (picked_one (event_in entry))

pub all_edus-more : (entries : List Entry) (entry : Entry) → edus_of (entries ++ entry ∷ []) ≡ edus_of entries ++ option_to_list (edu_in entry)
all_edus-more entries entry = filter_map-append edu_in entries (entry ∷ []) ∙ ap (λ xs. edus_of entries ++ xs) (picked_one (edu_in entry))
