-- What was placed for a destination, on its way into the outbox.
use Rattle.std.proofs.Common.{arith, ◌≡◌, ℕ, ◌+◌, ◌==◌, Bool, true, false, not, ◌||◌, ◌&&◌, if◌then◌else◌, List, [], ◌∷◌, ◌++◌, length, map, Option, Some, None, refl, sym, ap, ◌∙◌, subst, length-append}
use Rattle.std.specs.List.{slice_get, list_any, filter_map, cons_option}
use Rattle.std.specs.Option.{option_map}
use Rattle.std.proofs.lemmas.List.{append_assoc, append-nil}
use Rattle.std.proofs.lemmas.List.Elements.{filter_map-append}
use Rattle.std.proofs.lemmas.List.Folds.{list_any-append}
use Rattle.std.proofs.lemmas.Bool.{eq-eqb}
use Rattle.fed_journal.specs.Place.{PlaceValue}
use Rattle.fed_journal.specs.declared.entry.Entry.{Entry}
use Rattle.fed_journal.specs.declared.parcel.Load.{Load}
use Rattle.fed_journal.specs.declared.parcel.Load.TheVariants.{Event, Edu, End}
use Rattle.fed_journal.specs.declared.parcel.Parcel.{Parcel}
use Rattle.fed_journal.specs.Journal.{loads, numbered, parcels, addressed, addressed_edus}
use Rattle.fed_journal.specs.Loads.{event_in_load, edu_in_load, is_end}
use Rattle.fed_outbox.specs.Outbox.{OutboxState, accepted, accepted_edus, expected, fits, with_load}
use Rattle.fed_outbox.specs.Runs.{Call, after_call, accepted_by, events_of, edus_of, places_from}
use Rattle.fed_outbox.specs.Collecting.{Way, collected, collected_of}
use Rattle.fed_outbox.specs.Following.{Follows}
use Rattle.fed_outbox.specs.Accepted.{HasAccepted}
use Rattle.fed_outbox.proofs.Steps.{Same, Does, call_does, same_expected, with_load_adds}

-- an end stands last among what is placed
abbrev pub EndsLast : List Parcel → Type 0
EndsLast placed = (before after : List Parcel) → placed ≡ before ++ after → list_any (λ parcel. is_end parcel.load) before ≡ true → after ≡ []

-- the parcels bear the numbers from 1 on
abbrev pub AreNumbered : ℕ → List Parcel → List Load → Type 0
AreNumbered d placed held = (k : ℕ) → slice_get placed k ≡ option_map (λ load. record { place = record { dest = d; number = k + 1 }; load = load }) (slice_get held k)

behind : (xs : List Parcel) (p : Parcel) (ps : List Parcel) → slice_get (xs ++ p ∷ ps) (length xs) ≡ Some p
behind [] p ps = refl
behind (x ∷ xs) p ps = behind xs p ps

abbrev number_in : Option Parcel → ℕ
number_in None = 0
number_in (Some p) = p.place.number

abbrev dest_in : Option Parcel → ℕ
dest_in None = 0
dest_in (Some p) = p.place.dest

module _ (d : ℕ) (placed : List Parcel) (held : List Load) (last : EndsLast placed) (are : AreNumbered d placed held) where
  module _ (p : Parcel) (ps : List Parcel) (o : OutboxState) (f : Follows d placed (record { queue = p ∷ ps; outbox = o })) where
    there : Some p ≡ option_map (λ load. record { place = record { dest = d; number = length f.collected + 1 }; load = load }) (slice_get held (length f.collected))
    there = sym (behind f.collected p ps) ∙ ap (λ xs. slice_get xs (length f.collected)) (sym f.all) ∙ are (length f.collected)

    number_is : p.place.number ≡ length f.collected + 1
    number_is = by (slice_get held (length f.collected)) there
      where
        by : (found : Option Load) → Some p ≡ option_map (λ load. record { place = record { dest = d; number = length f.collected + 1 }; load = load }) found → p.place.number ≡ length f.collected + 1
        by None e = absurd (cc)
        by (Some load) e = ap number_in e

    dest_is : p.place.dest ≡ d
    dest_is = by (slice_get held (length f.collected)) there
      where
        by : (found : Option Load) → Some p ≡ option_map (λ load. record { place = record { dest = d; number = length f.collected + 1 }; load = load }) found → p.place.dest ≡ d
        by None e = absurd (cc)
        by (Some load) e = ap dest_in e

    not_ended : o.has_end ≡ false
    not_ended = f.end ∙ by (list_any (λ parcel. is_end parcel.load) f.collected) refl
      where
        by : (b : Bool) → list_any (λ parcel. is_end parcel.load) f.collected ≡ b → b ≡ false
        by false e = refl
        by true e = absurd (let none : p ∷ ps ≡ [] = last f.collected (p ∷ ps) f.all e in cc)

    pub next_fits : fits o p.place ≡ true
    next_fits =
        ap (λ b. not b && ((p.place.dest == o.dest) && (p.place.number == expected o))) not_ended
        ∙ ap (λ b. b && (p.place.number == expected o)) (eq-eqb _ _ (dest_is ∙ sym f.dest))
        ∙ eq-eqb _ _ (number_is ∙ sym f.next)

    ended : (load : Load) → (with_load o load).has_end ≡ (list_any (λ parcel. is_end parcel.load) f.collected || (is_end load || false))
    ended (Event event) = f.end ∙ or_false (list_any (λ parcel. is_end parcel.load) f.collected)
      where
        or_false : (b : Bool) → b ≡ (b || false)
        or_false true = refl
        or_false false = refl
    ended (Edu edu) = f.end ∙ or_false (list_any (λ parcel. is_end parcel.load) f.collected)
      where
        or_false : (b : Bool) → b ≡ (b || false)
        or_false true = refl
        or_false false = refl
    ended End = or_true (list_any (λ parcel. is_end parcel.load) f.collected)
      where
        or_true : (b : Bool) → true ≡ (b || true)
        or_true true = refl
        or_true false = refl

    moved_follows : Follows d placed (record { queue = ps; outbox = with_load o p.load })
    moved_follows =
        let adds = with_load_adds o p next_fits in
        let number = adds.number in
        let before = f.next in
        record {
          collected = f.collected ++ p ∷ [];
          all = f.all ∙ sym (append_assoc f.collected (p ∷ []) ps);
          dest = adds.dest ∙ f.dest;
          events = adds.events ∙ ap (λ l. l ++ events_of (p ∷ [])) f.events ∙ sym (filter_map-append (λ parcel. event_in_load parcel.load) f.collected (p ∷ []));
          edus = adds.edus ∙ ap (λ l. l ++ edus_of (p ∷ [])) f.edus ∙ sym (filter_map-append (λ parcel. edu_in_load parcel.load) f.collected (p ∷ []));
          next = omega (arith, length-append f.collected (p ∷ []));
          end = ended p.load ∙ sym (list_any-append (λ parcel. is_end parcel.load) f.collected (p ∷ []));
        }

    pub one_collected : Follows d placed (collected_of (p ∷ ps) o)
    one_collected =
        subst (Follows d placed) (sym (ap (λ b. if b then record { queue = ps; outbox = with_load o p.load } else record { queue = p ∷ ps; outbox = o }) next_fits)) moved_follows

  pub collected_follows : (queue : List Parcel) (o : OutboxState) → Follows d placed (record { queue = queue; outbox = o }) → Follows d placed (collected_of queue o)
  collected_follows [] o f = f
  collected_follows (p ∷ ps) o f = one_collected p ps o f

-- one more entry
pub entered_follows : (d : ℕ) (placed more : List Parcel) (whole : List Parcel) (way : Way) → whole ≡ placed ++ more → Follows d placed way
    → Follows d whole (record { queue = way.queue ++ more; outbox = way.outbox })
entered_follows d placed more whole way e f = record {
  collected = f.collected;
  all = e ∙ ap (λ ps. ps ++ more) f.all ∙ append_assoc f.collected way.queue more;
  dest = f.dest;
  events = f.events;
  edus = f.edus;
  next = f.next;
  end = f.end;
}

-- a call that accepts nothing
pub same_follows : (d : ℕ) (placed queue : List Parcel) (o next : OutboxState) → Same o next → Follows d placed (record { queue = queue; outbox = o })
    → Follows d placed (record { queue = queue; outbox = next })
same_follows d placed queue o next same f = record {
  collected = f.collected;
  all = f.all;
  dest = same.dest ∙ f.dest;
  events = same.events ∙ f.events;
  edus = same.edus ∙ f.edus;
  next = same_expected o next same ∙ f.next;
  end = same.end ∙ f.end;
}

pub call_follows : (d : ℕ) (placed : List Parcel) (way : Way) (call : Call) → accepted_by way.outbox call ≡ None → Follows d placed way
    → Follows d placed (record { queue = way.queue; outbox = after_call way.outbox call })
call_follows d placed way call none f =
    same_follows d placed way.queue way.outbox (after_call way.outbox call) (subst (λ parcel. Does way.outbox parcel (after_call way.outbox call)) none (call_does way.outbox call)) f

-- what is picked from parcels is what is picked from their loads
picked_numbered : {X : Type 0} (pick : Load → Option X) (d n : ℕ) (xs : List Load) → filter_map (λ parcel. pick parcel.load) (numbered d n xs) ≡ filter_map pick xs
picked_numbered pick d n [] = refl
picked_numbered pick d n (x ∷ xs) = ap (λ rest. cons_option (pick x) rest) (picked_numbered pick d (n + 1) xs)

-- all that is placed, by what is accepted of it and what is queued
pub picked_on_the_way : {X : Type 0} (pick : Load → Option X) (d : ℕ) (entries : List Entry) (collected queue : List Parcel) (all taken : List X)
    → filter_map pick (loads entries d) ≡ all → parcels entries d ≡ collected ++ queue → taken ≡ filter_map (λ parcel. pick parcel.load) collected
    → all ≡ taken ++ filter_map (λ parcel. pick parcel.load) queue
picked_on_the_way pick d entries collected queue all taken whole split accepted =
    sym whole ∙ sym (picked_numbered pick d 0 (loads entries d)) ∙ ap (filter_map (λ parcel. pick parcel.load)) split
    ∙ filter_map-append (λ parcel. pick parcel.load) collected queue ∙ ap (λ l. l ++ filter_map (λ parcel. pick parcel.load) queue) (sym accepted)

-- ---- what was accepted of all that is placed

abbrev place_in : Parcel → PlaceValue
place_in parcel = parcel.place

-- a front of parcels that are numbered stands at the places from the first on
front_places : (d n : ℕ) (held : List Load) (xs ys : List Parcel) → numbered d n held ≡ xs ++ ys → map place_in xs ≡ places_from d (n + 1) (length xs)
front_places d n held [] ys e = refl
front_places d n [] (x ∷ xs) ys e = absurd (cc)
front_places d n (l ∷ held) (x ∷ xs) ys e =
    let first : record { dest = d; number = n + 1 } ≡ x.place = ap place_first e in
    let others : numbered d (n + 1) held ≡ xs ++ ys = ap behind_first e in
    ap (λ p. p ∷ map place_in xs) (sym first) ∙ ap (λ ps. record { dest = d; number = n + 1 } ∷ ps) (front_places d (n + 1) held xs ys others)
  where
    place_first : List Parcel → PlaceValue
    place_first [] = record { dest = d; number = n + 1 }
    place_first (p ∷ ps) = p.place

    behind_first : List Parcel → List Parcel
    behind_first [] = []
    behind_first (p ∷ ps) = ps

pub front_accepted : (d : ℕ) (entries : List Entry) (way : Way) → Follows d (parcels entries d) way → (front : List Parcel) × ((parcels entries d ≡ front ++ way.queue) × HasAccepted d front way.outbox)
front_accepted d entries way f = (
  f.collected,
  (
    f.all,
    record {
      dest = f.dest;
      places = front_places d 0 (loads entries d) f.collected way.queue f.all;
      next = f.next;
      events = f.events;
      edus = f.edus;
      end = f.end;
    },
  ),
)

-- once an end was accepted all was
pub all_accepted : (d : ℕ) (entries : List Entry) (way : Way) → EndsLast (parcels entries d) → addressed entries d ≡ accepted way.outbox ++ events_of way.queue
    → addressed_edus entries d ≡ accepted_edus way.outbox ++ edus_of way.queue → Follows d (parcels entries d) way → way.outbox.has_end ≡ true
    → (way.queue ≡ []) × ((accepted way.outbox ≡ addressed entries d) × (accepted_edus way.outbox ≡ addressed_edus entries d))
all_accepted d entries way last events edus f ended =
    let none : way.queue ≡ [] = last f.collected way.queue f.all (sym f.end ∙ ended) in (
      none,
      (
        sym (events ∙ ap (λ q. accepted way.outbox ++ events_of q) none ∙ append-nil (accepted way.outbox)),
        sym (edus ∙ ap (λ q. accepted_edus way.outbox ++ edus_of q) none ∙ append-nil (accepted_edus way.outbox)),
      ),
    )
