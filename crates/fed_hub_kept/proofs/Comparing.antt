-- What an outbox accepted stands first in what was placed, as loads and as parcels.
use Rattle.std.proofs.Common.{arith, ◌≡◌, ℕ, suc, ◌+◌, Bool, true, false, ◌||◌, if◌then◌else◌, List, [], ◌∷◌, ◌++◌, length, map, Option, refl, sym, ap, ◌∙◌}
use Rattle.std.specs.List.{filter_map, cons_option, list_any}
use Rattle.std.proofs.lemmas.List.{map-append}
use Rattle.fed_journal.specs.declared.entry.Entry.{Entry}
use Rattle.fed_journal.specs.declared.parcel.Load.{Load}
use Rattle.fed_journal.specs.declared.parcel.Load.TheVariants.{Event, Edu, End}
use Rattle.fed_journal.specs.declared.parcel.Parcel.{Parcel}
use Rattle.fed_journal.specs.Journal.{loads, numbered, parcels}
use Rattle.fed_journal.specs.Loads.{event_in_load, edu_in_load, is_end}
use Rattle.fed_outbox.specs.Outbox.{OutboxState}
use Rattle.fed_outbox.specs.Accepted.{HasAccepted}
use Rattle.fed_outbox.specs.Collecting.{Way}
use Rattle.fed_outbox.specs.Following.{Follows}
use Rattle.fed_hub_kept.specs.Left.{LeftState, all_of}
use Rattle.fed_hub_kept.specs.OfJournal.{IsOfJournal}
use Rattle.fed_hub_kept.proofs.Fronts.{Holds, IsFront}

-- ---- loads as parcels

numbered-append : (d n : ℕ) (xs ys : List Load) → numbered d n (xs ++ ys) ≡ numbered d n xs ++ numbered d (length xs + n) ys
numbered-append d n [] ys = ap (λ k. numbered d k ys) (omega arith)
numbered-append d n (x ∷ xs) ys =
    ap (λ ps. record { place = record { dest = d; number = n + 1 }; load = x } ∷ ps)
    (numbered-append d (n + 1) xs ys ∙ ap (λ k. numbered d (n + 1) xs ++ numbered d k ys) (omega arith))

pub length-numbered : (d n : ℕ) (xs : List Load) → length (numbered d n xs) ≡ length xs
length-numbered d n [] = refl
length-numbered d n (x ∷ xs) = ap suc (length-numbered d (n + 1) xs)

loads_numbered : (d n : ℕ) (xs : List Load) → map (λ parcel. parcel.load) (numbered d n xs) ≡ xs
loads_numbered d n [] = refl
loads_numbered d n (x ∷ xs) = ap (λ ys. x ∷ ys) (loads_numbered d (n + 1) xs)

picked_numbered : {X : Type 0} (pick : Load → Option X) (d n : ℕ) (xs : List Load) → filter_map (λ parcel. pick parcel.load) (numbered d n xs) ≡ filter_map pick xs
picked_numbered pick d n [] = refl
picked_numbered pick d n (x ∷ xs) = ap (λ rest. cons_option (pick x) rest) (picked_numbered pick d (n + 1) xs)

any_numbered : (d n : ℕ) (xs : List Load) → list_any (λ parcel. is_end parcel.load) (numbered d n xs) ≡ list_any is_end xs
any_numbered d n [] = refl
any_numbered d n (x ∷ xs) = ap (λ b. is_end x || b) (any_numbered d (n + 1) xs)

-- what is picked from the loads of parcels
picked_of : {X : Type 0} (pick : Load → Option X) (ps : List Parcel) → filter_map (λ parcel. pick parcel.load) ps ≡ filter_map pick (map (λ parcel. parcel.load) ps)
picked_of pick [] = refl
picked_of pick (p ∷ ps) = ap (λ rest. cons_option (pick p.load) rest) (picked_of pick ps)

length_loads : (ps : List Parcel) → length (map (λ parcel. parcel.load) ps) ≡ length ps
length_loads [] = refl
length_loads (p ∷ ps) = ap suc (length_loads ps)

-- ---- the end

abbrev ends : List Load → ℕ
ends [] = 0
ends (x ∷ xs) = (if is_end x then 1 else 0) + ends xs

counted : (xs : List Load) → length xs ≡ length (filter_map event_in_load xs) + length (filter_map edu_in_load xs) + ends xs
counted [] = refl
counted (Event event ∷ xs) = let h = counted xs in omega arith
counted (Edu edu ∷ xs) = let h = counted xs in omega arith
counted (End ∷ xs) = let h = counted xs in omega arith

any_end : (xs : List Load) (b : Bool) → ends xs ≡ (if b then 1 else 0) → b ≡ list_any is_end xs
any_end [] false e = refl
any_end [] true e = absurd (omega arith)
any_end (Event event ∷ xs) b e = any_end xs b (omega arith)
any_end (Edu edu ∷ xs) b e = any_end xs b (omega arith)
any_end (End ∷ xs) true e = refl
any_end (End ∷ xs) false e = absurd (omega arith)

pub end_held : (held : List Load) (l : LeftState) → Holds held l → l.has_end ≡ list_any is_end held
end_held held l h =
    let all = counted held in
    let events = ap length h.events in
    let edus = ap length h.edus in
    let count = h.count in
    any_end held l.has_end (omega arith)

-- ---- both

follows_front : (entries : List Entry) (o : OutboxState) (f : IsFront (all_of o) (loads entries o.dest))
    → Follows o.dest (parcels entries o.dest) (record { queue = numbered o.dest (length f.front + 0) f.later; outbox = o })
follows_front entries o f =
    let d = o.dest in
    let count = f.holds.count in
    let length = length-numbered d 0 f.front in
    record {
      collected = numbered d 0 f.front;
      all = ap (numbered d 0) f.split ∙ numbered-append d 0 f.front f.later;
      dest = refl;
      events = f.holds.events ∙ sym (picked_numbered event_in_load d 0 f.front);
      edus = f.holds.edus ∙ sym (picked_numbered edu_in_load d 0 f.front);
      next = omega arith;
      end = end_held f.front (all_of o) f.holds ∙ sym (any_numbered d 0 f.front);
    }

-- how what was placed goes into an outbox
abbrev pub Accepts : Type 0
Accepts = (d : ℕ) (entries : List Entry) (way : Way) → Follows d (parcels entries d) way → (front : List Parcel) × ((parcels entries d ≡ front ++ way.queue) × HasAccepted d front way.outbox)

pub front_is_of_journal : Accepts → (entries : List Entry) (o : OutboxState) → IsFront (all_of o) (loads entries o.dest) → IsOfJournal entries o
front_is_of_journal accepts entries o f =
    let found = accepts o.dest entries _ (follows_front entries o f) in
    record { front = found.0; later = numbered o.dest (length f.front + 0) f.later; placed = found.1.0; accepted = found.1.1 }

pub of_journal_is_front : (entries : List Entry) (o : OutboxState) → IsOfJournal entries o → IsFront (all_of o) (loads entries o.dest)
of_journal_is_front entries o is =
    let load_in : Parcel → Load = λ parcel. parcel.load in
    let next = is.accepted.next in
    let count = length_loads is.front in
    record {
      front = map load_in is.front;
      later = map load_in is.later;
      split = sym (loads_numbered o.dest 0 (loads entries o.dest)) ∙ ap (map load_in) is.placed ∙ map-append load_in is.front is.later;
      holds = record {
        events = is.accepted.events ∙ picked_of event_in_load is.front;
        edus = is.accepted.edus ∙ picked_of edu_in_load is.front;
        count = omega arith;
      };
    }
