-- How the lanes of a journal follow its entries.
use Rattle.std.proofs.Common.{arith, ◌≡◌, ℕ, zero, suc, ◌+◌, ◌-◌, ◌<◌, ◌≤◌, ◌^◌, ◌==◌, Bool, true, false, not, ◌||◌, if◌then◌else◌, List, [], ◌∷◌, ◌++◌, length, Option, Some, None, is_some, nat_lt, take, vec_len, vec_capacity, get_or, refl, sym, ap, ◌∙◌, subst, length-append}
use Rattle.std.specs.List.{slice_get, filter_map, cons_option}
use Rattle.std.specs.Option.{option_map}
use Rattle.std.proofs.lemmas.List.{append-nil, length_push}
use Rattle.std.proofs.lemmas.List.Elements.{filter_map-append}
use Rattle.std.proofs.lemmas.Option.{slice_get_read}
use Rattle.std.proofs.lemmas.Bool.{eqb-true}
use Rattle.fed_event.specs.Checked.{CheckedEvent}
use Rattle.serde_json.specs.Data.{Data}
use Rattle.fed_dest.specs.ServerSet.{is_among}
use Rattle.fed_journal.specs.declared.entry.Cause.{Cause}
use Rattle.fed_journal.specs.declared.entry.Cause.TheVariants.{Asked, Lost}
use Rattle.fed_journal.specs.declared.entry.Entry.{Entry}
use Rattle.fed_journal.specs.declared.entry.Entry.TheVariants.{Event, Edu, Close}
use Rattle.fed_journal.specs.declared.parcel.Load.TheVariants as load
use Rattle.fed_journal.specs.declared.lane.Kind.TheVariants as kind
use Rattle.fed_journal.specs.Journal.{closes, open_after, is_open, is_closed, reaching, event_for, edu_for, load_for, end_of, event_in, edu_in, events_of, edus_of, addressed, addressed_edus, placed, next_place}
use Rattle.fed_journal.specs.Lane.{LaneState, place_after, reached, closed_by, with_room, HasRoom, AreChanged, ArePartlyChanged}
use Rattle.fed_journal.specs.Standing.{picked, what_stands, places_from}
use Rattle.fed_journal.specs.JournalParts.{IsLane, AreLanes, IsJournal}
use Rattle.fed_journal.specs.declared.journal.Journal.TheInside.{Inside}
use Rattle.fed_journal.proofs.Entries.{shut_stays, none_reaches, reaching-append, is_closed-more, is_closed-one, placed-more, loads-one, placed_within}
use Rattle.fed_journal.proofs.Lanes.{chosen_change}

-- where an entry stands from which something is picked
abbrev standing : {X : Type 0} → (Entry → Option X) → ℕ → Entry → List ℕ
standing pick n entry = if is_some (pick entry) then n ∷ [] else []

places-append : {X : Type 0} (f : Entry → Option X) (n : ℕ) (xs ys : List Entry) → places_from f n (xs ++ ys) ≡ places_from f n xs ++ places_from f (n + length xs) ys
places-append f n [] ys = ap (λ m. places_from f m ys) (omega arith)
places-append f n (x ∷ xs) ys = by (is_some (f x)) (places-append f (n + 1) xs ys ∙ ap (λ m. places_from f (n + 1) xs ++ places_from f m ys) (omega arith))
  where
    by : (b : Bool) → places_from f (n + 1) (xs ++ ys) ≡ places_from f (n + 1) xs ++ places_from f (n + length (x ∷ xs)) ys
        → (if b then n ∷ places_from f (n + 1) (xs ++ ys) else places_from f (n + 1) (xs ++ ys)) ≡ (if b then n ∷ places_from f (n + 1) xs else places_from f (n + 1) xs) ++ places_from f (n + length (x ∷ xs)) ys
    by true rest = ap (λ zs. n ∷ zs) rest
    by false rest = rest

-- while the outbox is open all entries reach it
all_reach : (d : ℕ) (xs : List Entry) → is_closed xs d ≡ false → reaching d true xs ≡ xs
all_reach d [] shut_not = refl
all_reach d (x ∷ xs) shut_not = ap (λ zs. x ∷ zs) (by (not (closes d x)) (all_reach d xs) shut_not)
  where
    by : (was_open : Bool) → (is_closed xs d ≡ false → reaching d true xs ≡ xs) → not (is_open d was_open xs) ≡ false → reaching d was_open xs ≡ xs
    by true rest still = rest still
    by false rest still = absurd (let shut = ap not (shut_stays d xs) in cc)

module _ {X : Type 0} (f : Entry → Option X) (d : ℕ) (entries : List Entry) (entry : Entry) where
  places-more : places_from f 0 (reaching d true (entries ++ entry ∷ []))
      ≡ (if is_closed entries d then places_from f 0 (reaching d true entries) else places_from f 0 (reaching d true entries) ++ standing f (length entries) entry)
  places-more = ap (places_from f 0) (reaching-append d entries (entry ∷ [])) ∙ by (is_closed entries d) (all_reach d entries)
    where
      by : (b : Bool) → (b ≡ false → reaching d true entries ≡ entries)
          → places_from f 0 (reaching d true entries ++ (if b then [] else entry ∷ [])) ≡ (if b then places_from f 0 (reaching d true entries) else places_from f 0 (reaching d true entries) ++ standing f (length entries) entry)
      by true all = ap (places_from f 0) (append-nil (reaching d true entries))
      by false all =
          places-append f 0 (reaching d true entries) (entry ∷ [])
          ∙ ap (λ m. places_from f 0 (reaching d true entries) ++ places_from f m (entry ∷ [])) (let same = ap length (all refl) in omega arith)

-- a lane that gets these places and so many parcels, and is closed by that
record Gets (es us : List ℕ) (count : ℕ) (closing : Bool) (old new : LaneState) : Type 0 where
  events : new.events ≡ (if old.closed then old.events else old.events ++ es)
  edus : new.edus ≡ (if old.closed then old.edus else old.edus ++ us)
  placed : new.placed ≡ (if old.closed then old.placed else old.placed + count)
  closed : new.closed ≡ (old.closed || closing)
  room : old.room ≤ new.room + 1

-- a lane that gets what an entry gives its destination
abbrev Follows : ℕ → ℕ → Entry → LaneState → LaneState → Type 0
Follows d n entry = Gets (standing (event_for d) n entry) (standing (edu_for d) n entry) (length (filter_map (load_for d) (entry ∷ []))) (closes d entry)

follows : (entries : List Entry) (reserved d : ℕ) (entry : Entry) (old new : LaneState) → IsLane entries reserved d old → Follows d (length entries) entry old new → IsLane (entries ++ entry ∷ []) (reserved - 1) d new
follows entries reserved d entry old new is gets = record {
  events = gets.events ∙ together (λ b (xs : List ℕ). if b then xs else xs ++ standing (event_for d) (length entries) entry) is.closed is.events ∙ sym (places-more (event_for d) d entries entry);
  edus = gets.edus ∙ together (λ b (xs : List ℕ). if b then xs else xs ++ standing (edu_for d) (length entries) entry) is.closed is.edus ∙ sym (places-more (edu_for d) d entries entry);
  placed = gets.placed ∙ together (λ b (n : ℕ). if b then n else n + length (filter_map (load_for d) (entry ∷ []))) is.closed is.placed
      ∙ sym (placed-more entries (entry ∷ []) d ∙ ap (λ xs. if is_closed entries d then placed entries d else placed entries d + length xs) (loads-one d entry));
  closed = gets.closed ∙ ap (λ b. b || closes d entry) is.closed ∙ sym (is_closed-more entries (entry ∷ []) d ∙ ap (λ b. is_closed entries d || b) (is_closed-one d entry));
  room = let had = is.room in let has = gets.room in omega arith;
}
  where
    together : {A B C : Type 0} (f : A → B → C) {a b : A} {x y : B} → a ≡ b → x ≡ y → f a x ≡ f b y
    together f {a} {b} {x} {y} e h = ap (λ t. f t x) e ∙ ap (f b) h

event_follows : (d n : ℕ) (event : CheckedEvent) (dests : List ℕ) (lane : LaneState) → Follows d n (Event event dests) lane (chosen_change (reached kind.Event n) (is_among dests d) lane)
event_follows d n event dests lane = by (is_among dests d) lane.closed lane.events lane.edus lane.placed lane.room
  where
    by : (b shut : Bool) (es us : List ℕ) (p r : ℕ) → let lane : LaneState = record { events = es; edus = us; placed = p; closed = shut; room = r } in
        Gets (if is_some (if b then Some event else None) then n ∷ [] else []) [] (length (cons_option (if b then Some (load.Event event) else None) [])) false lane (chosen_change (reached kind.Event n) b lane)
    by true true es us p r = record { events = refl; edus = refl; placed = refl; closed = refl; room = omega arith }
    by true false es us p r = record { events = refl; edus = sym (append-nil us); placed = refl; closed = refl; room = omega arith }
    by false true es us p r = record { events = refl; edus = refl; placed = refl; closed = refl; room = omega arith }
    by false false es us p r = record { events = sym (append-nil es); edus = sym (append-nil us); placed = omega arith; closed = refl; room = omega arith }

edu_follows : (d n : ℕ) (edu : Data) (dests : List ℕ) (lane : LaneState) → Follows d n (Edu edu dests) lane (chosen_change (reached kind.Edu n) (is_among dests d) lane)
edu_follows d n edu dests lane = by (is_among dests d) lane.closed lane.events lane.edus lane.placed lane.room
  where
    by : (b shut : Bool) (es us : List ℕ) (p r : ℕ) → let lane : LaneState = record { events = es; edus = us; placed = p; closed = shut; room = r } in
        Gets [] (if is_some (if b then Some edu else None) then n ∷ [] else []) (length (cons_option (if b then Some (load.Edu edu) else None) [])) false lane (chosen_change (reached kind.Edu n) b lane)
    by true true es us p r = record { events = refl; edus = refl; placed = refl; closed = refl; room = omega arith }
    by true false es us p r = record { events = sym (append-nil es); edus = refl; placed = refl; closed = refl; room = omega arith }
    by false true es us p r = record { events = refl; edus = refl; placed = refl; closed = refl; room = omega arith }
    by false false es us p r = record { events = sym (append-nil es); edus = sym (append-nil us); placed = omega arith; closed = refl; room = omega arith }

close_follows : (d n dest : ℕ) (cause : Cause) (lane : LaneState) → ((dest == d) ≡ true → lane.closed ≡ false) → Follows d n (Close dest cause) lane (chosen_change (closed_by cause) (dest == d) lane)
close_follows d n dest cause lane = by (dest == d) lane.closed cause lane.events lane.edus lane.placed lane.room
  where
    by : (b shut : Bool) (cause : Cause) (es us : List ℕ) (p r : ℕ) → (b ≡ true → shut ≡ false) → let lane : LaneState = record { events = es; edus = us; placed = p; closed = shut; room = r } in
        Gets [] [] (length (cons_option (if b then end_of cause else None) [])) b lane (chosen_change (closed_by cause) b lane)
    by true true cause es us p r not_shut = absurd (let e = not_shut refl in cc)
    by true false Asked es us p r not_shut = record { events = sym (append-nil es); edus = sym (append-nil us); placed = refl; closed = refl; room = omega arith }
    by true false Lost es us p r not_shut = record { events = sym (append-nil es); edus = sym (append-nil us); placed = refl; closed = refl; room = omega arith }
    by false true cause es us p r not_shut = record { events = refl; edus = refl; placed = refl; closed = refl; room = omega arith }
    by false false cause es us p r not_shut = record { events = sym (append-nil es); edus = sym (append-nil us); placed = omega arith; closed = refl; room = omega arith }

changed_lane : (b : Bool) (f : LaneState → LaneState) (o : Option LaneState) (lane : LaneState) → option_map (chosen_change f b) o ≡ Some lane → (old : LaneState) × (o ≡ Some old) × (lane ≡ chosen_change f b old)
changed_lane b f None lane e = absurd (cc)
changed_lane b f (Some old) lane e = (old, refl, cc)

-- the lanes follow an entry
all_follow : (entries : List Entry) (reserved : ℕ) (entry : Entry) (chosen : ℕ → Bool) (f : LaneState → LaneState) (old new : List LaneState)
    → ((d : ℕ) (lane : LaneState) → IsLane entries reserved d lane → Follows d (length entries) entry lane (chosen_change f (chosen d) lane))
    → AreLanes entries reserved old → AreChanged chosen f old new → AreLanes (entries ++ entry ∷ []) (reserved - 1) new
all_follow entries reserved entry chosen f old new each are changed d lane here =
    let was = changed_lane (chosen d) f (slice_get old d) lane (sym (changed d) ∙ here) in
    let is = are d was.0 was.1 in
    subst (λ l. IsLane (entries ++ entry ∷ []) (reserved - 1) d l) (sym was.2) (follows entries reserved d entry was.0 _ is (each d was.0 is))

-- what stands at the places of a lane is what is addressed
stands : {X : Type 0} (f g : Entry → Option X) (picks : (entry : Entry) (x : X) → f entry ≡ Some x → g entry ≡ Some x) (all : List Entry) (n : ℕ) (xs : List Entry)
    → ((k : ℕ) (entry : Entry) → slice_get xs k ≡ Some entry → slice_get all (n + k) ≡ Some entry) → what_stands g all (places_from f n xs) ≡ filter_map f xs
stands f g picks all n [] within = refl
stands {X} f g picks all n (x ∷ xs) within =
    by (f x) (λ y. picks x y) (ap (λ m. slice_get all m) (omega arith) ∙ within 0 x refl)
    (stands f g picks all (n + 1) xs (λ k entry here. ap (λ m. slice_get all m) (omega arith) ∙ within (suc k) entry here))
  where
    by : (o : Option X) → ((y : X) → o ≡ Some y → g x ≡ Some y) → slice_get all n ≡ Some x → what_stands g all (places_from f (n + 1) xs) ≡ filter_map f xs
        → what_stands g all (if is_some o then n ∷ places_from f (n + 1) xs else places_from f (n + 1) xs) ≡ cons_option o (filter_map f xs)
    by None pick here rest = rest
    by (Some y) pick here rest = ap (λ o. cons_option (picked g o) (what_stands g all (places_from f (n + 1) xs))) here ∙ ap (λ o. cons_option o (what_stands g all (places_from f (n + 1) xs))) (pick y refl) ∙ ap (λ ys. y ∷ ys) rest

-- what reaches an outbox that is open at first stands where it stands among all
in_front : (d : ℕ) (was_open : Bool) (xs : List Entry) (k : ℕ) (entry : Entry) → slice_get (reaching d was_open xs) k ≡ Some entry → slice_get xs k ≡ Some entry
in_front d was_open [] k entry e = e
in_front d true (x ∷ xs) zero entry e = e
in_front d true (x ∷ xs) (suc k) entry e = in_front d (open_after d true x) xs k entry e
in_front d false (x ∷ xs) k entry e = absurd (let none = ap (λ es. slice_get es k) (none_reaches d xs) in cc)

event_picked : (d : ℕ) (entry : Entry) (event : CheckedEvent) → event_for d entry ≡ Some event → event_in entry ≡ Some event
event_picked d (Event event dests) x e = by (is_among dests d) e
  where
    by : (b : Bool) → (if b then Some event else None) ≡ Some x → Some event ≡ Some x
    by true e = e
    by false e = absurd (cc)
event_picked d (Edu edu dests) x e = absurd (cc)
event_picked d (Close dest cause) x e = absurd (cc)

edu_picked : (d : ℕ) (entry : Entry) (edu : Data) → edu_for d entry ≡ Some edu → edu_in entry ≡ Some edu
edu_picked d (Edu edu dests) x e = by (is_among dests d) e
  where
    by : (b : Bool) → (if b then Some edu else None) ≡ Some x → Some edu ≡ Some x
    by true e = e
    by false e = absurd (cc)
edu_picked d (Event event dests) x e = absurd (cc)
edu_picked d (Close dest cause) x e = absurd (cc)

pub addressed_stand : (entries : List Entry) (d : ℕ) → what_stands event_in entries (places_from (event_for d) 0 (reaching d true entries)) ≡ addressed entries d
addressed_stand entries d = stands (event_for d) event_in (event_picked d) entries 0 (reaching d true entries) (λ k entry here. ap (λ m. slice_get entries m) (omega arith) ∙ in_front d true entries k entry here)

pub edus_stand : (entries : List Entry) (d : ℕ) → what_stands edu_in entries (places_from (edu_for d) 0 (reaching d true entries)) ≡ addressed_edus entries d
edus_stand entries d = stands (edu_for d) edu_in (edu_picked d) entries 0 (reaching d true entries) (λ k entry here. ap (λ m. slice_get entries m) (omega arith) ∙ in_front d true entries k entry here)

-- room
pub lanes_have_room : (entries : List Entry) (reserved : ℕ) (lanes : List LaneState) → 0 < reserved → length entries + reserved ≤ 2 ^ 53 → AreLanes entries reserved lanes → HasRoom lanes
lanes_have_room entries reserved lanes some within are d lane here =
    let is = are d lane here in
    let room = is.room in
    let placed = is.placed in
    let most = placed_within entries d in
    (omega arith, omega arith)

pub lanes_follow_event : (entries : List Entry) (reserved : ℕ) (event : CheckedEvent) (dests among : List ℕ) (place : ℕ) (old read new : List LaneState) → AreLanes entries reserved old → among ≡ dests → place ≡ length entries → read ≡ old
    → AreChanged (is_among among) (reached kind.Event place) read new → AreLanes (entries ++ Event event dests ∷ []) (reserved - 1) new
lanes_follow_event entries reserved event dests among place old read new are same end held changed =
    all_follow entries reserved (Event event dests) (is_among dests) (reached kind.Event (length entries)) old new (λ d lane is. event_follows d (length entries) event dests lane) are
    (subst (λ (ls : List LaneState). AreChanged (is_among dests) (reached kind.Event (length entries)) ls new) held
    (subst (λ (n : ℕ). AreChanged (is_among dests) (reached kind.Event n) read new) end (subst (λ (ds : List ℕ). AreChanged (is_among ds) (reached kind.Event place) read new) same changed)))

pub lanes_follow_edu : (entries : List Entry) (reserved : ℕ) (edu : Data) (dests among : List ℕ) (place : ℕ) (old read new : List LaneState) → AreLanes entries reserved old → among ≡ dests → place ≡ length entries → read ≡ old
    → AreChanged (is_among among) (reached kind.Edu place) read new → AreLanes (entries ++ Edu edu dests ∷ []) (reserved - 1) new
lanes_follow_edu entries reserved edu dests among place old read new are same end held changed =
    all_follow entries reserved (Edu edu dests) (is_among dests) (reached kind.Edu (length entries)) old new (λ d lane is. edu_follows d (length entries) edu dests lane) are
    (subst (λ (ls : List LaneState). AreChanged (is_among dests) (reached kind.Edu (length entries)) ls new) held
    (subst (λ (n : ℕ). AreChanged (is_among dests) (reached kind.Edu n) read new) end (subst (λ (ds : List ℕ). AreChanged (is_among ds) (reached kind.Edu place) read new) same changed)))

pub lanes_follow_close : (entries : List Entry) (reserved dest : ℕ) (cause : Cause) (old new : List LaneState) → is_closed entries dest ≡ false → AreLanes entries reserved old → AreChanged (λ d. dest == d) (closed_by cause) old new
    → AreLanes (entries ++ Close dest cause ∷ []) (reserved - 1) new
lanes_follow_close entries reserved dest cause old new not_shut = all_follow entries reserved (Close dest cause) (λ d. dest == d) (closed_by cause) old new
    (λ d lane is. close_follows d (length entries) dest cause lane (λ same. is.closed ∙ ap (is_closed entries) (sym (eqb-true dest d same)) ∙ not_shut))

-- lanes of which some got more room
with_more_room : (entries : List Entry) (reserved more d : ℕ) (lane : LaneState) (b : Bool) → IsLane entries reserved d lane → IsLane entries reserved d (chosen_change (with_room more) b lane)
with_more_room entries reserved more d lane true is = record { events = is.events; edus = is.edus; placed = is.placed; closed = is.closed; room = let had = is.room in omega arith }
with_more_room entries reserved more d lane false is = is

pub lanes_partly_grown : (entries : List Entry) (reserved more : ℕ) (old new : List LaneState) → AreLanes entries reserved old → ArePartlyChanged (with_room more) old new → AreLanes entries reserved new
lanes_partly_grown entries reserved more old new are changed d lane here =
    let was = changed_lane (nat_lt d changed.0) (with_room more) (slice_get old d) lane (sym (changed.1 d) ∙ here) in
    subst (IsLane entries reserved d) (sym was.2) (with_more_room entries reserved more d was.0 (nat_lt d changed.0) (are d was.0 was.1))

pub lanes_grown : (entries : List Entry) (reserved more : ℕ) (old new : List LaneState) → AreLanes entries reserved old → AreChanged (λ _. true) (with_room more) old new → AreLanes entries more new
lanes_grown entries reserved more old new are changed d lane here =
    let was = changed_lane true (with_room more) (slice_get old d) lane (sym (changed d) ∙ here) in
    let is = are d was.0 was.1 in
    subst (IsLane entries more d) (sym was.2) (record { events = is.events; edus = is.edus; placed = is.placed; closed = is.closed; room = omega arith })

-- the lane that stands for a destination
pub lane_read : (entries : List Entry) (reserved : ℕ) (lanes : List LaneState) (place dest : ℕ) (lane : LaneState) → length lanes ≡ 64 → AreLanes entries reserved lanes → place ≡ dest → place < 64 → lane ≡ get_or lanes place lane
    → IsLane entries reserved dest lane
lane_read entries reserved lanes place dest lane count are same within read =
    subst (λ d. IsLane entries reserved d lane) same (are place lane (slice_get_read lanes 64 place lane (sym count) within read))

pub next_read : (entries : List Entry) (reserved d : ℕ) (lane : LaneState) → IsLane entries reserved d lane → place_after d lane ≡ next_place entries d
next_read entries reserved d lane is =
    ap (λ b. if b then None else Some (record { dest = d; number = lane.placed + 1 })) is.closed
    ∙ ap (λ (n : ℕ). if is_closed entries d then None else Some (record { dest = d; number = n + 1 })) is.placed

-- the counts, with one entry more
counted : {X : Type 0} (f : Entry → Option X) (xs : List Entry) (x : Entry) → length (filter_map f (xs ++ x ∷ [])) ≡ length (filter_map f xs) + length (filter_map f (x ∷ []))
counted f xs x = ap length (filter_map-append f xs (x ∷ [])) ∙ length-append (filter_map f xs) (filter_map f (x ∷ []))

-- a journal with one entry more
pub one_entry_more : (j h : Inside) (entry : Entry) → IsJournal j → 0 < j.reserved → h.entries.items ≡ j.entries.items ++ entry ∷ [] → vec_len h.entries ≡ vec_len j.entries + 1 → vec_capacity j.entries ≤ vec_capacity h.entries
    → length h.lanes.items ≡ 64 → AreLanes (j.entries.items ++ entry ∷ []) (j.reserved - 1) h.lanes.items → h.events ≡ j.events + length (filter_map event_in (entry ∷ [])) → h.edus ≡ j.edus + length (filter_map edu_in (entry ∷ []))
    → h.reserved ≡ j.reserved - 1 → IsJournal h
one_entry_more j h entry is some items len capacity count lanes events edus reserved = record {
  count = count;
  lanes = subst (λ (n : ℕ). AreLanes h.entries.items n h.lanes.items) (sym reserved) (subst (λ (es : List Entry). AreLanes es (j.reserved - 1) h.lanes.items) (sym items) lanes);
  events = events ∙ ap (λ n. n + length (filter_map event_in (entry ∷ []))) is.events ∙ sym (counted event_in j.entries.items entry) ∙ ap (λ es. length (events_of es)) (sym items);
  edus = edus ∙ ap (λ n. n + length (filter_map edu_in (entry ∷ []))) is.edus ∙ sym (counted edu_in j.entries.items entry) ∙ ap (λ es. length (edus_of es)) (sym items);
  within = let was = is.within in let more : length h.entries.items ≡ length j.entries.items + 1 = ap length items ∙ length_push j.entries.items entry in omega arith;
  room = let was = is.room in omega arith;
}

-- a journal with the same entries
pub same_entries : (j h : Inside) → IsJournal j → h.entries.items ≡ j.entries.items → length h.lanes.items ≡ 64 → AreLanes j.entries.items h.reserved h.lanes.items → h.events ≡ j.events → h.edus ≡ j.edus
    → length j.entries.items + h.reserved ≤ 2 ^ 53 → vec_len h.entries + h.reserved ≤ vec_capacity h.entries → IsJournal h
same_entries j h is items count lanes events edus within room = record {
  count = count;
  lanes = subst (λ (es : List Entry). AreLanes es h.reserved h.lanes.items) (sym items) lanes;
  events = events ∙ is.events ∙ ap (λ es. length (events_of es)) (sym items);
  edus = edus ∙ is.edus ∙ ap (λ es. length (edus_of es)) (sym items);
  within = let same = ap length items in omega arith;
  room = room;
}
