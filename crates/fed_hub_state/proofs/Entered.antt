-- What is offered is entered behind the closings of the outboxes that turned out to be lost.
use Rattle.std.proofs.Common.{arith, ◌≡◌, ℕ, zero, suc, ◌+◌, ◌<◌, ◌==◌, Bool, true, false, not, ◌||◌, if◌then◌else◌, List, [], ◌∷◌, ◌++◌, Result, Ok, Err, length, filter, Option, Some, None, refl, sym, ap, ◌∙◌, subst, append-nil, length-append, get_or, true≢false}
use Rattle.std.specs.List.{slice_index, All}
use Rattle.std.specs.List.Sorted.{IsStrictlyIncreasing}
use Rattle.std.specs.Option.{option_map, option_to_list}
use Rattle.std.proofs.lemmas.List.Kept.{AllPairs-from_increasing}
use Rattle.std.proofs.lemmas.Bool.{eq-eqb, ne_eqb}
use Rattle.std.proofs.lemmas.List.Elements.{All-cons}
use Rattle.fed_dest.specs.ServerSet.{is_among}
use Rattle.fed_journal.specs.declared.entry.Cause.TheVariants.{Lost}
use Rattle.fed_journal.specs.declared.entry.Entry.{Entry}
use Rattle.fed_journal.specs.declared.entry.Entry.TheVariants.{Close}
use Rattle.fed_journal.specs.declared.parcel.Load.{Load}
use Rattle.fed_journal.specs.declared.parcel.Parcel.{Parcel}
use Rattle.fed_journal.specs.declared.offered.Offered.{Offered}
use Rattle.fed_journal.specs.declared.offered.Offered.TheVariants.{Event, Edu}
use Rattle.fed_journal.specs.Place.{PlaceValue}
use Rattle.fed_journal.specs.Journal.{JournalState, is_closed, is_lost, loses, placed, parcels, event_in, edu_in, events_of, edus_of}
use Rattle.fed_journal.specs.Queues.{parcel_to}
use Rattle.fed_journal.specs.Offered.{entry_of, load_of, number_of}
use Rattle.fed_journal.specs.Offering.{open_among, has_place, with_lost, AreLost}
use Rattle.fed_journal.proofs.Entries.{is_closed-more, all_events-more, all_edus-more}
use Rattle.fed_journal.proofs.Placing.{parcels-more, parcel_offered}
use Rattle.fed_wires.specs.SendEnd.{Sender}
use Rattle.fed_wires.specs.WireId.{WireId}
use Rattle.fed_hub_state.specs.declared.unplaced.Unplaced.{Unplaced}
use Rattle.fed_hub_state.specs.ClientToken.{ClientShare, event_count, edu_count, with_told}
use Rattle.fed_hub_state.specs.Entering.{Enters, no_place, no_memory, entered}
use Rattle.std.specs.Prelude.{IfErr}
use Rattle.std.specs.Result.{IsErr, IsErrAnd}
use Rattle.fed_hub_state.specs.declared.sending_journal.EnterFault.{EnterFault}
use Rattle.fed_journal.specs.declared.fault.JournalFault.{JournalFault}
use Rattle.fed_journal.specs.declared.fault.JournalFault.TheVariants.{Memory, Limit}
use Rattle.fed_hub_state.specs.EnterFault.{enter_fault_of, FullIsOf}
use Rattle.fed_hub_state.specs.NoRoom.{HasNoRoom}
use Rattle.fed_hub_state.specs.SendingJournal.{SendingState}
use Rattle.fed_hub_state.specs.Spreading.{AreSent, AreSentTo, AreAll, dests_of}
use Rattle.fed_hub_state.specs.SpreadingParts.{AreSome, none, left, kept, IsUnderWay}
use Rattle.fed_hub_state.proofs.Spreads.{lost-more, or_true, or_false}

-- ---- loads for those destinations whose outboxes are open

module _ (p : ℕ → Bool) where
  pub dests_kept : (loads : List Unplaced) → dests_of (filter (λ (u : Unplaced). p u.dest) loads) ≡ filter p (dests_of loads)
  dests_kept [] = refl
  dests_kept (u ∷ loads) = by (p u.dest) (dests_kept loads)
    where
      by : (b : Bool) → dests_of (filter (λ (u : Unplaced). p u.dest) loads) ≡ filter p (dests_of loads)
          → dests_of (if b then u ∷ filter (λ (u : Unplaced). p u.dest) loads else filter (λ (u : Unplaced). p u.dest) loads) ≡ (if b then u.dest ∷ filter p (dests_of loads) else filter p (dests_of loads))
      by true same = ap (λ ds. u.dest ∷ ds) same
      by false same = same

  pub all_kept : (load : Load) (loads : List Unplaced) → AreAll load loads → AreAll load (filter (λ (u : Unplaced). p u.dest) loads)
  all_kept load [] all = tt
  all_kept load (u ∷ loads) all = by (p u.dest) (all_kept load loads all.1)
    where
      by : (b : Bool) → AreAll load (filter (λ (u : Unplaced). p u.dest) loads) → AreAll load (if b then u ∷ filter (λ (u : Unplaced). p u.dest) loads else filter (λ (u : Unplaced). p u.dest) loads)
      by true rest = (all.0, rest)
      by false rest = rest

  among_kept : (xs : List ℕ) (d : ℕ) → p d ≡ true → is_among (filter p xs) d ≡ is_among xs d
  among_kept [] d here = refl
  among_kept (x ∷ xs) d here = by (p x) refl (among_kept xs d here)
    where
      by : (kept : Bool) → p x ≡ kept → is_among (filter p xs) d ≡ is_among xs d → is_among (if kept then x ∷ filter p xs else filter p xs) d ≡ ((x == d) || is_among xs d)
      by true is rest = ap (λ b. (x == d) || b) rest
      by false is rest = rest ∙ ap (λ b. b || is_among xs d) (sym (ne_eqb x d (λ same. absurd (true≢false (sym here ∙ ap p (sym same) ∙ is)))))

  pub all_filtered : (P : ℕ → Type 0) (xs : List ℕ) → All P xs → All P (filter p xs)
  all_filtered P [] all = all
  all_filtered P (x ∷ xs) all = by (p x) (all_filtered P xs (λ k d within. all (suc k) d (omega (arith, within))))
    where
      by : (b : Bool) → All P (filter p xs) → All P (if b then x ∷ filter p xs else filter p xs)
      by true rest = All-cons P x (filter p xs) (all 0 x (omega arith)) rest
      by false rest = rest

-- ---- lost outboxes are some of the open ones

all_of_some : (P : ℕ → Type 0) (xs ys : List ℕ) → AreSome xs ys → All P ys → All P xs
all_of_some P _ _ none all = all
all_of_some P _ _ (left y xs ys some) all = all_of_some P xs ys some (λ k d within. all (suc k) d (omega (arith, within)))
all_of_some P _ _ (kept y xs ys some) all = All-cons P y xs (all 0 y (omega arith)) (all_of_some P xs ys some (λ k d within. all (suc k) d (omega (arith, within))))

-- the first is below all others, which rise
rising_first : (x : ℕ) (xs : List ℕ) → IsStrictlyIncreasing (x ∷ xs) → All (λ y. x < y) xs
rising_first x xs rising k d within = let less = AllPairs-from_increasing (x ∷ xs) rising 0 (suc k) d (omega arith) (omega (arith, within)) in less

one_more : (k : ℕ) → suc k + 1 ≡ suc (k + 1)
one_more k = omega arith

rising_rest : (x : ℕ) (xs : List ℕ) → IsStrictlyIncreasing (x ∷ xs) → IsStrictlyIncreasing xs
rising_rest x xs rising k within = subst (λ n. slice_index (x ∷ xs) (suc k) < slice_index (x ∷ xs) n) (one_more k) (rising (suc k) (omega (arith, within)))

rising_cons : (x : ℕ) (xs : List ℕ) → All (λ y. x < y) xs → IsStrictlyIncreasing xs → IsStrictlyIncreasing (x ∷ xs)
rising_cons x xs below rising zero within = below 0 0 (omega (arith, within))
rising_cons x xs below rising (suc k) within = subst (λ n. slice_index (x ∷ xs) (suc k) < slice_index (x ∷ xs) n) (sym (one_more k)) (rising k (omega (arith, within)))

some_rise : (xs ys : List ℕ) → AreSome xs ys → IsStrictlyIncreasing ys → IsStrictlyIncreasing xs
some_rise _ _ none rising = rising
some_rise _ _ (left y xs ys some) rising = some_rise xs ys some (rising_rest y ys rising)
some_rise _ _ (kept y xs ys some) rising = rising_cons y xs (all_of_some (λ z. y < z) xs ys some (rising_first y ys rising)) (some_rise xs ys some (rising_rest y ys rising))

all_among : (ys : List ℕ) → All (λ d. is_among ys d ≡ true) ys
all_among [] k d within = absurd (omega (arith, within))
all_among (y ∷ ys) zero d within = ap (λ b. b || is_among ys y) (eq-eqb y y refl)
all_among (y ∷ ys) (suc k) d within = ap (λ b. (y == get_or ys k d) || b) (all_among ys k d (omega (arith, within))) ∙ or_true (y == get_or ys k d)

pub some_are_lost : (entries : List Entry) (dests lost : List ℕ) → IsStrictlyIncreasing (open_among entries dests) → AreSome lost (open_among entries dests) → AreLost entries dests lost
some_are_lost entries dests lost rising some = record {
  rising = some_rise lost (open_among entries dests) some rising;
  reached = all_of_some (λ d. is_among (open_among entries dests) d ≡ true) lost (open_among entries dests) some (all_among (open_among entries dests));
}

-- ---- the journal behind the closings

closed_stays : (entries : List Entry) (lost : List ℕ) (d : ℕ) → is_closed entries d ≡ true → is_closed (with_lost entries lost) d ≡ true
closed_stays entries [] d closed = closed
closed_stays entries (x ∷ lost) d closed =
    closed_stays (entries ++ Close x Lost ∷ []) lost d (is_closed-more entries (Close x Lost ∷ []) d ∙ ap (λ b. b || is_closed (Close x Lost ∷ []) d) closed)

same_events : (entries : List Entry) (lost : List ℕ) → events_of (with_lost entries lost) ≡ events_of entries
same_events entries [] = refl
same_events entries (x ∷ lost) = same_events (entries ++ Close x Lost ∷ []) lost ∙ all_events-more entries (Close x Lost) ∙ append-nil (events_of entries)

same_edus : (entries : List Entry) (lost : List ℕ) → edus_of (with_lost entries lost) ≡ edus_of entries
same_edus entries [] = refl
same_edus entries (x ∷ lost) = same_edus (entries ++ Close x Lost ∷ []) lost ∙ all_edus-more entries (Close x Lost) ∙ append-nil (edus_of entries)

module _ (before : List Entry) (lost : List ℕ) (offered : Offered) (dests : List ℕ) where
  pub count_events : length (events_of (with_lost before lost ++ entry_of offered dests ∷ [])) ≡ length (events_of before) + event_count offered
  count_events = ap length (all_events-more (with_lost before lost) (entry_of offered dests)) ∙ length-append (events_of (with_lost before lost)) (option_to_list (event_in (entry_of offered dests))) ∙ by offered
    where
      by : (o : Offered) → length (events_of (with_lost before lost)) + length (option_to_list (event_in (entry_of o dests))) ≡ length (events_of before) + event_count o
      by (Event event) = ap (λ es. length es + 1) (same_events before lost)
      by (Edu edu) = ap (λ es. length es + 0) (same_events before lost)

  pub count_edus : length (edus_of (with_lost before lost ++ entry_of offered dests ∷ [])) ≡ length (edus_of before) + edu_count offered
  count_edus = ap length (all_edus-more (with_lost before lost) (entry_of offered dests)) ∙ length-append (edus_of (with_lost before lost)) (option_to_list (edu_in (entry_of offered dests))) ∙ by offered
    where
      by : (o : Offered) → length (edus_of (with_lost before lost)) + length (option_to_list (edu_in (entry_of o dests))) ≡ length (edus_of before) + edu_count o
      by (Event event) = ap (λ es. length es + 0) (same_edus before lost)
      by (Edu edu) = ap (λ es. length es + 1) (same_edus before lost)

loses_nothing : (offered : Offered) (dests : List ℕ) (d : ℕ) → loses d (entry_of offered dests) ≡ false
loses_nothing (Event event) dests d = refl
loses_nothing (Edu edu) dests d = refl

-- what goes to the open ones of some servers goes to all of them
pub same_parts : (before : List Entry) (lost dests : List ℕ) (load : Load) (d : ℕ)
    → if◌then◌else◌ {A = Option Parcel} (is_among (open_among before dests) d) (parcel_to (with_lost before lost) load d) None ≡ if◌then◌else◌ {A = Option Parcel} (is_among dests d) (parcel_to (with_lost before lost) load d) None
same_parts before lost dests load d = by (is_closed before d) refl
  where
    nowhere : (b : Bool) → parcel_to (with_lost before lost) load d ≡ None → if◌then◌else◌ {A = Option Parcel} b (parcel_to (with_lost before lost) load d) None ≡ None
    nowhere true e = e
    nowhere false e = refl

    by : (closed : Bool) → is_closed before d ≡ closed
        → if◌then◌else◌ {A = Option Parcel} (is_among (open_among before dests) d) (parcel_to (with_lost before lost) load d) None ≡ if◌then◌else◌ {A = Option Parcel} (is_among dests d) (parcel_to (with_lost before lost) load d) None
    by true is =
        let nothing : parcel_to (with_lost before lost) load d ≡ None =
        ap (λ (b : Bool). option_map (λ (p : PlaceValue). record { place = p; load = load }) (if◌then◌else◌ {A = Option PlaceValue} b None (Some (record { dest = d; number = placed (with_lost before lost) d + 1 })))) (closed_stays before lost d is) in
        nowhere (is_among (open_among before dests) d) nothing ∙ sym (nowhere (is_among dests d) nothing)
    by false is = ap (λ (b : Bool). if◌then◌else◌ {A = Option Parcel} b (parcel_to (with_lost before lost) load d) None) (among_kept (λ e. not (is_closed before e)) dests d (ap not is))

-- the entry stands in the journal, and its load has gone to all its destinations
pub all_sent : (wires : List (WireId Parcel)) (before : List Entry) (lost dests : List ℕ) (offered : Offered) (ends : List (Sender Parcel))
    → AreSentTo wires (with_lost before lost) (load_of offered) (open_among before dests) ends → AreSent wires (with_lost before lost ++ entry_of offered dests ∷ []) ends
all_sent wires before lost dests offered ends are = record {
  count = are.count;
  each = λ d end here.
      let is = are.each d end here in
      let entries = with_lost before lost in
      record {
        wire = is.wire;
        sent =
            is.sent ∙ ap (λ (o : Option Parcel). parcels entries d ++ option_to_list o) (same_parts before lost dests (load_of offered) d ∙ sym (parcel_offered entries offered dests d))
            ∙ sym (parcels-more entries (entry_of offered dests) d);
        returned = λ gone. is.returned (sym (lost-more entries (entry_of offered dests) d ∙ ap (λ b. is_lost entries d || b) (loses_nothing offered dests d) ∙ or_false (is_lost entries d)) ∙ gone);
      };
}

-- what is told then, and what stands
module _ (wires : List (WireId Parcel)) (offered : Offered) (dests : List ℕ) (old : SendingState) (client : ClientShare) (loads : List Unplaced) (journal : JournalState) (ends : List (Sender Parcel)) (way : IsUnderWay wires (load_of offered) (dests_of loads) old.entries [] journal ends) (where_to : dests_of loads ≡ open_among old.entries dests) (rising : IsStrictlyIncreasing (dests_of loads)) where
  given_all : way.given ≡ open_among old.entries dests
  given_all = sym (append-nil way.given) ∙ sym way.all ∙ where_to

  are_lost : AreLost old.entries dests way.lost
  are_lost = some_are_lost old.entries dests way.lost (subst IsStrictlyIncreasing where_to rising) (subst (AreSome way.lost) given_all way.some)

  pub then_sent : (entries : List Entry) → entries ≡ journal.entries ++ entry_of offered dests ∷ [] → AreSent wires entries ends
  then_sent entries is =
      subst (λ (es : List Entry). AreSent wires es ends) (ap (λ es. es ++ entry_of offered dests ∷ []) (sym way.entries) ∙ sym is)
      (all_sent wires old.entries way.lost dests offered ends
      (subst (λ (y : List Entry × List ℕ). AreSentTo wires y.0 (load_of offered) y.1 ends) (λ i. (way.entries i, given_all i)) way.sent))

  pub then_events : (entries : List Entry) → entries ≡ journal.entries ++ entry_of offered dests ∷ [] → length (events_of entries) ≡ length (events_of old.entries) + event_count offered
  then_events entries is = ap (λ es. length (events_of es)) (is ∙ ap (λ es. es ++ entry_of offered dests ∷ []) way.entries) ∙ count_events old.entries way.lost offered dests

  pub then_edus : (entries : List Entry) → entries ≡ journal.entries ++ entry_of offered dests ∷ [] → length (edus_of entries) ≡ length (edus_of old.entries) + edu_count offered
  then_edus entries is = ap (λ es. length (edus_of es)) (is ∙ ap (λ es. es ++ entry_of offered dests ∷ []) way.entries) ∙ count_edus old.entries way.lost offered dests

  pub then_told : (entries : List Entry) (number : ℕ) (after : ClientShare) → entries ≡ journal.entries ++ entry_of offered dests ∷ [] → number ≡ number_of offered entries → after ≡ with_told client offered
      → old.is_shut ≡ false → has_place old.entries (length (open_among old.entries dests)) ≡ true
      → Enters offered dests old client (Ok number) (record { entries = entries; is_shut = old.is_shut }) after
  then_told entries number after is told noted running fits =
      let same : with_lost old.entries way.lost ++ entry_of offered dests ∷ [] ≡ entries = ap (λ es. es ++ entry_of offered dests ∷ []) (sym way.entries) ∙ sym is in
      subst (λ (y : ℕ × List Entry × ClientShare). Enters offered dests old client (Ok y.0) (record { entries = y.1; is_shut = old.is_shut }) y.2)
      (λ i. ((ap (number_of offered) same ∙ sym told) i, same i, sym noted i))
      (entered way.lost running fits are_lost)

-- what is told where there is no room
pub no_room_told : (offered : Offered) (dests : List ℕ) (old : SendingState) (client : ClientShare) (count : ℕ) (fault : JournalFault) (told : Result ℕ EnterFault) → count ≡ length (open_among old.entries dests)
    → old.is_shut ≡ false → HasNoRoom old.entries count fault → IsErr told → IsErrAnd told (λ t. t ≡ enter_fault_of fault) → Enters offered dests old client told old client
no_room_told offered dests old client count fault (Ok n) same running room errs is = absurd (true≢false (sym errs))
no_room_told offered dests old client count fault (Err t) same running room errs is = subst (λ f. Enters offered dests old client (Err f) old client) (sym is) (by fault room)
  where
    by : (fault : JournalFault) → HasNoRoom old.entries count fault → Enters offered dests old client (Err (enter_fault_of fault)) old client
    by Limit room = no_place running (ap (has_place old.entries) (sym same) ∙ room)
    by Memory room = no_memory running (ap (has_place old.entries) (sym same) ∙ room)

pub not_full : (wires : List (WireId Parcel)) (fault : JournalFault) (told : Result ℕ EnterFault) → IsErrAnd told (λ t. t ≡ enter_fault_of fault) → IfErr told (FullIsOf wires)
not_full wires fault (Ok x) is = tt
not_full wires fault (Err t) is = subst (FullIsOf wires) (sym is) (by fault)
  where
    by : (fault : JournalFault) → FullIsOf wires (enter_fault_of fault)
    by Limit = tt
    by Memory = tt
