-- The outboxes for all other servers are closed, one after another.
use Rattle.std.proofs.Common.{arith, ◌≡◌, ◌≢◌, ◌⊎◌, ℕ, inl, inr, zero, suc, ◌+◌, ◌-◌, ◌<◌, ◌≤◌, ◌^◌, Bool, true, false, not, ◌&&◌, ◌||◌, ◌==◌, cond, List, [], ◌∷◌, ◌++◌, length, filter, set, Some, Result, Ok, Err, refl, sym, ap, ◌∙◌, subst, append-nil, length-append, length-set, true≢false, zero-add, add_assoc}
use Rattle.std.specs.List.{slice_get, range_with_len}
use Rattle.std.specs.Result.{IsErr, IsErrAnd}
use Rattle.std.proofs.lemmas.Bool.{cases_eq, ne_eqb, eq-eqb, leb-true, le-leb}
use Rattle.std.proofs.lemmas.List.Elements.{filter-append}
use Rattle.fed_journal.specs.declared.entry.Cause.{Cause}
use Rattle.fed_journal.specs.declared.entry.Entry.{Entry}
use Rattle.fed_journal.specs.declared.entry.Entry.TheVariants.{Close}
use Rattle.fed_journal.specs.declared.fault.JournalFault.{JournalFault}
use Rattle.fed_journal.specs.declared.parcel.Parcel.{Parcel}
use Rattle.fed_journal.specs.declared.fault.JournalFault.TheVariants.{Memory, Limit}
use Rattle.fed_journal.specs.Journal.{JournalState, is_closed, next_place, parcels, events_of, edus_of}
use Rattle.fed_journal.specs.Offering.{IsClosing, is_closed_now, has_place}
use Rattle.fed_journal.specs.Place.{PlaceValue}
use Rattle.fed_journal.proofs.Entries.{is_closed-more, is_closed-one}
use Rattle.fed_wires.specs.SendEnd.{Sender}
use Rattle.fed_wires.specs.WireId.{WireId}
use Rattle.fed_hub_state.specs.Closing.{ClosesOpen, asked, lost}
use Rattle.fed_hub_state.specs.SendingJournal.{SendingState}
use Rattle.fed_hub_state.specs.Spreading.{HasSent, AreSent}
use Rattle.fed_hub_state.specs.ShuttingDown.{is_other_open, others_open, has_places, HasNoPlaces, AreClosedInTurn, one_more, ShutsDown}
use Rattle.fed_hub_state.specs.ShuttingDownParts.{ClosesOther, left, closed, IsBeingShut}
use Rattle.fed_hub_state.specs.WireRoom.{HaveRoom}
use Rattle.fed_hub_state.specs.declared.sending_journal.CloseFault.{CloseFault}
use Rattle.fed_hub_state.specs.CloseFault.{close_fault_of}
use Rattle.fed_wires.proofs.Places.{set_all}
use Rattle.fed_hub_state.proofs.WireRooms.{room_elsewhere}
use Rattle.fed_hub_state.proofs.Spreads.{or_true, or_false, open_closes}
use Rattle.fed_hub_state.proofs.Closed as closings

pub one_number_more : (a n : ℕ) → range_with_len a (suc n) ≡ range_with_len a n ++ (a + n) ∷ []
one_number_more a zero = let same : a ≡ a + 0 = omega arith in ap (λ x. x ∷ []) same
one_number_more a (suc n) =
    let same : a + 1 + n ≡ a + suc n = omega arith in
    ap (λ xs. a ∷ xs) (one_number_more (a + 1) n ∙ ap (λ x. range_with_len (a + 1) n ++ x ∷ []) same)

-- one server more
others_more : (own i : ℕ) (entries : List Entry) → others_open (suc i) own entries ≡ others_open i own entries ++ cond (is_other_open own entries i) (i ∷ []) []
others_more own i entries =
    ap (filter (is_other_open own entries)) (one_number_more 0 i ∙ ap (λ x. range_with_len 0 i ++ x ∷ []) (zero-add i))
    ∙ filter-append (is_other_open own entries) (range_with_len 0 i) (i ∷ [])

pub others_with : (own i : ℕ) (entries : List Entry) → is_other_open own entries i ≡ true → others_open (i + 1) own entries ≡ others_open i own entries ++ i ∷ []
others_with own i entries is =
    let on : i + 1 ≡ suc i = omega arith in
    ap (λ k. others_open k own entries) on ∙ others_more own i entries ∙ ap (λ (b : Bool). others_open i own entries ++ cond b (i ∷ []) []) is

pub others_without : (own i : ℕ) (entries : List Entry) → is_other_open own entries i ≡ false → others_open (i + 1) own entries ≡ others_open i own entries
others_without own i entries is =
    let on : i + 1 ≡ suc i = omega arith in
    ap (λ k. others_open k own entries) on ∙ others_more own i entries ∙ ap (λ (b : Bool). others_open i own entries ++ cond b (i ∷ []) []) is ∙ append-nil (others_open i own entries)

-- there are no fewer among more servers
others_grow : (own i k : ℕ) (entries : List Entry) → length (others_open i own entries) ≤ length (others_open (i + k) own entries)
others_grow own i zero entries = let same : i + 0 ≡ i = omega arith in subst (λ n. length (others_open i own entries) ≤ length (others_open n own entries)) (sym same) (omega arith)
others_grow own i (suc k) entries =
    let same : i + suc k ≡ suc (i + k) = omega arith in
    let more = others_grow own i k entries in
    let grown : length (others_open (suc (i + k)) own entries) ≡ length (others_open (i + k) own entries) + length (cond (is_other_open own entries (i + k)) ((i + k) ∷ []) []) =
    ap length (others_more own (i + k) entries) ∙ length-append (others_open (i + k) own entries) (cond (is_other_open own entries (i + k)) ((i + k) ∷ []) []) in
    subst (λ n. length (others_open i own entries) ≤ length (others_open n own entries)) (sym same) (omega (arith, more, grown))

pub others_among : (own i n : ℕ) (entries : List Entry) → i ≤ n → length (others_open i own entries) ≤ length (others_open n own entries)
others_among own i n entries within =
    let same : i + (n - i) ≡ n = omega arith in subst (λ k. length (others_open i own entries) ≤ length (others_open k own entries)) same (others_grow own i (n - i) entries)

-- one of which the outbox is not to be closed is the own one, or its outbox is closed
closed_or_own : (own d : ℕ) (entries : List Entry) → is_other_open own entries d ≡ false → d ≢ own → is_closed entries d ≡ true
closed_or_own own d entries is other = by (is_closed entries d) (sym (ap (λ (b : Bool). not b && not (is_closed entries d)) (ne_eqb d own other)) ∙ is)
  where
    by : (b : Bool) → (true && not b) ≡ false → b ≡ true
    by true e = refl
    by false e = absurd (true≢false e)

-- one closing more closes the outbox of its server alone
others_stay : (entries : List Entry) (x d : ℕ) (cause : Cause) → d ≢ x → is_closed (entries ++ Close x cause ∷ []) d ≡ is_closed entries d
others_stay entries x d cause other =
    is_closed-more entries (Close x cause ∷ []) d ∙ ap (λ b. is_closed entries d || b) (is_closed-one d (Close x cause) ∙ ne_eqb x d (λ e. other (sym e))) ∙ or_false (is_closed entries d)

now_closed : (entries : List Entry) (x : ℕ) (cause : Cause) → is_closed (entries ++ Close x cause ∷ []) x ≡ true
now_closed entries x cause = is_closed-more entries (Close x cause ∷ []) x ∙ ap (λ b. is_closed entries x || b) (is_closed-one x (Close x cause) ∙ eq-eqb x x refl) ∙ or_true (is_closed entries x)

module _ (wires : List (WireId Parcel)) (own count : ℕ) (before : JournalState) where
  pub begins : (ends : List (Sender Parcel)) → AreSent wires before.entries ends → length (others_open count own before.entries) ≤ before.reserved
      → HaveRoom (λ d. is_other_open own before.entries d ≡ true) ends → IsBeingShut wires own count 0 before before ends
  begins ends sent room credits = record {
    turn = AreClosedInTurn.none;
    sent = sent;
    room = omega (arith, room);
    grown = omega arith;
    rest = λ d _. refl;
    shut = λ d less. absurd (omega arith);
    credits = λ d end to here. credits d end to.1 here;
  }

  -- there is room in the wire of the next server
  pub credit_next : (i : ℕ) (journal : JournalState) (ends : List (Sender Parcel)) (end : Sender Parcel) → IsBeingShut wires own count i before journal ends → slice_get ends i ≡ Some end
      → is_other_open own journal.entries i ≡ true → 0 < end.room
  credit_next i journal ends end being here is = being.credits i end ((omega arith, ap (λ (b : Bool). not (i == own) && not b) (sym (being.rest i (omega arith))) ∙ is)) here

  -- there is room for the closing of the outbox of the next server
  pub has_room_for : (i : ℕ) (journal : JournalState) (ends : List (Sender Parcel)) → i < count → IsBeingShut wires own count i before journal ends → is_other_open own journal.entries i ≡ true → 0 < journal.reserved
  has_room_for i journal ends within being is =
      let was : is_other_open own before.entries i ≡ true = ap (λ (b : Bool). not (i == own) && not b) (sym (being.rest i (omega arith))) ∙ is in
      let more : length (others_open (i + 1) own before.entries) ≡ length (others_open i own before.entries) + 1 = ap length (others_with own i before.entries was) ∙ length-append (others_open i own before.entries) (i ∷ []) in
      let most = others_among own (i + 1) count before.entries (omega arith) in
      let room = being.room in omega arith

  -- a closing takes of the room
  reserved_then : (place : PlaceValue) (journal after : JournalState) (end new : Sender Parcel) → ClosesOpen place journal end after new → after.reserved ≡ journal.reserved - 1
  reserved_then place journal _ end _ asked = refl
  reserved_then place journal _ end _ lost = refl

  has_place_for : (i : ℕ) (journal : JournalState) (ends : List (Sender Parcel)) → i < count → IsBeingShut wires own count i before journal ends
      → has_places before.entries (length (others_open count own before.entries)) ≡ true → is_other_open own before.entries i ≡ true → has_place journal.entries 0 ≡ true
  has_place_for i journal ends within being places was =
      let more : length (others_open (i + 1) own before.entries) ≡ length (others_open i own before.entries) + 1 = ap length (others_with own i before.entries was) ∙ length-append (others_open i own before.entries) (i ∷ []) in
      let most = others_among own (i + 1) count before.entries (omega arith) in
      let all = leb-true (length before.entries + length (others_open count own before.entries)) (2 ^ 53) places in
      let grown = being.grown in
      let less : length journal.entries + 1 + 0 ≤ 2 ^ 53 = omega (arith, more, most, all, grown) in
      le-leb (length journal.entries + 1 + 0) (2 ^ 53) less

  module _ (i : ℕ) (journal : JournalState) (ends : List (Sender Parcel)) (end : Sender Parcel) (within : i < count) (being : IsBeingShut wires own count i before journal ends) (here : slice_get ends i ≡ Some end)
      (places : has_places before.entries (length (others_open count own before.entries)) ≡ true) where
    -- the test of the next server is as it was before
    as_before : is_other_open own before.entries i ≡ is_other_open own journal.entries i
    as_before = ap (λ (b : Bool). not (i == own) && not b) (sym (being.rest i (omega arith)))

    credits_then : (new : Sender Parcel) → HaveRoom (λ d. (i + 1 ≤ d) × (is_other_open own before.entries d ≡ true)) (set ends i new)
    credits_then new = room_elsewhere (λ d. (i ≤ d) × (is_other_open own before.entries d ≡ true)) (λ d. (i + 1 ≤ d) × (is_other_open own before.entries d ≡ true)) ends i new being.credits
        (λ d to. ((λ same. absurd (omega (arith, to.0, same))), (omega (arith, to.0), to.1)))

    left_as_it_is : is_other_open own journal.entries i ≡ false → IsBeingShut wires own count (i + 1) before journal (set ends i end)
    left_as_it_is is =
        let same = others_without own i before.entries (as_before ∙ is) in
        let room = being.room in
        record {
          turn = subst (λ (dests : List ℕ). AreClosedInTurn before.entries dests journal.entries) (sym same) being.turn;
          sent = record {
            count = length-set ends i end ∙ being.sent.count;
            each = set_all (λ d e. HasSent wires journal.entries d (parcels journal.entries d) e) ends i end (being.sent.each i end here) (λ d e _ there. being.sent.each d e there);
          };
          room = subst (λ (dests : List ℕ). length (others_open count own before.entries) ≤ journal.reserved + length dests) (sym same) room;
          grown = being.grown ∙ ap (λ (dests : List ℕ). length before.entries + length dests) (sym same);
          rest = λ d more. being.rest d (omega (arith, more));
          shut = λ d less other. by d less other (cases_eq d i);
          credits = credits_then end;
        }
      where
        by : (d : ℕ) → d < i + 1 → d ≢ own → (d ≡ i) ⊎ (d ≢ i) → is_closed journal.entries d ≡ true
        by d less other (inl same) = closed_or_own own d journal.entries (ap (is_other_open own journal.entries) same ∙ is) other
        by d less other (inr apart) = being.shut d (omega (arith, apart)) other

    closed_now : (place : PlaceValue) (after : JournalState) (new : Sender Parcel) → is_other_open own journal.entries i ≡ true → next_place journal.entries i ≡ Some place → ClosesOpen place journal end after new
        → IsBeingShut wires own count (i + 1) before after (set ends i new)
    closed_now place after new is next closes =
        let same = others_with own i before.entries (as_before ∙ is) in
        let done = closings.closed wires journal ends being.sent i place end next here after new closes in
        let cause = done.0 in
        let entries = done.1.0 in
        let longer : length (others_open (i + 1) own before.entries) ≡ length (others_open i own before.entries) + 1 = ap length same ∙ length-append (others_open i own before.entries) (i ∷ []) in
        let room = being.room in
        let has = has_room_for i journal ends within being is in
        let reserved = reserved_then place journal after end new closes in
        let step : IsClosing i cause journal.entries is_closed_now (journal.entries ++ Close i cause ∷ []) = IsClosing.closed (open_closes journal.entries i place next) (has_place_for i journal ends within being places (as_before ∙ is)) in
        record {
          turn = subst (λ (y : List ℕ × List Entry). AreClosedInTurn before.entries y.0 y.1) (λ k. (sym same k, sym entries k))
              (one_more (others_open i own before.entries) i cause journal.entries (journal.entries ++ Close i cause ∷ []) being.turn step);
          sent = subst (λ (es : List Entry). AreSent wires es (set ends i new)) (sym entries) done.1.1;
          room = omega (arith, room, has, reserved, longer);
          grown = ap length entries ∙ length-append journal.entries (Close i cause ∷ []) ∙ ap (λ n. n + 1) being.grown ∙ add_assoc (length before.entries) (length (others_open i own before.entries)) 1 ∙ ap (λ n. length before.entries + n) (sym longer);
          rest = λ d more. let apart : d ≢ i = λ e. absurd (omega (arith, more, e)) in ap (λ (es : List Entry). is_closed es d) entries ∙ others_stay journal.entries i d cause apart ∙ being.rest d (omega (arith, more));
          shut = λ d less other. ap (λ (es : List Entry). is_closed es d) entries ∙ by cause d less other (cases_eq d i);
          credits = credits_then new;
        }
      where
        by : (cause : Cause) (d : ℕ) → d < i + 1 → d ≢ own → (d ≡ i) ⊎ (d ≢ i) → is_closed (journal.entries ++ Close i cause ∷ []) d ≡ true
        by cause d less other (inl same) = ap (is_closed (journal.entries ++ Close i cause ∷ [])) same ∙ now_closed journal.entries i cause
        by cause d less other (inr apart) = closings.stays_closed journal.entries (Close i cause ∷ []) d (being.shut d (omega (arith, apart)) other)

    pub goes_on : (after : JournalState) (new : Sender Parcel) → ClosesOther own i journal end after new → IsBeingShut wires own count (i + 1) before after (set ends i new)
    goes_on _ _ (left is) = left_as_it_is is
    goes_on after new (closed place _ _ is next closes) = closed_now place after new is next closes

-- closings are no events and no EDUs
pub events_stay : (before : List Entry) (dests : List ℕ) (after : List Entry) → AreClosedInTurn before dests after → events_of after ≡ events_of before
events_stay before _ _ AreClosedInTurn.none = refl
events_stay before _ _ (one_more dests d cause between after turn closing) = by (events_stay before dests between turn) after closing
  where
    by : events_of between ≡ events_of before → (after : List Entry) → IsClosing d cause between is_closed_now after → events_of after ≡ events_of before
    by same _ (IsClosing.closed running has) = closings.same_events between d cause ∙ same

pub edus_stay : (before : List Entry) (dests : List ℕ) (after : List Entry) → AreClosedInTurn before dests after → edus_of after ≡ edus_of before
edus_stay before _ _ AreClosedInTurn.none = refl
edus_stay before _ _ (one_more dests d cause between after turn closing) = by (edus_stay before dests between turn) after closing
  where
    by : edus_of between ≡ edus_of before → (after : List Entry) → IsClosing d cause between is_closed_now after → edus_of after ≡ edus_of before
    by same _ (IsClosing.closed running has) = closings.same_edus between d cause ∙ same

-- what is told where there is no room
pub no_places_told : (count own : ℕ) (old : SendingState) (n : ℕ) (fault : JournalFault) (told : Result (Unit {0}) CloseFault) → n ≡ length (others_open count own old.entries) → old.is_shut ≡ false
    → HasNoPlaces old.entries n fault → IsErr told → IsErrAnd told (λ t. t ≡ close_fault_of fault) → ShutsDown count own old told old
no_places_told count own old n fault (Ok b) same running room errs is = absurd (true≢false (sym errs))
no_places_told count own old n fault (Err t) same running room errs is = subst (λ f. ShutsDown count own old (Err f) old) (sym is) (by fault room)
  where
    by : (fault : JournalFault) → HasNoPlaces old.entries n fault → ShutsDown count own old (Err (close_fault_of fault)) old
    by Limit room = ShutsDown.no_place running (ap (has_places old.entries) (sym same) ∙ room)
    by Memory room = ShutsDown.no_memory running (ap (has_places old.entries) (sym same) ∙ room)
