-- A load that goes to its destinations, one after another.
use Rattle.std.proofs.Common.{arith, ◌≡◌, ◌≢◌, ℕ, suc, ◌+◌, ◌<◌, ◌==◌, Bool, true, false, ◌||◌, if◌then◌else◌, List, [], ◌∷◌, ◌++◌, length, set, get_or, Option, Some, None, refl, sym, ap, ◌∙◌, subst, append-nil, append_assoc, length-append, length-set, true≢false}
use Rattle.std.specs.List.{slice_get, slice_index_or, All, AllPairs}
use Rattle.std.specs.List.Sorted.{IsStrictlyIncreasing}
use Rattle.std.proofs.lemmas.List.Kept.{AllPairs-from_increasing}
use Rattle.std.specs.Option.{option_map, option_to_list}
use Rattle.std.proofs.lemmas.List.Folds.{list_any-append}
use Rattle.std.proofs.lemmas.Option.{slice_get-get_or, slice_get-map}
use Rattle.std.proofs.lemmas.List.{length-map}
use Rattle.std.proofs.lemmas.Bool.{eq-eqb, ne_eqb}
use Rattle.fed_dest.specs.ServerSet.{is_among}
use Rattle.fed_journal.specs.declared.entry.Cause.TheVariants.{Lost}
use Rattle.fed_journal.specs.declared.entry.Entry.{Entry}
use Rattle.fed_journal.specs.declared.entry.Entry.TheVariants.{Close}
use Rattle.fed_journal.specs.declared.parcel.Load.{Load}
use Rattle.fed_journal.specs.declared.parcel.Parcel.{Parcel}
use Rattle.fed_journal.specs.Place.{PlaceValue}
use Rattle.fed_journal.specs.Journal.{JournalState, is_closed, is_lost, loses, next_place, loads as loads_of, numbered, parcels, placed, with_entry}
use Rattle.fed_journal.specs.Queues.{parcel_to}
use Rattle.fed_journal.specs.Offering.{with_lost}
use Rattle.fed_journal.proofs.Entries.{is_closed-more, is_closed-one}
use Rattle.fed_journal.proofs.Placing.{parcels-more, parcel_losing, others_parcels, others_place}
use Rattle.fed_wires.specs.SendEnd.{Sender, with_sent, with_returned}
use Rattle.fed_wires.specs.WireId.{WireId}
use Rattle.fed_hub_state.specs.declared.unplaced.Unplaced.{Unplaced}
use Rattle.fed_hub_state.specs.Spreading.{HasSent, AreSent, AreSentTo, PassesOn, shut, sent, back, AreAll, dests_of, wires_of, AreUnused}
use Rattle.fed_hub_state.specs.SpreadingParts.{AreSome, none, left, kept, IsUnderWay}
use Rattle.fed_hub_state.specs.WireRoom.{HaveRoom}
use Rattle.fed_wires.proofs.Places.{set_all}
use Rattle.fed_hub_state.proofs.WireRooms.{room_elsewhere}

pub or_true : (b : Bool) → (b || true) ≡ true
or_true true = refl
or_true false = refl

pub or_false : (b : Bool) → (b || false) ≡ b
or_false true = refl
or_false false = refl

-- ---- closings of lost outboxes

pub with_lost-more : (entries : List Entry) (lost : List ℕ) (d : ℕ) → with_lost entries (lost ++ d ∷ []) ≡ with_lost entries lost ++ Close d Lost ∷ []
with_lost-more entries [] d = refl
with_lost-more entries (x ∷ lost) d = with_lost-more (entries ++ Close x Lost ∷ []) lost d

pub lost-more : (entries : List Entry) (entry : Entry) (d : ℕ) → is_lost (entries ++ entry ∷ []) d ≡ (is_lost entries d || loses d entry)
lost-more entries entry d = list_any-append (loses d) entries (entry ∷ []) ∙ ap (λ b. is_lost entries d || b) (or_false (loses d entry))

-- where no parcel is placed next the outbox is closed
pub none_placed : (entries : List Entry) (d : ℕ) → next_place entries d ≡ None → is_closed entries d ≡ true
none_placed entries d = by (is_closed entries d)
  where
    by : (b : Bool) → if◌then◌else◌ {A = Option PlaceValue} b None (Some (record { dest = d; number = placed entries d + 1 })) ≡ None → b ≡ true
    by true e = refl
    by false e = absurd (cc)

pub open_closes : (entries : List Entry) (d : ℕ) (place : PlaceValue) → next_place entries d ≡ Some place → is_closed entries d ≡ false
open_closes entries d place = by (is_closed entries d)
  where
    by : (b : Bool) → if◌then◌else◌ {A = Option PlaceValue} b None (Some (record { dest = d; number = placed entries d + 1 })) ≡ Some place → b ≡ false
    by true e = absurd (cc)
    by false e = refl

-- ---- one destination more

among-more : (given : List ℕ) (x d : ℕ) → is_among (given ++ x ∷ []) d ≡ (is_among given d || (x == d))
among-more given x d = list_any-append (λ other. other == d) given (x ∷ []) ∙ ap (λ b. is_among given d || b) (or_false (x == d))

-- what goes to d of a load for some servers
abbrev part_of : List Entry → Load → List ℕ → ℕ → Option Parcel
part_of entries load given d = if is_among given d then parcel_to entries load d else None

module _ (wires : List (WireId Parcel)) (load : Load) (given : List ℕ) (x : ℕ) (not_yet : is_among given x ≡ false) where
  now : is_among (given ++ x ∷ []) x ≡ true
  now = among-more given x x ∙ ap (λ b. is_among given x || b) (eq-eqb x x refl) ∙ or_true (is_among given x)

  others : (d : ℕ) → d ≢ x → is_among (given ++ x ∷ []) d ≡ is_among given d
  others d apart = among-more given x d ∙ ap (λ b. is_among given d || b) (ne_eqb x d (λ e. apart (sym e))) ∙ or_false (is_among given d)

  nothing_yet : (entries : List Entry) → part_of entries load given x ≡ None
  nothing_yet entries = ap (λ (b : Bool). if◌then◌else◌ {A = Option Parcel} b (parcel_to entries load x) None) not_yet

  part_now : (entries : List Entry) → part_of entries load (given ++ x ∷ []) x ≡ parcel_to entries load x
  part_now entries = ap (λ (b : Bool). if◌then◌else◌ {A = Option Parcel} b (parcel_to entries load x) None) now

  part_there : (entries : List Entry) (d : ℕ) → d ≢ x → part_of entries load (given ++ x ∷ []) d ≡ part_of entries load given d
  part_there entries d apart = ap (λ (b : Bool). if◌then◌else◌ {A = Option Parcel} b (parcel_to entries load d) None) (others d apart)

  -- what was sent to x is what was placed for it
  pub placed_so_far : (entries : List Entry) (ends : List (Sender Parcel)) (end : Sender Parcel) → AreSentTo wires entries load given ends → slice_get ends x ≡ Some end → end.sent ≡ parcels entries x
  placed_so_far entries ends end are here = (are.each x end here).sent ∙ ap (λ (o : Option Parcel). parcels entries x ++ option_to_list o) (nothing_yet entries) ∙ append-nil (parcels entries x)

  pub passed_on : (journal after : JournalState) (ends : List (Sender Parcel)) (end new : Sender Parcel) → AreSentTo wires journal.entries load given ends → slice_get ends x ≡ Some end
      → PassesOn x load journal end after new → AreSentTo wires after.entries load (given ++ x ∷ []) (set ends x new)
  passed_on journal after ends end new are here (shut closed) = record {
    count = length-set ends x end ∙ are.count;
    each =
        let was = are.each x end here in
        let nothing : parcel_to journal.entries load x ≡ None = ap (λ (b : Bool). option_map (λ (p : PlaceValue). record { place = p; load = load }) (if◌then◌else◌ {A = Option PlaceValue} b None (Some (record { dest = x; number = placed journal.entries x + 1 })))) closed in
        set_all (λ d e. HasSent wires journal.entries d (parcels journal.entries d ++ option_to_list (part_of journal.entries load (given ++ x ∷ []) d)) e) ends x end
        (record { wire = was.wire; sent = was.sent ∙ ap (λ (o : Option Parcel). parcels journal.entries x ++ option_to_list o) (nothing_yet journal.entries ∙ sym (part_now journal.entries ∙ nothing)); returned = was.returned })
        (λ d e apart there. let is = are.each d e there in record { wire = is.wire; sent = is.sent ∙ ap (λ (o : Option Parcel). parcels journal.entries d ++ option_to_list o) (sym (part_there journal.entries d apart)); returned = is.returned });
  }
  passed_on journal after ends end new are here (sent place next) = record {
    count = length-set ends x (with_sent end (record { place = place; load = load })) ∙ are.count;
    each =
        let was = are.each x end here in
        let parcel : Parcel = record { place = place; load = load } in
        let to : parcel_to journal.entries load x ≡ Some parcel = ap (option_map (λ (p : PlaceValue). record { place = p; load = load })) next in
        set_all (λ d e. HasSent wires journal.entries d (parcels journal.entries d ++ option_to_list (part_of journal.entries load (given ++ x ∷ []) d)) e) ends x (with_sent end parcel)
        (record {
          wire = was.wire;
          sent = ap (λ ps. ps ++ parcel ∷ []) (placed_so_far journal.entries ends end are here) ∙ ap (λ (o : Option Parcel). parcels journal.entries x ++ option_to_list o) (sym (part_now journal.entries ∙ to));
          returned = was.returned;
        })
        (λ d e apart there. let is = are.each d e there in record { wire = is.wire; sent = is.sent ∙ ap (λ (o : Option Parcel). parcels journal.entries d ++ option_to_list o) (sym (part_there journal.entries d apart)); returned = is.returned });
  }
  passed_on journal after ends end new are here (back place next) = record {
    count = length-set ends x (with_returned end) ∙ are.count;
    each =
        let was = are.each x end here in
        let later = journal.entries ++ Close x Lost ∷ [] in
        let closed : is_closed later x ≡ true = is_closed-more journal.entries (Close x Lost ∷ []) x ∙ ap (λ b. is_closed journal.entries x || b) (is_closed-one x (Close x Lost) ∙ eq-eqb x x refl) ∙ or_true (is_closed journal.entries x) in
        let nothing : parcel_to later load x ≡ None = ap (λ (b : Bool). option_map (λ (p : PlaceValue). record { place = p; load = load }) (if◌then◌else◌ {A = Option PlaceValue} b None (Some (record { dest = x; number = placed later x + 1 })))) closed in
        let stays : parcels later x ≡ parcels journal.entries x = parcels-more journal.entries (Close x Lost) x ∙ ap (λ (o : Option Parcel). parcels journal.entries x ++ option_to_list o) (parcel_losing journal.entries x x) ∙ append-nil (parcels journal.entries x) in
        set_all (λ d e. HasSent wires later d (parcels later d ++ option_to_list (part_of later load (given ++ x ∷ []) d)) e) ends x (with_returned end)
        (record {
          wire = was.wire;
          sent = placed_so_far journal.entries ends end are here ∙ sym (append-nil (parcels journal.entries x)) ∙ ap (λ ps. ps ++ []) (sym stays) ∙ ap (λ (o : Option Parcel). parcels later x ++ option_to_list o) (sym (part_now later ∙ nothing));
          returned = λ _. omega arith;
        })
        (λ d e apart there.
        let is = are.each d e there in
        let place_there : parcel_to later load d ≡ parcel_to journal.entries load d = ap (option_map (λ (p : PlaceValue). record { place = p; load = load })) (others_place journal.entries x Lost d apart) in
        let part : part_of later load (given ++ x ∷ []) d ≡ part_of journal.entries load given d = part_there later d apart ∙ ap (λ (o : Option Parcel). if◌then◌else◌ {A = Option Parcel} (is_among given d) o None) place_there in
        record {
          wire = is.wire;
          sent = is.sent ∙ (λ i. sym (others_parcels journal.entries x Lost d apart) i ++ option_to_list (sym part i));
          returned = λ lost. is.returned (sym (lost-more journal.entries (Close x Lost) d ∙ ap (λ b. is_lost journal.entries d || b) (ne_eqb x d (λ e. apart (sym e))) ∙ or_false (is_lost journal.entries d)) ∙ lost);
        });
  }

length_numbered : (d n : ℕ) (loads : List Load) → length (numbered d n loads) ≡ length loads
length_numbered d n [] = refl
length_numbered d n (x ∷ loads) = ap suc (length_numbered d (n + 1) loads)

pub count_placed : (entries : List Entry) (d : ℕ) → length (parcels entries d) ≡ placed entries d
count_placed entries d = length_numbered d 0 (loads_of entries d)

-- ---- all of them

index_middle : (xs : List ℕ) (x : ℕ) (rest : List ℕ) (d : ℕ) → slice_index_or (xs ++ x ∷ rest) (length xs) d ≡ x
index_middle [] x rest d = refl
index_middle (y ∷ xs) x rest d = index_middle xs x rest d

apart : (given : List ℕ) (x : ℕ) (rest : List ℕ) → AllPairs (λ a b. a < b) (given ++ x ∷ rest) → is_among given x ≡ false
apart [] x rest rising = refl
apart (y ∷ given) x rest rising =
    let first : y < slice_index_or (given ++ x ∷ rest) (length given) 0 = rising 0 (suc (length given)) 0 (omega arith) (omega (arith, length-append given (x ∷ rest))) in
    let less : y < x = omega (arith, first, index_middle given x rest 0) in
    ap (λ b. b || is_among given x) (ne_eqb y x (λ same. absurd (omega (arith, same, less)))) ∙ apart given x rest (λ i j d before within. rising (suc i) (suc j) d (omega (arith, before)) (omega (arith, within)))

above : (x : ℕ) (rest : List ℕ) → ((k : ℕ) → k < length rest → x < slice_index_or rest k 0) → is_among rest x ≡ false
above x [] all = refl
above x (y ∷ rest) all =
    let less : x < y = all 0 (omega arith) in
    ap (λ b. b || is_among rest x) (ne_eqb y x (λ same. absurd (omega (arith, same, less)))) ∙ above x rest (λ k within. all (suc k) (omega (arith, within)))

behind : (given : List ℕ) (x : ℕ) (rest : List ℕ) → AllPairs (λ a b. a < b) (given ++ x ∷ rest) → is_among rest x ≡ false
behind [] x rest rising = above x rest (λ k within. rising 0 (suc k) 0 (omega arith) (omega (arith, within)))
behind (y ∷ given) x rest rising = behind given x rest (λ i j d before within. rising (suc i) (suc j) d (omega (arith, before)) (omega (arith, within)))

some_left : (x : ℕ) (xs ys : List ℕ) → AreSome xs ys → AreSome xs (ys ++ x ∷ [])
some_left x _ _ none = left x [] [] none
some_left x _ _ (left y xs ys some) = left y xs (ys ++ x ∷ []) (some_left x xs ys some)
some_left x _ _ (kept y xs ys some) = kept y xs (ys ++ x ∷ []) (some_left x xs ys some)

some_kept : (x : ℕ) (xs ys : List ℕ) → AreSome xs ys → AreSome (xs ++ x ∷ []) (ys ++ x ∷ [])
some_kept x _ _ none = kept x [] [] none
some_kept x _ _ (left y xs ys some) = left y (xs ++ x ∷ []) (ys ++ x ∷ []) (some_kept x xs ys some)
some_kept x _ _ (kept y xs ys some) = kept y (xs ++ x ∷ []) (ys ++ x ∷ []) (some_kept x xs ys some)

module _ (wires : List (WireId Parcel)) (load : Load) where
  pub under_way_begins : (loads : List Unplaced) (journal : JournalState) (ends : List (Sender Parcel)) → AreSent wires journal.entries ends → AreAll load loads → length loads < journal.reserved
      → HaveRoom (λ d. is_among (dests_of loads) d ≡ true) ends → IsUnderWay wires load (dests_of loads) journal.entries loads journal ends
  under_way_begins loads journal ends are same room credits = record {
    given = [];
    lost = [];
    all = refl;
    same = same;
    some = none;
    entries = refl;
    sent = record {
      count = are.count;
      each = λ d end here. let is = are.each d end here in record { wire = is.wire; sent = is.sent ∙ sym (append-nil (parcels journal.entries d)); returned = is.returned };
    };
    room = room;
    credits = credits;
  }

  module _ (servers : List ℕ) (before : List Entry) (u : Unplaced) (later : List Unplaced) (rising : IsStrictlyIncreasing servers) where
    pub is_next : (journal : JournalState) (ends : List (Sender Parcel)) (way : IsUnderWay wires load servers before (u ∷ later) journal ends) → is_among way.given u.dest ≡ false
    is_next journal ends way = apart way.given u.dest (dests_of later) (AllPairs-from_increasing (way.given ++ u.dest ∷ dests_of later) (subst IsStrictlyIncreasing way.all rising))

    pub goes_on : (journal after : JournalState) (ends : List (Sender Parcel)) (end new : Sender Parcel) → IsUnderWay wires load servers before (u ∷ later) journal ends → slice_get ends u.dest ≡ Some end
        → PassesOn u.dest u.load journal end after new → IsUnderWay wires load servers before later after (set ends u.dest new)
    goes_on journal after ends end new way here passes = by after new (subst (λ (l : Load). PassesOn u.dest l journal end after new) way.same.0 passes)
      where
        all_then : servers ≡ (way.given ++ u.dest ∷ []) ++ dests_of later
        all_then = way.all ∙ sym (append_assoc way.given (u.dest ∷ []) (dests_of later))

        no_more : is_among (dests_of later) u.dest ≡ false
        no_more = behind way.given u.dest (dests_of later) (AllPairs-from_increasing (way.given ++ u.dest ∷ dests_of later) (subst IsStrictlyIncreasing way.all rising))

        credits_then : (new : Sender Parcel) → HaveRoom (λ d. is_among (dests_of later) d ≡ true) (set ends u.dest new)
        credits_then new = room_elsewhere (λ d. is_among (dests_of (u ∷ later)) d ≡ true) (λ d. is_among (dests_of later) d ≡ true) ends u.dest new way.credits
            (λ d among. ((λ same. absurd (true≢false (sym among ∙ ap (is_among (dests_of later)) same ∙ no_more))), ap (λ b. (u.dest == d) || b) among ∙ or_true (u.dest == d)))

        by : (after : JournalState) (new : Sender Parcel) → PassesOn u.dest load journal end after new → IsUnderWay wires load servers before later after (set ends u.dest new)
        by after new (shut closed) = record {
          given = way.given ++ u.dest ∷ [];
          lost = way.lost;
          all = all_then;
          same = way.same.1;
          some = some_left u.dest way.lost way.given way.some;
          entries = way.entries;
          sent = passed_on wires load way.given u.dest (is_next journal ends way) journal journal ends end end way.sent here (shut closed);
          room = let r = way.room in omega arith;
          credits = credits_then new;
        }
        by after new (sent place next) = record {
          given = way.given ++ u.dest ∷ [];
          lost = way.lost;
          all = all_then;
          same = way.same.1;
          some = some_left u.dest way.lost way.given way.some;
          entries = way.entries;
          sent = passed_on wires load way.given u.dest (is_next journal ends way) journal journal ends end new way.sent here (sent place next);
          room = let r = way.room in omega arith;
          credits = credits_then new;
        }
        by after new (back place next) = record {
          given = way.given ++ u.dest ∷ [];
          lost = way.lost ++ u.dest ∷ [];
          all = all_then;
          same = way.same.1;
          some = some_kept u.dest way.lost way.given way.some;
          entries = ap (λ es. es ++ Close u.dest Lost ∷ []) way.entries ∙ sym (with_lost-more before way.lost u.dest);
          sent = passed_on wires load way.given u.dest (is_next journal ends way) journal (with_entry journal (Close u.dest Lost)) ends end new way.sent here (back place next);
          room = let r = way.room in omega arith;
          credits = credits_then new;
        }

-- there is a credit for the next
pub credit_next : (wires : List (WireId Parcel)) (load : Load) (servers : List ℕ) (before : List Entry) (u : Unplaced) (later : List Unplaced) (journal : JournalState) (ends : List (Sender Parcel)) (end : Sender Parcel)
    → IsUnderWay wires load servers before (u ∷ later) journal ends → slice_get ends u.dest ≡ Some end → 0 < end.room
credit_next wires load servers before u later journal ends end way here = way.credits u.dest end (ap (λ b. b || is_among (dests_of later) u.dest) (eq-eqb u.dest u.dest refl)) here

pub none_left : {X : Type 0} (xs : List X) → length xs ≡ 0 → xs ≡ []
none_left [] is = refl
none_left (x ∷ xs) is = absurd (omega (arith, is))

pub server_within : (count : ℕ) (servers given : List ℕ) (x : ℕ) (rest : List ℕ) → servers ≡ given ++ x ∷ rest → All (λ d. d < count) servers → x < count
server_within count servers given x rest is all = at given (subst (All (λ d. d < count)) is all)
  where
    at : (given : List ℕ) → All (λ d. d < count) (given ++ x ∷ rest) → x < count
    at [] all = all 0 0 (omega arith)
    at (y ∷ given) all = at given (λ k d within. all (suc k) d (omega (arith, within)))

pub standing : {X : Type 0} (xs : List X) (place d : ℕ) (x : X) → place ≡ d → d < length xs → slice_get xs d ≡ Some (get_or xs place x)
standing {X} xs place d x same within = ap (slice_get xs) (sym same) ∙ slice_get-get_or xs place x (omega (arith, same, within))

pub begin_sent : (wires : List (WireId Parcel)) (ends : List (Sender Parcel)) → wires_of ends ≡ wires → AreUnused ends → AreSent wires [] ends
begin_sent wires ends are unused = record {
  count = sym (length-map ends (λ (e : Sender Parcel). e.wire)) ∙ ap length are;
  each = λ d end here. record {
    wire = ap (λ (ws : List (WireId Parcel)). slice_get ws d) (sym are) ∙ slice_get-map (λ (e : Sender Parcel). e.wire) ends d ∙ ap (option_map (λ (e : Sender Parcel). e.wire)) here;
    sent = unused d end here;
    returned = λ gone. absurd (true≢false (sym gone));
  };
}
