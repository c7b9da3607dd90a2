-- Ends that take in credits, and the room that their wires have.
use Rattle.std.proofs.Common.{arith, ◌≡◌, ◌≢◌, ◌⊎◌, inl, inr, ℕ, zero, suc, ◌<◌, ◌≤◌, ◌==◌, Bool, true, false, ◌||◌, List, [], ◌∷◌, length, set, get_or, take, Some, refl, sym, ap, ◌∙◌, subst, ⊎_elim, length-set}
use Rattle.std.specs.List.{slice_get, All}
use Rattle.std.proofs.lemmas.Bool.{eq-eqb, eqb-true}
use Rattle.std.proofs.lemmas.Option.{slice_get_within}
use Rattle.std.proofs.Math.Bool.{or-true}
use Rattle.fed_dest.specs.ServerSet.{is_among}
use Rattle.fed_journal.specs.declared.entry.Entry.{Entry}
use Rattle.fed_journal.specs.declared.parcel.Parcel.{Parcel}
use Rattle.fed_journal.specs.Journal.{parcels}
use Rattle.fed_wires.specs.NoRoom.{Lack}
use Rattle.fed_wires.specs.SendEnd.{Sender, with_room}
use Rattle.fed_wires.specs.WireId.{WireId}
use Rattle.fed_hub_state.specs.declared.full_wire.FullWire.{FullWire}
use Rattle.fed_hub_state.specs.declared.unplaced.Unplaced.{Unplaced}
use Rattle.fed_hub_state.specs.Spreading.{HasSent, AreSent, dests_of}
use Rattle.fed_hub_state.specs.WireRoom.{HasTakenIn, HaveTakenIn, HaveRoom, WasFull, IsFullOf}
use Rattle.fed_wires.proofs.Places.{set_here, set_all}

pub taken_none : (ends : List (Sender Parcel)) → HaveTakenIn ends ends
taken_none ends = record { count = refl; each = λ d is here. (is, (here, record { same = refl; more = omega arith })) }

pub taken_one : (ends : List (Sender Parcel)) (x : ℕ) (end new : Sender Parcel) → slice_get ends x ≡ Some end → new ≡ with_room end new.room → end.room ≤ new.room → HaveTakenIn ends (set ends x new)
taken_one ends x end new here same more = record {
  count = length-set ends x new;
  each =
      set_all (λ d is. (was : Sender Parcel) × ((slice_get ends d ≡ Some was) × HasTakenIn was is)) ends x new (end, (here, record { same = same; more = more }))
      (λ d is _ there. (is, (there, record { same = refl; more = omega arith })));
}

pub taken_more : (first second third : List (Sender Parcel)) → HaveTakenIn first second → HaveTakenIn second third → HaveTakenIn first third
taken_more first second third one other = record {
  count = other.count ∙ one.count;
  each = λ d is here.
      let o = other.each d is here in
      let f = one.each d o.0 o.1.0 in
      let low = f.1.1.more in
      let high = o.1.1.more in
      (f.0, (f.1.0, record { same = o.1.1.same ∙ ap (λ (e : Sender Parcel). with_room e is.room) f.1.1.same; more = omega arith }));
}

-- what went over the wires is as it was
pub taken_sent : (wires : List (WireId Parcel)) (entries : List Entry) (old new : List (Sender Parcel)) → AreSent wires entries old → HaveTakenIn old new → AreSent wires entries new
taken_sent wires entries old new are taken = record {
  count = taken.count ∙ are.count;
  each = λ d is here.
      let t = taken.each d is here in
      let was = are.each d t.0 t.1.0 in
      subst (HasSent wires entries d (parcels entries d)) (sym t.1.1.same) (record { wire = was.wire; sent = was.sent; returned = was.returned });
}

-- nor where one of the ends has other credits
pub credited_sent : (wires : List (WireId Parcel)) (entries : List Entry) (ends : List (Sender Parcel)) (x room : ℕ) (end : Sender Parcel) → AreSent wires entries ends → slice_get ends x ≡ Some end
    → AreSent wires entries (set ends x (with_room end room))
credited_sent wires entries ends x room end are here = record {
  count = length-set ends x (with_room end room) ∙ are.count;
  each =
      let was = are.each x end here in
      set_all (λ d e. HasSent wires entries d (parcels entries d) e) ends x (with_room end room) (record { wire = was.wire; sent = was.sent; returned = was.returned }) (λ d e _ there. are.each d e there);
}

-- an end that was asked for one credit and has none
pub full_at : (ends : List (Sender Parcel)) (x : ℕ) (end new : Sender Parcel) (full : FullWire) → x < length ends → new ≡ with_room end new.room → new.room < 1 → full.dest ≡ x → full.no_room ≡ record { wire = end.wire; count = 1 }
    → WasFull (set ends x new) full
full_at ends x end new full within same few dest shown = record {
  end = new;
  here = ap (slice_get (set ends x new)) dest ∙ set_here ends x new within;
  none = omega (arith, few);
  shown = shown ∙ ap (λ (e : Sender Parcel). record { wire = e.wire; count = 1 }) (sym same);
}

-- its wire is the one of that name
pub full_named : (wires : List (WireId Parcel)) (entries : List Entry) (old new : List (Sender Parcel)) (full : FullWire) → AreSent wires entries old → HaveTakenIn old new → WasFull new full → IsFullOf wires full
full_named wires entries old new full are taken was =
    let sent = taken_sent wires entries old new are taken in
    record {
      within = omega (arith, slice_get_within new full.dest was.end was.here, sent.count);
      wire = (sent.each full.dest was.end was.here).wire ∙ ap (λ (l : Lack Parcel). Some l.wire) (sym was.shown);
      count = ap (λ (l : Lack Parcel). l.count) was.shown;
    }

pub room_at : (ends : List (Sender Parcel)) (x : ℕ) (new : Sender Parcel) → 0 < new.room → HaveRoom (λ d. d ≡ x) (set ends x new)
room_at ends x new room d end to here = set_all (λ k e. k ≡ x → 0 < e.room) ends x new (λ _. room) (λ k e apart _ is. absurd (apart is)) d end here to

-- none is lost where ends take in credits
pub room_stays : (To : ℕ → Type 0) (old new : List (Sender Parcel)) → HaveRoom To old → HaveTakenIn old new → HaveRoom To new
room_stays To old new has taken d end to here =
    let t = taken.each d end here in
    let had = has d t.0 to t.1.0 in
    let more = t.1.1.more in omega arith

pub room_both : (To Also Both : ℕ → Type 0) (ends : List (Sender Parcel)) → HaveRoom To ends → HaveRoom Also ends → ((d : ℕ) → Both d → To d ⊎ Also d) → HaveRoom Both ends
room_both To Also Both ends has other each d end both here = ⊎_elim (λ to. has d end to here) (λ also. other d end also here) (each d both)

-- what is sent to one takes no credit of the others
pub room_elsewhere : (To Then : ℕ → Type 0) (ends : List (Sender Parcel)) (x : ℕ) (new : Sender Parcel) → HaveRoom To ends → ((d : ℕ) → Then d → (d ≢ x) × To d) → HaveRoom Then (set ends x new)
room_elsewhere To Then ends x new has each d end to here =
    set_all (λ k e. Then k → 0 < e.room) ends x new (λ is. absurd ((each x is).0 refl)) (λ k e _ there is. has k e (each k is).1 there) d end here to

-- ---- the destinations of loads

or_none : (b : Bool) → (b || false) ≡ b
or_none true = refl
or_none false = refl

pub among_taken : (loads : List Unplaced) (i d : ℕ) (z : Unplaced) → i < length loads → is_among (dests_of (take (suc i) loads)) d ≡ true → (is_among (dests_of (take i loads)) d ≡ true) ⊎ (d ≡ (get_or loads i z).dest)
among_taken [] i d z within among = absurd (omega (arith, within))
among_taken (u ∷ loads) zero d z within among = inr (sym (eqb-true u.dest d (sym (or_none (u.dest == d)) ∙ among)))
among_taken (u ∷ loads) (suc i) d z within among = by (u.dest == d) (among_taken loads i d z (omega (arith, within))) among
  where
    by : (b : Bool) → (is_among (dests_of (take (suc i) loads)) d ≡ true → (is_among (dests_of (take i loads)) d ≡ true) ⊎ (d ≡ (get_or loads i z).dest)) → (b || is_among (dests_of (take (suc i) loads)) d) ≡ true
        → ((b || is_among (dests_of (take i loads)) d) ≡ true) ⊎ (d ≡ (get_or loads i z).dest)
    by true later _ = inl refl
    by false later rest = later rest

pub among_at : (loads : List Unplaced) (i : ℕ) (z : Unplaced) → i < length loads → is_among (dests_of loads) (get_or loads i z).dest ≡ true
among_at [] i z within = absurd (omega (arith, within))
among_at (u ∷ loads) zero z within = ap (λ b. b || is_among (dests_of loads) u.dest) (eq-eqb u.dest u.dest refl)
among_at (u ∷ loads) (suc i) z within = ap (λ b. (u.dest == (get_or loads i z).dest) || b) (among_at loads i z (omega (arith, within))) ∙ or-true (u.dest == (get_or loads i z).dest)

pub dest_within : (count : ℕ) (loads : List Unplaced) (i : ℕ) (z : Unplaced) → All (λ d. d < count) (dests_of loads) → i < length loads → (get_or loads i z).dest < count
dest_within count [] i z all within = absurd (omega (arith, within))
dest_within count (u ∷ loads) zero z all within = all 0 0 (omega arith)
dest_within count (u ∷ loads) (suc i) z all within = dest_within count loads i z (λ k d less. all (suc k) d (omega (arith, less))) (omega (arith, within))
