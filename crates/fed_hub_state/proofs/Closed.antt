-- An outbox is closed: its end went over the wire, or came back.
use Rattle.std.proofs.Common.{arith, ◌≡◌, ◌≢◌, ℕ, Bool, true, false, ◌||◌, List, [], ◌∷◌, ◌++◌, Result, Ok, Err, set, Option, Some, refl, sym, ap, ◌∙◌, subst, append-nil, length-set, true≢false}
use Rattle.std.specs.List.{slice_get}
use Rattle.std.specs.Option.{option_map, option_to_list}
use Rattle.std.specs.Prelude.{IfErr}
use Rattle.std.specs.Result.{IsErr, IsErrAnd}
use Rattle.std.proofs.lemmas.Bool.{ne_eqb}
use Rattle.fed_journal.specs.declared.entry.Cause.{Cause}
use Rattle.fed_journal.specs.declared.entry.Cause.TheVariants.{Asked, Lost}
use Rattle.fed_journal.specs.declared.entry.Entry.{Entry}
use Rattle.fed_journal.specs.declared.entry.Entry.TheVariants.{Close}
use Rattle.fed_journal.specs.declared.fault.JournalFault.{JournalFault}
use Rattle.fed_journal.specs.declared.fault.JournalFault.TheVariants.{Memory, Limit}
use Rattle.fed_hub_state.specs.declared.sending_journal.CloseFault.{CloseFault}
use Rattle.fed_hub_state.specs.CloseFault.{close_fault_of, CloseFullIsOf}
use Rattle.fed_journal.specs.declared.parcel.Load.TheVariants.{End}
use Rattle.fed_journal.specs.declared.parcel.Parcel.{Parcel}
use Rattle.fed_journal.specs.Place.{PlaceValue}
use Rattle.fed_journal.specs.Journal.{JournalState, is_closed, is_lost, loses, next_place, parcels, events_of, edus_of}
use Rattle.fed_journal.proofs.Entries.{is_closed-more, next_number, all_events-more, all_edus-more}
use Rattle.fed_journal.proofs.Placing.{parcels-more, parcel_ending, parcel_losing, others_parcels}
use Rattle.fed_wires.specs.SendEnd.{Sender, with_sent, with_returned}
use Rattle.fed_wires.specs.WireId.{WireId}
use Rattle.fed_hub_state.specs.Closing.{Closes, ClosesOpen, asked, lost, no_place, no_memory}
use Rattle.fed_hub_state.specs.NoRoom.{HasNoRoom}
use Rattle.fed_hub_state.specs.SendingJournal.{SendingState}
use Rattle.fed_hub_state.specs.Spreading.{HasSent, AreSent}
use Rattle.fed_wires.proofs.Places.{set_all}
use Rattle.fed_hub_state.proofs.Spreads.{lost-more, or_false}

loses_other : (cause : Cause) (x d : ℕ) → d ≢ x → loses d (Close x cause) ≡ false
loses_other Asked x d apart = refl
loses_other Lost x d apart = ne_eqb x d (λ e. apart (sym e))

module _ (wires : List (WireId Parcel)) (journal : JournalState) (ends : List (Sender Parcel)) (are : AreSent wires journal.entries ends) (x : ℕ) where
  -- the others are as they were
  others_sent : (cause : Cause) (d : ℕ) (e : Sender Parcel) → d ≢ x → slice_get ends d ≡ Some e → HasSent wires (journal.entries ++ Close x cause ∷ []) d (parcels (journal.entries ++ Close x cause ∷ []) d) e
  others_sent cause d e apart there =
      let is = are.each d e there in
      record {
        wire = is.wire;
        sent = is.sent ∙ sym (others_parcels journal.entries x cause d apart);
        returned = λ gone. is.returned (sym (lost-more journal.entries (Close x cause) d ∙ ap (λ b. is_lost journal.entries d || b) (loses_other cause x d apart) ∙ or_false (is_lost journal.entries d)) ∙ gone);
      }

  closed_at : (place : PlaceValue) (end : Sender Parcel) → place.dest ≡ x → next_place journal.entries x ≡ Some place → slice_get ends x ≡ Some end
      → (after : JournalState) (new : Sender Parcel) → ClosesOpen place journal end after new → (cause : Cause) × ((after.entries ≡ journal.entries ++ Close x cause ∷ []) × AreSent wires (journal.entries ++ Close x cause ∷ []) (set ends x new))
  closed_at place end dest next here after new asked = (
    Asked,
    (
      ap (λ d. journal.entries ++ Close d Asked ∷ []) dest,
      record {
        count = length-set ends x (with_sent end (record { place = place; load = End })) ∙ are.count;
        each =
            let is = are.each x end here in
            let parcel : Parcel = record { place = place; load = End } in
            set_all (λ d e. HasSent wires (journal.entries ++ Close x Asked ∷ []) d (parcels (journal.entries ++ Close x Asked ∷ []) d) e) ends x (with_sent end parcel)
            (record {
              wire = is.wire;
              sent =
                  ap (λ ps. ps ++ parcel ∷ []) is.sent
                  ∙ ap (λ (o : Option Parcel). parcels journal.entries x ++ option_to_list o) (sym (parcel_ending journal.entries x ∙ ap (option_map (λ (p : PlaceValue). record { place = p; load = End })) next))
                  ∙ sym (parcels-more journal.entries (Close x Asked) x);
              returned = λ gone. is.returned (sym (lost-more journal.entries (Close x Asked) x ∙ or_false (is_lost journal.entries x)) ∙ gone);
            })
            (λ d e apart there. others_sent Asked d e apart there);
      },
    ),
  )
  closed_at place end dest next here after new lost = (
    Lost,
    (
      ap (λ d. journal.entries ++ Close d Lost ∷ []) dest,
      record {
        count = length-set ends x (with_returned end) ∙ are.count;
        each =
            let is = are.each x end here in
            set_all (λ d e. HasSent wires (journal.entries ++ Close x Lost ∷ []) d (parcels (journal.entries ++ Close x Lost ∷ []) d) e) ends x (with_returned end)
            (record {
              wire = is.wire;
              sent =
                  is.sent ∙ sym (append-nil (parcels journal.entries x)) ∙ ap (λ (o : Option Parcel). parcels journal.entries x ++ option_to_list o) (sym (parcel_losing journal.entries x x))
                  ∙ sym (parcels-more journal.entries (Close x Lost) x);
              returned = λ _. omega arith;
            })
            (λ d e apart there. others_sent Lost d e apart there);
      },
    ),
  )

  pub closed : (place : PlaceValue) (end : Sender Parcel) → next_place journal.entries x ≡ Some place → slice_get ends x ≡ Some end
      → (after : JournalState) (new : Sender Parcel) → ClosesOpen place journal end after new → (cause : Cause) × ((after.entries ≡ journal.entries ++ Close x cause ∷ []) × AreSent wires (journal.entries ++ Close x cause ∷ []) (set ends x new))
  closed place end next here after new closes = closed_at place end (next_number journal.entries x place next).0 next here after new closes

-- a closing is no event and no EDU
pub same_events : (entries : List Entry) (d : ℕ) (cause : Cause) → events_of (entries ++ Close d cause ∷ []) ≡ events_of entries
same_events entries d cause = all_events-more entries (Close d cause) ∙ append-nil (events_of entries)

pub same_edus : (entries : List Entry) (d : ℕ) (cause : Cause) → edus_of (entries ++ Close d cause ∷ []) ≡ edus_of entries
same_edus entries d cause = all_edus-more entries (Close d cause) ∙ append-nil (edus_of entries)

-- what was closed stays closed
pub stays_closed : (entries more : List Entry) (d : ℕ) → is_closed entries d ≡ true → is_closed (entries ++ more) d ≡ true
stays_closed entries more d is = is_closed-more entries more d ∙ ap (λ b. b || is_closed more d) is

-- what is told where there is no room
pub no_room_told : (d : ℕ) (old : SendingState) (fault : JournalFault) (told : Result Bool CloseFault) → is_closed old.entries d ≡ false → HasNoRoom old.entries 0 fault → IsErr told → IsErrAnd told (λ t. t ≡ close_fault_of fault) → Closes d old told old
no_room_told d old fault (Ok b) running room errs is = absurd (true≢false (sym errs))
no_room_told d old fault (Err t) running room errs is = subst (λ f. Closes d old (Err f) old) (sym is) (by fault room)
  where
    by : (fault : JournalFault) → HasNoRoom old.entries 0 fault → Closes d old (Err (close_fault_of fault)) old
    by Limit room = no_place running room
    by Memory room = no_memory running room

pub not_full : {X : Type 0} (wires : List (WireId Parcel)) (fault : JournalFault) (told : Result X CloseFault) → IsErrAnd told (λ t. t ≡ close_fault_of fault) → IfErr told (CloseFullIsOf wires)
not_full wires fault (Ok x) is = tt
not_full wires fault (Err t) is = subst (CloseFullIsOf wires) (sym is) (by fault)
  where
    by : (fault : JournalFault) → CloseFullIsOf wires (close_fault_of fault)
    by Limit = tt
    by Memory = tt
