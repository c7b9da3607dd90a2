-- The parcels that an outbox has accepted, call after call.
use Rattle.std.proofs.Common.{arith, ◌≡◌, ℕ, zero, suc, ◌+◌, Bool, true, false, ◌||◌, ◌&&◌, if◌then◌else◌, List, [], ◌∷◌, ◌++◌, length, map, Option, Some, None, refl, sym, ap, ◌∙◌, subst, length-append}
use Rattle.std.specs.List.{list_any, filter_map}
use Rattle.std.specs.Option.{option_to_list}
use Rattle.std.proofs.lemmas.List.{append-nil, append_assoc, map-append}
use Rattle.std.proofs.lemmas.List.Elements.{filter_map-append}
use Rattle.std.proofs.lemmas.List.Folds.{list_any-append}
use Rattle.fed_journal.specs.Place.{PlaceValue}
use Rattle.fed_journal.specs.declared.parcel.Load.{Load}
use Rattle.fed_journal.specs.declared.parcel.Load.TheVariants.{Event, Edu, End}
use Rattle.fed_journal.specs.declared.parcel.Parcel.{Parcel}
use Rattle.fed_journal.specs.Loads.{event_in_load, edu_in_load, is_end}
use Rattle.fed_outbox.specs.Outbox.{OutboxState, new_outbox, expected, fits, with_load}
use Rattle.fed_outbox.specs.Runs.{Call, Accept, Cut, Failed, Settle, after_call, after, accepted_by, accepted_parcels, events_of, edus_of, places_from}
use Rattle.fed_outbox.specs.Accepted.{HasAccepted}
use Rattle.fed_outbox.proofs.Steps.{Same, Adds, call_does, call_keeps, same_expected, with_load_adds}

pub none_accepted : (d : ℕ) → HasAccepted d [] (new_outbox d)
none_accepted d = record { dest = refl; places = refl; next = refl; events = refl; edus = refl; end = refl }

places_from-suc : (d n count : ℕ) → places_from d n (suc count) ≡ places_from d n count ++ (record { dest = d; number = n + count }) ∷ []
places_from-suc d n zero = ap (λ m. (record { dest = d; number = m }) ∷ []) (omega arith)
places_from-suc d n (suc count) =
    ap (λ ps. record { dest = d; number = n } ∷ ps)
    (places_from-suc d (n + 1) count ∙ ap (λ m. places_from d (n + 1) count ++ (record { dest = d; number = m }) ∷ []) (omega arith))

or_nothing : (b : Bool) → b ≡ (b || false)
or_nothing true = refl
or_nothing false = refl

or_end : (b : Bool) → true ≡ (b || true)
or_end true = refl
or_end false = refl

with_load_ends : (o : OutboxState) (load : Load) → (with_load o load).has_end ≡ (o.has_end || (is_end load || false))
with_load_ends o (Event event) = or_nothing o.has_end
with_load_ends o (Edu edu) = or_nothing o.has_end
with_load_ends o End = or_end o.has_end

-- nothing more is accepted
same_accepted : (d : ℕ) (parcels : List Parcel) (o next : OutboxState) → Same o next → HasAccepted d parcels o → HasAccepted d (parcels ++ []) next
same_accepted d parcels o next same h = subst (λ ps. HasAccepted d ps next) (sym (append-nil parcels)) (record {
  dest = same.dest ∙ h.dest;
  places = h.places;
  next = same_expected o next same ∙ h.next;
  events = same.events ∙ h.events;
  edus = same.edus ∙ h.edus;
  end = same.end ∙ h.end;
})

-- one more parcel is
one_accepted : (d : ℕ) (parcels : List Parcel) (o : OutboxState) (parcel : Parcel) → fits o parcel.place ≡ true → HasAccepted d parcels o → HasAccepted d (parcels ++ parcel ∷ []) (with_load o parcel.load)
one_accepted d parcels o parcel fit h =
    let adds = with_load_adds o parcel fit in
    let number = adds.number in
    let before = h.next in
    let count : length (parcels ++ parcel ∷ []) ≡ suc (length parcels) = length-append parcels (parcel ∷ []) ∙ omega arith in
    let at : expected o ≡ 1 + length parcels = omega arith in
    let there : record { dest = o.dest; number = expected o } ≡ record { dest = d; number = 1 + length parcels } = λ i. record { dest = h.dest i; number = at i } in
    let place : parcel.place ≡ record { dest = d; number = 1 + length parcels } = adds.place ∙ there in
    record {
      dest = adds.dest ∙ h.dest;
      places = map-append (λ p. p.place) parcels (parcel ∷ []) ∙ ap (λ ps. ps ++ parcel.place ∷ []) h.places
          ∙ ap (λ p. places_from d 1 (length parcels) ++ p ∷ []) place ∙ sym (places_from-suc d 1 (length parcels)) ∙ ap (places_from d 1) (sym count);
      next = omega (arith, length-append parcels (parcel ∷ []));
      events = adds.events ∙ ap (λ l. l ++ events_of (parcel ∷ [])) h.events ∙ sym (filter_map-append (λ p. event_in_load p.load) parcels (parcel ∷ []));
      edus = adds.edus ∙ ap (λ l. l ++ edus_of (parcel ∷ [])) h.edus ∙ sym (filter_map-append (λ p. edu_in_load p.load) parcels (parcel ∷ []));
      end = with_load_ends o parcel.load ∙ ap (λ b. b || (is_end parcel.load || false)) h.end ∙ sym (list_any-append (λ p. is_end p.load) parcels (parcel ∷ []));
    }

pub call_accepted : (d : ℕ) (parcels : List Parcel) (o : OutboxState) (call : Call) → HasAccepted d parcels o → HasAccepted d (parcels ++ option_to_list (accepted_by o call)) (after_call o call)
call_accepted d parcels o (Accept parcel has_memory) h = go (fits o parcel.place) has_memory refl
  where
    same : Same o o
    same = record { events = refl; edus = refl; end = refl; dest = refl }

    go : (b c : Bool) → fits o parcel.place ≡ b → HasAccepted d (parcels ++ option_to_list (if b && c then Some parcel else None)) (if b && c then with_load o parcel.load else o)
    go true true fit = one_accepted d parcels o parcel fit h
    go true false fit = same_accepted d parcels o o same h
    go false c fit = same_accepted d parcels o o same h
call_accepted d parcels o (Cut now) h = same_accepted d parcels o _ (call_keeps o (Cut now) refl) h
call_accepted d parcels o (Failed n now) h = same_accepted d parcels o _ (call_keeps o (Failed n now) refl) h
call_accepted d parcels o (Settle n status now) h = same_accepted d parcels o _ (call_keeps o (Settle n status now) refl) h

further_accepted : (d : ℕ) (parcels : List Parcel) (o : OutboxState) (calls : List Call) → HasAccepted d parcels o → HasAccepted d (parcels ++ accepted_parcels o calls) (after o calls)
further_accepted d parcels o [] h = subst (λ ps. HasAccepted d ps o) (sym (append-nil parcels)) h
further_accepted d parcels o (call ∷ calls) h =
    subst (λ ps. HasAccepted d ps (after (after_call o call) calls)) (append_assoc parcels (option_to_list (accepted_by o call)) (accepted_parcels (after_call o call) calls))
    (further_accepted d (parcels ++ option_to_list (accepted_by o call)) (after_call o call) calls (call_accepted d parcels o call h))

pub calls_accepted : (d : ℕ) (calls : List Call) → HasAccepted d (accepted_parcels (new_outbox d) calls) (after (new_outbox d) calls)
calls_accepted d calls = further_accepted d [] (new_outbox d) calls (none_accepted d)
