-- What a thread holds goes on from what it held.
use Rattle.std.proofs.Common.{◌≡◌, ◌+◌, ◌∷◌, ◌++◌, [], ℕ, Bool, length, true, false, true≢false, Option, Some, None, is_some, IsSome, refl, sym, ap, ◌∙◌, subst, append-nil, append_assoc}
use Rattle.std.proofs.lemmas.Option.{same_Some}
use Rattle.fed_journal.specs.declared.parcel.Parcel.{Parcel}
use Rattle.fed_wires.specs.ReceiveEnd.{Receiver, with_received, with_gone}
use Rattle.fed_outbox.specs.declared.fault.OutboxFault.{OutboxFault}
use Rattle.fed_outbox.specs.declared.fault.OutboxFault.TheVariants as fault
use Rattle.fed_outbox.specs.Outbox.{OutboxState}
use Rattle.fed_hub.specs.declared.collected.Collected.{Collected}
use Rattle.fed_hub.specs.declared.collected.Collected.TheVariants.{Moved, Nothing, Closed}
use Rattle.fed_hub.specs.Held.{Held, GoesOn}
use Rattle.fed_hub.specs.Collecting.{IsInHand, stayed, came, HasNone, ended_before, found_gone, found_none, Collects, none, moved, refused, no_memory, MovesIn, accepted, not_accepted, told_of, with_hand}
use Rattle.fed_hub_state.specs.Sections.{IsCollected, IsRefused}
use Rattle.fed_journal.specs.Loads.{is_end}

pub stays_on : (h : Held) → GoesOn h h
stays_on h = record { dest = refl; received = ([], append-nil h.received) }

pub goes_further : (a b c : Held) → GoesOn a b → GoesOn b c → GoesOn a c
goes_further a b c one two = record {
  dest = two.dest ∙ one.dest;
  received = (one.received.0 ++ two.received.0, sym (append_assoc a.received one.received.0 two.received.0) ∙ ap (λ xs. xs ++ two.received.0) one.received.1 ∙ two.received.1);
}

in_hand : (old : Held) (parcel : Parcel) (new : Held) → IsInHand old parcel new → GoesOn old new
in_hand old parcel _ (stayed is) = stays_on old
in_hand old parcel _ (came is running number) = record { dest = refl; received = (parcel ∷ [], refl) }

pub collects_on : (old : Held) (told : Collected) (new : Held) → Collects old told new → GoesOn old new
collects_on old _ _ (none told new (ended_before is ended)) = stays_on old
collects_on old _ _ (none told new (found_gone is running)) = record { dest = refl; received = ([], append-nil old.received) }
collects_on old _ _ (none told new (found_none is running)) = stays_on old
collects_on old _ _ (moved parcel held is) = let on = in_hand old parcel held is in record { dest = on.dest; received = on.received }
collects_on old _ _ (refused parcel held is) = in_hand old parcel held is
collects_on old _ _ (no_memory parcel held is) = in_hand old parcel held is

hand_is : (old : Held) (parcel : Parcel) (held : Held) → IsInHand old parcel held → held.hand ≡ Some parcel
hand_is old parcel _ (stayed is) = is
hand_is old parcel _ (came is running number) = refl

-- the parcel in hand is the one that came
the_one : (old held : Held) (parcel : Parcel) → held.hand ≡ Some parcel → ((one : Parcel) × IsInHand old one held) → IsInHand old parcel held
the_one old held parcel is found = subst (λ p. IsInHand old p held) (same_Some found.0 parcel (sym (hand_is old found.0 held found.1) ∙ is)) found.1

not_moved : (old held : Held) (parcel : Parcel) (why : OutboxFault) → IsInHand old parcel held → Collects old (told_of why) held
not_moved old held parcel fault.Memory is = no_memory parcel held is
not_moved old held parcel (fault.WrongPlace number) is = refused parcel held is
not_moved old held parcel fault.Ended is = refused parcel held is

pub collected_so : (old : Held) (outbox : OutboxState) (held : Held) (told : Collected) (after : OutboxState) (new : Held) → ((one : Parcel) × IsInHand old one held) → MovesIn outbox held told after new → Collects old told new
collected_so old outbox held _ _ _ found (accepted parcel new is collected) = moved parcel held (the_one old held parcel is found)
collected_so old outbox held _ _ _ found (not_accepted parcel why is not) = not_moved old held parcel why (the_one old held parcel is found)

pub one_in_hand : (old held : Held) → ((one : Parcel) × IsInHand old one held) → IsSome held.hand
one_in_hand old held found = ap is_some (hand_is old found.0 held found.1)

none_of : (o : Option Parcel) → is_some o ≡ false → o ≡ None
none_of None is = refl
none_of (Some p) is = absurd (true≢false is)

-- ---- a parcel is taken out of a wire

-- what is held of an end that receives
abbrev pub token_of : ℕ → Receiver Parcel → Option Parcel → Bool → Held
token_of dest end hand ended = record { dest = dest; received = end.received; gone = end.gone; hand = hand; ended = ended }

pub was_in_hand : (old : Held) → is_some old.hand ≡ true → (parcel : Parcel) × IsInHand old parcel old
was_in_hand old is = by old.hand refl is
  where
    by : (o : Option Parcel) → old.hand ≡ o → is_some o ≡ true → (parcel : Parcel) × IsInHand old parcel old
    by None at is = absurd (true≢false (sym is))
    by (Some p) at is = (p, stayed at)

pub was_ended : (old : Held) → is_some old.hand ≡ false → old.ended ≡ true → HasNone old Closed old
was_ended old empty ended = ended_before (none_of old.hand empty) ended

pub nothing_came : (dest : ℕ) (end after : Receiver Parcel) (hand : Option Parcel) (ended : Bool) → is_some hand ≡ false → ended ≡ false → after ≡ end → HasNone (token_of dest end hand ended) Nothing (token_of dest after hand ended)
nothing_came dest end after hand ended empty running is =
    subst (λ e. HasNone (token_of dest end hand ended) Nothing (token_of dest e hand ended)) (sym is) (found_none (none_of hand empty) running)

pub gone_then : (dest : ℕ) (end after : Receiver Parcel) (hand : Option Parcel) (ended : Bool) → is_some hand ≡ false → ended ≡ false → after ≡ with_gone end → HasNone (token_of dest end hand ended) Closed (token_of dest after hand ended)
gone_then dest end after hand ended empty running is =
    subst (λ e. HasNone (token_of dest end hand ended) Closed (token_of dest e hand ended)) (sym is) (found_gone (none_of hand empty) running)

pub message_came : (dest : ℕ) (end after : Receiver Parcel) (hand : Option Parcel) (ended : Bool) (parcel : Parcel) (new : Held) → is_some hand ≡ false → ended ≡ false → parcel.place.number ≡ length end.received + 1 → after ≡ with_received end parcel → new ≡ with_hand (token_of dest after hand ended) parcel → IsInHand (token_of dest end hand ended) parcel new
message_came dest end after hand ended parcel new empty running number is new_is =
    subst (λ h. IsInHand (token_of dest end hand ended) parcel h) (sym (new_is ∙ ap (λ e. with_hand (token_of dest e hand ended) parcel) is)) (came (none_of hand empty) running number)

-- ---- the parcel in hand is moved into an outbox

pub moves_in : (dest : ℕ) (end : Receiver Parcel) (hand left : Option Parcel) (ended last : Bool) (outbox new : OutboxState) (parcel : Parcel) → hand ≡ Some parcel → IsCollected parcel outbox new → left ≡ None → last ≡ is_end parcel.load → MovesIn outbox (token_of dest end hand ended) Moved new (token_of dest end left last)
moves_in dest end hand left ended last outbox new parcel at is empty end_is =
    subst (λ h. MovesIn outbox (token_of dest end hand ended) Moved new h) (λ i. token_of dest end (sym empty i) (sym end_is i)) (accepted parcel new at is)

pub keeps_it : (old : Held) (outbox after : OutboxState) (parcel back : Parcel) (why : OutboxFault) (told : Collected) (new : Held) → old.hand ≡ Some parcel → back ≡ parcel → IsRefused parcel outbox why → after ≡ outbox → told ≡ told_of why → new ≡ with_hand old back → MovesIn outbox old told after new
keeps_it old outbox after parcel back why told new at same is stays told_is new_is =
    subst (λ (x : Collected × (OutboxState × Held)). MovesIn outbox old x.0 x.1.0 x.1.1) (sym all) (not_accepted parcel why at is)
  where
    held : new ≡ old
    held = new_is ∙ ap (with_hand old) same ∙ (λ i. record old { hand = sym at i })

    all : ◌≡◌ {A = Collected × (OutboxState × Held)} (told, (after, new)) (told_of why, (outbox, old))
    all = λ i. (told_is i, (stays i, held i))
