-- What is told of an event, and what its room is then.
use Rattle.std.proofs.Common.{arith, ◌≡◌, ◌⊎◌, inl, inr, ◌+◌, ◌++◌, ◌∷◌, [], ℕ, List, Option, Some, None, Bool, true, false, true≢false, if◌then◌else◌, Result, Ok, Err, refl, sym, ap, ◌∙◌, subst}
use Rattle.std.specs.Result.{IfOk, IsErr, IsErrAnd}
use Rattle.std.specs.declared.alloc.AllocError.{AllocError}
use Rattle.serde_json.specs.Data.{Data}
use Rattle.fed_event.specs.Event.{Event}
use Rattle.fed_event.specs.declared.fault.PduFault.{PduFault}
use Rattle.fed_event.specs.Checked.{CheckedEvent, checked_of}
use Rattle.fed_dest.specs.Joined.{AreDestinations}
use Rattle.fed_journal.specs.declared.entry.Entry.{Entry}
use Rattle.fed_journal.specs.Offering.{EventTold, event_not_made, event_has_no_place, event_sent, IsMade, IsOffered, not_made, no_place, sent}
use Rattle.fed_room_contract.specs.declared.refusal.Refusal.{Refusal}
use Rattle.fed_room_contract.specs.declared.refusal.Refusal.TheVariants as refusal
use Rattle.fed_room_contract.specs.Draft.{DraftFields}
use Rattle.fed_room_contract.specs.Graph.{is_ready}
use Rattle.fed_room_contract.specs.declared.graph.Stored.{Stored}
use Rattle.fed_room_contract.specs.declared.verdict.Verdict.{Verdict}
use Rattle.fed_room_contract.specs.declared.verdict.Verdict.TheVariants.{Accepted, Rejected, SoftFailed}
use Rattle.fed_room_contract.specs.Prepared.{PreparedEvent, Signer, is_own_user, sealed_by, if_accepted, if_event, prepared_of}
use Rattle.fed_room_contract.specs.Room.{RoomState, committed}
use Rattle.fed_room.specs.Room.{room_of, room_rules}
use Rattle.fed_hub_state.specs.declared.sending_journal.EnterFault.{EnterFault}
use Rattle.fed_hub_state.specs.declared.sending_journal.EnterFault.TheVariants as enter
use Rattle.fed_hub_state.specs.ClientToken.{ClientShare}
use Rattle.fed_hub_state.specs.KeptRoom.{KeptState}
use Rattle.fed_hub_state.specs.Sections.{EventIsOffered}
use Rattle.fed_hub_state.specs.SendingJournal.{SendingState}
use Rattle.fed_hub.specs.declared.faults.SendFault.{SendFault}
use Rattle.fed_hub.specs.declared.offering.Sent.{Sent}
use Rattle.fed_journal.specs.declared.parcel.Parcel.{Parcel}
use Rattle.fed_wires.specs.WireId.{WireId}
use Rattle.fed_hub_state.specs.EnterFault.{FullIsOf}
use Rattle.fed_hub.specs.declared.faults.SendFault.TheVariants as send
use Rattle.fed_hub.specs.declared.offering.Unsent.{Unsent}
use Rattle.fed_hub.specs.declared.offering.Unsent.TheVariants.{Refused, Full}
use Rattle.fed_hub.specs.Faults.{UnsentIsOf, told_of_sending, unsent_of}
use Rattle.fed_hub_told.specs.declared.told_event.ToldEvent.{ToldEvent}
use Rattle.fed_hub_told.specs.declared.told_edu.ToldEdu.{ToldEdu}
use Rattle.fed_hub_told.specs.Told.{ToldState, with_event, with_edu}
use Rattle.fed_hub.specs.ClientToken.{IsToldNothing, IsToldOf, IsToldOfEdu}
use Rattle.fed_hub.specs.Hub.{HubShape}
use Rattle.fed_hub.specs.Setup.{has_room}
use Rattle.fed_hub.specs.Offering.{IsMadeOf, IsOfHub, IsRefusedIn, IsSent, IsSentIn, told_of}

pub err_is : (told : Result Sent SendFault) (fault : SendFault) → IsErr told → IsErrAnd told (λ t. t ≡ fault) → told ≡ Err fault
err_is (Ok n) fault errs is = absurd (true≢false (sym errs))
err_is (Err t) fault errs is = ap Err is

-- what the room has made is what the draft makes
pub made_of : (p : PreparedEvent) (told : Result PreparedEvent Refusal) → (Ok p ≡ told) ⊎ (Ok p ≡ Err refusal.Memory) → told ≡ Ok p
made_of p told (inl is) = sym is
made_of p told (inr is) = absurd (cc)

own_of : (b : Bool) (made : Result PreparedEvent Refusal) (p : PreparedEvent) → (if b then made else Err refusal.NotOwnUser) ≡ Ok p → b ≡ true
own_of true made p is = refl
own_of false made p is = absurd (cc)

pub own_user : (signer : Signer) (room : RoomState) (draft : DraftFields) (p : PreparedEvent) → prepared_of room_rules signer room.stored draft ≡ Ok p → is_own_user signer.name draft.sender ≡ true
own_user signer room draft p is = own_of (is_own_user signer.name draft.sender) _ p is

was_sent : EventTold → Bool
was_sent (event_not_made refusal) = false
was_sent event_has_no_place = false
was_sent (event_sent number event reached) = true

event_in : CheckedEvent → EventTold → CheckedEvent
event_in other (event_not_made refusal) = other
event_in other event_has_no_place = other
event_in other (event_sent number event reached) = event

stored_so : (signer : Signer) (servers : List (List ℕ)) (own : ℕ) (draft : DraftFields) (lost : List ℕ) (room : RoomState) (entries : List Entry) (told : EventTold) (stored : RoomState) (after : List Entry) (number : ℕ) (event : CheckedEvent) (reached : List ℕ)
    → IsOffered room_rules signer servers own draft lost room entries told stored after → told ≡ event_sent number event reached → stored ≡ committed room event
unfolding was_sent event_in
stored_so signer servers own draft lost room entries _ _ _ number event reached (not_made refusal not) is = absurd (true≢false (sym (ap was_sent is)))
stored_so signer servers own draft lost room entries _ _ _ number event reached (no_place p dests made full) is = absurd (true≢false (sym (ap was_sent is)))
stored_so signer servers own draft lost room entries _ _ _ number event reached (sent p dests made fits are) is = ap (λ t. committed room (event_in event t)) is

-- with one event more, or one EDU
abbrev pub one_event_more : ClientShare → ClientShare
one_event_more client = record { parts = client.parts; events = client.events + 1; edus = client.edus }

pub is_sent : (signer : Signer) (draft : DraftFields) (servers : List (List ℕ)) (own : ℕ) (room ready stored : RoomState) (client after : ClientShare) (p : PreparedEvent) (dests : List ℕ) (old new : SendingState) (number : ℕ)
    → prepared_of room_rules signer room.stored draft ≡ Ok p → is_ready room.stored p.event.event ≡ true → AreDestinations ready.stored p.before servers own dests → ready ≡ room
    → EventIsOffered p dests ready old client (Ok number) stored new after → (stored ≡ committed room p.event) × (after ≡ one_event_more client)
is_sent signer draft servers own room ready stored client after p dests old new number prepared named dests_are same offered =
    let made : IsMade room_rules signer servers own ready.stored draft p dests = record {
      prepared = ap (λ (r : RoomState). prepared_of room_rules signer r.stored draft) same ∙ prepared;
      ready = ap (λ (r : RoomState). is_ready r.stored p.event.event) same ∙ named;
      destinations = dests_are;
    } in
    let zero : client.edus + 0 ≡ client.edus = omega arith in (
      stored_so signer servers own draft offered.0 ready old.entries _ stored new.entries number p.event offered.1 (offered.2.3 signer servers own draft made) refl ∙ ap (λ r. committed r p.event) same,
      offered.2.2 ∙ (λ i. record { parts = client.parts; events = client.events + 1; edus = zero i }),
    )

-- what is refused by the journal, or finds no room in a wire
pub not_sent : (signer : Signer) (wires : List (WireId Parcel)) (draft same : DraftFields) (room stored : KeptState) (ready : RoomState) (share after : ClientShare) (client told : ToldState) (p : PreparedEvent) (dests : List ℕ) (old new : SendingState) (fault : EnterFault)
    → IsMadeOf signer draft room p → ready ≡ room_of room.room → IsToldNothing client told → same ≡ draft → FullIsOf wires fault
    → EventIsOffered p dests ready old share (Err fault) (room_of stored.room) new after → IsSentIn signer wires draft room client (Err (unsent_of fault same)) stored told
not_sent signer wires draft same room stored ready share after client told p dests old new enter.Memory made is nothing equal of offered = (own_user signer (room_of room.room) draft p made, (offered.1 ∙ is, nothing))
not_sent signer wires draft same room stored ready share after client told p dests old new enter.ShutDown made is nothing equal of offered = ((p, made), (offered.1 ∙ is, nothing))
not_sent signer wires draft same room stored ready share after client told p dests old new enter.Limit made is nothing equal of offered = ((p, made), (offered.1 ∙ is, nothing))
not_sent signer wires draft same room stored ready share after client told p dests old new (enter.Full full) made is nothing equal of offered = ((p, made), of, equal, (offered.2 ∙ is, nothing))

-- ---- what a client was told, and its share

pub told_so : (client old told new : ToldState) (draft one : DraftFields) (copy : Result DraftFields AllocError) (number : ℕ) (event_id same_id : List ℕ) → old ≡ client → IfOk copy (λ d. d ≡ draft) → copy ≡ Ok one → same_id ≡ event_id
    → told.events ≡ old.events → told.edus ≡ old.edus → new ≡ with_event told (record { draft = one; number = number; event_id = same_id })
    → IsToldOf (told_of draft (record { number = number; event_id = event_id })) client new
told_so client old told new draft one copy number event_id same_id was equal is same events edus noted =
    let same_draft : one ≡ draft = subst (λ c. IfOk c (λ d. d ≡ draft)) is equal in
    record {
      events = ap (λ (t : ToldState). t.events) noted
          ∙ (λ i. (events ∙ ap (λ (t : ToldState). t.events) was) i ++ (record { draft = same_draft i; number = number; event_id = same i }) ∷ []);
      edus = ap (λ (t : ToldState). t.edus) noted ∙ edus ∙ ap (λ (t : ToldState). t.edus) was;
    }

-- an equal draft, of one that was copied
pub copied : (draft one : DraftFields) (copy : Result DraftFields AllocError) → IfOk copy (λ d. d ≡ draft) → copy ≡ Ok one → one ≡ draft
copied draft one copy equal is = subst (λ c. IfOk c (λ d. d ≡ draft)) is equal

pub nothing_so : (client old told : ToldState) → old ≡ client → told.events ≡ old.events → told.edus ≡ old.edus → IsToldNothing client told
nothing_so client old told was events edus = record { events = events ∙ ap (λ (t : ToldState). t.events) was; edus = edus ∙ ap (λ (t : ToldState). t.edus) was }

-- ---- what is told of a try, and of one after another

-- nothing was told, and then nothing, or something
pub told_nothing_more : (a b c : ToldState) → IsToldNothing a b → IsToldNothing b c → IsToldNothing a c
told_nothing_more a b c one two = record { events = two.events ∙ one.events; edus = two.edus ∙ one.edus }

told_then : (event : ToldEvent) (a b c : ToldState) → IsToldNothing a b → IsToldOf event b c → IsToldOf event a c
told_then event a b c one two = record { events = two.events ∙ ap (λ xs. xs ++ event ∷ []) one.events; edus = two.edus ∙ one.edus }

own_by_rule : (b : Bool) (made : Result PreparedEvent Refusal) (why : Refusal) → (if b then made else Err refusal.NotOwnUser) ≡ Err why → (why ≡ refusal.NotOwnUser → ⊥) → b ≡ true
own_by_rule true made why is other = refl
own_by_rule false made why is other = absurd (other (cc))

-- whoever is refused behind that test is a user of the own server
refused_own : (signer : Signer) (draft : DraftFields) (room : KeptState) (why : Refusal) → prepared_of room_rules signer (room_of room.room).stored draft ≡ Err why → (why ≡ refusal.NotOwnUser → ⊥) → is_own_user signer.name draft.sender ≡ true
refused_own signer draft room why is other = own_by_rule (is_own_user signer.name draft.sender) _ why is other

never_accepted : (signer : Signer) (events : List Stored) (event : CheckedEvent) (told : Verdict) → if_accepted room_rules signer events event told ≡ Err refusal.NotOwnUser → ⊥
never_accepted signer events event Accepted is = cc
never_accepted signer events event (Rejected rule) is = cc
never_accepted signer events event (SoftFailed rule) is = cc

never_made : (signer : Signer) (events : List Stored) (sealed : Event) (fault : Option PduFault) → if_event room_rules signer events sealed fault ≡ Err refusal.NotOwnUser → ⊥
never_made signer events sealed (Some fault) is = cc
never_made signer events sealed None is = never_accepted signer events (checked_of signer.checks sealed) _ is

not_own : (b : Bool) (made : Result PreparedEvent Refusal) → (made ≡ Err refusal.NotOwnUser → ⊥) → (if b then made else Err refusal.NotOwnUser) ≡ Err refusal.NotOwnUser → b ≡ false
not_own true made never is = absurd (never is)
not_own false made never is = refl

-- who sends for the hub signs as it does
for_hub : (hub : HubShape) (signer : Signer) (draft : DraftFields) (own : Bool) → signer.name ≡ hub.name → is_own_user signer.name draft.sender ≡ own → is_own_user hub.name draft.sender ≡ own
for_hub hub signer draft own named is = ap (λ n. is_own_user n draft.sender) (sym named) ∙ is

of_hub : (hub : HubShape) (signer : Signer) (draft : DraftFields) → has_room hub.rooms draft.room ≡ true → signer.name ≡ hub.name → is_own_user signer.name draft.sender ≡ true → IsOfHub hub draft
of_hub hub signer draft has named own = (has, for_hub hub signer draft true named own)

refused_so : (hub : HubShape) (signer : Signer) (draft : DraftFields) (room : KeptState) (client after : ToldState) (fault : SendFault) → has_room hub.rooms draft.room ≡ true → signer.name ≡ hub.name
    → IsRefusedIn signer draft room fault → IsToldNothing client after → IsSent hub draft client (Err fault) after
refused_so hub signer draft room client after send.Memory has named is nothing = (of_hub hub signer draft has named is, nothing)
refused_so hub signer draft room client after send.UnknownRoom has named is nothing = absurd is
refused_so hub signer draft room client after send.NotOwnUser has named is nothing =
    (has, for_hub hub signer draft false named (not_own (is_own_user signer.name draft.sender) _ (never_made signer (room_of room.room).stored (sealed_by signer (room_rules.parts (room_of room.room).stored draft)) _) is), nothing)
refused_so hub signer draft room client after (send.NotAllowed rule) has named is nothing =
    (of_hub hub signer draft has named (refused_own signer draft room (refusal.NotAllowed rule) is (λ (e : refusal.NotAllowed rule ≡ refusal.NotOwnUser). cc)), nothing)
refused_so hub signer draft room client after (send.BadDraft fault) has named is nothing =
    (of_hub hub signer draft has named (refused_own signer draft room (refusal.BadDraft fault) is (λ (e : refusal.BadDraft fault ≡ refusal.NotOwnUser). cc)), nothing)
refused_so hub signer draft room client after send.ShutDown has named is nothing = (of_hub hub signer draft has named (own_user signer (room_of room.room) draft is.0 is.1), nothing)
refused_so hub signer draft room client after send.Limit has named is nothing = (of_hub hub signer draft has named (own_user signer (room_of room.room) draft is.0 is.1), nothing)

-- Of the last of several tries, with an equal draft, behind which the client was told of nothing.
pub sent_so : (hub : HubShape) (signer : Signer) (wires : List (WireId Parcel)) (draft one : DraftFields) (room stored : KeptState) (client between after : ToldState) (number : Sent) → has_room hub.rooms draft.room ≡ true → signer.name ≡ hub.name
    → one ≡ draft → IsToldNothing client between → IsSentIn signer wires one room between (Ok number) stored after → IsSent hub draft client (Ok number) after
sent_so hub signer wires draft one room stored client between after number has named same nothing is =
    let by : IsSentIn signer wires draft room between (Ok number) stored after = subst (λ d. IsSentIn signer wires d room between (Ok number) stored after) same is in
    (of_hub hub signer draft has named (own_user signer (room_of room.room) draft by.0 by.1), told_then (told_of draft number) client between after nothing by.4)

pub full_so : (signer : Signer) (wires : List (WireId Parcel)) (draft : DraftFields) (room stored : KeptState) (client after : ToldState) (unsent : Unsent) → IsSentIn signer wires draft room client (Err unsent) stored after → UnsentIsOf wires unsent
full_so signer wires draft room stored client after (Refused fault) is = tt
full_so signer wires draft room stored client after (Full full same) is = is.1

pub refused_then : (hub : HubShape) (signer : Signer) (wires : List (WireId Parcel)) (draft one : DraftFields) (room stored : KeptState) (client between after : ToldState) (unsent : Unsent) (fault : SendFault) → has_room hub.rooms draft.room ≡ true
    → signer.name ≡ hub.name → one ≡ draft → IsToldNothing client between → told_of_sending unsent ≡ Err fault → IsSentIn signer wires one room between (Err unsent) stored after → IsSent hub draft client (Err fault) after
refused_then hub signer wires draft one room stored client between after (Full full same) fault has named equal nothing why is = absurd (cc)
refused_then hub signer wires draft one room stored client between after (Refused first) fault has named equal nothing why is =
    let same : first ≡ fault = cc in
    let by : IsSentIn signer wires draft room between (Err (Refused fault)) stored after =
    subst (λ (x : DraftFields × SendFault). IsSentIn signer wires x.0 room between (Err (Refused x.1)) stored after) (λ i. (equal i, same i)) is in
    refused_so hub signer draft room client after fault has named by.0 (told_nothing_more client between after nothing by.1.1)

pub again : (signer : Signer) (wires : List (WireId Parcel)) (draft one next : DraftFields) (room stored : KeptState) (client between after : ToldState) (unsent : Unsent) → one ≡ draft → IsToldNothing client between → told_of_sending unsent ≡ Ok next
    → IsSentIn signer wires one room between (Err unsent) stored after → (next ≡ draft) × IsToldNothing client after
again signer wires draft one next room stored client between after (Refused fault) equal nothing why is = absurd (cc)
again signer wires draft one next room stored client between after (Full full same) equal nothing why is =
    let back : same ≡ next = cc in
    (sym back ∙ is.2 ∙ equal, told_nothing_more client between after nothing is.3.1)

-- ---- EDUs

-- the client is told of one EDU
pub told_of_edu : (edu : ToldEdu) (client old new : ToldState) → IsToldNothing client old → new ≡ with_edu old edu → IsToldOfEdu edu client new
told_of_edu edu client old new nothing noted = record {
  events = ap (λ (t : ToldState). t.events) noted ∙ nothing.events;
  edus = ap (λ (t : ToldState). t.edus) noted ∙ ap (λ xs. xs ++ edu ∷ []) nothing.edus;
}
