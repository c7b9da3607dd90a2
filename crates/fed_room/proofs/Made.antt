-- What is sealed of a draft.
use Rattle.std.proofs.Common.{◌≡◌, ◌<◌, ◌≤◌, ℕ, ℤ, pos, negsuc, unwrap_or, List, [], ◌∷◌, ◌++◌, map, max, Bool, true, false, ◌&&◌, cond, if◌then◌else◌, Ordering, Less, Equal, Greater, nat_cmp, find, Option, Some, None, Result, Ok, Err, ◌⊎◌, inl, inr, arith, codes, refl, sym, ap, ◌∙◌, subst}
use Rattle.std.proofs.Math.Nat.{le_trans, le-max_left, le-max_right}
use Rattle.std.proofs.lemmas.Bool.{lt-ltb}
use Rattle.std.proofs.lemmas.Slice.Eq.{bytes_eq-Decides}
use Rattle.std.specs.List.{list_all}
use Rattle.std.specs.Ordering.{match_ordering}
use Rattle.std.specs.Cmp.Lexicographic.{slice_cmp}
use Rattle.serde_json.specs.Data.{Data, null, boolean, number, string, array, object, Members, no_members, member, depth, members_depth}
use Rattle.serde_json.specs.Find.{get, get_member, of_integer}
use Rattle.serde_json.specs.View.{items_of}
use Rattle.fed_json.specs.Editing.{with_member}
use Rattle.fed_json.specs.JsonRef.{list_of, as_whole}
use Rattle.fed_json.proofs.Parts.{list_of-items_of}
use Rattle.fed_event.specs.Event.{Event as RoomEvent}
use Rattle.fed_event.specs.Fields.{text_in, prev_events_of, auth_events_of, depth_of}
use Rattle.fed_event.specs.declared.field.Field.TheVariants.{Event}
use Rattle.fed_event.specs.declared.fault.PduFault.{PduFault}
use Rattle.fed_event.specs.declared.fault.PduFault.TheVariants as fault
use Rattle.fed_event.specs.declared.fault.PduFault.TheVariants.{TooDeep, WrongKind, TooLarge}
use Rattle.fed_event.specs.Checked.{CheckedEvent}
use Rattle.fed_event.specs.Ids.{is_user_id, domain_of}
use Rattle.fed_event.specs.Sealing.{IsSentBy, sealed_of}
use Rattle.fed_event.specs.Tests.{fails, first_fault_of, missing_tests, kind_tests, length_tests, count_tests}
use Rattle.fed_room_contract.specs.declared.refusal.Refusal.{Refusal}
use Rattle.fed_room_contract.specs.declared.refusal.Refusal.TheVariants.{Memory, NotOwnUser, BadDraft}
use Rattle.fed_room_contract.specs.declared.graph.Stored.{Stored}
use Rattle.fed_room_contract.specs.Draft.{DraftFields, Bears}
use Rattle.fed_room_contract.specs.Graph.{is_stored, is_ready}
use Rattle.fed_room_contract.specs.Prepared.{Signer, is_own_user, sealed_by, refusal_of}
use Rattle.fed_room.specs.Parts.{EventLinks, fields_of, with_state_key, parts_of}
use Rattle.fed_room.specs.Lawful.{whole}
use Rattle.fed_room.specs.Made.{if_passes, event_of, or_bad_draft, made_of}

-- ---- a member of an object is less deep

depth-member : (k : List ℕ) (ms : Members) (v : Data) → get_member k ms ≡ Some v → depth v ≤ members_depth ms
depth-member k no_members v h = absurd (cc)
depth-member k (member l e ms) v h = by (slice_cmp nat_cmp k l) h (depth-member k ms v)
  where
    by : (o : Ordering) → match_ordering o (get_member k ms) (Some e) (get_member k ms) ≡ Some v → (get_member k ms ≡ Some v → depth v ≤ members_depth ms) → depth v ≤ max (depth e) (members_depth ms)
    by Less t later = le_trans (later t) (le-max_right (depth e) (members_depth ms))
    by Equal t later = let same : e ≡ v = cc in subst (λ (w : Data). depth w ≤ max (depth e) (members_depth ms)) same (le-max_left (depth e) (members_depth ms))
    by Greater t later = le_trans (later t) (le-max_right (depth e) (members_depth ms))

depth-get : (k : List ℕ) (d v : Data) → get k d ≡ Some v → depth v < depth d
depth-get k null v h = absurd (cc)
depth-get k (boolean b) v h = absurd (cc)
depth-get k (number n) v h = absurd (cc)
depth-get k (string s) v h = absurd (cc)
depth-get k (array ds) v h = absurd (cc)
depth-get k (object ms) v h = omega (arith, depth-member k ms v h)

-- ---- the ids in an array

text_ids : (ids : List (List ℕ)) → map text_in (map (λ id. string id) ids) ≡ ids
text_ids [] = refl
text_ids (id ∷ ids) = ap (λ xs. id ∷ xs) (text_ids ids)

texts-back : (ids : List (List ℕ)) → map text_in (list_of (items_of (map (λ id. string id) ids))) ≡ ids
texts-back ids = ap (map text_in) (list_of-items_of (map (λ id. string id) ids)) ∙ text_ids ids

-- ---- the number of a depth

-- from -(2^53) + 1 to 2^53 - 1, of which the upper bound matters
abbrev pub InRange : ℤ → Type 0
InRange (pos n) = n ≤ 9007199254740991
InRange (negsuc n) = Unit {0}

abbrev read_back : ℤ → ℤ
read_back depth = unwrap_or (as_whole (number (of_integer depth))) (pos 0)

read-back : (depth : ℤ) → InRange depth → read_back depth ≡ depth
read-back (pos n) h = whole n h
read-back (negsuc n) h = refl

-- ---- a draft that nests too deep

module _ (server key : List ℕ) (sign : List ℕ → List ℕ) (links : EventLinks) (draft : DraftFields) where
  abbrev sealed : Option (List ℕ) → RoomEvent
  sealed state_key = sealed_of server key sign links.version (with_state_key state_key (fields_of links draft))

  content-sealed : (state_key : Option (List ℕ)) → get (codes "content") (sealed state_key).value ≡ Some draft.content
  content-sealed None = refl
  content-sealed (Some k) = refl

  prev-sealed : (state_key : Option (List ℕ)) → prev_events_of (sealed state_key) ≡ links.prev_events
  prev-sealed None = texts-back links.prev_events
  prev-sealed (Some k) = texts-back links.prev_events

  auth-sealed : (state_key : Option (List ℕ)) → auth_events_of (sealed state_key) ≡ links.auth_events
  auth-sealed None = texts-back links.auth_events
  auth-sealed (Some k) = texts-back links.auth_events

  depth-part : (state_key : Option (List ℕ)) → depth_of (sealed state_key) ≡ read_back links.depth
  depth-part None = refl
  depth-part (Some k) = refl

sent_by : (server : List ℕ) (links : EventLinks) (draft : DraftFields) (state_key : Option (List ℕ)) → domain_of draft.sender ≡ server → IsSentBy server (with_state_key state_key (fields_of links draft))
sent_by server links draft None h = h
sent_by server links draft (Some k) h = h

abbrev later_tests : List PduFault
later_tests = WrongKind Event ∷ TooLarge ∷ (missing_tests ++ (kind_tests ++ (length_tests ++ count_tests)))

found_first : {X : Type 0} (p : X → Bool) (x : X) (xs : List X) → p x ≡ true → find p (x ∷ xs) ≡ Some x
found_first p x xs h = ap (λ b. cond b (Some x) (find p xs)) h

too_deep : (event : Data) → 100 < depth event → first_fault_of event ≡ Some TooDeep
unfolding first_fault_of
too_deep event h = found_first (fails event) TooDeep later_tests (lt-ltb 100 (depth event) h)

pub event-deep : (signer : Signer) (draft : DraftFields) → 100 < depth draft.content → (links : EventLinks) → event_of signer links draft ≡ Err TooDeep
event-deep signer draft h links =
    let event = sealed_by signer (parts_of links draft) in
    let within = depth-get (codes "content") event.value draft.content (content-sealed signer.name signer.key signer.sign links draft draft.state_key) in
    ap (if_passes signer event) (too_deep event.value (omega (arith, h, within)))

pub made-deep : (signer : Signer) (draft : DraftFields) → is_own_user signer.name draft.sender ≡ true → 100 < depth draft.content → (links : EventLinks) → made_of signer links draft ≡ Err (BadDraft TooDeep)
made-deep signer draft own h links =
    ap (λ b. if b then or_bad_draft signer (event_of signer links draft) else Err NotOwnUser) own ∙ ap (or_bad_draft signer) (event-deep signer draft h links)

pub made-foreign : (signer : Signer) (draft : DraftFields) → is_own_user signer.name draft.sender ≡ false → (links : EventLinks) → made_of signer links draft ≡ Err NotOwnUser
made-foreign signer draft foreign links = ap (λ b. if b then or_bad_draft signer (event_of signer links draft) else Err NotOwnUser) foreign

-- ---- what is told of a draft, by what is told of its event

refusal_is : (f : PduFault) → (refusal_of f ≡ BadDraft f) ⊎ (refusal_of f ≡ Memory)
refusal_is fault.Memory = inr refl
refusal_is fault.NotJson = inl refl
refusal_is fault.NotCanonical = inl refl
refusal_is (fault.Missing field) = inl refl
refusal_is (fault.WrongKind field) = inl refl
refusal_is fault.TooLarge = inl refl
refusal_is (fault.TooLong field) = inl refl
refusal_is (fault.TooMany field) = inl refl
refusal_is fault.TooDeep = inl refl

abbrev pub or_refused : Result CheckedEvent PduFault → Result CheckedEvent Refusal
or_refused (Ok event) = Ok event
or_refused (Err f) = Err (refusal_of f)

module _ (signer : Signer) (links : EventLinks) (draft : DraftFields) (own : is_own_user signer.name draft.sender ≡ true) where
  made-is : made_of signer links draft ≡ or_bad_draft signer (event_of signer links draft)
  made-is = ap (λ b. if b then or_bad_draft signer (event_of signer links draft) else Err NotOwnUser) own

  told_by : (told : Result CheckedEvent PduFault) → told ≡ event_of signer links draft → (or_refused told ≡ made_of signer links draft) ⊎ (or_refused told ≡ Err Memory)
  told_by (Ok event) e = inl (ap (or_bad_draft signer) e ∙ sym made-is)
  told_by (Err f) e = by (refusal_is f)
    where
      by : (refusal_of f ≡ BadDraft f) ⊎ (refusal_of f ≡ Memory) → (or_refused (Err f) ≡ made_of signer links draft) ⊎ (or_refused (Err f) ≡ Err Memory)
      by (inl same) = inl (ap (λ (r : Refusal). Err r) same ∙ ap (or_bad_draft signer) e ∙ sym made-is)
      by (inr same) = inr (ap (λ (r : Refusal). Err r) same)

  pub told-made : (told : Result CheckedEvent PduFault) → (told ≡ event_of signer links draft) ⊎ (told ≡ Err fault.Memory) → (or_refused told ≡ made_of signer links draft) ⊎ (or_refused told ≡ Err Memory)
  told-made told (inl e) = told_by told e
  told-made told (inr e) = inr (ap or_refused e)

second : (a b : Bool) → (a && b) ≡ true → b ≡ true
second true b h = h
second false b h = absurd (cc)

pub sent_by_own : (signer : Signer) (links : EventLinks) (draft : DraftFields) → is_own_user signer.name draft.sender ≡ true → IsSentBy signer.name (parts_of links draft).value
sent_by_own signer links draft own =
    sent_by signer.name links draft draft.state_key ((bytes_eq-Decides (domain_of draft.sender) signer.name).0 (second (is_user_id draft.sender) _ own))

-- ---- what it names

module _ (server key : List ℕ) (sign : List ℕ → List ℕ) (links : EventLinks) (draft : DraftFields) (parts : Data) (event : RoomEvent)
    (made : parts ≡ (parts_of links draft).value) (same : event ≡ sealed_of server key sign links.version parts) where
  whole-event : event ≡ sealed server key sign links draft draft.state_key
  whole-event = same ∙ ap (sealed_of server key sign links.version) made

  pub prev_events-sealed : prev_events_of event ≡ links.prev_events
  prev_events-sealed = ap prev_events_of whole-event ∙ prev-sealed server key sign links draft draft.state_key

  pub auth_events-sealed : auth_events_of event ≡ links.auth_events
  auth_events-sealed = ap auth_events_of whole-event ∙ auth-sealed server key sign links draft draft.state_key

pub depth-sealed : (server key : List ℕ) (sign : List ℕ → List ℕ) (links : EventLinks) (draft : DraftFields) → InRange links.depth → depth_of (sealed_of server key sign links.version (parts_of links draft).value) ≡ links.depth
depth-sealed server key sign links draft range = depth-part server key sign links draft draft.state_key ∙ read-back links.depth range

-- ---- it has the fields of the draft

bear-sealed : (server key : List ℕ) (sign : List ℕ → List ℕ) (links : EventLinks) (draft : DraftFields) (state_key : Option (List ℕ)) → draft.at_ms ≤ 9007199254740991 → state_key ≡ draft.state_key
    → Bears draft (sealed server key sign links draft state_key)
bear-sealed server key sign links draft None h e = record { room = refl; sender = refl; kind = refl; state_key = e; content = refl; at_ms = whole draft.at_ms h }
bear-sealed server key sign links draft (Some k) h e = record { room = refl; sender = refl; kind = refl; state_key = e; content = refl; at_ms = whole draft.at_ms h }

pub sealed_bears : (server key : List ℕ) (sign : List ℕ → List ℕ) (links : EventLinks) (draft : DraftFields) (parts : Data) (event : RoomEvent) → draft.at_ms ≤ 9007199254740991
    → parts ≡ (parts_of links draft).value → event ≡ sealed_of server key sign links.version parts → Bears draft event
sealed_bears server key sign links draft parts event h made same =
    subst (Bears draft) (sym (same ∙ ap (sealed_of server key sign links.version) made)) (bear-sealed server key sign links draft draft.state_key h refl)

-- ---- an event that names what is stored is ready

all_append : {X : Type 0} (p : X → Bool) (xs ys : List X) → list_all p xs ≡ true → list_all p ys ≡ true → list_all p (xs ++ ys) ≡ true
all_append p [] ys h k = k
all_append p (x ∷ xs) ys h k = by (p x) h (all_append p xs ys)
  where
    by : (b : Bool) → (b && list_all p xs) ≡ true → (list_all p xs ≡ true → list_all p ys ≡ true → list_all p (xs ++ ys) ≡ true) → (b && list_all p (xs ++ ys)) ≡ true
    by true t more = more t k
    by false t more = t

pub ready_naming : (events : List Stored) (event : RoomEvent) (prev auth : List (List ℕ)) → prev_events_of event ≡ prev → auth_events_of event ≡ auth → list_all (is_stored events) prev ≡ true
    → list_all (is_stored events) auth ≡ true → is_ready events event ≡ true
ready_naming events event prev auth p a one two = (λ i. list_all (is_stored events) (p i ++ a i)) ∙ all_append (is_stored events) prev auth one two

-- ---- a member more

pub step : {e m n t u : Data} (k : List ℕ) → u ≡ with_member k m e → m ≡ n → e ≡ t → u ≡ with_member k n t
step {e} {m} {n} {t} {u} k p q r = p ∙ ap (λ (x : Data). with_member k x e) q ∙ ap (with_member k n) r
