-- An event that is hashed and signed has its hash and its signature.
use Rattle.std.proofs.Common.{◌≡◌, ◌≢◌, ℕ, List, [], ◌∷◌, Bool, true, false, ◌&&◌, ◌||◌, not, cond, Ordering, Less, Equal, Greater, nat_cmp, is_eq, Option, Some, None, option_and_then, unwrap_or, IsSome, IfSome, bytes_eq, codes, refl, sym, ◌∙◌, ap, subst, true≢false}
use Rattle.std.proofs.Math.Bool.{and-false}
use Rattle.std.proofs.lemmas.Bool.{cond-false, cond-true}
use Rattle.std.proofs.lemmas.Slice.Eq.{bytes_eq-Decides}
use Rattle.std.proofs.lemmas.Map.Text.{is_eq-slice_cmp}
use Rattle.std.specs.List.{list_any}
use Rattle.std.specs.Ordering.{match_ordering}
use Rattle.std.specs.Cmp.Lexicographic.{slice_cmp}
use Rattle.sha2.specs.Sha256.{sha256}
use Rattle.base64.specs.Engines.{standard_no_pad}
use Rattle.base64.specs.GeneralPurpose.{encode_of}
use Rattle.serde_json.specs.Data.{Data, null, boolean, number, string, array, object, Members, no_members, member, put}
use Rattle.serde_json.specs.Find.{as_str, get, get_member}
use Rattle.serde_json.proofs.Views.{get_member-put, get_member-put_other}
use Rattle.fed_json.specs.JsonRef.{as_members}
use Rattle.fed_json.specs.Editing.{with_member}
use Rattle.fed_json.specs.CanonicalText.{canonical_text}
use Rattle.fed_redaction.specs.Names.{is_one_of, select, leave_out}
use Rattle.fed_event.specs.declared.field.Field.TheVariants.{Sender}
use Rattle.fed_event.specs.Tests.{holds, has_kind, first_fault_of}
use Rattle.fed_event.specs.Ids.{domain_of, is_id_text}
use Rattle.fed_redaction.specs.declared.version.Version.{Version}
use Rattle.fed_redaction.specs.Version.{event_keys}
use Rattle.fed_redaction.specs.Event.{Event, event_in}
use Rattle.fed_redaction.specs.Redaction.{redacted}
use Rattle.fed_redaction.specs.EventId.{unsigned_keys, signed_part, signed_text_of}
use Rattle.fed_redaction.specs.ContentHash.{uncovered_keys, content_hash_of, given_hash_of, hash_fits_of}
use Rattle.fed_keys.specs.Keys.{Checks}
use Rattle.fed_event.specs.Signatures.{signature_in, signatures_by, is_signed_by, is_signed}
use Rattle.fed_event.specs.Checked.{CheckedEvent, checked_of}
use Rattle.fed_event.specs.Sealing.{sender_text, IsSentBy, holding, hashed_of, signature_text_of, signed_of, sealed_of}
use Rattle.fed_redaction.specs.Laws.{AreUnsigned}
use Rattle.fed_event.proofs.Faults.{kind_passed}
use Rattle.fed_redaction.proofs.Redacting.{signed_part-leave_out}

-- ---- a member that a test drops

same_name : (k l : List ℕ) → is_eq (slice_cmp nat_cmp k l) ≡ true → k ≡ l
same_name k l h = (bytes_eq-Decides k l).0 (sym (is_eq-slice_cmp k l) ∙ h)

put_by : (p : List ℕ → Bool) (k l : List ℕ) (d e : Data) (rest ms : Members) (o : Ordering) → p k ≡ false → (is_eq o ≡ true → p l ≡ false) → select p rest ≡ select p ms
    → select p (match_ordering o (member k d (member l e ms)) (member l d ms) (member l e rest)) ≡ select p (member l e ms)
put_by p k l d e rest ms Less out same later = cond-false (p k) _ _ out
put_by p k l d e rest ms Equal out same later = cond-false (p l) _ _ (same refl) ∙ sym (cond-false (p l) _ _ (same refl))
put_by p k l d e rest ms Greater out same later = ap (λ left. cond (p l) (member l e left) left) later

select-put : (p : List ℕ → Bool) (k : List ℕ) (d : Data) (ms : Members) → p k ≡ false → select p (put k d ms) ≡ select p ms
select-put p k d no_members out = cond-false (p k) _ _ out
select-put p k d (member l e ms) out =
    put_by p k l d e (put k d ms) ms (slice_cmp nat_cmp k l) out (λ is. ap p (sym (same_name k l is)) ∙ out) (select-put p k d ms out)

leave_out-with_member : (names : List (List ℕ)) (k : List ℕ) (v d : Data) → is_one_of names k ≡ true → leave_out names (with_member k v d) ≡ leave_out names d
leave_out-with_member names k v null h = refl
leave_out-with_member names k v (boolean b) h = refl
leave_out-with_member names k v (number n) h = refl
leave_out-with_member names k v (string s) h = refl
leave_out-with_member names k v (array ds) h = refl
leave_out-with_member names k v (object ms) h = ap object (select-put (λ n. not (is_one_of names n)) k v ms (ap not h))

-- ---- what is hashed, and what is signed

covered-with : (k : List ℕ) (v d : Data) → is_one_of uncovered_keys k ≡ true → content_hash_of (with_member k v d) ≡ content_hash_of d
covered-with k v d h = ap (λ part. encode_of standard_no_pad (sha256 (canonical_text part))) (leave_out-with_member uncovered_keys k v d h)

are_unsigned : (version : Version) → AreUnsigned version unsigned_keys
are_unsigned version name h = ap (λ b. is_one_of (event_keys version) name && not b) h ∙ and-false (is_one_of (event_keys version) name)

signed_part-signatures : (version : Version) (v d : Data) → signed_part (event_in version (with_member (codes "signatures") v d)) ≡ signed_part (event_in version d)
signed_part-signatures version v d =
    sym (signed_part-leave_out version unsigned_keys (with_member (codes "signatures") v d) (are_unsigned version))
    ∙ ap (λ left. signed_part (event_in version left)) (leave_out-with_member unsigned_keys (codes "signatures") v d refl)
    ∙ signed_part-leave_out version unsigned_keys d (are_unsigned version)

signed_text-signatures : (version : Version) (v d : Data) → signed_text_of (event_in version (with_member (codes "signatures") v d)) ≡ signed_text_of (event_in version d)
signed_text-signatures version v d = ap canonical_text (signed_part-signatures version v d)

-- ---- what stands where

get-holding : (name : List ℕ) (value : Data) → get name (holding name value) ≡ Some value
get-holding name value = get_member-put name value no_members

hashes_apart : codes "hashes" ≢ codes "signatures"
hashes_apart h = true≢false (ap (bytes_eq (codes "hashes")) h)

sender_apart : codes "sender" ≢ codes "signatures"
sender_apart h = true≢false (ap (bytes_eq (codes "sender")) h)

sender_hashes_apart : codes "sender" ≢ codes "hashes"
sender_hashes_apart h = true≢false (ap (bytes_eq (codes "sender")) h)

given_hash-put : (v : Data) (text : List ℕ) (ms : Members) → given_hash_of (object (put (codes "signatures") v (put (codes "hashes") (holding (codes "sha256") (string text)) ms))) ≡ Some text
given_hash-put v text ms =
    let hashes = holding (codes "sha256") (string text) in
    let found = get_member-put_other (codes "hashes") (codes "signatures") v (put (codes "hashes") hashes ms) hashes_apart ∙ get_member-put (codes "hashes") hashes ms in
    ap (λ o. option_and_then as_str (option_and_then (get (codes "sha256")) o)) found ∙ ap (option_and_then as_str) (get-holding (codes "sha256") (string text))

signatures_by-put : (server key text : List ℕ) (ms : Members)
    → signatures_by server (object (put (codes "signatures") (holding server (holding key (string text))) ms)) ≡ (key, string text) ∷ []
signatures_by-put server key text ms =
    let by_key = holding key (string text) in
    ap (λ o. unwrap_or (option_and_then as_members (get server (unwrap_or o null))) []) (get_member-put (codes "signatures") (holding server by_key) ms)
    ∙ ap (λ o. unwrap_or (option_and_then as_members o) []) (get-holding server by_key)

sender-put : (v w : Data) (ms : Members) → get_member (codes "sender") (put (codes "signatures") v (put (codes "hashes") w ms)) ≡ get_member (codes "sender") ms
sender-put v w ms =
    get_member-put_other (codes "sender") (codes "signatures") v (put (codes "hashes") w ms) sender_apart
    ∙ get_member-put_other (codes "sender") (codes "hashes") w ms sender_hashes_apart

-- ---- the sender

sender_text-sealed : (server key : List ℕ) (sign : List ℕ → List ℕ) (version : Version) (parts : Data) → sender_text (sealed_of server key sign version parts).value ≡ sender_text parts
sender_text-sealed server key sign version null = refl
sender_text-sealed server key sign version (boolean b) = refl
sender_text-sealed server key sign version (number n) = refl
sender_text-sealed server key sign version (string s) = refl
sender_text-sealed server key sign version (array ds) = refl
sender_text-sealed server key sign version (object ms) = ap (option_and_then as_str) (sender-put _ _ ms)

a_text : (o : Option (List ℕ)) → holds (is_id_text 64) o ≡ true → IsSome o
a_text None h = absurd (cc)
a_text (Some text) h = refl

sent : (o : Option Data) → has_kind Sender (unwrap_or o null) ≡ true → IsSome (option_and_then as_str o)
sent None h = absurd (cc)
sent (Some value) h = a_text (as_str value) h

pub sender_text-passed : (server key : List ℕ) (sign : List ℕ → List ℕ) (version : Version) (parts : Data) → first_fault_of (sealed_of server key sign version parts).value ≡ None
    → IsSome (sender_text parts)
sender_text-passed server key sign version parts passes =
    let event = (sealed_of server key sign version parts).value in
    subst IsSome (sender_text-sealed server key sign version parts) (sent (get (codes "sender") event) (kind_passed event Sender passes refl))

-- ---- the event as a whole

pub signed_text-signed : (server key : List ℕ) (sign : List ℕ → List ℕ) (event : Event) → signed_text_of (signed_of server key sign event) ≡ signed_text_of event
signed_text-signed server key sign event = signed_text-signatures event.version (holding server (holding key (string (signature_text_of sign event)))) event.value

fits-text : (event : Data) (hash text : List ℕ) → given_hash_of event ≡ Some text → content_hash_of event ≡ hash → hash ≡ text → hash_fits_of event ≡ true
fits-text event hash text given is same = ap (λ o. holds (bytes_eq (content_hash_of event)) o) given ∙ (bytes_eq-Decides (content_hash_of event) text).1 (is ∙ same)

content_hash-sealed : (server key : List ℕ) (sign : List ℕ → List ℕ) (version : Version) (parts : Data) → content_hash_of (sealed_of server key sign version parts).value ≡ content_hash_of parts
content_hash-sealed server key sign version parts = covered-with (codes "signatures") _ (hashed_of parts) refl ∙ covered-with (codes "hashes") _ parts refl

pub hash_fits-sealed : (server key : List ℕ) (sign : List ℕ → List ℕ) (version : Version) (parts : Data) → IsSome (sender_text parts) → hash_fits_of (sealed_of server key sign version parts).value ≡ true
hash_fits-sealed server key sign version null has = absurd (cc)
hash_fits-sealed server key sign version (boolean b) has = absurd (cc)
hash_fits-sealed server key sign version (number n) has = absurd (cc)
hash_fits-sealed server key sign version (string s) has = absurd (cc)
hash_fits-sealed server key sign version (array ds) has = absurd (cc)
hash_fits-sealed server key sign version (object ms) has =
    fits-text (sealed_of server key sign version (object ms)).value (content_hash_of (object ms)) (content_hash_of (object ms)) (given_hash-put _ (content_hash_of (object ms)) ms)
    (content_hash-sealed server key sign version (object ms)) refl

signer : (o : Option (List ℕ)) (server : List ℕ) → IsSome o → IfSome o (λ sender. domain_of sender ≡ server) → domain_of (unwrap_or o []) ≡ server
signer None server has own = absurd (cc)
signer (Some sender) server has own = own

signed-one : (checks : Checks) (server key signature : List ℕ) (value : Data) (event : Event) → signatures_by server event.value ≡ (key, value) ∷ [] → signature_in value ≡ Some signature
    → checks server key (signed_text_of event) signature ≡ true → is_signed_by checks server event ≡ true
signed-one checks server key signature value event there is good =
    ap (λ entries. list_any (λ entry. holds (checks server entry.0 (signed_text_of event)) (signature_in entry.1)) entries) there
    ∙ ap (λ o. holds (checks server key (signed_text_of event)) o || false) is ∙ ap (λ b. b || false) good

pub is_signed-sealed : (checks : Checks) (server key : List ℕ) (sign : List ℕ → List ℕ) (version : Version) (parts : Data) → IsSome (sender_text parts) → IsSentBy server parts
    → signature_in (string (signature_text_of sign (event_in version (hashed_of parts)))) ≡ Some (sign (signed_text_of (event_in version (hashed_of parts))))
    → ((message : List ℕ) → checks server key message (sign message) ≡ true)
    → is_signed checks (sealed_of server key sign version parts) ≡ true
is_signed-sealed checks server key sign version null has own decodes law = absurd (cc)
is_signed-sealed checks server key sign version (boolean b) has own decodes law = absurd (cc)
is_signed-sealed checks server key sign version (number n) has own decodes law = absurd (cc)
is_signed-sealed checks server key sign version (string s) has own decodes law = absurd (cc)
is_signed-sealed checks server key sign version (array ds) has own decodes law = absurd (cc)
is_signed-sealed checks server key sign version (object ms) has own decodes law =
    let hashed = event_in version (hashed_of (object ms)) in
    let event = sealed_of server key sign version (object ms) in
    let text = signature_text_of sign hashed in
    let message = signed_text_of hashed in
    let same = signed_text-signatures version (holding server (holding key (string text))) hashed.value in
    let sender = ap (λ o. domain_of (unwrap_or (option_and_then as_str o) [])) (sender-put _ _ ms) ∙ signer (sender_text (object ms)) server has own in
    ap (λ s. is_signed_by checks s event) sender
    ∙ signed-one checks server key (sign message) (string text) event (signatures_by-put server key text (put (codes "hashes") (holding (codes "sha256") (string (content_hash_of (object ms)))) ms)) decodes
    (ap (λ m. checks server key m (sign message)) same ∙ law message)

-- what fits is kept as it is
pub event-fitting : (checks : Checks) (event : Event) (kept : CheckedEvent) → kept ≡ checked_of checks event → hash_fits_of event.value ≡ true → kept.event ≡ event
event-fitting checks event kept is fits = ap (λ k. k.event) is ∙ cond-true (hash_fits_of event.value) event (redacted event) fits
