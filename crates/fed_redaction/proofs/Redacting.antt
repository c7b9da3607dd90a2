-- What redaction does to members, and what it leaves alone.
use Rattle.std.proofs.Common.{◌≡◌, ◌≢◌, ℕ, List, ◌∷◌, Bool, true, false, ◌&&◌, not, Option, Some, None, if◌then◌else◌, subst, option_map, option_and_then, unwrap_or, IsSome, codes, refl, sym, ◌∙◌, ap}
use Rattle.std.proofs.Math.Bool.{and_self}
use Rattle.sha2.specs.Sha256.{sha256}
use Rattle.base64.specs.Engines.{url_safe_no_pad}
use Rattle.base64.specs.GeneralPurpose.{encode_of}
use Rattle.serde_json.specs.Data.{Data, null, boolean, number, string, array, object, Members, no_members}
use Rattle.serde_json.specs.Find.{get, get_member, as_str, as_object}
use Rattle.fed_json.specs.CanonicalText.{canonical_text}
use Rattle.fed_redaction.specs.declared.version.Version.{Version}
use Rattle.fed_redaction.specs.declared.version.Version.TheVariants.{V10, V11}
use Rattle.fed_redaction.specs.Names.{is_one_of, select, member_if, at_name, leave_out}
use Rattle.fed_redaction.specs.Version.{Kept, event_keys}
use Rattle.fed_redaction.specs.Event.{Event, event_in}
use Rattle.fed_redaction.specs.Redaction.{type_of, kept_of, signed_in, signed_alone, stays_whole, kept_value, kept_content, redacted_members, redacted_in, redacted}
use Rattle.fed_redaction.specs.EventId.{unsigned_keys, signed_part, event_id_of}
use Rattle.fed_redaction.specs.Laws.{AreUnsigned}
use Rattle.fed_redaction.proofs.Selecting.{select-same, select-select, select-at_name, at_name-at_name, at_name-same, get_member-select, get_member-dropped, get_member-other, get_member-at_name, keep_twice, get_member-kept, get_member-unkept}

-- ---- in all versions

pub type_stays : (version : Version) → is_one_of (event_keys version) (codes "type") ≡ true
type_stays V10 = refl
type_stays V11 = refl

pub content_stays : (version : Version) → is_one_of (event_keys version) (codes "content") ≡ true
content_stays V10 = refl
content_stays V11 = refl

-- the keys that a signature covers
abbrev covered : Version → List ℕ → Bool
covered version k = is_one_of (event_keys version) k && not (is_one_of unsigned_keys k)

-- ---- twice

select-twice : (p : List ℕ → Bool) (ms : Members) → select p (select p ms) ≡ select p ms
select-twice p ms = select-select p p ms ∙ select-same (λ k. p k && p k) p (λ k. and_self (p k)) ms

get_signed : (o : Option Data) → get_member (codes "signed") (member_if (codes "signed") o no_members) ≡ o
get_signed None = refl
get_signed (Some v) = refl

alone_twice : (d e : Data) → signed_alone d ≡ Some e → signed_alone e ≡ Some e
alone_twice null e h = absurd (cc)
alone_twice (boolean b) e h = absurd (cc)
alone_twice (number n) e h = absurd (cc)
alone_twice (string s) e h = absurd (cc)
alone_twice (array ds) e h = absurd (cc)
alone_twice (object ms) e h =
    let o = get_member (codes "signed") ms in
    let is : signed_in (object ms) ≡ e = cc in
    subst (λ x. signed_alone x ≡ Some x) is (ap (λ p. Some (object (member_if (codes "signed") p no_members))) (get_signed o))

value_twice : (kept : Kept) (k : List ℕ) (d e : Data) → kept_value kept k d ≡ Some e → kept_value kept k e ≡ Some e
value_twice kept k d e = by (stays_whole kept k) (is_one_of kept.signed k)
  where
    by : (whole part : Bool) → (if whole then Some d else if part then signed_alone d else None) ≡ Some e → (if whole then Some e else if part then signed_alone e else None) ≡ Some e
    by true part h = refl
    by false true h = alone_twice d e h
    by false false h = absurd (cc)

content_twice : (kept : Kept) (d : Data) → kept_content kept (kept_content kept d) ≡ kept_content kept d
content_twice kept d = ap object (keep_twice (kept_value kept) (value_twice kept) _)

members_twice : (version : Version) (kept : Kept) (ms : Members) → redacted_members version kept (redacted_members version kept ms) ≡ redacted_members version kept ms
members_twice version kept ms =
    let content = codes "content" in
    let f = kept_content kept in
    let test = is_one_of (event_keys version) in
    ap (at_name content f) (select-at_name test content f (select test ms))
    ∙ at_name-at_name content f f _
    ∙ at_name-same content (λ d. f (f d)) f (content_twice kept) _
    ∙ ap (at_name content f) (select-twice test ms)

type_apart : codes "type" ≢ codes "content"
type_apart h = absurd (cc)

-- the type stays
type_kept : (version : Version) (kept : Kept) (ms : Members) → type_of (object (redacted_members version kept ms)) ≡ type_of (object ms)
type_kept version kept ms =
    ap (option_and_then as_str)
    (get_member-other (codes "content") (kept_content kept) (codes "type") (select (is_one_of (event_keys version)) ms) type_apart
    ∙ get_member-select (is_one_of (event_keys version)) (codes "type") ms (type_stays version))

redacted_twice : (version : Version) (d : Data) → redacted_in version (redacted_in version d) ≡ redacted_in version d
redacted_twice version null = refl
redacted_twice version (boolean b) = refl
redacted_twice version (number n) = refl
redacted_twice version (string s) = refl
redacted_twice version (array ds) = refl
redacted_twice version (object ms) =
    let kept = kept_of version (type_of (object ms)) in
    ap (λ kind. object (redacted_members version (kept_of version kind) (redacted_members version kept ms))) (type_kept version kept ms)
    ∙ ap object (members_twice version kept ms)

pub redacted-redacted : (event : Event) → redacted (redacted event) ≡ redacted event
redacted-redacted event = ap (event_in event.version) (redacted_twice event.version event.value)

-- ---- by name

pub redacted-dropped : (version : Version) (d : Data) (k : List ℕ) → IsSome (as_object d) → is_one_of (event_keys version) k ≡ false → get k (redacted_in version d) ≡ None
redacted-dropped version null k h out = refl
redacted-dropped version (boolean b) k h out = refl
redacted-dropped version (number n) k h out = refl
redacted-dropped version (string s) k h out = refl
redacted-dropped version (array ds) k h out = refl
redacted-dropped version (object ms) k h out =
    let f = kept_content (kept_of version (type_of (object ms))) in
    get_member-at_name (codes "content") f k (select (is_one_of (event_keys version)) ms) ∙ ap (option_map _) (get_member-dropped (is_one_of (event_keys version)) k ms out)

pub redacted-kept : (version : Version) (d : Data) (k : List ℕ) → is_one_of (event_keys version) k ≡ true → k ≢ codes "content" → get k (redacted_in version d) ≡ get k d
redacted-kept version null k stays other = refl
redacted-kept version (boolean b) k stays other = refl
redacted-kept version (number n) k stays other = refl
redacted-kept version (string s) k stays other = refl
redacted-kept version (array ds) k stays other = refl
redacted-kept version (object ms) k stays other =
    let f = kept_content (kept_of version (type_of (object ms))) in
    get_member-other (codes "content") f k (select (is_one_of (event_keys version)) ms) other ∙ get_member-select (is_one_of (event_keys version)) k ms stays

pub redacted-content : (version : Version) (d : Data) → get (codes "content") (redacted_in version d) ≡ option_map (kept_content (kept_of version (type_of d))) (get (codes "content") d)
redacted-content version null = refl
redacted-content version (boolean b) = refl
redacted-content version (number n) = refl
redacted-content version (string s) = refl
redacted-content version (array ds) = refl
redacted-content version (object ms) =
    let f = kept_content (kept_of version (type_of (object ms))) in
    get_member-at_name (codes "content") f (codes "content") (select (is_one_of (event_keys version)) ms)
    ∙ ap (option_map f) (get_member-select (is_one_of (event_keys version)) (codes "content") ms (content_stays version))

pub content-dropped : (kept : Kept) (d : Data) (k : List ℕ) → stays_whole kept k ≡ false → is_one_of kept.signed k ≡ false → get k (kept_content kept d) ≡ None
content-dropped kept d k whole part =
    get_member-unkept (kept_value kept) k (unwrap_or (as_object d) no_members)
    (λ e. ap (λ b. if b then Some e else if is_one_of kept.signed k then signed_alone e else None) whole ∙ ap (λ b. if b then signed_alone e else None) part)

pub content-kept : (kept : Kept) (d : Data) (k : List ℕ) → stays_whole kept k ≡ true → get k (kept_content kept d) ≡ get k d
content-kept kept null k stays = refl
content-kept kept (boolean b) k stays = refl
content-kept kept (number n) k stays = refl
content-kept kept (string s) k stays = refl
content-kept kept (array ds) k stays = refl
content-kept kept (object ms) k stays =
    get_member-kept (kept_value kept) k ms (λ e. ap (λ b. if b then Some e else if is_one_of kept.signed k then signed_alone e else None) stays)

-- ---- what is signed

pub signed_part-redacted : (event : Event) → signed_part (redacted event) ≡ signed_part event
signed_part-redacted event = ap (leave_out unsigned_keys) (redacted_twice event.version event.value)

-- what is signed of members, with no word of redaction
signed-covered : (version : Version) (kept : Kept) (ms : Members)
    → select (λ k. not (is_one_of unsigned_keys k)) (redacted_members version kept ms) ≡ at_name (codes "content") (kept_content kept) (select (covered version) ms)
signed-covered version kept ms =
    let test = is_one_of (event_keys version) in
    select-at_name (λ k. not (is_one_of unsigned_keys k)) (codes "content") (kept_content kept) (select test ms)
    ∙ ap (at_name (codes "content") (kept_content kept)) (select-select (λ k. not (is_one_of unsigned_keys k)) test ms)

left_out : (a b : Bool) → (a ≡ true → b ≡ false) → (not a && b) ≡ b
left_out true b h = sym (h refl)
left_out false b h = refl

covered-left_out : (version : Version) (names : List (List ℕ)) (ms : Members) → AreUnsigned version names
    → select (covered version) (select (λ k. not (is_one_of names k)) ms) ≡ select (covered version) ms
covered-left_out version names ms h =
    select-select (covered version) (λ k. not (is_one_of names k)) ms
    ∙ select-same (λ k. not (is_one_of names k) && covered version k) (covered version) (λ k. left_out (is_one_of names k) (covered version k) (h k)) ms

kept_name : (a b : Bool) → b ≡ true → (a ≡ true → b ≡ false) → not a ≡ true
kept_name true b is h = sym (h refl) ∙ is
kept_name false b is h = refl

type_covered : (version : Version) → covered version (codes "type") ≡ true
type_covered V10 = refl
type_covered V11 = refl

type-left_out : (version : Version) (names : List (List ℕ)) (ms : Members) → AreUnsigned version names → type_of (object (select (λ k. not (is_one_of names k)) ms)) ≡ type_of (object ms)
type-left_out version names ms h =
    ap (option_and_then as_str)
    (get_member-select (λ k. not (is_one_of names k)) (codes "type") ms (kept_name (is_one_of names (codes "type")) (covered version (codes "type")) (type_covered version) (h (codes "type"))))

pub signed_part-leave_out : (version : Version) (names : List (List ℕ)) (d : Data) → AreUnsigned version names → signed_part (event_in version (leave_out names d)) ≡ signed_part (event_in version d)
signed_part-leave_out version names null h = refl
signed_part-leave_out version names (boolean b) h = refl
signed_part-leave_out version names (number n) h = refl
signed_part-leave_out version names (string s) h = refl
signed_part-leave_out version names (array ds) h = refl
signed_part-leave_out version names (object ms) h =
    let left = select (λ k. not (is_one_of names k)) ms in
    let kept = kept_of version (type_of (object ms)) in
    ap (λ kind. object (select (λ k. not (is_one_of unsigned_keys k)) (redacted_members version (kept_of version kind) left))) (type-left_out version names ms h)
    ∙ ap object (signed-covered version kept left ∙ ap (at_name (codes "content") (kept_content kept)) (covered-left_out version names ms h) ∙ sym (signed-covered version kept ms))

-- ---- what is signed decides

-- the id, from what is signed
abbrev pub event_id_from : Data → List ℕ
event_id_from part = 36 ∷ encode_of url_safe_no_pad (sha256 (canonical_text part))

pub event_id_of-redacted : (event : Event) → event_id_of (redacted event) ≡ event_id_of event
event_id_of-redacted event = ap event_id_from (signed_part-redacted event)

pub get-leave_out : (names : List (List ℕ)) (k : List ℕ) (d : Data) → is_one_of names k ≡ false → get k (leave_out names d) ≡ get k d
get-leave_out names k null out = refl
get-leave_out names k (boolean b) out = refl
get-leave_out names k (number n) out = refl
get-leave_out names k (string s) out = refl
get-leave_out names k (array ds) out = refl
get-leave_out names k (object ms) out = get_member-select (λ n. not (is_one_of names n)) k ms (ap not out)
