-- What is the same in every version of rooms: the selection of an event, and where an event goes.
use Rattle.std.proofs.Common.{◌≡◌, ℕ, List, [], ◌∷◌, map, Bool, true, false, not, ◌&&◌, ◌||◌, codes, bytes_eq, is_some, if◌then◌else◌, Option, Some, None, option_map, option_and_then, unwrap_or, Result, Ok, Err, refl, sym, ap, ap₂, subst, ◌∙◌}
use Rattle.std.proofs.lemmas.Slice.Eq.{bytes_eq-Decides}
use Rattle.std.specs.List.{list_any, list_all}
use Rattle.std.specs.Option.{option_eq}
use Rattle.serde_json.specs.Data.{Data, null}
use Rattle.serde_json.specs.Find.{as_str, get}
use Rattle.fed_json.specs.CanonicalText.{canonical_text}
use Rattle.fed_json.specs.JsonRef.{as_items}
use Rattle.fed_redaction.specs.declared.version.Version.{Version}
use Rattle.fed_redaction.specs.declared.version.Version.TheVariants.{V10, V11}
use Rattle.fed_redaction.specs.Names.{is_one_of}
use Rattle.fed_redaction.specs.Version.{event_keys}
use Rattle.fed_redaction.specs.Redaction.{redacted, redacted_in, type_of, kept_of, stays_whole, kept_content}
use Rattle.fed_redaction.specs.ContentHash.{hash_fits_of}
use Rattle.fed_redaction.proofs.Redacting.{redacted-kept, redacted-content, content-kept}
use Rattle.fed_event.specs.Event.{Event, event_in}
use Rattle.fed_event.specs.Fields.{kind_of, state_key_of}
use Rattle.fed_event.specs.Ids.{domain_of}
use Rattle.fed_event.specs.Tests.{holds}
use Rattle.fed_dest.specs.Joined.{joins_server, says_join}
use Rattle.fed_c.specs.declared.status.Status.{Status}
use Rattle.fed_c.specs.declared.status.Status.TheVariants.{BadState, BadEvents}
use Rattle.fed_c.specs.Results.{and_then, or_refusal}
use Rattle.fed_c.specs.Output.{Output, Gives}
use Rattle.fed_c.specs.History.{is_event, taken}
use Rattle.fed_c.specs.Selection.{selection_answer}
use Rattle.fed_c.specs.StateEvents.{state_events_of}
use Rattle.fed_c.specs.States.{are_alike, has_double, is_state, made_of}
use Rattle.fed_c.specs.Destinations.{sent_to, texts_value, destinations_answer}

-- a call that gives an answer gives an equal one
pub gives_same : (one other : Result (List ℕ) Status) (status : ℕ) (o : Output) → one ≡ other → Gives one status o → Gives other status o
gives_same one other status o same given = subst (λ answer. Gives answer status o) same given

pub same_selection : (v w : Version) (answer : Result Data Status) → selection_answer v answer ≡ selection_answer w answer
same_selection v w (Ok value) = refl
same_selection v w (Err fault) = refl

-- ---- what redaction keeps in every version

abbrev member : List ℕ
member = codes "m.room.member"

kind_stays : (v : Version) → is_one_of (event_keys v) (codes "type") ≡ true
kind_stays V10 = refl
kind_stays V11 = refl

key_stays : (v : Version) → is_one_of (event_keys v) (codes "state_key") ≡ true
key_stays V10 = refl
key_stays V11 = refl

membership_stays : (v : Version) → stays_whole (kept_of v (Some member)) (codes "membership") ≡ true
membership_stays V10 = refl
membership_stays V11 = refl

kind_apart : codes "type" ≡ codes "content" → ⊥
kind_apart h = absurd (cc)

key_apart : codes "state_key" ≡ codes "content" → ⊥
key_apart h = absurd (cc)

-- the event, or its redaction where its content hash does not fit
abbrev left_of : Version → Data → Bool → Event
left_of v value fits = if fits then event_in v value else redacted (event_in v value)

kind_is : (v : Version) (value : Data) (fits : Bool) → kind_of (left_of v value fits) ≡ unwrap_or (type_of value) []
kind_is v value true = refl
kind_is v value false = ap (λ part. unwrap_or (option_and_then as_str part) []) (redacted-kept v value (codes "type") (kind_stays v) kind_apart)

key_is : (v : Version) (value : Data) (fits : Bool) → state_key_of (left_of v value fits) ≡ option_and_then as_str (get (codes "state_key") value)
key_is v value true = refl
key_is v value false = ap (option_and_then as_str) (redacted-kept v value (codes "state_key") (key_stays v) key_apart)

-- the membership in the content of a member event
abbrev membership_in : Option Data → Option Data
membership_in content = get (codes "membership") (unwrap_or content null)

membership_kept : (v : Version) (value : Data) (content : Option Data) → type_of value ≡ Some member → get (codes "content") value ≡ content
    → membership_in (get (codes "content") (redacted_in v value)) ≡ membership_in content
membership_kept v value None t c = ap membership_in (redacted-content v value ∙ ap (option_map (kept_content (kept_of v (type_of value)))) c)
membership_kept v value (Some d) t c =
    ap membership_in (redacted-content v value ∙ ap (option_map (kept_content (kept_of v (type_of value)))) c)
    ∙ ap (λ kind. get (codes "membership") (kept_content (kept_of v kind) d)) t
    ∙ content-kept (kept_of v (Some member)) d (codes "membership") (membership_stays v)

abbrev is_join : Option Data → Bool
is_join membership = holds (λ text. bytes_eq text (codes "join")) (option_and_then as_str membership)

join_is : (v : Version) (value : Data) (fits : Bool) → type_of value ≡ Some member → says_join (left_of v value fits) ≡ is_join (membership_in (get (codes "content") value))
join_is v value true t = refl
join_is v value false t = ap is_join (membership_kept v value (get (codes "content") value) t refl)

type_is : (o : Option (List ℕ)) → bytes_eq (unwrap_or o []) member ≡ true → o ≡ Some member
type_is None h = absurd (cc)
type_is (Some kind) h = ap Some ((bytes_eq-Decides kind member).0 h)

abbrev joins_by : Bool → Bool → List ℕ → Option (List ℕ) → Bool
joins_by is_member join server key = holds (λ state_key. is_member && bytes_eq (domain_of state_key) server && join) key

same_joins_by : (is_member one other : Bool) (server : List ℕ) (key : Option (List ℕ)) → (is_member ≡ true → one ≡ other) → joins_by is_member one server key ≡ joins_by is_member other server key
same_joins_by true one other server key h = ap (λ join. joins_by true join server key) (h refl)
same_joins_by false one other server key h = refl

-- ---- what is read of an event of a state

pub record AreSame (one other : Event) : Type 0 where
  pub kind : kind_of one ≡ kind_of other
  pub key : state_key_of one ≡ state_key_of other
  pub joins : (server : List ℕ) → joins_server server one ≡ joins_server server other

same_left : (v w : Version) (value : Data) (fits : Bool) → AreSame (left_of v value fits) (left_of w value fits)
same_left v w value fits =
    let one = left_of v value fits in
    let other = left_of w value fits in
    let kinds : kind_of one ≡ kind_of other = kind_is v value fits ∙ sym (kind_is w value fits) in
    let keys : state_key_of one ≡ state_key_of other = key_is v value fits ∙ sym (key_is w value fits) in
    record {
      kind = kinds;
      key = keys;
      joins = λ server.
          ap (λ kind. joins_by (bytes_eq kind member) (says_join one) server (state_key_of one)) kinds
          ∙ ap (λ key. joins_by (bytes_eq (kind_of other) member) (says_join one) server key) keys
          ∙ same_joins_by (bytes_eq (kind_of other) member) (says_join one) (says_join other) server (state_key_of other) (λ h.
          let t = type_is (type_of value) (ap (λ kind. bytes_eq kind member) (sym (kind_is w value fits)) ∙ h) in join_is v value fits t ∙ sym (join_is w value fits t));
    }

same_kept : (v w : Version) (value : Data) → AreSame (taken v value).event (taken w value).event
unfolding taken
same_kept v w value = same_left v w value (hash_fits_of value)

same_tests : (v w : Version) (values : List Data) → list_all (is_event v) values ≡ list_all (is_event w) values
unfolding is_event
same_tests v w values = refl

-- ---- all of them

module _ (f g : Data → Event) (same : (value : Data) → AreSame (f value) (g value)) where
  same_any : (server : List ℕ) (values : List Data) → list_any (joins_server server) (map f values) ≡ list_any (joins_server server) (map g values)
  same_any server [] = refl
  same_any server (value ∷ values) = ap₂ ◌||◌ ((same value).joins server) (same_any server values)

  same_alike : (one other : Event) → AreSame one other → (values : List Data) → list_any (are_alike one) (map f values) ≡ list_any (are_alike other) (map g values)
  same_alike one other are [] = refl
  same_alike one other are (value ∷ values) =
      ap₂ ◌||◌ (ap₂ ◌&&◌ (ap₂ bytes_eq are.kind (same value).kind) (ap₂ (option_eq bytes_eq) are.key (same value).key)) (same_alike one other are values)

  same_double : (values : List Data) → has_double (map f values) ≡ has_double (map g values)
  same_double [] = refl
  same_double (value ∷ values) = ap₂ ◌||◌ (same_alike (f value) (g value) (same value) values) (same_double values)

  same_keyed : (values : List Data) → list_all (λ event. is_some (state_key_of event)) (map f values) ≡ list_all (λ event. is_some (state_key_of event)) (map g values)
  same_keyed [] = refl
  same_keyed (value ∷ values) = ap₂ ◌&&◌ (ap is_some (same value).key) (same_keyed values)

  same_state : (values : List Data) → is_state (map f values) ≡ is_state (map g values)
  same_state values = ap₂ ◌&&◌ (same_keyed values) (ap not (same_double values))

  same_sent : (values : List Data) (servers : List (List ℕ)) (own : List ℕ) → sent_to (map f values) servers own ≡ sent_to (map g values) servers own
  same_sent values [] own = refl
  same_sent values (server ∷ servers) own =
      ap₂ (λ goes others. if goes && not (bytes_eq server own) then server ∷ others else others) (same_any server values) (same_sent values servers own)

-- ---- the answer

abbrev by_held : List Event → List (List ℕ) → List ℕ → Result (List ℕ) Status
by_held held servers own = and_then (made_of held) (λ _. Ok (canonical_text (texts_value (sent_to held servers own))))

abbrev if_state : Bool → List (List ℕ) → Result (List ℕ) Status
if_state b names = if b then Ok (canonical_text (texts_value names)) else Err BadState

held_is : (held : List Event) (servers : List (List ℕ)) (own : List ℕ) (b : Bool) → is_state held ≡ b → by_held held servers own ≡ if_state b (sent_to held servers own)
held_is held servers own true e = rw e refl
held_is held servers own false e = rw e refl

same_held : (v w : Version) (values : List Data) (servers : List (List ℕ)) (own : List ℕ) (b : Bool) → list_all (is_event w) values ≡ b
    → and_then (state_events_of v values) (λ held. by_held held servers own) ≡ and_then (state_events_of w values) (λ held. by_held held servers own)
same_held v w values servers own false e = rw (same_tests v w values ∙ e, e) refl
same_held v w values servers own true e =
    let one = λ (value : Data). (taken v value).event in
    let other = λ (value : Data). (taken w value).event in
    let are = same_state one other (same_kept v w) values in
    rw (same_tests v w values ∙ e, e) (held_is (map one values) servers own (is_state (map other values)) are
    ∙ ap (if_state (is_state (map other values))) (same_sent one other (same_kept v w) values servers own)
    ∙ sym (held_is (map other values) servers own (is_state (map other values)) refl))

same_listed : (v w : Version) (servers : List (List ℕ)) (own : List ℕ) (items : Option (List Data))
    → and_then (and_then (or_refusal BadEvents items) (state_events_of v)) (λ held. by_held held servers own)
    ≡ and_then (and_then (or_refusal BadEvents items) (state_events_of w)) (λ held. by_held held servers own)
same_listed v w servers own None = refl
same_listed v w servers own (Some values) = same_held v w values servers own (list_all (is_event w) values) refl

pub same_destinations : (v w : Version) (state : Result Data Status) (servers : List (List ℕ)) (own : List ℕ) → destinations_answer v state servers own ≡ destinations_answer w state servers own
same_destinations v w (Ok value) servers own = same_listed v w servers own (as_items value)
same_destinations v w (Err fault) servers own = refl
