-- The versions of rooms (Matrix, "Room versions", 10 and 11), and what depends on them: for each version a row of one table.
use Rattle.std.specs.Prelude.{◌≡◌, ℕ, List, [], ◌∷◌, Bool, true, false, Option, Some, None, codes, bytes_eq, if◌then◌else◌, refl}
use Rattle.std.specs.Coded.{Coded, code_by, coded_bool}
use Rattle.fed_redaction.specs.declared.version.Version.{Version}
use Rattle.fed_redaction.specs.declared.version.Version.TheVariants.{V10, V11}

-- what redaction keeps of a content: all of it, or the members under `keys`, and of an object under one of `signed` its `signed` alone
pub record Kept : Type 0 where
  pub all : Bool
  pub keys : List (List ℕ)
  pub signed : List (List ℕ)

abbrev pub members_under : List (List ℕ) → Kept
members_under keys = record { all = false; keys = keys; signed = [] }

pub record VersionRow : Type 0 where
  -- as the content of a create event has it at `room_version`
  pub name : List ℕ
  -- the top-level keys that redaction keeps, and what it keeps of a content, by the type of the event
  pub event_keys : List (List ℕ)
  pub contents : List (List ℕ × Kept)
  -- whether the content of a create event names the creator, who is its sender otherwise
  pub names_creator : Bool

-- "Redactions" of room version 10, as set out in room version 9
abbrev pub version_10 : VersionRow
version_10 = record {
  name = codes "10";
  event_keys =
      codes "auth_events" ∷ codes "content" ∷ codes "depth" ∷ codes "event_id" ∷ codes "hashes" ∷ codes "membership"
      ∷ codes "origin" ∷ codes "origin_server_ts" ∷ codes "prev_events" ∷ codes "prev_state" ∷ codes "room_id"
      ∷ codes "sender" ∷ codes "signatures" ∷ codes "state_key" ∷ codes "type" ∷ [];
  contents =
      (codes "m.room.member", members_under (codes "join_authorised_via_users_server" ∷ codes "membership" ∷ []))
      ∷ (codes "m.room.create", members_under (codes "creator" ∷ []))
      ∷ (codes "m.room.join_rules", members_under (codes "allow" ∷ codes "join_rule" ∷ []))
      ∷ (
        codes "m.room.power_levels",
        members_under
            (codes "ban" ∷ codes "events" ∷ codes "events_default" ∷ codes "kick" ∷ codes "redact"
            ∷ codes "state_default" ∷ codes "users" ∷ codes "users_default" ∷ []),
      )
      ∷ (codes "m.room.history_visibility", members_under (codes "history_visibility" ∷ []))
      ∷ [];
  names_creator = true;
}

-- "Redactions" and "Remove the creator property of m.room.create events" of room version 11
abbrev pub version_11 : VersionRow
version_11 = record {
  name = codes "11";
  event_keys =
      codes "auth_events" ∷ codes "content" ∷ codes "depth" ∷ codes "event_id" ∷ codes "hashes"
      ∷ codes "origin_server_ts" ∷ codes "prev_events" ∷ codes "room_id" ∷ codes "sender" ∷ codes "signatures"
      ∷ codes "state_key" ∷ codes "type" ∷ [];
  contents = (
    codes "m.room.member",
    record { all = false; keys = codes "join_authorised_via_users_server" ∷ codes "membership" ∷ []; signed = codes "third_party_invite" ∷ [] },
  )
      ∷ (codes "m.room.create", record { all = true; keys = []; signed = [] })
      ∷ (codes "m.room.join_rules", members_under (codes "allow" ∷ codes "join_rule" ∷ []))
      ∷ (
        codes "m.room.power_levels",
        members_under
            (codes "ban" ∷ codes "events" ∷ codes "events_default" ∷ codes "invite" ∷ codes "kick" ∷ codes "redact"
            ∷ codes "state_default" ∷ codes "users" ∷ codes "users_default" ∷ []),
      )
      ∷ (codes "m.room.history_visibility", members_under (codes "history_visibility" ∷ []))
      ∷ (codes "m.room.redaction", members_under (codes "redacts" ∷ []))
      ∷ [];
  names_creator = false;
}

abbrev pub row_of : Version → VersionRow
row_of V10 = version_10
row_of V11 = version_11

abbrev pub name_of : Version → List ℕ
name_of version = (row_of version).name

abbrev pub event_keys : Version → List (List ℕ)
event_keys version = (row_of version).event_keys

abbrev pub names_creator : Version → Bool
names_creator version = (row_of version).names_creator

-- the known version of this name
abbrev pub version_named : List ℕ → Option Version
version_named name = if bytes_eq name (name_of V10) then Some V10 else if bytes_eq name (name_of V11) then Some V11 else None

-- ---- as contracts keep it

abbrev pub is_newer : Version → Bool
is_newer V10 = false
is_newer V11 = true

abbrev pub version_by : Bool → Version
version_by false = V10
version_by true = V11

pub version_by-is_newer : (version : Version) → version_by (is_newer version) ≡ version
version_by-is_newer V10 = refl
version_by-is_newer V11 = refl

abbrev pub coded_version : Coded Version
coded_version = code_by Bool coded_bool is_newer version_by version_by-is_newer
