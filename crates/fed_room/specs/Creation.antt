-- The events that a room begins with (Matrix, Client-Server API, "Creation"; room versions 10 and 11): the first user creates it, joins it, has
-- power level 100 and opens it to all, and each further user joins it.
use Rattle.std.specs.Prelude.{ℕ, ◌+◌, List, [], ◌∷◌, map, find, is_none, Option, None, Some, Result, Ok, Err, codes, if◌then◌else◌}
use Rattle.serde_json.specs.Data.{Data, unsigned, number, string, object, no_members, member}
use Rattle.fed_event.specs.declared.fault.PduFault.{PduFault}
use Rattle.fed_event.specs.Checked.{CheckedEvent}
use Rattle.fed_event.specs.Keys.{Checks}
use Rattle.fed_redaction.specs.declared.version.Version.{Version}
use Rattle.fed_event.specs.Version.{name_of, names_creator}
use Rattle.fed_event.specs.Names.{member_if}
use Rattle.fed_room_contract.specs.Draft.{DraftFields}
use Rattle.fed_room_contract.specs.Prepared.{Signer, signer_of, is_own_user}
use Rattle.fed_room.specs.declared.started_fault.StartedFault.{StartedFault}
use Rattle.fed_room.specs.declared.started_fault.StartedFault.TheVariants.{NoUser, NoKeys}
use Rattle.fed_room.specs.Line.{EventLine, empty_line, after_draft}
use Rattle.fed_room.specs.StartedFault.{started_fault_of}

-- ---- the drafts

abbrev pub only : List ℕ → Data → Data
only name value = object (member name value no_members)

-- a state event of a user, dated 0
abbrev pub state_draft : List ℕ → List ℕ → List ℕ → List ℕ → Data → DraftFields
state_draft room sender kind key content = record { room = room; sender = sender; kind = kind; state_key = Some key; content = content; at_ms = 0 }

-- the creator, where the version has it so, and the version
abbrev pub create_content : Version → List ℕ → Data
create_content version creator =
    object (member_if (codes "creator") (if names_creator version then Some (string creator) else None) (member (codes "room_version") (string (name_of version)) no_members))

abbrev pub creation : Version → List ℕ → List ℕ → DraftFields
creation version room user = state_draft room user (codes "m.room.create") [] (create_content version user)

abbrev pub joining : List ℕ → List ℕ → DraftFields
joining room user = state_draft room user (codes "m.room.member") user (only (codes "membership") (string (codes "join")))

abbrev pub power_levels : List ℕ → List ℕ → DraftFields
power_levels room user = state_draft room user (codes "m.room.power_levels") [] (only (codes "users") (only user (number (unsigned 100))))

abbrev pub join_rules : List ℕ → List ℕ → DraftFields
join_rules room user = state_draft room user (codes "m.room.join_rules") [] (only (codes "join_rule") (string (codes "public")))

-- of the first user, and of the others
abbrev pub drafts_of : Version → List ℕ → List ℕ → List (List ℕ) → List DraftFields
drafts_of version room first others = creation version room first ∷ joining room first ∷ power_levels room first ∷ join_rules room first ∷ map (joining room) others

-- ---- the events

abbrev pub events_in : Result EventLine PduFault → Result (List CheckedEvent) StartedFault
events_in (Ok line) = Ok line.events
events_in (Err fault) = Err (started_fault_of fault)

-- what keys sign by, from what their trait says of them
abbrev pub signer_by : {X : Type 0} → (X → List ℕ) → (X → List ℕ) → (X → List ℕ → List ℕ) → (X → Checks) → X → Signer
signer_by name key sign checks = λ k. signer_of (name k) (key k) (sign k) (checks k)

-- keys, each with what it signs by
module _ {X : Type 0} (signer : X → Signer) (keys : List X) where
  -- the first keys of a user's server
  abbrev pub keys_of : List ℕ → Option X
  keys_of user = find (λ k. is_own_user (signer k).name user) keys

  -- a sender whose server has no keys makes no event
  abbrev pub after_signed : Option X → EventLine → DraftFields → Result EventLine PduFault
  after_signed None line draft = Ok line
  after_signed (Some k) line draft = after_draft (signer k) line draft

  -- each draft is made by the keys of its sender's server
  abbrev pub after_drafts : Result EventLine PduFault → List DraftFields → Result EventLine PduFault
  after_drafts (Err fault) drafts = Err fault
  after_drafts (Ok line) [] = Ok line
  after_drafts (Ok line) (draft ∷ drafts) = after_drafts (after_signed (keys_of draft.sender) line draft) drafts

  -- the first of these users whose server has no keys, the first of them being at this place
  abbrev pub keyless : ℕ → List (List ℕ) → Option ℕ
  keyless place [] = None
  keyless place (user ∷ users) = if is_none (keys_of user) then Some place else keyless (place + 1) users

  abbrev pub unless_keyless : Option ℕ → Result (List CheckedEvent) StartedFault → Result (List CheckedEvent) StartedFault
  unless_keyless (Some place) events = Err (NoKeys place)
  unless_keyless None events = events

  -- the events of a room of this version and these users, or the first reason why there are none: places are counted from 1
  abbrev pub started_of : Version → List ℕ → List (List ℕ) → Result (List CheckedEvent) StartedFault
  started_of version room [] = Err NoUser
  started_of version room (first ∷ others) =
      unless_keyless (keyless 1 (first ∷ others)) (events_in (after_drafts (Ok (empty_line version)) (drafts_of version room first others)))
