-- Changes of a state, for the clauses of private functions.
use Rattle.std.specs.Prelude.{◌≡◌, ◌%◌, ◌^◌, ◌∷◌, [], ◌&&◌, ◌||◌, ℕ, List, Bool, false, Option, None, Some, length, bytes_eq, string_bytes, if◌then◌else◌}
use Rattle.std.specs.FinMap as finite
use Rattle.std.specs.Int.Bits.{bit_or}
use Rattle.std.specs.List.{list_any}
use Rattle.fed_room_contract.specs.State.{StateKey, StateMap, with_entry}
use Rattle.fed_room_contract.specs.Tags.{tag_of_text}
use Rattle.fed_room_contract.specs.declared.change.Change.{Change}

-- the bit of a tag in a word of 64
abbrev pub bit_of : ℕ → ℕ
bit_of tag = 2 ^ (tag % 64)

-- a number by which most types and state keys are told apart
abbrev pub tag_of : List ℕ → List ℕ → ℕ
tag_of kind key = tag_of_text (length kind) key

-- the tag is that of the type and state key
abbrev pub IsTagged : Change → Type 0
IsTagged change = change.tag ≡ tag_of (string_bytes change.kind) (string_bytes change.state_key)

-- it is this change
pub record IsChangeOf (type own event : List ℕ) (stays : Bool) (change : Change) : Type 0 where
  pub kind : string_bytes change.kind ≡ type
  pub key : string_bytes change.state_key ≡ own
  pub id : change.id ≡ event
  pub holds : change.holds ≡ stays

abbrev pub key_of : Change → StateKey
key_of change = (string_bytes change.kind, string_bytes change.state_key)

-- it is one at this type and state key
abbrev pub is_change_at : List ℕ → List ℕ → Change → Bool
is_change_at kind key change = bytes_eq (string_bytes change.state_key) key && bytes_eq (string_bytes change.kind) kind

-- what a state with the change has at its type and state key
abbrev pub held_by : Change → Option (List ℕ)
held_by change = if change.holds then Some change.id else None

abbrev pub with_change : StateMap → Change → StateMap
with_change state change =
    if change.holds then with_entry state (string_bytes change.kind) (string_bytes change.state_key) change.id else finite.remove state (key_of change)

-- a state with changes, of which the first at a type and state key counts
abbrev pub with_changes : StateMap → List Change → StateMap
with_changes state [] = state
with_changes state (change ∷ changes) = with_change (with_changes state changes) change

-- it has what a state has at a type and state key
pub record IsHeldAt (state : StateMap) (own : StateKey) (change : Change) : Type 0 where
  pub key : key_of change ≡ own
  pub held : held_by change ≡ finite.get state own

-- the bits of a word, and those of the tags of changes
abbrev pub bits_with : ℕ → List Change → ℕ
bits_with bits [] = bits
bits_with bits (change ∷ changes) = bits_with (bit_or bits (bit_of change.tag)) changes

-- some change is at this type and state key
abbrev pub is_changed : List Change → StateKey → Bool
is_changed changes key = list_any (is_change_at key.0 key.1) changes

-- a state has entries where another one has, and where there are changes
pub record AreKeysBeyond (before : StateMap) (changes : List Change) (after : StateMap) : Type 0 where
  pub each : (key : StateKey) → finite.contains_key after key ≡ (finite.contains_key before key || is_changed changes key)

-- and where a third one has
pub record AreEntriesBeyond (before state after : StateMap) : Type 0 where
  pub each : (key : StateKey) → finite.contains_key after key ≡ (finite.contains_key before key || finite.contains_key state key)

-- no key is lost
abbrev pub HasMoreKeys : StateMap → StateMap → Type 0
HasMoreKeys before after = (key : StateKey) → finite.contains_key after key ≡ false → finite.contains_key before key ≡ false
