-- The rules of a table are such as every room relies on. It is a proof, and stands here since what an `impl` cites has to.
use Rattle.std.proofs.Common.{◌≡◌, ◌≤◌, ◌^◌, ℕ, List, [], ◌∷◌, filter, Option, Some, None, Bool, true, false, ◌&&◌, ◌||◌, cond, true≢false, nat_lt, refl, sym, ap, ◌∙◌, if◌then◌else◌, unwrap_or}
use Rattle.std.specs.Prelude.{pos}
use Rattle.std.proofs.Math.Nat.{le_trans}
use Rattle.std.proofs.lemmas.Bool.{ltb-false, le-leb}
use Rattle.fed_room_contract.specs.Draft.{DraftFields, Bears}
use Rattle.std.proofs.lemmas.Slice.Eq.{bytes_eq-Decides}
use Rattle.std.specs.FinMap as finite
use Rattle.std.specs.FinMap.{find}
use Rattle.std.specs.List.{list_any, list_all}
use Rattle.std.specs.Ordering.{eq_by_cmp}
use Rattle.std.specs.Str.{bytes_eq}
use Rattle.fed_event.specs.Event.{Event, event_in}
use Rattle.fed_room_contract.specs.Room.{version_of}
use Rattle.fed_event.specs.EventId.{event_id_of}
use Rattle.fed_room_contract.specs.declared.graph.Stored.{Stored}
use Rattle.fed_room_contract.specs.State.{StateKey, StateMap, key_cmp, entry_at}
use Rattle.fed_room_contract.specs.Graph.{is_stored, named_by, is_ready}
use Rattle.fed_room_contract.specs.Lawful.{NamesStored, AreLawful}
use Rattle.fed_room_contract.proofs.States.{key_cmp_total}
use Rattle.fed_room.specs.declared.table.Row.{Row}
use Rattle.fed_room.specs.Table.{TableState, keeping, is_named, before_in}
use Rattle.fed_room.specs.TableRoom.{rules_of}
use Rattle.fed_room.specs.Parts.{EventLinks, no_links, fields_of, with_state_key, parts_of}

-- the moment is less than 2 ^ 63
pub whole : (n : ℕ) → n ≤ 9007199254740991 → unwrap_or (if nat_lt n (2 ^ 63) then Some (pos n) else None) (pos 0) ≡ pos n
whole n h = by (nat_lt n (2 ^ 63)) refl
  where
    by : (b : Bool) → nat_lt n (2 ^ 63) ≡ b → unwrap_or (if b then Some (pos n) else None) (pos 0) ≡ pos n
    by true t = refl
    by false f = absurd (true≢false (sym (le-leb (2 ^ 63) 9007199254740991 (le_trans (ltb-false n (2 ^ 63) f) h))))

bear : (key : Option (List ℕ)) (links : EventLinks) (draft : DraftFields) → draft.at_ms ≤ 9007199254740991 → key ≡ draft.state_key → Bears draft (event_in links.version (with_state_key key (fields_of links draft)))
bear None links draft h e = record { room = refl; sender = refl; kind = refl; state_key = e; content = refl; at_ms = whole draft.at_ms h }
bear (Some key) links draft h e = record { room = refl; sender = refl; kind = refl; state_key = e; content = refl; at_ms = whole draft.at_ms h }

pub parts_bear : (links : EventLinks) (draft : DraftFields) → draft.at_ms ≤ 9007199254740991 → Bears draft (parts_of links draft)
parts_bear links draft h = bear draft.state_key links draft h refl

-- ---- states of stored events

first_passes : (passes : List ℕ → Bool) (same : Bool) (v : List ℕ) (rest : Option (List ℕ)) (id : List ℕ) → passes v ≡ true → cond same (Some v) rest ≡ Some id → (rest ≡ Some id → passes id ≡ true) → passes id ≡ true
first_passes passes true v rest id t h later = let same : v ≡ id = cc in ap passes (sym same) ∙ t
first_passes passes false v rest id t h later = later h

found_passes : (passes : List ℕ → Bool) (es : List (StateKey × List ℕ)) (key : StateKey) (id : List ℕ) → find key_cmp key (filter (λ e. passes e.1) es) ≡ Some id → passes id ≡ true
found_passes passes [] key id h = absurd (cc)
found_passes passes (e ∷ es) key id h = by (passes e.1) refl h (found_passes passes es key id)
  where
    by : (b : Bool) → passes e.1 ≡ b → find key_cmp key (cond b (e ∷ filter (λ e. passes e.1) es) (filter (λ e. passes e.1) es)) ≡ Some id
        → (find key_cmp key (filter (λ e. passes e.1) es) ≡ Some id → passes id ≡ true) → passes id ≡ true
    by true t h later = first_passes passes (eq_by_cmp key_cmp key e.0) e.1 _ id t h later
    by false t h later = later h

pub kept_passes : (passes : List ℕ → Bool) (state : StateMap) (kind key id : List ℕ) → entry_at (keeping passes state) kind key ≡ Some id → passes id ≡ true
kept_passes passes state kind key id h =
    found_passes passes (finite.entries state) (kind, key) id (sym (finite.get-from_entries key_cmp_total (filter (λ e. passes e.1) (finite.entries state)) (kind, key)) ∙ h)

named_stored : (events : List Stored) (ids : List (List ℕ)) (id : List ℕ) → list_all (is_stored events) ids ≡ true → list_any (λ named. bytes_eq named id) ids ≡ true → is_stored events id ≡ true
named_stored events [] id all any = absurd (true≢false (sym any))
named_stored events (i ∷ ids) id all any = by (is_stored events i) refl all (bytes_eq i id) refl any (named_stored events ids id)
  where
    by : (s : Bool) → is_stored events i ≡ s → (s && list_all (is_stored events) ids) ≡ true → (b : Bool) → bytes_eq i id ≡ b → (b || list_any (λ named. bytes_eq named id) ids) ≡ true
        → (list_all (is_stored events) ids ≡ true → list_any (λ named. bytes_eq named id) ids ≡ true → is_stored events id ≡ true) → is_stored events id ≡ true
    by true stored all true same any later = ap (is_stored events) (sym ((bytes_eq-Decides i id).0 same)) ∙ stored
    by true stored all false same any later = later all any
    by false stored all b same any later = absurd (true≢false (sym all))

pub before_stored : (events : List Stored) (event : Event) (row : Option Row) → is_ready events event ≡ true → NamesStored events (before_in row event)
before_stored events event None ready kind key id h = let none = finite.get-empty {X = List ℕ} key_cmp (kind, key) in absurd (cc)
before_stored events event (Some row) ready kind key id h = named_stored events (named_by event) id ready (kept_passes (is_named event) row.before kind key id h)

pub table_lawful : (table : TableState) → AreLawful (rules_of table)
table_lawful table = record {
  stays = λ events more event graph ready. refl;
  before = λ events event graph ready. before_stored events event (finite.get table.rows (event_id_of event)) ready;
  current = λ events graph. kept_passes (is_stored events) table.current;
  bears = λ events draft moment. parts_bear (no_links (version_of events)) draft moment;
}
