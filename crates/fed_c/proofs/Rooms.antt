-- The answer that is made of the events of a room, the rejected ones and some states: each in turn, and the first refusal.
use Rattle.std.proofs.Common.{◌≡◌, ℕ, List, map, Result, Ok, Err, sym, ap, ◌∙◌}
use Rattle.std.specs.FinMap as finite
use Rattle.serde_json.specs.Data.{Data, string, array, no_items}
use Rattle.fed_json.specs.CanonicalText.{canonical_text}
use Rattle.fed_redaction.specs.declared.version.Version.{Version}
use Rattle.fed_room_contract.specs.declared.graph.Stored.{Stored}
use Rattle.fed_room_contract.specs.declared.entry.Entry.{Entry}
use Rattle.fed_room_contract.specs.Entry.{seen}
use Rattle.fed_room_contract.specs.State.{StateKey, StateMap}
use Rattle.fed_resolve.specs.Resolution.{resolved_of}
use Rattle.fed_c.specs.declared.status.Status.{Status}
use Rattle.fed_c.specs.Results.{and_then}
use Rattle.fed_c.specs.ListParts.{with_items}
use Rattle.fed_c.specs.Ids.{ids_in}
use Rattle.fed_c.specs.History.{history_in}
use Rattle.fed_c.specs.States.{states_in}
use Rattle.fed_c.specs.Resolution.{ids_value, resolved_answer}
use Rattle.fed_c.proofs.ListedItems.{all_listed}

-- one step of an answer
then_ok : {X Y : Type 0} (r : Result X Status) (x : X) (f : X → Result Y Status) → r ≡ Ok x → and_then r f ≡ f x
then_ok r x f e = ap (λ s. and_then s f) e

then_err : {X Y : Type 0} (r : Result X Status) (why : Status) (f : X → Result Y Status) → r ≡ Err why → and_then r f ≡ Err why
then_err r why f e = ap (λ s. and_then s f) e

module _ (version : Version) (events rejected states : Result Data Status) where
  abbrev by_states : List Stored → List StateMap → Result (List ℕ) Status
  by_states stored held = Ok (canonical_text (ids_value (resolved_of stored held)))

  abbrev by_history : List Stored → Result (List ℕ) Status
  by_history stored = and_then (and_then states (states_in stored)) (by_states stored)

  abbrev by_rejected : Data → Result (List ℕ) Status
  by_rejected ids = and_then (history_in version ids events) by_history

  pub resolved_gives : (ids : Data) (stored : List Stored) (held : List StateMap)
      → and_then rejected ids_in ≡ Ok ids → history_in version ids events ≡ Ok stored → and_then states (states_in stored) ≡ Ok held
      → resolved_answer version events rejected states ≡ Ok (canonical_text (ids_value (resolved_of stored held)))
  resolved_gives ids stored held r e s = then_ok _ ids by_rejected r ∙ then_ok _ stored by_history e ∙ then_ok _ held (by_states stored) s

  pub resolved_no_ids : (why : Status) → and_then rejected ids_in ≡ Err why → resolved_answer version events rejected states ≡ Err why
  resolved_no_ids why r = then_err _ why by_rejected r

  pub resolved_no_events : (ids : Data) (why : Status) → and_then rejected ids_in ≡ Ok ids → history_in version ids events ≡ Err why → resolved_answer version events rejected states ≡ Err why
  resolved_no_events ids why r e = then_ok _ ids by_rejected r ∙ then_err _ why by_history e

  pub resolved_no_states : (ids : Data) (stored : List Stored) (why : Status) → and_then rejected ids_in ≡ Ok ids → history_in version ids events ≡ Ok stored
      → and_then states (states_in stored) ≡ Err why → resolved_answer version events rejected states ≡ Err why
  resolved_no_states ids stored why r e s = then_ok _ ids by_rejected r ∙ then_ok _ stored by_history e ∙ then_err _ why (by_states stored) s

-- ---- the ids of a state, added one after another

abbrev id_value : StateKey × List ℕ → Data
id_value entry = string entry.1

pub ids_listed : (state : StateMap) (list : Data) (entries : List Entry) → list ≡ array no_items → map seen entries ≡ finite.entries state
    → ids_value state ≡ with_items list (map (λ (entry : StateKey × List ℕ). string entry.1) (map seen entries))
ids_listed state list entries is whole =
    sym (all_listed (map id_value (finite.entries state))) ∙ ap (λ es. with_items (array no_items) (map id_value es)) (sym whole) ∙ ap (λ l. with_items l (map id_value (map seen entries))) (sym is)
