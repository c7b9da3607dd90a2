-- Events that are added one after another are those of all values, or of all ids, at once.
use Rattle.std.proofs.Common.{◌≡◌, ℕ, List, [], ◌∷◌, ◌++◌, map, Bool, true, false, is_some, if◌then◌else◌, Option, Some, None, Ok, Err, refl, sym, ap, ◌∙◌, append_assoc}
use Rattle.std.proofs.lemmas.List.{append-nil}
use Rattle.std.specs.List.{list_all}
use Rattle.serde_json.specs.Data.{Data}
use Rattle.fed_redaction.specs.declared.version.Version.{Version}
use Rattle.fed_room_contract.specs.declared.graph.Stored.{Stored}
use Rattle.fed_room_contract.specs.Graph.{stored_at}
use Rattle.fed_auth.specs.AuthState.{stored_of}
use Rattle.fed_c.specs.declared.status.Status.TheVariants.{BadEvents, MissingEvents}
use Rattle.fed_c.specs.History.{is_event, taken, stored_as}
use Rattle.fed_c.specs.AuthEvents.{named}
use Rattle.fed_c.specs.StoredEvents.{stored_events_of}
use Rattle.fed_c.specs.StoredEventsParts.{with_stored_events, with_named}

module _ (version : Version) (rejected : Data) where
  abbrev kept : Data → Stored
  kept value = stored_as rejected (taken version value)

  abbrev IsWhole : List Stored → List Data → Type 0
  IsWhole before values = with_stored_events version rejected before values ≡ (if list_all (is_event version) values then Ok (before ++ map kept values) else Err BadEvents)

  one_more : (before : List Stored) (value : Data) (values : List Data) (b : Bool) → is_event version value ≡ b → IsWhole (before ++ kept value ∷ []) values → IsWhole before (value ∷ values)
  one_more before value values false e rest = rw e refl
  one_more before value values true e rest =
      rw e (rest ∙ ap (λ events. if list_all (is_event version) values then Ok events else Err BadEvents) (append_assoc before (kept value ∷ []) (map kept values)))

  whole : (before : List Stored) (values : List Data) → IsWhole before values
  whole before [] = ap Ok (sym (append-nil before))
  whole before (value ∷ values) = one_more before value values (is_event version value) refl (whole (before ++ kept value ∷ []) values)

  pub added_at_once : (values : List Data) → with_stored_events version rejected [] values ≡ stored_events_of version rejected values
  added_at_once values = whole [] values

module _ (given : List Stored) where
  abbrev all_given : List (List ℕ) → Bool
  all_given ids = list_all (λ id. is_some (stored_at given id)) ids

  abbrev AreNamed : List Stored → List (List ℕ) → Type 0
  AreNamed before ids = with_named given before ids ≡ (if all_given ids then Ok (before ++ stored_of given ids) else Err MissingEvents)

  one_named : (before : List Stored) (id : List ℕ) (ids : List (List ℕ)) (o : Option Stored) → stored_at given id ≡ o
      → ((auth : Stored) → AreNamed (before ++ auth ∷ []) ids) → AreNamed before (id ∷ ids)
  one_named before id ids None e rest = rw e refl
  one_named before id ids (Some auth) e rest =
      rw e (rest auth ∙ ap (λ events. if all_given ids then Ok events else Err MissingEvents) (append_assoc before (auth ∷ []) (stored_of given ids)))

  all_named : (before : List Stored) (ids : List (List ℕ)) → AreNamed before ids
  all_named before [] = ap Ok (sym (append-nil before))
  all_named before (id ∷ ids) = one_named before id ids (stored_at given id) refl (λ auth. all_named (before ++ auth ∷ []) ids)

  pub named_at_once : (ids : List (List ℕ)) → with_named given [] ids ≡ named given ids
  named_at_once ids = all_named [] ids
