-- Events of a state that are added one after another are those of all values at once.
use Rattle.std.proofs.Common.{◌≡◌, List, [], ◌∷◌, ◌++◌, map, Bool, true, false, if◌then◌else◌, Ok, Err, refl, sym, ap, ◌∙◌, append_assoc}
use Rattle.std.proofs.lemmas.List.{append-nil}
use Rattle.std.specs.List.{list_all}
use Rattle.serde_json.specs.Data.{Data}
use Rattle.fed_redaction.specs.declared.version.Version.{Version}
use Rattle.fed_event.specs.Event.{Event}
use Rattle.fed_c.specs.declared.status.Status.TheVariants.{BadEvents}
use Rattle.fed_c.specs.History.{is_event, taken}
use Rattle.fed_c.specs.StateEvents.{state_events_of}
use Rattle.fed_c.specs.StateEventsParts.{with_state_events}

module _ (version : Version) where
  abbrev all_kept : List Data → List Event
  all_kept values = map (λ value. (taken version value).event) values

  abbrev IsWhole : List Event → List Data → Type 0
  IsWhole before values = with_state_events version before values ≡ (if list_all (is_event version) values then Ok (before ++ all_kept values) else Err BadEvents)

  one_more : (before : List Event) (value : Data) (values : List Data) (b : Bool) → is_event version value ≡ b → IsWhole (before ++ (taken version value).event ∷ []) values
      → IsWhole before (value ∷ values)
  one_more before value values false e rest = rw e refl
  one_more before value values true e rest =
      rw e (rest ∙ ap (λ events. if list_all (is_event version) values then Ok events else Err BadEvents) (append_assoc before ((taken version value).event ∷ []) (all_kept values)))

  whole : (before : List Event) (values : List Data) → IsWhole before values
  whole before [] = ap Ok (sym (append-nil before))
  whole before (value ∷ values) = one_more before value values (is_event version value) refl (whole (before ++ (taken version value).event ∷ []) values)

  pub added_at_once : (values : List Data) → with_state_events version [] values ≡ state_events_of version values
  added_at_once values = whole [] values
