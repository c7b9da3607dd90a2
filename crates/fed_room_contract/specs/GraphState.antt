-- What contracts see of a `Graph`: the stored events, and the id of the event for which room was made.
use Rattle.std.specs.Prelude.{ℕ, List, [], ◌∷◌, ◌++◌, Option, Some, None, refl}
use Rattle.std.specs.Coded.{Coded, code_by, coded×, coded_ℕ, coded_list, coded_option}
use Rattle.fed_event.specs.Checked.{CheckedEvent, checked_code}
use Rattle.fed_room_contract.specs.declared.verdict.Verdict.{Verdict}
use Rattle.fed_room_contract.specs.declared.graph.Stored.{Stored}
use Rattle.fed_room_contract.specs.Verdict.{verdict_code}

abbrev pub stored_code : Coded Stored
stored_code = code_by (CheckedEvent × Verdict) (coded× checked_code verdict_code) (λ s. (s.event, s.verdict)) (λ p. record { event = p.0; verdict = p.1 }) (λ _. refl)

pub record GraphState : Type 0 where
  pub stored : List Stored
  pub reserved : Option (List ℕ)

abbrev pub graph_code : Coded GraphState
graph_code = code_by (List Stored × Option (List ℕ)) (coded× (coded_list stored_code) (coded_option (coded_list coded_ℕ))) (λ g. (g.stored, g.reserved)) (λ p. record { stored = p.0; reserved = p.1 }) (λ _. refl)

-- one more event is stored, which takes the room that was made
abbrev pub with_event : GraphState → Stored → GraphState
with_event graph event = record { stored = graph.stored ++ event ∷ []; reserved = None }

-- room is made for the event of this id
abbrev pub with_room : GraphState → List ℕ → GraphState
with_room graph id = record { stored = graph.stored; reserved = Some id }
