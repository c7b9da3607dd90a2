-- What contracts see of all that a client was told: the events and the ephemeral data units, each in order, and for how many more of each there
-- is room.
use Rattle.std.specs.Prelude.{ℕ, ◌-◌, List, [], ◌∷◌, ◌++◌, refl}
use Rattle.std.specs.Coded.{Coded, code_by, coded×, coded_ℕ, coded_list}
use Rattle.serde_json.specs.Data.{Data}
use Rattle.fed_json.specs.Code.{coded_data}
use Rattle.fed_room_contract.specs.Draft.{DraftFields, draft_code}
use Rattle.fed_hub_told.specs.declared.told_event.ToldEvent.{ToldEvent}
use Rattle.fed_hub_told.specs.declared.told_edu.ToldEdu.{ToldEdu}

pub record ToldState : Type 0 where
  pub events : List ToldEvent
  pub edus : List ToldEdu
  pub free_events : ℕ
  pub free_edus : ℕ

-- with one more, which takes of the room
abbrev pub with_event : ToldState → ToldEvent → ToldState
with_event told event = record { events = told.events ++ event ∷ []; edus = told.edus; free_events = told.free_events - 1; free_edus = told.free_edus }

abbrev pub with_edu : ToldState → ToldEdu → ToldState
with_edu told edu = record { events = told.events; edus = told.edus ++ edu ∷ []; free_events = told.free_events; free_edus = told.free_edus - 1 }

-- how they are stored where a contract keeps them
abbrev pub told_event_code : Coded ToldEvent
told_event_code =
    code_by (DraftFields × (ℕ × List ℕ)) (coded× draft_code (coded× coded_ℕ (coded_list coded_ℕ)))
    (λ t. (t.draft, (t.number, t.event_id))) (λ p. record { draft = p.0; number = p.1.0; event_id = p.1.1 }) (λ _. refl)

abbrev pub told_edu_code : Coded ToldEdu
told_edu_code =
    code_by (Data × (List ℕ × ℕ)) (coded× coded_data (coded× (coded_list coded_ℕ) coded_ℕ))
    (λ t. (t.edu, (t.dests, t.number))) (λ p. record { edu = p.0; dests = p.1.0; number = p.1.1 }) (λ _. refl)

abbrev pub told_code : Coded ToldState
told_code =
    code_by (List ToldEvent × (List ToldEdu × (ℕ × ℕ))) (coded× (coded_list told_event_code) (coded× (coded_list told_edu_code) (coded× coded_ℕ coded_ℕ)))
    (λ t. (t.events, (t.edus, (t.free_events, t.free_edus)))) (λ p. record { events = p.0; edus = p.1.0; free_events = p.1.1.0; free_edus = p.1.1.1 }) (λ _. refl)
