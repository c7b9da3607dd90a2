-- What a user wants to send (Matrix, room version 10, "Event format").
use Rattle.std.specs.Prelude.{◌≡◌, ℕ, pos, List, Option, refl}
use Rattle.std.specs.Coded.{Coded, code_by, coded×, coded_ℕ, coded_list, coded_option}
use Rattle.serde_json.specs.Data.{Data}
use Rattle.fed_json.specs.Code.{coded_data}
use Rattle.fed_event.specs.Event.{Event}
use Rattle.fed_event.specs.Fields.{content_of, kind_of, origin_server_ts_of, room_id_of, sender_of, state_key_of}

pub record DraftFields : Type 0 where
  pub room : List ℕ
  pub sender : List ℕ
  pub kind : List ℕ
  pub state_key : Option (List ℕ)
  pub content : Data
  pub at_ms : ℕ

abbrev text : Coded (List ℕ)
text = coded_list coded_ℕ

abbrev pub draft_code : Coded DraftFields
draft_code =
    code_by (List ℕ × (List ℕ × (List ℕ × (Option (List ℕ) × (Data × ℕ)))))
    (coded× text (coded× text (coded× text (coded× (coded_option text) (coded× coded_data coded_ℕ)))))
    (λ d. (d.room, (d.sender, (d.kind, (d.state_key, (d.content, d.at_ms))))))
    (λ p. record { room = p.0; sender = p.1.0; kind = p.1.1.0; state_key = p.1.1.1.0; content = p.1.1.1.1.0; at_ms = p.1.1.1.1.1 })
    (λ _. refl)

-- an event has the fields of the draft
pub record Bears (draft : DraftFields) (event : Event) : Type 0 where
  pub room : room_id_of event ≡ draft.room
  pub sender : sender_of event ≡ draft.sender
  pub kind : kind_of event ≡ draft.kind
  pub state_key : state_key_of event ≡ draft.state_key
  pub content : content_of event ≡ draft.content
  pub at_ms : origin_server_ts_of event ≡ pos draft.at_ms
