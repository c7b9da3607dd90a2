-- What a server needs to receive a transaction, apart from what it took and answered: its name, the listed servers and the rooms that it knows.
use Rattle.std.specs.Prelude.{◌≡◌, ℕ, List, refl, map, filter, not}
use Rattle.std.specs.Str.{bytes_eq}
use Rattle.std.specs.Coded.{Coded, code_by, coded×, coded_ℕ, coded_list}
use Rattle.fed_inbox.specs.Rooms.{room_set}
use Rattle.fed_inbox.specs.Log.{LogState}
use Rattle.fed_inbox.specs.Inbox.{InboxState}

pub record ReceiverState : Type 0 where
  pub own : List ℕ
  pub servers : List (List ℕ)
  pub rooms : List (List ℕ)

abbrev pub receiver_code : Coded ReceiverState
receiver_code =
    code_by (List ℕ × (List (List ℕ) × List (List ℕ)))
    (coded× (coded_list coded_ℕ) (coded× (coded_list (coded_list coded_ℕ)) (coded_list (coded_list coded_ℕ))))
    (λ r. (r.own, (r.servers, r.rooms)))
    (λ p. record { own = p.0; servers = p.1.0; rooms = p.1.1 })
    (λ _. refl)

abbrev pub new_receiver : List ℕ → List (List ℕ) → List (List ℕ) → ReceiverState
new_receiver own servers rooms = record { own = own; servers = servers; rooms = room_set rooms }

-- the servers of a list but one
abbrev pub others_of : List ℕ → List (List ℕ) → List (List ℕ)
others_of own servers = filter (λ server. not (bytes_eq server own)) servers

abbrev pub origin_in : LogState → List ℕ
origin_in log = log.origin

-- an inbox of this server: it has the name and the rooms, and a log for each listed server but its own
pub record IsInboxOf (r : ReceiverState) (inbox : InboxState) : Type 0 where
  pub own : inbox.own ≡ r.own
  pub rooms : inbox.rooms ≡ r.rooms
  pub origins : map origin_in inbox.logs ≡ others_of r.own r.servers
