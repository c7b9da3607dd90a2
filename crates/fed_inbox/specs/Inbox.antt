-- The state of an inbox: the server's name, the rooms that it knows, and a log for each server that it takes from.
use Rattle.std.specs.Prelude.{ℕ, List, [], ◌∷◌, refl, map, filter, find, Option, Some, None, Bool, not, if◌then◌else◌}
use Rattle.std.specs.Str.{bytes_eq}
use Rattle.std.specs.Coded.{Coded, code_by, coded×, coded_ℕ, coded_list}
use Rattle.fed_event.specs.Checked.{CheckedEvent, checked_code}
use Rattle.fed_replies.specs.Kept.{KeptReplies, replies_of}
use Rattle.fed_inbox.specs.Rooms.{room_set}
use Rattle.fed_inbox.specs.Log.{LogState, log_code}

pub record InboxState : Type 0 where
  pub own : List ℕ
  pub rooms : List (List ℕ)
  pub logs : List LogState

abbrev pub inbox_code : Coded InboxState
inbox_code =
    code_by (List ℕ × (List (List ℕ) × List LogState))
    (coded× (coded_list coded_ℕ) (coded× (coded_list (coded_list coded_ℕ)) (coded_list log_code)))
    (λ s. (s.own, (s.rooms, s.logs)))
    (λ p. record { own = p.0; rooms = p.1.0; logs = p.1.1 })
    (λ _. refl)

-- the state, and the events that the newest answer took for the rooms and that are not handed out yet
pub record Held : Type 0 where
  pub state : InboxState
  pub fresh : List CheckedEvent

abbrev pub held_code : Coded Held
held_code = code_by (InboxState × List CheckedEvent) (coded× inbox_code (coded_list checked_code)) (λ h. (h.state, h.fresh)) (λ p. record { state = p.0; fresh = p.1 }) (λ _. refl)

-- the log of an origin that nothing was taken from, with the replies that are kept for it
abbrev pub new_log : KeptReplies → List ℕ → LogState
new_log kept origin = record { origin = origin; replies = replies_of kept origin; pdus = []; edus = [] }

abbrev pub is_of : List ℕ → LogState → Bool
is_of origin log = bytes_eq log.origin origin

-- the log of this origin
abbrev pub log_at : List ℕ → List LogState → Option LogState
log_at origin logs = find (is_of origin) logs

-- the logs, with this one in the place of that of the origin
abbrev pub with_log : List ℕ → List LogState → LogState → List LogState
with_log origin [] log = []
with_log origin (l ∷ logs) log = if is_of origin l then log ∷ logs else l ∷ with_log origin logs log

-- a log for each of these servers but `own`, from which nothing was taken
abbrev pub logs_for : KeptReplies → List ℕ → List (List ℕ) → List LogState
logs_for kept own servers = map (new_log kept) (filter (λ server. not (bytes_eq server own)) servers)

-- an inbox that nothing came to, and the replies that are kept from before
abbrev pub new_inbox : KeptReplies → List ℕ → List (List ℕ) → List (List ℕ) → InboxState
new_inbox kept own servers rooms = record { own = own; rooms = room_set rooms; logs = logs_for kept own servers }

abbrev pub new_held : KeptReplies → List ℕ → List (List ℕ) → List (List ℕ) → Held
new_held kept own servers rooms = record { state = new_inbox kept own servers rooms; fresh = [] }

-- the texts taken from an origin, in order: none from a server that is not listed
abbrev pub pdus_by : Option LogState → List (List ℕ)
pdus_by None = []
pdus_by (Some log) = log.pdus

abbrev pub edus_by : Option LogState → List (List ℕ)
edus_by None = []
edus_by (Some log) = log.edus

abbrev pub taken_of : InboxState → List ℕ → List (List ℕ)
taken_of inbox origin = pdus_by (log_at origin inbox.logs)

abbrev pub taken_edus_of : InboxState → List ℕ → List (List ℕ)
taken_edus_of inbox origin = edus_by (log_at origin inbox.logs)
