-- The names of what was opened, and of a setup, are those of a hub of them.
use Rattle.std.proofs.Common.{◌≡◌, ℕ, List, length, refl, Option, None, Some}
use Rattle.std.specs.FinMap as finite
use Rattle.std.specs.Option.{IfSome}
use Rattle.fed_dest.specs.List.{place_of}
use Rattle.fed_inbox.specs.Inbox.{new_inbox}
use Rattle.fed_inbox.specs.Receiver.{new_receiver}
use Rattle.fed_keys.specs.Keys.{Checks}
use Rattle.fed_hub.specs.Named.{AreNamesOf}
use Rattle.fed_hub.specs.Names.{Names}

pub named : (server : List ℕ) (list ids : List (List ℕ)) (checks : Checks) (opened : Names) (own : ℕ) → length opened.wires ≡ length list → IfSome (place_of list server) (λ place. own ≡ place)
    → length opened.rooms ≡ length ids
    → AreNamesOf server list ids checks opened opened.wires own opened.board opened.events opened.edus opened.parts ids opened.rooms checks (new_receiver server list ids) (new_inbox finite.empty server list ids)
named server list ids checks opened own each at rooms = record {
  same_wires = refl;
  for_each_server = each;
  own_place = at;
  same_board = refl;
  same_events = refl;
  same_edus = refl;
  same_parts = refl;
  same_rooms = refl;
  for_each_room = rooms;
  same_ids = refl;
  same_checks = refl;
  reception = record { receives = refl; begins = refl };
}

-- a place, or 0 where there is none
abbrev pub place_or_first : Option ℕ → ℕ
place_or_first None = 0
place_or_first (Some place) = place

pub is_place : (place : Option ℕ) → IfSome place (λ it. place_or_first place ≡ it)
is_place None = tt
is_place (Some place) = refl
