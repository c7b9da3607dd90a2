-- Tokens of a hub, by equal counts.
use Rattle.std.proofs.Common.{◌≡◌, ℕ, List, subst}
use Rattle.fed_hub_rooms.specs.RoomHeld.{RoomHeld}
use Rattle.fed_hub_serving.specs.Answered.{AnsweredValue}
use Rattle.fed_hub_told.specs.Told.{ToldState}
use Rattle.fed_wires.specs.Board.{BoardId}
use Rattle.fed_wires.specs.Seat.{Seated}
use Rattle.fed_hub.specs.Held.{Held}
use Rattle.fed_hub.specs.Tokens.{AreTokensOf}

pub tokens_so : (parts parts' : ℕ) (board : BoardId) (reading reading' listed own own' wired serving serving' : ℕ) (clients : List ToldState) (readers : List Seated) (senders : List Held) (rooms : List RoomHeld) (servers : List (List AnsweredValue))
    → parts ≡ parts' → reading ≡ reading' → own ≡ own' → serving ≡ serving'
    → AreTokensOf parts board reading listed own wired serving clients readers senders rooms servers → AreTokensOf parts' board reading' listed own' wired serving' clients readers senders rooms servers
tokens_so parts parts' board reading reading' listed own own' wired serving serving' clients readers senders rooms servers p r o s are =
    subst (λ n. AreTokensOf parts' board reading' listed own' wired n clients readers senders rooms servers) s
    (subst (λ n. AreTokensOf parts' board reading' listed n wired serving clients readers senders rooms servers) o
    (subst (λ n. AreTokensOf parts' board n listed own wired serving clients readers senders rooms servers) r
    (subst (λ n. AreTokensOf n board reading listed own wired serving clients readers senders rooms servers) p are)))
