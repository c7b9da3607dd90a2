-- What is to be done for a destination, and what a turn comes to.
use Rattle.std.proofs.Common.{◌≡◌, nat_le, if◌then◌else◌, ℕ, Bool, true, false, List, Result, Ok, Err, Some, subst}
use Rattle.std.specs.Result.{IfOk}
use Rattle.std.specs.List.{slice_get}
use Rattle.std.specs.declared.alloc.AllocError.{AllocError}
use Rattle.fed_exchange.specs.Messages.{asked_of, bytes_sent}
use Rattle.fed_outbox.specs.Outbox.{OutboxState, cut}
use Rattle.fed_hub.specs.declared.sending.Act.{Act}
use Rattle.fed_hub.specs.declared.sending.Act.TheVariants.{Drain, Exchange, Pause, Idle}
use Rattle.fed_hub.specs.declared.collected.Collected.{Collected}
use Rattle.fed_hub.specs.declared.collected.Collected.TheVariants.{Moved, Nothing, Closed, Memory}
use Rattle.fed_hub.specs.declared.sending.Next.{Next}
use Rattle.fed_hub.specs.declared.sending.Turn.TheVariants.{Made}
use Rattle.fed_hub.specs.Held.{Held}
use Rattle.fed_hub.specs.Hub.{HubShape}
use Rattle.fed_hub.specs.Sending.{IsAsked, IsNext, IsNextAt, LastsSo, turn_of}

-- what is next for a hub, by its name and epoch
pub next_at : (hub : HubShape) (dest now : ℕ) (name own key : List ℕ) (sign : List ℕ → List ℕ) (epoch : ℕ) (old new : OutboxState) (told : Result Act AllocError) → slice_get hub.list dest ≡ Some name → own ≡ hub.name
    → epoch ≡ hub.epoch → new ≡ cut old now → IfOk told (λ act. IsNext (λ t. bytes_sent (asked_of own name epoch t) key sign) new now act) → IfOk told (λ act. IsNextAt hub dest now act)
next_at hub dest now name own key sign epoch old new (Err e) named own_is epoch_is new_is is = tt
next_at hub dest now name own key sign epoch old new (Ok act) named own_is epoch_is new_is is = record {
  outbox = old;
  name = name;
  key = key;
  sign = sign;
  named = named;
  next = subst (λ (x : List ℕ × (ℕ × OutboxState)). IsNext (λ t. bytes_sent (asked_of x.0 name x.1.0 t) key sign) x.1.1 now act) (λ i. (own_is i, (epoch_is i, new_is i))) is;
}

-- what is exchanged is asked by the hub
abbrev pub IsAskedBy : HubShape → ℕ → Act → Type 0
IsAskedBy hub dest Drain = Unit {0}
IsAskedBy hub dest (Exchange number request) = IsAsked hub dest number request.items
IsAskedBy hub dest (Pause until) = Unit {0}
IsAskedBy hub dest Idle = Unit {0}

pub asked_by : (hub : HubShape) (dest now : ℕ) (act : Act) → IsNextAt hub dest now act → IsAskedBy hub dest act
asked_by hub dest now Drain is = tt
asked_by hub dest now (Exchange number request) is = record {
  transaction = is.next.1.0;
  name = is.name;
  key = is.key;
  sign = is.sign;
  named = is.named;
  numbered = is.next.1.2;
  bytes = is.next.1.3;
}
asked_by hub dest now (Pause until) is = tt
asked_by hub dest now Idle is = tt

-- behind a collect nothing is told as drained
made_either : (b : Bool) (one other : Next) (held : Held) → LastsSo (if b then Made one else Made other) held
made_either true one other held = tt
made_either false one other held = tt

pub lasts_of : (told : Collected) (most : ℕ) (held : Held) → LastsSo (turn_of told most) held
lasts_of Moved most held = made_either (nat_le most 1) _ _ held
lasts_of Nothing most held = tt
lasts_of Closed most held = tt
lasts_of Memory most held = tt
