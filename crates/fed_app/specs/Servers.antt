-- Texts that make a list of servers.
use Rattle.std.specs.Prelude.{◌≡◌, ◌≤◌, ℕ, List, [], ◌∷◌, ◌++◌, All, length, fold, bytes_eq, if◌then◌else◌}
use Rattle.std.specs.List.{list_any}
use Rattle.fed_dest.specs.ServerName.{IsServerName}
use Rattle.fed_dest.specs.declared.server_name.NameFault.{NameFault}
use Rattle.fed_dest.specs.declared.server_name.NameFault.TheVariants as name
use Rattle.fed_app.specs.declared.setup.SetupFault.{SetupFault}
use Rattle.fed_app.specs.declared.setup.SetupFault.TheVariants.{Memory, BadServers}

-- names with this one too, where it is not among them
abbrev pub with_name : List (List ℕ) → List ℕ → List (List ℕ)
with_name names name = if list_any (λ other. bytes_eq other name) names then names else names ++ name ∷ []

-- the own name and the given ones, each once
abbrev pub each_once : List ℕ → List (List ℕ) → List (List ℕ)
each_once own names = fold with_name (own ∷ []) names

-- each is a server name, and they are at most 64 different ones
pub record AreServers (own : List ℕ) (names : List (List ℕ)) : Type 0 where
  pub own_name : IsServerName own
  pub each : All IsServerName names
  pub most : length (each_once own names) ≤ 64

abbrev pub IsFaultOfName : NameFault → SetupFault → Type 0
IsFaultOfName name.Memory fault = fault ≡ Memory
IsFaultOfName name.BadName fault = fault ≡ BadServers
