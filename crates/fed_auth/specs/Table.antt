-- Tables of authorization rules: the first rule whose condition holds decides, and its column says whether it allows the event or
-- rejects it (Matrix, room version 10, "Authorization rules").
use Rattle.std.specs.Prelude.{ℕ, List, [], ◌∷◌, Bool, ⊤, Result, Ok, Err, if◌then◌else◌}
use Rattle.fed_room_contract.specs.declared.rule.Rule.{Rule}

-- the rule with this number; a condition or a branch that is 0 is none
abbrev pub rule : ℕ → ℕ → ℕ → Rule
rule section condition branch = record { section = section; condition = condition; branch = branch }

-- a rule: where it holds, this is the outcome
pub record Row : Type 0 where
  pub holds : Bool
  pub outcome : Result ⊤ Rule

abbrev pub allow : Rule → Bool → Row
allow number holds = record { holds = holds; outcome = Ok tt }

abbrev pub reject : Rule → Bool → Row
reject number holds = record { holds = holds; outcome = Err number }

-- it allows exactly where `allows` does
abbrev pub exactly : Rule → Bool → Bool → Row
exactly number holds allows = record { holds = holds; outcome = if allows then Ok tt else Err number }

-- what the first row that holds says; an event that no row speaks of is allowed
abbrev pub decide : List Row → Result ⊤ Rule
decide [] = Ok tt
decide (row ∷ rows) = if row.holds then row.outcome else decide rows

-- a rule that is a table of its own
abbrev pub within : Bool → List Row → Row
within holds rows = record { holds = holds; outcome = decide rows }
