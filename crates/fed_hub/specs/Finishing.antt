-- Why a hub is not at its end, with some tokens.
use Rattle.std.specs.Prelude.{◌≡◌, ◌⊎◌, ⊤, Bool, true, false, Result, Ok, Err, IfErr}
use Rattle.fed_hub.specs.declared.faults.FinishFault.{FinishFault}
use Rattle.fed_hub.specs.declared.faults.FinishFault.TheVariants.{Memory, Missing, NotShutDown, Unequal}

-- its tokens were counted: one of them is missing, or none is and there are too many, or they are as many of each kind as it gave
pub record IsCounted (none_missing all : Type 0) (told : Result ⊤ FinishFault) : Type 0 where
  pub equal : told ≡ Ok tt → all
  pub fewer : told ≡ Err Missing → ¬ none_missing
  pub more : told ≡ Err Unequal → none_missing × ¬ all
  pub others : IfErr told (λ fault. (fault ≡ Missing) ⊎ (fault ≡ Unequal))

-- the first reason, which is told without memory: it is not shut down, or what came of the count of its tokens
abbrev pub first_fault : Bool → Result ⊤ FinishFault → Result ⊤ FinishFault
first_fault false counted = Err NotShutDown
first_fault true counted = counted

-- a fault is the first one, or memory ran out behind it, where there is none
abbrev pub IsFirst : Result ⊤ FinishFault → FinishFault → Type 0
IsFirst counted fault = (fault ≡ NotShutDown) ⊎ ((counted ≡ Err fault) ⊎ ((fault ≡ Memory) × (counted ≡ Ok tt)))

-- A token is missing where that is told, and none is where a fault is told that stands behind it. Where memory ran out there are not too many either.
pub record IsInTurn (none_missing all : Type 0) (fault : FinishFault) : Type 0 where
  pub missing : fault ≡ Missing → ¬ none_missing
  pub behind : (fault ≡ Unequal) ⊎ (fault ≡ Memory) → none_missing
  pub memory : fault ≡ Memory → all

-- what was compared fits, or is told not to, or memory ran out
pub record IsCompared (fits : Type 0) (told : Result ⊤ FinishFault) : Type 0 where
  pub equal : told ≡ Ok tt → fits
  pub unequal : told ≡ Err Unequal → ¬ fits
  pub others : IfErr told (λ fault. (fault ≡ Unequal) ⊎ (fault ≡ Memory))
