-- The names of the servers of a script.
use Rattle.std.proofs.Common.{◌≡◌, ◌<◌, ℕ, List, length, get_or, Result, Err, refl, sym, subst}
use Rattle.std.proofs.lemmas.List.Elements.{All-get_or}
use Rattle.fed_dest.specs.ServerName.{IsServerName}
use Rattle.fed_dest.specs.declared.server_name.NameFault.{NameFault}
use Rattle.fed_dest.specs.declared.server_name.NameFault.TheVariants as name
use Rattle.fed_sim.specs.ScriptFaults.{fault_of_name}
use Rattle.fed_sim.specs.ScriptReadings.{AreNoNames}

-- a word that is no name, or want of memory
pub no_name : (words : List (List ℕ)) (word : List ℕ) (k : ℕ) → k < length words → word ≡ get_or words k word → (fault : NameFault)
    → (◌≡◌ {A = Result (List ℕ) NameFault} (Err fault) (Err name.BadName) → ¬ (IsServerName word)) → AreNoNames words (fault_of_name fault)
no_name words word k within at name.Memory bad = tt
no_name words word k within at name.BadName bad = (refl, λ all. bad refl (subst IsServerName (sym at) (All-get_or IsServerName words k word within all)))
