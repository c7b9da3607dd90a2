-- What is wrong with a command, by what its words could not be made.
use Rattle.std.proofs.Common.{◌≡◌, ◌==◌, ℕ, length, true, List, [], Option, Some, None, IsSome, is_some, false, Result, Ok, Err, refl, sym, ap, subst, ◌∙◌}
use Rattle.std.proofs.lemmas.List.{nil_from_length}
use Rattle.std.proofs.lemmas.Bool.Decides.{Decides-eqb}
use Rattle.std.specs.List.{All}
use Rattle.std.specs.List.Sorted.{IsPermutation}
use Rattle.fed_dest.specs.ListParts.{AreInOrder}
use Rattle.fed_dest.specs.ServerName.{IsServerName}
use Rattle.fed_dest.specs.List.{list_fault}
use Rattle.fed_dest.specs.declared.list.ListFault.{ListFault}
use Rattle.fed_sim.specs.Script.{Said, servers, step, Says, servers_first, IsWrong, no_names, no_list, no_step}
use Rattle.fed_sim.specs.ScriptFaults.{fault_of_setup, HasStepFault}
use Rattle.fed_sim.specs.ScriptReadings.{AreNoNames, IsWrongThere}
use Rattle.fed_sim.specs.ScriptSteps.{StepText}
use Rattle.fed_sim.specs.declared.script.faults.LineFault.{LineFault}
use Rattle.fed_sim.specs.declared.script.faults.LineFault.TheVariants.{Memory, Wrong}
use Rattle.fed_sim.specs.declared.script.faults.ScriptError.{ScriptError}
use Rattle.fed_sim.specs.declared.setup.SimFault.{SimFault}
use Rattle.fed_sim.specs.declared.setup.SimFault.TheVariants as setup

pub wrong_names : (said : Said) (words : List (List ℕ)) (fault : LineFault) → AreNoNames words fault → IsWrongThere said (servers words) fault
wrong_names said words Memory none = tt
wrong_names said words (Wrong fault) (same, none) = let P : ScriptError → Type 0 = λ e. IsWrong said (servers words) e in subst P (sym same) (no_names words none)

pub wrong_list : (said : Said) (words names : List (List ℕ)) → names ≡ words → (fault : SimFault) → (fault ≡ setup.BadSetup → IsSome (list_fault names)) → IsWrongThere said (servers words) (fault_of_setup fault)
wrong_list said words names same setup.Memory bad = tt
wrong_list said words names same setup.BadSetup bad = let P : List (List ℕ) → Type 0 = λ ns. IsSome (list_fault ns) in no_list words (subst P same (bad refl))

pub no_fault : {T : Type 0} → (fault : Option ListFault) (list : T) → (IsSome fault → ◌≡◌ {A = Result T SimFault} (Ok list) (Err setup.BadSetup)) → fault ≡ None
no_fault None list bad = refl
no_fault (Some fault) list bad = let both = bad refl in cc

pub wrong_step : (said : Said) (listed : List (List ℕ)) (text : StepText) (fault : LineFault) → said.listed ≡ Some listed → HasStepFault listed text fault → IsWrongThere said (step text) fault
wrong_step said listed text Memory there none = tt
wrong_step said listed text (Wrong fault) there bad = no_step listed text fault there bad

pub not_listed_yet : {T : Type 0} → (o : Option T) → is_some o ≡ false → o ≡ None
not_listed_yet None none = refl
not_listed_yet (Some x) none = cc

pub says_servers : (said : Said) (words names listed : List (List ℕ)) → names ≡ words → is_some said.listed ≡ false → All IsServerName words → list_fault names ≡ None → IsPermutation names listed → AreInOrder listed
    → Says said (servers words) (record { names = names; listed = Some listed; rooms = said.rooms; steps = said.steps })
says_servers said words names listed same none named good moved order =
    let P : List (List ℕ) → Type 0 = λ ns. Says said (servers words) (record { names = ns; listed = Some listed; rooms = said.rooms; steps = said.steps }) in
    let Q : List (List ℕ) → Type 0 = λ ns. IsPermutation ns listed in
    subst P (sym same) (servers_first words listed (not_listed_yet said.listed none) named (ap list_fault (sym same) ∙ good) (subst Q same moved) order)

pub none_of : {A : Type 0} → (xs : List A) (n : ℕ) → length xs ≡ n → (n == 0) ≡ true → xs ≡ []
none_of xs n same none = nil_from_length xs (same ∙ (Decides-eqb n 0).0 none)

pub some_of : {A : Type 0} → (xs : List A) (n : ℕ) → length xs ≡ n → (n == 0) ≡ false → ¬ (xs ≡ [])
some_of xs n same some = λ none. let zero : n ≡ 0 = sym same ∙ ap length none in let is : (n == 0) ≡ true = ap (λ k. k == 0) zero in cc
