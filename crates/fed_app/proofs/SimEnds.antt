-- How a run of a script ends, by the way out that it takes.
use Rattle.std.proofs.Common.{◌≡◌, ℕ, List, Option, None, Some, IfSome, Result, Ok, Err, refl, sym, subst}
use Rattle.std.specs.Prelude.{IsErrAnd}
use Rattle.std.specs.declared.io.ErrorKind.{ErrorKind}
use Rattle.fed_sim.specs.declared.script.faults.ScriptFault.{ScriptFault}
use Rattle.fed_sim.specs.declared.script.faults.ScriptFault.TheVariants as script
use Rattle.fed_sim.specs.declared.setup.Setup.{Setup}
use Rattle.fed_sim.specs.declared.setup.SimFault.{SimFault}
use Rattle.fed_sim.specs.declared.setup.SimFault.TheVariants as setup
use Rattle.fed_sim.specs.declared.step.Step.{Step}
use Rattle.fed_sim.specs.Running.{CannotBegin}
use Rattle.fed_sim.specs.Script.{IsScript, IsNoScriptBy}
use Rattle.fed_app.specs.SimEnd.{no_script, no_world, IsSimEnd}
use Rattle.fed_app.specs.SimFaults.{IsSimFaultOf, fault_of_script, fault_of_setup}
use Rattle.fed_app.specs.declared.sim_fault.SimRunFault.{SimRunFault}
use Rattle.fed_app.specs.declared.sim_fault.SimRunFault.TheVariants.{Memory, At, Io}

abbrev Ended : Type 0
Ended = Result (Unit {0}) SimRunFault

-- a read or a write fails, or there is no memory for it
by_kind : (text : List ℕ) (kind : ErrorKind) (old new : Option (List ℕ)) (result : Ended) → IsErrAnd result (IsSimFaultOf kind) → IsSimEnd text old new result
by_kind text kind old new (Ok done) of = absurd of
by_kind text kind old new (Err Memory) of = tt
by_kind text kind old new (Err Io) of = tt
by_kind text kind old new (Err (At line what)) of = absurd of

pub io_fails : (known : Option (List ℕ)) (kind : ErrorKind) (old new : Option (List ℕ)) (result : Ended) → IsErrAnd result (IsSimFaultOf kind) → IfSome known (λ text. IsSimEnd text old new result)
io_fails None kind old new result of = tt
io_fails (Some text) kind old new result of = by_kind text kind old new result of

-- the text is no script
by_script : (text : List ℕ) (fault : ScriptFault) (old : Option (List ℕ)) (result : Ended) → IsErrAnd result (λ f. f ≡ fault_of_script fault) → IsNoScriptBy text fault → IsSimEnd text old old result
by_script text fault old (Ok done) of none = absurd of
by_script text script.Memory old (Err f) of none = subst (λ (g : SimRunFault). IsSimEnd text old old (Err g)) (sym of) tt
by_script text (script.At line what) old (Err f) of none = subst (λ (g : SimRunFault). IsSimEnd text old old (Err g)) (sym of) (no_script line what none, refl)

pub script_fails : (known : Option (List ℕ)) (text : List ℕ) (fault : ScriptFault) (old : Option (List ℕ)) (result : Ended) → IfSome known (λ bytes. text ≡ bytes) → IsErrAnd result (λ f. f ≡ fault_of_script fault)
    → IsNoScriptBy text fault → IfSome known (λ bytes. IsSimEnd bytes old old result)
script_fails None text fault old result is of none = tt
script_fails (Some bytes) text fault old result is of none = subst (λ t. IsSimEnd t old old result) is (by_script text fault old result of none)

-- no world begins with it
by_setup : (text : List ℕ) (made : Setup) (steps : List Step) (fault : SimFault) (old : Option (List ℕ)) (result : Ended) → IsErrAnd result (λ f. f ≡ fault_of_setup fault) → IsScript text made steps
    → (fault ≡ setup.BadSetup → CannotBegin made) → IsSimEnd text old old result
by_setup text made steps fault old (Ok done) of is none = absurd of
by_setup text made steps setup.Memory old (Err f) of is none = subst (λ (g : SimRunFault). IsSimEnd text old old (Err g)) (sym of) tt
by_setup text made steps setup.BadSetup old (Err f) of is none = subst (λ (g : SimRunFault). IsSimEnd text old old (Err g)) (sym of) (no_world made steps is (none refl), refl)

pub setup_fails : (known : Option (List ℕ)) (text : List ℕ) (made : Setup) (steps : List Step) (fault : SimFault) (old : Option (List ℕ)) (result : Ended) → IfSome known (λ bytes. text ≡ bytes)
    → IsErrAnd result (λ f. f ≡ fault_of_setup fault) → IsScript text made steps → (fault ≡ setup.BadSetup → CannotBegin made) → IfSome known (λ bytes. IsSimEnd bytes old old result)
setup_fails None text made steps fault old result same of is none = tt
setup_fails (Some bytes) text made steps fault old result same of is none = subst (λ t. IsSimEnd t old old result) same (by_setup text made steps fault old result of is none)

-- it is run
pub script_runs : (known : Option (List ℕ)) (text : List ℕ) (made : Setup) (steps : List Step) (old new : Option (List ℕ)) (done : Unit {0}) → IfSome known (λ bytes. text ≡ bytes) → IsScript text made steps
    → IfSome known (λ bytes. IsSimEnd bytes old new (Ok done))
script_runs None text made steps old new done same is = tt
script_runs (Some bytes) text made steps old new done same is = subst (λ t. IsSimEnd t old new (Ok done)) same (made, steps, is)
