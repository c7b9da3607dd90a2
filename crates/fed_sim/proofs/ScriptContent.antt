-- The content of what a script sends.
use Rattle.std.proofs.Common.{◌≡◌, ◌≢◌, ℕ, List, Bool, true, false, cond, nat_le, le-leb, Some, None, Result, Err, refl, ap, sym, ◌∙◌, arith}
use Rattle.std.specs.Str.{is_utf8}
use Rattle.std.proofs.lemmas.Str.{is_utf8-from_IsUtf8, IsUtf8-from_is_utf8}
use Rattle.std.proofs.lemmas.Bool.Decides.{nat_tests}
use Rattle.serde_json.specs.Data.{Data, depth}
use Rattle.serde_json.specs.Read.{read}
use Rattle.fed_json.specs.Reading.{ReadsWithin, IsNotJson, HasOtherNumber, NestsPast}
use Rattle.fed_json.specs.declared.fault.JsonFault.{JsonFault}
use Rattle.fed_json.specs.declared.fault.JsonFault.TheVariants.{Memory, NotJson, NotCanonicalValue, TooDeep}
use Rattle.fed_sim.specs.ScriptSteps.{StepText, content_of, step_fault}
use Rattle.fed_sim.specs.ScriptFaults.{HasStepFault, fault_of_content}
use Rattle.fed_sim.specs.declared.script.faults.ScriptError.TheVariants.{UnknownServer, BadContent}
use Rattle.fed_sim.specs.declared.script.faults.LineFault.{LineFault}
use Rattle.fed_sim.specs.declared.script.faults.LineFault.TheVariants as line

pub value_read : (levels : ℕ) (bytes : List ℕ) (d : Data) → ReadsWithin bytes levels d → content_of levels bytes ≡ Some d
unfolding content_of
value_read levels bytes d r =
    let shallow : nat_le (depth d) levels ≡ true = le-leb (depth d) levels r.shallow in
    rw (is_utf8-from_IsUtf8 bytes r.reads.0, r.reads.1, r.whole, shallow) refl

not_json : (levels : ℕ) (bytes : List ℕ) → IsNotJson bytes → content_of levels bytes ≡ None
unfolding content_of
not_json levels bytes none =
    let nothing : cond (is_utf8 bytes) (read bytes) None ≡ None = elim (is_utf8 bytes) as (λ b. is_utf8 bytes ≡ b → cond b (read bytes) None ≡ None) [ true ↦ λ t. none (IsUtf8-from_is_utf8 bytes t) | false ↦ λ t. refl ] refl in
    rw nothing refl

other_number : (levels : ℕ) (bytes : List ℕ) → HasOtherNumber bytes → content_of levels bytes ≡ None
unfolding content_of
other_number levels bytes (d, reads, other) = rw (is_utf8-from_IsUtf8 bytes reads.0, reads.1, other) refl

too_deep : (levels : ℕ) (bytes : List ℕ) → NestsPast bytes levels → content_of levels bytes ≡ None
unfolding content_of
too_deep levels bytes (d, reads, whole, deep) =
    let past : nat_le (depth d) levels ≡ false = grind (arith, nat_tests) in
    rw (is_utf8-from_IsUtf8 bytes reads.0, reads.1, whole, past) refl

-- a content that is not read is a bad one, but for want of memory
pub content_fault : (servers : List (List ℕ)) (text : StepText) (levels : ℕ) (bytes : List ℕ) (fault : JsonFault)
    → (◌≡◌ {A = Result Data JsonFault} (Err fault) (Err NotJson) → IsNotJson bytes)
    → (◌≡◌ {A = Result Data JsonFault} (Err fault) (Err NotCanonicalValue) → HasOtherNumber bytes)
    → (◌≡◌ {A = Result Data JsonFault} (Err fault) (Err TooDeep) → NestsPast bytes levels)
    → (content_of levels bytes ≡ None → step_fault servers text ≡ Some BadContent)
    → HasStepFault servers text (fault_of_content fault)
content_fault servers text levels bytes Memory none other deep bad = tt
content_fault servers text levels bytes NotJson none other deep bad = bad (not_json levels bytes (none refl))
content_fault servers text levels bytes NotCanonicalValue none other deep bad = bad (other_number levels bytes (other refl))
content_fault servers text levels bytes TooDeep none other deep bad = bad (too_deep levels bytes (deep refl))

-- servers that are not listed, or want of memory
pub dests_fault : (servers : List (List ℕ)) (text : StepText) (listed : Bool) (fault : LineFault) → (fault ≢ line.Memory → (fault ≡ line.Wrong UnknownServer) × (listed ≡ false))
    → (listed ≡ false → step_fault servers text ≡ Some UnknownServer) → HasStepFault servers text fault
dests_fault servers text listed line.Memory told bad = tt
dests_fault servers text listed (line.Wrong fault) told bad =
    let apart : ◌≡◌ {A = LineFault} (line.Wrong fault) line.Memory → ⊥ = λ e. cc in
    let here = told apart in
    let same : fault ≡ UnknownServer = cc in
    bad here.1 ∙ ap Some (sym same)
