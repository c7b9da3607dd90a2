-- What bytes are read as.
use Rattle.std.proofs.Common.{◌≡◌, ◌≢◌, ℕ, List, true, false, cond, Some, None, Result, Ok, Err, IsOk, IfOk, IfErr, unwrap_or, option_map, refl, sym, ◌∙◌, ap, arith}
use Rattle.std.proofs.lemmas.Str.{is_utf8-from_IsUtf8, IsUtf8-from_is_utf8}
use Rattle.std.specs.Str.{is_utf8}
use Rattle.serde_json.specs.Data.{Data}
use Rattle.serde_json.specs.Read.{read}
use Rattle.serde_json.proofs.Nesting.{depth-read}
use Rattle.fed_json.specs.Reading.{ReadsWithin, IsNotJson, HasOtherNumber, NestsPast}
use Rattle.fed_event.specs.declared.fault.PduFault.{PduFault}
use Rattle.fed_event.specs.declared.fault.PduFault.TheVariants.{Memory, NotJson, NotCanonical}
use Rattle.fed_redaction.specs.declared.version.Version.{Version}
use Rattle.fed_redaction.specs.Event.{Event, event_in}
use Rattle.fed_event.specs.Reading.{event_of, canonical_event, read_of}
use Rattle.fed_event.specs.Tests.{first_fault_of}
use Rattle.fed_event.proofs.Faults.{event-passed, event-failed}

-- `serde_json` reads no deeper
pub past_all : (bytes : List ℕ) → NestsPast bytes 127 → ⊥
past_all bytes (d, reads, whole, deep) = let within = depth-read bytes d reads.1 in omega arith

pub read-value : (bytes : List ℕ) (d : Data) → ReadsWithin bytes 127 d → read_of bytes ≡ event_of d
read-value bytes d r = rw (is_utf8-from_IsUtf8 bytes r.reads.0, r.reads.1, r.whole)

pub read-no_value : (bytes : List ℕ) → IsNotJson bytes → read_of bytes ≡ Err NotJson
read-no_value bytes none =
    ap (λ o. unwrap_or (option_map canonical_event o) (Err NotJson))
    (elim (is_utf8 bytes) as (λ b. is_utf8 bytes ≡ b → cond b (read bytes) None ≡ None) [ true ↦ λ t. none (IsUtf8-from_is_utf8 bytes t) | false ↦ λ t. refl ] refl)

pub read-other_number : (bytes : List ℕ) → HasOtherNumber bytes → read_of bytes ≡ Err NotCanonical
read-other_number bytes (d, reads, other) = rw (is_utf8-from_IsUtf8 bytes reads.0, reads.1, other)

-- what was read, where it was tested as `Pdu::of_json` says
pub read-event : (version : Version) (bytes : List ℕ) (d : Data) (r : Result Event PduFault) → ReadsWithin bytes 127 d → IfOk r (λ p. p ≡ event_in version d)
    → IfOk r (λ _. first_fault_of d ≡ None) → IfOk r (λ p. read_of bytes ≡ Ok p.value)
read-event version bytes d (Ok p) reads ok passes = read-value bytes d reads ∙ event-passed d passes ∙ ap (λ e. Ok e.value) (sym ok)
read-event version bytes d (Err e) reads ok passes = tt

pub read-fault : (bytes : List ℕ) (d : Data) (r : Result Event PduFault) → ReadsWithin bytes 127 d → IfErr r (λ e. e ≢ Memory → first_fault_of d ≡ Some e) → IfErr r (λ e. e ≢ Memory → read_of bytes ≡ Err e)
read-fault bytes d (Ok p) reads fails = tt
read-fault bytes d (Err e) reads fails = λ other. read-value bytes d reads ∙ event-failed d e (fails other)

no_event : (r : Result Data PduFault) (fault : PduFault) → r ≡ Err fault → IsOk r → ⊥
no_event (Ok p) fault h ok = absurd (cc)
no_event (Err e) fault h ok = absurd (cc)

pub read-not_ok : (bytes : List ℕ) → IsNotJson bytes → IsOk (read_of bytes) → ⊥
read-not_ok bytes none = no_event (read_of bytes) NotJson (read-no_value bytes none)
