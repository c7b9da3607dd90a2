-- The text of each verdict of the checks on receipt.
use Rattle.std.specs.Prelude.{ℕ, List, codes}
use Rattle.fed_event.specs.declared.checked.CheckFault.{CheckFault}
use Rattle.fed_event.specs.declared.checked.CheckFault.TheVariants.{Memory, BadSignature}

abbrev pub check_verdict_of : CheckFault → List ℕ
check_verdict_of Memory = codes "out of memory"
check_verdict_of BadSignature = codes "bad signature"
