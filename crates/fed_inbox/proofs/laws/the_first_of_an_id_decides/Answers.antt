use Rattle.std.proofs.Common.{[], refl}
use Rattle.std.specs.FinMap as finite
use Rattle.std.specs.Cmp.Lexicographic.{slice_cmp}
use Rattle.std.specs.Ordering.{nat_cmp}
use Rattle.fed_inbox.proofs.LookUps.{first_decides}
use Rattle.fed_inbox.proofs.laws.the_first_of_an_id_decides.Goals as goal

pub returns : goal.returns
returns c checks rooms elements id = first_decides checks rooms finite.empty [] elements id refl (finite.get-empty (slice_cmp nat_cmp) id)
