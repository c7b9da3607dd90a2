use Rattle.std.proofs.Common.{refl}
use Rattle.fed_json.specs.Tree.{view}
use Rattle.fed_json.specs.CanonicalText.{canonical_text}
use Rattle.fed_json.proofs.Equal.{told_by_texts, value_of_text}
use Rattle.fed_json.proofs.same.JsonPartialEq.eq.Goals as goal

pub returns-clause-texts : goal.returns-clause-texts
returns-clause-texts c =
    let d = view c.self.inside.value in
    let e = view c.other.inside.value in
    let here = c.self.invariant in
    let there = c.other.invariant in
    let one = value_of_text d e (record { whole = here.whole; rising = here.rising }) (record { whole = there.whole; rising = there.rising }) in
    let told = told_by_texts canonical_text _ _ d e one c.is_same.ensures refl in
    rw (c.self.view_is, c.other.view_is) at told
