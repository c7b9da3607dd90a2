use Rattle.std.proofs.Common.{◌≡◌, filter, length, ap, ◌∙◌, arith}
use Rattle.fed_resolve.specs.Chain.{places_below}
use Rattle.fed_resolve.specs.ChainParts.{is_marked}
use Rattle.fed_resolve.proofs.Sets.{marked-members}
use Rattle.fed_resolve.proofs.places.members.Goals as goal

pub returns-clause-members : goal.returns-clause-members
returns-clause-members c = λ events test are.
    let whole : c.loop-place.place ≡ length c.args.marks.now = omega arith in
    c.loop-place.invariant.so_far ∙ ap (λ n. filter (is_marked c.args.marks.now) (places_below n)) whole ∙ marked-members events test c.args.marks.now are
