use Rattle.std.proofs.Common.{◌≡◌, ℕ, List, length, take, subst, ◌∙◌, arith}
use Rattle.std.proofs.lemmas.List.{take_all}
use Rattle.fed_resolve.specs.Chain.{auths_at}
use Rattle.fed_resolve.specs.ChainParts.{or_among}
use Rattle.fed_resolve.specs.Marks.{AreMarks}
use Rattle.fed_resolve.proofs.Marks.{among-more}
use Rattle.fed_resolve.proofs.chain.mark_auths.Goals as goal

pub loop-auth-preserved : goal.loop-auth-preserved
loop-auth-preserved c =
    let auths : List ℕ = c.auth_places-auth-items.result.now in
    let index : ℕ = c.loop-auth.auth-index in
    among-more (length c.args.graph.now.stored) auths c.args.marks.now c.loop-auth.marks index c.loop-auth-test.true (c.auth_places-auth-items.ensures.within index 0 c.loop-auth-test.true) c.loop-auth.invariant

pub returns : goal.returns
returns c =
    let events = c.args.graph.now.stored in
    let auths : List ℕ = c.auth_places-auth-items.result.now in
    let whole : take c.loop-auth.auth-index auths ≡ auths_at events c.args.place = take_all c.loop-auth.auth-index auths (omega arith) ∙ c.auth_places-auth-items.ensures.places in
    subst (λ (ps : List ℕ). AreMarks (length events) (or_among ps c.args.marks.now) c.loop-auth.marks) whole c.loop-auth.invariant
