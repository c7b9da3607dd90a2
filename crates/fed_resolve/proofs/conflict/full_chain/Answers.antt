use Rattle.std.proofs.Common.{refl, ◌∙◌, length}
use Rattle.std.specs.FinMap as finite
use Rattle.std.proofs.lemmas.Result.{IfOk-weaker}
use Rattle.fed_resolve.specs.Chain.{is_in_chains, is_in_full_chain}
use Rattle.fed_resolve.specs.Marks.{AreMarks}
use Rattle.fed_resolve.proofs.Unconflicteds.{full-chain}
use Rattle.fed_resolve.proofs.conflict.full_chain.Goals as goal

pub returns : goal.returns
returns c =
    let events = c.args.graph.now.stored in
    let state = c.args.state.now in
    IfOk-weaker c.chains.result (λ marks. AreMarks (length events) (is_in_chains events c.deref.result.now) marks.items) (λ marks. AreMarks (length events) (is_in_full_chain events state) marks.items)
    (λ v marks. record {
      long = marks.long;
      each = λ q below. marks.each q below ∙ full-chain events state q c.deref.result.now (finite.entries state) (c.deref.ensures.value ∙ c.in_ok-places.ensures.places) refl;
    })
    c.chains.ensures
