use Rattle.std.proofs.Common.{refl, sym, ◌∙◌}
use Rattle.std.proofs.lemmas.Bool.{false≢true}
use Rattle.fed_hub_kept.specs.Received.{IsGiven}
use Rattle.fed_hub_kept.proofs.Each.{each_more, not_each, each_so_far}
use Rattle.fed_hub_kept.proofs.received.are_given.Goals as goal

pub returns-then-not-is_given : goal.returns-then-not-is_given
returns-then-not-is_given g c =
    let Given = IsGiven c.args.rooms.now in
    let never : ¬ Given c.token-item.result = λ is. false≢true (sym c.if-not-is_given.true ∙ c.is_given.ensures.1 is) in (
      λ no. absurd (false≢true no),
      λ all. absurd (not_each Given c.args.tokens.now c.loop-token.token-index c.token-item.result c.loop-token-test.true c.token-item.is never all),
    )

pub loop-token-preserved : goal.loop-token-preserved
loop-token-preserved g c =
    each_more (IsGiven c.args.rooms.now) c.args.tokens.now c.loop-token.token-index c.token-item.result c.loop-token-test.true c.token-item.is c.loop-token.invariant
    (c.is_given.ensures.0 c.if-not-is_given.false)

pub returns : goal.returns
returns g c = (
  λ _. each_so_far (IsGiven c.args.rooms.now) c.args.tokens.now c.loop-token.token-index c.loop-token-test.false c.loop-token.invariant,
  λ _. refl,
)
