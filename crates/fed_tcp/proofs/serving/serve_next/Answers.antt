use Rattle.std.proofs.Common.{ℕ, ◌+◌, sym, subst}
use Rattle.fed_tcp.specs.Serving.{ServesInTurn, served}
use Rattle.fed_tcp.proofs.serving.serve_next.Goals as goal

pub returns-in-Some-clause-turn : goal.returns-in-Some-clause-turn
returns-in-Some-clause-turn g c first so_far =
    let S = g.N.ServingNaming in
    subst (λ (n : ℕ). ServesInTurn S.checks S.known S.beginning first c.answer.new.token (c.args.replies + n)) (sym c.whole_replies.ensures.replies) (served _ _ _ _ so_far c.in-Some.ensures.served)
