use Rattle.std.proofs.Common.{◌≡◌, [], refl, ◌∙◌, sym}
use Rattle.fed_http.proofs.Feeds.{nothing_kept}
use Rattle.fed_http.proofs.state.State.give.Goals as goal

pub unreachable-requires : goal.unreachable-requires
unreachable-requires c = c.requires (sym c.take.ensures.value ∙ c.in-None.is)

pub returns-clause-kept : goal.returns-clause-kept
returns-clause-kept c kind =
    let none : c.replace-body.new.dest.items ≡ [] = (λ i. (c.replace-body.ensures.after i).items) ∙ c.new.ensures.items in
    nothing_kept kind _ refl refl c.clear.ensures.items none
