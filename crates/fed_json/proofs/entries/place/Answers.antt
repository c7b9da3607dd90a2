use Rattle.std.proofs.Common.{rules}
use Rattle.std.proofs.lemmas.Fn.{always_returns_same}
use Rattle.fed_json.specs.Places.{asked}
use Rattle.fed_json.proofs.entries.place.Goals as goal

pub returns-clause-place : goal.returns-clause-place
returns-clause-place c = c.binary_search_by.ensures.position (asked c.args.name.now) (always_returns_same _ _ _ (λ a r q k. search rules))
