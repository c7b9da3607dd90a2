use Rattle.std.proofs.Common.{◌≡◌}
use Rattle.fed_hub.specs.Tokens.{servers_new}
use Rattle.fed_hub.proofs.making.serve_tokens_of.Given as goal

abbrev pub invariant-loop : goal.invariant-loop
invariant-loop g l = l.tokens.items ≡ servers_new l.counter
