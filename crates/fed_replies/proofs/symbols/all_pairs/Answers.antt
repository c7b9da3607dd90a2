use Rattle.std.proofs.Common.{◌+◌, length, sym, ap, subst, ◌∙◌}
use Rattle.std.proofs.lemmas.List.{length_push}
use Rattle.fed_replies.specs.Symbols.{ArePairs, pair_of}
use Rattle.fed_replies.proofs.SymbolPairs.{pairs-push}
use Rattle.fed_replies.proofs.symbols.all_pairs.Goals as goal

pub pairs-preserved : goal.pairs-preserved
pairs-preserved c = record {
  size = ap length c.in_ok-push.ensures.items ∙ length_push c.pairs.pairs.items (pair_of c.pairs.number) ∙ ap (λ n. n + 1) c.pairs.invariant.size;
  all = subst ArePairs (sym c.in_ok-push.ensures.items) (pairs-push c.pairs.pairs.items (pair_of c.pairs.number) c.pairs.invariant.all (ap pair_of (sym c.pairs.invariant.size)));
}
