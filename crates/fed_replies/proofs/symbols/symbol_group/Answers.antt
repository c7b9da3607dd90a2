use Rattle.std.proofs.Common.{◌+◌, ◌*◌, ◌/◌, ◌%◌, arith}
use Rattle.fed_replies.proofs.SymbolPairs.{group-of_pairs}
use Rattle.fed_replies.proofs.symbols.symbol_group.Goals as goal

pub returns : goal.returns
returns c =
    group-of_pairs c.args.a c.args.b c.args.c _ _ (omega arith) (omega arith) (omega arith)
    (c.requires.pairs (c.args.a * 16 + c.args.b / 16) (omega arith)) (c.requires.pairs (c.args.b % 16 * 256 + c.args.c) (omega arith))
