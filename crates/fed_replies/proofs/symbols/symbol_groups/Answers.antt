use Rattle.std.proofs.Common.{ℕ, ◌+◌, ◌*◌, ◌/◌, ◌%◌, ◌++◌, slice_index, ap, ap₂, ◌∙◌, arith}
use Rattle.fed_replies.specs.Symbols.{pair_of}
use Rattle.fed_replies.proofs.SymbolPairs.{group-of_pairs, high_pairs, low_pairs}
use Rattle.fed_replies.proofs.symbols.symbol_groups.Goals as goal

pub returns : goal.returns
returns c =
    let value = c.from_be_bytes-x.ensures in
    let fits = c.fits-bytes in
    let x : ℕ = c.from_be_bytes-x.result in
    let f0 = fits 0 in
    let f1 = fits 1 in
    let f2 = fits 2 in
    let f3 = fits 3 in
    let f4 = fits 4 in
    let f5 = fits 5 in
    let f6 = fits 6 in
    let f7 = fits 7 in
    let b0 : ℕ = slice_index c.args.bytes.now 0 in
    let b1 : ℕ = slice_index c.args.bytes.now 1 in
    let b2 : ℕ = slice_index c.args.bytes.now 2 in
    let b3 : ℕ = slice_index c.args.bytes.now 3 in
    let b4 : ℕ = slice_index c.args.bytes.now 4 in
    let b5 : ℕ = slice_index c.args.bytes.now 5 in
    let b6 : ℕ = slice_index c.args.bytes.now 6 in
    let b7 : ℕ = slice_index c.args.bytes.now 7 in
    let high = high_pairs x b0 b1 b2 (b3 * 4294967296 + b4 * 16777216 + b5 * 65536 + b6 * 256 + b7) (omega arith) f0 f1 f2 (omega arith) in
    let low = low_pairs x (b0 * 65536 + b1 * 256 + b2) b3 b4 b5 (b6 * 256 + b7) (omega arith) f3 f4 f5 (omega arith) in
    let first = c.requires.pairs (x / 4503599627370496) (omega arith) ∙ ap pair_of high.0 in
    let second = c.requires.pairs (x / 1099511627776 % 4096) (omega arith) ∙ ap pair_of high.1 in
    let third = c.requires.pairs (x / 268435456 % 4096) (omega arith) ∙ ap pair_of low.0 in
    let fourth = c.requires.pairs (x / 65536 % 4096) (omega arith) ∙ ap pair_of low.1 in
    ap₂ (λ s t. s ++ t) (group-of_pairs b0 b1 b2 _ _ f0 f1 f2 first second) (group-of_pairs b3 b4 b5 _ _ f3 f4 f5 third fourth)
