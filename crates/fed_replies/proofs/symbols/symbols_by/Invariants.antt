use Rattle.std.proofs.Common.{◌≡◌, ◌*◌, ◌++◌, take, drop}
use Rattle.base64.specs.Rfc4648.{encode_symbols}
use Rattle.fed_replies.specs.Symbols.{alphabet}
use Rattle.fed_replies.proofs.symbols.symbols_by.Given as goal

-- what is left decides
abbrev pub invariant-words : goal.invariant-words
invariant-words l = take (8 * l.word) l.symbols ++ encode_symbols alphabet (drop (6 * l.word) l.hash) ≡ encode_symbols alphabet l.hash
