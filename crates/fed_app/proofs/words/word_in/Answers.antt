use Rattle.std.proofs.Common.{rules}
use Rattle.fed_app.proofs.WordLemmas.{word_of_text}
use Rattle.fed_app.proofs.words.word_in.Goals as goal

pub returns : goal.returns
returns c = rw c.ok.ensures.value (word_of_text _ c.args.bytes.now c.from_utf8.result (search rules) c.from_utf8.ensures.cases)
