use Rattle.std.proofs.Common.{ℕ, refl}
use Rattle.httparse.specs.Grammar.{ChunkLine}
use Rattle.httparse.specs.Spans.{IsChunkLineAt}
use Rattle.httparse.proofs.HeadLemmas.{at_complete, on_partial}
use Rattle.fed_http.proofs.Lines.{line_found, line_lacks, line_full, line_never}
use Rattle.fed_http.proofs.chunks.find_line.Goals as goal

pub returns-in-Ok-Complete-clause-found : goal.returns-in-Ok-Complete-clause-found
returns-in-Ok-Complete-clause-found c =
    let P : ℕ × ℕ → Type 0 = λ r. (l : ChunkLine) × IsChunkLineAt c.window.result.now r.0 r.1 l in
    line_found c.args.bytes.now c.window.result.now c.in-Ok-Complete.len c.in-Ok-Complete.size c.window.ensures
    (at_complete P c.in-Ok-Complete.is c.in-Ok-Complete.field-0-is c.parse_chunk_size.ensures.complete)

pub returns-in-Ok-Partial-clause-unfinished : goal.returns-in-Ok-Partial-clause-unfinished
returns-in-Ok-Partial-clause-unfinished c =
    line_lacks c.args.bytes.now c.window.result.now c.window.ensures c.if-bytes-lt-MAX_HEAD.true (on_partial c.in-Ok-Partial.is c.in-Ok-Partial.field-0-is c.parse_chunk_size.ensures.partial) (on_partial c.in-Ok-Partial.is c.in-Ok-Partial.field-0-is c.parse_chunk_size.ensures.unfinished)

pub returns-in-Ok-Partial-2-clause-bad : goal.returns-in-Ok-Partial-2-clause-bad
returns-in-Ok-Partial-2-clause-bad c =
    (refl, line_full c.args.bytes.now c.window.result.now c.window.ensures c.if-bytes-lt-MAX_HEAD.false (on_partial c.in-Ok-Partial.is c.in-Ok-Partial.field-0-is c.parse_chunk_size.ensures.partial))

pub returns-in-Err-clause-bad : goal.returns-in-Err-clause-bad
returns-in-Err-clause-bad c = (refl, line_never c.args.bytes.now c.window.result.now c.window.ensures c.in-Err.ensures.invalid)
