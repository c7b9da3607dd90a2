use Rattle.std.proofs.Common.{map, drop, slice_index_or, refl, sym, ◌+◌}
use Rattle.std.proofs.lemmas.Bool.{false≢true}
use Rattle.httparse.specs.Spans.{header_bytes, span_bytes}
use Rattle.fed_http.specs.Framing.{values_of}
use Rattle.fed_http.proofs.Values.{nowhere, named, unnamed, one_more, as_before, two_found}
use Rattle.fed_http.proofs.framing.values_of.Goals as goal
use Rattle.fed_http.proofs.framing.values_of.Goals.{then-eq_ignore_ascii_case+else-is_some, else-eq_ignore_ascii_case}

pub returns-then-is_some : goal.returns-then-is_some
returns-then-is_some c =
    let bytes = c.args.bytes.now in
    let name = c.args.name.now in
    let fields = c.args.fields.now in
    let i = c.loop-field.field-index in
    let hits = named bytes name c.of.result.now fields i c.loop-field-test.true c.of.ensures (c.if-eq_ignore_ascii_case.ensures.test.0 refl) in
    record {
      values = two_found c.loop-field.found (span_bytes bytes (slice_index_or fields i nowhere).value) (values_of name (map (header_bytes bytes) (drop i fields))) (values_of name (map (header_bytes bytes) (drop (i + 1) fields)))
          (values_of name (map (header_bytes bytes) fields)) (sym c.if-is_some.ensures) hits c.loop-field.invariant;
    }

pub loop-field-preserved : goal.loop-field-preserved
loop-field-preserved c =
    let bytes = c.args.bytes.now in
    let name = c.args.name.now in
    let fields = c.args.fields.now in
    let i = c.loop-field.field-index in
    let rest = values_of name (map (header_bytes bytes) (drop i fields)) in
    let more = values_of name (map (header_bytes bytes) (drop (i + 1) fields)) in
    let all = values_of name (map (header_bytes bytes) fields) in
    elim c.if-eq_ignore_ascii_case.branch [
      | then-eq_ignore_ascii_case+else-is_some w ↦
          one_more c.loop-field.found c.if-eq_ignore_ascii_case.found w.of-then-eq_ignore_ascii_case.result (span_bytes bytes (slice_index_or fields i nowhere).value) rest more all (sym w.if-is_some.ensures) w.found-is
          w.of-then-eq_ignore_ascii_case.ensures (named bytes name c.of.result.now fields i c.loop-field-test.true c.of.ensures (w.if-eq_ignore_ascii_case.ensures.test.0 refl)) c.loop-field.invariant
      | else-eq_ignore_ascii_case w ↦
          as_before c.loop-field.found c.if-eq_ignore_ascii_case.found rest more all w.found-is
          (unnamed bytes name c.of.result.now fields i c.loop-field-test.true c.of.ensures (λ same. false≢true (w.if-eq_ignore_ascii_case.ensures.test.1 same))) c.loop-field.invariant
    ]
