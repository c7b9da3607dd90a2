use Rattle.std.proofs.Common.{◌≡◌, ◌++◌, IsUtf8, false, sym, ap, subst, ◌∙◌}
use Rattle.std.proofs.lemmas.Bool.{false≢true}
use Rattle.std.proofs.lemmas.List.{append-nil}
use Rattle.fed_http.specs.XMatrixParts.{unescaped}
use Rattle.fed_http.proofs.Quotes.{utf8-unescaped}
use Rattle.fed_http.proofs.x_matrix.parameter.Raw.to_text.Goals as goal

pub unreachable-requires : goal.unreachable-requires
unreachable-requires c =
    let text = c.args.self.text.now in
    let whole : c.loop-byte.bytes.items ≡ unescaped false text = sym (append-nil c.loop-byte.bytes.items) ∙ ap (λ t. c.loop-byte.bytes.items ++ t) (sym c.in_default.ensures.value) ∙ c.loop-byte.invariant in
    let utf8 : IsUtf8 text = subst IsUtf8 c.as_bytes-left.ensures.value c.as_bytes-left.ensures.utf8 in
    let bytes : IsUtf8 c.loop-byte.bytes.items = subst IsUtf8 (sym whole) (utf8-unescaped text utf8) in
    false≢true (c.in-Err.ensures.succeeds bytes)
