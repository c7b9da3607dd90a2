use Rattle.std.proofs.Common.{◌++◌, codes, sym, ap, subst, ◌∙◌}
use Rattle.base64.specs.Engines.{standard_no_pad}
use Rattle.base64.specs.GeneralPurpose.{encode_of}
use Rattle.fed_http.specs.XMatrix.{IsXMatrix}
use Rattle.fed_http.specs.XMatrixWriting.{in_quotes, destination_text}
use Rattle.fed_http.proofs.XMatrixTexts.{written_is, joined_seven}
use Rattle.fed_http.proofs.x_matrix.XMatrix.write.Goals as goal

pub returns-clause-exact : goal.returns-clause-exact
returns-clause-exact c =
    let h = c.args.self.now in
    let origin = c.in_ok-push_quoted.ensures ∙ ap (λ t. c.extend_from_slice.new.self.items ++ in_quotes t) (c.as_bytes.ensures.value ∙ c.origin.ensures) in
    let destination = c.in_ok-push_destination.ensures ∙ ap (λ d. c.push_quoted.new.text.items ++ destination_text d) c.destination.ensures in
    let key = c.in_ok-push_quoted-2.ensures ∙ ap (λ t. c.extend_from_slice-2.new.self.items ++ in_quotes t) (c.as_bytes-2.ensures.value ∙ c.key.ensures) in
    let signature = c.in_ok-push_quoted-3.ensures ∙ ap (λ t. c.extend_from_slice-3.new.self.items ++ in_quotes t) (c.as_bytes-3.ensures.value ∙ c.in_ok-signature.ensures.text ∙ ap (encode_of standard_no_pad) c.signature.ensures.value) in
    joined_seven (codes "X-Matrix origin=") (in_quotes h.origin) (destination_text h.destination) (codes ",key=") (in_quotes h.key) (codes ",sig=")
    c.new-text.ensures.items c.in_ok-extend_from_slice.ensures.items origin destination c.in_ok-extend_from_slice-2.ensures.items key c.in_ok-extend_from_slice-3.ensures.items
    _ (in_quotes (encode_of standard_no_pad h.signature)) signature

pub returns-clause-read_back : goal.returns-clause-read_back
returns-clause-read_back c =
    let h = c.args.self.now in
    subst (λ t. IsXMatrix t h) (sym (returns-clause-exact c)) (written_is h c.signature.ensures.count c.signature.ensures.bytes)
