use Rattle.std.proofs.Common.{◌++◌, ap, ◌∙◌, codes, decimal}
use Rattle.serde_json.specs.Data.{string}
use Rattle.fed_json.specs.CanonicalText.{canonical_text}
use Rattle.fed_txn.proofs.BodyText.{joined_five}
use Rattle.fed_txn.proofs.writing.with_header.Goals as goal

pub returns : goal.returns
returns c =
    joined_five c.args.text.items (codes "\"origin\":") (canonical_text (string c.args.origin.now)) (codes ",\"origin_server_ts\":") (decimal c.args.at_ms) (codes ",")
    c.in_ok-extend_from_slice.ensures.items (c.in_ok-append_to.ensures.ok ∙ ap (λ d. c.extend_from_slice.new.self.items ++ canonical_text d) (c.root.ensures ∙ c.from-origin.ensures ∙ ap string c.in_ok-from_str.ensures.ok)) c.in_ok-extend_from_slice-2.ensures.items
    (c.in_ok-extend_from_slice-3.ensures.items ∙ ap (λ digits. c.extend_from_slice-2.new.self.items ++ digits) (c.as_bytes.ensures.value ∙ c.format.ensures.text))
    c.in_ok-push.ensures.items
