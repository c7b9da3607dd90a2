use Rattle.std.proofs.Common.{◌++◌, ap, ◌∙◌, map, codes}
use Rattle.fed_outbox.specs.Seen.{seen}
use Rattle.fed_txn.specs.Reading.{body_of, read_of}
use Rattle.fed_txn.specs.Writing.{event_of, edus_text, header_text, pdus_text}
use Rattle.fed_txn.proofs.SentBodies.{body_back, reads_back}
use Rattle.fed_txn.proofs.BodyText.{joined_four, body_text}
use Rattle.fed_txn.proofs.writing.write.Goals as goal

pub returns-clause-exact : goal.returns-clause-exact
returns-clause-exact c =
    let t = c.args.transaction.now in
    let pdus = map event_of t.pdus.now in
    joined_four (codes "{") (edus_text t.edus.now) (header_text c.args.origin.now t.at_ms) (pdus_text pdus) (codes "}")
    (c.in_ok-text.ensures.text ∙ ap (λ start. start ++ edus_text t.edus.now) (c.in_ok-push.ensures.items ∙ ap (λ start. start ++ codes "{") c.new-text.ensures.items)) c.in_ok-text-2.ensures c.in_ok-text-3.ensures.text c.in_ok-push-2.ensures.items
    ∙ body_text t.edus.now pdus c.args.origin.now t.at_ms

pub returns-clause-body : goal.returns-clause-body
returns-clause-body c = λ limits short.
    ap body_of (returns-clause-exact c) ∙ body_back c.args.origin.now (seen c.args.transaction.now) c.utf8.origin c.in_ok-text-3.ensures.each c.in_ok-text.ensures.each limits short

pub returns-clause-read_back : goal.returns-clause-read_back
returns-clause-read_back c = λ limits short.
    ap read_of (returns-clause-exact c) ∙ reads_back c.args.origin.now (seen c.args.transaction.now) c.utf8.origin c.in_ok-text-3.ensures.each c.in_ok-text.ensures.each limits short
