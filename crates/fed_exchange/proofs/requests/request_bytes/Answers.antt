use Rattle.std.proofs.Common.{arith, ◌≡◌, ◌<◌, ◌≤◌, ◌∙◌, List, ℕ, length, Ok, ap, sym, subst, codes}
use Rattle.std.proofs.lemmas.Result.{IfOk-weaker}
use Rattle.fed_json.specs.CanonicalText.{canonical_text}
use Rattle.fed_outbox.specs.Seen.{seen}
use Rattle.fed_txn.specs.Reading.{body_of}
use Rattle.fed_txn.specs.Writing.{body_value}
use Rattle.fed_http.specs.Message.{RequestValue}
use Rattle.fed_http.specs.XMatrixSigning.{SignableJson, request_of}
use Rattle.fed_http.specs.Writing.{request_bytes}
use Rattle.fed_exchange.specs.Messages.{asked_of}
use Rattle.fed_exchange.proofs.requests.request_bytes.Goals as goal

pub returns-clause-exact : goal.returns-clause-exact
returns-clause-exact g c =
    let own = g.K.Keys.own_name c.args.keys.now in
    let key = g.K.Keys.own_key c.args.keys.now in
    let sign = g.K.Keys.own_signature c.args.keys.now in
    let t = seen c.args.transaction.now in
    let body = c.in_ok-body.ensures.exact ∙ ap (λ (o : List ℕ). canonical_text (body_value o t)) c.own.ensures in
    let some : 0 < length c.in_ok-body.body.items = omega (arith, ap length body) in
    let targeted : List ℕ → SignableJson = λ target. record { method = codes "PUT"; target = target; origin = own; destination = c.args.dest.now; content = body_value own t } in
    let request : c.in_ok-request.request ≡ request_of (asked_of own c.args.dest.now c.args.epoch t) key sign =
    c.in_ok-request.ensures.of_value (body_value own t) some body ∙ ap (λ target. request_of (targeted target) key sign) (c.deref.ensures ∙ c.in_ok-target.ensures.text) in
    IfOk-weaker c.write_request.result _ _ (λ bytes exact. exact ∙ ap (λ (r : RequestValue). request_bytes r) request) c.write_request.ensures.exact

pub returns-clause-read_back : goal.returns-clause-read_back
returns-clause-read_back g c =
    let own = g.K.Keys.own_name c.args.keys.now in
    let t = seen c.args.transaction.now in
    IfOk-weaker c.write_request.result (λ bytes. bytes.items ≡ request_bytes c.in_ok-request.request) _
    (λ bytes exact. record {
      epoch_fits = c.ranges.epoch.fits;
      number_fits = c.in_ok-target.ensures.number_fits;
      body = λ limits short.
          ap body_of (sym (c.in_ok-body.ensures.exact ∙ ap (λ (o : List ℕ). canonical_text (body_value o t)) c.own.ensures))
          ∙ subst (λ (o : List ℕ). length o ≤ 65536 → body_of c.in_ok-body.body.items ≡ Ok (body_value o t)) c.own.ensures (c.in_ok-body.ensures.body limits) short;
    }) c.write_request.ensures.exact
