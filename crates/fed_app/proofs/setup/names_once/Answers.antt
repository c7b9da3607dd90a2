use Rattle.std.proofs.Common.{◌<◌, ◌∷◌, [], All, Err, length, ap, map, string_bytes, subst, sym, take, ◌∙◌}
use Rattle.std.proofs.lemmas.List.{take_all, length-map}
use Rattle.std.proofs.lemmas.List.Elements.{All-more, All-map}
use Rattle.fed_dest.specs.ServerName.{IsServerName}
use Rattle.fed_app.specs.Servers.{each_once, with_name}
use Rattle.fed_app.proofs.Setups.{at_map, bad_name_alone, once_more}
use Rattle.fed_app.proofs.setup.names_once.Goals as goal

pub loop-server-preserved : goal.loop-server-preserved
loop-server-preserved c =
    let servers = c.args.servers.now in
    let place = c.loop-server.server-index in
    let so_far = each_once c.args.own.now (map string_bytes (take place servers)) in
    let more = once_more string_bytes (c.args.own.now ∷ []) servers place c.server-item.result c.loop-server-test.true in
    record {
      names = c.in_ok-add.ensures ∙ ap (λ n. with_name n c.in_ok-name.name) c.loop-server.invariant.names
          ∙ ap (λ n. with_name so_far n) (c.in_ok-name.ensures.ok ∙ c.deref.ensures ∙ ap string_bytes c.server-item.is) ∙ sym more;
      good = All-more (λ s. IsServerName (string_bytes s)) servers place c.server-item.result c.loop-server-test.true c.loop-server.invariant.good
          (subst (λ s. IsServerName (string_bytes s)) c.server-item.is (subst IsServerName c.deref.ensures c.in_ok-name.ensures.name));
    }

pub returns-in_err-name-clause-bad : goal.returns-in_err-name-clause-bad
returns-in_err-name-clause-bad c = λ bad all.
    let servers = c.args.servers.now in
    let place = c.loop-server.server-index in
    let item = c.server-item.result in
    let within : place < length (map string_bytes servers) = rw length-map c.loop-server-test.true in
    let named = subst IsServerName (at_map string_bytes servers place item) (all place (string_bytes item) within) in
    c.in_err-name.ensures.bad (ap Err (bad_name_alone c.in_err-name.field-0.0 c.from_residual-in_err-name.result c.from_residual-in_err-name.ensures.1 bad))
    (subst IsServerName (sym c.deref.ensures) (subst (λ s. IsServerName (string_bytes s)) (sym c.server-item.is) named))

pub returns-clause-good : goal.returns-clause-good
returns-clause-good c = All-map IsServerName string_bytes c.args.servers.now
    (subst (All (λ s. IsServerName (string_bytes s))) (take_all c.loop-server.server-index c.args.servers.now c.loop-server-test.false) c.loop-server.invariant.good)
