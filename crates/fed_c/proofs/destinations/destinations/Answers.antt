use Rattle.std.proofs.Common.{◌≡◌, ◌≢◌, Ok, Err, IfOk, IfErr, subst, ◌∙◌}
use Rattle.fed_redaction.specs.declared.version.Version.TheVariants.{V10}
use Rattle.fed_c.specs.declared.status.Status.TheVariants.{Memory}
use Rattle.fed_c.specs.Destinations.{destinations_answer}
use Rattle.fed_c.specs.Values.{value_of}
use Rattle.fed_c.proofs.Servers.{same_servers}
use Rattle.fed_c.proofs.destinations.destinations.Goals as goal

pub returns-clause-ok : goal.returns-clause-ok
returns-clause-ok c = λ names are.
    let same = c.deref.ensures.value ∙ same_servers (value_of c.args.servers.now) c.in_ok-servers.servers.items names c.in_ok-servers.ensures.ok are in
    subst (λ ns. IfOk c.by_servers.result (λ bytes. destinations_answer V10 (value_of c.args.state.now) ns c.args.own.now ≡ Ok bytes.items)) same c.by_servers.ensures.ok

pub returns-clause-fault : goal.returns-clause-fault
returns-clause-fault c = λ names are.
    let same = c.deref.ensures.value ∙ same_servers (value_of c.args.servers.now) c.in_ok-servers.servers.items names c.in_ok-servers.ensures.ok are in
    subst (λ ns. IfErr c.by_servers.result (λ status. status ≢ Memory → destinations_answer V10 (value_of c.args.state.now) ns c.args.own.now ≡ Err status)) same c.by_servers.ensures.fault
