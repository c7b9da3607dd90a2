use Rattle.std.proofs.Common.{◌≡◌, map, None, Err, string_bytes, false, true, ap, subst, sym, ◌∙◌}
use Rattle.fed_dest.specs.List.{list_fault}
use Rattle.fed_app.specs.Servers.{each_once}
use Rattle.fed_app.proofs.Setups.{bad_name_alone, same_fault, when_none, listed_once}
use Rattle.fed_app.proofs.setup.InboxSetup.read.Goals as goal

pub returns-in_err-own-clause-bad : goal.returns-in_err-own-clause-bad
returns-in_err-own-clause-bad c = λ bad are.
    c.in_err-own.ensures.bad (ap Err (bad_name_alone c.in_err-own.field-0.0 c.from_residual.result c.from_residual.ensures.1 bad)) are.own_name

pub returns-in_err-names-clause-bad : goal.returns-in_err-names-clause-bad
returns-in_err-names-clause-bad c = λ bad are.
    c.in_err-names.ensures.bad (ap Err (same_fault c.in_err-names.field-0.0 c.from_residual-in_err-names.result c.from_residual-in_err-names.ensures.1 bad)) are.each

-- names that stand each once, at most 64 of them, make a list
pub returns-in_err-servers-clause-bad : goal.returns-in_err-servers-clause-bad
returns-in_err-servers-clause-bad c = λ bad are.
    let own = c.args.own.now in
    let servers = map string_bytes c.args.servers.now in
    let names = c.in_ok-names.ensures.names ∙ ap (λ o. each_once o servers) c.in_ok-own.ensures.ok in
    let none = subst (λ all. list_fault all ≡ None) (sym names) (listed_once own servers are.most) in
    let listed : false ≡ true = when_none (list_fault c.in_ok-names.names.items) (false ≡ true) c.in_err-servers.ensures.listed none in
    absurd (cc)
