use Rattle.std.proofs.Common.{◌≡◌, ◌∙◌, None, sym, ap}
use Rattle.std.proofs.lemmas.Result.{err_from_is_err_and}
use Rattle.fed_dest.specs.List.{list_fault}
use Rattle.fed_sim.specs.Script.{servers_again, words_in}
use Rattle.fed_sim.specs.ScriptReadings.{said_by}
use Rattle.fed_sim.proofs.ScriptWrong.{wrong_names, wrong_list, no_fault, says_servers}
use Rattle.fed_sim.proofs.script.reading.Reading.take_servers.Goals as goal

pub returns-then-is_some-clause-wrong : goal.returns-then-is_some-clause-wrong
returns-then-is_some-clause-wrong c = servers_again (words_in c.args.names.now) (sym c.is_some.ensures ∙ c.if-is_some.true)

pub returns-in_err-names-clause-wrong : goal.returns-in_err-names-clause-wrong
returns-in_err-names-clause-wrong c =
    let told = err_from_is_err_and c.from_residual.result c.from_residual.ensures.1 in
    rw (told.1, told.2) (wrong_names (said_by c.args.self.now) (words_in c.args.names.now) _ c.in_err-names.ensures.bad)

pub returns-in_err-list_of-clause-wrong : goal.returns-in_err-list_of-clause-wrong
returns-in_err-list_of-clause-wrong c =
    let told = err_from_is_err_and c.from_residual-in_err-list_of.result c.from_residual-in_err-list_of.ensures.1 in
    rw (told.1, told.2) (wrong_list (said_by c.args.self.now) (words_in c.args.names.now) c.deref.result.now (c.deref.ensures.value ∙ c.in_ok-names.ensures.ok) _ c.in_err-list_of.ensures.bad_only)

pub returns-clause-ok : goal.returns-clause-ok
returns-clause-ok c =
    let made : list_fault c.deref.result.now ≡ None = no_fault (list_fault c.deref.result.now) _ c.in_ok-list_of.ensures.bad in
    says_servers (said_by c.args.self.now) (words_in c.args.names.now) c.in_ok-names.names.items c.in_ok-list_of.field-0 c.in_ok-names.ensures.ok (sym c.is_some.ensures ∙ c.if-is_some.false)
    c.in_ok-names.ensures.names (ap list_fault (sym c.deref.ensures.value) ∙ made) (rw c.deref.ensures.value at c.in_ok-list_of.ensures.names) c.in_ok-list_of.ensures.order
