use Rattle.std.proofs.Common.{None, subst}
use Rattle.fed_sim.specs.Script.{IsScript, IsNoScriptBy}
use Rattle.fed_app.proofs.SimEnds.{io_fails, script_fails, setup_fails, script_runs}
use Rattle.fed_app.proofs.sim.sim_run.Goals as goal

pub returns-in_err-text-clause-end : goal.returns-in_err-text-clause-end
returns-in_err-text-clause-end g c = io_fails (g.R.Read.remaining c.args.reader) _ _ _ c.from_residual.result c.from_residual.ensures.1

pub returns-in_err-setup-clause-end : goal.returns-in_err-setup-clause-end
returns-in_err-setup-clause-end g c =
    script_fails (g.R.Read.remaining c.args.reader) c.in_ok-text.text.items c.in_err-setup.field-0.0 _ c.from_residual-in_err-setup.result c.in_ok-text.ensures.text
    c.from_residual-in_err-setup.ensures.1 (subst (λ t. IsNoScriptBy t c.in_err-setup.field-0.0) c.deref.ensures.value c.in_err-setup.ensures.wrong)

pub returns-in_err-world-clause-end : goal.returns-in_err-world-clause-end
returns-in_err-world-clause-end g c =
    setup_fails (g.R.Read.remaining c.args.reader) c.in_ok-text.text.items c.in_ok-setup.setup c.in_ok-setup.steps.items c.in_err-world.field-0.0 _ c.from_residual-in_err-world.result c.in_ok-text.ensures.text
    c.from_residual-in_err-world.ensures.1 (subst (λ t. IsScript t c.in_ok-setup.setup c.in_ok-setup.steps.items) c.deref.ensures.value c.in_ok-setup.ensures.script) c.in_err-world.ensures.bad_only

pub returns-in_err-write_lines-clause-end : goal.returns-in_err-write_lines-clause-end
returns-in_err-write_lines-clause-end g c = io_fails (g.R.Read.remaining c.args.reader) _ _ _ c.from_residual-in_err-write_lines.result c.from_residual-in_err-write_lines.ensures.1

pub returns-clause-end : goal.returns-clause-end
returns-clause-end g c =
    script_runs (g.R.Read.remaining c.args.reader) c.in_ok-text.text.items c.in_ok-setup.setup c.in_ok-setup.steps.items None None _ c.in_ok-text.ensures.text
    (subst (λ t. IsScript t c.in_ok-setup.setup c.in_ok-setup.steps.items) c.deref.ensures.value c.in_ok-setup.ensures.script)
