use Rattle.std.proofs.Common.{[], length, Some, None, refl, sym, ap, ◌∙◌, subst}
use Rattle.fed_http.specs.Message.{Answer}
use Rattle.fed_inbox.specs.declared.refusal.Refusal.TheVariants.{OutOfMemory}
use Rattle.fed_inbox.specs.Reply.{refused}
use Rattle.fed_hub_serving.specs.Sections.{RequestIsTaken, no_memory, served}
use Rattle.fed_hub_serving.specs.Serving.{ServingState}
use Rattle.fed_hub_serving.proofs.Takes.{takes, no_memory_is_told}
use Rattle.fed_hub_serving.proofs.kept_inbox.KeptInbox.take.Goals as goal

pub returns-in-Err-Memory-clause-taken : goal.returns-in-Err-Memory-clause-taken
returns-in-Err-Memory-clause-taken g c =
    let N = g.N.ServingNaming in
    let old = c.args.self.now in
    let request = c.args.judged.request in
    let told = refused OutOfMemory in
    subst (λ (s : ServingState). RequestIsTaken N.checks N.known request old c.from.result None s) (sym c.in-Err-Memory.ensures.err)
    (subst (λ (a : Answer). RequestIsTaken N.checks N.known request old a None old) (sym c.from.ensures)
    (no_memory refl refl (takes N.checks N.known request old.inbox told old.inbox [] (no_memory_is_told N.checks old.inbox request))))

pub returns-clause-taken : goal.returns-clause-taken
returns-clause-taken g c =
    served c.serve.new.self c.in-Ok.ensures.served (ap Some (c.len.ensures ∙ c.self.inside.points.ok.0 ∙ ap (λ (s : ServingState). length s.points) c.self.view_is))
