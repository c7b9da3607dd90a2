use Rattle.std.proofs.Common.{◌≡◌, ◌<◌, List, None, Some, length, ap, sym, subst, ◌∙◌}
use Rattle.std.specs.List.{position}
use Rattle.fed_inbox.specs.Log.{TakenFrom}
use Rattle.fed_inbox.specs.LogParts.{is_from}
use Rattle.fed_inbox.specs.Inbox.{Held, edus_by, taken_edus_of}
use Rattle.fed_inbox.proofs.Places.{log_found, log_missing}
use Rattle.fed_inbox.proofs.inbox.Inbox.taken_edus.Goals as goal

pub returns-in-Some : goal.returns-in-Some
returns-in-Some g c =
    let origin = c.args.origin.now in
    let logs = c.self.inside.logs.items in
    let place = subst (λ (ls : List TakenFrom). Some c.in-Some.place ≡ position (is_from origin) ls) c.deref.ensures.value c.in-Some.ensures.place in
    let within = subst (λ (ls : List TakenFrom). c.in-Some.place < length ls) c.deref.ensures.value c.in-Some.ensures.within in
    let found = log_found (g.S.ReplyStore.kept c.self.inside.store) origin logs c.in-Some.place c.index.result.now place within c.index.ensures in
    c.edus.ensures ∙ ap edus_by (sym found) ∙ ap (λ (h : Held). taken_edus_of h.state origin) c.self.view_is

pub returns-in-None : goal.returns-in-None
returns-in-None g c =
    let origin = c.args.origin.now in
    let place = subst (λ (ls : List TakenFrom). None ≡ position (is_from origin) ls) c.deref.ensures.value c.in-None.ensures.place in
    c.of.ensures ∙ ap edus_by (sym (log_missing (g.S.ReplyStore.kept c.self.inside.store) origin c.self.inside.logs.items place)) ∙ ap (λ (h : Held). taken_edus_of h.state origin) c.self.view_is
