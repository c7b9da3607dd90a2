use Rattle.std.proofs.Common.{◌≡◌, ◌++◌, ℕ, List, [], ◌∷◌, map, length, rules, sym, ap, ◌∙◌, subst, append_assoc}
use Rattle.std.proofs.lemmas.List.{append-nil, nil_from_length}
use Rattle.std.specs.FinMap as finite
use Rattle.fed_json.specs.CanonicalText.{canonical_text}
use Rattle.fed_event.specs.Checked.{CheckedEvent}
use Rattle.fed_txn.specs.Reply.{reply_value}
use Rattle.fed_inbox.specs.Taking.{Taking}
use Rattle.fed_inbox.specs.ReceivedParts.{received}
use Rattle.fed_inbox.proofs.Entering.{Enters, enters_first, enters_next, enters_last}
use Rattle.fed_inbox.proofs.outcome.Outcome.of.Goals as goal

same_taking : {p p' e e' : List (List ℕ)} {f f' : List CheckedEvent} {r r' : List ℕ} → p ≡ p' → e ≡ e' → f ≡ f' → r ≡ r'
    → ◌≡◌ {A = Taking} (record { pdus = p; edus = e; fresh = f; reply = r }) (record { pdus = p'; edus = e'; fresh = f'; reply = r' })
same_taking a b c d i = record { pdus = a i; edus = b i; fresh = c i; reply = d i }

pub loop-element-init : goal.loop-element-init
loop-element-init g c =
    let checks = g.K.Keys.checks c.args.keys.now in
    let rooms = c.args.rooms.now in
    let all = c.args.transaction.pdus.items in
    let left = c.into_iter-element-iterator.result.rest.items in
    let gives : left ≡ all = c.into_iter-element-iterator.ensures.into_iter_gives.0 in
    record {
      texts = ap (λ v. v ++ map canonical_text left) c.new-pdus.ensures ∙ ap (map canonical_text) gives;
      entered = subst (λ r. Enters checks rooms r left all) (sym c.new-received.ensures) (subst (λ l. Enters checks rooms (finite.empty, []) l all) (sym gives) (enters_first checks rooms all));
    }

pub loop-element-preserved : goal.loop-element-preserved
loop-element-preserved g c =
    let checks = g.K.Keys.checks c.args.keys.now in
    let rooms = c.args.rooms.now in
    let all = c.args.transaction.pdus.items in
    let left = c.next.new.self.rest.items in
    let before = c.loop-element.pdus in
    let here : c.loop-element.element-iterator.rest.items ≡ c.in-Some.element ∷ left = search rules in
    record {
      texts = ap (λ v. v ++ map canonical_text left) c.in_ok-push.ensures
          ∙ append_assoc before (c.whole.result.now ∷ []) (map canonical_text left)
          ∙ ap (λ text. before ++ text ∷ map canonical_text left) (c.whole.ensures ∙ ap (λ t. t.whole) c.in_ok-texts.ensures)
          ∙ ap (λ elements. before ++ map canonical_text elements) (sym here)
          ∙ c.loop-element.invariant.texts;
      entered = subst (λ r. Enters checks rooms r left all) (sym c.in_ok-enter.ensures)
          (enters_next checks rooms (received c.loop-element.received) c.in-Some.element left all (subst (λ l. Enters checks rooms (received c.loop-element.received) l all) here c.loop-element.invariant.entered));
    }

pub returns : goal.returns
returns g c =
    let checks = g.K.Keys.checks c.args.keys.now in
    let rooms = c.args.rooms.now in
    let all = c.args.transaction.pdus.items in
    let texts = c.loop-element.pdus in
    let none_left : length c.loop-element.element-iterator.rest.items ≡ 0 = search rules in
    let nothing = nil_from_length c.loop-element.element-iterator.rest.items none_left in
    let ended = enters_last checks rooms (received c.loop-element.received) all (subst (λ l. Enters checks rooms (received c.loop-element.received) l all) nothing c.loop-element.invariant.entered) in
    same_taking (sym (append-nil texts) ∙ ap (λ l. texts ++ map canonical_text l) (sym nothing) ∙ c.loop-element.invariant.texts) c.in_ok-edus.ensures ended.1
    (c.in_ok-reply.ensures.exact ∙ ap (λ verdicts. canonical_text (reply_value verdicts)) ended.0)
