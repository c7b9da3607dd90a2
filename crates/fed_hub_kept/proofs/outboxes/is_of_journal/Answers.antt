use Rattle.std.proofs.Common.{◌≡◌, true, false, [], drop, refl, sym, ap, ◌∙◌, subst}
use Rattle.std.proofs.lemmas.Bool.{false≢true}
use Rattle.std.proofs.lemmas.List.{drop_all}
use Rattle.fed_journal.specs.Journal.{loads}
use Rattle.fed_hub_kept.specs.Left.{left_in}
use Rattle.fed_hub_kept.proofs.Fronts.{IsFront, nothing_fronts, front_of_none}
use Rattle.fed_hub_kept.proofs.Walks.{told, Turn, passed, closed, refused}
use Rattle.fed_hub_kept.proofs.outboxes.is_of_journal.Goals as goal

pub returns-then-is_empty : goal.returns-then-is_empty
returns-then-is_empty c =
    told c.nothing_is_lost_on_the_way.ensures.accepted c.args.entries.now c.args.outbox.now c.dest-dest.result (true ≡ true) c.dest-dest.ensures (λ _. refl)
    (λ _. c.loop-entry.invariant.1 (nothing_fronts (left_in c.loop-entry.left) _ (sym c.is_empty.ensures ∙ c.if-is_empty.true)))

pub returns-then-not-take : goal.returns-then-not-take
returns-then-not-take c =
    let turn : Turn c.args.entries.now c.dest-dest.result c.loop-entry.entry-index c.entry-item.result (left_in c.loop-entry.left) (left_in c.take.new.self) c.take.result =
    record { within = c.loop-entry-test.true; here = c.entry-item.is; some = sym c.is_empty.ensures ∙ c.if-is_empty.false; first = c.take.ensures.first; rest = c.take.ensures.rest } in
    told c.nothing_is_lost_on_the_way.ensures.accepted c.args.entries.now c.args.outbox.now c.dest-dest.result (false ≡ true) c.dest-dest.ensures
    (λ f. refused _ _ _ _ _ _ _ turn c.if-not-take.true (c.loop-entry.invariant.0 f))
    (λ e. absurd (false≢true e))

pub returns-then-closes : goal.returns-then-closes
returns-then-closes c =
    let turn : Turn c.args.entries.now c.dest-dest.result c.loop-entry.entry-index c.entry-item.result (left_in c.loop-entry.left) (left_in c.take.new.self) c.take.result =
    record { within = c.loop-entry-test.true; here = c.entry-item.is; some = sym c.is_empty.ensures ∙ c.if-is_empty.false; first = c.take.ensures.first; rest = c.take.ensures.rest } in
    let both = closed _ _ _ _ _ _ _ turn c.if-not-take.false (sym c.closes.ensures ∙ c.if-closes.true) in
    told c.nothing_is_lost_on_the_way.ensures.accepted c.args.entries.now c.args.outbox.now c.dest-dest.result (c.is_empty-then-closes.result ≡ true) c.dest-dest.ensures
    (λ f. c.is_empty-then-closes.ensures ∙ both.0 (c.loop-entry.invariant.0 f))
    (λ e. c.loop-entry.invariant.1 (both.1 (sym c.is_empty-then-closes.ensures ∙ e)))

pub loop-entry-preserved : goal.loop-entry-preserved
loop-entry-preserved c =
    let turn : Turn c.args.entries.now c.dest-dest.result c.loop-entry.entry-index c.entry-item.result (left_in c.loop-entry.left) (left_in c.take.new.self) c.take.result =
    record { within = c.loop-entry-test.true; here = c.entry-item.is; some = sym c.is_empty.ensures ∙ c.if-is_empty.false; first = c.take.ensures.first; rest = c.take.ensures.rest } in
    let both = passed _ _ _ _ _ _ _ turn c.if-not-take.false (sym c.closes.ensures ∙ c.if-closes.false) in
    (λ f. both.0 (c.loop-entry.invariant.0 f), λ f. c.loop-entry.invariant.1 (both.1 f))

pub returns : goal.returns
returns c =
    let none : loads (drop c.loop-entry.entry-index c.args.entries.now) c.dest-dest.result ≡ [] =
    ap (λ es. loads es c.dest-dest.result) (drop_all c.loop-entry.entry-index c.args.entries.now c.loop-entry-test.false) in
    told c.nothing_is_lost_on_the_way.ensures.accepted c.args.entries.now c.args.outbox.now c.dest-dest.result (c.is_empty-2.result ≡ true) c.dest-dest.ensures
    (λ f. c.is_empty-2.ensures ∙ front_of_none (left_in c.loop-entry.left) (subst (IsFront (left_in c.loop-entry.left)) none (c.loop-entry.invariant.0 f)))
    (λ e. c.loop-entry.invariant.1 (nothing_fronts (left_in c.loop-entry.left) _ (sym c.is_empty-2.ensures ∙ e)))
