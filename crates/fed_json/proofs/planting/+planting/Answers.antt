use Rattle.std.proofs.Common.{sym, ap, ◌∙◌, string_bytes}
use Rattle.std.proofs.lemmas.Bool.{and_parts}
use Rattle.serde_json.specs.View.{view as read_view, members_view as read_members}
use Rattle.fed_json.specs.Profile.{all_whole, members_whole}
use Rattle.fed_json.specs.Places.{Entry}
use Rattle.fed_json.specs.Tree.{view, members_view}
use Rattle.fed_json.proofs.Trees.{joined, members_view-after, joined-after, joined-none}
use Rattle.fed_json.proofs.planting.+planting.Goals as goal

pub planted_members-loop-name-preserved : goal.planted_members-loop-name-preserved
planted_members-loop-name-preserved t c =
    let l = c.loop-name in
    let left = read_members c.next.new.self in
    let e : Entry = (c.in-Some.name, c.in_ok-planted.field-0) in
    let step = c.in-Some.ensures.steps in
    let kept = ap members_view c.in_ok-push.ensures.items ∙ members_view-after l.kept.items e in
    record {
      same = ap (λ ms. joined ms left) kept ∙ joined-after (members_view l.kept.items) (string_bytes c.in-Some.name) (view e.1) left ∙ rw c.in_ok-planted.ensures (sym (ap (λ es. joined (members_view l.kept.items) (read_members es)) step) ∙ l.invariant.same);
      whole = (and_parts (all_whole (read_view c.in-Some.member)) _ (sym (ap (λ es. members_whole (read_members es)) step) ∙ l.invariant.whole)).1;
    }

pub planted_members-returns : goal.planted_members-returns
planted_members-returns t c =
    let l = c.loop-name in
    sym (joined-none (members_view l.kept.items)) ∙ sym (ap (λ es. joined (members_view l.kept.items) (read_members es)) c.in-None.ensures.steps.0) ∙ l.invariant.same
