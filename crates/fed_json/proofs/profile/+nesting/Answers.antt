use Rattle.std.proofs.Common.{◌≡◌, ap, ◌∙◌, subst, arith, max}
use Rattle.std.specs.List.Sorted.{IsStrictlySortedBy}
use Rattle.std.specs.Map.{keys_of}
use Rattle.std.specs.String.{string_cmp}
use Rattle.serde_json.specs.Data.{depth, members_depth}
use Rattle.serde_json.specs.View.{view, members_view}
use Rattle.serde_json.proofs.Views.{Entry}
use Rattle.fed_json.specs.Profile.{members_whole, members_rise}
use Rattle.fed_json.proofs.Sorted.{sorted_rest, members_rise-sorted}
use Rattle.fed_json.proofs.profile.+nesting.Goals as goal

pub members_nesting-loop-key-preserved : goal.members_nesting-loop-key-preserved
members_nesting-loop-key-preserved t c =
    let now = c.loop-key.invariant in
    let e : Entry = (c.in-Some._key.now, c.in-Some.member.now) in
    let left = c.next.new.self in
    let steps = c.in-Some.ensures.steps in
    let sorted = subst (λ es. IsStrictlySortedBy string_cmp (keys_of es)) steps now.sorted in
    let found = c.in_ok-depth.ensures.some in
    let deep : members_depth (members_view c.args.members.now.entries) ≡ max c.loop-key.deepest (max (depth (view e.1)) (members_depth (members_view left))) =
    now.deep ∙ ap (λ es. max c.loop-key.deepest (members_depth (members_view es))) steps in
    record {
      whole = now.whole ∙ ap (λ es. members_whole (members_view es)) steps ∙ rw found.whole;
      rising = λ h. now.rising (ap (λ es. members_rise (members_view es)) steps ∙ members_rise-sorted e left sorted found.rising h);
      deep = omega (arith, deep, found.deep, c.max-deepest.ensures);
      sorted = sorted_rest e left sorted;
    }
