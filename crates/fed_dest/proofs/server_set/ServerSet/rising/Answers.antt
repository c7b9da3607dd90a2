use Rattle.std.proofs.Common.{rules, nat_lt, sym, subst, ◌∙◌}
use Rattle.std.specs.List.Sorted.{IsStrictlyIncreasing}
use Rattle.std.proofs.lemmas.Bool.{ltb-true, lt-ltb, false≢true}
use Rattle.std.proofs.lemmas.List.Sorted.{answers_always}
use Rattle.fed_dest.proofs.server_set.ServerSet.rising.Goals as goal

rising : (c : goal.Else-not-is_sorted_by) → IsStrictlyIncreasing c.args.servers.items
rising c =
    let answer = c.if-not-is_sorted_by.ensures.cases nat_lt (answers_always _ _ _ (λ f a r g called. search rules)) in
    subst IsStrictlyIncreasing c.deref.ensures.value (λ k within. ltb-true _ _ (sym (answer k 0 within)))

pub returns-then-not-is_sorted_by-clause-none : goal.returns-then-not-is_sorted_by-clause-none
returns-then-not-is_sorted_by-clause-none c =
    let answer = c.if-not-is_sorted_by.ensures.cases nat_lt (answers_always _ _ _ (λ f a r g called. search rules)) in
    λ _ rise.
    let less = subst IsStrictlyIncreasing (sym c.deref.ensures.value) rise answer.0 answer.1 in
    false≢true (answer.2 0 ∙ lt-ltb _ _ less)

pub invariant_of-result : goal.invariant_of-result
invariant_of-result c = rising c

pub returns-clause-rising : goal.returns-clause-rising
returns-clause-rising c = λ _. rising c
