use Rattle.std.proofs.Common.{rules, ◌≡◌, false, true, Option, Some, None, Ok, Err, IfSome, IfNone, length, nat_cmp, sym, subst}
use Rattle.std.specs.Cmp.Lexicographic.{slice_cmp}
use Rattle.std.specs.Ordering.{is_lt}
use Rattle.std.proofs.lemmas.List.Sorted.{answers_always, length_permutation}
use Rattle.std.specs.List.Sorted.{IsSorted, IsPermutation}
use Rattle.fed_dest.specs.declared.list.ListFault.{ListFault}
use Rattle.fed_dest.specs.declared.list.ListFault.TheVariants.{Doubled}
use Rattle.fed_dest.specs.List.{list_fault, has_doubled}
use Rattle.fed_dest.specs.ListParts.{AreInOrder}
use Rattle.fed_dest.proofs.Lists.{rising_are_distinct, level_are_doubled, rise_if_adjacent, doubled_fault, no_fault}
use Rattle.fed_dest.proofs.list.List.new.Goals as goal

pub returns-then-not-is_sorted_by-clause-listed : goal.returns-then-not-is_sorted_by-clause-listed
returns-then-not-is_sorted_by-clause-listed c =
    let names = c.args.names.items in
    let answer = c.if-not-is_sorted_by.ensures.cases (λ x y. is_lt (slice_cmp nat_cmp x y)) (answers_always _ _ _ (λ f a r g called. search rules)) in
    let back : c.sort_unstable.new.self.items ≡ c.deref.result.now = sym c.deref.ensures.value in
    let moved : IsPermutation names c.deref.result.now = subst (IsPermutation names) back c.sort_unstable.ensures.permutation in
    let up : IsSorted (slice_cmp nat_cmp) c.deref.result.now = subst (IsSorted (slice_cmp nat_cmp)) back c.sort_unstable.ensures.sorted in
    let doubled : has_doubled names ≡ true = level_are_doubled names c.deref.result.now answer.0 moved up answer.1 answer.2 in
    let told : list_fault names ≡ Some Doubled = doubled_fault names (search rules) (search rules) doubled in
    let P : Option ListFault → Type 0 = λ o. IfNone o (false ≡ true) in
    subst P (sym told) tt

rising : (c : goal.Else-not-is_sorted_by) → AreInOrder c.sort_unstable.new.self.items
rising c =
    let answer = c.if-not-is_sorted_by.ensures.cases (λ x y. is_lt (slice_cmp nat_cmp x y)) (answers_always _ _ _ (λ f a r g called. search rules)) in
    subst AreInOrder c.deref.ensures.value (rise_if_adjacent c.deref.result.now answer)

pub invariant_of-result : goal.invariant_of-result
invariant_of-result c =
    let same : length c.sort_unstable.new.self.items ≡ length c.args.names.items = length_permutation c.args.names.items c.sort_unstable.new.self.items c.sort_unstable.ensures.permutation in
    record { in_order = rising c; least = search rules; most = search rules }

pub returns-clause-fault : goal.returns-clause-fault
returns-clause-fault c =
    let names = c.args.names.items in
    let single : has_doubled names ≡ false = rising_are_distinct names c.sort_unstable.new.self.items c.sort_unstable.ensures.permutation (rising c) in
    let told : list_fault names ≡ None = no_fault names (search rules) (search rules) single in
    let P : Option ListFault → Type 0 = λ o. IfSome o (λ fault. Ok c.sort_unstable.new.self.items ≡ Err fault) in
    subst P (sym told) tt

pub returns-clause-order : goal.returns-clause-order
returns-clause-order c = rising c
