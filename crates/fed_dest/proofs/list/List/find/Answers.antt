use Rattle.std.proofs.Common.{rules, Some, nat_cmp, ap, ◌∙◌}
use Rattle.std.specs.Cmp.Lexicographic.{slice_cmp}
use Rattle.std.specs.List.Sorted.{IsBinarySearchResult}
use Rattle.std.proofs.lemmas.Fn.{always_returns_same}
use Rattle.fed_dest.proofs.Lists.{halved_names}
use Rattle.fed_dest.proofs.list.List.find.Goals as goal

pub returns-in_err-place-clause-place : goal.returns-in_err-place-clause-place
returns-in_err-place-clause-place c =
    let name = c.args.name.now in
    let at : IsBinarySearchResult (λ other. slice_cmp nat_cmp other name) c.deref.result.now c.binary_search_by.result = c.binary_search_by.ensures.position (λ other. slice_cmp nat_cmp other name) (always_returns_same _ _ _ (λ a r f called. search rules)) in
    c.from_residual.ensures ∙ c.in_err-place.ensures.value ∙ halved_names c.args.self.now c.deref.result.now name c.binary_search_by.result (search rules) (search rules) c.binary_search_by.ensures.bound at

pub returns-clause-place : goal.returns-clause-place
returns-clause-place c =
    let name = c.args.name.now in
    let at : IsBinarySearchResult (λ other. slice_cmp nat_cmp other name) c.deref.result.now c.binary_search_by.result = c.binary_search_by.ensures.position (λ other. slice_cmp nat_cmp other name) (always_returns_same _ _ _ (λ a r f called. search rules)) in
    ap Some c.new.ensures ∙ c.in_ok-place.ensures.value ∙ halved_names c.args.self.now c.deref.result.now name c.binary_search_by.result (search rules) (search rules) c.binary_search_by.ensures.bound at
