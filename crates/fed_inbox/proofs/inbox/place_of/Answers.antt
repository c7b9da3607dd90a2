use Rattle.std.proofs.Common.{rules, ◌∙◌, nat_cmp}
use Rattle.std.specs.Cmp.Lexicographic.{slice_cmp}
use Rattle.std.specs.List.Sorted.{IsBinarySearchResult}
use Rattle.std.proofs.lemmas.Fn.{always_returns_same}
use Rattle.fed_dest.proofs.Halving.{halved}
use Rattle.fed_inbox.specs.Log.{origin_of}
use Rattle.fed_inbox.proofs.inbox.place_of.Goals as goal

pub returns-clause-place : goal.returns-clause-place
returns-clause-place c =
    let name = c.args.origin.now in
    let at : IsBinarySearchResult (λ log. slice_cmp nat_cmp (origin_of log) name) c.args.logs.now c.binary_search_by.result = c.binary_search_by.ensures.position (λ log. slice_cmp nat_cmp (origin_of log) name) (always_returns_same _ _ _ (λ a r f called. search rules)) in
    c.ok.ensures.value ∙ halved origin_of c.args.logs.now c.requires name c.binary_search_by.result c.binary_search_by.ensures.bound at
