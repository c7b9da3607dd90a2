use Rattle.std.proofs.Common.{◌≡◌, ℕ, List, ◌++◌, Bor, Option, Some, None, IfSome, MatchOption}
use Rattle.std.proofs.lemmas.Bool.Decides.{Decides-eqb}
use Rattle.std.proofs.lemmas.Slice.Eq.{strip_prefix_is}
use Rattle.fed_replies.proofs.plain.behind.Goals as goal

where_some : (r : Option (Bor (List ℕ))) (N : Type 0) (P : Bor (List ℕ) → Type 0) → MatchOption r N P → IfSome r P
where_some None N P h = tt
where_some (Some x) N P h = h

pub returns : goal.returns
returns c =
    let text = c.args.text.now in
    let front = c.args.front.now in
    where_some c.strip_prefix.result ((rest : List ℕ) → c.args.text.now ≡ c.args.front.now ++ rest → ⊥) (λ rest. c.args.text.now ≡ c.args.front.now ++ rest.now)
    (strip_prefix_is Decides-eqb c.args.text.now c.args.front.now c.strip_prefix.result c.strip_prefix.ensures.cases)
