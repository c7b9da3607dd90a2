-- How many a list has of what is picked, as far as a loop has come.
use Rattle.std.proofs.Common.{◌≡◌, ℕ, ◌+◌, ◌<◌, List, [], ◌∷◌, ◌++◌, length, get_or, take, sym, ap, ◌∙◌}
use Rattle.std.specs.List.{filter_map, cons_option}
use Rattle.std.specs.Prelude.{Option}
use Rattle.std.proofs.lemmas.List.{length-append, take_more}
use Rattle.std.proofs.lemmas.List.Elements.{filter_map-append}

pub one_more_picked : {X Y : Type 0} (pick : X → Option Y) (xs : List X) (i : ℕ) (x : X) → i < length xs → x ≡ get_or xs i x
    → length (filter_map pick (take (i + 1) xs)) ≡ length (filter_map pick (take i xs)) + length (cons_option (pick x) [])
one_more_picked pick xs i x within is =
    ap (λ ys. length (filter_map pick ys)) (take_more xs i x within ∙ ap (λ y. take i xs ++ y ∷ []) (sym is))
    ∙ ap length (filter_map-append pick (take i xs) (x ∷ []))
    ∙ length-append (filter_map pick (take i xs)) (cons_option (pick x) [])
