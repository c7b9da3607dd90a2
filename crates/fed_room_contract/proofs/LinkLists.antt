-- Lists of places, one after another.
use Rattle.std.proofs.Common.{◌≡◌, ◌<◌, ◌≤◌, ◌+◌, ◌-◌, ◌++◌, ◌∷◌, [], ℕ, suc, List, true, false, Option, None, Some, IfSome, length, take, drop, map, get_or, unwrap_or, append-nil, sym, ap, ◌∙◌, ◌⊎◌, inl, inr, arith, length-append}
use Rattle.std.specs.List.{concat, slice_range}
use Rattle.std.specs.Slice.{IsGetRangeResult}
use Rattle.std.specs.Borrow.{Bor}
use Rattle.std.proofs.lemmas.Bool.{cases_lt}
use Rattle.std.proofs.lemmas.List.{length-map, take_more, take-append-le, take-append-drop}
use Rattle.std.proofs.lemmas.List.Folds.{concat-append}
use Rattle.std.proofs.Math.ListN.{get_or-append}
use Rattle.std.proofs.Math.Seq.{split_at, drop-append_seam, take-append_seam, get_or-append_seam}

-- the list at an index stands between the starts of it and of the next one
cut : (lists : List (List ℕ)) (i : ℕ) → i < length lists → slice_range (concat lists) (length (concat (take i lists))) (length (concat (take (i + 1) lists))) ≡ get_or lists i []
cut lists i below =
    let front : List ℕ = concat (take i lists) in
    let here : List ℕ = get_or lists i [] in
    let back : List ℕ = concat (drop (suc i) lists) in
    let whole : concat lists ≡ front ++ (here ++ back) = ap concat (split_at lists i [] below) ∙ concat-append (take i lists) (here ∷ drop (suc i) lists) in
    let end : length (concat (take (i + 1) lists)) ≡ length front + length here =
    ap (λ ls. length (concat ls)) (take_more lists i [] below) ∙ ap length (concat-append (take i lists) (here ∷ [])) ∙ length-append front (here ++ []) ∙ ap (λ h. length front + length h) (append-nil here) in
    let more : length front + length here - length front ≡ length here = omega arith in
    ap (λ ps. slice_range ps (length front) (length (concat (take (i + 1) lists)))) whole
    ∙ ap (λ e. slice_range (front ++ (here ++ back)) (length front) e) end
    ∙ ap (λ ps. take (length front + length here - length front) ps) (drop-append_seam front (here ++ back))
    ∙ ap (λ n. take n (here ++ back)) more
    ∙ take-append_seam here back

shorter : (lists : List (List ℕ)) (i : ℕ) → i < length lists → length (concat (take i lists)) ≤ length (concat (take (i + 1) lists))
shorter lists i below =
    let end = ap (λ ls. length (concat ls)) (take_more lists i [] below) ∙ ap length (concat-append (take i lists) (get_or lists i [] ∷ [])) ∙ length-append (concat (take i lists)) (get_or lists i [] ++ []) in
    omega arith

within : (lists : List (List ℕ)) (i : ℕ) → length (concat (take i lists)) ≤ length (concat lists)
within lists i =
    let whole = ap length (sym (concat-append (take i lists) (drop i lists)) ∙ ap concat (take-append-drop i lists)) in
    let sum = length-append (concat (take i lists)) (concat (drop i lists)) in
    omega arith

given : (xs : List ℕ) (a b : ℕ) (r : Option (Bor (List ℕ))) (other : Bor (List ℕ)) → IsGetRangeResult xs a b r → a ≤ b → b ≤ length xs → (unwrap_or r other).now ≡ slice_range xs a b
given xs a b None other h up inside = absurd (let no : false ≡ true = h.1 (up, inside) in cc)
given xs a b (Some x) other h up inside = h.0.2

-- what is read between two starts
pub part : (lists : List (List ℕ)) (places : List ℕ) → places ≡ concat lists → (i a b : ℕ) → i < length lists → a ≡ length (concat (take i lists)) → b ≡ length (concat (take (i + 1) lists))
    → (r : Option (Bor (List ℕ))) (other : Bor (List ℕ)) → IsGetRangeResult places a b r → (unwrap_or r other).now ≡ get_or lists i []
part lists places whole i a b below start end r other h =
    let more = shorter lists i below in
    let most = within lists (i + 1) in
    let same = ap length whole in
    given places a b r other h (omega arith) (omega arith)
    ∙ ap (λ ps. slice_range ps a b) whole ∙ ap (λ k. slice_range (concat lists) k b) start ∙ ap (λ k. slice_range (concat lists) (length (concat (take i lists))) k) end ∙ cut lists i below

-- one list more: where each starts
pub starts-more : (lists : List (List ℕ)) (last starts : List ℕ) (start : ℕ) → length starts ≡ length lists → start ≡ length (concat lists)
    → ((k : ℕ) → k < length lists → get_or starts k 0 ≡ length (concat (take k lists)))
    → (k : ℕ) → k < length (lists ++ last ∷ []) → get_or (starts ++ start ∷ []) k 0 ≡ length (concat (take k (lists ++ last ∷ [])))
starts-more lists last starts start long here each k below = by (cases_lt k (length lists))
  where
    by : (k < length lists) ⊎ (length lists ≤ k) → get_or (starts ++ start ∷ []) k 0 ≡ length (concat (take k (lists ++ last ∷ [])))
    by (inl less) =
        get_or-append starts (start ∷ []) 0 k (omega arith) ∙ each k less ∙ ap (λ ls. length (concat ls)) (sym (take-append-le k lists (last ∷ []) (omega arith)))
    by (inr more) =
        let sum = length-append lists (last ∷ []) in
        let same : k ≡ length lists = omega arith in
        let seam : k ≡ length starts = omega arith in
        ap (λ n. get_or (starts ++ start ∷ []) n 0) seam ∙ get_or-append_seam starts start [] 0 ∙ here
        ∙ ap (λ ls. length (concat ls)) (sym (take-append_seam lists (last ∷ []))) ∙ ap (λ n. length (concat (take n (lists ++ last ∷ [])))) (sym same)

-- as many texts as items, which are at most so many
pub few_texts : {X : Type 0} (text : X → List ℕ) (o : Option (List X)) (most : ℕ) → IfSome o (λ items. length items ≤ most) → length (map text (unwrap_or o [])) ≤ most
few_texts text None most h = omega arith
few_texts text (Some items) most h = let same = length-map items text in omega arith
