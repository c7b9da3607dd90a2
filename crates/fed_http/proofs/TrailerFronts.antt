-- What is looked at of a trailer, where more bytes follow, and where a section is there.
use Rattle.std.proofs.Common.{arith, ◌≡◌, ℕ, zero, suc, ◌-◌, ◌<◌, ◌≤◌, List, [], ◌∷◌, ◌++◌, length, take, drop, All, refl, sym, ap, ◌∙◌, append_assoc}
use Rattle.std.proofs.lemmas.List.{take-append-drop, take-append-le}
use Rattle.httparse.specs.Grammar.{Field, IsField, LineEnd, print_section}
use Rattle.fed_http.specs.Limits.{max_head, max_fields, window}
use Rattle.fed_http.specs.Lines.{line_feeds, first_lines}
use Rattle.fed_http.specs.Unfinished.{trailer_front}
use Rattle.fed_http.proofs.Windows.{shrunk}
use Rattle.fed_http.proofs.LineCounts.{section_front, section_is, section_feeds}
use Rattle.fed_http.proofs.FirstLines.{first-front, first-append, first-full, first-behind}

take-append : (n : ℕ) (xs ys : List ℕ) → (more : List ℕ) × (take n (xs ++ ys) ≡ take n xs ++ more)
take-append zero xs ys = ([], refl)
take-append (suc n) [] ys = (take (suc n) ys, refl)
take-append (suc n) (x ∷ xs) ys = let more = take-append n xs ys in (more.0, ap (λ v. x ∷ v) more.1)

pub window-append : (xs more : List ℕ) → (left : List ℕ) × (window (xs ++ more) ≡ window xs ++ left)
window-append xs more = take-append max_head xs more

pub front-front : (bytes : List ℕ) → (rest : List ℕ) × (bytes ≡ trailer_front bytes ++ rest)
front-front bytes =
    let lines = first-front (window bytes) (suc max_fields) in (
      lines.0 ++ drop max_head bytes,
      sym (take-append-drop max_head bytes) ∙ ap (λ v. v ++ drop max_head bytes) lines.1 ∙ append_assoc (trailer_front bytes) lines.0 (drop max_head bytes),
    )

pub front-grows : (bytes more : List ℕ) → (left : List ℕ) × (trailer_front (bytes ++ more) ≡ trailer_front bytes ++ left)
front-grows bytes more =
    let w = window-append bytes more in
    let lines = first-append (window bytes) w.0 (suc max_fields) in
    (lines.0, ap (λ v. first_lines v (suc max_fields)) w.1 ∙ lines.1)

pub front-full : (bytes more : List ℕ) → max_head ≤ length bytes → trailer_front (bytes ++ more) ≡ trailer_front bytes
front-full bytes more full = ap (λ v. first_lines v (suc max_fields)) (take-append-le max_head bytes more full)

pub front-many : (bytes more : List ℕ) → max_fields < line_feeds (trailer_front bytes) → trailer_front (bytes ++ more) ≡ trailer_front bytes
front-many bytes more many =
    let w = window-append bytes more in
    ap (λ v. first_lines v (suc max_fields)) w.1 ∙ first-full (window bytes) w.0 (suc max_fields) (omega (arith, many))

-- a section within the limits is among what is looked at
pub front-section : (bytes : List ℕ) (fields : List Field) (end : LineEnd) (after : List ℕ) → All IsField fields → length fields ≤ max_fields → length (print_section fields end) ≤ max_head
    → bytes ≡ print_section fields end ++ after → (rest : List ℕ) × (trailer_front bytes ≡ print_section fields end ++ rest)
front-section bytes fields end after valid few short e =
    let section = print_section fields end in
    let front = section_front fields end in
    let tail = take (max_head - length section) after in
    let feeds = section_feeds fields end valid in
    let left = max_fields - length fields in
    let n : suc max_fields - line_feeds front ≡ suc left = omega (arith, feeds, few) in
    let split : section ++ tail ≡ front ++ 10 ∷ tail = ap (λ v. v ++ tail) (section_is fields end) ∙ append_assoc front (10 ∷ []) tail in
    let window_is : window bytes ≡ front ++ 10 ∷ tail = shrunk max_head bytes section after e short ∙ split in
    let lines : first_lines (front ++ 10 ∷ tail) (suc max_fields) ≡ front ++ first_lines (10 ∷ tail) (suc max_fields - line_feeds front) = first-behind front (10 ∷ tail) (suc max_fields) (omega (arith, feeds, few)) in
    let last : first_lines (10 ∷ tail) (suc max_fields - line_feeds front) ≡ 10 ∷ first_lines tail left = ap (first_lines (10 ∷ tail)) n in (
      first_lines tail left,
      ap (λ v. first_lines v (suc max_fields)) window_is ∙ lines ∙ ap (λ v. front ++ v) last ∙ sym (append_assoc front (10 ∷ []) (first_lines tail left)) ∙ ap (λ v. v ++ first_lines tail left) (sym (section_is fields end)),
    )
