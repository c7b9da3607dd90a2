-- Seats that are made one after another, and taken one after another.
use Rattle.std.proofs.Common.{◌≡◌, ℕ, zero, suc, ◌+◌, ◌-◌, ◌<◌, ◌≤◌, ◌⊎◌, inl, inr, List, [], ◌∷◌, ◌++◌, All, Some, drop, get_or, length, set, take, sym, ap, ◌∙◌, subst, ⊎_elim, length-append, arith}
use Rattle.std.proofs.lemmas.List.{get_or-drop, get_or-take, length-drop, length-take-le, set-get_or}
use Rattle.std.proofs.lemmas.List.Elements.{All-get_or, All-pop}
use Rattle.atomic_table.proofs.Lists.{at_longer, at_last}
use Rattle.fed_wires.specs.declared.board_rule.Owned.{Owned}
use Rattle.fed_wires.specs.Board.{BoardId, word_count}
use Rattle.fed_wires.specs.Seat.{Seated, new_seat, AreNewSeats, AreAll, AreAt, HasShown, IsOwner, IsReader, NoneSawMore}
use Rattle.fed_wires.proofs.Views.{each_more}

pub one_more : (board : BoardId) (n : ℕ) (words : ℕ → Owned) (seats more : List Seated) (s : Seated) → more ≡ seats ++ s ∷ [] → s ≡ new_seat board (words n) → AreNewSeats board n words seats → AreNewSeats board (n + 1) words more
one_more board n words seats more s items is all =
    subst (AreNewSeats board (n + 1) words) (sym items)
    (omega (arith, all.0, length-append seats (s ∷ [])), each_more (λ (k : ℕ) (u : Seated). u ≡ new_seat board (words k)) seats s all.1 (is ∙ ap (λ (k : ℕ). new_seat board (words k)) (sym all.0)))

pub one_less : (board : BoardId) (all rest : List Seated) (s : Seated) → all ≡ rest ++ s ∷ [] → AreAt board all → AreAt board rest × (s.board ≡ board)
one_less board all rest s items at = All-pop (λ (x : Seated). x.board ≡ board) all rest (Some s) items at

-- one of some new seats is taken, the last
pub one_fewer : (board : BoardId) (m n : ℕ) (words : ℕ → Owned) (all rest : List Seated) (s : Seated) → m ≡ n + 1 → all ≡ rest ++ s ∷ [] → AreNewSeats board m words all → AreNewSeats board n words rest × (s ≡ new_seat board (words n))
one_fewer board m n words all rest s more items are =
    let are' : AreNewSeats board m words (rest ++ s ∷ []) = subst (AreNewSeats board m words) items are in
    let len : length rest ≡ n = omega (arith, are'.0, length-append rest (s ∷ [])) in
    ((len, λ k u e. are'.1 k u (at_longer rest (s ∷ []) k u e)), are'.1 n s (at_last rest s n len))

-- a seat of a list is put back as it was
pub put_back : (seats now : List Seated) (k : ℕ) (s d : Seated) → now ≡ seats → s ≡ get_or now k d → set now k s ≡ seats
put_back seats now k s d same is = ap (set now k) is ∙ set-get_or now k d ∙ same

-- one of the first seats, all of which are owners'
pub owner_at : (words : ℕ) (seats now : List Seated) (k : ℕ) (d : Seated) → k < words → words ≤ length seats → now ≡ seats → All IsOwner (take words seats) → IsOwner (get_or now k d)
owner_at words seats now k d in_front few same are =
    let within : k < length (take words seats) = omega (arith, in_front, length-take-le words seats few) in
    subst (λ (xs : List Seated). IsOwner (get_or xs k d)) (sym same) (subst IsOwner (get_or-take words seats k d in_front) (All-get_or IsOwner (take words seats) k d within are))

-- in front of n, or not
beside : (n k : ℕ) → (k < n) ⊎ (n ≤ k)
beside zero k = inr (omega arith)
beside (suc n) zero = inl (omega arith)
beside (suc n) (suc k) = ⊎_elim (λ (low : k < n). inl (omega (arith, low))) (λ (high : n ≤ k). inr (omega (arith, high))) (beside n k)

-- what holds of each owner's seat, those in front, holds of each seat that owns a word
pub of_owners : (board : BoardId) (readers : ℕ) (seats : List Seated) (P : Seated → Type 0) → AreAll board readers seats → All P (take (word_count board) seats) → All (λ s. IsOwner s → P s) seats
of_owners board readers seats P all front k d within owner =
    let words : ℕ = word_count board in
    ⊎_elim
    (λ (low : k < words). subst P (get_or-take words seats k d low) (All-get_or P (take words seats) k d (omega (arith, low, length-take-le words seats (omega (arith, all.count)))) front))
    (λ (high : words ≤ k).
    let place : ℕ = words + (k - words) in
    let here : place ≡ k = omega (arith, high) in
    let behind : get_or (drop words seats) (k - words) d ≡ get_or seats k d = get_or-drop words seats (k - words) d ∙ ap (λ n. get_or seats n d) here in
    let reader : IsReader (get_or seats k d) = subst IsReader behind (All-get_or IsReader (drop words seats) (k - words) d (omega (arith, high, within, length-drop words seats)) all.then_readers) in
    absurd (omega (arith, owner, ap (λ o. o.from) reader, ap (λ o. o.until) reader)))
    (beside words k)

-- each seat was compared with those of the owners
pub none_saw_more : (board : BoardId) (readers : ℕ) (seats : List Seated) → AreAll board readers seats → All (λ (s : Seated). All (HasShown s.seen) (take (word_count board) seats)) seats → NoneSawMore seats
none_saw_more board readers seats all compared k d within owner j e inside = of_owners board readers seats (HasShown (get_or seats j e).seen) all (compared j e inside) k d within owner
