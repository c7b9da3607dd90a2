-- The seats at a board that ends: those that own the words of outboxes, and behind them those of readers.
use Rattle.std.proofs.Common.{◌≡◌, ℕ, zero, suc, ◌+◌, ◌<◌, ◌≤◌, List, [], ◌∷◌, ◌++◌, All, append_assoc, append-nil, drop, drop_of_length-le, get_or, length, length-append, slice_index, take, take_all, sym, ap, ◌∙◌, subst, arith}
use Rattle.std.specs.List.{AllZip}
use Rattle.std.proofs.Math.ListN.{get_or-append}
use Rattle.std.proofs.Math.Seq.{drop-append_seam, take-append_seam}
use Rattle.std.proofs.lemmas.List.{drop-append-le, get_or-append-add}
use Rattle.std.proofs.lemmas.List.Elements.{All-append, All-push, All-weaker}
use Rattle.std.proofs.lemmas.Slice.Zip.{AllZip-long}
use Rattle.fed_outbox.specs.Outbox.{OutboxState}
use Rattle.fed_wires.specs.Board.{BoardId, word_count}
use Rattle.fed_wires.specs.Seat.{Seated, AreAll, HasShown, IsOwner, IsReader, NoneSawMore}
use Rattle.fed_hub.specs.Report.{NoReaderSawMore}
use Rattle.fed_hub.specs.Seats.{IsReaderAt, IsSeatOf}

-- a list that was lent and came back as it was
pub written_back : {X : Type 0} (xs now : List X) (n : ℕ) → length xs ≤ n → now ≡ xs → take n (now ++ drop (length now) xs) ≡ xs
written_back {X} xs now n within is =
    let back : List X → List X = λ ys. take n (ys ++ drop (length ys) xs) in
    ap back is ∙ ap (λ (ys : List X). take n (xs ++ ys)) (drop_of_length-le xs (omega arith)) ∙ ap (take n) (append-nil xs) ∙ take_all n xs within

-- those taken, and behind them those that are left, are all; so once one more is taken
pub one_taken : {X : Type 0} (taken more left others all : List X) (x y : X) → more ≡ taken ++ x ∷ [] → x ≡ y → left ≡ y ∷ others → taken ++ left ≡ all → more ++ others ≡ all
one_taken {X} taken more left others all x y is same left_is are =
    ap (λ (xs : List X). xs ++ others) is ∙ append_assoc taken (x ∷ []) others ∙ ap (λ (z : X). taken ++ z ∷ others) same ∙ ap (λ (xs : List X). taken ++ xs) (sym left_is) ∙ are

pub one_fit : {A B : Type 0} (R : A → B → Type 0) (xs : List A) (ys : List B) (x : A) (y : B) → AllZip R xs ys → R x y → AllZip R (xs ++ x ∷ []) (ys ++ y ∷ [])
one_fit R [] [] x y all fit = (fit, tt)
one_fit R [] (b ∷ bs) x y all fit = absurd all
one_fit R (a ∷ xs) [] x y all fit = absurd all
one_fit R (a ∷ xs) (b ∷ bs) x y all fit = (all.0, one_fit R xs bs x y all.1 fit)

-- a reader's seat is put behind those in front, and behind the readers'
pub one_reader : (P : Seated → Type 0) (n : ℕ) (seats more : List Seated) (s : Seated) → more ≡ seats ++ s ∷ [] → n ≤ length seats → All P (drop n seats) → P s → All P (drop n more)
one_reader P n seats more s is within are one = subst (All P) (sym (ap (drop n) is ∙ drop-append-le n seats (s ∷ []) within)) (All-push P (drop n seats) s are one)

-- none is left, so those taken are all
pub all_taken : {X : Type 0} (taken left all : List X) → length left ≡ 0 → taken ++ left ≡ all → taken ≡ all
all_taken taken [] all none are = sym (append-nil taken) ∙ are
all_taken taken (x ∷ xs) all none are = absurd (omega (arith, none))

fit_at : {A B : Type 0} (R : A → B → Type 0) (xs : List A) (ys : List B) (i : ℕ) (x : A) (y : B) → AllZip R xs ys → i < length xs → R (get_or xs i x) (get_or ys i y)
fit_at R [] [] i x y all within = absurd (omega (arith, within))
fit_at R [] (b ∷ bs) i x y all within = absurd all
fit_at R (a ∷ xs) [] i x y all within = absurd all
fit_at R (a ∷ xs) (b ∷ bs) zero x y all within = all.0
fit_at R (a ∷ xs) (b ∷ bs) (suc i) x y all within = fit_at R xs bs i x y all.1 (omega (arith, within))

-- what holds of the seat of each outbox
of_seats : (board : BoardId) (outboxes : List OutboxState) (seats : List Seated) (P : Seated → Type 0) → AllZip (IsSeatOf board) outboxes seats
    → ((o : OutboxState) (s : Seated) → IsSeatOf board o s → P s) → All P seats
of_seats board [] [] P are all k d within = absurd (omega (arith, within))
of_seats board [] (s ∷ seats) P are all k d within = absurd are
of_seats board (o ∷ outboxes) [] P are all k d within = absurd are
of_seats board (o ∷ outboxes) (s ∷ seats) P are all zero d within = all o s are.0
of_seats board (o ∷ outboxes) (s ∷ seats) P are all (suc k) d within = of_seats board outboxes seats P are.1 all k d (omega (arith, within))

-- they are all seats at the board
pub all_seats : (board : BoardId) (readers : ℕ) (outboxes : List OutboxState) (owners others seats : List Seated) → word_count board ≡ length outboxes → readers ≡ length others
    → AllZip (IsSeatOf board) outboxes owners → All (IsReaderAt board) others → seats ≡ owners ++ others → AreAll board readers seats
all_seats board readers outboxes owners others seats words count are_owners are_readers is =
    let long = AllZip-long (IsSeatOf board) outboxes owners are_owners in
    let at : Seated → Type 0 = λ s. s.board ≡ board in
    let all : AreAll board readers (owners ++ others) = record {
      count = omega (arith, long, words, count, length-append owners others);
      same_board = All-append at owners others (of_seats board outboxes owners at are_owners (λ o s is. is.0)) (All-weaker (IsReaderAt board) at (λ s is. is.0) others are_readers);
      owners_first = subst (All IsOwner) (sym (ap (λ n. take n (owners ++ others)) (words ∙ sym long) ∙ take-append_seam owners others)) (of_seats board outboxes owners IsOwner are_owners (λ o s is. ap (λ w. w.until) is.1 ∙ ap (λ w. w.from + 1) (sym is.1)));
      then_readers = subst (All IsReader) (sym (ap (λ n. drop n (owners ++ others)) (words ∙ sym long) ∙ drop-append_seam owners others)) (All-weaker (IsReaderAt board) IsReader (λ s is. is.1) others are_readers);
    } in
    subst (AreAll board readers) (sym is) all

-- what no seat has seen, no reader has
pub no_reader_saw_more : (board : BoardId) (outboxes : List OutboxState) (owners others seats : List Seated) → AllZip (IsSeatOf board) outboxes owners → seats ≡ owners ++ others → NoneSawMore seats → NoReaderSawMore outboxes others
no_reader_saw_more board outboxes owners others seats are is none k o within j s inside =
    let long = AllZip-long (IsSeatOf board) outboxes owners are in
    let all : NoneSawMore (owners ++ others) = subst NoneSawMore is none in
    let few = length-append owners others in
    let seat : Seated = get_or owners k s in
    let mine : IsSeatOf board (get_or outboxes k o) seat = fit_at (IsSeatOf board) outboxes owners k o s are within in
    let here : get_or (owners ++ others) k s ≡ seat = get_or-append owners others s k (omega (arith, within, long)) in
    let there : get_or (owners ++ others) (length owners + j) s ≡ get_or others j s = get_or-append-add owners others j s in
    let owner : IsOwner seat = ap (λ w. w.until) mine.1 ∙ ap (λ w. w.from + 1) (sym mine.1) in
    let saw = all k s (omega (arith, within, long, few)) (subst IsOwner (sym here) owner) (length owners + j) s (omega (arith, inside, few)) in
    subst (λ w. slice_index (get_or others j s).seen w.from ≤ w.count) mine.1 (subst (λ x. HasShown x.seen seat) there (subst (λ x. HasShown (get_or (owners ++ others) (length owners + j) s).seen x) here saw))
