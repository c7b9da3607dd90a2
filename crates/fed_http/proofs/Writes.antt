-- What a writer holds after one write and another.
use Rattle.std.proofs.Common.{◌≡◌, ℕ, ◌-◌, length, List, [], ◌++◌, Option, None, Some, Result, Ok, Err, IsErr, take, drop, sym, ap, subst, ◌∙◌, append_assoc, append-nil, take-append-drop}
use Rattle.std.proofs.lemmas.List.{take_rest}
use Rattle.std.specs.Io.KnownBytes.{Appends, Keeps}
use Rattle.fed_http.specs.Sending.{AppendsFront, WritesWhole}

pub appends_none : (a : Option (List ℕ)) → Appends a a []
appends_none None = tt
appends_none (Some xs) = sym (append-nil xs)

pub appends_both : (a b c : Option (List ℕ)) (xs ys : List ℕ) → Appends a b xs → Appends b c ys → Appends a c (xs ++ ys)
appends_both None b c xs ys p q = tt
appends_both (Some x) None c xs ys p q = absurd p
appends_both (Some x) (Some y) None xs ys p q = absurd q
appends_both (Some x) (Some y) (Some z) xs ys p q = q ∙ ap (λ l. l ++ ys) p ∙ append_assoc x xs ys

pub appends_kept : (a b c : Option (List ℕ)) (xs : List ℕ) → Appends a b xs → Keeps b c → Appends a c xs
appends_kept None b c xs p q = tt
appends_kept (Some x) None c xs p q = absurd p
appends_kept (Some x) (Some y) None xs p q = absurd q
appends_kept (Some x) (Some y) (Some z) xs p q = q ∙ p

-- n more bytes go from the rest to the front
pub moves_front : (all front rest : List ℕ) (n : ℕ) → all ≡ front ++ rest → all ≡ (front ++ take n rest) ++ drop n rest
moves_front all front rest n e = e ∙ ap (λ l. front ++ l) (sym (take-append-drop n rest)) ∙ sym (append_assoc front (take n rest) (drop n rest))

-- a front is written, and `next` is the rest
abbrev pub Moved : Option (List ℕ) → Option (List ℕ) → List ℕ → List ℕ → Type 0
Moved old new all next = (front : List ℕ) × (all ≡ front ++ next) × Appends old new front

pub moved : (a b d : Option (List ℕ)) (all front rest next : List ℕ) (n : ℕ) → all ≡ front ++ rest → Appends a b front → Appends b d (take n rest) → next ≡ take (length rest - n) (drop n rest) → Moved a d all next
moved a b d all front rest next n split p q is =
    (front ++ take n rest, subst (λ l. all ≡ (front ++ take n rest) ++ l) (sym (is ∙ take_rest rest n)) (moves_front all front rest n split), appends_both a b d front (take n rest) p q)

pub kept : (a b d : Option (List ℕ)) (all front rest next : List ℕ) → all ≡ front ++ rest → Appends a b front → Keeps b d → next ≡ rest → Moved a d all next
kept a b d all front rest next split p q is = (front, subst (λ l. all ≡ front ++ l) (sym is) split, appends_kept a b d front p q)

-- ---- one part and then others

-- a front of the first part
pub cut_in : (a b : Option (List ℕ)) (xs ys : List ℕ) → AppendsFront a b xs → AppendsFront a b (xs ++ ys)
cut_in a b xs ys (front, rest, split, appended) = (front, rest ++ ys, ap (λ l. l ++ ys) split ∙ append_assoc front rest ys, appended)

-- the first part, and a front of the others
pub cut_behind : (a b c : Option (List ℕ)) (xs ys : List ℕ) → Appends a b xs → AppendsFront b c ys → AppendsFront a c (xs ++ ys)
cut_behind a b c xs ys first (front, rest, split, appended) =
    (xs ++ front, rest, ap (λ l. xs ++ l) split ∙ sym (append_assoc xs front rest), appends_both a b c xs front first appended)

-- the first part, and then the others
pub whole_behind : {T E : Type 0} (a b c : Option (List ℕ)) (xs ys : List ℕ) (r : Result T E) → Appends a b xs → WritesWhole b c ys r → WritesWhole a c (xs ++ ys) r
whole_behind a b c xs ys (Ok done) first others = appends_both a b c xs ys first others
whole_behind a b c xs ys (Err error) first others = cut_behind a b c xs ys first others

-- an error, where a front was written
pub was_cut : {T E : Type 0} (a b : Option (List ℕ)) (xs : List ℕ) (r : Result T E) → IsErr r → AppendsFront a b xs → WritesWhole a b xs r
was_cut a b xs (Ok done) is cut = absurd (cc)
was_cut a b xs (Err error) is cut = cut

pub same_bytes : {T E : Type 0} (a b : Option (List ℕ)) (xs ys : List ℕ) (r : Result T E) → xs ≡ ys → WritesWhole a b ys r → WritesWhole a b xs r
same_bytes a b xs ys (Ok done) same written = subst (Appends a b) (sym same) written
same_bytes a b xs ys (Err error) same written = subst (AppendsFront a b) (sym same) written
