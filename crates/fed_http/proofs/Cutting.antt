-- What a reader gives does not depend on where its stream is cut.
use Rattle.std.proofs.Common.{arith, ◌≡◌, ℕ, ◌+◌, List, ◌++◌, length, take, drop, sym, ap, subst, ◌∙◌, append_assoc, length-append, length-take-le}
use Rattle.std.specs.List.{flat_map}
use Rattle.std.proofs.lemmas.List.{take-append-drop}
use Rattle.fed_http.specs.Text.{IsText}
use Rattle.fed_http.specs.Reader.{Reading}
use Rattle.fed_http.specs.Streams.{GivesInPieces, now, later}
use Rattle.fed_http.specs.declared.message.Message.{Message}
use Rattle.fed_http.specs.declared.message.Kind.{Kind}
use Rattle.fed_http.proofs.TextLemmas.{text_unique}

abbrev pub joined : List (List ℕ) → List ℕ
joined pieces = flat_map (λ piece. piece) pieces

-- the text of the message that is given, in all bytes
pub record TextIn (kind : Kind) (bytes : List ℕ) (m : Message) (len : ℕ) : Type 0 where
  pub text : List ℕ
  pub rest : List ℕ
  pub is_text : IsText kind m text
  pub whole : bytes ≡ text ++ rest
  pub len_is : len ≡ length text

pub text_in : (m : Message) (old : Reading) (bytes : List ℕ) (pieces : List (List ℕ)) (place : ℕ) → GivesInPieces m old bytes pieces place → TextIn old.kind (bytes ++ joined pieces) m (length bytes + place)
text_in m _ _ _ _ (now old new bytes piece pieces used gives) = record {
  text = bytes ++ take used piece;
  rest = drop used piece ++ joined pieces;
  is_text = gives.text;
  whole = ap (λ p. bytes ++ (p ++ joined pieces)) (sym (take-append-drop used piece)) ∙ regrouped bytes (take used piece) (drop used piece) (joined pieces);
  len_is = omega (arith, length-append bytes (take used piece), length-take-le used piece gives.within);
}
  where
    regrouped : (a b c d : List ℕ) → a ++ ((b ++ c) ++ d) ≡ (a ++ b) ++ (c ++ d)
    regrouped a b c d = simp append_assoc
text_in m _ _ _ _ (later old new bytes piece pieces used further waits gives) =
    let t = text_in m new (bytes ++ piece) pieces further gives in
    let P : Kind → Type 0 = λ k. IsText k m t.text in
    record {
      text = t.text;
      rest = t.rest;
      is_text = subst P waits.kind t.is_text;
      whole = sym (append_assoc bytes piece (joined pieces)) ∙ t.whole;
      len_is = omega (arith, t.len_is, waits.all_used, length-append bytes piece);
    }

pub cutting : (old : Reading) (bytes : List ℕ) (pieces others : List (List ℕ)) (m n : Message) (place other : ℕ) → joined pieces ≡ joined others → GivesInPieces m old bytes pieces place → GivesInPieces n old bytes others other
    → (m ≡ n) × (place ≡ other)
cutting old bytes pieces others m n place other same x y =
    let t = text_in m old bytes pieces place x in
    let u = text_in n old bytes others other y in
    let one = text_unique old.kind m n (bytes ++ joined pieces) t.text u.text t.rest u.rest t.is_text u.is_text t.whole (ap (λ v. bytes ++ v) same ∙ u.whole) in
    (one.0, omega (arith, t.len_is, u.len_is, ap length one.1))
