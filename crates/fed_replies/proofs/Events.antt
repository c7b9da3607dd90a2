-- The verdicts about packed events: one list of events behind another, and more texts.
use Rattle.std.proofs.Common.{◌≡◌, ℕ, ◌+◌, ◌<◌, ◌≤◌, List, [], ◌∷◌, ◌++◌, length, drop, get_or, Bool, true, Option, Some, None, refl, sym, ap, subst, ◌∙◌, arith, add-one, drop-cons}
use Rattle.std.proofs.lemmas.List.{append_assoc, get_or_append_left}
use Rattle.fed_replies.specs.declared.pieces.Event.{Event}
use Rattle.fed_replies.specs.Marks.{number_at, numbers_behind}
use Rattle.fed_replies.specs.Pieces.{AreNumbered, HasText, IsNumbered, verdict_by, verdict_of, verdicts_of}
use Rattle.fed_replies.specs.ReplyText.{member_text, members_text}
use Rattle.fed_replies.specs.Texts.{Texts}
use Rattle.fed_replies.proofs.MarkNumbers.{number-append, behind-append, large-append}

-- ---- one list behind another

numbered_first : (texts : Texts) (mark : ℕ) (left more : List ℕ) → IsNumbered texts mark left → IsNumbered texts mark (left ++ more)
numbered_first texts mark left more h = record {
  large = large-append mark left more h.large;
  text = subst (HasText texts) (sym (number-append mark left more h.large)) h.text;
}

pub numbered-append : (texts : Texts) (es fs : List Event) (left more : List ℕ) → AreNumbered texts es left → AreNumbered texts fs more → AreNumbered texts (es ++ fs) (left ++ more)
numbered-append texts [] fs left more h k = subst (λ (l : List ℕ). AreNumbered texts fs (l ++ more)) (sym h) k
numbered-append texts (e ∷ es) fs left more h k = (
  numbered_first texts e.mark left more h.0,
  subst (AreNumbered texts (es ++ fs)) (sym (behind-append e.mark left more h.0.large)) (numbered-append texts es fs (numbers_behind e.mark left) more h.1 k),
)

pub verdicts-append : (texts : Texts) (es fs : List Event) (left more : List ℕ) → AreNumbered texts es left → verdicts_of texts (es ++ fs) (left ++ more) ≡ verdicts_of texts es left ++ verdicts_of texts fs more
verdicts-append texts [] fs left more h = ap (λ (l : List ℕ). verdicts_of texts fs (l ++ more)) h
verdicts-append texts (e ∷ es) fs left more h =
    ap (λ n. verdict_by texts e.hash n ∷ verdicts_of texts (es ++ fs) (numbers_behind e.mark (left ++ more))) (number-append e.mark left more h.0.large)
    ∙ ap (λ l. verdict_of texts e left ∷ verdicts_of texts (es ++ fs) l) (behind-append e.mark left more h.0.large)
    ∙ ap (λ vs. verdict_of texts e left ∷ vs) (verdicts-append texts es fs (numbers_behind e.mark left) more h.1)

-- ---- more texts

text-more : (texts others : Texts) (number : Option ℕ) → length texts ≤ length others → HasText texts number → HasText others number
text-more texts others None le h = tt
text-more texts others (Some n) le h = omega arith

pub numbered-more : (texts others : Texts) (es : List Event) (left : List ℕ) → length texts ≤ length others → AreNumbered texts es left → AreNumbered others es left
numbered-more texts others [] left le h = h
numbered-more texts others (e ∷ es) left le h =
    (record { large = h.0.large; text = text-more texts others (number_at e.mark left) le h.0.text }, numbered-more texts others es (numbers_behind e.mark left) le h.1)

same_text : (texts more : Texts) (hash : List ℕ) (number : Option ℕ) → HasText texts number → verdict_by (texts ++ more) hash number ≡ verdict_by texts hash number
same_text texts more hash None h = refl
same_text texts more hash (Some n) h = ap (λ (t : List ℕ). ((verdict_by texts hash None).0, Some t)) (get_or_append_left texts more [] n h)

pub verdicts-more : (texts more : Texts) (es : List Event) (left : List ℕ) → AreNumbered texts es left → verdicts_of (texts ++ more) es left ≡ verdicts_of texts es left
verdicts-more texts more [] left h = refl
verdicts-more texts more (e ∷ es) left h =
    ap (λ v. v ∷ verdicts_of (texts ++ more) es (numbers_behind e.mark left)) (same_text texts more e.hash (number_at e.mark left) h.0.text)
    ∙ ap (λ vs. verdict_of texts e left ∷ vs) (verdicts-more texts more es (numbers_behind e.mark left) h.1)

-- ---- one after another

module _ (texts : Texts) (es : List Event) (i : ℕ) (d : Event) (left : List ℕ) (below : i < length es) where
  first : drop i es ≡ get_or es i d ∷ drop (i + 1) es
  first = drop-cons es i d below ∙ ap (λ n. get_or es i d ∷ drop n es) (sym (add-one i))

  pub numbered-next : AreNumbered texts (drop i es) left → IsNumbered texts (get_or es i d).mark left × AreNumbered texts (drop (i + 1) es) (numbers_behind (get_or es i d).mark left)
  numbered-next h = subst (λ (l : List Event). AreNumbered texts l left) first h

  -- what is left decides
  pub event-written : (out out2 whole : List ℕ) (later : Bool) → out ++ members_text later (verdicts_of texts (drop i es) left) ≡ whole → out2 ≡ out ++ member_text later (verdict_of texts (get_or es i d) left)
      → out2 ++ members_text true (verdicts_of texts (drop (i + 1) es) (numbers_behind (get_or es i d).mark left)) ≡ whole
  event-written out out2 whole later h new =
      let v = verdict_of texts (get_or es i d) left in
      let others = verdicts_of texts (drop (i + 1) es) (numbers_behind (get_or es i d).mark left) in
      ap (λ o. o ++ members_text true others) new ∙ append_assoc out (member_text later v) (members_text true others)
      ∙ ap (λ (l : List Event). out ++ members_text later (verdicts_of texts l left)) (sym first) ∙ h
