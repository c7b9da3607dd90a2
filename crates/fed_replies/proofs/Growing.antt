-- What lies in the pieces stays there when they grow.
use Rattle.std.proofs.Common.{◌≡◌, ℕ, ◌-◌, ◌≤◌, List, [], ◌∷◌, ◌++◌, map, length, take, drop, append-nil, refl, sym, ap, subst, ◌∙◌, arith}
use Rattle.std.specs.FinMap as finite
use Rattle.std.specs.List.{All, slice_range}
use Rattle.std.proofs.lemmas.List.{take-append-le, drop-append-le, length-drop}
use Rattle.std.proofs.lemmas.List.Elements.{All-head, All-tail, All-weaker, All-push}
use Rattle.fed_json.specs.CanonicalText.{canonical_text}
use Rattle.fed_txn.specs.Reply.{reply_value}
use Rattle.fed_replies.specs.declared.pieces.Ends.{Ends}
use Rattle.fed_replies.specs.declared.pieces.Event.{Event}
use Rattle.fed_replies.specs.declared.form.Form.{Form}
use Rattle.fed_replies.specs.declared.form.Form.TheVariants.{Packed, Whole}
use Rattle.fed_replies.specs.PackedReply.{Verdict}
use Rattle.fed_replies.specs.Pieces.{Content, AreNumbered, AreEntered, AreWithin, verdicts_in, verdicts_of, with_verdicts}
use Rattle.fed_replies.specs.Forms.{reply_of, IsWithin}
use Rattle.fed_replies.proofs.Entering.{Begins, longer, with_errors-begins}
use Rattle.fed_replies.proofs.Events.{numbered-more, verdicts-more}

-- nothing is lost
pub record Extends (old new : Content) : Type 0 where
  pub events : Begins old.events new.events
  pub numbers : Begins old.numbers new.numbers
  pub texts : Begins old.texts new.texts

pub extends-same : (c : Content) → Extends c c
extends-same c = record { events = ([], sym (append-nil c.events)); numbers = ([], sym (append-nil c.numbers)); texts = ([], sym (append-nil c.texts)) }

pub extends-entered : (c d : Content) (vs : List Verdict) → AreEntered c vs d → Extends c d
extends-entered c d vs h =
    let texts = with_errors-begins c.texts vs in
    record { events = (h.events, h.events_are); numbers = (h.numbers, h.numbers_are); texts = (texts.0, h.texts_are ∙ texts.1) }

slice-more : {X : Type 0} (xs ys : List X) (a b : ℕ) → Begins xs ys → a ≤ b → b ≤ length xs → slice_range ys a b ≡ slice_range xs a b
slice-more xs ys a b (more, e) h k =
    let within : a ≤ length xs = omega arith in
    let room : b - a ≤ length (drop a xs) = omega (arith, length-drop a xs) in
    ap (λ l. take (b - a) (drop a l)) e ∙ ap (take (b - a)) (drop-append-le a xs more within) ∙ take-append-le (b - a) (drop a xs) more room

module _ (c d : Content) (h : Extends c d) where
  module _ (start end : Ends) (w : AreWithin c start end) where
    abbrev events : List Event
    events = slice_range c.events start.events end.events

    abbrev numbers : List ℕ
    numbers = slice_range c.numbers start.numbers end.numbers

    same_events : slice_range d.events start.events end.events ≡ events
    same_events = slice-more c.events d.events start.events end.events h.events w.events w.events_end

    same_numbers : slice_range d.numbers start.numbers end.numbers ≡ numbers
    same_numbers = slice-more c.numbers d.numbers start.numbers end.numbers h.numbers w.numbers w.numbers_end

    same_verdicts : verdicts_in d start end ≡ verdicts_in c start end
    same_verdicts =
        ap (λ es. verdicts_of d.texts es (slice_range d.numbers start.numbers end.numbers)) same_events ∙ ap (verdicts_of d.texts events) same_numbers
        ∙ ap (λ ts. verdicts_of ts events numbers) h.texts.1 ∙ verdicts-more c.texts h.texts.0 events numbers w.numbered

    within-more : AreWithin d start end
    within-more =
        let events_size = longer c.events d.events h.events in
        let numbers_size = longer c.numbers d.numbers h.numbers in
        let texts_size = longer c.texts d.texts h.texts in
        record {
          events = w.events;
          numbers = w.numbers;
          events_end = omega (arith, w.events_end);
          numbers_end = omega (arith, w.numbers_end);
          numbered = subst (λ es. AreNumbered d.texts es (slice_range d.numbers start.numbers end.numbers)) (sym same_events)
              (subst (AreNumbered d.texts events) (sym same_numbers) (numbered-more c.texts d.texts events numbers texts_size w.numbered));
          in_order = ap (λ vs. finite.entries (with_verdicts finite.empty vs)) same_verdicts ∙ w.in_order ∙ sym same_verdicts;
        }

  reply_of-more : (f : Form) → IsWithin c f → reply_of d f ≡ reply_of c f
  reply_of-more (Packed start end size) w = ap (λ vs. canonical_text (reply_value (with_verdicts finite.empty vs))) (same_verdicts start end w)
  reply_of-more (Whole bytes) w = refl

  form-more : (f : Form) → IsWithin c f → IsWithin d f
  form-more (Packed start end size) w = within-more start end w
  form-more (Whole bytes) w = tt

  pub replies-more : (fs : List Form) → All (IsWithin c) fs → map (reply_of d) fs ≡ map (reply_of c) fs
  replies-more [] w = refl
  replies-more (f ∷ fs) w =
      ap (λ r. r ∷ map (reply_of d) fs) (reply_of-more f (All-head (IsWithin c) f fs w)) ∙ ap (λ rs. reply_of c f ∷ rs) (replies-more fs (All-tail (IsWithin c) f fs w))

  pub all_within : (fs : List Form) (f : Form) → All (IsWithin c) fs → IsWithin d f → All (IsWithin d) (fs ++ f ∷ [])
  all_within fs f w k = All-push (IsWithin d) fs f (All-weaker (IsWithin c) (IsWithin d) form-more fs w) k
