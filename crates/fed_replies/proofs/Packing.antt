-- Which replies are what is written of their verdicts.
use Rattle.std.proofs.Common.{◌≡◌, ℕ, List, Bool, true, false, not, Some, None, ◌↔◌, refl, sym, ap, subst, ◌∙◌}
use Rattle.std.specs.Str.{bytes_eq}
use Rattle.std.proofs.lemmas.Slice.Eq.{bytes_eq-Decides}
use Rattle.fed_json.specs.CanonicalText.{canonical_text}
use Rattle.fed_txn.specs.Verdicts.{VerdictMap}
use Rattle.fed_txn.specs.Reply.{reply_value}
use Rattle.fed_txn.specs.ReplyReading.{IsReply}
use Rattle.fed_replies.specs.PackedReply.{IsCanonicalReply}

pub equal_bytes : (a b : List ℕ) → not (bytes_eq a b) ≡ false → a ≡ b
equal_bytes a b h = by (bytes_eq a b) refl h
  where
    by : (c : Bool) → bytes_eq a b ≡ c → not c ≡ false → a ≡ b
    by true e g = (bytes_eq-Decides a b).0 e
    by false e g = absurd (cc)

other_bytes : (a b : List ℕ) → not (bytes_eq a b) ≡ true → a ≡ b → ⊥
other_bytes a b h e =
    let same = (bytes_eq-Decides a b).1 e in
    let gone : not true ≡ true = ap not (sym same) ∙ h in
    absurd (cc)

pub no_reply : (reply : List ℕ) → ((v : VerdictMap) → IsReply reply v → ⊥) → (v : VerdictMap) → IsCanonicalReply reply v ↔ (None ≡ Some v)
no_reply reply none v = ((λ h. absurd (none v h.read)), (λ e. absurd (cc)))

module _ (reply text : List ℕ) (v : VerdictMap) (is : text ≡ canonical_text (reply_value v)) (only : (w : VerdictMap) → IsReply reply w → v ≡ w) where
  pub written_otherwise : not (bytes_eq text reply) ≡ true → (w : VerdictMap) → IsCanonicalReply reply w ↔ (None ≡ Some w)
  written_otherwise ne w = ((λ h. absurd (other_bytes text reply ne (is ∙ ap (λ m. canonical_text (reply_value m)) (only w h.read) ∙ sym h.written))), (λ e. absurd (cc)))

  pub written_so : IsReply reply v → not (bytes_eq text reply) ≡ false → (w : VerdictMap) → IsCanonicalReply reply w ↔ (Some v ≡ Some w)
  written_so read eq w =
      ((λ h. ap Some (only w h.read)), (λ e. let same : v ≡ w = cc in subst (IsCanonicalReply reply) same (record { read = read; written = sym (equal_bytes text reply eq) ∙ is })))
