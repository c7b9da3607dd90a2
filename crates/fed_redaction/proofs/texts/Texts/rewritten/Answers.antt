use Rattle.std.proofs.Common.{◌≡◌, ℕ, List, sym, ◌∙◌, ap}
use Rattle.std.proofs.lemmas.Result.{IfOk-weaker}
use Rattle.fed_json.specs.CanonicalText.{canonical_text}
use Rattle.fed_json.specs.JsonRef.{seen}
use Rattle.fed_json.specs.Members.{members_left}
use Rattle.fed_redaction.specs.Event.{event_in}
use Rattle.fed_redaction.specs.Redaction.{kept_of}
use Rattle.fed_redaction.specs.TextsParts.{kept_by}
use Rattle.fed_redaction.specs.EventId.{signed_part}
use Rattle.fed_redaction.specs.ContentHash.{covered_part}
use Rattle.fed_redaction.specs.Texts.{EventTexts}
use Rattle.fed_redaction.proofs.Parts.{object-as_members, signed_part-members}
use Rattle.fed_redaction.proofs.texts.Texts.rewritten.Goals as goal

same_texts : {w w' s s' c c' : List ℕ} → w ≡ w' → s ≡ s' → c ≡ c'
    → ◌≡◌ {A = EventTexts} (record { whole = w; signed = s; covered = c }) (record { whole = w'; signed = s'; covered = c' })
same_texts a b d i = record { whole = a i; signed = b i; covered = d i }

pub returns-in-Some : goal.returns-in-Some
returns-in-Some c =
    let event = seen c.root-root.result in
    let members = members_left c.in-Some.members in
    let version = c.args.version in
    let kept = kept_by c.content_rule-rule.result in
    let table = c.content_rule-rule.ensures ∙ ap (kept_of version) c.event_type.ensures in
    let is = sym (object-as_members event members (sym c.in-Some.ensures)) ∙ c.root-root.ensures in
    let signed = sym (signed_part-members version event members kept (sym c.in-Some.ensures) table) ∙ ap (λ d. signed_part (event_in version d)) c.root-root.ensures in
    IfOk-weaker c.texts_of_members.result _ _
    (λ texts h. same_texts (h.0 ∙ ap canonical_text is) (h.1 ∙ ap canonical_text signed) (h.2 ∙ ap (λ d. canonical_text (covered_part d)) is))
    c.texts_of_members.ensures
