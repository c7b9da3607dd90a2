-- The texts of an event: its canonical text, the one that is signed and the one that the content hash covers.
use Rattle.std.specs.Prelude.{ℕ, List, [], refl}
use Rattle.std.specs.Coded.{Coded, code_by, coded×, coded_list, coded_ℕ}
use Rattle.fed_json.specs.CanonicalText.{canonical_text}
use Rattle.fed_redaction.specs.Event.{Event}
use Rattle.fed_redaction.specs.EventId.{signed_text_of}
use Rattle.fed_redaction.specs.ContentHash.{covered_text_of}

pub record EventTexts : Type 0 where
  pub whole : List ℕ
  pub signed : List ℕ
  pub covered : List ℕ

abbrev pub texts_code : Coded EventTexts
texts_code =
    code_by (List ℕ × (List ℕ × List ℕ)) (coded× (coded_list coded_ℕ) (coded× (coded_list coded_ℕ) (coded_list coded_ℕ)))
    (λ t. (t.whole, (t.signed, t.covered))) (λ p. record { whole = p.0; signed = p.1.0; covered = p.1.1 }) (λ _. refl)

abbrev pub no_texts : EventTexts
no_texts = record { whole = []; signed = []; covered = [] }

abbrev pub event_texts : Event → EventTexts
event_texts event = record { whole = canonical_text event.value; signed = signed_text_of event; covered = covered_text_of event.value }
