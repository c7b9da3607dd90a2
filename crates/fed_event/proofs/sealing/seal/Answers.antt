use Rattle.std.proofs.Common.{◌≡◌, rules, ℕ, List, Some, Err, codes, sym, ap, ap₂, subst, ◌∙◌, true≢false}
use Rattle.base64.specs.Engines.{standard_no_pad}
use Rattle.base64.specs.GeneralPurpose.{encode_of}
use Rattle.serde_json.specs.Data.{Data, string}
use Rattle.fed_json.specs.Editing.{with_member}
use Rattle.fed_redaction.specs.Event.{event_in}
use Rattle.fed_redaction.specs.EventId.{signed_text_of}
use Rattle.fed_redaction.specs.ContentHash.{hash_fits_of}
use Rattle.fed_event.specs.Signatures.{signature_in, is_signed}
use Rattle.fed_event.specs.Sealing.{holding, hashed_of}
use Rattle.fed_event.specs.Tests.{first_fault_of}
use Rattle.fed_event.specs.Checked.{checked_of}
use Rattle.fed_event.proofs.SealedEvents.{signed_text-signed, sender_text-passed, hash_fits-sealed, is_signed-sealed, event-fitting}
use Rattle.fed_event.proofs.sealing.seal.Goals as goal

pub of_fitting-requires-clause-signed : goal.of_fitting-requires-clause-signed
of_fitting-requires-clause-signed g c =
    let keys = c.args.keys.now in
    let own = g.K.Keys.own_name keys in
    let key = g.K.Keys.own_key keys in
    let sign = g.K.Keys.own_signature keys in
    let version = c.args.version in
    let hashed = event_in version (hashed_of c.args.parts) in
    let message = c.in_ok-signed_text.ensures ∙ ap (λ h. signed_text_of (event_in version h)) c.in_ok-hashed.ensures in
    let Signed : List ℕ → Data → Data = λ m. with_member (codes "signatures") (holding own (holding key (string (encode_of standard_no_pad (sign m))))) in
    let event = c.in_ok-event.ensures.event ∙ ap₂ Signed (c.deref.ensures.value ∙ message) c.in_ok-hashed.ensures in
    c.deref-2.ensures.value ∙ message ∙ sym (ap (λ v. signed_text_of (event_in version v)) event ∙ signed_text-signed own key sign hashed)

pub of_fitting-requires-clause-fits : goal.of_fitting-requires-clause-fits
of_fitting-requires-clause-fits g c =
    let keys = c.args.keys.now in
    let own = g.K.Keys.own_name keys in
    let key = g.K.Keys.own_key keys in
    let sign = g.K.Keys.own_signature keys in
    let version = c.args.version in
    let message = c.in_ok-signed_text.ensures ∙ ap (λ h. signed_text_of (event_in version h)) c.in_ok-hashed.ensures in
    let Signed : List ℕ → Data → Data = λ m. with_member (codes "signatures") (holding own (holding key (string (encode_of standard_no_pad (sign m))))) in
    let event = c.in_ok-event.ensures.event ∙ ap₂ Signed (c.deref.ensures.value ∙ message) c.in_ok-hashed.ensures in
    λ passes. ap hash_fits_of event ∙ hash_fits-sealed own key sign version c.args.parts (sender_text-passed own key sign version c.args.parts (ap first_fault_of (sym event) ∙ passes))

pub check_signed-requires : goal.check_signed-requires
check_signed-requires g c =
    let keys = c.args.keys.now in
    let own = g.K.Keys.own_name keys in
    let key = g.K.Keys.own_key keys in
    let sign = g.K.Keys.own_signature keys in
    let version = c.args.version in
    let hashed = event_in version (hashed_of c.args.parts) in
    let message = c.in_ok-signed_text.ensures ∙ ap (λ h. signed_text_of (event_in version h)) c.in_ok-hashed.ensures in
    let Signed : List ℕ → Data → Data = λ m. with_member (codes "signatures") (holding own (holding key (string (encode_of standard_no_pad (sign m))))) in
    let event = c.in_ok-event.ensures.event ∙ ap₂ Signed (c.deref.ensures.value ∙ message) c.in_ok-hashed.ensures in
    let whole = c.in_ok-event-2.ensures.ok ∙ ap (event_in version) event in
    c.deref-3.ensures.value ∙ message ∙ sym (ap signed_text_of whole ∙ signed_text-signed own key sign hashed)

pub unreachable-requires : goal.unreachable-requires
unreachable-requires g c =
    let keys = c.args.keys.now in
    let own = g.K.Keys.own_name keys in
    let key = g.K.Keys.own_key keys in
    let sign = g.K.Keys.own_signature keys in
    let checks = g.K.Keys.checks keys in
    let version = c.args.version in
    let message = c.deref.ensures.value ∙ c.in_ok-signed_text.ensures ∙ ap (λ h. signed_text_of (event_in version h)) c.in_ok-hashed.ensures in
    let Signed : List ℕ → Data → Data = λ m. with_member (codes "signatures") (holding own (holding key (string (encode_of standard_no_pad (sign m))))) in
    let event = c.in_ok-event.ensures.event ∙ ap₂ Signed message c.in_ok-hashed.ensures in
    let whole = c.in_ok-event-2.ensures.ok ∙ ap (event_in version) event in
    let has = sender_text-passed own key sign version c.args.parts (ap first_fault_of (sym event) ∙ c.in_ok-event-2.ensures.passes) in
    let Decodes : List ℕ → Type 0 = λ m. signature_in (string (encode_of standard_no_pad (sign m))) ≡ Some (sign m) in
    let decodes = subst Decodes message c.in_ok-event.ensures.decodes in
    let signed = is_signed-sealed checks own key sign version c.args.parts has c.requires decodes (g.met.K.Keys.signs keys) in
    let unsigned = c.in-Err-BadSignature.ensures.unsigned (ap Err c.in-Err-BadSignature.field-0-is) in
    true≢false (sym signed ∙ ap (is_signed checks) (sym whole) ∙ unsigned)

pub returns-in-Ok : goal.returns-in-Ok
returns-in-Ok g c =
    let keys = c.args.keys.now in
    let own = g.K.Keys.own_name keys in
    let key = g.K.Keys.own_key keys in
    let sign = g.K.Keys.own_signature keys in
    let checks = g.K.Keys.checks keys in
    let version = c.args.version in
    let message = c.deref.ensures.value ∙ c.in_ok-signed_text.ensures ∙ ap (λ h. signed_text_of (event_in version h)) c.in_ok-hashed.ensures in
    let Signed : List ℕ → Data → Data = λ m. with_member (codes "signatures") (holding own (holding key (string (encode_of standard_no_pad (sign m))))) in
    let event = c.in_ok-event.ensures.event ∙ ap₂ Signed message c.in_ok-hashed.ensures in
    let whole = c.in_ok-event-2.ensures.ok ∙ ap (event_in version) event in
    let has = sender_text-passed own key sign version c.args.parts (ap first_fault_of (sym event) ∙ c.in_ok-event-2.ensures.passes) in
    let fits = ap (λ e. hash_fits_of e.value) whole ∙ hash_fits-sealed own key sign version c.args.parts has in
    let stays = event-fitting checks c.in_ok-event-2.event c.in-Ok.checked c.in-Ok.ensures.ok fits in
    record {
      event = stays ∙ whole;
      fits = ap (λ e. hash_fits_of e.value) stays ∙ fits;
      signed = ap (is_signed checks) stays ∙ c.in-Ok.ensures.signed;
      checked = c.in-Ok.ensures.ok ∙ ap (checked_of checks) (sym stays);
      passes = ap first_fault_of (sym event) ∙ c.in_ok-event-2.ensures.passes;
      fails = search rules;
    }
