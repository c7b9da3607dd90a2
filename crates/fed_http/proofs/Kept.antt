-- What a reader keeps.
use Rattle.std.proofs.Common.{arith, ◌≡◌, ℕ, ◌+◌, ◌≤◌, Bool, true, false, true≢false, List, [], ◌++◌, length, take, refl, sym, ap, subst, ◌∙◌, Option, Some, None}
use Rattle.std.proofs.Math.Logic.{∥∥₁_elim}
use Rattle.fed_http.specs.Limits.{max_held}
use Rattle.fed_http.specs.Keeping.{Kept, IsKept, HasEnded}
use Rattle.fed_http.specs.KeepingParts.{kept_of, IsSoundFor, IsReading, Ends, StillWaits, TakeFails}
use Rattle.fed_http.specs.Reader.{Reading, StandsFor}
use Rattle.fed_http.specs.Text.{HasNoText}
use Rattle.fed_http.specs.Faults.{IsFault}
use Rattle.fed_http.specs.declared.fault.HttpFault.{HttpFault}
use Rattle.fed_http.specs.declared.fault.HttpFault.TheVariants.{HasFailed}
use Rattle.fed_http.specs.declared.message.Kind.{Kind}
use Rattle.fed_http.specs.declared.message.Message.{Message}
use Rattle.fed_http.specs.declared.place.Place.TheVariants.{InHead, Ended}
use Rattle.fed_http.specs.declared.state.State.{State}
use Rattle.fed_http.proofs.Feeds.{fields, kept_bound, empty_has_no_text}
use Rattle.fed_http.proofs.TextLemmas.{waiting_has_no_text}
use Rattle.fed_http.proofs.Steps.{at_place}

-- what is kept is kept of some bytes
pub sound_of : (kind : Kind) (s : State) (failed : Bool) → failed ≡ false → IsReading kind s failed → IsSoundFor kind (kept_of s)
sound_of kind s failed fresh x = let there = x.sound fresh in ∣ (there.0, there.1.0) ∣₁

-- before the first byte
pub begins_sound : (kind : Kind) (s : State) → ((kind : Kind) → IsKept kind (kept_of s) []) → s.place ≡ InHead → IsReading kind s false
begins_sound kind s kept at = record {
  sound = λ e. ([], (kept kind, empty_has_no_text kind));
  unended = λ e is. let same : InHead ≡ Ended = sym at ∙ is in absurd (cc);
  head = λ e. absurd (true≢false (sym e));
  text = λ e. absurd (true≢false (sym e));
  body = λ e. absurd (true≢false (sym e));
  no_text_room = λ e. absurd (true≢false (sym e));
  no_body_room = λ e. absurd (true≢false (sym e));
}

-- behind a piece
pub waits_sound : (kind : Kind) (old new : State) (piece : List ℕ) (failed : Bool) → failed ≡ false → IsReading kind old failed → StillWaits kind old new piece → IsReading kind new false
waits_sound kind old new piece failed fresh x waits =
    let there = x.sound fresh in
    record {
      sound = λ e. (there.0 ++ piece, (waits.kept there.0 there.1.0, waiting_has_no_text kind (there.0 ++ piece) (waits.waits there.0 there.1.0)));
      unended = λ e. waits.unended;
      head = λ e. absurd (true≢false (sym e));
      text = λ e. absurd (true≢false (sym e));
      body = λ e. absurd (true≢false (sym e));
      no_text_room = λ e. absurd (true≢false (sym e));
      no_body_room = λ e. absurd (true≢false (sym e));
    }

-- the same is kept
pub same_sound : (kind : Kind) (old new : State) (failed : Bool) → kept_of new ≡ kept_of old → failed ≡ false → IsReading kind old failed → IsReading kind new failed
same_sound kind old new failed same fresh x = record {
  sound = λ e. subst (λ (k : Kept). (bytes : List ℕ) × (IsKept kind k bytes × HasNoText kind bytes)) (sym same) (x.sound e);
  unended = λ e is. x.unended e (ap (λ (k : Kept). k.place) (sym same) ∙ is);
  head = λ e. absurd (true≢false (sym e ∙ fresh));
  text = λ e. absurd (true≢false (sym e ∙ fresh));
  body = λ e. absurd (true≢false (sym e ∙ fresh));
  no_text_room = λ e. absurd (true≢false (sym e ∙ fresh));
  no_body_room = λ e. absurd (true≢false (sym e ∙ fresh));
}

-- some bytes stand until it has failed
pub some_stand : (old : Reading) (kind : Kind) (s : State) (failed : Bool) → fields kind (kept_of s) failed ≡ old → IsReading kind s failed → old.has_failed ≡ false → (bytes : List ℕ) × StandsFor old bytes
some_stand old kind s failed view x =
    let Q : Reading → Type 0 = λ o. o.has_failed ≡ false → (bytes : List ℕ) × StandsFor o bytes in
    subst Q view (λ fresh. let there = x.sound fresh in (there.0, record { live = fresh; none = there.1.1; kept = there.1.0 }))

-- a reader of either kind
pub reading_bound : (kind : Kind) (s : State) (failed : Bool) → IsReading kind s failed → s.head + (length s.text.items + length s.body.items) ≤ max_held
reading_bound kind s true x = omega (arith, x.head refl, ap length (x.text refl), ap length (x.body refl))
reading_bound kind s false x =
    let there = x.sound refl in
    let bound : s.head + (length s.text.items + length s.body.items) ≤ max_held = kept_bound kind (kept_of s) there.0 (x.unended refl) there.1.0 in
    bound

-- a message that has ended has its head
pub gives_start : (kind : Kind) (old new : State) (piece : List ℕ) (used : ℕ) → IsSoundFor kind (kept_of old) → Ends kind old new piece used → new.start ≡ None → ⊥
gives_start kind old new piece used sound ends none = ∥∥₁_elim sound (λ x y. absurd x) (λ (bytes, kept).
    let there : HasEnded kind (kept_of new) (bytes ++ take used piece) = at_place Ended kind (kept_of new) (bytes ++ take used piece) ends.ended (ends.kept bytes kept) in
    let clash : ◌≡◌ {A = Option Message} None (Some there.message) = sym none ∙ there.start in
    absurd (cc))

-- no reader is told to have failed before
pub never_failed : (kind : Kind) (s new : State) (piece : List ℕ) (fault : HttpFault) → IsSoundFor kind (kept_of s) → TakeFails kind s new piece fault → fault ≡ HasFailed → ⊥
never_failed kind s new piece fault sound fails is = ∥∥₁_elim sound (λ x y. absurd x) (λ (bytes, kept).
    let P : HttpFault → Type 0 = λ f. IsFault kind (bytes ++ piece) f in
    subst P is (fails.is bytes kept))
