use Rattle.std.proofs.Common.{rules, ◌≡◌, ◌≢◌, ℕ, refl, sym, subst}
use Rattle.std.specs.Prelude.{IfSome, IfNone}
use Rattle.fed_http.specs.Faults.{IsBadHead, IsTooLarge, IsBadLength, IsBadChunk}
use Rattle.fed_http.specs.KeepingParts.{kept_of, IsReading, Ends, StillWaits}
use Rattle.fed_http.specs.declared.fault.HttpFault.TheVariants.{Memory, BadHead, TooLarge, BadLength, BadChunk, HasFailed}
use Rattle.fed_http.proofs.Lines.{on_some, on_none, on_ok}
use Rattle.fed_http.proofs.Feeds.{feed_gives, feed_waits, feed_fails, told_as, tells, gives_no_fault}
use Rattle.fed_http.proofs.Verdicts.{fault_never_waits}
use Rattle.fed_http.proofs.Kept.{sound_of, begins_sound, waits_sound, same_sound, gives_start, never_failed}
use Rattle.fed_http.proofs.reader.Reader.feed.Goals as goal

pub take-requires : goal.take-requires
take-requires c = sound_of c.self.inside.kind c.self.inside.state c.self.inside.has_failed c.if-self.false c.self.invariant

pub give-requires : goal.give-requires
give-requires c =
    let kind = c.self.inside.kind in
    let P : ℕ → Type 0 = Ends kind c.self.inside.state c.take.new.self c.args.piece.now in
    let ends = on_some P c.in-Ok-Some.field-0-is (on_ok (λ r. IfSome r P) c.in-Ok-Some.is c.take.ensures.ends) in
    gives_start kind c.self.inside.state c.take.new.self c.args.piece.now c.in-Ok-Some.used (sound_of c.self.inside.kind c.self.inside.state c.self.inside.has_failed c.if-self.false c.self.invariant) ends

pub invariant_of-self : goal.invariant_of-self
invariant_of-self c = subst (IsReading c.self.inside.kind c.give.new.self) (sym c.if-self.false) (begins_sound c.self.inside.kind c.give.new.self c.give.ensures.kept c.give.ensures.place)

pub invariant_of-self-in-Ok-None : goal.invariant_of-self-in-Ok-None
invariant_of-self-in-Ok-None c =
    let kind = c.self.inside.kind in
    let P : Type 0 = StillWaits kind c.self.inside.state c.take.new.self c.args.piece.now in
    let waits = on_none P c.in-Ok-None.field-0-is (on_ok (λ r. IfNone r P) c.in-Ok-None.is c.take.ensures.waits) in
    subst (IsReading kind c.take.new.self) (sym c.if-self.false) (waits_sound kind c.self.inside.state c.take.new.self c.args.piece.now c.self.inside.has_failed c.if-self.false c.self.invariant waits)

pub invariant_of-self-then-eq : goal.invariant_of-self-then-eq
invariant_of-self-then-eq c =
    let is : c.in-Err.fault ≡ Memory = search rules in
    same_sound c.self.inside.kind c.self.inside.state c.take.new.self c.self.inside.has_failed (c.in-Err.ensures.fails.same is) c.if-self.false c.self.invariant

pub returns-in-Ok-Some-clause-given : goal.returns-in-Ok-Some-clause-given
returns-in-Ok-Some-clause-given c =
    let kind = c.self.inside.kind in
    let P : ℕ → Type 0 = Ends kind c.self.inside.state c.take.new.self c.args.piece.now in
    let ends = on_some P c.in-Ok-Some.field-0-is (on_ok (λ r. IfSome r P) c.in-Ok-Some.is c.take.ensures.ends) in
    feed_gives c.args.self.now kind c.self.inside.state c.take.new.self (kept_of c.give.new.self) c.args.piece.now c.self.inside.has_failed c.in-Ok-Some.used c.give.result c.self.view_is c.if-self.false ends c.give.ensures.message (c.give.ensures.kept kind)

pub returns-in-Ok-Some-clause-told : goal.returns-in-Ok-Some-clause-told
returns-in-Ok-Some-clause-told c bytes fault stands other is =
    let kind = c.self.inside.kind in
    let P : ℕ → Type 0 = Ends kind c.self.inside.state c.take.new.self c.args.piece.now in
    let ends = on_some P c.in-Ok-Some.field-0-is (on_ok (λ r. IfSome r P) c.in-Ok-Some.is c.take.ensures.ends) in
    let gives = feed_gives c.args.self.now kind c.self.inside.state c.take.new.self (kept_of c.give.new.self) c.args.piece.now c.self.inside.has_failed c.in-Ok-Some.used c.give.result c.self.view_is c.if-self.false ends c.give.ensures.message (c.give.ensures.kept kind) bytes stands in
    absurd (gives_no_fault c.args.self.now bytes c.args.piece.now _ c.give.result c.in-Ok-Some.used fault gives other is)

pub returns-in-Ok-None-clause-waits : goal.returns-in-Ok-None-clause-waits
returns-in-Ok-None-clause-waits c =
    let kind = c.self.inside.kind in
    let P : Type 0 = StillWaits kind c.self.inside.state c.take.new.self c.args.piece.now in
    let waits = on_none P c.in-Ok-None.field-0-is (on_ok (λ r. IfNone r P) c.in-Ok-None.is c.take.ensures.waits) in
    feed_waits c.args.self.now kind c.self.inside.state c.take.new.self c.args.piece.now c.self.inside.has_failed c.self.view_is c.if-self.false waits

pub returns-in-Ok-None-clause-told : goal.returns-in-Ok-None-clause-told
returns-in-Ok-None-clause-told c bytes fault stands other is =
    let kind = c.self.inside.kind in
    let P : Type 0 = StillWaits kind c.self.inside.state c.take.new.self c.args.piece.now in
    let waits = on_none P c.in-Ok-None.field-0-is (on_ok (λ r. IfNone r P) c.in-Ok-None.is c.take.ensures.waits) in
    let here = feed_waits c.args.self.now kind c.self.inside.state c.take.new.self c.args.piece.now c.self.inside.has_failed c.self.view_is c.if-self.false waits bytes stands in
    absurd (fault_never_waits c.args.self.now.kind _ fault other is here.waiting)

pub returns-in-Err-2-clause-bad_head : goal.returns-in-Err-2-clause-bad_head
returns-in-Err-2-clause-bad_head c stood stands e =
    feed_fails IsBadHead c.args.self.now c.self.inside.kind c.self.inside.state c.take.new.self (kept_of c.let_go.new.self) c.args.piece.now c.self.inside.has_failed c.in-Err.fault BadHead c.self.view_is c.in-Err.ensures.fails (told_as c.in-Err.fault BadHead e) (λ x. cc) (λ bytes is. is)
    stood stands

pub returns-in-Err-2-clause-too_large : goal.returns-in-Err-2-clause-too_large
returns-in-Err-2-clause-too_large c stood stands e =
    feed_fails IsTooLarge c.args.self.now c.self.inside.kind c.self.inside.state c.take.new.self (kept_of c.let_go.new.self) c.args.piece.now c.self.inside.has_failed c.in-Err.fault TooLarge c.self.view_is c.in-Err.ensures.fails (told_as c.in-Err.fault TooLarge e) (λ x. cc) (λ bytes is. is)
    stood stands

pub returns-in-Err-2-clause-bad_length : goal.returns-in-Err-2-clause-bad_length
returns-in-Err-2-clause-bad_length c stood stands e =
    feed_fails IsBadLength c.args.self.now c.self.inside.kind c.self.inside.state c.take.new.self (kept_of c.let_go.new.self) c.args.piece.now c.self.inside.has_failed c.in-Err.fault BadLength c.self.view_is c.in-Err.ensures.fails (told_as c.in-Err.fault BadLength e) (λ x. cc)
    (λ bytes is. is) stood stands

pub returns-in-Err-2-clause-bad_chunk : goal.returns-in-Err-2-clause-bad_chunk
returns-in-Err-2-clause-bad_chunk c stood stands e =
    feed_fails IsBadChunk c.args.self.now c.self.inside.kind c.self.inside.state c.take.new.self (kept_of c.let_go.new.self) c.args.piece.now c.self.inside.has_failed c.in-Err.fault BadChunk c.self.view_is c.in-Err.ensures.fails (told_as c.in-Err.fault BadChunk e) (λ x. cc) (λ bytes is. is)
    stood stands

pub returns-in-Err-2-clause-told : goal.returns-in-Err-2-clause-told
returns-in-Err-2-clause-told c =
    let other : c.in-Err.fault ≢ Memory = search rules in
    tells c.args.self.now c.self.inside.kind c.self.inside.state c.take.new.self c.args.piece.now c.self.inside.has_failed c.in-Err.fault _ c.self.view_is c.in-Err.ensures.fails other refl

pub returns-in-Err-2-clause-only_failed : goal.returns-in-Err-2-clause-only_failed
returns-in-Err-2-clause-only_failed c e =
    let sound = sound_of c.self.inside.kind c.self.inside.state c.self.inside.has_failed c.if-self.false c.self.invariant in
    absurd (never_failed c.self.inside.kind c.self.inside.state c.take.new.self c.args.piece.now c.in-Err.fault sound c.in-Err.ensures.fails (told_as c.in-Err.fault HasFailed e))
