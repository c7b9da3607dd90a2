-- What is kept of a body after several steps.
use Rattle.std.proofs.Common.{arith, ◌≡◌, ◌≢◌, ℕ, ◌+◌, ◌-◌, ◌<◌, ◌≤◌, List, ◌++◌, length, take, drop, sym, ap, subst, ◌∙◌, append_assoc, append-nil}
use Rattle.std.specs.Prelude.{Result, Ok, Err, Option, Some, None, IfOk, IfErr, IfSome, IfNone}
use Rattle.std.proofs.lemmas.List.{take-append-drop, take_all, length-drop, length-take}
use Rattle.std.proofs.Math.Seq.{take-append-add}
use Rattle.std.specs.Coded.{le_prop}
use Rattle.std.proofs.Math.Logic.{∥∥₁_elim, ∥∥₁_map}
use Rattle.fed_http.specs.Limits.{max_body}
use Rattle.fed_http.specs.Faults.{IsFault}
use Rattle.fed_http.specs.Waiting.{IsWaiting}
use Rattle.fed_http.specs.Keeping.{Kept, IsKept, IsInBody}
use Rattle.fed_http.specs.KeepingParts.{kept_of, IsSound, IsSoundFor, HasRoomAt, Stepped, StepFails, BodyEnds, BodyWaits, Ends, StillWaits, TakeFails, Begun}
use Rattle.fed_http.specs.declared.fault.HttpFault.{HttpFault}
use Rattle.fed_http.specs.declared.fault.HttpFault.TheVariants.{Memory}
use Rattle.fed_http.specs.declared.message.Kind.{Kind}
use Rattle.fed_http.specs.declared.place.Place.TheVariants.{InHead, InBody, InData, Ended}
use Rattle.fed_http.specs.declared.state.State.{State}
use Rattle.fed_http.proofs.Steps.{at_place}

-- ---- what is missing

pub body_left : (k : Kept) (left : ℕ) → k.place ≡ InBody left → IsSound k → 0 < left
body_left k left at sound = ∥∥₁_elim sound le_prop (λ (kind, (bytes, kept)).
    let x : IsInBody kind k bytes left = at_place (InBody left) kind k bytes at kept in
    x.some)

pub data_left : (k : Kept) (left : ℕ) → k.place ≡ InData left → IsSound k → 0 < left
data_left k left at sound = ∥∥₁_elim sound le_prop (λ (kind, (bytes, kept)). (at_place (InData left) kind k bytes at kept).1)

pub data_fits : (k : Kept) (left : ℕ) → k.place ≡ InData left → IsSound k → length k.body + left ≤ max_body
data_fits k left at sound = ∥∥₁_elim sound le_prop (λ (kind, (bytes, kept)). (at_place (InData left) kind k bytes at kept).0.fits)

-- ---- several steps

pub record Walking (old now : State) (rest : List ℕ) (used : ℕ) : Type 0 where
  pub within : used ≤ length rest
  pub sound : IsSound (kept_of now)
  pub begun : now.place ≢ InHead
  pub unended : now.place ≢ Ended
  pub room : HasRoomAt now.place now (length rest - used)
  pub kept : (kind : Kind) (bytes : List ℕ) → IsKept kind (kept_of old) bytes → IsKept kind (kept_of now) (bytes ++ take used rest)

pub walk_begins : (s : State) (rest : List ℕ) → IsSound (kept_of s) → s.place ≢ InHead → s.place ≢ Ended → HasRoomAt s.place s (length rest) → Walking s s rest 0
walk_begins s rest sound begun unended room =
    let same : length rest ≡ length rest - 0 = omega arith in
    record {
      within = omega arith;
      sound = sound;
      begun = begun;
      unended = unended;
      room = subst (HasRoomAt s.place s) same room;
      kept = λ kind bytes x. subst (IsKept kind (kept_of s)) (sym (append-nil bytes)) x;
    }

pub ended_at_once : (s : State) (rest : List ℕ) → s.place ≡ Ended → BodyEnds s s rest 0
ended_at_once s rest at = record { within = omega arith; ended = at; kept = λ kind bytes x. subst (IsKept kind (kept_of s)) (sym (append-nil bytes)) x }

length_left : (rest slice : List ℕ) (used : ℕ) → slice ≡ drop used rest → length slice ≡ length rest - used
length_left rest slice used is = omega (arith, ap length is, length-drop used rest)

joined : (bytes rest slice : List ℕ) (used taken : ℕ) → slice ≡ drop used rest → used ≤ length rest → (bytes ++ take used rest) ++ take taken slice ≡ bytes ++ take (used + taken) rest
joined bytes rest slice used taken is within =
    let len : used ≡ length (take used rest) = omega (arith, length-take used rest, within) in
    let parts : take (used + taken) rest ≡ take used rest ++ take taken (drop used rest) =
    ap (take (used + taken)) (sym (take-append-drop used rest)) ∙ ap (λ n. take (n + taken) (take used rest ++ drop used rest)) len ∙ take-append-add (take used rest) (drop used rest) taken in
    append_assoc bytes (take used rest) (take taken slice) ∙ ap (λ v. bytes ++ (take used rest ++ take taken v)) is ∙ ap (λ v. bytes ++ v) (sym parts)

step_kept : (old now new : State) (rest slice : List ℕ) (used taken : ℕ) → Walking old now rest used → Stepped now new slice taken → slice ≡ drop used rest → (kind : Kind) (bytes : List ℕ) → IsKept kind (kept_of old) bytes → IsKept kind (kept_of new) (bytes ++ take (used + taken) rest)
step_kept old now new rest slice used taken w st is kind bytes x = subst (IsKept kind (kept_of new)) (joined bytes rest slice used taken is w.within) (st.kept kind (bytes ++ take used rest) (w.kept kind bytes x))

step_within : (old now new : State) (rest slice : List ℕ) (used taken : ℕ) → Walking old now rest used → Stepped now new slice taken → slice ≡ drop used rest → used + taken ≤ length rest
step_within old now new rest slice used taken w st is = omega (arith, w.within, st.within, length_left rest slice used is)

pub walk_on : (old now new : State) (rest slice : List ℕ) (used taken : ℕ) → Walking old now rest used → Stepped now new slice taken → slice ≡ drop used rest → new.place ≢ Ended → Walking old new rest (used + taken)
walk_on old now new rest slice used taken w st is unended =
    let left : length slice - taken ≡ length rest - (used + taken) = omega (arith, length_left rest slice used is) in
    record {
      within = step_within old now new rest slice used taken w st is;
      sound = ∥∥₁_map w.sound (λ (kind, (bytes, kept)). (kind, (bytes ++ take taken slice, st.kept kind bytes kept)));
      begun = st.begun;
      unended = unended;
      room = subst (HasRoomAt new.place new) left st.room;
      kept = step_kept old now new rest slice used taken w st is;
    }

pub walk_ends : (old now new : State) (rest slice : List ℕ) (used taken : ℕ) → Walking old now rest used → Stepped now new slice taken → slice ≡ drop used rest → new.place ≡ Ended → BodyEnds old new rest (used + taken)
walk_ends old now new rest slice used taken w st is ended = record {
  within = step_within old now new rest slice used taken w st is;
  ended = ended;
  kept = step_kept old now new rest slice used taken w st is;
}

pub walk_waits : (old now new : State) (rest slice : List ℕ) (used taken : ℕ) → Walking old now rest used → Stepped now new slice taken → slice ≡ drop used rest → new.place ≢ Ended → used + taken ≡ length rest → BodyWaits old new rest
walk_waits old now new rest slice used taken w st is unended all =
    let whole : take (used + taken) rest ≡ rest = take_all (used + taken) rest (omega (arith, all)) in
    record {
      kept = λ kind bytes x. subst (λ v. IsKept kind (kept_of new) (bytes ++ v)) whole (step_kept old now new rest slice used taken w st is kind bytes x);
      waits = λ kind bytes x.
          subst (λ v. IsWaiting kind (bytes ++ v)) whole
          (subst (IsWaiting kind) (joined bytes rest slice used taken is w.within) (st.waits kind (bytes ++ take used rest) (w.kept kind bytes x) unended));
      unended = unended;
    }

pub walk_smaller : (old now new : State) (rest slice : List ℕ) (used taken : ℕ) → Walking old now rest used → Stepped now new slice taken → slice ≡ drop used rest → used + taken ≢ length rest → length rest - (used + taken) < length rest - used
walk_smaller old now new rest slice used taken w st is other =
    let within = step_within old now new rest slice used taken w st is in
    let left = length_left rest slice used is in
    let came : 0 < length slice = omega (arith, left, within, other) in
    omega (arith, st.some came, within, other)

pub walk_fails : (old now : State) (rest slice : List ℕ) (used : ℕ) (fault : HttpFault) → Walking old now rest used → StepFails now slice fault → slice ≡ drop used rest → StepFails old rest fault
walk_fails old now rest slice used fault w fails is = record {
  other = fails.other;
  is = λ kind bytes x.
      let whole : (bytes ++ take used rest) ++ slice ≡ bytes ++ rest = append_assoc bytes (take used rest) slice ∙ ap (λ v. bytes ++ (take used rest ++ v)) is ∙ ap (λ v. bytes ++ v) (take-append-drop used rest) in
      subst (λ v. IsFault kind v fault) whole (fails.is kind (bytes ++ take used rest) (w.kept kind bytes x));
}

-- ---- a whole piece

pub sound_for : (kind : Kind) (old made : State) → kept_of made ≡ kept_of old → IsSoundFor kind (kept_of old) → IsSound (kept_of made)
sound_for kind old made same sound = subst IsSound (sym same) (∥∥₁_map sound (λ (bytes, kept). (kind, (bytes, kept))))

pub body_ends_piece : (kind : Kind) (old made new : State) (piece : List ℕ) (used : ℕ) → kept_of made ≡ kept_of old → BodyEnds made new piece used → Ends kind old new piece used
body_ends_piece kind old made new piece used same e = record { within = e.within; ended = e.ended; kept = λ bytes x. e.kept kind bytes (subst (λ k. IsKept kind k bytes) (sym same) x) }

pub body_waits_piece : (kind : Kind) (old made new : State) (piece : List ℕ) → kept_of made ≡ kept_of old → BodyWaits made new piece → StillWaits kind old new piece
body_waits_piece kind old made new piece same w = record {
  kept = λ bytes x. w.kept kind bytes (subst (λ k. IsKept kind k bytes) (sym same) x);
  waits = λ bytes x. w.waits kind bytes (subst (λ k. IsKept kind k bytes) (sym same) x);
  unended = w.unended;
}

pub body_fails_piece : (kind : Kind) (old made new : State) (piece : List ℕ) (fault : HttpFault) → kept_of made ≡ kept_of old → StepFails made piece fault → TakeFails kind old new piece fault
body_fails_piece kind old made new piece fault same f = record { same = λ e. absurd (f.other e); is = λ bytes x. f.is kind bytes (subst (λ k. IsKept kind k bytes) (sym same) x) }

-- behind the head
pub begun_sound : (kind : Kind) (old now : State) (piece : List ℕ) (used : ℕ) → IsSoundFor kind (kept_of old) → Begun kind old now piece used → IsSound (kept_of now)
begun_sound kind old now piece used sound b = ∥∥₁_map sound (λ (bytes, kept). (kind, (bytes ++ take used piece, b.kept bytes kept)))

pub begun_ends : (kind : Kind) (old now new : State) (piece slice : List ℕ) (used more : ℕ) → Begun kind old now piece used → slice ≡ drop used piece → BodyEnds now new slice more → Ends kind old new piece (used + more)
begun_ends kind old now new piece slice used more b is e = record {
  within = omega (arith, b.within, e.within, length_left piece slice used is);
  ended = e.ended;
  kept = λ bytes x. subst (IsKept kind (kept_of new)) (joined bytes piece slice used more is b.within) (e.kept kind (bytes ++ take used piece) (b.kept bytes x));
}

all_of : (bytes piece slice : List ℕ) (used : ℕ) → slice ≡ drop used piece → (bytes ++ take used piece) ++ slice ≡ bytes ++ piece
all_of bytes piece slice used is = append_assoc bytes (take used piece) slice ∙ ap (λ v. bytes ++ (take used piece ++ v)) is ∙ ap (λ v. bytes ++ v) (take-append-drop used piece)

pub begun_waits : (kind : Kind) (old now new : State) (piece slice : List ℕ) (used : ℕ) → Begun kind old now piece used → slice ≡ drop used piece → BodyWaits now new slice → StillWaits kind old new piece
begun_waits kind old now new piece slice used b is w = record {
  kept = λ bytes x. subst (IsKept kind (kept_of new)) (all_of bytes piece slice used is) (w.kept kind (bytes ++ take used piece) (b.kept bytes x));
  waits = λ bytes x. subst (IsWaiting kind) (all_of bytes piece slice used is) (w.waits kind (bytes ++ take used piece) (b.kept bytes x));
  unended = w.unended;
}

pub begun_fails : (kind : Kind) (old now new : State) (piece slice : List ℕ) (used : ℕ) (fault : HttpFault) → Begun kind old now piece used → slice ≡ drop used piece → StepFails now slice fault → TakeFails kind old new piece fault
begun_fails kind old now new piece slice used fault b is f = record {
  same = λ e. absurd (f.other e);
  is = λ bytes x. subst (λ v. IsFault kind v fault) (all_of bytes piece slice used is) (f.is kind (bytes ++ take used piece) (b.kept bytes x));
}

pub memory_fails : (kind : Kind) (old new : State) (piece : List ℕ) → kept_of new ≡ kept_of old → TakeFails kind old new piece Memory
memory_fails kind old new piece same = record { same = λ e. same; is = λ bytes x. tt }

-- ---- what a call says of its answer

pub if_some : {P Q : ℕ → Type 0} (r : Result (Option ℕ) HttpFault) → ((n : ℕ) → P n → Q n) → IfOk r (λ t. IfSome t P) → IfOk r (λ t. IfSome t Q)
if_some (Ok (Some n)) f h = f n h
if_some (Ok None) f h = h
if_some (Err e) f h = h

pub if_none : {P Q : Type 0} (r : Result (Option ℕ) HttpFault) → (P → Q) → IfOk r (λ t. IfNone t P) → IfOk r (λ t. IfNone t Q)
if_none (Ok (Some n)) f h = h
if_none (Ok None) f h = f h
if_none (Err e) f h = h

pub if_err : {P Q : HttpFault → Type 0} (r : Result (Option ℕ) HttpFault) → ((e : HttpFault) → P e → Q e) → IfErr r P → IfErr r Q
if_err (Ok t) f h = h
if_err (Err e) f h = f e h
