use Rattle.std.proofs.Common.{arith, ◌≡◌, ◌-◌, ◌++◌, length, take, refl, sym, ap, subst, ◌∙◌}
use Rattle.std.specs.Prelude.{min, vec_len}
use Rattle.fed_http.specs.Limits.{max_head}
use Rattle.fed_http.specs.Keeping.{Kept}
use Rattle.fed_http.specs.TextPlaces.{IsHeadPlace, HeadGoesOnTo}
use Rattle.fed_http.specs.KeepingParts.{kept_of, Opens, LacksHead}
use Rattle.fed_http.specs.declared.place.Place.TheVariants.{InHead}
use Rattle.fed_http.specs.declared.state.State.{State}
use Rattle.fed_http.proofs.Lines.{on_some, on_none}
use Rattle.fed_http.proofs.HeadSteps.{head_few}
use Rattle.fed_http.proofs.HeadStates.{head_ends, head_begun, head_waits, head_fails, head_body, head_goes, placed_behind, restored}
use Rattle.fed_http.proofs.state.State.take_head.Goals as goal

pub overflow_sub-before : goal.overflow_sub-before
overflow_sub-before c = omega (arith, head_few c.args.kind (kept_of c.args.self.now) c.requires.at c.requires.sound, c.args.self.now.text.ok, c.len-before.ensures)

pub open-requires : goal.open-requires
open-requires c = head_body c.args.kind (kept_of c.args.self.now) c.requires.at c.requires.sound

pub overflow_sub-result : goal.overflow_sub-result
overflow_sub-result c =
    let s = c.args.self.now in
    let piece = c.args.piece.now in
    let grown : State = record { place = s.place; at = s.at; head = s.head; text = c.extend_from_slice.new.self; start = s.start; body = s.body } in
    let opens = on_some (Opens c.args.kind grown c.open.new.self (length piece)) c.in-Ok-Some.field-0-is c.in-Ok-Some.ensures.opens in
    let ends = head_ends c.args.kind s grown c.open.new.self piece c.min-taken.result (length piece) c.in-Ok-Some.len c.requires.at c.requires.sound c.in_ok-extend_from_slice.ensures.items opens in
    omega (arith, ends.beyond, s.text.ok, c.len-before.ensures)

pub returns-in-Ok-Some-clause-begun : goal.returns-in-Ok-Some-clause-begun
returns-in-Ok-Some-clause-begun c =
    let s = c.args.self.now in
    let piece = c.args.piece.now in
    let grown : State = record { place = s.place; at = s.at; head = s.head; text = c.extend_from_slice.new.self; start = s.start; body = s.body } in
    let opens = on_some (Opens c.args.kind grown c.open.new.self (length piece)) c.in-Ok-Some.field-0-is c.in-Ok-Some.ensures.opens in
    head_begun c.args.kind s grown c.open.new.self piece c.min-taken.result c.in-Ok-Some.len (c.in-Ok-Some.len - c.len-before.result) c.requires.at c.requires.sound c.in_ok-extend_from_slice.ensures.items (omega (arith, c.min-taken.ensures)) opens
    (omega (arith, s.text.ok, c.len-before.ensures))

pub returns-in-Some-clause-waits : goal.returns-in-Some-clause-waits
returns-in-Some-clause-waits c =
    let kind = c.args.kind in
    let s = c.args.self.now in
    let piece = c.args.piece.now in
    let all = c.extend_from_slice.new.self in
    let n = c.len-before.result in
    let new = c.in-Some.at in
    let g = on_some (HeadGoesOnTo kind s.at n all.items) c.in-Some.is c.goes_on.ensures in
    let now : State = record { place = s.place; at = new; head = s.head; text = all; start = s.start; body = s.body } in
    let len : n ≡ length s.text.items = omega (arith, s.text.ok, c.len-before.ensures) in
    let more = take c.min-taken.result piece in
    let items = c.in_ok-extend_from_slice.ensures.items in
    let count : c.min-taken.result ≡ min (length piece) (max_head - vec_len s.text) = c.min-taken.ensures ∙ ap (λ n. min (length piece) (max_head - n)) c.len-before.ensures in
    head_waits kind s now piece c.min-taken.result c.requires.at c.requires.at refl items refl count (omega (arith, s.text.ok)) g.short (head_goes kind s.text.items more all.items n s.at new items len g) (placed_behind kind s.text.items more all.items n s.at new items len g.on)

pub returns-in-Ok-None-clause-waits : goal.returns-in-Ok-None-clause-waits
returns-in-Ok-None-clause-waits c =
    let kind = c.args.kind in
    let s = c.args.self.now in
    let piece = c.args.piece.now in
    let n = c.len-before.result in
    let parsed = c.open.new.self in
    let new = c.after-self.result in
    let grown : State = record { place = s.place; at = s.at; head = s.head; text = c.extend_from_slice.new.self; start = s.start; body = s.body } in
    let now : State = record { place = parsed.place; at = new; head = parsed.head; text = parsed.text; start = parsed.start; body = parsed.body } in
    let told = on_none ((parsed ≡ grown) × LacksHead kind grown.text.items) c.in-Ok-None.field-0-is c.in-Ok-None.ensures.unfinished in
    let len : n ≡ length s.text.items = omega (arith, s.text.ok, c.len-before.ensures) in
    let more = take c.min-taken.result piece in
    let count : c.min-taken.result ≡ min (length piece) (max_head - vec_len s.text) = c.min-taken.ensures ∙ ap (λ n. min (length piece) (max_head - n)) c.len-before.ensures in
    let here : parsed.place ≡ InHead = ap (λ (t : State). t.place) told.0 ∙ c.requires.at in
    let text : parsed.text.items ≡ s.text.items ++ more = ap (λ (t : State). t.text.items) told.0 ∙ c.in_ok-extend_from_slice.ensures.items in
    let body : parsed.body.items ≡ s.body.items = ap (λ (t : State). t.body.items) told.0 in
    let lacks : LacksHead kind parsed.text.items = subst (λ (t : State). LacksHead kind t.text.items) (sym told.0) told.1 in
    let at : parsed.at ≡ s.at = ap (λ (t : State). t.at) told.0 in
    let on : IsHeadPlace kind (take n parsed.text.items) s.at → IsHeadPlace kind parsed.text.items new =
    subst (λ p. IsHeadPlace kind (take n parsed.text.items) p → IsHeadPlace kind parsed.text.items new) at (subst (λ v. IsHeadPlace kind (take n v) parsed.at → IsHeadPlace kind v new) c.deref.ensures.value c.after-self.ensures) in
    head_waits kind s now piece c.min-taken.result c.requires.at here (ap (λ (t : State). t.head) told.0) text body count (omega (arith, s.text.ok)) lacks.few (λ _. lacks) (placed_behind kind s.text.items more parsed.text.items n s.at new text len on)

pub returns-in-Err-clause-fails : goal.returns-in-Err-clause-fails
returns-in-Err-clause-fails c =
    let s = c.args.self.now in
    let piece = c.args.piece.now in
    let now = c.open.new.self in
    let grown : State = record { place = s.place; at = s.at; head = s.head; text = c.extend_from_slice.new.self; start = s.start; body = s.body } in
    let e : kept_of now ≡ kept_of grown = c.in-Err.ensures.same in
    let text : now.text.items ≡ c.extend_from_slice.new.self.items = ap (λ (k : Kept). k.text) e in
    let cut = restored s.text.items (take c.min-taken.result piece) now.text.items c.truncate.new.self.items c.len-before.result (text ∙ c.in_ok-extend_from_slice.ensures.items) (omega (arith, s.text.ok, c.len-before.ensures)) c.truncate.ensures.items in
    let end : State = record { place = now.place; at = now.at; head = now.head; text = c.truncate.new.self; start = now.start; body = now.body } in
    let same : kept_of end ≡ kept_of s = λ i. record { place = (e i).place; at = (e i).at; head = (e i).head; text = cut i; start = (e i).start; body = (e i).body } in
    head_fails c.args.kind s end piece c.extend_from_slice.new.self.items c.min-taken.result c.in-Err.fault c.requires.at c.in_ok-extend_from_slice.ensures.items c.in-Err.ensures.fault same
