use Rattle.std.proofs.Common.{arith, ◌≡◌, [], refl, ap, subst, ◌∙◌, Some}
use Rattle.fed_http.specs.declared.state.State.{State}
use Rattle.fed_http.specs.declared.text_place.TextPlace.TheVariants.{Size}
use Rattle.fed_http.specs.Faults.{IsFault}
use Rattle.fed_http.specs.Keeping.{Kept}
use Rattle.fed_http.specs.KeepingParts.{kept_of, IsOpeningAt}
use Rattle.fed_http.proofs.Lines.{on_some, passed_on}
use Rattle.fed_http.proofs.HeadSteps.{opening_kept, place_begun, large_fault, room_at}
use Rattle.fed_http.proofs.state.State.open.Goals as goal

pub returns-in_err-place-clause-fault : goal.returns-in_err-place-clause-fault
returns-in_err-place-clause-fault c =
    let kind = c.args.kind in
    let text = c.args.self.now.text.items in
    let at = subst (λ v. IsOpeningAt kind v c.in-Some.opening) c.deref.ensures.value (on_some (IsOpeningAt kind c.deref.result.now) c.in-Some.is c.in_ok-opening.ensures.opening) in
    let f = c.in_err-place.field-0.0 in
    passed_on c.from_residual-in_err-place.result (IsFault kind text) f c.from_residual-in_err-place.ensures.1 (large_fault kind text c.in-Some.opening f at c.in_err-place.ensures.large)

pub returns-clause-opens : goal.returns-clause-opens
returns-clause-opens c =
    let kind = c.args.kind in
    let text = c.args.self.now.text.items in
    let made = c.make_room.new.self in
    let found = c.in-Some.opening in
    let place = c.in_ok-place.place in
    let at = subst (λ v. IsOpeningAt kind v found) c.deref.ensures.value (on_some (IsOpeningAt kind c.deref.result.now) c.in-Some.is c.in_ok-opening.ensures.opening) in
    let same = c.in_ok-make_room.ensures.same in
    let body_same : made.body.items ≡ [] = ap (λ (k : Kept). k.body) same ∙ c.requires in
    let now : State = record { place = place; at = Size 0; head = found.len; text = c.clear.new.self; start = Some found.message; body = made.body } in
    record {
      head = at.head;
      reads = at.reads;
      len_is = at.len;
      begun = place_begun found.framing place c.in_ok-place.ensures.place;
      room = λ rest less. room_at place made now c.args.more rest c.in_ok-make_room.ensures.room less (omega (arith, c.clear.ensures.len)) c.clear.ensures.capacity refl refl;
      kept = opening_kept kind (kept_of now) text found place at c.in_ok-place.ensures.place refl refl c.clear.ensures.items refl body_same refl;
    }
