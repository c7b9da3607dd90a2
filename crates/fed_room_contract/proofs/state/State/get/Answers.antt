use Rattle.std.proofs.Common.{◌≡◌, Option, None, Some, option_map, option_and_then, refl, sym, ap, ◌∙◌}
use Rattle.fed_json.proofs.TextMaps.{get-text_map}
use Rattle.fed_room_contract.specs.State.{StateMap, entry_at}
use Rattle.fed_room_contract.specs.StateParts.{Ids, kinds_of}
use Rattle.fed_room_contract.proofs.States.{entry_at-flattened, at}
use Rattle.fed_room_contract.proofs.state.State.get.Goals as goal

unchanged : (o : Option Ids) → o ≡ option_map (λ x. x) o
unchanged None = refl
unchanged (Some x) = refl

pub returns-in_err-get : goal.returns-in_err-get
returns-in_err-get c =
    let es = c.self.inside.kinds.entries in
    let key = c.args.state_key.now in
    ap (option_map (λ id. id.now)) c.from_residual.ensures
    ∙ ap (option_and_then (at key)) (c.in_err-get.ensures.value ∙ unchanged _ ∙ sym (get-text_map (λ (ids : Ids). ids) es c.self.invariant c.args.kind.now))
    ∙ sym (entry_at-flattened (kinds_of es) c.args.kind.now key)
    ∙ ap (λ (s : StateMap). entry_at s c.args.kind.now key) c.self.view_is

pub returns : goal.returns
returns c =
    let es = c.self.inside.kinds.entries in
    let key = c.args.state_key.now in
    c.get-2.ensures
    ∙ ap (option_and_then (at key)) (c.in_ok-get.ensures.value ∙ unchanged _ ∙ sym (get-text_map (λ (ids : Ids). ids) es c.self.invariant c.args.kind.now))
    ∙ sym (entry_at-flattened (kinds_of es) c.args.kind.now key)
    ∙ ap (λ (s : StateMap). entry_at s c.args.kind.now key) c.self.view_is
