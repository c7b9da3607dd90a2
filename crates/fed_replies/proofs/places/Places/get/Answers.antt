use Rattle.std.proofs.Common.{◌≡◌, None, Some, option_map, ap, sym, ◌∙◌}
use Rattle.std.specs.FinMap as finite
use Rattle.fed_json.proofs.TextMaps.{get-text_map}
use Rattle.fed_replies.specs.Places.{OriginPlaces, AllPlaces}
use Rattle.fed_replies.proofs.OtherValues.{no_place, one_place}
use Rattle.fed_replies.proofs.places.Places.get.Goals as goal

pub returns-in_err-get : goal.returns-in_err-get
returns-in_err-get c =
    let found = get-text_map (λ (m : OriginPlaces). m) c.self.inside.origins.entries c.self.invariant c.args.origin.now in
    let none : finite.get c.args.self.now c.args.origin.now ≡ None =
    ap (λ (m : AllPlaces). finite.get m c.args.origin.now) (sym c.self.view_is) ∙ found ∙ ap (option_map (λ (m : OriginPlaces). m)) (sym c.in_err-get.ensures.value) in
    c.from_residual.ensures ∙ sym (no_place c.args.self.now c.args.origin.now c.args.txn.now none)

pub returns : goal.returns
returns c =
    let found = get-text_map (λ (m : OriginPlaces). m) c.self.inside.origins.entries c.self.invariant c.args.origin.now in
    let some : finite.get c.args.self.now c.args.origin.now ≡ Some c.in_ok-get.field-0.now =
    ap (λ (m : AllPlaces). finite.get m c.args.origin.now) (sym c.self.view_is) ∙ found ∙ ap (option_map (λ (m : OriginPlaces). m)) (sym c.in_ok-get.ensures.value) in
    c.get-2.ensures ∙ sym (one_place c.args.self.now c.args.origin.now c.args.txn.now c.in_ok-get.field-0.now some)
