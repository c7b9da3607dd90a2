use Rattle.std.proofs.Common.{◌≡◌, sym, ◌∙◌, ap, Some, is_some, option_map, string_bytes}
use Rattle.std.proofs.lemmas.Result.{on_ok_weaker, on_err_weaker}
use Rattle.std.specs.FinMap as finite
use Rattle.std.specs.Map.{lookup}
use Rattle.fed_json.proofs.TextMaps.{at, get-text_map}
use Rattle.fed_replies.specs.Places.{OriginPlaces, AllPlaces}
use Rattle.fed_replies.proofs.Maps.{text_map-set, text_map-same, text_map-missing}
use Rattle.fed_replies.proofs.OtherValues.{one_places_of}
use Rattle.fed_replies.proofs.places.Places.insert.Goals as goal

pub returns-in-Some-clause-ok : goal.returns-in-Some-clause-ok
returns-in-Some-clause-ok c =
    let origin = c.args.origin.now in
    let places = c.args.self.now in
    let es = c.self.inside.origins.entries in
    let found : lookup (at origin) es ≡ Some c.in-Some.places.now = sym c.in-Some.ensures.value in
    let there : finite.get places origin ≡ Some c.in-Some.places.now =
    ap (λ (m : AllPlaces). finite.get m origin) (sym c.self.view_is) ∙ get-text_map (λ (m : OriginPlaces). m) es c.self.invariant origin ∙ ap (option_map (λ (m : OriginPlaces). m)) found in
    let h = c.get_mut.follows.holds c.insert.new.self in
    let written = text_map-set (λ (m : OriginPlaces). m) es (c.get_mut.follows.lender c.insert.new.self).entries origin c.insert.new.self c.self.invariant h.4 (ap is_some found) h.0 in
    let txn_is : string_bytes c.in_ok-txn.txn ≡ c.args.txn.now = c.in_ok-txn.ensures.ok in
    on_ok_weaker c.insert.result (λ e.
    written ∙ ap (λ (m : AllPlaces). finite.insert m origin c.insert.new.self) c.self.view_is
    ∙ ap (finite.insert places origin) (e ∙ ap (λ t. finite.insert c.in-Some.places.now t c.args.place) txn_is
    ∙ ap (λ (m : OriginPlaces). finite.insert m c.args.txn.now c.args.place) (sym (one_places_of places origin c.in-Some.places.now there)))) c.insert.ensures.ok

pub returns-in-Some-clause-err : goal.returns-in-Some-clause-err
returns-in-Some-clause-err c =
    let origin = c.args.origin.now in
    let es = c.self.inside.origins.entries in
    let found : lookup (at origin) es ≡ Some c.in-Some.places.now = sym c.in-Some.ensures.value in
    let h = c.get_mut.follows.holds c.insert.new.self in
    on_err_weaker c.insert.result (λ e. text_map-same (λ (m : OriginPlaces). m) es (c.get_mut.follows.lender c.insert.new.self).entries origin c.insert.new.self (found ∙ ap Some (sym e)) h.0 ∙ c.self.view_is) c.insert.ensures.err

pub insert_first-requires : goal.insert_first-requires
insert_first-requires c =
    text_map-missing (λ (m : OriginPlaces). m) c.self.inside.origins.entries c.get_mut.follows.lender-at-none.entries c.args.origin.now (string_bytes c.in_ok-from_str.field-0) c.self.invariant
    (sym c.in_default.ensures.value) (ap (λ m. m.entries) c.get_mut.follows.holds-at-none) c.in_ok-from_str.ensures.ok
