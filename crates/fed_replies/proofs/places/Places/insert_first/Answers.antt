use Rattle.std.proofs.Common.{◌≡◌, ap, sym, ◌∙◌, string_bytes}
use Rattle.std.specs.FinMap as finite
use Rattle.fed_json.proofs.TextMaps.{text_map-insert}
use Rattle.fed_replies.specs.Places.{OriginPlaces, AllPlaces, places_of}
use Rattle.fed_replies.proofs.OtherValues.{no_places_of}
use Rattle.fed_replies.proofs.places.Places.insert_first.Goals as goal

pub returns-clause-ok : goal.returns-clause-ok
returns-clause-ok c =
    let origin = string_bytes c.args.origin in
    let txn = string_bytes c.args.txn in
    let e = c.in_ok-insert-2.ensures in
    let none : finite.empty ≡ places_of c.args.self.now origin = sym (no_places_of c.args.self.now origin c.requires) in
    let first : c.insert.new.self ≡ finite.insert (places_of c.args.self.now origin) txn c.args.place =
    c.in_ok-insert.ensures.ok ∙ ap (λ (m : OriginPlaces). finite.insert m txn c.args.place) (c.new-places.ensures ∙ none) in
    text_map-insert (λ (m : OriginPlaces). m) c.self.inside.origins.entries c.insert-2.new.self.entries c.args.origin c.insert.new.self c.self.invariant e.ordered e.entries
    ∙ ap (λ (m : AllPlaces). finite.insert m origin c.insert.new.self) c.self.view_is
    ∙ ap (finite.insert c.args.self.now origin) first
