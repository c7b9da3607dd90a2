use Rattle.std.proofs.Common.{ap, ◌∙◌, ℕ, string_bytes}
use Rattle.std.specs.FinMap as finite
use Rattle.fed_json.proofs.TextMaps.{text_map-insert}
use Rattle.fed_replies.specs.Places.{OriginPlaces}
use Rattle.fed_replies.proofs.places.TxnPlaces.insert.Goals as goal

pub returns-clause-ok : goal.returns-clause-ok
returns-clause-ok c =
    let e = c.in_ok-insert.ensures in
    text_map-insert (λ (n : ℕ). n) c.self.inside.places.entries c.insert.new.self.entries c.args.txn c.args.place c.self.invariant e.ordered e.entries
    ∙ ap (λ (m : OriginPlaces). finite.insert m (string_bytes c.args.txn) c.args.place) c.self.view_is
