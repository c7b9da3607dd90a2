use Rattle.std.proofs.Common.{ap, sym, ◌∙◌, ℕ}
use Rattle.std.specs.FinMap as finite
use Rattle.fed_json.proofs.TextMaps.{get-text_map}
use Rattle.fed_replies.specs.Places.{OriginPlaces}
use Rattle.fed_replies.proofs.Maps.{same_option}
use Rattle.fed_replies.proofs.places.TxnPlaces.get.Goals as goal

pub returns : goal.returns
returns c =
    c.copied.ensures ∙ c.get.ensures.value ∙ sym (same_option _)
    ∙ sym (get-text_map (λ (n : ℕ). n) c.self.inside.places.entries c.self.invariant c.args.txn.now)
    ∙ ap (λ (m : OriginPlaces). finite.get m c.args.txn.now) c.self.view_is
