use Rattle.std.proofs.Common.{◌≡◌, map, ap, ◌∙◌}
use Rattle.std.specs.FinMap as finite
use Rattle.std.specs.List.{filter_map}
use Rattle.std.proofs.lemmas.Result.{IfOk-weaker}
use Rattle.fed_room_contract.specs.Entry.{seen}
use Rattle.fed_resolve.specs.ConflictParts.{place_of_entry}
use Rattle.fed_resolve.proofs.conflict.state_places.Goals as goal

pub returns-clause-places : goal.returns-clause-places
returns-clause-places c =
    let whole : map seen c.deref.result.now ≡ finite.entries c.args.state.now = ap (map seen) c.deref.ensures.value ∙ c.in_ok-entries.ensures in
    IfOk-weaker c.places.result _ _ (λ places h. h ∙ ap (filter_map (place_of_entry c.args.graph.now.stored)) whole) c.places.ensures.places
