use Rattle.std.proofs.Common.{◌≡◌, Option, Some, None, is_some, refl, sym, ap, ◌∙◌, Bor}
use Rattle.std.specs.Option.{option_copied}
use Rattle.fed_hub.specs.Rooms.{RoomsShape}
use Rattle.fed_hub.specs.Setup.{has_room}
use Rattle.fed_hub.proofs.Ids.{found}
use Rattle.fed_hub.proofs.rooms.Rooms.get.Goals as goal

same : {V : Type 0} (o : Option (Bor V)) → is_some o ≡ is_some (option_copied o)
same None = refl
same (Some x) = refl

pub returns-in_err-place : goal.returns-in_err-place
returns-in_err-place c = ap is_some c.from_residual.ensures ∙ sym (ap is_some c.in_err-place.was) ∙ same c.get.result ∙ ap is_some c.get.ensures.value ∙ found c.args.id.now c.self.inside.places.entries ∙ ap (λ (r : RoomsShape). has_room r.ids c.args.id.now) c.self.view_is

pub returns : goal.returns
returns c = sym (ap is_some c.in_ok-place.was) ∙ same c.get.result ∙ ap is_some c.get.ensures.value ∙ found c.args.id.now c.self.inside.places.entries ∙ ap (λ (r : RoomsShape). has_room r.ids c.args.id.now) c.self.view_is
