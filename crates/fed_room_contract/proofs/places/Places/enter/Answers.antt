use Rattle.std.proofs.Common.{◌≡◌, ℕ, Option, None, Some, IsSome, sym, ap, ◌∙◌, subst, refl}
use Rattle.std.specs.FinMap as finite
use Rattle.fed_room_contract.specs.Places.{PlaceMap}
use Rattle.fed_room_contract.proofs.TextUpdates.{text_map-at, text_map-updates}
use Rattle.fed_room_contract.proofs.places.Places.enter.Goals as goal

abbrev seen : Option ℕ → Option ℕ
seen place = place

is_there : (o : Option (Option ℕ)) (place : Option ℕ) → Some place ≡ o → IsSome o
is_there (Some x) place h = refl
is_there None place h = absurd (cc)

pub unreachable-requires : goal.unreachable-requires
unreachable-requires c =
    let none = text_map-at c.self.inside.places c.args.id.now None c.self.invariant c.in-None.ensures.value in
    let there = subst (λ (m : PlaceMap). IsSome (finite.get m c.args.id.now)) (sym c.self.view_is) c.requires in
    let nothing : IsSome {T = Option ℕ} None = subst IsSome none there in
    absurd (cc)

pub returns : goal.returns
returns c =
    let new = Some c.args.place in
    let written = c.get_mut.follows.holds new in
    let m = c.self.inside.places in
    text_map-updates seen m (c.get_mut.follows.lender new) c.args.id.now new c.self.invariant written.4 (written.3 (is_there _ c.in-Some.entry.now c.in-Some.ensures.value))
    ∙ ap (λ (m : PlaceMap). finite.insert m c.args.id.now new) c.self.view_is
