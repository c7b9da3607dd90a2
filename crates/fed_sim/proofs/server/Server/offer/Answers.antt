use Rattle.std.proofs.Common.{◌≡◌, map, string_bytes, String, Global, bytes_eq, position, Some, None, refl, sym, ap, ◌∙◌}
use Rattle.std.specs.List.{slice_get}
use Rattle.std.specs.Option.{option_and_then}
use Rattle.std.proofs.lemmas.Result.{IfOk-weaker}
use Rattle.fed_room_contract.specs.Draft.{DraftFields}
use Rattle.fed_dest.specs.List.{place_of}
use Rattle.fed_sim.specs.Hosted.{rooms_of}
use Rattle.fed_sim.specs.Offering.{unknown_room, known_room}
use Rattle.fed_sim.proofs.Servers.{place_named}
use Rattle.fed_sim.proofs.server.Server.offer.Goals as goal

pub returns-in-Some-clause-offered : goal.returns-in-Some-clause-offered
returns-in-Some-clause-offered c =
    let room : c.deref.result.now ≡ c.args.draft.room = c.deref.ensures ∙ ap (λ (d : DraftFields). d.room) c.draft.view_is in
    let is : place_of (map string_bytes c.args.known.now) c.args.draft.room ≡ Some c.in-Some.place =
    sym (place_named c.args.known.now c.args.draft.room) ∙ ap (λ r. position (λ (id : String Global). bytes_eq (string_bytes id) r) c.args.known.now) (sym room) ∙ sym c.place_of.ensures.place ∙ c.in-Some.is in
    IfOk-weaker c.offer_at.result _ _ (λ outcome at. known_room c.in-Some.place is at) c.offer_at.ensures.offered

pub returns-in-None-clause-offered : goal.returns-in-None-clause-offered
returns-in-None-clause-offered c =
    let room : c.deref.result.now ≡ c.args.draft.room = c.deref.ensures ∙ ap (λ (d : DraftFields). d.room) c.draft.view_is in
    let is : place_of (map string_bytes c.args.known.now) c.args.draft.room ≡ None =
    sym (place_named c.args.known.now c.args.draft.room) ∙ ap (λ r. position (λ (id : String Global). bytes_eq (string_bytes id) r) c.args.known.now) (sym room) ∙ sym c.place_of.ensures.place ∙ c.in-None.is in
    unknown_room (ap (option_and_then (slice_get (rooms_of c.args.self.now.rooms.items))) is) refl refl
