use Rattle.std.proofs.Common.{◌≡◌, map, string_bytes, Some, sym, ◌∙◌}
use Rattle.std.proofs.lemmas.Result.{IfOk-weaker, on_err_weaker}
use Rattle.fed_dest.specs.List.{place_of}
use Rattle.fed_sim.specs.Applying.{unknown_room, known_room}
use Rattle.fed_sim.proofs.Servers.{place_named}
use Rattle.fed_sim.proofs.server.Server.apply.Goals as goal

pub returns-in-Some-clause-given : goal.returns-in-Some-clause-given
returns-in-Some-clause-given c =
    let is : place_of (map string_bytes c.args.known.now) c.args.room.now ≡ Some c.in-Some.place = sym (place_named c.args.known.now c.args.room.now) ∙ sym c.place_of.ensures.place ∙ c.in-Some.is in
    IfOk-weaker c.apply_at.result _ _ (λ outcome arrived. known_room outcome _ c.in-Some.place is arrived) c.apply_at.ensures.applied

pub returns-in-Some-clause-err : goal.returns-in-Some-clause-err
returns-in-Some-clause-err c =
    let is : place_of (map string_bytes c.args.known.now) c.args.room.now ≡ Some c.in-Some.place = sym (place_named c.args.known.now c.args.room.now) ∙ sym c.place_of.ensures.place ∙ c.in-Some.is in
    on_err_weaker c.apply_at.result (λ in_part. record { place = c.in-Some.place; place_is = is; in_part = in_part }) c.apply_at.ensures.err

pub returns-in-None-clause-given : goal.returns-in-None-clause-given
returns-in-None-clause-given c = unknown_room (sym (place_named c.args.known.now c.args.room.now) ∙ sym c.place_of.ensures.place ∙ c.in-None.is)
