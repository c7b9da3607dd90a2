use Rattle.std.proofs.Common.{arith, ◌<◌, ◌≡◌, true, length, sym, ap, ◌∙◌, subst}
use Rattle.fed_dest.specs.ServerSet.{is_among}
use Rattle.fed_hub_state.specs.declared.unplaced.Unplaced.{Unplaced}
use Rattle.fed_hub_state.specs.Spreading.{dests_of}
use Rattle.fed_hub_state.proofs.WireRooms.{among_at, dest_within}
use Rattle.fed_hub_state.proofs.spreading.full_among.Goals as goal

pub full_at-requires : goal.full_at-requires
full_at-requires g c =
    let within = dest_within (length c.args.ends.now) c.args.loads.now c.loop-unplaced.unplaced-index c.unplaced-item.result c.requires c.loop-unplaced-test.true in
    let here = subst (λ (u : Unplaced). u.dest < length c.args.ends.now) (sym c.unplaced-item.is) within in
    omega (arith, here, c.loop-unplaced.auto.ends)

pub returns-in-Some-clause-full : goal.returns-in-Some-clause-full
returns-in-Some-clause-full g c =
    let among = among_at c.args.loads.now c.loop-unplaced.unplaced-index c.unplaced-item.result c.loop-unplaced-test.true in (
      ap (is_among (dests_of c.args.loads.now)) c.in-Some.ensures.full.0 ∙ subst (λ (u : Unplaced). is_among (dests_of c.args.loads.now) u.dest ≡ true) (sym c.unplaced-item.is) among,
      c.in-Some.ensures.full.1,
    )
