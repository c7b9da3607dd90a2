use Rattle.std.proofs.Common.{◌<◌, ◌-◌, length, ap, arith}
use Rattle.fed_resolve.proofs.MaskWords.{masks-carried, masks-skipped}
use Rattle.fed_resolve.proofs.masks.carry_down.Goals as goal

pub loop-place-preserved-then-bits-ne0 : goal.loop-place-preserved-then-bits-ne0
loop-place-preserved-then-bits-ne0 c =
    let events = c.args.graph.now.stored in
    let place = c.loop-place.place - 1 in
    let within : place < length events = omega (arith, ap length c.events-place.ensures.stored) in
    record {
      long = c.mask_auths.ensures.long;
      each =
          masks-carried events c.events-place.ensures.graph c.loop-place.place place (omega arith) c.args.masks.now c.loop-place.masks c.loop-place.invariant.long within c.loop-place.invariant.each
          c.mask_auths.new.masks c.mask_auths.ensures;
    }

pub loop-place-preserved : goal.loop-place-preserved
loop-place-preserved c =
    let events = c.args.graph.now.stored in
    let place = c.loop-place.place - 1 in
    let within : place < length events = omega (arith, ap length c.events-place.ensures.stored) in
    record {
      long = c.loop-place.invariant.long;
      each =
          masks-skipped events c.events-place.ensures.graph c.loop-place.place place (omega arith) c.args.masks.now c.loop-place.masks c.loop-place.invariant.long within c.loop-place.invariant.each c.if-bits-ne0.false;
    }
