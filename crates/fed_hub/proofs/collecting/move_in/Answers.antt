use Rattle.std.proofs.Common.{sym, ◌∙◌, subst}
use Rattle.fed_hub.specs.declared.collected.Collected.TheVariants.{Moved}
use Rattle.fed_hub.specs.Held.{Held}
use Rattle.fed_hub.specs.Collecting.{MovesIn}
use Rattle.fed_hub.proofs.Going.{token_of, moves_in, keeps_it}
use Rattle.fed_hub.proofs.collecting.move_in.Goals as goal

pub returns-in-Ok : goal.returns-in-Ok
returns-in-Ok g c =
    let t = c.token.inside in
    let new = token_of t.dest t.«end» c.take.new.self c.is_end-is_end.result in
    subst (λ (h : Held). MovesIn c.args.outbox.now h Moved c.collect.new.outbox new) c.token.view_is (moves_in t.dest t.«end» t.hand c.take.new.self t.ended c.is_end-is_end.result c.args.outbox.now c.collect.new.outbox c.unwrap-parcel.result (sym c.take.ensures.value ∙ c.unwrap-parcel.ensures) c.in-Ok.ensures.collected c.take.ensures.after c.is_end-is_end.ensures)

pub returns-in-Err : goal.returns-in-Err
returns-in-Err g c =
    let t = c.token.inside in
    subst (λ (h : Held). MovesIn c.args.outbox.now h c.told_of.result c.collect.new.outbox c.hold.new.self) c.token.view_is (keeps_it (token_of t.dest t.«end» t.hand t.ended) c.args.outbox.now c.collect.new.outbox c.unwrap-parcel.result c.in-Err.parcel c.in-Err.fault c.told_of.result c.hold.new.self (sym c.take.ensures.value ∙ c.unwrap-parcel.ensures) c.in-Err.ensures.refused.0 c.in-Err.ensures.refused.1 c.in-Err.ensures.same c.told_of.ensures c.hold.ensures)
