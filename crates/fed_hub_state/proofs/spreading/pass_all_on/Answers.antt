use Rattle.std.proofs.Common.{arith, List, length, set, get_or, sym, ap, ◌∙◌, subst}
use Rattle.fed_journal.specs.Offered.{load_of}
use Rattle.fed_hub_state.specs.declared.unplaced.Unplaced.{Unplaced}
use Rattle.fed_hub_state.specs.Spreading.{dests_of}
use Rattle.fed_hub_state.specs.SpreadingParts.{IsUnderWay}
use Rattle.fed_hub_state.proofs.Spreads.{under_way_begins, credit_next, goes_on, is_next, placed_so_far, count_placed, none_left, server_within, standing}
use Rattle.fed_hub_state.proofs.spreading.pass_all_on.Goals as goal

pub loop-unplaced-init : goal.loop-unplaced-init
loop-unplaced-init g c =
    subst (λ (left : List Unplaced). IsUnderWay g.N.Naming.wires (load_of c.args.offered.now) (dests_of c.args.loads.items) c.args.journal.now.entries left c.args.journal.now c.args.ends.now)
    (sym c.into_iter-unplaced-iterator.ensures.into_iter_gives.0)
    (under_way_begins g.N.Naming.wires (load_of c.args.offered.now) c.args.loads.items c.args.journal.now c.args.ends.now c.requires.sent c.requires.same c.requires.room c.requires.credits)

pub bounds-ends-place : goal.bounds-ends-place
bounds-ends-place g c =
    let W = λ (left : List Unplaced). IsUnderWay g.N.Naming.wires (load_of c.args.offered.now) (dests_of c.args.loads.items) c.args.journal.now.entries left c.loop-unplaced.journal c.loop-unplaced.ends in
    let way = subst W c.in-Some.ensures.steps.0 c.loop-unplaced.invariant in
    let within = server_within (length g.N.Naming.wires) (dests_of c.args.loads.items) way.given c.in-Some.unplaced.dest (dests_of c.next.new.self.rest.items) way.all c.requires.within in
    omega (arith, within, c.place.ensures.place, way.sent.count)

pub pass_on-requires-clause-sent : goal.pass_on-requires-clause-sent
pass_on-requires-clause-sent g c =
    let W = λ (left : List Unplaced). IsUnderWay g.N.Naming.wires (load_of c.args.offered.now) (dests_of c.args.loads.items) c.args.journal.now.entries left c.loop-unplaced.journal c.loop-unplaced.ends in
    let way = subst W c.in-Some.ensures.steps.0 c.loop-unplaced.invariant in
    let u = c.in-Some.unplaced in
    let later = c.next.new.self.rest.items in
    let servers = dests_of c.args.loads.items in
    let load = load_of c.args.offered.now in
    let within = server_within (length g.N.Naming.wires) servers way.given u.dest (dests_of later) way.all c.requires.within in
    let here = standing c.loop-unplaced.ends c.place.result u.dest c.index-ends-place.result c.place.ensures.place (omega (arith, within, way.sent.count)) in
    ap length (placed_so_far g.N.Naming.wires load way.given u.dest (is_next g.N.Naming.wires load servers c.args.journal.now.entries u later c.requires.rising c.loop-unplaced.journal c.loop-unplaced.ends way)
    c.loop-unplaced.journal.entries c.loop-unplaced.ends (get_or c.loop-unplaced.ends c.place.result c.index-ends-place.result) way.sent here)
    ∙ count_placed c.loop-unplaced.journal.entries u.dest

pub pass_on-requires-clause-credit : goal.pass_on-requires-clause-credit
pass_on-requires-clause-credit g c =
    let W = λ (left : List Unplaced). IsUnderWay g.N.Naming.wires (load_of c.args.offered.now) (dests_of c.args.loads.items) c.args.journal.now.entries left c.loop-unplaced.journal c.loop-unplaced.ends in
    let way = subst W c.in-Some.ensures.steps.0 c.loop-unplaced.invariant in
    let u = c.in-Some.unplaced in
    let later = c.next.new.self.rest.items in
    let servers = dests_of c.args.loads.items in
    let within = server_within (length g.N.Naming.wires) servers way.given u.dest (dests_of later) way.all c.requires.within in
    let here = standing c.loop-unplaced.ends c.place.result u.dest c.index-ends-place.result c.place.ensures.place (omega (arith, within, way.sent.count)) in
    credit_next g.N.Naming.wires (load_of c.args.offered.now) servers c.args.journal.now.entries u later c.loop-unplaced.journal c.loop-unplaced.ends (get_or c.loop-unplaced.ends c.place.result c.index-ends-place.result) way here

pub loop-unplaced-preserved : goal.loop-unplaced-preserved
loop-unplaced-preserved g c =
    let W = λ (left : List Unplaced). IsUnderWay g.N.Naming.wires (load_of c.args.offered.now) (dests_of c.args.loads.items) c.args.journal.now.entries left c.loop-unplaced.journal c.loop-unplaced.ends in
    let way = subst W c.in-Some.ensures.steps.0 c.loop-unplaced.invariant in
    let u = c.in-Some.unplaced in
    let later = c.next.new.self.rest.items in
    let servers = dests_of c.args.loads.items in
    let load = load_of c.args.offered.now in
    let within = server_within (length g.N.Naming.wires) servers way.given u.dest (dests_of later) way.all c.requires.within in
    let here = standing c.loop-unplaced.ends c.place.result u.dest c.index-ends-place.result c.place.ensures.place (omega (arith, within, way.sent.count)) in
    subst (λ p. IsUnderWay g.N.Naming.wires load servers c.args.journal.now.entries later c.pass_on.new.journal (set c.loop-unplaced.ends p c.pass_on.new.end))
    (sym c.place.ensures.place)
    (goes_on g.N.Naming.wires load servers c.args.journal.now.entries u later c.requires.rising c.loop-unplaced.journal c.pass_on.new.journal c.loop-unplaced.ends
    (get_or c.loop-unplaced.ends c.place.result c.index-ends-place.result) c.pass_on.new.end way here c.pass_on.ensures)

pub returns : goal.returns
returns g c =
    subst (λ (left : List Unplaced). IsUnderWay g.N.Naming.wires (load_of c.args.offered.now) (dests_of c.args.loads.items) c.args.journal.now.entries left c.loop-unplaced.journal c.loop-unplaced.ends)
    (none_left c.loop-unplaced.unplaced-iterator.rest.items (omega (arith, c.in-None.ensures.steps.0, c.loop-unplaced.unplaced-iterator.rest.ok.0)))
    c.loop-unplaced.invariant
