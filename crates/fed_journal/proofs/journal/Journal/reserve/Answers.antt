use Rattle.std.proofs.Common.{◌≡◌, List, length, true, sym, ap, ◌∙◌, subst, arith, refl}
use Rattle.std.proofs.lemmas.List.{with_items_is}
use Rattle.fed_journal.specs.Lane.{LaneState, AreChanged, ArePartlyChanged, with_room}
use Rattle.fed_journal.specs.JournalParts.{AreLanes}
use Rattle.fed_journal.proofs.Journals.{lanes_partly_grown, lanes_grown, same_entries}
use Rattle.fed_journal.proofs.journal.Journal.reserve.Goals as goal

pub invariant_of-self-in_err-reserve_lanes : goal.invariant_of-self-in_err-reserve_lanes
invariant_of-self-in_err-reserve_lanes c =
    let j = c.self.inside in
    let size = j.lanes.ok.0 in
    let held = ap length c.deref_mut.ensures.value in
    let kept = c.reserve_lanes.ensures.count in
    let count = c.self.invariant.count in
    let lanes = with_items_is j.lanes c.reserve_lanes.new.lanes (omega arith) in
    let had = c.self.invariant.room in
    let len = c.reserve.ensures.len in
    let more = c.reserve.ensures.capacity in
    same_entries j _ c.self.invariant c.reserve.ensures.items
    (ap length lanes ∙ (let same : length c.reserve_lanes.new.lanes ≡ 64 = omega arith in same))
    (subst (AreLanes j.entries.items j.reserved) (sym lanes)
    (lanes_partly_grown j.entries.items j.reserved c.args.entries j.lanes.items c.reserve_lanes.new.lanes c.self.invariant.lanes
    (subst (λ (ls : List LaneState). ArePartlyChanged (with_room c.args.entries) ls c.reserve_lanes.new.lanes) c.deref_mut.ensures.value c.reserve_lanes.ensures.kept)))
    refl refl c.self.invariant.within (omega arith)

pub invariant_of-self-2 : goal.invariant_of-self-2
invariant_of-self-2 c =
    let j = c.self.inside in
    let size = j.lanes.ok.0 in
    let held = ap length c.deref_mut.ensures.value in
    let kept = c.reserve_lanes.ensures.count in
    let count = c.self.invariant.count in
    let lanes = with_items_is j.lanes c.reserve_lanes.new.lanes (omega arith) in
    let told = c.len.ensures in
    let fact = j.entries.ok.0 in
    let was = c.self.invariant.within in
    let most = c.if-len-entries.false in
    let room = c.in_ok-reserve.ensures.ok in
    same_entries j _ c.self.invariant c.reserve.ensures.items
    (ap length lanes ∙ (let same : length c.reserve_lanes.new.lanes ≡ 64 = omega arith in same))
    (subst (AreLanes j.entries.items c.args.entries) (sym lanes)
    (lanes_grown j.entries.items j.reserved c.args.entries j.lanes.items c.reserve_lanes.new.lanes c.self.invariant.lanes
    (subst (λ (ls : List LaneState). AreChanged (λ _. true) (with_room c.args.entries) ls c.reserve_lanes.new.lanes) c.deref_mut.ensures.value c.in_ok-reserve_lanes.ensures.ok)))
    refl refl (omega arith) (omega arith)
