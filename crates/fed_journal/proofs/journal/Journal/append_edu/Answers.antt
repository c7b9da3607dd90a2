use Rattle.std.proofs.Common.{◌≡◌, ◌<◌, ◌+◌, ◌-◌, ◌∷◌, ◌++◌, [], length, vec_len, is_ok, if◌then◌else◌, sym, ap, ◌∙◌, subst, arith, refl}
use Rattle.std.proofs.lemmas.List.{with_items_is}
use Rattle.fed_journal.specs.declared.entry.Entry.{Entry}
use Rattle.fed_journal.specs.declared.entry.Entry.TheVariants.{Edu}
use Rattle.fed_journal.specs.Journal.{JournalState}
use Rattle.fed_journal.specs.Lane.{HasRoom}
use Rattle.fed_journal.specs.JournalParts.{AreLanes}
use Rattle.fed_journal.proofs.Entries.{edus_within}
use Rattle.fed_journal.proofs.Journals.{lanes_have_room, lanes_follow_edu, one_entry_more}
use Rattle.fed_journal.proofs.journal.Journal.append_edu.Goals as goal

pub reach_lanes-requires-clause-room : goal.reach_lanes-requires-clause-room
reach_lanes-requires-clause-room c =
    let j = c.self.inside in
    let some = subst (λ (s : JournalState). 0 < s.reserved) (sym c.self.view_is) c.requires.reserved in
    subst HasRoom (sym c.deref_mut.ensures.value) (lanes_have_room j.entries.items j.reserved j.lanes.items some c.self.invariant.within c.self.invariant.lanes)

pub overflow_add-self : goal.overflow_add-self
overflow_add-self c =
    let is = c.self.invariant.edus in
    let most = edus_within c.self.inside.entries.items in
    let within = c.self.invariant.within in
    omega arith

pub invariant_of-self : goal.invariant_of-self
invariant_of-self c =
    let j = c.self.inside in
    let entry : Entry = Edu c.args.edu c.args.dests in
    let some = subst (λ (s : JournalState). 0 < s.reserved) (sym c.self.view_is) c.requires.reserved in
    let size = j.lanes.ok.0 in
    let held = ap length c.deref_mut.ensures.value in
    let kept = c.reach_lanes.ensures.count in
    let count = c.self.invariant.count in
    let lanes = with_items_is j.lanes c.reach_lanes.new.lanes (omega arith) in
    let place : c.len-place.result ≡ length j.entries.items = let fact = j.entries.ok.0 in let told = c.len-place.ensures in omega arith in
    one_entry_more j _ entry c.self.invariant some
    (c.push.ensures.items ∙ ap (λ r. if is_ok r then j.entries.items ++ entry ∷ [] else j.entries.items) c.unwrap.ensures)
    (c.push.ensures.len ∙ ap (λ r. if is_ok r then vec_len j.entries + 1 else vec_len j.entries) c.unwrap.ensures)
    c.push.ensures.capacity
    (ap length lanes ∙ (let same : length c.reach_lanes.new.lanes ≡ 64 = omega arith in same))
    (subst (AreLanes (j.entries.items ++ entry ∷ []) (j.reserved - 1)) (sym lanes)
    (lanes_follow_edu j.entries.items j.reserved c.args.edu c.args.dests c.as_slice.result.now c.len-place.result j.lanes.items c.deref_mut.result.now c.reach_lanes.new.lanes c.self.invariant.lanes c.as_slice.ensures.servers place c.deref_mut.ensures.value c.reach_lanes.ensures.changed))
    (omega arith) refl
    refl

pub returns-clause-number : goal.returns-clause-number
returns-clause-number c = (invariant_of-self c).edus
