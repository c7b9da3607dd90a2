use Rattle.std.proofs.Common.{◌≡◌, ◌<◌, ◌+◌, ◌-◌, ◌∷◌, ◌++◌, [], List, false, not, vec_len, is_ok, if◌then◌else◌, sym, ap, ◌∙◌, subst, arith, refl}
use Rattle.std.proofs.lemmas.List.{length-set}
use Rattle.std.proofs.lemmas.Option.{slice_get_read}
use Rattle.fed_journal.specs.declared.entry.Entry.{Entry}
use Rattle.fed_journal.specs.declared.entry.Entry.TheVariants.{Close}
use Rattle.fed_journal.specs.Journal.{JournalState, is_closed, with_entry}
use Rattle.fed_journal.specs.Lane.{closed_by}
use Rattle.fed_journal.proofs.Lanes.{changed_at}
use Rattle.fed_journal.proofs.Journals.{lane_read, lanes_have_room, lanes_follow_close, one_entry_more}
use Rattle.fed_journal.proofs.journal.Journal.close.Goals as goal

pub close-requires : goal.close-requires
close-requires c =
    let j = c.self.inside in
    let some = subst (λ (s : JournalState). 0 < s.reserved) (sym c.self.view_is) c.requires.reserved in
    let here = slice_get_read j.lanes.items 64 c.place-place.result c.index_mut.result.now (sym c.self.invariant.count) c.place-place.ensures.within c.index_mut.ensures.value in
    record { placed = (lanes_have_room j.entries.items j.reserved j.lanes.items some c.self.invariant.within c.self.invariant.lanes c.place-place.result c.index_mut.result.now here).1 }

pub invariant_of-self : goal.invariant_of-self
invariant_of-self c =
    let j = c.self.inside in
    let entry : Entry = Close c.args.dest c.args.cause in
    let some = subst (λ (s : JournalState). 0 < s.reserved) (sym c.self.view_is) c.requires.reserved in
    let here = slice_get_read j.lanes.items 64 c.place-place.result c.index_mut.result.now (sym c.self.invariant.count) c.place-place.ensures.within c.index_mut.ensures.value in
    let lane = lane_read j.entries.items j.reserved j.lanes.items c.place-place.result c.args.dest c.index.result.now c.self.invariant.count c.self.invariant.lanes c.place-place.ensures.place c.place-place.ensures.within c.index.ensures in
    let not_shut = sym lane.closed ∙ sym c.is_closed.ensures ∙ c.if-is_closed.false in
    one_entry_more j _ entry c.self.invariant some
    (c.push.ensures.items ∙ ap (λ r. if is_ok r then j.entries.items ++ entry ∷ [] else j.entries.items) c.unwrap.ensures)
    (c.push.ensures.len ∙ ap (λ r. if is_ok r then vec_len j.entries + 1 else vec_len j.entries) c.unwrap.ensures)
    c.push.ensures.capacity
    (length-set j.lanes.items c.place-place.result c.close.new.self ∙ c.self.invariant.count)
    (lanes_follow_close j.entries.items j.reserved c.args.dest c.args.cause j.lanes.items _ not_shut c.self.invariant.lanes (changed_at (closed_by c.args.cause) j.lanes.items c.place-place.result c.args.dest c.index_mut.result.now c.close.new.self c.place-place.ensures.place here c.close.ensures))
    (omega arith) (omega arith) refl

shut_not : (c : goal.After-self-2-1) → is_closed c.args.self.now.entries c.args.dest ≡ false
shut_not c =
    let j = c.self.inside in
    let lane = lane_read j.entries.items j.reserved j.lanes.items c.place-place.result c.args.dest c.index.result.now c.self.invariant.count c.self.invariant.lanes c.place-place.ensures.place c.place-place.ensures.within c.index.ensures in
    ap (λ (s : JournalState). is_closed s.entries c.args.dest) (sym c.self.view_is) ∙ sym lane.closed ∙ sym c.is_closed.ensures ∙ c.if-is_closed.false

pub returns-clause-closed : goal.returns-clause-closed
returns-clause-closed c = ap not (sym (shut_not c))

pub returns-clause-entry : goal.returns-clause-entry
returns-clause-entry c =
    let j = c.self.inside in
    let entry : Entry = Close c.args.dest c.args.cause in
    let items : c.push.new.self.items ≡ j.entries.items ++ entry ∷ [] = c.push.ensures.items ∙ ap (λ r. if is_ok r then j.entries.items ++ entry ∷ [] else j.entries.items) c.unwrap.ensures in
    ap (λ (es : List Entry). record { entries = es; reserved = j.reserved - 1 }) items
    ∙ ap (λ (s : JournalState). with_entry s entry) c.self.view_is
    ∙ ap (λ b. if b then c.args.self.now else with_entry c.args.self.now entry) (sym (shut_not c))
