use Rattle.std.proofs.Common.{◌≡◌, Bool, if◌then◌else◌, sym, ap, ◌∙◌, subst}
use Rattle.std.specs.Prelude.{MatchBool}
use Rattle.fed_journal.specs.declared.entry.Cause.TheVariants.{Asked, Lost}
use Rattle.fed_journal.specs.declared.entry.Entry.TheVariants.{Close}
use Rattle.fed_journal.specs.declared.parcel.Load.TheVariants.{End}
use Rattle.fed_journal.specs.declared.parcel.Parcel.{Parcel}
use Rattle.fed_journal.specs.Journal.{JournalState, is_closed, with_entry}
use Rattle.fed_wires.specs.SendEnd.{Sender, with_sent, with_returned}
use Rattle.fed_hub_state.specs.Closing.{ClosesOpen, asked, lost}
use Rattle.fed_hub_state.proofs.Spreads.{open_closes}
use Rattle.fed_hub_state.proofs.sending_journal.close_open.Goals as goal

pub returns-then-goes : goal.returns-then-goes
returns-then-goes g c =
    let journal = c.args.journal.now in
    let parcel : Parcel = record { place = c.args.place; load = End } in
    let went : c.goes.new.end ≡ with_sent c.args.end.now parcel = subst (λ (b : Bool). MatchBool b (c.goes.new.end ≡ with_sent c.args.end.now parcel) (c.goes.new.end ≡ with_returned c.args.end.now)) c.if-goes.true c.goes.ensures in
    let entered : c.close.new.self ≡ with_entry journal (Close c.args.place.dest Asked) =
    c.close.ensures.entry ∙ ap (λ d. if is_closed journal.entries d then journal else with_entry journal (Close d Asked)) c.dest-dest.ensures
    ∙ ap (λ (b : Bool). if b then journal else with_entry journal (Close c.args.place.dest Asked)) (open_closes journal.entries c.args.place.dest c.args.place c.requires.place) in
    subst (λ (y : JournalState × Sender Parcel). ClosesOpen c.args.place journal c.args.end.now y.0 y.1) (λ i. (sym entered i, sym went i)) asked

pub returns-else-goes : goal.returns-else-goes
returns-else-goes g c =
    let journal = c.args.journal.now in
    let parcel : Parcel = record { place = c.args.place; load = End } in
    let went : c.goes.new.end ≡ with_returned c.args.end.now = subst (λ (b : Bool). MatchBool b (c.goes.new.end ≡ with_sent c.args.end.now parcel) (c.goes.new.end ≡ with_returned c.args.end.now)) c.if-goes.false c.goes.ensures in
    let entered : c.close-else-goes.new.self ≡ with_entry journal (Close c.args.place.dest Lost) =
    c.close-else-goes.ensures.entry ∙ ap (λ d. if is_closed journal.entries d then journal else with_entry journal (Close d Lost)) c.dest-dest.ensures
    ∙ ap (λ (b : Bool). if b then journal else with_entry journal (Close c.args.place.dest Lost)) (open_closes journal.entries c.args.place.dest c.args.place c.requires.place) in
    subst (λ (y : JournalState × Sender Parcel). ClosesOpen c.args.place journal c.args.end.now y.0 y.1) (λ i. (sym entered i, sym went i)) lost
