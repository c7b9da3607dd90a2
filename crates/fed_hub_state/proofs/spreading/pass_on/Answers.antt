use Rattle.std.proofs.Common.{◌≡◌, Bool, if◌then◌else◌, sym, ap, ◌∙◌, subst}
use Rattle.std.specs.Prelude.{MatchBool}
use Rattle.fed_journal.specs.declared.entry.Cause.TheVariants.{Lost}
use Rattle.fed_journal.specs.declared.entry.Entry.TheVariants.{Close}
use Rattle.fed_journal.specs.declared.parcel.Parcel.{Parcel}
use Rattle.fed_journal.specs.Journal.{JournalState, with_entry}
use Rattle.fed_wires.specs.SendEnd.{Sender, with_sent, with_returned}
use Rattle.fed_hub_state.specs.Spreading.{PassesOn, shut, sent, back}
use Rattle.fed_hub_state.proofs.Spreads.{open_closes, none_placed}
use Rattle.fed_hub_state.proofs.spreading.pass_on.Goals as goal

pub returns-then-not-goes : goal.returns-then-not-goes
returns-then-not-goes g c =
    let d = c.args.unplaced.dest in
    let journal = c.args.journal.now in
    let next = sym c.place.ensures ∙ c.in-Some.is in
    let parcel : Parcel = record { place = c.in-Some.place; load = c.args.unplaced.load } in
    let returned : c.goes.new.end ≡ with_returned c.args.end.now = subst (λ (b : Bool). MatchBool b (c.goes.new.end ≡ with_sent c.args.end.now parcel) (c.goes.new.end ≡ with_returned c.args.end.now)) c.if-not-goes.true c.goes.ensures in
    let entered : c.close.new.self ≡ with_entry journal (Close d Lost) = c.close.ensures.entry ∙ ap (λ (b : Bool). if b then journal else with_entry journal (Close d Lost)) (open_closes journal.entries d c.in-Some.place next) in
    subst (λ (y : JournalState × Sender Parcel). PassesOn d c.args.unplaced.load journal c.args.end.now y.0 y.1) (λ i. (sym entered i, sym returned i)) (back c.in-Some.place next)

pub returns-else-not-goes : goal.returns-else-not-goes
returns-else-not-goes g c =
    let d = c.args.unplaced.dest in
    let next = sym c.place.ensures ∙ c.in-Some.is in
    let parcel : Parcel = record { place = c.in-Some.place; load = c.args.unplaced.load } in
    let went : c.goes.new.end ≡ with_sent c.args.end.now parcel = subst (λ (b : Bool). MatchBool b (c.goes.new.end ≡ with_sent c.args.end.now parcel) (c.goes.new.end ≡ with_returned c.args.end.now)) c.if-not-goes.false c.goes.ensures in
    subst (λ (y : Sender Parcel). PassesOn d c.args.unplaced.load c.args.journal.now c.args.end.now c.args.journal.now y) (sym went) (sent c.in-Some.place next)

pub returns-in_default : goal.returns-in_default
returns-in_default g c = shut (none_placed c.args.journal.now.entries c.args.unplaced.dest (sym c.place.ensures ∙ c.in_default.is))
