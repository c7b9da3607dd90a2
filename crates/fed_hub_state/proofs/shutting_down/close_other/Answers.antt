use Rattle.std.proofs.Common.{◌≡◌, ◌==◌, ◌&&◌, ◌∙◌, Bool, true, false, not, refl, sym, ap}
use Rattle.fed_journal.specs.Journal.{is_closed}
use Rattle.fed_hub_state.specs.ShuttingDownParts.{left, closed}
use Rattle.fed_hub_state.proofs.Spreads.{none_placed, open_closes}
use Rattle.fed_hub_state.proofs.shutting_down.close_other.Goals as goal

pub returns-then-eq : goal.returns-then-eq
returns-then-eq g c = left (ap (λ (b : Bool). not b && not (is_closed c.args.journal.now.entries c.args.dest)) (sym c.if-eq.ensures))

pub returns-in-Some : goal.returns-in-Some
returns-in-Some g c =
    let next = sym c.place.ensures ∙ c.in-Some.is in
    closed c.in-Some.place c.close_open.new.journal c.close_open.new.end
    ((λ i. not (sym c.if-eq.ensures i) && not (open_closes c.args.journal.now.entries c.args.dest c.in-Some.place next i))) next c.close_open.ensures

pub returns-in_default : goal.returns-in_default
returns-in_default g c = left (ap (λ (b : Bool). not (c.args.dest == c.args.own) && not b) (none_placed c.args.journal.now.entries c.args.dest (sym c.place.ensures ∙ c.in_default.is)) ∙ and_false (not (c.args.dest == c.args.own)))
  where
    and_false : (b : Bool) → (b && false) ≡ false
    and_false true = refl
    and_false false = refl
