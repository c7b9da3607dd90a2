use Rattle.std.proofs.Common.{rules, arith, ◌≡◌, ◌<◌, ℕ, List, All, None, length, sym, ap, ◌∙◌, subst}
use Rattle.std.proofs.lemmas.Grind.{common_steps}
use Rattle.serde_json.specs.Data.{Data}
use Rattle.fed_journal.specs.Edu.{edu_fault_of}
use Rattle.fed_hub.specs.ClientToken.{IsToldOfEdu}
use Rattle.fed_hub.proofs.Sendings.{told_of_edu}
use Rattle.fed_hub.proofs.hub.Hub.offer_edu.Goals as goal

pub offer_edu-offered-requires-clause-edu : goal.offer_edu-offered-requires-clause-edu
offer_edu-offered-requires-clause-edu g c =
    let none : edu_fault_of c.args.edu ≡ None = first_of (search rules, grind (arith, common_steps)) in
    ap edu_fault_of (c.in_ok-loads.ensures.other ∙ c.loop.invariant.edu) ∙ none

pub offer_edu-offered-requires-clause-within : goal.offer_edu-offered-requires-clause-within
offer_edu-offered-requires-clause-within g c = subst (λ (dests : List ℕ). All (λ d. d < length g.N.Naming.wires) dests) (sym (c.in_ok-loads.ensures.others ∙ c.loop.invariant.dests)) c.requires.within

pub returns-in-Ok : goal.returns-in-Ok
returns-in-Ok g c = (
  first_of (search rules, grind (arith, common_steps)),
  subst (λ (x : Data × List ℕ). IsToldOfEdu (record { edu = x.0; dests = x.1; number = c.in-Ok.number }) c.args.client.now c.note_edu.new.self) (λ i. (c.loop.invariant.edu i, c.loop.invariant.dests i))
      (told_of_edu (record { edu = c.loop.edu; dests = c.loop.dests; number = c.in-Ok.number }) c.args.client.now c.loop.client-inside.told c.note_edu.new.self c.loop.invariant.told c.note_edu.ensures),
)
