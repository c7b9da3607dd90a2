use Rattle.std.proofs.Common.{arith, refl}
use Rattle.std.proofs.lemmas.Bool.Decides.{nat_tests}
use Rattle.fed_http.proofs.Steps.{still_behind_data, returned, not_returned}
use Rattle.fed_http.proofs.state.State.take_return.Goals as goal

pub returns-then-is_empty-clause-stepped : goal.returns-then-is_empty-clause-stepped
returns-then-is_empty-clause-stepped c = still_behind_data c.args.self.now c.args.rest.now c.requires.at (grind (arith, nat_tests)) c.requires.room

pub returns-then-rest-ne13-clause-fails : goal.returns-then-rest-ne13-clause-fails
returns-then-rest-ne13-clause-fails c = not_returned c.args.self.now c.args.rest.now c.requires.at (grind (arith, nat_tests)) c.if-rest-ne13.true

pub returns-clause-stepped : goal.returns-clause-stepped
returns-clause-stepped c =
    returned c.args.self.now _ c.args.rest.now c.requires.at refl (record { head = refl; start = refl }) (record { items = refl; len = refl; cap = refl }) (record { items = refl; len = refl; cap = refl }) (grind (arith, nat_tests)) c.if-rest-ne13.false
    c.requires.room
