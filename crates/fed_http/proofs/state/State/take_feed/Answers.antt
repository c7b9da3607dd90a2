use Rattle.std.proofs.Common.{arith, refl}
use Rattle.std.proofs.lemmas.Bool.Decides.{nat_tests}
use Rattle.fed_http.proofs.Steps.{still_behind_return, fed, not_fed}
use Rattle.fed_http.proofs.state.State.take_feed.Goals as goal

pub returns-then-is_empty-clause-stepped : goal.returns-then-is_empty-clause-stepped
returns-then-is_empty-clause-stepped c = still_behind_return c.args.self.now c.args.rest.now c.requires.at (grind (arith, nat_tests)) c.requires.room

pub returns-then-rest-ne10-clause-fails : goal.returns-then-rest-ne10-clause-fails
returns-then-rest-ne10-clause-fails c = not_fed c.args.self.now c.args.rest.now c.requires.at (grind (arith, nat_tests)) c.if-rest-ne10.true

pub returns-clause-stepped : goal.returns-clause-stepped
returns-clause-stepped c =
    fed c.args.self.now _ c.args.rest.now c.requires.at refl refl (record { head = refl; start = refl }) c.clear.ensures.items (omega (arith, c.clear.ensures.len)) c.clear.ensures.capacity (record { items = refl; len = refl; cap = refl })
    (grind (arith, nat_tests)) c.if-rest-ne10.false c.requires.room
