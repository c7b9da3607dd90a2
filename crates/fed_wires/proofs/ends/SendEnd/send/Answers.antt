use Rattle.std.proofs.Common.{◌+◌, length, sym, subst, arith}
use Rattle.fed_wires.specs.SendEnd.{Sender}
use Rattle.fed_wires.proofs.Relaying.{sends, returns}
use Rattle.fed_wires.proofs.ends.SendEnd.send.Goals as goal

pub send_as-requires-clause-rule : goal.send_as-requires-clause-rule
send_as-requires-clause-rule g c =
    let fit = subst (λ (x : Sender g.row.T.Denot). g.N.Numbering.fits (length x.sent + 1) c.args.message) (sym c.self.view_is) c.requires.fits in
    (sends g.N.Numbering.fits _ _ _ _ _ (omega (arith, c.self.invariant.2)) c.self.invariant.1 fit, λ queue views h at. tt)

pub another-idle-requires-clause-rule : goal.another-idle-requires-clause-rule
another-idle-requires-clause-rule g c = returns g.N.Numbering.fits _ _ _
