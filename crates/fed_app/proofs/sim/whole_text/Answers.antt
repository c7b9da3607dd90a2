use Rattle.std.proofs.Common.{◌≡◌, IfSome, ◌++◌, subst}
use Rattle.fed_app.specs.Input.{left_of}
use Rattle.fed_app.proofs.sim.whole_text.Goals as goal

pub returns-clause-text : goal.returns-clause-text
returns-clause-text g c =
    subst (λ known. IfSome known (λ bytes. c.read_rest.new.text.items ≡ bytes)) c.in_ok-input.ensures.left
    (subst (λ old. IfSome (left_of g.R.Read.remaining c.in_ok-input.input) (λ bytes. c.read_rest.new.text.items ≡ old ++ bytes)) c.new-text.ensures.items c.in_ok-read_rest.ensures.text)
