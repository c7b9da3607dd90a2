use Rattle.std.proofs.Common.{arith, ◌∷◌, sym, subst, ◌∙◌}
use Rattle.fed_http.specs.TextPlaces.{FollowsCode}
use Rattle.fed_http.proofs.PlaceSteps.{code_digit, code_space, code_end, end_return, end_feed}
use Rattle.fed_http.proofs.text_place.in_code.Goals as goal

pub returns-then-is_ascii_digit-clause-follows : goal.returns-then-is_ascii_digit-clause-follows
returns-then-is_ascii_digit-clause-follows c kind more n f = code_digit c.args.left _ c.args.byte more n (omega (arith, c.if-left-gt0.true)) (sym c.is_ascii_digit.ensures.value ∙ c.if-is_ascii_digit.true) f

pub returns-in-32-clause-follows : goal.returns-in-32-clause-follows
returns-in-32-clause-follows c kind more n f = subst (λ b. FollowsCode c.args.left (b ∷ more) n) (sym c.in-32.is) (code_space c.args.left more n (omega (arith, c.if-left-gt0.false)) f)

pub returns-in-13-clause-follows : goal.returns-in-13-clause-follows
returns-in-13-clause-follows c kind more n f = subst (λ b. FollowsCode c.args.left (b ∷ more) n) (sym c.in-13.is) (code_end c.args.left (13 ∷ more) n (omega (arith, c.if-left-gt0.false)) (end_return 0 more n f))

pub returns-in-10-clause-follows : goal.returns-in-10-clause-follows
returns-in-10-clause-follows c kind more n f = subst (λ b. FollowsCode c.args.left (b ∷ more) n) (sym c.in-10.is) (code_end c.args.left (10 ∷ more) n (omega (arith, c.if-left-gt0.false)) (end_feed 0 more n f))
