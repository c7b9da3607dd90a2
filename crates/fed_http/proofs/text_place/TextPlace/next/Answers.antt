use Rattle.std.proofs.Common.{◌∷◌, sym, subst, ◌∙◌}
use Rattle.fed_http.specs.TextPlaces.{Follows}
use Rattle.fed_http.proofs.PlaceSteps.{line_name}
use Rattle.fed_http.proofs.text_place.TextPlace.next.Goals as goal

pub returns-in-LineStart-clause-follows : goal.returns-in-LineStart-clause-follows
returns-in-LineStart-clause-follows c more n f =
    subst (λ p. Follows c.args.kind p (c.args.byte ∷ more) n) (sym c.in-LineStart.is) (line_name c.in-LineStart.fields c.args.byte more n (sym c.is_token_byte.ensures ∙ c.if-is_token_byte.true) f)
