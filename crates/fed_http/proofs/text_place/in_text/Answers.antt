use Rattle.std.proofs.Common.{◌∷◌, sym, subst, ◌∙◌}
use Rattle.fed_http.specs.TextPlaces.{FollowsText}
use Rattle.fed_http.proofs.PlaceSteps.{text_byte, text_end, end_feed}
use Rattle.fed_http.proofs.text_place.in_text.Goals as goal

pub returns-in-10-clause-follows : goal.returns-in-10-clause-follows
returns-in-10-clause-follows c kind more n f = subst (λ b. FollowsText c.args.fields (b ∷ more) n) (sym c.in-10.is) (text_end c.args.fields (10 ∷ more) n (end_feed c.args.fields more n (c.line_start.ensures.follows kind more n f)))

pub returns-in_default-clause-follows : goal.returns-in_default-clause-follows
returns-in_default-clause-follows c kind more n f = text_byte c.args.fields c.args.byte more n (sym c.is_value_byte.ensures ∙ c.if-is_value_byte.true) f
