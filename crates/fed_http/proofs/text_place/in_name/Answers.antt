use Rattle.std.proofs.Common.{◌∷◌, sym, subst, ◌∙◌}
use Rattle.fed_http.specs.TextPlaces.{FollowsName}
use Rattle.fed_http.proofs.PlaceSteps.{name_byte, name_colon}
use Rattle.fed_http.proofs.text_place.in_name.Goals as goal

pub returns-then-byte-eq58-clause-follows : goal.returns-then-byte-eq58-clause-follows
returns-then-byte-eq58-clause-follows c kind more n f = subst (λ b. FollowsName c.args.fields (b ∷ more) n) (sym c.if-byte-eq58.true) (name_colon c.args.fields more n f)

pub returns-then-is_token_byte-clause-follows : goal.returns-then-is_token_byte-clause-follows
returns-then-is_token_byte-clause-follows c kind more n f = name_byte c.args.fields c.args.byte more n (sym c.is_token_byte.ensures ∙ c.if-is_token_byte.true) f
