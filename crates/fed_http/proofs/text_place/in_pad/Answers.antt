use Rattle.std.proofs.Common.{◌∷◌, refl, sym, subst}
use Rattle.fed_http.specs.TextPlaces.{FollowsPad}
use Rattle.fed_http.proofs.PlaceSteps.{pad_byte, pad_extension, pad_return}
use Rattle.fed_http.proofs.text_place.in_pad.Goals as goal

pub returns-in-32-clause-follows : goal.returns-in-32-clause-follows
returns-in-32-clause-follows c kind more n f = subst (λ b. FollowsPad (b ∷ more)) (sym c.in-32.is) (pad_byte 32 more refl f)

pub returns-in-9-clause-follows : goal.returns-in-9-clause-follows
returns-in-9-clause-follows c kind more n f = subst (λ b. FollowsPad (b ∷ more)) (sym c.in-9.is) (pad_byte 9 more refl f)

pub returns-in-59-clause-follows : goal.returns-in-59-clause-follows
returns-in-59-clause-follows c kind more n f = subst (λ b. FollowsPad (b ∷ more)) (sym c.in-59.is) (pad_extension more f)

pub returns-in-13-clause-follows : goal.returns-in-13-clause-follows
returns-in-13-clause-follows c kind more n f = subst (λ b. FollowsPad (b ∷ more)) (sym c.in-13.is) (pad_return more f)
