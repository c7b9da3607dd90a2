use Rattle.std.proofs.Common.{◌≢◌, ℕ, IsTrue, ne_eqb, refl}
use Rattle.httparse.specs.Grammar.{is_extension_byte}
use Rattle.fed_http.proofs.PlaceSteps.{extension_byte}
use Rattle.fed_http.proofs.text_place.in_extension.Goals as goal

passes : (b : ℕ) → b ≢ 13 → b ≢ 10 → IsTrue (is_extension_byte b)
passes b return feed = rw (ne_eqb b 13 return, ne_eqb b 10 feed) refl

pub returns-else-byte-eq10-clause-follows : goal.returns-else-byte-eq10-clause-follows
returns-else-byte-eq10-clause-follows c kind more n f = extension_byte c.args.byte more (passes c.args.byte c.if-byte-eq13.false c.if-byte-eq10.false) f
