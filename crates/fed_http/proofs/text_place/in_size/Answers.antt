use Rattle.std.proofs.Common.{sym, ◌∙◌}
use Rattle.fed_http.proofs.PlaceSteps.{size_digit}
use Rattle.fed_http.proofs.text_place.in_size.Goals as goal

pub returns-then-is_ascii_hexdigit-clause-follows : goal.returns-then-is_ascii_hexdigit-clause-follows
returns-then-is_ascii_hexdigit-clause-follows c kind more n f = size_digit c.args.digits c.args.byte more (sym c.is_ascii_hexdigit.ensures.value ∙ c.if-is_ascii_hexdigit.true) f
