use Rattle.fed_http.proofs.PlaceSteps.{version_byte}
use Rattle.fed_http.proofs.text_place.in_version.Goals as goal

pub returns-then-byte-name-clause-follows : goal.returns-then-byte-name-clause-follows
returns-then-byte-name-clause-follows c kind more n f = version_byte kind c.args.read c.args.byte more n c.if-read-lt7.true c.if-byte-name.true f
