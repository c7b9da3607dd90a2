use Rattle.std.proofs.Common.{rules}
use Rattle.std.specs.Char.{is_ascii_digit}
use Rattle.fed_dest.proofs.Names.{of_length}
use Rattle.fed_dest.proofs.server_name.is_port.Goals as goal

pub returns-then-text-le-MAX_PORT : goal.returns-then-text-le-MAX_PORT
returns-then-text-le-MAX_PORT c = of_length is_ascii_digit 1 5 c.args.text.now c.are_digits.result (search rules) (search rules) c.are_digits.ensures
