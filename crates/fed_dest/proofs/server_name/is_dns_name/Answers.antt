use Rattle.std.proofs.Common.{rules}
use Rattle.fed_dest.specs.ServerName.{is_dns_char}
use Rattle.fed_dest.proofs.Names.{of_length}
use Rattle.fed_dest.proofs.server_name.is_dns_name.Goals as goal

pub returns-then-text-le-MAX_HOST : goal.returns-then-text-le-MAX_HOST
returns-then-text-le-MAX_HOST c = of_length is_dns_char 1 255 c.args.text.now c.are_dns_chars.result (search rules) (search rules) c.are_dns_chars.ensures
