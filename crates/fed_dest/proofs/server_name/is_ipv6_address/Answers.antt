use Rattle.std.proofs.Common.{rules}
use Rattle.fed_dest.specs.ServerName.{is_ipv6_char}
use Rattle.fed_dest.proofs.Names.{of_length}
use Rattle.fed_dest.proofs.server_name.is_ipv6_address.Goals as goal

pub returns-then-text-le-MAX_IPV6 : goal.returns-then-text-le-MAX_IPV6
returns-then-text-le-MAX_IPV6 c = of_length is_ipv6_char 2 45 c.args.text.now c.are_ipv6_chars.result (search rules) (search rules) c.are_ipv6_chars.ensures
