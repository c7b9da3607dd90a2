use Rattle.std.proofs.Common.{arith, ◌≡◌, ◌∷◌, ◌&&◌, Some, None, refl, Bool, false, true, sym, ap, ◌∙◌}
use Rattle.std.proofs.lemmas.Bool.{false≢true}
use Rattle.std.proofs.lemmas.Str.Pattern.{strip_prefix_char, split_parts}
use Rattle.fed_dest.specs.ServerName.{is_dns_name, is_ipv6_address, is_port}
use Rattle.fed_dest.proofs.Names.{brackets_hold, brackets_are, open_bracket, port_holds, port_is, dns_holds, dns_is}
use Rattle.fed_dest.proofs.server_name.is_server_name.Goals as goal

pub returns-then-is_ipv6_address : goal.returns-then-is_ipv6_address
returns-then-is_ipv6_address c =
    let text = c.args.text.now in
    let rest = c.in-Some.rest.now in
    let address = c.in-Some-split_once.address.now in
    let behind = c.in-Some-split_once.behind.now in
    let starts : text ≡ 91 ∷ rest = strip_prefix_char 91 text (Some c.in-Some.rest) c.in-Some.ensures.cases (omega arith) in
    let cut = split_parts 93 rest (Some (c.in-Some-split_once.address, c.in-Some-split_once.behind)) c.in-Some-split_once.ensures.cases (omega arith) in
    let is : is_ipv6_address address ≡ true = sym c.is_ipv6_address.ensures ∙ c.if-is_ipv6_address.true in (
      λ fits. brackets_are text rest address behind starts cut.0 is (c.is_port_or_nothing.ensures.0 fits),
      λ name. ap (λ v. v && c.is_port_or_nothing.result) (sym is) ∙ brackets_hold text rest address behind c.is_port_or_nothing.result starts cut.0 cut.1 c.is_port_or_nothing.ensures.1 name,
    )

pub returns-else-is_ipv6_address : goal.returns-else-is_ipv6_address
returns-else-is_ipv6_address c =
    let text = c.args.text.now in
    let rest = c.in-Some.rest.now in
    let address = c.in-Some-split_once.address.now in
    let behind = c.in-Some-split_once.behind.now in
    let starts : text ≡ 91 ∷ rest = strip_prefix_char 91 text (Some c.in-Some.rest) c.in-Some.ensures.cases (omega arith) in
    let cut = split_parts 93 rest (Some (c.in-Some-split_once.address, c.in-Some-split_once.behind)) c.in-Some-split_once.ensures.cases (omega arith) in (
      λ fits. absurd (false≢true (sym c.if-is_ipv6_address.false ∙ fits)),
      λ name. c.is_ipv6_address.ensures ∙ fits_of (is_ipv6_address address) (brackets_hold text rest address behind true starts cut.0 cut.1 (λ _. refl) name),
    )
  where
    fits_of : (b : Bool) → (b && true) ≡ true → b ≡ true
    fits_of true h = refl
    fits_of false h = h

pub returns-in-None-split_once : goal.returns-in-None-split_once
returns-in-None-split_once c =
    let text = c.args.text.now in
    let rest = c.in-Some.rest.now in
    let starts : text ≡ 91 ∷ rest = strip_prefix_char 91 text (Some c.in-Some.rest) c.in-Some.ensures.cases (omega arith) in
    let lacks = split_parts 93 rest None c.in-None-split_once.ensures.cases (omega arith) in
    (λ fits. absurd (false≢true fits), open_bracket text rest starts lacks)

pub returns-then-is_dns_name : goal.returns-then-is_dns_name
returns-then-is_dns_name c =
    let text = c.args.text.now in
    let host = c.in-Some-split_once-2.host.now in
    let port = c.in-Some-split_once-2.port.now in
    let bare = strip_prefix_char 91 text None c.in-None.ensures.cases (omega arith) in
    let cut = split_parts 58 text (Some (c.in-Some-split_once-2.host, c.in-Some-split_once-2.port)) c.in-Some-split_once-2.ensures.cases (omega arith) in
    let is : is_dns_name host ≡ true = sym c.is_dns_name.ensures ∙ c.if-is_dns_name.true in (
      λ fits. port_is text host port cut.0 is (sym c.is_port.ensures ∙ fits),
      λ name. c.is_port.ensures ∙ ap (λ v. v && is_port port) (sym is) ∙ port_holds text host port bare cut.0 cut.1 name,
    )

pub returns-else-is_dns_name : goal.returns-else-is_dns_name
returns-else-is_dns_name c =
    let text = c.args.text.now in
    let host = c.in-Some-split_once-2.host.now in
    let port = c.in-Some-split_once-2.port.now in
    let bare = strip_prefix_char 91 text None c.in-None.ensures.cases (omega arith) in
    let cut = split_parts 58 text (Some (c.in-Some-split_once-2.host, c.in-Some-split_once-2.port)) c.in-Some-split_once-2.ensures.cases (omega arith) in (
      λ fits. absurd (false≢true (sym c.if-is_dns_name.false ∙ fits)),
      λ name. c.is_dns_name.ensures ∙ first_of (is_dns_name host) (is_port port) (port_holds text host port bare cut.0 cut.1 name),
    )
  where
    first_of : (a b : Bool) → (a && b) ≡ true → a ≡ true
    first_of true b h = refl
    first_of false b h = h

pub returns-in-None-split_once-2 : goal.returns-in-None-split_once-2
returns-in-None-split_once-2 c =
    let text = c.args.text.now in
    let bare = strip_prefix_char 91 text None c.in-None.ensures.cases (omega arith) in
    let lacks = split_parts 58 text None c.in-None-split_once-2.ensures.cases (omega arith) in
    (λ fits. dns_is text (sym c.is_dns_name-in-None-split_once-2.ensures ∙ fits), λ name. c.is_dns_name-in-None-split_once-2.ensures ∙ dns_holds text bare lacks name)
