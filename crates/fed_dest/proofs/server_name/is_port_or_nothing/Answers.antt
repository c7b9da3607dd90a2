use Rattle.std.proofs.Common.{arith, ◌≡◌, ◌∷◌, Bool, Some, None, Decides, sym, subst}
use Rattle.std.proofs.lemmas.Str.Pattern.{strip_prefix_char}
use Rattle.fed_dest.specs.ServerName.{IsPortOrNothing}
use Rattle.fed_dest.proofs.Names.{behind_colon, nothing_behind}
use Rattle.fed_dest.proofs.server_name.is_port_or_nothing.Goals as goal

pub returns-in-Some : goal.returns-in-Some
returns-in-Some c =
    let text = c.args.text.now in
    let starts : text ≡ 58 ∷ c.in-Some.port.now = strip_prefix_char 58 text (Some c.in-Some.port) c.in-Some.ensures.cases (omega arith) in
    let P : Bool → Type 0 = λ b. Decides b (IsPortOrNothing text) in
    subst P (sym c.is_port.ensures) (behind_colon text c.in-Some.port.now starts)

pub returns-in-None : goal.returns-in-None
returns-in-None c =
    let text = c.args.text.now in
    let bare = strip_prefix_char 58 text None c.in-None.ensures.cases (omega arith) in
    nothing_behind text c.is_empty.result c.is_empty.ensures bare
