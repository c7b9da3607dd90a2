use Rattle.std.proofs.Common.{◌++◌, ◌∷◌, [], Option, IfNone, sym, subst}
use Rattle.fed_http.specs.declared.x_matrix.named_values.NamedValues.{NamedValues}
use Rattle.fed_http.specs.XMatrixParts.{pair_of, DoesNotSay}
use Rattle.fed_http.proofs.NamedValues.{twice_origin, twice_destination, twice_key, twice_signature}
use Rattle.fed_http.proofs.x_matrix.named_values.NamedValues.with.Goals as goal

pub returns-in_err-joined-clause-none : goal.returns-in_err-joined-clause-none
returns-in_err-joined-clause-none c = λ ps holds.
    let P : Option NamedValues → Type 0 = λ r. IfNone r (DoesNotSay (ps ++ pair_of c.args.parameter ∷ [])) in
    subst P (sym c.from_residual.ensures) (twice_origin (ps ++ pair_of c.args.parameter ∷ []) (c.in_err-joined.ensures.none ps holds.origin))

pub returns-in_err-joined-2-clause-none : goal.returns-in_err-joined-2-clause-none
returns-in_err-joined-2-clause-none c = λ ps holds.
    let P : Option NamedValues → Type 0 = λ r. IfNone r (DoesNotSay (ps ++ pair_of c.args.parameter ∷ [])) in
    subst P (sym c.from_residual-in_err-joined-2.ensures) (twice_destination (ps ++ pair_of c.args.parameter ∷ []) (c.in_err-joined-2.ensures.none ps holds.destination))

pub returns-in_err-joined-3-clause-none : goal.returns-in_err-joined-3-clause-none
returns-in_err-joined-3-clause-none c = λ ps holds.
    let P : Option NamedValues → Type 0 = λ r. IfNone r (DoesNotSay (ps ++ pair_of c.args.parameter ∷ [])) in
    subst P (sym c.from_residual-in_err-joined-3.ensures) (twice_key (ps ++ pair_of c.args.parameter ∷ []) (c.in_err-joined-3.ensures.none ps holds.key))

pub returns-in_err-joined-4-clause-none : goal.returns-in_err-joined-4-clause-none
returns-in_err-joined-4-clause-none c = λ ps holds.
    let P : Option NamedValues → Type 0 = λ r. IfNone r (DoesNotSay (ps ++ pair_of c.args.parameter ∷ [])) in
    subst P (sym c.from_residual-in_err-joined-4.ensures) (twice_signature (ps ++ pair_of c.args.parameter ∷ []) (c.in_err-joined-4.ensures.none ps holds.signature))
