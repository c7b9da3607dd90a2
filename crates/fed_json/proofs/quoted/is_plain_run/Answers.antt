use Rattle.std.proofs.Common.{eqb, ltb, sym, ◌∙◌, arith, w8}
use Rattle.std.proofs.lemmas.Bool.{eqb-true}
use Rattle.std.proofs.lemmas.Simd.{bitmask_splat}
use Rattle.fed_json.proofs.quoted.is_plain_run.Goals as goal

pub returns : goal.returns
returns g c = λ none.
    let run = c.args.run in
    let long = c.fits-run.0 in (
      sym (bitmask_splat w8 eqb run _ 34 long (omega arith)) ∙ c.if-quotes-ne0.false,
      sym (bitmask_splat w8 eqb run _ 92 long (omega arith)) ∙ c.if-backslashes-ne0.false,
      sym (bitmask_splat w8 ltb run _ 32 long (omega arith)) ∙ eqb-true _ _ none,
    )
