use Rattle.std.proofs.Common.{◌≡◌, string_bytes, subst, sym, arith}
use Rattle.std.proofs.lemmas.Grind.{common_steps}
use Rattle.fed_redaction.specs.EventId.{id_of_signed, IsIdText}
use Rattle.fed_redaction.proofs.IdTexts.{id_text}
use Rattle.fed_redaction.proofs.id.event_id_of_signed.Goals as goal

pub invariant_of-result : goal.invariant_of-result
invariant_of-result c =
    let whole : string_bytes c.encode_string.new.output ≡ id_of_signed c.args.signed.now = grind (arith, common_steps) in
    subst IsIdText (sym whole) (id_text c.args.signed.now)
