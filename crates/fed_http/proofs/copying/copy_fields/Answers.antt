use Rattle.std.proofs.Common.{IsUtf8, subst, sym}
use Rattle.fed_http.proofs.Values.{nowhere}
use Rattle.fed_http.proofs.copying.copy_fields.Goals as goal

pub copy_field-requires : goal.copy_field-requires
copy_field-requires c = record { name = subst IsUtf8 (sym c.of.ensures) (c.requires.names c.loop-field.field-index nowhere c.loop-field-test.true) }
