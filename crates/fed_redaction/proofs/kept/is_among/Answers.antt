use Rattle.std.proofs.Common.{◌∙◌}
use Rattle.fed_redaction.proofs.KeyAmong.{any-one_of}
use Rattle.fed_redaction.proofs.kept.is_among.Goals as goal

pub returns : goal.returns
returns c = c.contains.ensures.value ∙ any-one_of c.args.keys.now c.args.name.now
