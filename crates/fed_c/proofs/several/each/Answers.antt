use Rattle.fed_c.specs.Several.{cut}
use Rattle.fed_c.specs.SeveralParts.{maker_of}
use Rattle.fed_c.proofs.OneAfterAnother.{all_at_once}
use Rattle.fed_c.proofs.several.each.Goals as goal

pub loop-len-init : goal.loop-len-init
loop-len-init c = let whole = all_at_once (maker_of c.args.made) (cut c.args.texts.now c.args.lens.now) in cc
