use Rattle.std.proofs.Common.{◌<◌, length, ap, ◌∙◌, arith}
use Rattle.fed_room_contract.proofs.LinkLists.{part}
use Rattle.fed_room_contract.proofs.links.Links.get.Goals as goal

pub returns : goal.returns
returns c = λ lists are.
    let below : c.args.index < length lists = let counted = c.len.ensures in let fact = c.args.self.now.starts.ok.0 in omega (arith, are.long) in
    ap (λ r. r.now) c.unwrap_or.ensures
    ∙ part lists c.deref.result.now (c.deref.ensures.value ∙ are.places) c.args.index c.start-start.result c.start-end.result below (c.start-start.ensures lists are) (c.start-end.ensures lists are) c.get.result _ c.get.ensures.lookup
