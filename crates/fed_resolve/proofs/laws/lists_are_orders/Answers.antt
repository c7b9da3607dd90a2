use Rattle.fed_resolve.proofs.BothOrders.{power-is_order, mainline-is_order}
use Rattle.fed_resolve.proofs.laws.lists_are_orders.Goals as goal

pub returns : goal.returns
returns c = record { power = λ events places graph all. power-is_order events graph places all; mainline = mainline-is_order }
