use Rattle.std.proofs.Common.{◌≡◌, ◌-◌, ◌++◌, [], length}
use Rattle.fed_resolve.specs.Marks.{AreMarks}
use Rattle.fed_resolve.specs.Order.{is_among}
use Rattle.fed_resolve.specs.OrderParts.{candidates_from}
use Rattle.fed_resolve.specs.ReadyParts.{IsReadySet, none_left}
use Rattle.fed_resolve.proofs.ready.in_ready_order.Given as goal

-- what is listed and what is left are listed as the whole is
abbrev pub invariant-loop : goal.invariant-loop
invariant-loop g l = record {
  rest : l.listed.items ++ candidates_from g.R.Ord.cmp l.candidates (length l.candidates - l.counter) l.listed.items ≡ candidates_from g.R.Ord.cmp l.candidates (length l.candidates) [];
  marks : AreMarks l.count (is_among l.listed.items) l.is_listed.items;
  ready : IsReadySet none_left l.is_listed.items l.candidates l.ready;
}
