use Rattle.std.proofs.Common.{◌≡◌, ◌<◌, ◌-◌, ◌++◌, All, length}
use Rattle.std.specs.Option.{IfSome}
use Rattle.fed_resolve.specs.Mainline.{mainline, mainline_from}
use Rattle.fed_resolve.proofs.mainline.mainline.Given as goal

-- the line so far and what follows are the whole line
abbrev pub invariant-loop : goal.invariant-loop
invariant-loop l = record {
  whole : l.line.items ++ mainline_from l.graph.stored (length l.graph.stored - l.counter) l.next ≡ mainline l.graph.stored l.fn.levels;
  within : All (λ place. place < length l.graph.stored) l.line.items;
  next : IfSome l.next (λ place. place < length l.graph.stored);
}
