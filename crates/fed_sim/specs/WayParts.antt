-- What a `Way` stands for.
use Rattle.std.specs.Prelude.{◌-◌}
use Rattle.std.specs.VecDeque.{deque_len, deque_capacity}
use Rattle.fed_sim.specs.declared.way.Way.TheInside.{Inside}
use Rattle.fed_sim.specs.Way.{WayState}

abbrev pub way_of : Inside → WayState
way_of l = record { way = record { queue = l.queue.items; outbox = l.outbox }; free = deque_capacity l.queue - deque_len l.queue }
