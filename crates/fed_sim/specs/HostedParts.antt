-- What a `Hosted` stands for.
use Rattle.std.specs.Prelude.{◌-◌}
use Rattle.std.specs.VecDeque.{deque_len, deque_capacity}
use Rattle.fed_sim.specs.declared.hosted.Hosted.TheInside.{Inside}
use Rattle.fed_sim.specs.Hosted.{HostedState}

abbrev pub hosted_of : Inside → HostedState
hosted_of h = record { room = h.room; queue = h.queue.items; free = deque_capacity h.queue - deque_len h.queue }
