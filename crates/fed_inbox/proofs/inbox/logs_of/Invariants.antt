use Rattle.std.proofs.Common.{◌≡◌, ◌++◌}
use Rattle.fed_inbox.specs.InboxParts.{nothing_from_all}
use Rattle.fed_inbox.proofs.inbox.logs_of.Given as goal

-- the servers that are left make the rest of the logs
abbrev pub invariant-loop-server : goal.invariant-loop-server
invariant-loop-server l = l.logs.items ++ nothing_from_all l.own l.server-iterator.rest.items ≡ nothing_from_all l.own l.fn.servers
