use Rattle.std.proofs.Common.{◌≡◌, drop}
use Rattle.std.specs.List.{list_any}
use Rattle.fed_auth.specs.AuthState.{are_alike}
use Rattle.fed_c.proofs.rule_two.has_alike.Given as goal

-- what is left decides
abbrev pub invariant-loop-other : goal.invariant-loop-other
invariant-loop-other l = list_any (are_alike l.one) l.others ≡ list_any (are_alike l.one) (drop l.other-index l.others)
