use Rattle.std.proofs.Common.{◌≡◌, drop}
use Rattle.fed_room_contract.specs.Steps.{state_at}
use Rattle.fed_resolve.specs.KeptParts.{agree_at}
use Rattle.fed_resolve.proofs.kept.all_agree.Given as goal

-- those so far have the same
abbrev pub invariant-loop-place : goal.invariant-loop-place
invariant-loop-place l =
    agree_at l.steps.after (state_at l.steps.after l.first) (drop l.place-index l.others) (l.kind, l.state_key)
    ≡ agree_at l.steps.after (state_at l.steps.after l.first) l.others (l.kind, l.state_key)
