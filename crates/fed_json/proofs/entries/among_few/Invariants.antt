use Rattle.std.proofs.Common.{◌≡◌, drop}
use Rattle.serde_json.specs.Find.{get_member}
use Rattle.fed_json.specs.Tree.{members_view}
use Rattle.fed_json.proofs.entries.among_few.Given as goal

-- what is left decides
abbrev pub invariant-loop-other : goal.invariant-loop-other
invariant-loop-other l = get_member l.name (members_view l.members) ≡ get_member l.name (members_view (drop l.other-index l.members))
