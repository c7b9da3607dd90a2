-- Who may join a room (Matrix, Client-Server API, "m.room.join_rules").
use Rattle.std.specs.Prelude.{ℕ, List, Bool, true, false, codes, bytes_eq, if◌then◌else◌, option_map, option_and_then, unwrap_or}
use Rattle.serde_json.specs.Data.{Data}
use Rattle.serde_json.specs.Find.{as_str, get}
use Rattle.fed_auth.specs.declared.join_rule.JoinRule.{JoinRule}
use Rattle.fed_auth.specs.declared.join_rule.JoinRule.TheVariants.{Public, Invite, Knock, Restricted, KnockRestricted, Other}

abbrev pub join_rule_named : List ℕ → JoinRule
join_rule_named name =
    if bytes_eq name (codes "public") then Public else
    (if bytes_eq name (codes "invite") then Invite else
    (if bytes_eq name (codes "knock") then Knock else
    (if bytes_eq name (codes "restricted") then Restricted else
    (if bytes_eq name (codes "knock_restricted") then KnockRestricted else Other))))

-- the `join_rule` of a content; one that is missing or no text is `Other`
unfoldable pub join_rule_in : Data → JoinRule
join_rule_in content = unwrap_or (option_map join_rule_named (option_and_then as_str (get (codes "join_rule") content))) Other

abbrev pub is_public : JoinRule → Bool
is_public Public = true
is_public join_rule = false

abbrev pub is_invite_or_knock : JoinRule → Bool
is_invite_or_knock Invite = true
is_invite_or_knock Knock = true
is_invite_or_knock join_rule = false

abbrev pub is_restricted : JoinRule → Bool
is_restricted Restricted = true
is_restricted KnockRestricted = true
is_restricted join_rule = false

abbrev pub may_knock : JoinRule → Bool
may_knock Knock = true
may_knock KnockRestricted = true
may_knock join_rule = false
