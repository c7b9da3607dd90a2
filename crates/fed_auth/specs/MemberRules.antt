-- Rule 4 of the authorization rules (Matrix, room version 10, "Authorization rules"), by the membership that an m.room.member event
-- gives its target: conditions over what the state says of its users.
use Rattle.std.specs.Prelude.{int_lt, int_le, List, [], ◌∷◌, true, not, ◌&&◌, ◌||◌}
use Rattle.fed_auth.specs.declared.membership.Membership.{Membership}
use Rattle.fed_auth.specs.declared.membership.Membership.TheVariants.{Join, Invite, Leave, Ban, Knock, Other}
use Rattle.fed_auth.specs.declared.member_rules.MemberFacts.{MemberFacts}
use Rattle.fed_auth.specs.Membership.{is_joined, is_banned, is_invited_or_joined, is_knocking}
use Rattle.fed_auth.specs.JoinRule.{is_public, is_invite_or_knock, is_restricted, may_knock}
use Rattle.fed_auth.specs.Table.{Row, rule, allow, reject, exactly}

-- the sender has the level to invite, to kick or to ban; the target's level is below the sender's
unfoldable pub join_table : MemberFacts → List Row
join_table f =
    allow (rule 4 3 1) f.is_first
    ∷ reject (rule 4 3 2) (not f.is_own)
    ∷ reject (rule 4 3 3) (is_banned f.sender.membership)
    ∷ allow (rule 4 3 4) (is_invite_or_knock f.join_rule && is_invited_or_joined f.sender.membership)
    ∷ exactly (rule 4 3 5) (is_restricted f.join_rule) (is_invited_or_joined f.sender.membership || f.is_authorised)
    ∷ allow (rule 4 3 6) (is_public f.join_rule)
    ∷ reject (rule 4 3 7) true
    ∷ []

unfoldable pub invite_table : MemberFacts → List Row
invite_table f =
    reject (rule 4 4 1) f.is_third_party
    ∷ reject (rule 4 4 2) (not (is_joined f.sender.membership))
    ∷ reject (rule 4 4 3) (is_joined f.target.membership || is_banned f.target.membership)
    ∷ allow (rule 4 4 4) (int_le f.needed.invite f.sender.level)
    ∷ reject (rule 4 4 5) true
    ∷ []

unfoldable pub leave_table : MemberFacts → List Row
leave_table f =
    exactly (rule 4 5 1) f.is_own (is_invited_or_joined f.sender.membership || is_knocking f.sender.membership)
    ∷ reject (rule 4 5 2) (not (is_joined f.sender.membership))
    ∷ reject (rule 4 5 3) (is_banned f.target.membership && int_lt f.sender.level f.needed.ban)
    ∷ allow (rule 4 5 4) (int_le f.needed.kick f.sender.level && int_lt f.target.level f.sender.level)
    ∷ reject (rule 4 5 5) true
    ∷ []

unfoldable pub ban_table : MemberFacts → List Row
ban_table f =
    reject (rule 4 6 1) (not (is_joined f.sender.membership))
    ∷ allow (rule 4 6 2) (int_le f.needed.ban f.sender.level && int_lt f.target.level f.sender.level)
    ∷ reject (rule 4 6 3) true
    ∷ []

unfoldable pub knock_table : MemberFacts → List Row
knock_table f =
    reject (rule 4 7 1) (not (may_knock f.join_rule))
    ∷ reject (rule 4 7 2) (not f.is_own)
    ∷ allow (rule 4 7 3) (not (is_banned f.sender.membership) && not (is_invited_or_joined f.sender.membership))
    ∷ reject (rule 4 7 4) true
    ∷ []

-- the table of a membership
abbrev pub table_of : Membership → MemberFacts → List Row
table_of Join f = join_table f
table_of Invite f = invite_table f
table_of Leave f = leave_table f
table_of Ban f = ban_table f
table_of Knock f = knock_table f
table_of Other f = reject (rule 4 8 0) true ∷ []
