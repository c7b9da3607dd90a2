-- What a member event makes of a user (Matrix, Client-Server API, "m.room.member").
use Rattle.std.specs.Prelude.{ℕ, List, Bool, true, false, codes, bytes_eq, if◌then◌else◌, option_map, option_and_then, unwrap_or}
use Rattle.serde_json.specs.Data.{Data}
use Rattle.serde_json.specs.Find.{as_str, get}
use Rattle.fed_auth.specs.declared.membership.Membership.{Membership}
use Rattle.fed_auth.specs.declared.membership.Membership.TheVariants.{Join, Invite, Leave, Ban, Knock, Other}

abbrev pub membership_named : List ℕ → Membership
membership_named name =
    if bytes_eq name (codes "join") then Join else
    (if bytes_eq name (codes "invite") then Invite else
    (if bytes_eq name (codes "leave") then Leave else
    (if bytes_eq name (codes "ban") then Ban else
    (if bytes_eq name (codes "knock") then Knock else Other))))

-- the `membership` of a content; one that is missing or no text is `Other`
unfoldable pub membership_in : Data → Membership
membership_in content = unwrap_or (option_map membership_named (option_and_then as_str (get (codes "membership") content))) Other

abbrev pub is_joined : Membership → Bool
is_joined Join = true
is_joined membership = false

abbrev pub is_banned : Membership → Bool
is_banned Ban = true
is_banned membership = false

abbrev pub is_invited_or_joined : Membership → Bool
is_invited_or_joined Join = true
is_invited_or_joined Invite = true
is_invited_or_joined membership = false

abbrev pub is_knocking : Membership → Bool
is_knocking Knock = true
is_knocking membership = false
