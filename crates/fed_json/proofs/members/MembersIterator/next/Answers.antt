use Rattle.std.proofs.Common.{◌≡◌, ◌∷◌, rules, subst}
use Rattle.serde_json.specs.Read.{max_depth}
use Rattle.fed_json.specs.Profile.{MembersAreWithin}
use Rattle.fed_json.specs.Places.{name_of}
use Rattle.fed_json.specs.Tree.{view, members_view}
use Rattle.fed_json.proofs.Parts.{first_member_within}
use Rattle.fed_json.proofs.members.MembersIterator.next.Goals as goal

pub invariant_of-self : goal.invariant_of-self
invariant_of-self c =
    let s = c.args.self.now in
    let is : s.entries.now ≡ c.in_ok-first.first.now ∷ c.in_ok-first.others.now = search rules in
    let whole : MembersAreWithin max_depth (members_view s.entries.now) = record { whole = s.whole; rising = s.rising; shallow = s.shallow } in
    let parts = first_member_within max_depth (name_of c.in_ok-first.first.now) (view c.in_ok-first.first.now.1) (members_view c.in_ok-first.others.now) (subst (λ es. MembersAreWithin max_depth (members_view es)) is whole) in
    record { whole = parts.1.whole; rising = parts.1.rising; shallow = parts.1.shallow }
