-- The rules look at what the state has at the keys of the event's selection, and at nothing else of it.
use Rattle.std.proofs.Common.{◌≡◌, ℕ, List, [], ◌∷◌, Bool, true, false, true≢false, ◌&&◌, Option, Some, None, bytes_eq, is_some, unwrap_or, if◌then◌else◌, refl, sym, ap, ◌∙◌, arith}
use Rattle.std.specs.Prelude.{All, Err, codes, int_le, is_none, option_map, option_and_then}
use Rattle.serde_json.specs.Find.{get}
use Rattle.fed_event.specs.Event.{Event}
use Rattle.fed_event.specs.Tests.{holds}
use Rattle.fed_event.specs.Fields.{content_of, kind_of, sender_of, state_key_of}
use Rattle.fed_event.specs.Checked.{CheckedEvent, authorising_user_of}
use Rattle.fed_room_contract.specs.declared.graph.Stored.{Stored}
use Rattle.fed_room_contract.specs.State.{StateMap, entry_at}
use Rattle.fed_room_contract.specs.Graph.{stored_at}
use Rattle.fed_auth.specs.declared.membership.Membership.{Membership}
use Rattle.fed_auth.specs.declared.membership.Membership.TheVariants.{Join, Invite, Leave, Ban, Knock, Other}
use Rattle.fed_auth.specs.Table.{Row, rule, reject, within, decide}
use Rattle.fed_auth.specs.Levels.{LevelsGiven, user_level, invite_level}
use Rattle.fed_auth.specs.Membership.{membership_in, is_joined}
use Rattle.fed_auth.specs.MemberRules.{join_table, invite_table, leave_table, ban_table, knock_table, table_of}
use Rattle.fed_auth.specs.EventRules.{member_target, is_unauthorised, is_unfederated}
use Rattle.fed_auth.specs.CreateRules.{create_table}
use Rattle.fed_auth.specs.Selection.{selector_of, target_of, needs_join_rules, authoriser_of, is_by_join_rules, selection_keys, entry_of, room_key, member_key}
use Rattle.fed_auth.specs.StateView.{Look, event_in, room_levels, membership_of, room_join_rule, is_authorised_in, facts_of, create_event}
use Rattle.fed_auth.specs.Allowed.{no_event, member_table, is_outside, other_table, room_table, rule_table, first_id, allowed_of}

-- two states have the same events at the keys of an event's selection
record Alike (one other : Look) (event : Event) : Type 0 where
  create : one (codes "m.room.create") [] ≡ other (codes "m.room.create") []
  levels : one (codes "m.room.power_levels") [] ≡ other (codes "m.room.power_levels") []
  sender : one (codes "m.room.member") (sender_of event) ≡ other (codes "m.room.member") (sender_of event)
  target : (user : List ℕ) → target_of (selector_of event) ≡ Some user → one (codes "m.room.member") user ≡ other (codes "m.room.member") user
  rules : needs_join_rules (selector_of event) ≡ true → one (codes "m.room.join_rules") [] ≡ other (codes "m.room.join_rules") []
  authoriser : (user : List ℕ) → authoriser_of (selector_of event) ≡ Some user → one (codes "m.room.member") user ≡ other (codes "m.room.member") user

module _ (one other : Look) where
  levels_alike : one (codes "m.room.create") [] ≡ other (codes "m.room.create") [] → one (codes "m.room.power_levels") [] ≡ other (codes "m.room.power_levels") [] → room_levels one ≡ room_levels other
  unfolding room_levels
  levels_alike create levels = cc

  member_alike : (user : List ℕ) → one (codes "m.room.member") user ≡ other (codes "m.room.member") user → membership_of one user ≡ membership_of other user
  unfolding membership_of
  member_alike user h = cc

  outside_alike : (user : List ℕ) → one (codes "m.room.member") user ≡ other (codes "m.room.member") user → is_outside one user ≡ is_outside other user
  unfolding is_outside
  outside_alike user h = let same = member_alike user h in cc

  rule_alike : one (codes "m.room.join_rules") [] ≡ other (codes "m.room.join_rules") [] → room_join_rule one ≡ room_join_rule other
  unfolding room_join_rule
  rule_alike h = cc

  module _ (event : Event) (alike : Alike one other event) (member : bytes_eq (kind_of event) (codes "m.room.member") ≡ true) where
    authoriser_is : (user : List ℕ) → authorising_user_of event ≡ Some user → authoriser_of (selector_of event) ≡ Some user
    unfolding authoriser_of
    authoriser_is user e = ap (λ b. if b then authorising_user_of event else None) member ∙ e

    needed : is_by_join_rules (membership_in (content_of event)) ≡ true → needs_join_rules (selector_of event) ≡ true
    unfolding needs_join_rules
    needed h = ap (λ b. b && is_by_join_rules (membership_in (content_of event))) member ∙ h

    target_is : (user : List ℕ) → member_target event ≡ Some user → target_of (selector_of event) ≡ Some user
    unfolding member_target target_of
    target_is user e = ap (λ b. if b then state_key_of event else None) member ∙ by (is_some (get (codes "membership") (content_of event))) e
      where
        by : (b : Bool) → (if b then state_key_of event else None) ≡ Some user → state_key_of event ≡ Some user
        by true e = e
        by false e = absurd (cc)

    authorised_alike : (levels : LevelsGiven) → is_authorised_in one levels event ≡ is_authorised_in other levels event
    unfolding is_authorised_in
    authorised_alike levels = by (authorising_user_of event) refl
      where
        by : (user : Option (List ℕ)) → authorising_user_of event ≡ user
            → holds (λ u. is_joined (membership_of one u) && int_le (invite_level levels) (user_level levels u)) user
            ≡ holds (λ u. is_joined (membership_of other u) && int_le (invite_level levels) (user_level levels u)) user
        by None e = refl
        by (Some u) e = ap (λ m. is_joined m && int_le (invite_level levels) (user_level levels u)) (member_alike u (alike.authoriser u (authoriser_is u e)))

    module _ (levels : LevelsGiven) (create : Event) (user : List ℕ) (at : member_target event ≡ Some user) where
      target_alike : membership_of one user ≡ membership_of other user
      target_alike = member_alike user (alike.target user (target_is user at))

      sender_alike : membership_of one (sender_of event) ≡ membership_of other (sender_of event)
      sender_alike = member_alike (sender_of event) alike.sender

      facts_alike : room_join_rule one ≡ room_join_rule other → facts_of one levels create event user ≡ facts_of other levels create event user
      unfolding facts_of
      facts_alike h = let t = target_alike in let s = sender_alike in let a = authorised_alike levels in cc

      leave_alike : leave_table (facts_of one levels create event user) ≡ leave_table (facts_of other levels create event user)
      unfolding facts_of leave_table
      leave_alike = let t = target_alike in let s = sender_alike in cc

      ban_alike : ban_table (facts_of one levels create event user) ≡ ban_table (facts_of other levels create event user)
      unfolding facts_of ban_table
      ban_alike = let t = target_alike in let s = sender_alike in cc

      by_rules : (m : Membership) → membership_in (content_of event) ≡ m → is_by_join_rules m ≡ true → facts_of one levels create event user ≡ facts_of other levels create event user
      by_rules m e h = facts_alike (rule_alike (alike.rules (needed (ap is_by_join_rules e ∙ h))))

      table_alike : (m : Membership) → membership_in (content_of event) ≡ m → table_of m (facts_of one levels create event user) ≡ table_of m (facts_of other levels create event user)
      table_alike Join e = ap join_table (by_rules Join e refl)
      table_alike Invite e = ap invite_table (by_rules Invite e refl)
      table_alike Leave e = leave_alike
      table_alike Ban e = ban_alike
      table_alike Knock e = ap knock_table (by_rules Knock e refl)
      table_alike Other e = refl

  module _ (checked : CheckedEvent) (alike : Alike one other checked.event) where
    member_table_alike : bytes_eq (kind_of checked.event) (codes "m.room.member") ≡ true → (levels : LevelsGiven) (create : Event)
        → decide (member_table one levels create checked) ≡ decide (member_table other levels create checked)
    unfolding member_table
    member_table_alike member levels create = by (member_target checked.event) refl
      where
        rows : Look → Option (List ℕ) → List Row
        rows look target = table_of (membership_in (content_of checked.event)) (facts_of look levels create checked.event (unwrap_or target []))

        by : (target : Option (List ℕ)) → member_target checked.event ≡ target
            → decide (reject (rule 4 1 0) (is_none target) ∷ reject (rule 4 2 0) (is_unauthorised checked) ∷ rows one target)
            ≡ decide (reject (rule 4 1 0) (is_none target) ∷ reject (rule 4 2 0) (is_unauthorised checked) ∷ rows other target)
        by None e = refl
        by (Some user) e =
            ap (λ r. decide (reject (rule 4 2 0) (is_unauthorised checked) ∷ r))
            (table_alike checked.event alike member levels create user e (membership_in (content_of checked.event)) refl)

    other_table_alike : other_table one (room_levels one) checked.event ≡ other_table other (room_levels other) checked.event
    unfolding other_table
    other_table_alike = let l = levels_alike alike.create alike.levels in let s = outside_alike (sender_of checked.event) alike.sender in let p = alike.levels in cc

    room_table_alike : (create : Event) → decide (room_table one create checked) ≡ decide (room_table other create checked)
    unfolding room_table
    room_table_alike create = by (bytes_eq (kind_of checked.event) (codes "m.room.member")) refl
      where
        apart : Bool
        apart = is_unfederated create checked.event

        by : (b : Bool) → bytes_eq (kind_of checked.event) (codes "m.room.member") ≡ b
            → decide (reject (rule 3 0 0) apart ∷ within b (member_table one (room_levels one) create checked) ∷ other_table one (room_levels one) checked.event)
            ≡ decide (reject (rule 3 0 0) apart ∷ within b (member_table other (room_levels other) create checked) ∷ other_table other (room_levels other) checked.event)
        by true e =
            ap (λ r. if apart then Err (rule 3 0 0) else r)
            (member_table_alike e (room_levels one) create ∙ ap (λ l. decide (member_table other l create checked)) (levels_alike alike.create alike.levels))
        by false e = ap (λ r. if apart then Err (rule 3 0 0) else decide r) other_table_alike

    rules_alike : (first : Option (List ℕ)) → decide (rule_table one first checked) ≡ decide (rule_table other first checked)
    unfolding rule_table
    rules_alike first =
        ap (λ c. decide (within is_first (create_table first checked.event) ∷ reject (rule 2 4 0) (is_none c) ∷ room_table one (unwrap_or c no_event) checked)) alike.create
        ∙ ap (λ r. if is_first then decide (create_table first checked.event) else (if is_none (create_event other) then Err (rule 2 4 0) else r))
        (room_table_alike (unwrap_or (create_event other) no_event))
      where
        is_first : Bool
        is_first = bytes_eq (kind_of checked.event) (codes "m.room.create")

module _ (events : List Stored) (checked : CheckedEvent) (one other : StateMap) where
  seen_alike : (kind key : List ℕ) → entry_at one kind key ≡ entry_at other kind key → event_in events one kind key ≡ event_in events other kind key
  unfolding event_in
  seen_alike kind key h = ap (λ id. option_map (λ stored. stored.event.event) (option_and_then (stored_at events) id)) h

  user_alike : (user : List ℕ) (o : Option (List ℕ)) → o ≡ Some user → entry_of one (option_map member_key o) ≡ entry_of other (option_map member_key o)
      → event_in events one (codes "m.room.member") user ≡ event_in events other (codes "m.room.member") user
  user_alike user None e h = absurd (cc)
  user_alike user (Some u) e h = let same : u ≡ user = cc in ap (λ x. event_in events one (codes "m.room.member") x) (sym same) ∙ seen_alike (codes "m.room.member") u h ∙ ap (λ x. event_in events other (codes "m.room.member") x) same

  rules_key_alike : (b : Bool) → b ≡ true → entry_of one (if b then Some (room_key (codes "m.room.join_rules")) else None) ≡ entry_of other (if b then Some (room_key (codes "m.room.join_rules")) else None)
      → event_in events one (codes "m.room.join_rules") [] ≡ event_in events other (codes "m.room.join_rules") []
  rules_key_alike true e h = seen_alike (codes "m.room.join_rules") [] h
  rules_key_alike false e h = absurd (true≢false (sym e))

  states_alike : All (λ key. entry_of one key ≡ entry_of other key) (selection_keys (selector_of checked.event)) → Alike (event_in events one) (event_in events other) checked.event
  unfolding selection_keys
  states_alike h = record {
    create = seen_alike (codes "m.room.create") [] (h 0 None (grind (arith)));
    levels = seen_alike (codes "m.room.power_levels") [] (h 1 None (grind (arith)));
    sender = seen_alike (codes "m.room.member") (sender_of checked.event) (h 2 None (grind (arith)));
    target = λ user e. user_alike user (target_of (selector_of checked.event)) e (h 3 None (grind (arith)));
    rules = λ e. rules_key_alike (needs_join_rules (selector_of checked.event)) e (h 4 None (grind (arith)));
    authoriser = λ user e. user_alike user (authoriser_of (selector_of checked.event)) e (h 5 None (grind (arith)));
  }

pub allowed_alike : (events : List Stored) (checked : CheckedEvent) (one other : StateMap) → All (λ key. entry_of one key ≡ entry_of other key) (selection_keys (selector_of checked.event))
    → allowed_of events checked one ≡ allowed_of events checked other
allowed_alike events checked one other h =
    rules_alike (event_in events one) (event_in events other) checked (states_alike events checked one other h) (first_id events)
