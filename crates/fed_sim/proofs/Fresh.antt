-- What a request brings for the rooms.
use Rattle.std.proofs.Common.{arith, ◌≡◌, ◌≤◌, ◌||◌, ℕ, Bool, true, List, [], ◌∷◌, length, All, IsSome, bytes_eq, refl, sym, ap, ◌∙◌, subst}
use Rattle.std.specs.List.{list_any}
use Rattle.std.specs.Cmp.Lexicographic.{nat_list_eq_equiv}
use Rattle.std.proofs.lemmas.List.Elements.{All-nil, All-weaker}
use Rattle.fed_event.specs.Keys.{Checks}
use Rattle.fed_event.specs.Checked.{CheckedEvent}
use Rattle.fed_event.specs.Fields.{room_id_of}
use Rattle.fed_event.specs.Names.{is_one_of}
use Rattle.fed_http.specs.Message.{RequestValue}
use Rattle.fed_room_contract.proofs.Positions.{is_some-position}
use Rattle.fed_dest.specs.List.{place_of}
use Rattle.fed_inbox.specs.Inbox.{InboxState}
use Rattle.fed_inbox.specs.Reply.{Answer}
use Rattle.fed_inbox.specs.Answer.{SendRequest, marked_fresh}
use Rattle.fed_inbox.specs.Rooms.{room_set}
use Rattle.fed_inbox.specs.Runs.{IsForRooms}
use Rattle.fed_inbox.specs.WholeRequest.{IsAnsweredWhole, no_memory, not_read, read, asked}
use Rattle.fed_inbox.proofs.ForRooms.{one_for_rooms, rooms_stay}
use Rattle.fed_sim.specs.Taking.{IsOfKnown}

-- who stands among names has a place among them
has_place : (known : List (List ℕ)) (room : List ℕ) → is_one_of known room ≡ true → IsSome (place_of known room)
has_place known room among = is_some-position (λ other. bytes_eq other room) known ∙ turned known ∙ among
  where
    turned : (names : List (List ℕ)) → list_any (λ other. bytes_eq other room) names ≡ is_one_of names room
    turned [] = refl
    turned (name ∷ names) = λ i. nat_list_eq_equiv.symm name room i || turned names i

module _ (checks : Checks) (old : InboxState) (r : RequestValue) (answer : Answer) (new : InboxState) (fresh : List CheckedEvent) where
  -- at most 50 events, as what is asked brings
  pub few_fresh : ((checks : Checks) (inbox : InboxState) (request : SendRequest) (found : Bool) → length (marked_fresh checks inbox request found) ≤ 50)
      → IsAnsweredWhole checks old r answer new fresh → length fresh ≤ 50
  few_fresh few (no_memory refused) = let none = ap length refused.fresh_is in omega arith
  few_fresh few (not_read refusal is refused) = let none = ap length refused.fresh_is in omega arith
  few_fresh few (read heading is answered) =
      let same = ap length answered.fresh_is in
      let most = few checks old (asked checks old.own r heading) answered.found in
      omega arith

  -- the rooms that the inbox knows stay
  pub rooms_stay_known : IsAnsweredWhole checks old r answer new fresh → new.rooms ≡ old.rooms
  rooms_stay_known (no_memory refused) = ap (λ (s : InboxState). s.rooms) refused.new_is
  rooms_stay_known (not_read refusal is refused) = ap (λ (s : InboxState). s.rooms) refused.new_is
  rooms_stay_known (read heading is answered) = ap (λ (s : InboxState). s.rooms) answered.new_is ∙ rooms_stay checks old (asked checks old.own r heading) answered.found

  -- each event is of one of them
  pub for_known : IsAnsweredWhole checks old r answer new fresh → All (IsForRooms checks old.rooms) fresh
  for_known (no_memory refused) = subst (All (IsForRooms checks old.rooms)) (sym refused.fresh_is) (All-nil (IsForRooms checks old.rooms))
  for_known (not_read refusal is refused) = subst (All (IsForRooms checks old.rooms)) (sym refused.fresh_is) (All-nil (IsForRooms checks old.rooms))
  for_known (read heading is answered) =
      subst (All (IsForRooms checks old.rooms)) (sym answered.fresh_is) (one_for_rooms checks old (asked checks old.own r heading) answered.found)

  -- so each has its place, where these are the rooms of these ids
  pub of_known : (known : List (List ℕ)) → old.rooms ≡ room_set known → ((room : List ℕ) → is_one_of (room_set known) room ≡ is_one_of known room)
      → IsAnsweredWhole checks old r answer new fresh → All (IsOfKnown known) fresh
  of_known known are same is = All-weaker (IsForRooms checks old.rooms) (IsOfKnown known) by fresh (for_known is)
    where
      by : (checked : CheckedEvent) → IsForRooms checks old.rooms checked → IsOfKnown known checked
      by checked brought =
          let room = room_id_of checked.event in
          has_place known room (sym (same room) ∙ ap (λ rooms. is_one_of rooms room) (sym are) ∙ brought.1)
