-- What the thread of a room holds goes on, and what becomes of the room, turn after turn.
use Rattle.std.proofs.Common.{arith, ◌≡◌, ◌+◌, ◌≤◌, ◌++◌, ◌∷◌, [], ℕ, List, length, true, Option, Some, None, refl, sym, ap, ◌∙◌, subst, append-nil, append_assoc, length-append}
use Rattle.fed_event.specs.Checked.{CheckedEvent}
use Rattle.fed_hub_state.specs.KeptRoom.{KeptState}
use Rattle.fed_hub_rooms.specs.declared.ran.Ran.{Ran}
use Rattle.fed_hub_rooms.specs.declared.ran.Ran.TheVariants.{Drained, TurnsSpent, Memory}
use Rattle.fed_hub_rooms.specs.Access.{WhereKnown}
use Rattle.fed_hub_rooms.specs.RoomHeld.{RoomHeld}
use Rattle.fed_hub_rooms.specs.Turns.{GoesOn, AreApplied, RunsOut, not_given, not_received, not_all_stored, Became, EndsSo, RoomRuns}

-- ---- what is known of a room

module _ (P : KeptState → KeptState → Type 0) (same : (a : KeptState) → P a a) where
  pub known_still : (state : Option KeptState) → WhereKnown P state state
  known_still None = tt
  known_still (Some state) = same state

module _ (P Q : KeptState → KeptState → Type 0) (so : (a b : KeptState) → P a b → Q a b) where
  pub known_as : (old new : Option KeptState) → WhereKnown P old new → WhereKnown Q old new
  known_as None None is = tt
  known_as None (Some new) is = absurd is
  known_as (Some old) None is = absurd is
  known_as (Some old) (Some new) is = so old new is

module _ (P Q R : KeptState → KeptState → Type 0) (joins : (a b c : KeptState) → P a b → Q b c → R a c) where
  pub known_then : (a b c : Option KeptState) → WhereKnown P a b → WhereKnown Q b c → WhereKnown R a c
  known_then None None None p q = tt
  known_then None None (Some c) p q = absurd q
  known_then None (Some b) c p q = absurd p
  known_then (Some a) None c p q = absurd p
  known_then (Some a) (Some b) None p q = absurd q
  known_then (Some a) (Some b) (Some c) p q = joins a b c p q

-- ---- events that come to a room one after another

pub applied_then : (xs ys : List CheckedEvent) (a b c : KeptState) → AreApplied xs a b → AreApplied ys b c → AreApplied (xs ++ ys) a c
applied_then [] ys a b c one two = subst (λ (s : KeptState). AreApplied ys s c) one two
applied_then (x ∷ xs) ys a b c one two = (one.0, one.1, one.2, applied_then xs ys one.1 b c one.3 two)

runs_out_then : (hand : Option CheckedEvent) (xs ys : List CheckedEvent) (a b c : KeptState) → AreApplied xs a b → RunsOut hand ys b c → RunsOut hand (xs ++ ys) a c
runs_out_then hand xs ys a b c one (not_given event at two) = not_given event at (applied_then xs ys a b c one two)
runs_out_then hand xs ys a b c one (not_received event next at two back) = not_received event next at (applied_then xs ys a b next one two) back
runs_out_then hand xs ys a b c one (not_all_stored before event told next is two so) =
    not_all_stored (xs ++ before) event told next (ap (λ zs. xs ++ zs) is ∙ sym (append_assoc xs before (event ∷ []))) (applied_then xs before a b next one two) so

became_then : (ran : Ran) (hand : Option CheckedEvent) (xs ys : List CheckedEvent) (a b c : KeptState) → AreApplied xs a b → Became ran hand ys b c → Became ran hand (xs ++ ys) a c
became_then Drained hand xs ys a b c one two = applied_then xs ys a b c one two
became_then TurnsSpent hand xs ys a b c one two = applied_then xs ys a b c one two
became_then Memory hand xs ys a b c one two = runs_out_then hand xs ys a b c one two

-- ---- turns

pub stays : (h : RoomHeld) → GoesOn [] h h
stays h = record { room = refl; received = ([], append-nil h.received); given = sym (append-nil h.given) }

goes_further : (xs ys : List CheckedEvent) (a b c : RoomHeld) → GoesOn xs a b → GoesOn ys b c → GoesOn (xs ++ ys) a c
goes_further xs ys a b c one two = record {
  room = two.room ∙ one.room;
  received = (one.received.0 ++ two.received.0, sym (append_assoc a.received one.received.0 two.received.0) ∙ ap (λ zs. zs ++ two.received.0) one.received.1 ∙ two.received.1);
  given = two.given ∙ ap (λ zs. zs ++ ys) one.given ∙ append_assoc a.given xs ys;
}

ends_then : (ran : Ran) (made n : ℕ) (xs ys : List CheckedEvent) (h : RoomHeld) → length xs ≡ made → EndsSo ran n ys h → EndsSo ran (made + n) (xs ++ ys) h
ends_then Drained made n xs ys h one two = two
ends_then TurnsSpent made n xs ys h one two = length-append xs ys ∙ (λ i. one i + two i)
ends_then Memory made n xs ys h one two = tt

pub none_made : (h : RoomHeld) (room : Option KeptState) → RoomRuns 0 h room TurnsSpent h room
none_made h room = record {
  given = [];
  goes_on = stays h;
  became = known_still (Became TurnsSpent h.hand []) (λ _. refl) room;
  most = omega arith;
  ends = refl;
}

pub turns_then : (made n : ℕ) (a b c : RoomHeld) (r s t : Option KeptState) (ran : Ran) → RoomRuns made a r TurnsSpent b s → RoomRuns n b s ran c t → RoomRuns (made + n) a r ran c t
turns_then made n a b c r s t ran one two = record {
  given = one.given ++ two.given;
  goes_on = goes_further one.given two.given a b c one.goes_on two.goes_on;
  became =
      known_then (Became TurnsSpent b.hand one.given) (Became ran c.hand two.given) (Became ran c.hand (one.given ++ two.given))
      (λ x y z. became_then ran c.hand one.given two.given x y z) r s t one.became two.became;
  most = omega (arith, length-append one.given two.given);
  ends = ends_then ran made n one.given two.given c one.ends two.ends;
}

-- in fewer turns it ends so too
pub drained_within : (n turns : ℕ) (a b : RoomHeld) (r s : Option KeptState) → n ≤ turns → RoomRuns n a r Drained b s → RoomRuns turns a r Drained b s
drained_within n turns a b r s fewer so = record { given = so.given; goes_on = so.goes_on; became = so.became; most = omega arith; ends = so.ends }

pub ran_out_within : (n turns : ℕ) (a b : RoomHeld) (r s : Option KeptState) → n ≤ turns → RoomRuns n a r Memory b s → RoomRuns turns a r Memory b s
ran_out_within n turns a b r s fewer so = record { given = so.given; goes_on = so.goes_on; became = so.became; most = omega arith; ends = so.ends }

-- nothing more comes
pub drained : (a b : RoomHeld) (room : Option KeptState) → GoesOn [] a b → b.gone ≡ true → b.hand ≡ None → RoomRuns 1 a room Drained b room
drained a b room on gone empty = record {
  given = [];
  goes_on = on;
  became = known_still (Became Drained b.hand []) (λ _. refl) room;
  most = omega arith;
  ends = (gone, empty);
}

-- an event is in hand, and then it is given
pub taken_then : (n : ℕ) (a b c : RoomHeld) (r s : Option KeptState) (ran : Ran) → GoesOn [] a b → RoomRuns n b r ran c s → RoomRuns n a r ran c s
taken_then n a b c r s ran on so = record { given = so.given; goes_on = goes_further [] so.given a b c on so.goes_on; became = so.became; most = so.most; ends = so.ends }
