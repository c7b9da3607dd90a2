-- Servers as they change.
use Rattle.std.proofs.Common.{arith, ◌≡◌, ℕ, zero, suc, ◌+◌, ◌<◌, ◌≤◌, ◌↔◌, Bool, true, false, true≢false, List, [], ◌∷◌, ◌++◌, length, map, Option, Some, None, IsSome, Vec, vec_len, refl, sym, ap, ◌∙◌, if◌then◌else◌, position, bytes_eq, string_bytes, String, Global, nat_lt, cond, not, ◌⊎◌, inl, inr, Result, Ok, Err, OnErr, IfOk, subst}
use Rattle.std.specs.List.{slice_get, position_or_len}
use Rattle.std.proofs.lemmas.List.{length-map}
use Rattle.std.proofs.lemmas.Option.{none-some, same_Some}
use Rattle.std.proofs.lemmas.Bool.{lt-leb, leb-false, cases_Bool}
use Rattle.fed_event.specs.Checked.{CheckedEvent}
use Rattle.fed_room_contract.specs.Room.{RoomState}
use Rattle.fed_dest.specs.List.{place_of}
use Rattle.fed_journal.specs.declared.entry.Entry.{Entry}
use Rattle.fed_journal.specs.declared.fault.JournalFault.{JournalFault}
use Rattle.fed_journal.specs.Journal.{is_closed, placed, next_place}
use Rattle.fed_journal.specs.Place.{PlaceValue}
use Rattle.fed_outbox.specs.Collecting.{Way}
use Rattle.fed_sim.specs.declared.outcome.Outcome.{Outcome}
use Rattle.fed_sim.specs.declared.entering.Entered.{Entered}
use Rattle.fed_journal.specs.declared.offered.Offered.{Offered}
use Rattle.fed_journal.specs.Offered.{entry_of, number_of}
use Rattle.fed_journal.specs.Offering.{has_place, open_among}
use Rattle.fed_sim.specs.Sending.{fits, entered_told}
use Rattle.fed_sim.specs.Server.{ServerState}

-- other rooms, another journal, and other ways
abbrev pub server_at : ServerState → List RoomState → List (List CheckedEvent) → List Entry → List Way → ServerState
server_at s rooms arrivals journal ways = record { own = s.own; name = s.name; rooms = rooms; arrivals = arrivals; journal = journal; ways = ways; inbox = s.inbox }

pub same_parts : (s : ServerState) (q r : List RoomState) (m n : List (List CheckedEvent)) (a b : List Entry) (xs ys : List Way) → q ≡ r → m ≡ n → a ≡ b → xs ≡ ys
    → server_at s q m a xs ≡ server_at s r n b ys
same_parts s q r m n a b xs ys rooms arrivals journal ways = λ i. server_at s (rooms i) (arrivals i) (journal i) (ways i)

pub same_at : (s : ServerState) (a b : List Entry) (xs ys : List Way) → a ≡ b → xs ≡ ys → server_at s s.rooms s.arrivals a xs ≡ server_at s s.rooms s.arrivals b ys
same_at s a b xs ys journal ways = same_parts s s.rooms s.rooms s.arrivals s.arrivals a b xs ys refl refl journal ways

-- an element stands at each place that is not past the end
pub listed : {X : Type 0} (xs : List X) (i : ℕ) → i < length xs → (x : X) × (slice_get xs i ≡ Some x)
listed [] i within = absurd (omega (arith, within))
listed (x ∷ xs) zero within = (x, refl)
listed (x ∷ xs) (suc i) within = listed xs i (omega (arith, within))

-- an element was asked for by its place
module _ {X R : Type 0} (xs : Vec X Global) (k : ℕ) (found : Option R) (there : IsSome found ↔ (k < vec_len xs)) where
  pub there_past : found ≡ None → length xs.items ≤ k
  there_past none = by (λ below. true≢false (sym (subst IsSome none (there.1 below))))
    where
      by : (k < vec_len xs → ⊥) → length xs.items ≤ k
      by beyond = grind (arith, beyond, xs.ok.0)

  pub there_below : (some : R) → found ≡ Some some → k < length xs.items
  there_below some is = let below : k < vec_len xs = there.0 (subst IsSome (sym is) refl) in omega (arith, below, xs.ok.0)

-- a place comes next exactly where the outbox is open
pub closed_where : (entries : List Entry) (d : ℕ) → next_place entries d ≡ None → is_closed entries d ≡ true
closed_where entries d none = by (is_closed entries d) none
  where
    by : (b : Bool) → if◌then◌else◌ {A = Option PlaceValue} b None (Some (record { dest = d; number = placed entries d + 1 })) ≡ None → b ≡ true
    by true e = refl
    by false e = absurd (none-some _ (sym e))

pub open_where : (entries : List Entry) (d : ℕ) (place : PlaceValue) → next_place entries d ≡ Some place → (is_closed entries d ≡ false) × (place ≡ record { dest = d; number = placed entries d + 1 })
open_where entries d place some = by (is_closed entries d) some
  where
    by : (b : Bool) → if◌then◌else◌ {A = Option PlaceValue} b None (Some (record { dest = d; number = placed entries d + 1 })) ≡ Some place → (b ≡ false) × (place ≡ record { dest = d; number = placed entries d + 1 })
    by true e = absurd (none-some place e)
    by false e = (refl, sym (same_Some _ place e))

-- whether the journal has a place
pub has_none : (entries : List Entry) (n : ℕ) → 9007199254740992 < length entries + (n + 1) → has_place entries n ≡ false
has_none entries n more = lt-leb _ _ (omega (arith, more))

-- the place of a room among ids
where_or_len : (ids : List (String Global)) (room : List ℕ) → position_or_len (λ (id : String Global). bytes_eq (string_bytes id) room) ids ≡ position_or_len (λ other. bytes_eq other room) (map string_bytes ids)
where_or_len [] room = refl
where_or_len (id ∷ ids) room = ap (λ n. cond (not (bytes_eq (string_bytes id) room)) (1 + n) 0) (where_or_len ids room)

pub place_named : (ids : List (String Global)) (room : List ℕ) → position (λ (id : String Global). bytes_eq (string_bytes id) room) ids ≡ place_of (map string_bytes ids) room
place_named ids room =
    λ i. cond (nat_lt (where_or_len ids room i) (sym (length-map ids string_bytes) i)) (Some (where_or_len ids room i)) None

pub has_one : {T : Type 0} (entries : List Entry) (n : ℕ) (u : T) (fault : JournalFault) → (9007199254740992 < length entries + (n + 1) → ◌≡◌ {A = Result T JournalFault} (Ok u) (Err fault)) → has_place entries n ≡ true
has_one entries n u fault refused = by (cases_Bool (has_place entries n))
  where
    by : (has_place entries n ≡ true) ⊎ (has_place entries n ≡ false) → has_place entries n ≡ true
    by (inl has) = has
    by (inr none) = let full = leb-false _ _ none in let e = refused (omega (arith, full)) in absurd (cc)

-- what holds in any case holds on an error
pub on_error : {T E P : Type 0} (r : Result T E) → P → OnErr r P
on_error (Ok x) p = tt
on_error (Err e) p = p

-- what two clauses say of a value that is given
pub both_ok : {T E : Type 0} {P Q R : T → Type 0} (r : Result T E) → IfOk r P → IfOk r Q → ((x : T) → P x → Q x → R x) → IfOk r R
both_ok (Ok x) p q f = f x p q
both_ok (Err e) p q f = tt

-- an outcome and a server that are the same
pub same_step : (P : Outcome → ServerState → Type 0) (a b : Outcome) (s t : ServerState) → a ≡ b → s ≡ t → P a s → P b t
same_step P a b s t outcome server p = subst (P b) server (subst (λ o. P o s) outcome p)

-- what was told of an entry says whether it fits
pub told_some : (offered : Offered) (dests : List ℕ) (entries : List Entry) (told : Option Entered) (e : Entered) → told ≡ entered_told offered dests entries → told ≡ Some e
    → (fits offered dests entries ≡ true) × (e ≡ record { number = number_of offered (entries ++ entry_of offered dests ∷ []); dests = open_among entries dests })
told_some offered dests entries told e is some = by (fits offered dests entries) (sym is ∙ some)
  where
    by : (b : Bool) → if◌then◌else◌ {A = Option Entered} b (Some (record { number = number_of offered (entries ++ entry_of offered dests ∷ []); dests = open_among entries dests })) None ≡ Some e
        → (b ≡ true) × (e ≡ record { number = number_of offered (entries ++ entry_of offered dests ∷ []); dests = open_among entries dests })
    by true here = (refl, sym (same_Some _ e here))
    by false here = absurd (none-some e here)

pub told_none : (offered : Offered) (dests : List ℕ) (entries : List Entry) (told : Option Entered) → told ≡ entered_told offered dests entries → told ≡ None → fits offered dests entries ≡ false
told_none offered dests entries told is none = by (fits offered dests entries) (sym is ∙ none)
  where
    by : (b : Bool) → if◌then◌else◌ {A = Option Entered} b (Some (record { number = number_of offered (entries ++ entry_of offered dests ∷ []); dests = open_among entries dests })) None ≡ None → b ≡ false
    by true here = absurd (none-some _ (sym here))
    by false here = refl
