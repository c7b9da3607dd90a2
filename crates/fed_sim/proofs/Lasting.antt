-- Each step leaves a world in which what is so of every world is so.
use Rattle.std.proofs.Common.{◌≡◌, ℕ, zero, suc, ◌+◌, not, nat_lt, Bool, true, false, if◌then◌else◌, List, [], ◌∷◌, ◌++◌, length, All, Option, Some, None, refl, sym, ap, subst, ◌∙◌, arith}
use Rattle.std.specs.Prelude.{slice_get}
use Rattle.std.specs.Option.{option_map_or}
use Rattle.std.proofs.lemmas.Bool.Decides.{nat_tests}
use Rattle.std.proofs.lemmas.List.Elements.{filter_map-append, All-append, All-nil, All-cons}
use Rattle.serde_json.specs.Data.{Data, depth}
use Rattle.fed_json.specs.CanonicalText.{canonical_text}
use Rattle.fed_journal.specs.declared.edu.EduFault.TheVariants as edu
use Rattle.fed_journal.specs.declared.entry.Entry.{Entry}
use Rattle.fed_journal.specs.declared.entry.Entry.TheVariants as entry
use Rattle.fed_journal.specs.declared.entry.Cause.TheVariants.{Asked}
use Rattle.fed_journal.specs.Journal.{edus_of, edu_in}
use Rattle.fed_journal.specs.Queues.{queue_after}
use Rattle.fed_outbox.specs.Collecting.{Way}
use Rattle.fed_inbox.specs.Log.{LogState}
use Rattle.fed_inbox.specs.Inbox.{log_at}
use Rattle.fed_room_contract.specs.Draft.{DraftFields}
use Rattle.fed_sim.specs.declared.outcome.Outcome.{Outcome}
use Rattle.fed_sim.specs.declared.outcome.Outcome.TheVariants as outcome
use Rattle.fed_sim.specs.Applying.{IsAppliedAt, no_room, nothing, arrived, IsAppliedInPart, same, in_part, IsGivenTo, unknown_room, known_room}
use Rattle.fed_journal.specs.Edu.{is_edu, max_edu, max_edu_depth, edu_fault_of}
use Rattle.fed_sim.specs.Offering.{IsOfferedAt, IsOffered, IsEduOffered, IsClosedFor}
use Rattle.fed_sim.specs.Offering as offering
use Rattle.fed_sim.specs.Server.{ServerState}
use Rattle.fed_sim.specs.Ways.{way_to, with_way, IsOnWay}
use Rattle.fed_sim.specs.World.{WorldState, with_server, at_moment, max_moment, ticked}
use Rattle.fed_sim.proofs.Offers.{ways_from, offer_cases, OfferCases, as_it_was, event_entered, edu_cases, EduCases, edu_as_it_was, edu_entered, close_cases, CloseCases, close_as_it_was, close_entered}
use Rattle.fed_sim.proofs.WayMoves.{Laws, IsSoundEdu, IsHeld, held_entered}
use Rattle.fed_sim.proofs.Between.{same_some, not_none, set_same, IsBetween, IsSound, WayTo, way_there, there_way, Stays, changed, changed_elsewhere, way_changed}

-- ---- nothing is done

same_world : (w : WorldState) (p : ℕ) (before : ServerState) → slice_get w.servers p ≡ Some before → with_server w p before ≡ w
same_world w p before at i = record {
  names = w.names;
  known = w.known;
  epoch = w.epoch;
  servers = set_same w.servers p before at i;
  packets = w.packets;
  now = w.now;
}

pub put_back : (w : WorldState) (p : ℕ) (before : ServerState) → slice_get w.servers p ≡ Some before → IsSound w → IsSound (with_server w p before)
put_back w p before at h = subst IsSound (sym (same_world w p before at)) h

-- ---- an entry of the journal

-- a way of the longer journal is that of the shorter one, with what the entry places behind it
way_from : (n : ℕ) (entries : List Entry) (entry : Entry) (ways : List Way) (d : ℕ) (way : Way) → slice_get (ways_from n entries entry ways) d ≡ Some way
    → (old : Way) × (slice_get ways d ≡ Some old) × (way ≡ record { queue = queue_after entries entry (n + d) old.queue; outbox = old.outbox })
way_from n entries entry [] d way e = absurd (not_none way e)
way_from n entries entry (l ∷ ways) zero way e =
    let at : n ≡ n + 0 = omega arith in
    (l, refl, sym (same_some _ way e) ∙ ap (λ k. record { queue = queue_after entries entry k l.queue; outbox = l.outbox }) at)
way_from n entries entry (l ∷ ways) (suc d) way e =
    let later = way_from (n + 1) entries entry ways d way e in
    let at : n + 1 + d ≡ n + suc d = omega arith in
    (later.0, later.1, later.2 ∙ ap (λ k. record { queue = queue_after entries entry k later.0.queue; outbox = later.0.outbox }) at)

length-ways_from : (n : ℕ) (entries : List Entry) (entry : Entry) (ways : List Way) → length (ways_from n entries entry ways) ≡ length ways
length-ways_from n entries entry [] = refl
length-ways_from n entries entry (l ∷ ways) = ap suc (length-ways_from (n + 1) entries entry ways)

-- the ephemeral data unit of an entry can be taken, where there is one
abbrev IsSoundEntry : Entry → Type 0
IsSoundEntry x = All IsSoundEdu (edus_of (x ∷ []))

entered_sound : (journal : List Entry) (x : Entry) → IsSoundEntry x → All IsSoundEdu (edus_of journal) → All IsSoundEdu (edus_of (journal ++ x ∷ []))
entered_sound journal x sound h = subst (All IsSoundEdu) (sym (filter_map-append edu_in journal (x ∷ []))) (All-append IsSoundEdu (edus_of journal) (edus_of (x ∷ [])) h sound)

module _ (laws : Laws) (w : WorldState) (p : ℕ) (before : ServerState) (at : slice_get w.servers p ≡ Some before) (h : IsSound w) where
  pub entered : (x : Entry) → IsSoundEntry x → (after : ServerState) → after.own ≡ before.own → after.name ≡ before.name → after.inbox ≡ before.inbox → after.journal ≡ before.journal ++ x ∷ []
      → after.ways ≡ ways_from 0 before.journal x before.ways → IsSound (with_server w p after)
  entered x sound after own name inbox journal ways = changed w p before at h after stays (λ d ds way to leads. by d ds way to (way_there after d way leads))
    where
      stays : Stays w p before at h after
      stays = record { own = own; name = name; inbox = inbox; ways = ap length ways ∙ length-ways_from 0 before.journal x before.ways }

      by : (d : ℕ) (ds : ServerState) (way : Way) → slice_get w.servers d ≡ Some ds → WayTo after d way → IsBetween p d w.epoch after ds way w.packets
      by d ds way to leads =
          let from = way_from 0 before.journal x before.ways d way (ap (λ l. slice_get l d) (sym ways) ∙ leads.is) in
          let old = from.0 in
          let counted : 0 + d ≡ d = omega arith in
          let way_is = from.2 ∙ ap (λ k. record { queue = queue_after before.journal x k old.queue; outbox = old.outbox }) counted in
          let b = h.pairs p d before ds old at to
          (there_way before d old (record { apart = λ e. leads.apart (e ∙ sym own); within = ap (λ n. nat_lt d n) (sym stays.ways) ∙ leads.within; is = from.1 })) in
          let now = held_entered laws p d w.epoch before.name ds.name b.log w.packets before.journal x old (entered_sound before.journal x sound b.held.sound) b.held in
          record {
            log = b.log;
            log_is = ap (λ n. log_at n ds.inbox.logs) name ∙ b.log_is;
            held =
                subst (λ n. IsHeld p d w.epoch n ds.name after.journal way b.log w.packets) (sym name)
                (subst (λ j. IsHeld p d w.epoch before.name ds.name j way b.log w.packets) (sym journal)
                (subst (λ l. IsHeld p d w.epoch before.name ds.name (before.journal ++ x ∷ []) l b.log w.packets) (sym way_is) now));
          }

  -- ---- what a server offers, and closes

  offered_at : (place : ℕ) (draft : DraftFields) (told : Outcome) (after : ServerState) → IsOfferedAt w.names place draft before told after → IsSound (with_server w p after)
  offered_at place draft told after is = by told after (offer_cases w.names place draft before told after is)
    where
      by : (told : Outcome) (after : ServerState) → OfferCases w.names place draft before told after → IsSound (with_server w p after)
      by _ _ (as_it_was told) = put_back w p before at h
      by _ _ (event_entered room e dests here made ready go) = entered (entry.Event e.event dests) (All-nil IsSoundEdu) _ refl refl refl refl refl

  pub offered : (draft : DraftFields) (told : Outcome) (after : ServerState) → IsOffered w.names w.known draft before told after → IsSound (with_server w p after)
  offered draft told after (offering.unknown_room none is same_server) = subst (λ s. IsSound (with_server w p s)) (sym same_server) (put_back w p before at h)
  offered draft told after (offering.known_room place is at_it) = offered_at place draft told after at_it

  edu_is_sound : (value : Data) → edu_fault_of value ≡ None → IsSoundEdu value
  edu_is_sound value none = by (is_edu value) (nat_lt max_edu (length (canonical_text value))) (nat_lt max_edu_depth (depth value)) refl refl refl none
    where
      by : (a b c : Bool) → is_edu value ≡ a → nat_lt max_edu (length (canonical_text value)) ≡ b → nat_lt max_edu_depth (depth value) ≡ c
          → (if not a then Some edu.BadEdu else if b then Some edu.TooLarge else if c then Some edu.TooDeep else None) ≡ None → IsSoundEdu value
      by true false false is size levels e = record { is = is; levels = grind (arith, nat_tests); size = grind (arith, nat_tests) }
      by true false true is size levels e = absurd (not_none _ (sym e))
      by true true c is size levels e = absurd (not_none _ (sym e))
      by false b c is size levels e = absurd (not_none _ (sym e))

  pub edu_offered : (value : Data) (dests : List ℕ) (told : Outcome) (after : ServerState) → IsEduOffered value dests before told after → IsSound (with_server w p after)
  edu_offered value dests told after is = by told after (edu_cases value dests before told after is)
    where
      by : (told : Outcome) (after : ServerState) → EduCases value dests before told after → IsSound (with_server w p after)
      by _ _ (edu_as_it_was told) = put_back w p before at h
      by _ _ (edu_entered none) = entered (entry.Edu value _) (All-cons IsSoundEdu value [] (edu_is_sound value none) (All-nil IsSoundEdu)) _ refl refl refl refl refl

  pub closed_for : (d : ℕ) (told : Outcome) (after : ServerState) → IsClosedFor d before told after → IsSound (with_server w p after)
  closed_for d told after is = by told after (close_cases d before told after is)
    where
      by : (told : Outcome) (after : ServerState) → CloseCases d before told after → IsSound (with_server w p after)
      by _ _ (close_as_it_was told) = put_back w p before at h
      by _ _ close_entered = entered (entry.Close d Asked) (All-nil IsSoundEdu) _ refl refl refl refl refl

-- ---- what a room is given

module _ (w : WorldState) (p : ℕ) (before : ServerState) (at : slice_get w.servers p ≡ Some before) (h : IsSound w) where
  pub arrived_so : (place : ℕ) (told : Outcome) (after : ServerState) → IsAppliedAt place before told after → IsSound (with_server w p after)
  arrived_so place _ _ (no_room none) = put_back w p before at h
  arrived_so place _ _ (nothing none) = put_back w p before at h
  arrived_so place _ _ (arrived room after event later told is applied) =
      changed_elsewhere w p before at h _ (record { own = refl; name = refl; inbox = refl; ways = refl }) refl refl

  pub arrived_in_part : (place : ℕ) (after : ServerState) → IsAppliedInPart place before after → IsSound (with_server w p after)
  arrived_in_part place _ same = put_back w p before at h
  arrived_in_part place _ (in_part room after event later is stopped) =
      changed_elsewhere w p before at h _ (record { own = refl; name = refl; inbox = refl; ways = refl }) refl refl

  pub given_to : (id : List ℕ) (told : Outcome) (after : ServerState) → IsGivenTo w.known id before told after → IsSound (with_server w p after)
  given_to id _ _ (unknown_room none) = put_back w p before at h
  given_to id _ _ (known_room told new place is arrives) = arrived_so place told new arrives

  -- ---- what is done on a way

  second_is : {A B : Type 0} (a c : A) (b d : B) → ◌≡◌ {A = A × B} (a, b) (c, d) → b ≡ d
  second_is a c b d e = ap (λ pair. pair.1) e

  -- what leaves every way as it has to be does so here
  abbrev Leaves : ℕ → (Way → Outcome × Way) → Type 0
  Leaves d step = (way : Way) (ds : ServerState) → slice_get w.servers d ≡ Some ds → way_to before d ≡ Some way → (log : LogState) → log_at before.name ds.inbox.logs ≡ Some log
      → IsHeld p d w.epoch before.name ds.name before.journal way log w.packets → IsHeld p d w.epoch before.name ds.name before.journal (step way).1 log w.packets

  pub on_its_way : (d : ℕ) (step : Way → Outcome × Way) (told : Outcome) (after : ServerState) → Leaves d step → IsOnWay d step before told after → IsSound (with_server w p after)
  on_its_way d step told after leaves is = by (way_to before d) refl
    where
      by : (leads : Option Way) → way_to before d ≡ leads → IsSound (with_server w p after)
      by None none =
          let same : after ≡ before = second_is told outcome.NoSuchServer after before (is ∙ ap (λ leads. option_map_or (λ way. ((step way).0, with_way before d (step way).1)) leads (outcome.NoSuchServer, before)) none) in
          subst (λ s. IsSound (with_server w p s)) (sym same) (put_back w p before at h)
      by (Some way) there =
          let same : after ≡ with_way before d (step way).1 =
          second_is told (step way).0 after (with_way before d (step way).1) (is ∙ ap (λ leads. option_map_or (λ l. ((step l).0, with_way before d (step l).1)) leads (outcome.NoSuchServer, before)) there) in
          subst (λ s. IsSound (with_server w p s)) (sym same)
          (way_changed w p before at h d way (step way).1 there (λ ds to log log_is held. leaves way ds to there log log_is held))

-- ---- the moment

pub ticked_so : (w : WorldState) (ms : ℕ) (told : Outcome) (new : WorldState) → ◌≡◌ {A = Outcome × WorldState} (told, new) (ticked ms w) → IsSound w → IsSound new
ticked_so w ms told new is h = by (nat_lt max_moment (w.now + ms)) refl is
  where
    rises : nat_lt max_moment (w.now + ms) ≡ false → IsSound (at_moment w (w.now + ms))
    rises early = record { distinct = h.distinct; moment = grind (arith, nat_tests); servers = h.servers; ways = h.ways; pairs = h.pairs }

    by : (b : Bool) → nat_lt max_moment (w.now + ms) ≡ b → ◌≡◌ {A = Outcome × WorldState} (told, new) (if b then (outcome.TooLate, w) else (outcome.Now (w.now + ms), at_moment w (w.now + ms))) → IsSound new
    by true late e = subst IsSound (sym (ap (λ pair. pair.1) e)) h
    by false early e = subst IsSound (sym (ap (λ pair. pair.1) e)) (rises early)
