use Rattle.std.proofs.Common.{arith, ◌≡◌, ◌<◌, ◌++◌, ◌∷◌, [], Bool, Some, length, set, Err, false, refl, sym, ap, ◌∙◌, subst, if◌then◌else◌}
use Rattle.std.proofs.lemmas.List.{length-map}
use Rattle.std.proofs.lemmas.Option.{slice_get-map, slice_get_past, slice_get-get_or}
use Rattle.std.proofs.lemmas.Bool.{eqb-true, eqb-false}
use Rattle.std.specs.Option.{option_map}
use Rattle.fed_journal.specs.declared.entry.Cause.TheVariants.{Asked}
use Rattle.fed_journal.specs.declared.entry.Entry.TheVariants as entry
use Rattle.fed_journal.specs.declared.parcel.Load.TheVariants.{End}
use Rattle.fed_journal.specs.declared.parcel.Parcel.{Parcel}
use Rattle.fed_journal.specs.Journal.{JournalState, is_closed, with_entry}
use Rattle.fed_journal.specs.Place.{PlaceValue}
use Rattle.fed_outbox.specs.Collecting.{Way}
use Rattle.fed_sim.specs.declared.outcome.Outcome.TheVariants.{NotClosed, Closed}
use Rattle.fed_sim.specs.Way.{WayState, ways_of, with_parcel}
use Rattle.fed_sim.specs.Ways.{ways_beyond}
use Rattle.fed_sim.specs.Sending.{pushed_from}
use Rattle.fed_sim.specs.Offering.{IsClosedFor}
use Rattle.fed_sim.proofs.Offers.{ways_one, own_server, not_listed, closed_before, close_limit, closing_enters}
use Rattle.fed_sim.specs.ServerParts.{server_of}
use Rattle.fed_sim.proofs.WayQueues.{same_seen, pushed_here, pushed_nothing, end_sent}
use Rattle.fed_sim.proofs.Servers.{same_at, listed, closed_where, open_where, has_none, has_one, on_error}
use Rattle.fed_sim.proofs.server.Server.close.Goals as goal

pub returns-then-eq-clause-closed : goal.returns-then-eq-clause-closed
returns-then-eq-clause-closed c = own_server c.args.dest (server_of c.args.self.now) (eqb-true _ _ (sym c.if-eq.ensures))

pub returns-then-len-place-clause-closed : goal.returns-then-len-place-clause-closed
returns-then-len-place-clause-closed c =
    let ways = c.args.self.now.ways.items in
    let size = c.args.self.now.ways.ok.0 in
    let all = length-map ways (λ (l : WayState). l.way) in
    not_listed c.args.dest (server_of c.args.self.now) (slice_get_past (ways_of ways) c.args.dest (omega (arith, size, all, c.len.ensures, c.place.ensures.place, c.if-len-place.true)))

pub returns-in_default-clause-closed : goal.returns-in_default-clause-closed
returns-in_default-clause-closed c =
    let ways = c.args.self.now.ways.items in
    let size = c.args.self.now.ways.ok.0 in
    let way = listed ways c.args.dest (omega (arith, size, c.len.ensures, c.place.ensures.place, c.if-len-place.false)) in
    closed_before c.args.dest (server_of c.args.self.now) way.0.way (eqb-false _ _ (sym c.if-eq.ensures)) (slice_get-map (λ (l : WayState). l.way) ways c.args.dest ∙ ap (option_map (λ (l : WayState). l.way)) way.1)
    (closed_where c.args.self.now.journal.entries c.args.dest (sym c.place-2.ensures ∙ c.in_default.is))

pub returns-in-Err-Limit-clause-closed : goal.returns-in-Err-Limit-clause-closed
returns-in-Err-Limit-clause-closed c =
    let ways = c.args.self.now.ways.items in
    let size = c.args.self.now.ways.ok.0 in
    let way = listed ways c.args.dest (omega (arith, size, c.len.ensures, c.place.ensures.place, c.if-len-place.false)) in
    let here = slice_get-map (λ (l : WayState). l.way) ways c.args.dest ∙ ap (option_map (λ (l : WayState). l.way)) way.1 in
    let is_open = open_where c.args.self.now.journal.entries c.args.dest c.in-Some.place (sym c.place-2.ensures ∙ c.in-Some.is) in
    subst (IsClosedFor c.args.dest (server_of c.args.self.now) NotClosed)
    (same_at (server_of c.args.self.now) _ _ _ _ (ap (λ (j : JournalState). j.entries) (sym c.in-Err-Limit.ensures.err)) refl)
    (close_limit c.args.dest (server_of c.args.self.now) way.0.way (eqb-false _ _ (sym c.if-eq.ensures)) here is_open.0 (has_none c.args.self.now.journal.entries 0 (c.in-Err-Limit.ensures.limit_only (ap Err c.in-Err-Limit.field-0-is))))

-- the way that is closed is the one for the destination
pub returns-in_err-make_room-clause-err : goal.returns-in_err-make_room-clause-err
returns-in_err-make_room-clause-err c =
    on_error c.from_residual.result (same_at (server_of c.args.self.now) _ _ _ _ (ap (λ (j : JournalState). j.entries) c.in-Ok.ensures.ok)
    (same_seen (λ (l : WayState). l.way) c.args.self.now.ways.items c.place-3.result c.make_room.new.self c.index_mut-way.result.now
    (c.in_err-make_room.ensures.way ∙ ap (λ (l : WayState). l.way) c.index_mut-way.ensures.value)))

pub returns-clause-closed : goal.returns-clause-closed
returns-clause-closed c =
    let ways = c.args.self.now.ways.items in
    let entries = c.args.self.now.journal.entries in
    let d = c.args.dest in
    let size = c.args.self.now.ways.ok.0 in
    let at : c.place-3.result ≡ d = c.place-3.ensures.place in
    let within : c.place-3.result < length ways = omega (arith, size, c.len.ensures, c.place.ensures.place, c.if-len-place.false, at) in
    let old = listed ways d (omega (arith, within, at)) in
    let here = slice_get-map (λ (l : WayState). l.way) ways d ∙ ap (option_map (λ (l : WayState). l.way)) old.1 in
    let is_open = open_where entries d c.in-Some.place (sym c.place-2.ensures ∙ c.in-Some.is) in
    let parcel : Parcel = record { place = c.in-Some.place; load = End } in
    let as_before : c.reserve.new.self.entries ≡ entries = ap (λ (j : JournalState). j.entries) c.in-Ok.ensures.ok in
    let was_open : is_closed c.reserve.new.self.entries d ≡ false = ap (λ es. is_closed es d) as_before ∙ is_open.0 in
    let journal : c.close.new.self.entries ≡ entries ++ entry.Close d Asked ∷ [] =
    ap (λ (j : JournalState). j.entries) (c.close.ensures.entry ∙ ap (λ (b : Bool). if b then c.reserve.new.self else with_entry c.reserve.new.self (entry.Close d Asked)) was_open)
    ∙ ap (λ es. es ++ entry.Close d Asked ∷ []) as_before in
    let way : c.push.new.self.way ≡ with_parcel c.index_mut-way.result.now.way parcel = c.push.ensures.way ∙ ap (λ (l : Way). with_parcel l parcel) c.in_ok-make_room.ensures.way in
    let states : ways_of (set ways c.place-3.result c.push.new.self) ≡ ways_beyond 0 entries (entries ++ entry.Close d Asked ∷ []) (ways_of ways) =
    sym (pushed_nothing 0 (ways_of (set ways c.place-3.result c.push.new.self)))
    ∙ pushed_here parcel [] ways c.place-3.result c.index_mut-way.result.now c.push.new.self (ap (λ (p : PlaceValue). p.dest) is_open.1 ∙ sym at)
    (slice_get-get_or ways c.place-3.result c.index_mut-way.result.now within ∙ ap Some (sym c.index_mut-way.ensures.value)) way
    ∙ ap (λ (p : PlaceValue). pushed_from 0 (record { place = p; load = End } ∷ []) (ways_of ways)) is_open.1
    ∙ end_sent d entries is_open.0 0 (ways_of ways) ∙ sym (ways_one 0 entries (entry.Close d Asked) (ways_of ways)) in
    subst (IsClosedFor d (server_of c.args.self.now) Closed)
    (same_at (server_of c.args.self.now) _ _ _ _ (sym journal) (sym states))
    (closing_enters d (server_of c.args.self.now) old.0.way (eqb-false _ _ (sym c.if-eq.ensures)) here is_open.0 (has_one entries 0 c.in-Ok.field-0 _ c.in-Ok.ensures.limit))
