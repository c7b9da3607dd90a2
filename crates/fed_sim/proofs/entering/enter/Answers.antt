use Rattle.std.proofs.Common.{arith, ◌≡◌, ℕ, Bool, true, false, List, [], ◌∷◌, ◌++◌, length, Option, None, Some, if◌then◌else◌, sym, ap, ◌∙◌, subst}
use Rattle.std.specs.List.{filter_map}
use Rattle.fed_journal.specs.declared.entry.Entry.{Entry}
use Rattle.fed_journal.specs.declared.parcel.Parcel.{Parcel}
use Rattle.fed_journal.specs.Journal.{JournalState}
use Rattle.fed_sim.specs.declared.entering.Entered.{Entered}
use Rattle.fed_journal.specs.declared.offered.Offered.{Offered}
use Rattle.fed_sim.specs.Way.{ways_of}
use Rattle.fed_journal.specs.Offered.{entry_of, load_of, number_of}
use Rattle.fed_journal.specs.Offering.{has_place, open_among}
use Rattle.fed_journal.specs.Queues.{parcel_to}
use Rattle.fed_sim.specs.Ways.{ways_beyond}
use Rattle.fed_sim.specs.Sending.{AreFor, parcels_for, fits, pushed_from}
use Rattle.fed_sim.proofs.Offers.{ways_one}
use Rattle.fed_sim.proofs.WayQueues.{all_sent, are_for, count_sent, one_at_most}
use Rattle.fed_sim.proofs.entering.enter.Goals as goal

-- whether it fits, as it was told
fits_told : (offered : Offered) (dests : List ℕ) (entries : List Entry) (parcels : List Parcel) (n : ℕ) (told answer : Bool) → n ≡ length parcels → parcels ≡ filter_map (parcel_to entries (load_of offered)) dests
    → told ≡ has_place entries n → told ≡ answer → fits offered dests entries ≡ answer
fits_told offered dests entries parcels n told answer count are reserved is =
    ap (has_place entries) (sym (count ∙ ap length are ∙ count_sent (load_of offered) dests entries)) ∙ sym reserved ∙ is

pub push_all-requires-clause-room : goal.push_all-requires-clause-room
push_all-requires-clause-room c d way there =
    let one = one_at_most c.args.journal.now.entries (load_of c.args.offered) d c.args.dests c.in_ok-parcels.ensures.rising in
    let same = ap (λ ps. length (parcels_for d ps)) c.in_ok-parcels.ensures.parcels in
    let room = c.in_ok-reserve.ensures.room c.if-not-branch.false d way there in
    omega (arith, one, same, room)

pub push_all-requires-clause-dests : goal.push_all-requires-clause-dests
push_all-requires-clause-dests c =
    subst (λ n. AreFor n c.in_ok-parcels.parcels.items) (sym c.in_ok-reserve.ensures.count)
    (subst (AreFor (length c.args.ways.now)) (sym c.in_ok-parcels.ensures.parcels) (are_for c.args.journal.now.entries (load_of c.args.offered) (length c.args.ways.now) c.args.dests c.requires))

pub returns-then-not-branch-clause-told : goal.returns-then-not-branch-clause-told
returns-then-not-branch-clause-told c =
    let entries = c.args.journal.now.entries in
    ap (λ (b : Bool). if◌then◌else◌ {A = Option Entered} b (Some (record { number = number_of c.args.offered (entries ++ entry_of c.args.offered c.args.dests ∷ []); dests = open_among entries c.args.dests })) None)
    (sym (fits_told c.args.offered c.args.dests entries _ _ _ false (omega (arith, c.len.ensures, c.in_ok-parcels.parcels.ok.0)) c.in_ok-parcels.ensures.parcels c.in_ok-reserve.ensures.told c.if-not-branch.true))

pub returns-then-not-branch-clause-entries : goal.returns-then-not-branch-clause-entries
returns-then-not-branch-clause-entries c =
    let entries = c.args.journal.now.entries in
    c.in_ok-reserve.ensures.entries
    ∙ ap (λ (b : Bool). if b then entries ++ entry_of c.args.offered c.args.dests ∷ [] else entries)
    (sym (fits_told c.args.offered c.args.dests entries _ _ _ false (omega (arith, c.len.ensures, c.in_ok-parcels.parcels.ok.0)) c.in_ok-parcels.ensures.parcels c.in_ok-reserve.ensures.told c.if-not-branch.true))

pub returns-then-not-branch-clause-ways : goal.returns-then-not-branch-clause-ways
returns-then-not-branch-clause-ways c =
    let entries = c.args.journal.now.entries in
    let states = ways_of c.args.ways.now in
    c.in_ok-reserve.ensures.ways
    ∙ ap (λ (b : Bool). if b then ways_beyond 0 entries (entries ++ entry_of c.args.offered c.args.dests ∷ []) states else states)
    (sym (fits_told c.args.offered c.args.dests entries _ _ _ false (omega (arith, c.len.ensures, c.in_ok-parcels.parcels.ok.0)) c.in_ok-parcels.ensures.parcels c.in_ok-reserve.ensures.told c.if-not-branch.true))

pub returns-clause-told : goal.returns-clause-told
returns-clause-told c =
    let entries = c.args.journal.now.entries in
    let entered : c.append_to-number.new.journal.entries ≡ entries ++ entry_of c.args.offered c.args.dests ∷ [] =
    ap (λ (j : JournalState). j.entries) c.append_to-number.ensures.entry ∙ ap (λ es. es ++ entry_of c.args.offered c.args.dests ∷ []) c.in_ok-reserve.ensures.entries in
    let number : c.append_to-number.result ≡ number_of c.args.offered (entries ++ entry_of c.args.offered c.args.dests ∷ []) =
    c.append_to-number.ensures.number ∙ ap (number_of c.args.offered) entered in
    (λ i. Some (record { number = number i; dests = c.in_ok-reached.ensures i }))
    ∙ ap (λ (b : Bool). if◌then◌else◌ {A = Option Entered} b (Some (record { number = number_of c.args.offered (entries ++ entry_of c.args.offered c.args.dests ∷ []); dests = open_among entries c.args.dests })) None)
    (sym (fits_told c.args.offered c.args.dests entries _ _ _ true (omega (arith, c.len.ensures, c.in_ok-parcels.parcels.ok.0)) c.in_ok-parcels.ensures.parcels c.in_ok-reserve.ensures.told c.if-not-branch.false))

pub returns-clause-entries : goal.returns-clause-entries
returns-clause-entries c =
    let entries = c.args.journal.now.entries in
    ap (λ (j : JournalState). j.entries) c.append_to-number.ensures.entry ∙ ap (λ es. es ++ entry_of c.args.offered c.args.dests ∷ []) c.in_ok-reserve.ensures.entries
    ∙ ap (λ (b : Bool). if b then entries ++ entry_of c.args.offered c.args.dests ∷ [] else entries)
    (sym (fits_told c.args.offered c.args.dests entries _ _ _ true (omega (arith, c.len.ensures, c.in_ok-parcels.parcels.ok.0)) c.in_ok-parcels.ensures.parcels c.in_ok-reserve.ensures.told c.if-not-branch.false))

pub returns-clause-ways : goal.returns-clause-ways
returns-clause-ways c =
    let entries = c.args.journal.now.entries in
    let states = ways_of c.args.ways.now in
    c.push_all.ensures.ways
    ∙ (λ i. pushed_from 0 (c.in_ok-parcels.ensures.parcels i) (c.in_ok-reserve.ensures.ways i))
    ∙ all_sent c.args.offered c.args.dests entries c.in_ok-parcels.ensures.rising 0 states ∙ sym (ways_one 0 entries (entry_of c.args.offered c.args.dests) states)
    ∙ ap (λ (b : Bool). if b then ways_beyond 0 entries (entries ++ entry_of c.args.offered c.args.dests ∷ []) states else states)
    (sym (fits_told c.args.offered c.args.dests entries _ _ _ true (omega (arith, c.len.ensures, c.in_ok-parcels.parcels.ok.0)) c.in_ok-parcels.ensures.parcels c.in_ok-reserve.ensures.told c.if-not-branch.false))
