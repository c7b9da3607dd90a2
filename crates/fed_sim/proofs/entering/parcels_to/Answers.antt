use Rattle.std.proofs.Common.{◌≡◌, ◌++◌, ◌∷◌, [], Vec, Global, Option, take, get_or, sym, ap, ◌∙◌, append-nil}
use Rattle.std.specs.List.{filter_map, cons_option}
use Rattle.std.specs.Option.{option_map}
use Rattle.fed_journal.specs.Place.{PlaceValue}
use Rattle.fed_journal.specs.declared.parcel.Load.{Load}
use Rattle.fed_journal.specs.declared.parcel.Parcel.{Parcel}
use Rattle.fed_journal.specs.Offered.{load_of}
use Rattle.fed_journal.specs.Queues.{parcel_to}
use Rattle.fed_sim.proofs.WayQueues.{picked_more}
use Rattle.fed_sim.proofs.entering.parcels_to.Goals.{in-Some+in_ok-load+in_ok-push, in_default}
use Rattle.fed_sim.proofs.entering.parcels_to.Goals as goal

pub loop-dest-preserved : goal.loop-dest-preserved
loop-dest-preserved c =
    let xs = c.as_slice-dest-items.result.now in
    let i = c.loop-dest.dest-index in
    let load = load_of c.args.offered.now in
    let f = parcel_to c.args.journal.now.entries load in
    let before = filter_map f (take i xs) in
    let more = picked_more f xs i c.dest-item.result c.loop-dest-test.true in
    let this : f (get_or xs i c.dest-item.result) ≡ option_map (λ place. record { place = place; load = load }) c.place.result =
    ap f (sym c.dest-item.is) ∙ ap (option_map (λ place. record { place = place; load = load })) (sym c.place.ensures) in
    elim c.match-place.branch [
      | in-Some+in_ok-load+in_ok-push w ↦
          ap (λ (v : Vec Parcel Global). v.items) w.parcels-is ∙ w.in_ok-push.ensures.items ∙ ap (λ ps. ps ++ record { place = w.in-Some.place; load = w.in_ok-load.load } ∷ []) c.loop-dest.invariant
          ∙ ap (λ (l : Load). before ++ record { place = w.in-Some.place; load = l } ∷ []) w.in_ok-load.ensures
          ∙ ap (λ (o : Option PlaceValue). before ++ cons_option (option_map (λ place. record { place = place; load = load }) o) []) (sym w.in-Some.is)
          ∙ ap (λ (o : Option Parcel). before ++ cons_option o []) (sym this) ∙ sym more
      | in_default w ↦
          ap (λ (v : Vec Parcel Global). v.items) w.parcels-is ∙ c.loop-dest.invariant ∙ sym (append-nil before)
          ∙ ap (λ (o : Option PlaceValue). before ++ cons_option (option_map (λ place. record { place = place; load = load }) o) []) (sym w.in_default.is)
          ∙ ap (λ (o : Option Parcel). before ++ cons_option o []) (sym this) ∙ sym more
    ]
