-- What is done on the way to one destination.
use Rattle.std.proofs.Common.{arith, ◌≡◌, ◌≢◌, ◌↔◌, ℕ, ◌<◌, ◌&&◌, Bool, true, false, not, nat_lt, length, set, get_or, Option, Some, None, IsSome, Vec, vec_len, Global, refl, sym, ap, ◌∙◌, if◌then◌else◌}
use Rattle.std.specs.List.{slice_get}
use Rattle.std.specs.Option.{option_map, option_map_or}
use Rattle.std.proofs.lemmas.Bool.{lt-ltb, eq-eqb, ne_eqb}
use Rattle.std.proofs.lemmas.List.{map-set, length-map}
use Rattle.std.proofs.lemmas.Option.{slice_get-map, slice_get-get_or, slice_get_past}
use Rattle.fed_outbox.specs.Collecting.{Way}
use Rattle.fed_sim.specs.declared.outcome.Outcome.{Outcome}
use Rattle.fed_sim.specs.declared.outcome.Outcome.TheVariants.{NoSuchServer}
use Rattle.fed_sim.specs.Way.{WayState, ways_of}
use Rattle.fed_sim.specs.Server.{ServerState}
use Rattle.fed_sim.specs.Ways.{has_way, way_to, with_way, on_way}
use Rattle.fed_sim.proofs.WayQueues.{same_seen}
use Rattle.fed_sim.proofs.Servers.{there_past, there_below, server_at, same_at}

module _ (d : ℕ) (s : ServerState) where
  abbrev done_on : (Way → Outcome × Way) → Option Way → Outcome × ServerState
  done_on step way = option_map_or (λ way. ((step way).0, with_way s d (step way).1)) way (NoSuchServer, s)

  -- there is no way to the server itself
  pub none_to_own : (step : Way → Outcome × Way) → d ≡ s.own → (NoSuchServer, s) ≡ on_way d step s
  none_to_own step same =
      ap (λ (b : Bool). done_on step (if not b && nat_lt d (length s.ways) then slice_get s.ways d else None)) (sym (eq-eqb d s.own same))

  no_way : slice_get s.ways d ≡ None → way_to s d ≡ None
  no_way none = by (has_way s d)
    where
      by : (b : Bool) → (if b then slice_get s.ways d else None) ≡ None
      by true = none
      by false = refl

-- a way was asked for by its place
module _ {R : Type 0} (d : ℕ) (s : ServerState) (ways : Vec WayState Global) (are : s.ways ≡ ways_of ways.items) (k : ℕ) (at : k ≡ d) (found : Option R) (there : IsSome found ↔ (k < vec_len ways)) where
  -- there is none
  pub none_there : (step : Way → Outcome × Way) → found ≡ None → (NoSuchServer, s) ≡ on_way d step s
  none_there step none =
      let all = ap length are ∙ length-map ways.items (λ (l : WayState). l.way) in
      let beyond = there_past ways k found there none in
      ap (done_on d s step) (sym (no_way d s (slice_get_past s.ways d (omega (arith, all, beyond, at)))))

  module _ (way new : WayState) (some : R) (is : found ≡ Some some) (value : way ≡ get_or ways.items k way) where
    -- the way that is there
    pub way_is : d ≢ s.own → way_to s d ≡ Some way.way
    way_is apart =
        let within = there_below ways k found there some is in
        let all = ap length are ∙ length-map ways.items (λ (l : WayState). l.way) in
        ap (λ (b : Bool). if b then slice_get s.ways d else None)
        (ap (λ b. not b && nat_lt d (length s.ways)) (ne_eqb d s.own apart) ∙ lt-ltb d (length s.ways) (omega (arith, within, all, at)))
        ∙ (λ i. slice_get (are i) (sym at i)) ∙ slice_get-map (λ (l : WayState). l.way) ways.items k
        ∙ ap (option_map (λ (l : WayState). l.way)) (slice_get-get_or ways.items k way within ∙ ap Some (sym value))

    -- something is done on it
    pub way_made : (step : Way → Outcome × Way) (told : Outcome) → d ≢ s.own → told ≡ (step way.way).0 → new.way ≡ (step way.way).1
        → (told, server_at s s.rooms s.arrivals s.journal (ways_of (set ways.items k new))) ≡ on_way d step s
    way_made step told apart tells gives =
        let changed : ways_of (set ways.items k new) ≡ set s.ways d (step way.way).1 =
        map-set (λ (l : WayState). l.way) ways.items k new ∙ (λ i. set (sym are i) (at i) (gives i)) in
        (λ i. (tells i, server_at s s.rooms s.arrivals s.journal (changed i)))
        ∙ ap (done_on d s step) (sym (way_is apart))

    -- what others see of it is as it was
    pub way_kept : new.way ≡ way.way → server_at s s.rooms s.arrivals s.journal (ways_of (set ways.items k new)) ≡ s
    way_kept same =
        same_at s s.journal s.journal _ _ refl (same_seen (λ (l : WayState). l.way) ways.items k new way (same ∙ ap (λ (l : WayState). l.way) value) ∙ sym are)
