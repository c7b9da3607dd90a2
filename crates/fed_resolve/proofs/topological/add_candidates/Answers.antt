use Rattle.std.proofs.Common.{◌++◌, ◌∷◌, [], ℕ, List, map, take, get_or, append_assoc, refl, sym, ap, ◌∙◌}
use Rattle.std.proofs.lemmas.List.{map-append, take_more}
use Rattle.std.proofs.lemmas.List.Elements.{All-push, All-same}
use Rattle.fed_resolve.specs.OrderParts.{candidate_place}
use Rattle.fed_resolve.specs.RankParts.{IsPowerCandidate}
use Rattle.fed_resolve.proofs.Turns.{set-chain}
use Rattle.fed_resolve.proofs.topological.add_candidates.Goals as goal

pub loop-index-preserved : goal.loop-index-preserved
loop-index-preserved c =
    let events = c.args.graph.now.stored in
    let set = c.args.set.now in
    let places = c.args.places.now in
    let index : ℕ = c.loop-index.index in
    let place : ℕ = get_or places index 0 in
    let before = c.loop-index.candidates.items in
    let first : List ℕ = map candidate_place c.args.candidates.now.items in
    record {
      places =
          ap (map candidate_place) c.in_ok-push.ensures.items ∙ map-append candidate_place before (_ ∷ []) ∙ ap (λ ps. ps ++ place ∷ []) c.loop-index.invariant.places
          ∙ append_assoc first (take index places) (place ∷ []) ∙ ap (λ ps. first ++ ps) (sym (take_more places index 0 c.loop-index-test.true));
      each =
          All-same (IsPowerCandidate events set) c.push.new.self.items _ c.in_ok-push.ensures.items
          (All-push (IsPowerCandidate events set) before _ c.loop-index.invariant.each
          (record { rank = c.rank-rank.ensures; after = c.in_ok-after.ensures ∙ set-chain events places set c.args.masks.now c.requires.masks index place c.loop-index-test.true refl }));
    }
