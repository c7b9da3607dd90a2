use Rattle.std.proofs.Common.{Vec, Global, ◌≡◌, ◌<◌, ℕ, suc, List, [], ◌∷◌, All, length, refl, sym, ap, subst, ◌∙◌, arith}
use Rattle.std.specs.Vec.{with_item}
use Rattle.fed_resolve.specs.Order.{is_among}
use Rattle.fed_resolve.specs.ReadyParts.{AreHeld, IsReadySet, waiting_in}
use Rattle.fed_resolve.proofs.ReadySets.{list-at, woken}
use Rattle.fed_resolve.proofs.ready.ReadySet.wake.Goals as goal

pub loop-index-init : goal.loop-index-init
loop-index-init g c =
    let ready = c.args.self.now in
    let long = c.requires.ready.kept.long in
    let place = c.requires.place in
    let within : c.args.place < length ready.waiting.items = omega (arith, long, place) in
    let same : waiting_in ready.waiting c.args.place ≡ c.into_iter-index-iterator.result.rest.items =
    list-at ready.waiting c.args.place c.index_mut.result.now within c.index_mut.ensures.value ∙ ap (λ (v : Vec ℕ Global). v.items) (sym c.replace-woken.ensures.value) ∙ sym c.into_iter-index-iterator.ensures.into_iter_gives.0 in
    let none : c.replace-woken.new.dest.items ≡ [] = ap (λ (v : Vec ℕ Global). v.items) c.replace-woken.ensures.after ∙ c.new.ensures.items in
    record {
      within = subst (All (λ index. index < length c.args.candidates.now)) same (c.requires.ready.kept.waiting c.args.place);
      ready =
          subst (λ (is : List ℕ). IsReadySet (is_among is) c.args.is_listed.now c.args.candidates.now (record { first = ready.first; waiting = with_item ready.waiting c.args.place c.replace-woken.new.dest; fronts = ready.fronts })) same
          (woken c.args.is_listed.now c.args.candidates.now ready (record { first = ready.first; waiting = with_item ready.waiting c.args.place c.replace-woken.new.dest; fronts = ready.fronts }) c.args.place c.replace-woken.new.dest within none refl refl refl c.requires.listed c.requires.ready);
    }

pub add-requires-clause-index : goal.add-requires-clause-index
add-requires-clause-index g c =
    (subst (All (λ index. index < length c.args.candidates.now)) c.in-Some.ensures.steps.0 c.loop-index.invariant.within) 0 0 (omega arith)

pub loop-index-preserved : goal.loop-index-preserved
loop-index-preserved g c =
    let rest = c.next.new.self.rest.items in
    record {
      within = λ k d less. (subst (All (λ index. index < length c.args.candidates.now)) c.in-Some.ensures.steps.0 c.loop-index.invariant.within) (suc k) d (omega (arith, less));
      ready = record {
        kept = c.in_ok-add.ensures.kept;
        held = c.in_ok-add.ensures.held (is_among rest) (subst (λ (is : List ℕ). AreHeld (is_among is) c.args.is_listed.now c.args.candidates.now c.loop-index.self) c.in-Some.ensures.steps.0 c.loop-index.invariant.ready.held);
      };
    }

nothing : (is : List ℕ) (n : ℕ) → n ≡ length is → n ≡ 0 → is ≡ []
nothing [] n long e = refl
nothing (i ∷ is) n long e = absurd (omega (arith, long, e))

pub returns : goal.returns
returns g c =
    let rest = c.loop-index.index-iterator.rest in
    subst (λ (is : List ℕ). IsReadySet (is_among is) c.args.is_listed.now c.args.candidates.now c.loop-index.self) (nothing rest.items rest.len rest.ok.0 c.in-None.ensures.steps.0) c.loop-index.invariant.ready
