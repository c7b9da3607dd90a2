use Rattle.std.proofs.Common.{◌≡◌, ◌<◌, ℕ, true, false, true≢false, inl, inr, Some, List, [], ◌∷◌, eqb, length, get_or, option_map, unwrap_or, slice_get, refl, sym, ap, ◌∙◌, arith}
use Rattle.std.proofs.lemmas.Bool.{eq-eqb}
use Rattle.std.proofs.lemmas.Option.{slice_get_within, slice_get-get_or, get_or_from_slice_get}
use Rattle.fed_resolve.specs.declared.order.Candidate.{Candidate}
use Rattle.fed_resolve.specs.ReadyParts.{none_left, is_left_at}
use Rattle.fed_resolve.specs.ChainParts.{is_marked}
use Rattle.fed_resolve.proofs.ReadySets.{popped-key, popped, first-ready, none-ready}
use Rattle.fed_resolve.proofs.ready.ReadySet.pop.Goals as goal

empty : {X : Type 0} (xs : List X) → (0 < length xs → ⊥) → xs ≡ []
empty [] none = refl
empty (x ∷ xs) none = absurd (none (omega arith))

at-place : {R : Type 0} (all : List (Candidate R)) (index : ℕ) (one d : Candidate R) → slice_get all index ≡ Some one → is_left_at all (get_or all index d).place index ≡ true
at-place all index one d here =
    ap (λ o. unwrap_or (option_map (λ x. eqb x.place (get_or all index d).place) o) false) here
    ∙ eq-eqb one.place (get_or all index d).place (ap (λ x. x.place) (sym (get_or_from_slice_get all index one d here)))

pub offset_bounds-candidates-first : goal.offset_bounds-candidates-first
offset_bounds-candidates-first g c =
    let its = popped-key c.args.is_listed.now c.args.candidates.now c.loop-first.self c.in-Some.first c.pop_first.new.self.keys c.loop-first.invariant.kept.first c.in-Some.ensures.removal in
    let less = slice_get_within c.args.candidates.now c.in-Some.first.index its.one its.here in
    omega (arith, less)

pub bounds-candidates-first : goal.bounds-candidates-first
bounds-candidates-first g c =
    let its = popped-key c.args.is_listed.now c.args.candidates.now c.loop-first.self c.in-Some.first c.pop_first.new.self.keys c.loop-first.invariant.kept.first c.in-Some.ensures.removal in
    slice_get_within c.args.candidates.now c.in-Some.first.index its.one its.here

pub bounds-candidates-first-in-Some : goal.bounds-candidates-first-in-Some
bounds-candidates-first-in-Some g c =
    let its = popped-key c.args.is_listed.now c.args.candidates.now c.loop-first.self c.in-Some.first c.pop_first.new.self.keys c.loop-first.invariant.kept.first c.in-Some.ensures.removal in
    slice_get_within c.args.candidates.now c.in-Some.first.index its.one its.here

pub bounds-is_listed-place : goal.bounds-is_listed-place
bounds-is_listed-place g c =
    let its = popped-key c.args.is_listed.now c.args.candidates.now c.loop-first.self c.in-Some.first c.pop_first.new.self.keys c.loop-first.invariant.kept.first c.in-Some.ensures.removal in
    (c.requires.within c.in-Some.first.index c.index-candidates-first.result (slice_get_within c.args.candidates.now c.in-Some.first.index its.one its.here)).place

pub returns-then-not-is_listed-place-clause-first : goal.returns-then-not-is_listed-place-clause-first
returns-then-not-is_listed-place-clause-first g c =
    let marks = c.args.is_listed.now in
    let all = c.args.candidates.now in
    let key = c.in-Some.first in
    let its = popped-key marks all c.loop-first.self key c.pop_first.new.self.keys c.loop-first.invariant.kept.first c.in-Some.ensures.removal in
    let one = get_or all key.index c.index-candidates-first.result in
    let here = slice_get-get_or all key.index c.index-candidates-first.result (slice_get_within all key.index its.one its.here) in
    let unmarked : is_marked marks one.place ≡ false = c.if-not-is_listed-place.true in
    sym (first-ready marks all g.R.Ord.cmp g.met.R.Ord.total _ (λ one other. refl) c.loop-first.self key c.pop_first.new.self.keys one c.loop-first.invariant c.in-Some.ensures.removal c.in-Some.ensures.all_above here unmarked)

pub returns-then-not-is_listed-place-clause-ready : goal.returns-then-not-is_listed-place-clause-ready
returns-then-not-is_listed-place-clause-ready g c =
    let marks = c.args.is_listed.now in
    let all = c.args.candidates.now in
    let key = c.in-Some.first in
    popped marks all (is_left_at all _) c.loop-first.self _ key c.loop-first.invariant c.in-Some.ensures.removal refl refl (λ one here. inl (at-place all key.index one c.index-candidates-first.result here))

pub loop-first-smaller : goal.loop-first-smaller
loop-first-smaller g c =
    let fewer = ap length c.in-Some.ensures.removal in
    omega (arith, fewer)

pub loop-first-preserved : goal.loop-first-preserved
loop-first-preserved g c =
    let marks = c.args.is_listed.now in
    let all = c.args.candidates.now in
    let key = c.in-Some.first in
    popped marks all none_left c.loop-first.self _ key c.loop-first.invariant c.in-Some.ensures.removal refl refl (λ one here. inr (ap (λ (x : Candidate g.row.R.Denot). is_marked marks x.place) (sym (get_or_from_slice_get all key.index one c.index-candidates-first.result here)) ∙ c.if-not-is_listed-place.false))

pub returns-clause-first : goal.returns-clause-first
returns-clause-first g c =
    sym (none-ready c.args.is_listed.now c.args.candidates.now g.R.Ord.cmp g.met.R.Ord.total c.loop-first.self c.loop-first.invariant (empty c.loop-first.self.first.keys (λ less. true≢false (sym (c.in_default.ensures.variant.1 less)))))
