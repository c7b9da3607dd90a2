use Rattle.std.proofs.Common.{◌≡◌, ◌<◌, ◌≤◌, ◌+◌, ◌++◌, ◌∷◌, [], ℕ, List, Contains, nat_cmp, length, subst, sym, ◌∙◌, arith}
use Rattle.std.specs.BTreeSet.{insert_key}
use Rattle.fed_room_contract.specs.State.{StateMap}
use Rattle.fed_room_contract.specs.Steps.{state_at}
use Rattle.fed_room_contract.specs.StepParts.{states_of}
use Rattle.fed_room_contract.proofs.Heads.{all-inserted, all-less, contains-turned, first-followed, followed-on, last-of}
use Rattle.fed_room_contract.proofs.differing.differing.Goals as goal

pub returns-in_default : goal.returns-in_default
returns-in_default c = λ one other a b key missing.
    let there = c.in_ok-left.ensures.each one a in
    let less = there.1 in
    let some = c.in_default.ensures.variant.1 (omega (arith, less)) in
    absurd (cc)

pub loop-alloc-init : goal.loop-alloc-init
loop-alloc-init c =
    let states : List StateMap = states_of c.args.steps.now in
    let rest : List ℕ = c.pop_last.new.self.keys in
    let latest : ℕ = c.in-Some.latest in
    record {
      latest = last-of (λ head. head ≤ length c.args.steps.now) rest latest c.in_ok-left.left.keys c.in_ok-left.ensures.within c.in-Some.ensures.removal;
      before = all-less rest latest c.in-Some.ensures.all_below;
      each = λ place there.
          first-followed states c.new-keys.result (latest ∷ rest) place
          (contains-turned rest latest (place + 1) (subst (λ (xs : List ℕ). Contains xs (place + 1)) c.in-Some.ensures.removal (c.in_ok-left.ensures.each place there)));
    }

pub loop-alloc-smaller : goal.loop-alloc-smaller
loop-alloc-smaller c =
    let left : List ℕ = c.loop-alloc.left.keys in
    let latest : ℕ = c.loop-alloc.latest in
    let made : insert_key nat_cmp left c.in_ok-below.field-0 ≡ c.pop_last-in-loop-alloc.new.self.keys ++ c.in-Some-pop_last.next ∷ [] = sym c.in_ok-insert.ensures.keys ∙ c.in-Some-pop_last.ensures.removal in
    last-of (λ head. head < latest) c.pop_last-in-loop-alloc.new.self.keys c.in-Some-pop_last.next (insert_key nat_cmp left c.in_ok-below.field-0)
    (all-inserted (λ head. head < latest) c.in_ok-below.field-0 left c.loop-alloc.invariant.before c.in_ok-below.ensures.before) made

pub loop-alloc-preserved : goal.loop-alloc-preserved
loop-alloc-preserved c =
    let states : List StateMap = states_of c.args.steps.now in
    let left : List ℕ = c.loop-alloc.left.keys in
    let rest : List ℕ = c.pop_last-in-loop-alloc.new.self.keys in
    let latest : ℕ = c.loop-alloc.latest in
    let next : ℕ = c.in-Some-pop_last.next in
    let below : ℕ = c.in_ok-below.field-0 in
    let made : insert_key nat_cmp left below ≡ rest ++ next ∷ [] = sym c.in_ok-insert.ensures.keys ∙ c.in-Some-pop_last.ensures.removal in
    let less : next < latest = last-of (λ head. head < latest) rest next (insert_key nat_cmp left below) (all-inserted (λ head. head < latest) below left c.loop-alloc.invariant.before c.in_ok-below.ensures.before) made in
    record {
      latest = omega (arith, less, c.loop-alloc.invariant.latest);
      before = all-less rest next c.in-Some-pop_last.ensures.all_below;
      each = λ place there.
          followed-on states c.loop-alloc.keys c.below.new.keys latest below next left rest (state_at states place) c.in_ok-below.ensures.more c.in_ok-below.ensures.alike made (c.loop-alloc.invariant.each place there);
    }
