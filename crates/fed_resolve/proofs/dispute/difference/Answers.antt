use Rattle.std.proofs.Common.{◌≡◌, ◌≤◌, ◌-◌, ◌/◌, ◌^◌, ◌||◌, ◌&&◌, ◌++◌, ℕ, List, Bool, not, eqb, length, get_or, map, subst, sym, ap, ◌∙◌, arith, rules}
use Rattle.std.proofs.lemmas.Grind.{common_steps}
use Rattle.std.proofs.lemmas.List.{take-append-drop}
use Rattle.std.proofs.lemmas.Nat.Bits.{ones_shr}
use Rattle.fed_room_contract.specs.Entry.{seen}
use Rattle.fed_resolve.specs.KeptParts.{is_between, own_and_common}
use Rattle.fed_resolve.specs.ChainParts.{is_marked}
use Rattle.fed_resolve.specs.Marks.{AreMarks}
use Rattle.fed_resolve.proofs.Marks.{written}
use Rattle.fed_resolve.proofs.Between.{is_in_some, is_in_every, some-left, every-left, none-left}
use Rattle.fed_resolve.proofs.dispute.difference.Goals as goal

pub loop-left-preserved : goal.loop-left-preserved
loop-left-preserved c =
    let events = c.args.graph.now.stored in
    let given : ℕ → List ℕ = own_and_common events c.args.steps.now.after (map seen c.args.disputed.now) c.args.common.now in
    let places : List ℕ = c.args.places.now in
    let turn : List ℕ = c.split_at.result.0.now in
    let others : List ℕ = c.split_at.result.1.now in
    let left : List ℕ = c.loop-left.left.now in
    let masks : List ℕ = c.in_ok-masks.masks.items in
    let are = c.in_ok-masks.ensures in
    let some : List Bool = c.loop-left.some.items in
    let every : List Bool = c.loop-left.every.items in
    let more : List Bool = c.mark_some.new.marks in
    let fewer : List Bool = c.keep_every.new.marks in
    let cut : left ≡ turn ++ others = sym ((λ i. c.split_at.ensures.front i ++ c.split_at.ensures.back i) ∙ take-append-drop c.min.result left) in
    let size : length turn ≤ 64 = omega (arith, c.split_at.ensures.front_len, c.min.ensures) in
    let word : ℕ = 18446744073709551615 / 2 ^ (64 - length turn) in
    let rest : 64 - (64 - length turn) ≡ length turn = omega arith in
    let ones : word ≡ 2 ^ length turn - 1 = ones_shr 64 (64 - length turn) (omega arith) ∙ ap (λ n. 2 ^ n - 1) rest in
    let marked : AreMarks (length masks) (λ q. is_marked some q || not (eqb (get_or masks q 0) 0)) more =
    subst (λ (ms : List ℕ). AreMarks (length ms) (λ q. is_marked some q || not (eqb (get_or ms q 0) 0)) more) c.deref.ensures.value
    (subst (λ (bs : List Bool). AreMarks (length c.deref.result.now) (λ q. is_marked bs q || not (eqb (get_or c.deref.result.now q 0) 0)) more) c.deref_mut.ensures.value c.mark_some.ensures) in
    let kept : AreMarks (length masks) (λ q. is_marked every q && eqb (get_or masks q 0) word) fewer =
    subst (λ (ms : List ℕ). AreMarks (length ms) (λ q. is_marked every q && eqb (get_or ms q 0) word) fewer) c.deref-in-loop-left.ensures.value
    (subst (λ (bs : List Bool). AreMarks (length c.deref-in-loop-left.result.now) (λ q. is_marked bs q && eqb (get_or c.deref-in-loop-left.result.now q 0) word) fewer) c.deref_mut-in-loop-left.ensures.value c.keep_every.ensures) in
    let long_more : length more ≡ c.loop-left.some.len =
    omega (arith, marked.long, are.long, c.loop-left.invariant.long_some, ap length c.deref_mut.ensures.value, c.deref_mut.ensures.len) in
    let long_fewer : length fewer ≡ c.loop-left.every.len =
    omega (arith, kept.long, are.long, c.loop-left.invariant.long_every, ap length c.deref_mut-in-loop-left.ensures.value, c.deref_mut-in-loop-left.ensures.len) in
    record {
      long_some = ap length (written c.loop-left.some.len more some long_more) ∙ marked.long ∙ are.long;
      long_every = ap length (written c.loop-left.every.len fewer every long_fewer) ∙ kept.long ∙ are.long;
      some = λ q below.
          ap (λ (bs : List Bool). is_marked bs q || is_in_some events given others q) (written c.loop-left.some.len more some long_more)
          ∙ some-left events given turn masks are places left others cut some more c.loop-left.invariant.some marked q below;
      every = λ q below.
          ap (λ (bs : List Bool). is_marked bs q && is_in_every events given others q) (written c.loop-left.every.len fewer every long_fewer)
          ∙ every-left events given turn masks are places left others cut every fewer word ones c.loop-left.invariant.every kept q below;
    }

pub returns : goal.returns
returns c =
    let events = c.args.graph.now.stored in
    let given : ℕ → List ℕ = own_and_common events c.args.steps.now.after (map seen c.args.disputed.now) c.args.common.now in
    let places : List ℕ = c.args.places.now in
    let left : List ℕ = c.loop-left.left.now in
    let some : List Bool = c.loop-left.some.items in
    let every : List Bool = c.loop-left.every.items in
    let marks : List Bool = c.remove_marks.new.marks in
    let none : length left ≡ 0 = first_of (omega arith, search rules, grind (arith, common_steps)) in
    let taken : AreMarks (length every) (λ q. is_marked some q && not (is_marked every q)) marks =
    subst (λ (bs : List Bool). AreMarks (length bs) (λ q. is_marked some q && not (is_marked bs q)) marks) c.deref-2.ensures.value
    (subst (λ (bs : List Bool). AreMarks (length c.deref-2.result.now) (λ q. is_marked bs q && not (is_marked c.deref-2.result.now q)) marks) c.deref_mut-2.ensures.value c.remove_marks.ensures) in
    let long : length marks ≡ c.loop-left.some.len =
    omega (arith, taken.long, c.loop-left.invariant.long_every, c.loop-left.invariant.long_some, ap length c.deref_mut-2.ensures.value, c.deref_mut-2.ensures.len) in
    subst (λ (bs : List Bool). AreMarks (length events) (is_between events given places) bs) (sym (written c.loop-left.some.len marks some long))
    (none-left events given places left some every marks none c.loop-left.invariant.long_every c.loop-left.invariant.some c.loop-left.invariant.every taken)
