use Rattle.std.proofs.Common.{◌≡◌, ℕ, ◌&&◌, ◌||◌, List, Bool, length, take, drop, ◌++◌, subst, sym, ap, ◌∙◌, arith}
use Rattle.fed_resolve.specs.Chain.{members, is_in_chains}
use Rattle.fed_resolve.specs.ChainParts.{is_marked}
use Rattle.fed_resolve.specs.Marks.{AreMarks}
use Rattle.fed_resolve.specs.PowerOrder.{is_power_place}
use Rattle.fed_resolve.specs.Resolution.{is_power}
use Rattle.fed_resolve.proofs.Marks.{written}
use Rattle.fed_resolve.proofs.Sets.{power-marks}
use Rattle.fed_resolve.proofs.power.power_set.Goals as goal

pub returns-clause-marks : goal.returns-clause-marks
returns-clause-marks c = λ states are.
    let events = c.args.graph.now.stored in
    let set = c.args.conflicted.now in
    let power = c.in_ok-power.power.items in
    let places = c.in_ok-places.places.items in
    let marks = c.in_ok-marks.marks.items in
    let added = c.add_marks.new.marks in
    let kept = c.keep_marks.new.marks in
    let is_power_in : ℕ → Bool = λ place. is_marked set place && is_power_place events place in
    let powers : AreMarks (length events) is_power_in power = c.in_ok-power.ensures in
    let listed : places ≡ members events is_power_in = c.in_ok-places.ensures.members events is_power_in (subst (λ (ms : List Bool). AreMarks (length events) is_power_in ms) (sym c.deref.ensures.value) powers) in
    let walked : AreMarks (length events) (is_in_chains events places) marks =
    subst (λ (ps : List ℕ). AreMarks (length events) (is_in_chains events ps) marks) c.deref-2.ensures.value c.in_ok-marks.ensures in
    let joined : AreMarks (length power) (λ p. is_marked marks p || is_marked power p) added =
    subst (λ (ms : List Bool). AreMarks (length power) (λ p. is_marked ms p || is_marked power p) added) c.deref_mut.ensures.value
    (subst (λ (ms : List Bool). AreMarks (length ms) (λ p. is_marked c.deref_mut.result.now p || is_marked ms p) added) c.deref-3.ensures.value c.add_marks.ensures) in
    let size : length marks ≡ c.in_ok-marks.marks.len = omega (arith, ap length c.deref_mut.ensures.value, c.deref_mut.ensures.len) in
    let long : length added ≡ c.in_ok-marks.marks.len = omega (arith, joined.long, walked.long, powers.long) in
    let over : take c.in_ok-marks.marks.len (added ++ drop (length added) marks) ≡ added = written c.in_ok-marks.marks.len added marks long in
    let both : AreMarks (length set) (λ p. is_marked added p && is_marked set p) kept =
    subst (λ (ms : List Bool). AreMarks (length set) (λ p. is_marked ms p && is_marked set p) kept) (c.deref_mut-2.ensures.value ∙ over) c.keep_marks.ensures in
    subst (λ (ms : List Bool). AreMarks (length events) (is_power events states) ms)
    (sym (written c.in_ok-marks.marks.len kept (take c.in_ok-marks.marks.len (added ++ drop (length added) marks)) (omega (arith, both.long, are.long, walked.long))))
    (power-marks events states set are power places marks added kept powers listed walked joined both)

pub returns-clause-long : goal.returns-clause-long
returns-clause-long c =
    let power = c.in_ok-power.power.items in
    let marks = c.in_ok-marks.marks.items in
    let added = c.add_marks.new.marks in
    let kept = c.keep_marks.new.marks in
    let size : length marks ≡ c.in_ok-marks.marks.len = omega (arith, ap length c.deref_mut.ensures.value, c.deref_mut.ensures.len) in
    let long : length added ≡ c.in_ok-marks.marks.len = omega (arith, c.add_marks.ensures.long, ap length c.deref-3.ensures.value, c.in_ok-marks.ensures.long, c.in_ok-power.ensures.long) in
    ap length (written c.in_ok-marks.marks.len kept (take c.in_ok-marks.marks.len (added ++ drop (length added) marks)) (omega (arith, c.keep_marks.ensures.long, c.requires, c.in_ok-marks.ensures.long, size)))
    ∙ c.keep_marks.ensures.long ∙ c.requires
