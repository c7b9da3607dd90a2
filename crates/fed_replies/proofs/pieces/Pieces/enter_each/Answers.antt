use Rattle.std.proofs.Common.{◌≡◌, List, ℕ, Bool, false, true, [], ◌∷◌, ◌++◌, map, Option, option_map, string_bytes, refl, sym, ap, subst, ◌∙◌}
use Rattle.std.specs.FinMap as finite
use Rattle.std.proofs.lemmas.List.{append_assoc}
use Rattle.fed_txn.specs.VerdictEntries.{entry_bytes}
use Rattle.fed_replies.specs.PackedReply.{Verdict, AreFit}
use Rattle.fed_replies.specs.Pieces.{cut, mark_of, IsEntry}
use Rattle.fed_replies.proofs.Entering.{entered-none, entered-then, cut-entered, not_fit-among}
use Rattle.fed_replies.proofs.pieces.Pieces.enter_each.Goals as goal

pub loop-id-init : goal.loop-id-init
loop-id-init c = ([], rw (c.into_iter-id-iterator.ensures.into_iter_gives, c.iter-id-items.ensures.entries) refl, entered-none c.args.self.now)

pub returns-in_err-enter-clause-front : goal.returns-in_err-enter-clause-front
returns-in_err-enter-clause-front c =
    ap (λ d. cut d (mark_of c.args.self.now)) c.in_err-enter.ensures.err ∙ cut-entered c.args.self.now c.loop-id.self c.loop-id.invariant.0 c.loop-id.invariant.2

pub returns-then-not-branch-clause-all : goal.returns-then-not-branch-clause-all
returns-then-not-branch-clause-all c =
    let before = c.loop-id.invariant.0 in
    let error : Option (List ℕ) = option_map string_bytes c.in-Some.error.now in
    let v : Verdict = (string_bytes c.in-Some.id.now, option_map string_bytes c.in-Some.error.now) in
    let rest : List Verdict = map entry_bytes c.next.new.self in
    let all : before ++ v ∷ rest ≡ finite.entries c.args.verdicts.now = ap (λ es. before ++ map entry_bytes es) (sym c.in-Some.ensures.steps) ∙ c.loop-id.invariant.1 in
    let told : IsEntry c.loop-id.self (v ∷ []) false c.enter.new.self =
    subst (λ (b : Bool). IsEntry c.loop-id.self (v ∷ []) b c.enter.new.self) c.if-not-branch.true
    (subst (λ (i : List ℕ). IsEntry c.loop-id.self ((i, error) ∷ []) c.in_ok-enter.field-0 c.enter.new.self) c.as_bytes.ensures.value
    (subst (λ (e : Option (List ℕ)). IsEntry c.loop-id.self ((c.as_bytes.result.now, e) ∷ []) c.in_ok-enter.field-0 c.enter.new.self) c.error_text.ensures c.in_ok-enter.ensures.all)) in
    (refl, subst (λ (vs : List Verdict). AreFit c.args.self.now.texts vs → ⊥) all (not_fit-among c.args.self.now c.loop-id.self before v rest c.loop-id.invariant.2 told.1))

pub returns-then-not-branch-clause-front : goal.returns-then-not-branch-clause-front
returns-then-not-branch-clause-front c =
    let error : Option (List ℕ) = option_map (λ text. text.now) c.error_text.result in
    let told : IsEntry c.loop-id.self ((c.as_bytes.result.now, option_map (λ text. text.now) c.error_text.result) ∷ []) false c.enter.new.self =
    subst (λ (b : Bool). IsEntry c.loop-id.self ((c.as_bytes.result.now, error) ∷ []) b c.enter.new.self) c.if-not-branch.true c.in_ok-enter.ensures.all in
    ap (λ d. cut d (mark_of c.args.self.now)) told.0 ∙ cut-entered c.args.self.now c.loop-id.self c.loop-id.invariant.0 c.loop-id.invariant.2

pub loop-id-preserved : goal.loop-id-preserved
loop-id-preserved c =
    let before = c.loop-id.invariant.0 in
    let error : Option (List ℕ) = option_map string_bytes c.in-Some.error.now in
    let v : Verdict = (string_bytes c.in-Some.id.now, option_map string_bytes c.in-Some.error.now) in
    let rest : List Verdict = map entry_bytes c.next.new.self in
    let all : before ++ v ∷ rest ≡ finite.entries c.args.verdicts.now = ap (λ es. before ++ map entry_bytes es) (sym c.in-Some.ensures.steps) ∙ c.loop-id.invariant.1 in
    let told : IsEntry c.loop-id.self (v ∷ []) true c.enter.new.self =
    subst (λ (b : Bool). IsEntry c.loop-id.self (v ∷ []) b c.enter.new.self) c.if-not-branch.false
    (subst (λ (i : List ℕ). IsEntry c.loop-id.self ((i, error) ∷ []) c.in_ok-enter.field-0 c.enter.new.self) c.as_bytes.ensures.value
    (subst (λ (e : Option (List ℕ)). IsEntry c.loop-id.self ((c.as_bytes.result.now, e) ∷ []) c.in_ok-enter.field-0 c.enter.new.self) c.error_text.ensures c.in_ok-enter.ensures.all)) in
    (before ++ v ∷ [], append_assoc before (v ∷ []) rest ∙ all, entered-then c.args.self.now c.loop-id.self c.enter.new.self before (v ∷ []) c.loop-id.invariant.2 told)

pub returns-clause-front : goal.returns-clause-front
returns-clause-front c = cut-entered c.args.self.now c.loop-id.self c.loop-id.invariant.0 c.loop-id.invariant.2
