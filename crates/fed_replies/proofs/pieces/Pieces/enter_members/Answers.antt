use Rattle.std.proofs.Common.{◌≡◌, List, ℕ, Bool, false, [], ◌∷◌, ◌++◌, codes, Option, option_map, sym, ap, subst, ◌∙◌}
use Rattle.fed_replies.specs.PackedReply.{Verdict}
use Rattle.fed_replies.specs.Pieces.{cut, mark_of, AreEntered, IsEntry}
use Rattle.fed_replies.specs.Plain.{IsPlain}
use Rattle.fed_replies.proofs.Entering.{entered-none, entered-then, cut-entered}
use Rattle.fed_replies.proofs.Packing.{equal_bytes}
use Rattle.fed_replies.proofs.PlainReplies.{front-none, front-more, front-all}
use Rattle.fed_replies.proofs.pieces.Pieces.enter_members.Goals as goal

pub members-init : goal.members-init
members-init c = ([], entered-none c.args.self.now, front-none c.args.reply.now c.in-Some.members.now c.in-Some.ensures)

pub returns-in_default-read_member-clause-front : goal.returns-in_default-read_member-clause-front
returns-in_default-read_member-clause-front c = cut-entered c.args.self.now c.members.self c.members.invariant.0 c.members.invariant.1

pub returns-in_err-enter-clause-front : goal.returns-in_err-enter-clause-front
returns-in_err-enter-clause-front c =
    ap (λ d. cut d (mark_of c.args.self.now)) c.in_err-enter.ensures.err ∙ cut-entered c.args.self.now c.members.self c.members.invariant.0 c.members.invariant.1

pub returns-then-not-branch-clause-front : goal.returns-then-not-branch-clause-front
returns-then-not-branch-clause-front c =
    let m = c.in-Some-read_member.member in
    let error : Option (List ℕ) = option_map (λ text. text.now) c.in-Some-read_member.member.error in
    let told : IsEntry c.members.self ((c.in-Some-read_member.member.id.now, option_map (λ text. text.now) c.in-Some-read_member.member.error) ∷ []) false c.enter.new.self =
    subst (λ (b : Bool). IsEntry c.members.self ((c.in-Some-read_member.member.id.now, error) ∷ []) b c.enter.new.self) c.if-not-branch.true c.in_ok-enter.ensures.all in
    ap (λ d. cut d (mark_of c.args.self.now)) told.0 ∙ cut-entered c.args.self.now c.members.self c.members.invariant.0 c.members.invariant.1

pub members-preserved : goal.members-preserved
members-preserved c =
    let before = c.members.invariant.0 in
    let v : Verdict = (c.in-Some-read_member.member.id.now, option_map (λ text. text.now) c.in-Some-read_member.member.error) in
    let told : AreEntered c.members.self (v ∷ []) c.enter.new.self =
    subst (λ (b : Bool). IsEntry c.members.self (v ∷ []) b c.enter.new.self) c.if-not-branch.false c.in_ok-enter.ensures.all in
    let plain : IsPlain c.in-Some-read_member.member.id.now = c.in_ok-enter.ensures.plain c.if-not-branch.false in (
      before ++ v ∷ [],
      entered-then c.args.self.now c.members.self c.enter.new.self before (v ∷ []) c.members.invariant.1 told,
      front-more c.args.reply.now before c.members.later c.members.last.now c.members.rest.now v c.in-Some-read_member.member.rest.now c.members.invariant.2
          c.in-Some-read_member.ensures.after (plain, c.in-Some-read_member.ensures.plain) (c.in-Some-read_member.ensures.text plain),
    )

pub returns-clause-all : goal.returns-clause-all
returns-clause-all c =
    let before = c.members.invariant.0 in
    let is : c.members.rest.now ≡ codes "}}" = equal_bytes c.members.rest.now c.as_slice.result.now (sym c.ne.ensures ∙ c.members-test.false) ∙ c.as_slice.ensures in
    let read = front-all c.args.reply.now before c.members.later c.members.last.now c.members.rest.now c.members.invariant.2 is in
    record {
      verdicts = read.0;
      canonical = read.1.0;
      entered = subst (λ (vs : List Verdict). AreEntered c.args.self.now vs c.members.self) (sym read.1.1) c.members.invariant.1;
    }

pub returns-clause-front : goal.returns-clause-front
returns-clause-front c = cut-entered c.args.self.now c.members.self c.members.invariant.0 c.members.invariant.1
