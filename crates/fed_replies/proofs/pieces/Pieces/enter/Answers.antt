use Rattle.std.proofs.Common.{◌≡◌, [], ◌∷◌, Bool, true, Option, List, ℕ, Some, Result, Ok, Err, IfOk, option_map, ap}
use Rattle.std.proofs.lemmas.Result.{IfOk-weaker}
use Rattle.fed_replies.specs.Pieces.{IsEntry, IsFailedEntry}
use Rattle.fed_replies.specs.Plain.{IsPlain}
use Rattle.fed_replies.proofs.Entering.{no_entry, accepted_entry, failed_entry}
use Rattle.fed_replies.proofs.pieces.Pieces.enter.Goals as goal

where_true : {E : Type 0} (r : Result Bool E) (P : Type 0) → P → IfOk r (λ all. all ≡ true → P)
where_true (Ok b) P p = λ e. p
where_true (Err e) P p = tt

pub returns-in_default-clause-all : goal.returns-in_default-clause-all
returns-in_default-clause-all c = no_entry c.args.self.now c.args.id.now (option_map (λ text. text.now) c.args.error) c.in_default.ensures.hash

pub returns-in-Some-error-clause-all : goal.returns-in-Some-error-clause-all
returns-in-Some-error-clause-all c =
    let error : Option (List ℕ) = option_map (λ text. text.now) c.args.error in
    let is : option_map (λ text. text.now) c.args.error ≡ Some c.in-Some-error.text.now = ap (option_map (λ text. text.now)) c.in-Some-error.is in
    IfOk-weaker c.fail.result (λ all. IsFailedEntry c.args.self.now c.in-Some.hash c.in-Some-error.text.now all c.fail.new.self) (λ all. IsEntry c.args.self.now ((c.args.id.now, error) ∷ []) all c.fail.new.self)
    (λ all h. failed_entry c.args.self.now c.fail.new.self c.in-Some.hash c.args.id.now c.in-Some-error.text.now error all c.in-Some.ensures.hash is h) c.fail.ensures.all

pub returns-in_ok-accept-in-None-clause-all : goal.returns-in_ok-accept-in-None-clause-all
returns-in_ok-accept-in-None-clause-all c =
    accepted_entry c.args.self.now c.accept.new.self c.in-Some.hash c.args.id.now (option_map (λ text. text.now) c.args.error) c.in-Some.ensures.hash
    (ap (option_map (λ text. text.now)) c.in-None.is) c.in_ok-accept-in-None.ensures.ok

pub returns-in-Some-error-clause-plain : goal.returns-in-Some-error-clause-plain
returns-in-Some-error-clause-plain c = where_true c.fail.result (IsPlain c.args.id.now) c.in-Some.ensures.plain
