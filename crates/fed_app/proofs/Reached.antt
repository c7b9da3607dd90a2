-- How far a run has come, and what follows at each way out of its loop.
use Rattle.std.proofs.Common.{◌≡◌, ℕ, ◌+◌, List, [], ◌∷◌, ◌++◌, map, Option, None, Some, IfSome, Result, Ok, Err, Bool, is_none, refl, sym, ap, subst, ◌∙◌, append_assoc, append-nil}
use Rattle.std.specs.Prelude.{IsErrAnd}
use Rattle.std.specs.List.{position_from}
use Rattle.std.specs.Io.KnownBytes.{Appends}
use Rattle.fed_event.specs.Checked.{CheckedEvent}
use Rattle.fed_event.specs.Trusting.{trusting_checks}
use Rattle.fed_inbox.specs.Inbox.{InboxState}
use Rattle.fed_inbox.specs.Reply.{Answer}
use Rattle.fed_inbox.specs.Answer.{SendRequest, IsAnswered}
use Rattle.fed_app.specs.Words.{words_of}
use Rattle.fed_app.specs.Lines.{words_in, wrong_line}
use Rattle.fed_app.specs.Output.{line_of, output_of}
use Rattle.fed_app.specs.Ends.{IsWritten, IsCut, IsEnd}
use Rattle.fed_app.specs.Steps.{TakesFirst}
use Rattle.fed_app.specs.Fault.{IsFaultOf}
use Rattle.fed_app.specs.declared.fault.RunFault.{RunFault}
use Rattle.fed_app.specs.declared.fault.RunFault.TheVariants.{Memory, WrongWords, Io}
use Rattle.std.specs.declared.io.ErrorKind.{ErrorKind}
use Rattle.fed_http.proofs.Writes.{appends_none, appends_both}
use Rattle.fed_http.specs.Sending.{AppendsFront}

-- the output so far, followed by that of what is left, is the whole output; and line `number` is the next one
pub record Reached (start : InboxState) (words : List (Option SendRequest)) (before now : Option (List ℕ)) (inbox : InboxState) (left : Option (List ℕ)) (number : ℕ) : Type 0 where
  pub rest : List ℕ
  pub left_is : left ≡ Some rest
  pub written : List ℕ
  pub appended : Appends before now written
  pub marks : List Bool
  pub output_is : (more : List Bool) → output_of start words (marks ++ more) ≡ written ++ output_of inbox (words_in rest) more
  pub wrong_is : position_from is_none number (words_in rest) ≡ wrong_line words

pub if_known : (known : Option (List ℕ)) {P Q : List ℕ → Type 0} → ((bytes : List ℕ) → P bytes → Q bytes) → IfSome known P → IfSome known Q
if_known None step h = tt
if_known (Some bytes) step h = step bytes h

-- what holds of the known bytes holds of these
at_known : (P : List ℕ → Type 0) (known : Option (List ℕ)) (bytes : List ℕ) → known ≡ Some bytes → IfSome known P → P bytes
at_known P known bytes e h = subst (λ (k : Option (List ℕ)). IfSome k P) e h

pub reached_first : (start : InboxState) (before known : Option (List ℕ)) → IfSome known (λ bytes. Reached start (words_in bytes) before before start known 1)
reached_first start before None = tt
reached_first start before (Some bytes) = record { rest = bytes; left_is = refl; written = []; appended = appends_none before; marks = []; output_is = λ more. refl; wrong_is = refl }

module _ (start : InboxState) (words : List (Option SendRequest)) (before now : Option (List ℕ)) (inbox : InboxState) (left : Option (List ℕ)) (number : ℕ) (reached : Reached start words before now inbox left number) where
  pub cut_here : IsCut start words before now
  cut_here = (reached.marks ++ [], (reached.written, output_of inbox (words_in reached.rest) [], reached.output_is [], reached.appended))

  written_here : output_of inbox (words_in reached.rest) [] ≡ [] → IsWritten start words before now
  written_here none =
      let whole = reached.output_is [] ∙ ap (λ l. reached.written ++ l) none ∙ append-nil reached.written in
      (reached.marks ++ [], subst (Appends before now) (sym whole) reached.appended)

  pub ended : words_in reached.rest ≡ [] → IsEnd start words before now (Ok tt)
  ended none = (
    sym reached.wrong_is ∙ ap (position_from is_none number) none,
    written_here (ap (λ ws. output_of inbox ws []) none),
  )

  pub wrong : (later : List (Option SendRequest)) → words_in reached.rest ≡ None ∷ later → (wrong_line words ≡ Some number) × IsWritten start words before now
  wrong later first = (
    sym reached.wrong_is ∙ ap (position_from is_none number) first,
    written_here (ap (λ ws. output_of inbox ws []) first),
  )

  -- what an answer adds to the output
  answer_adds : (request : SendRequest) (later : List (Option SendRequest)) (answer : Answer) (new : InboxState) → words_in reached.rest ≡ Some request ∷ later
      → {fresh : List CheckedEvent} → (step : IsAnswered trusting_checks inbox request answer new fresh) → (more : List Bool)
      → output_of start words ((reached.marks ++ step.found ∷ []) ++ more) ≡ (reached.written ++ line_of answer) ++ output_of new later more
  answer_adds request later answer new first step more =
      let asked = ap (output_of start words) (append_assoc reached.marks (step.found ∷ []) more) in
      let known = reached.output_is (step.found ∷ more) ∙ ap (λ ws. reached.written ++ output_of inbox ws (step.found ∷ more)) first in
      let told : output_of inbox (Some request ∷ later) (step.found ∷ more) ≡ line_of answer ++ output_of new later more = rw (step.answer_is, step.new_is) refl in
      asked ∙ known ∙ ap (λ l. reached.written ++ l) told ∙ sym (append_assoc reached.written (line_of answer) (output_of new later more))

  -- a front of the answer's line was written
  cut_inside : (request : SendRequest) (later : List (Option SendRequest)) (answer : Answer) (new : InboxState) (after : Option (List ℕ)) → words_in reached.rest ≡ Some request ∷ later
      → {fresh : List CheckedEvent} → IsAnswered trusting_checks inbox request answer new fresh → AppendsFront now after (line_of answer) → IsCut start words before after
  cut_inside request later answer new after first step part =
      let (front, rest, split, appended) = part in
      let w = reached.written in
      let o = output_of new later [] in
      let whole = answer_adds request later answer new first step []
      ∙ ap (λ l. (w ++ l) ++ o) split ∙ ap (λ l. l ++ o) (sym (append_assoc w front rest)) ∙ append_assoc (w ++ front) rest o in
      ((reached.marks ++ step.found ∷ []) ++ [], (w ++ front, rest ++ o, whole, appends_both before now after w front reached.appended appended))

  -- the whole line was
  one_further : (request : SendRequest) (more : List ℕ) (answer : Answer) (new : InboxState) (after : Option (List ℕ)) → words_in reached.rest ≡ Some request ∷ words_in more
      → {fresh : List CheckedEvent} → IsAnswered trusting_checks inbox request answer new fresh → Appends now after (line_of answer) → Reached start words before after new (Some more) (number + 1)
  one_further request more answer new after first step appended = record {
    rest = more;
    left_is = refl;
    written = reached.written ++ line_of answer;
    appended = appends_both before now after reached.written (line_of answer) reached.appended appended;
    marks = reached.marks ++ step.found ∷ [];
    output_is = answer_adds request (words_in more) answer new first step;
    wrong_is = sym (ap (position_from is_none number) first) ∙ reached.wrong_is;
  }

  -- the words of the line that was taken stand first among what is left
  words_next : (line : List ℕ) (then : Option (List ℕ)) (w : Option SendRequest) → IfSome left (λ bytes. TakesFirst bytes then line) → w ≡ words_of line
      → (more : List ℕ) × (then ≡ Some more) × (words_in reached.rest ≡ w ∷ words_in more)
  words_next line then w took is =
      let (more, left_is, lines_are) = at_known (λ bytes. TakesFirst bytes then line) left reached.rest reached.left_is took in
      (more, left_is, ap (map words_of) lines_are ∙ ap (λ v. v ∷ words_in more) (sym is))

by_fault : (start : InboxState) (words : List (Option SendRequest)) (old new : Option (List ℕ)) (kind : ErrorKind) (fault : RunFault) → IsFaultOf kind fault
    → IsCut start words old new → IsEnd start words old new (Err fault)
by_fault start words old new kind Memory of cut = cut
by_fault start words old new kind (WrongWords line) of cut = absurd of
by_fault start words old new kind Io of cut = cut

by_result : (start : InboxState) (words : List (Option SendRequest)) (old new : Option (List ℕ)) (kind : ErrorKind) (result : Result (Unit {0}) RunFault) → IsErrAnd result (IsFaultOf kind)
    → IsCut start words old new → IsEnd start words old new result
by_result start words old new kind (Ok done) of cut = absurd of
by_result start words old new kind (Err fault) of cut = by_fault start words old new kind fault of cut

-- how far a run has come with an input, where that is known
abbrev pub Runs : Option (List ℕ) → InboxState → Option (List ℕ) → Option (List ℕ) → InboxState → Option (List ℕ) → ℕ → Type 0
Runs known start before now inbox left number = IfSome known (λ bytes. Reached start (words_in bytes) before now inbox left number)

abbrev pub Ends : Option (List ℕ) → InboxState → Option (List ℕ) → Option (List ℕ) → Result (Unit {0}) RunFault → Type 0
Ends known start before now result = IfSome known (λ bytes. IsEnd start (words_in bytes) before now result)

module _ (known : Option (List ℕ)) (start : InboxState) (before now : Option (List ℕ)) (inbox : InboxState) (left : Option (List ℕ)) (number : ℕ) (runs : Runs known start before now inbox left number) where
  pub nothing_left : IfSome left (λ bytes. bytes ≡ []) → Ends known start before now (Ok tt)
  nothing_left took =
      if_known known (λ bytes reached. ended start _ before now inbox left number reached (ap words_in (at_known (λ bytes. bytes ≡ []) left reached.rest reached.left_is took))) runs

  pub wrong_words : (then : Option (List ℕ)) (line : List ℕ) → IfSome left (λ bytes. TakesFirst bytes then line) → None ≡ words_of line → Ends known start before now (Err (WrongWords number))
  wrong_words then line took is =
      if_known known (λ bytes reached. let (more, _, first) = words_next start _ before now inbox left number reached line then None took is in wrong start _ before now inbox left number reached (words_in more) first) runs

  pub read_fails : (kind : ErrorKind) (result : Result (Unit {0}) RunFault) → IsErrAnd result (IsFaultOf kind) → Ends known start before now result
  read_fails kind result of = if_known known (λ bytes reached. by_result start _ before now kind result of (cut_here start _ before now inbox left number reached)) runs

  module _ (line : List ℕ) (then : Option (List ℕ)) (took : IfSome left (λ bytes. TakesFirst bytes then line)) (request : SendRequest) (is : Some request ≡ words_of line)
      (answer : Answer) (new : InboxState) {fresh : List CheckedEvent} (step : IsAnswered trusting_checks inbox request answer new fresh) (after : Option (List ℕ)) where
    pub write_fails : (kind : ErrorKind) (result : Result (Unit {0}) RunFault) → IsErrAnd result (IsFaultOf kind) → AppendsFront now after (line_of answer) → Ends known start before after result
    write_fails kind result of part =
        if_known known (λ bytes reached.
        let (more, _, first) = words_next start _ before now inbox left number reached line then (Some request) took is in
        by_result start _ before after kind result of (cut_inside start _ before now inbox left number reached request (words_in more) answer new after first step part)) runs

    pub goes_on : Appends now after (line_of answer) → Runs known start before after new then (number + 1)
    goes_on appended =
        if_known known (λ bytes reached.
        let (more, left_is, first) = words_next start _ before now inbox left number reached line then (Some request) took is in
        subst (λ l. Reached start (words_in bytes) before after new l (number + 1)) (sym left_is)
        (one_further start _ before now inbox left number reached request more answer new after first step appended)) runs

-- ---- a run that does not begin

nothing_written : (start : InboxState) (words : List (Option SendRequest)) (before : Option (List ℕ)) → IsCut start words before before
nothing_written start words before = ([], ([], output_of start words [], refl, appends_none before))

by_memory : (start : InboxState) (words : List (Option SendRequest)) (before : Option (List ℕ)) (result : Result (Unit {0}) RunFault) → IsErrAnd result (λ fault. fault ≡ Memory) → IsEnd start words before before result
by_memory start words before (Ok done) of = absurd of
by_memory start words before (Err fault) of = subst (λ f. IsEnd start words before before (Err f)) (sym of) (nothing_written start words before)

pub no_memory : (known : Option (List ℕ)) (start : InboxState) (before : Option (List ℕ)) (result : Result (Unit {0}) RunFault) → IsErrAnd result (λ fault. fault ≡ Memory) → Ends known start before before result
no_memory None start before result of = tt
no_memory (Some bytes) start before result of = by_memory start (words_in bytes) before result of
