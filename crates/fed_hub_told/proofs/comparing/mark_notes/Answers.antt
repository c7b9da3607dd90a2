use Rattle.std.proofs.Common.{rules, ◌≡◌, suc, true, false, [], ◌∷◌, ◌++◌, take, drop, nat_lt, sym, ap, ◌∙◌, subst}
use Rattle.std.proofs.lemmas.Bool.{false≢true}
use Rattle.std.proofs.lemmas.List.{take_all}
use Rattle.std.proofs.lemmas.List.Sorted.{answers_always}
use Rattle.fed_hub_told.specs.Marks.{is_free, with_mark}
use Rattle.fed_hub_told.specs.Marking.{IsMarked}
use Rattle.fed_hub_told.proofs.Lists.{one_more, split_at}
use Rattle.fed_hub_told.proofs.Marked.{IsFrontMarked, front_next, front_taken, front_other, client_marked}
use Rattle.fed_hub_told.proofs.Rising.{rises, never_rises}
use Rattle.fed_hub_told.proofs.comparing.mark_notes.Goals as goal
use Rattle.fed_hub_told.proofs.comparing.mark_notes.Goals.{then-not-mark-via-then-not-mark, then-not-mark-via-else-not-mark+in_ok-is_among+then-not-branch}

pub returns-then-not-is_sorted_by : goal.returns-then-not-is_sorted_by
returns-then-not-is_sorted_by g c = λ after marked.
    let number = g.N.Note.number in
    let answer = c.if-not-is_sorted_by.ensures.cases (λ one next. nat_lt (number one) (number next)) (answers_always _ _ _ (λ f a r g called. search rules)) in
    never_rises number c.args.notes.now answer marked.client.rising

pub returns-then-not-mark : goal.returns-then-not-mark
returns-then-not-mark g c = λ after marked.
    let number = g.N.Note.number in
    let IsOf = g.N.Note.IsOf in
    let notes = c.args.notes.now in
    let i = c.loop-note.note-index in
    let note = c.note-item.result in
    let things = c.args.things.now in
    let before = c.args.marks.now in
    let mid = c.loop-note.marks in
    let split = subst (λ ns. IsMarked number IsOf things ns before after) (split_at notes i note c.loop-note-test.true c.note-item.is) marked in
    elim c.then-not-mark.branch [
      | then-not-mark-via-then-not-mark w ↦
          let taken : is_free mid (number note) ≡ false = ap (is_free mid) (sym c.number.ensures) ∙ sym c.mark.ensures.free ∙ w.if-not-mark.true in
          front_taken number IsOf things (take i notes) note before mid c.loop-note.invariant (drop (suc i) notes) after taken split
      | then-not-mark-via-else-not-mark+in_ok-is_among+then-not-branch w ↦
          front_other number IsOf things (take i notes) note before mid c.loop-note.invariant (drop (suc i) notes) after
          (λ is. false≢true (sym w.if-not-branch.true ∙ w.in_ok-is_among.ensures.1 is)) split
    ]

pub loop-note-preserved : goal.loop-note-preserved
loop-note-preserved g c =
    let number = g.N.Note.number in
    let IsOf = g.N.Note.IsOf in
    let notes = c.args.notes.now in
    let i = c.loop-note.note-index in
    let note = c.note-item.result in
    let things = c.args.things.now in
    let before = c.args.marks.now in
    let mid = c.loop-note.marks in
    let free : is_free mid (number note) ≡ true = ap (is_free mid) (sym c.number.ensures) ∙ sym c.mark.ensures.free ∙ c.if-not-mark.false in
    let after : with_mark mid (number note) ≡ c.mark.new.self = ap (with_mark mid) (sym c.number.ensures) ∙ sym c.mark.ensures.marks in
    let next = front_next number IsOf things (take i notes) note before mid c.loop-note.invariant free (c.in_ok-is_among.ensures.0 c.if-not-branch.false) in
    let marks = subst (IsFrontMarked number IsOf things (take i notes ++ note ∷ []) before) after next in
    subst (λ ns. IsFrontMarked number IsOf things ns before c.mark.new.self) (sym (one_more notes i note c.loop-note-test.true c.note-item.is)) marks

pub returns : goal.returns
returns g c =
    let number = g.N.Note.number in
    let IsOf = g.N.Note.IsOf in
    let notes = c.args.notes.now in
    let answer = c.if-not-is_sorted_by.ensures.cases (λ one next. nat_lt (number one) (number next)) (answers_always _ _ _ (λ f a r g called. search rules)) in
    let all = subst (λ ns. IsFrontMarked number IsOf c.args.things.now ns c.args.marks.now c.loop-note.marks) (take_all c.loop-note.note-index notes c.loop-note-test.false) c.loop-note.invariant in
    client_marked number IsOf c.args.things.now notes c.args.marks.now c.loop-note.marks (rises number notes answer) all
