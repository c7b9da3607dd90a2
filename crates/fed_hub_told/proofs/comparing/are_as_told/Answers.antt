use Rattle.std.proofs.Common.{◌↔◌, IsTrue, ℕ, suc, Bool, true, false, List, map, take, drop, sym, subst}
use Rattle.std.specs.Prelude.{MatchBool}
use Rattle.std.proofs.lemmas.Bool.{false≢true}
use Rattle.std.proofs.lemmas.List.{take_all}
use Rattle.fed_hub_told.specs.AsTold.{AreAsTold}
use Rattle.fed_hub_told.specs.Marking.{IsMarked}
use Rattle.fed_hub_told.proofs.Lists.{map-one_more, map-split}
use Rattle.fed_hub_told.proofs.Marked.{AreMarked, marked_next, not_marked, all_marked}
use Rattle.fed_hub_told.proofs.comparing.are_as_told.Goals as goal

-- what is told of the notes of one holder
abbrev Tells : {T X : Type 0} → (T → ℕ) → (T → X → Type 0) → List X → List T → List Bool → List Bool → Bool → Type 0
Tells number IsOf things notes before new is = MatchBool is (IsMarked number IsOf things notes before new) ((after : List Bool) → ¬ IsMarked number IsOf things notes before after)

pub loop-notes-preserved : goal.loop-notes-preserved
loop-notes-preserved g c =
    let number = g.N.Note.number in
    let IsOf = g.N.Note.IsOf in
    let told = c.args.told.now in
    let i = c.loop-notes.notes-index in
    let notes = c.notes-item.result in
    let things = c.args.things.now in
    let mid = c.loop-notes.marks in
    let after = c.mark_notes.new.marks in
    let marked : Tells number IsOf things notes.now mid after true = subst (Tells number IsOf things notes.now mid after) c.if-not-branch.false c.in_ok-mark_notes.ensures in
    let next = marked_next number IsOf things (map (λ ns. ns.now) (take i told)) notes.now mid c.loop-notes.invariant after marked in
    subst (λ hs. AreMarked number IsOf things hs after) (sym (map-one_more (λ ns. ns.now) told i notes c.loop-notes-test.true c.notes-item.is)) next

pub returns-then-not-branch : goal.returns-then-not-branch
returns-then-not-branch g c =
    let number = g.N.Note.number in
    let IsOf = g.N.Note.IsOf in
    let told = c.args.told.now in
    let i = c.loop-notes.notes-index in
    let notes = c.notes-item.result in
    let things = c.args.things.now in
    let mid = c.loop-notes.marks in
    let after = c.mark_notes.new.marks in
    let never : Tells number IsOf things notes.now mid after false = subst (Tells number IsOf things notes.now mid after) c.if-not-branch.true c.in_ok-mark_notes.ensures in (
      λ no. absurd (false≢true no),
      λ as_told.
          absurd (not_marked number IsOf things (map (λ ns. ns.now) (take i told)) notes.now mid c.loop-notes.invariant (map (λ ns. ns.now) (drop (suc i) told)) never
          (subst (AreAsTold number IsOf things) (map-split (λ ns. ns.now) told i notes c.loop-notes-test.true c.notes-item.is) as_told)),
    )

pub returns : goal.returns
returns g c =
    let number = g.N.Note.number in
    let IsOf = g.N.Note.IsOf in
    let told = c.args.told.now in
    let things = c.args.things.now in
    let marks = c.loop-notes.marks in
    let all = subst (λ hs. AreMarked number IsOf things (map (λ ns. ns.now) hs) marks) (take_all c.loop-notes.notes-index told c.loop-notes-test.false) c.loop-notes.invariant in
    subst (λ b. IsTrue b ↔ AreAsTold number IsOf things (map (λ ns. ns.now) told)) (sym c.all_marked.ensures) (all_marked number IsOf things (map (λ ns. ns.now) told) marks all)
