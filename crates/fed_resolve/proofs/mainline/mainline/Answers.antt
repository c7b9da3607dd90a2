use Rattle.std.proofs.Common.{◌≡◌, ◌<◌, ◌+◌, ◌-◌, ◌++◌, ◌∷◌, [], ℕ, Option, length, append_assoc, append-nil, subst, sym, ap, ◌∙◌, arith}
use Rattle.std.specs.Option.{IfSome}
use Rattle.std.proofs.lemmas.List.Elements.{All-push, All-same}
use Rattle.fed_resolve.specs.Mainline.{mainline_from, levels_auth}
use Rattle.fed_resolve.proofs.Mainlines.{line-next, line-end}
use Rattle.fed_resolve.proofs.mainline.mainline.Goals.{else-loop-test, then-loop-test+in_default}
use Rattle.fed_resolve.proofs.mainline.mainline.Goals as goal

pub loop-preserved : goal.loop-preserved
loop-preserved c =
    let events = c.args.graph.now.stored in
    let count = length events in
    let line = c.loop.line.items in
    let place = c.in-Some.place in
    let rest = mainline_from events (count - (c.loop.counter + 1)) (levels_auth events place) in
    let below : place < count = subst (λ (o : Option ℕ). IfSome o (λ p. p < count)) c.in-Some.is c.loop.invariant.next in
    record {
      whole =
          ap (λ ps. ps ++ mainline_from events (count - (c.loop.counter + 1)) c.levels_auth-next.result) c.in_ok-push.ensures.items
          ∙ ap (λ o. (line ++ place ∷ []) ++ mainline_from events (count - (c.loop.counter + 1)) o) c.levels_auth-next.ensures.place
          ∙ append_assoc line (place ∷ []) rest
          ∙ ap (λ ps. line ++ ps) (sym (line-next events count c.loop.counter c.loop.next place (omega (arith, c.len-end.ensures)) c.in-Some.is))
          ∙ c.loop.invariant.whole;
      within = All-same (λ p. p < count) c.push.new.self.items (line ++ place ∷ []) c.in_ok-push.ensures.items (All-push (λ p. p < count) line place c.loop.invariant.within below);
      next = c.levels_auth-next.ensures.within;
    }

pub returns-clause-line : goal.returns-clause-line
returns-clause-line c =
    let events = c.args.graph.now.stored in
    let line = c.loop.line.items in
    let steps = length events - c.loop.counter in
    let none : mainline_from events steps c.loop.next ≡ [] =
    elim c.loop-test.branch [
      | else-loop-test w ↦ let zero : steps ≡ 0 = omega (arith, c.len-end.ensures) in ap (λ k. mainline_from events k c.loop.next) zero
      | then-loop-test+in_default w ↦ line-end events steps c.loop.next w.in_default.is
    ] in
    sym (append-nil line) ∙ ap (λ ps. line ++ ps) (sym none) ∙ c.loop.invariant.whole
