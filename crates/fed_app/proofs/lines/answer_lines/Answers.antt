use Rattle.std.proofs.Common.{◌≡◌, ℕ, [], List, Option, None, IfSome, Ok, Bool, true, false, option_map, rules, arith, sym, ap, subst, ◌∙◌}
use Rattle.std.specs.declared.io.Error.{Error}
use Rattle.fed_app.specs.Words.{words_of}
use Rattle.fed_app.specs.WordsParts.{request_by}
use Rattle.fed_app.specs.Steps.{TakesLine, TakesFirst}
use Rattle.fed_app.proofs.Limit.{within_next}
use Rattle.fed_app.proofs.Reached.{nothing_left, wrong_words, read_fails, write_fails, goes_on}
use Rattle.fed_app.proofs.lines.answer_lines.Goals as goal

line_taken : (left then : Option (List ℕ)) (line : List ℕ) (more : Bool) → more ≡ true → IfSome left (λ bytes. TakesLine {E = Error} bytes then line (Ok more)) → IfSome left (λ bytes. TakesFirst bytes then line)
line_taken left then line more is h = subst (λ b. IfSome left (λ bytes. TakesLine {E = Error} bytes then line (Ok b))) is h

none_taken : (left then : Option (List ℕ)) (line : List ℕ) (more : Bool) → more ≡ false → IfSome left (λ bytes. TakesLine {E = Error} bytes then line (Ok more)) → IfSome left (λ bytes. bytes ≡ [])
none_taken left then line more is h = subst (λ b. IfSome left (λ bytes. TakesLine {E = Error} bytes then line (Ok b))) is h

pub returns-in_err-read_line-clause-run : goal.returns-in_err-read_line-clause-run
returns-in_err-read_line-clause-run g c = read_fails _ _ _ _ _ _ _ c.loop-out.invariant.0 _ _ c.from_residual.ensures.1

pub returns-clause-run : goal.returns-clause-run
returns-clause-run g c =
    let took = none_taken _ _ _ _ (search rules) c.in_ok-read_line.ensures.line in
    nothing_left _ _ _ _ _ _ _ c.loop-out.invariant.0 took

pub returns-in_default-clause-run : goal.returns-in_default-clause-run
returns-in_default-clause-run g c =
    let took = line_taken _ _ _ _ (search rules) c.in_ok-read_line.ensures.line in
    let none : c.words_of.result ≡ None = search rules in
    let is : None ≡ words_of c.read_line.new.line.items = ap (option_map request_by) (sym none) ∙ c.words_of.ensures ∙ ap words_of c.deref.ensures.value in
    wrong_words _ _ _ _ _ _ _ c.loop-out.invariant.0 _ c.read_line.new.line.items took is

pub returns-in_err-write_reply-clause-run : goal.returns-in_err-write_reply-clause-run
returns-in_err-write_reply-clause-run g c =
    let took = line_taken _ _ _ _ (search rules) c.in_ok-read_line.ensures.line in
    let is = c.in-Some.ensures ∙ ap words_of c.deref.ensures.value in
    write_fails _ _ _ _ _ _ _ c.loop-out.invariant.0 c.read_line.new.line.items _ took _ is c.answer_body-reply.result c.answer_body-reply.new.self.state c.answer_body-reply.ensures.answered _ _ _ c.from_residual-in_err-write_reply.ensures.1 c.in_err-write_reply.ensures

pub loop-out-preserved-in_ok-write_reply : goal.loop-out-preserved-in_ok-write_reply
loop-out-preserved-in_ok-write_reply g c =
    let took = line_taken _ _ _ _ (search rules) c.in_ok-read_line.ensures.line in
    let is = c.in-Some.ensures ∙ ap words_of c.deref.ensures.value in
    let (runs, within, number) = c.loop-out.invariant in
    let falls = c.in_ok-read_line.ensures.falls (search rules) in (
      goes_on _ _ _ _ _ _ _ runs c.read_line.new.line.items _ took _ is c.answer_body-reply.result c.answer_body-reply.new.self.state c.answer_body-reply.ensures.answered _ c.in_ok-write_reply.ensures,
      within_next _ _ _ _ _ _ c.read_line.new.line.items within took c.in_ok-read_line.ensures.spends,
      omega (arith, number, falls),
    )

pub loop-out-preserved : goal.loop-out-preserved
loop-out-preserved g c =
    let took = line_taken _ _ _ _ (search rules) c.in_ok-read_line.ensures.line in
    let is = c.in-Some.ensures ∙ ap words_of c.deref.ensures.value in
    let (runs, within, number) = c.loop-out.invariant in
    let falls = c.in_ok-read_line.ensures.falls (search rules) in (
      goes_on _ _ _ _ _ _ _ runs c.read_line.new.line.items _ took _ is c.answer_body-reply.result c.answer_body-reply.new.self.state c.answer_body-reply.ensures.answered _ c.in_ok-write_reply.ensures,
      within_next _ _ _ _ _ _ c.read_line.new.line.items within took c.in_ok-read_line.ensures.spends,
      omega (arith, number, falls),
    )
