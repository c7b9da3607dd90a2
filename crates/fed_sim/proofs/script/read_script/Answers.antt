use Rattle.std.proofs.Common.{◌==◌, length, rules, tests, refl}
use Rattle.std.proofs.lemmas.Iterator.Consumers.{YieldsList-at, YieldsList-turn, YieldsList-end, YieldsList-from_enumerate}
use Rattle.std.proofs.lemmas.Iterator.Splits.{YieldsList-from_slice_split}
use Rattle.std.proofs.lemmas.List.{length_push}
use Rattle.std.proofs.lemmas.Result.{MatchResult-weaker}
use Rattle.fed_sim.specs.Script.{no_line, lines_of}
use Rattle.fed_sim.specs.ScriptReadings.{said_by}
use Rattle.fed_sim.proofs.ScriptLines.{one_more_line, all_lines, wrong_line, no_script}
use Rattle.fed_sim.proofs.script.read_script.Goals as goal

pub loop-place-init : goal.loop-place-init
loop-place-init c = rw c.new-reading.ensures no_line

pub loop-place-preserved : goal.loop-place-preserved
loop-place-preserved c =
    let turn = YieldsList-turn (YieldsList-at c.into_iter-place-iterator.ensures.into_iter_gives (YieldsList-from_enumerate (YieldsList-at c.enumerate-place-items.ensures.source (YieldsList-from_slice_split _ (λ byte. byte == 10) c.args.text.now c.split.ensures.rest c.split.ensures.done c.split.ensures.closure (λ x b q k. search (rules, tests)))) c.enumerate-place-items.ensures.count)) c.loop-place.yielded _ c.loop-place.yielded_by _ _ (c.in-Some.place, c.in-Some.line) c.in-Some.is c.next.ensures.steps in
    one_more_line (lines_of c.args.text.now) c.in-Some.place c.in-Some.line.now (length c.loop-place.yielded) turn.0 turn.1 _ (said_by c.loop-place.reading) (said_by c.take_line.new.self)
    (length_push c.loop-place.yielded (c.in-Some.place, c.in-Some.line)) c.loop-place.invariant c.in_default.ensures.ok

pub returns-in-Err-clause-wrong : goal.returns-in-Err-clause-wrong
returns-in-Err-clause-wrong c =
    let turn = YieldsList-turn (YieldsList-at c.into_iter-place-iterator.ensures.into_iter_gives (YieldsList-from_enumerate (YieldsList-at c.enumerate-place-items.ensures.source (YieldsList-from_slice_split _ (λ byte. byte == 10) c.args.text.now c.split.ensures.rest c.split.ensures.done c.split.ensures.closure (λ x b q k. search (rules, tests)))) c.enumerate-place-items.ensures.count)) c.loop-place.yielded _ c.loop-place.yielded_by _ _ (c.in-Some.place, c.in-Some.line) c.in-Some.is c.next.ensures.steps in
    wrong_line (lines_of c.args.text.now) c.in-Some.place c.in-Some.line.now (length c.loop-place.yielded) turn.0 turn.1 (said_by c.loop-place.reading) c.in-Err.fault c.at.result c.at.ensures.memory c.at.ensures.wrong
    c.loop-place.invariant c.in-Err.ensures.wrong c.args.text.now refl

pub returns-clause-script : goal.returns-clause-script
returns-clause-script c =
    let end = YieldsList-end (YieldsList-at c.into_iter-place-iterator.ensures.into_iter_gives (YieldsList-from_enumerate (YieldsList-at c.enumerate-place-items.ensures.source (YieldsList-from_slice_split _ (λ byte. byte == 10) c.args.text.now c.split.ensures.rest c.split.ensures.done c.split.ensures.closure (λ x b q k. search (rules, tests)))) c.enumerate-place-items.ensures.count)) c.loop-place.yielded _ c.loop-place.yielded_by _ _ c.in-None.is c.next.ensures.steps in
    let all = all_lines (lines_of c.args.text.now) (length c.loop-place.yielded) (said_by c.loop-place.reading) end.1 c.loop-place.invariant in
    MatchResult-weaker c.end.result c.end.ensures.ok (λ read is_said. record { said = said_by c.loop-place.reading; reads = all; is_said = is_said }) (λ _ h. h)

pub returns-clause-wrong : goal.returns-clause-wrong
returns-clause-wrong c =
    let end = YieldsList-end (YieldsList-at c.into_iter-place-iterator.ensures.into_iter_gives (YieldsList-from_enumerate (YieldsList-at c.enumerate-place-items.ensures.source (YieldsList-from_slice_split _ (λ byte. byte == 10) c.args.text.now c.split.ensures.rest c.split.ensures.done c.split.ensures.closure (λ x b q k. search (rules, tests)))) c.enumerate-place-items.ensures.count)) c.loop-place.yielded _ c.loop-place.yielded_by _ _ c.in-None.is c.next.ensures.steps in
    let all = all_lines (lines_of c.args.text.now) (length c.loop-place.yielded) (said_by c.loop-place.reading) end.1 c.loop-place.invariant in
    MatchResult-weaker c.end.result c.end.ensures.none (λ _ h. h) (λ told (is, none). no_script c.args.text.now (said_by c.loop-place.reading) all told is none)
