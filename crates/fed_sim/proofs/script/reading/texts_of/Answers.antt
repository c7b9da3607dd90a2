use Rattle.std.proofs.Common.{◌∙◌, ◌∷◌, [], lit<, string_bytes, refl}
use Rattle.std.proofs.lemmas.Iterator.Consumers.{YieldsList-at, YieldsList-end}
use Rattle.std.proofs.lemmas.Iterator.Splits.{YieldsList-from_str_split}
use Rattle.std.proofs.lemmas.List.{map-append}
use Rattle.fed_sim.proofs.script.reading.texts_of.Goals as goal

pub loop-word-preserved : goal.loop-word-preserved
loop-word-preserved c =
    rw (c.in_ok-push.ensures.items, map-append string_bytes c.loop-word.texts.items (c.in_ok-from_str.field-0 ∷ []), map-append (λ x. x.now) c.loop-word.yielded (c.in-Some.word ∷ []), c.loop-word.invariant, c.in_ok-from_str.ensures.ok) refl

pub returns : goal.returns
returns c =
    let all = YieldsList-end (YieldsList-at c.into_iter-word-iterator.ensures.into_iter_gives (YieldsList-from_str_split 32 c.args.text.now (lit< tt) c.split-word-items.ensures.text c.split-word-items.ensures.has_more c.split-word-items.ensures.pattern)) c.loop-word.yielded _ c.loop-word.yielded_by _ _ c.in-None.is c.next.ensures.steps in
    c.loop-word.invariant ∙ all.0
