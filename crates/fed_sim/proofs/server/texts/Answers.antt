use Rattle.std.proofs.Common.{arith, map, string_bytes, String, Global, sym, ap, ◌∙◌}
use Rattle.std.proofs.lemmas.List.{take_all, length-map, get_or-map}
use Rattle.fed_sim.proofs.Built.{built}
use Rattle.fed_sim.proofs.server.texts.Goals as goal

pub loop-text-init : goal.loop-text-init
loop-text-init c = ap (map string_bytes) c.in_ok-copies.ensures.items

pub loop-text-preserved : goal.loop-text-preserved
loop-text-preserved c =
    let texts = c.args.texts.now in
    let i = c.loop-text.text-index in
    let all = length-map texts (λ (s : String Global). string_bytes s) in
    built (λ (s : String Global). string_bytes s) c.loop-text.copies.items c.push.new.self.items (map string_bytes texts) i c.in_ok-from_str.field-0 c.loop-text.invariant c.in_ok-push.ensures.items
    (omega (arith, all, c.loop-text-test.true))
    (c.in_ok-from_str.ensures.ok ∙ c.deref.ensures ∙ ap (λ (s : String Global). string_bytes s) c.text-item.is ∙ sym (get_or-map (λ (s : String Global). string_bytes s) texts i c.text-item.result _ c.loop-text-test.true))

pub returns : goal.returns
returns c = c.loop-text.invariant ∙ take_all c.loop-text.text-index (map string_bytes c.args.texts.now) (let all = length-map c.args.texts.now (λ (s : String Global). string_bytes s) in omega (arith, all, c.loop-text-test.false))
