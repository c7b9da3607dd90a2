use Rattle.std.proofs.Common.{[], sym, ap, ◌∙◌, Result, Ok, Err, IfOk, IfNone, subst}
use Rattle.fed_http.specs.Text.{HasNoText}
use Rattle.fed_exchange.proofs.Reading.{given, not_given, faulty}
use Rattle.fed_exchange.proofs.front.message_at_front.Goals as goal

both_ok : {T E : Type 0} {P Q R : T → Type 0} (r : Result T E) → IfOk r P → IfOk r Q → ((x : T) → P x → Q x → R x) → IfOk r R
both_ok (Ok x) p q f = f x p q
both_ok (Err e) p q f = tt

pub returns-in-Ok-clause-found : goal.returns-in-Ok-clause-found
returns-in-Ok-clause-found c = given c.args.reader c.args.bytes.now _ c.in-Ok.message _ (c.in-Ok.ensures.given [] c.requires)

pub returns-in-Ok-clause-none : goal.returns-in-Ok-clause-none
returns-in-Ok-clause-none c = not_given c.args.reader c.args.bytes.now _ c.in-Ok.message _ (c.in-Ok.ensures.waits [] c.requires)

pub returns-clause-none : goal.returns-clause-none
returns-clause-none c =
    both_ok c.no_message.result c.no_message.ensures.told c.no_message.ensures.others
    (λ found none other. subst (λ o. IfNone o (HasNoText c.args.reader.kind c.args.bytes.now)) (sym none)
    (faulty c.args.reader c.args.bytes.now c.feed.new.self c.in-Err.fault c.requires other
    (λ is. c.feed.ensures.bad_head [] c.requires (c.in-Err.is ∙ ap Err is)) (λ is. c.feed.ensures.too_large [] c.requires (c.in-Err.is ∙ ap Err is))
    (λ is. c.feed.ensures.bad_length [] c.requires (c.in-Err.is ∙ ap Err is)) (λ is. c.feed.ensures.bad_chunk [] c.requires (c.in-Err.is ∙ ap Err is))
    (λ is. c.feed.ensures.only_failed (c.in-Err.is ∙ ap Err is))))
