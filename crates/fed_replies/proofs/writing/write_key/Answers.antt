use Rattle.std.proofs.Common.{◌∷◌, ◌++◌, sym, ap, ◌∙◌, arith}
use Rattle.fed_json.specs.CanonicalText.{comma}
use Rattle.fed_replies.specs.ReplyText.{key_text}
use Rattle.fed_replies.proofs.ReplyTexts.{key_behind_comma, first_key}
use Rattle.fed_replies.proofs.writing.write_key.Goals as goal

pub returns-then-later : goal.returns-then-later
returns-then-later c =
    c.in_ok-extend_from_slice.ensures.items ∙ ap (λ t. c.args.out.now.items ++ t) (c.key_of-key.ensures ∙ key_behind_comma c.args.symbols.now c.requires)
    ∙ ap (λ b. c.args.out.now.items ++ (comma b ++ key_text (36 ∷ c.args.symbols.now))) (sym c.if-later.true)

pub returns : goal.returns
returns c =
    c.in_ok-extend_from_slice-2.ensures.items
    ∙ ap (λ t. c.args.out.now.items ++ t) (first_key c.key_of-key.result c.args.symbols.now c.requires (omega arith) c.key_of-key.ensures)
    ∙ ap (λ b. c.args.out.now.items ++ (comma b ++ key_text (36 ∷ c.args.symbols.now))) (sym c.if-later.false)
