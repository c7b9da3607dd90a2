use Rattle.std.proofs.Common.{◌≡◌, Bool, true, false, ◌||◌, sym, ap, ◌∙◌, codes}
use Rattle.std.specs.List.{list_any}
use Rattle.std.specs.Char.{is_ascii_alphanumeric}
use Rattle.std.specs.Prelude.{◌==◌}
use Rattle.httparse.specs.Grammar.{is_token_byte}
use Rattle.fed_http.proofs.unfinished.is_token_byte.Goals as goal

or_left : (r a b : Bool) → r ≡ true → r ≡ a → r ≡ a || b
or_left r a b is same = is ∙ sym (ap (λ v. v || b) (sym same ∙ is))

or_right : (r s a b : Bool) → r ≡ false → r ≡ a → s ≡ b → s ≡ a || b
or_right r s a b is same other = other ∙ sym (ap (λ v. v || b) (sym same ∙ is))

pub returns-then-is_ascii_alphanumeric : goal.returns-then-is_ascii_alphanumeric
unfolding is_token_byte
returns-then-is_ascii_alphanumeric c =
    or_left c.is_ascii_alphanumeric.result (is_ascii_alphanumeric c.args.byte) (list_any (λ x. x == c.args.byte) (codes "!#$%&'*+-.^_`|~")) c.if-is_ascii_alphanumeric.true c.is_ascii_alphanumeric.ensures.value

pub returns-else-is_ascii_alphanumeric : goal.returns-else-is_ascii_alphanumeric
unfolding is_token_byte
returns-else-is_ascii_alphanumeric c =
    or_right c.is_ascii_alphanumeric.result c.contains.result (is_ascii_alphanumeric c.args.byte) (list_any (λ x. x == c.args.byte) (codes "!#$%&'*+-.^_`|~")) c.if-is_ascii_alphanumeric.false c.is_ascii_alphanumeric.ensures.value c.contains.ensures.value
