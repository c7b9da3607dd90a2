use Rattle.std.proofs.Common.{◌≡◌, List, ℕ, ◌∷◌, ◌++◌, Option, Some, None, sym, ap, ◌∙◌}
use Rattle.std.proofs.lemmas.Result.{on_ok_weaker}
use Rattle.fed_replies.specs.HashId.{id_text}
use Rattle.fed_replies.specs.Pieces.{verdict_by}
use Rattle.fed_replies.specs.ReplyText.{member_text}
use Rattle.fed_replies.proofs.HashIds.{id_text-is}
use Rattle.fed_replies.proofs.members.write_member.Goals as goal

pub returns-in-None : goal.returns-in-None
returns-in-None c =
    let id : 36 ∷ c.symbols_of-symbols.result ≡ id_text c.args.hash.now = ap (λ s. 36 ∷ s) c.symbols_of-symbols.ensures.symbols ∙ sym (id_text-is c.args.hash.now) in
    on_ok_weaker c.write_accepted.result (λ e.
    e ∙ ap (λ (i : List ℕ). c.args.out.now.items ++ member_text c.args.later (i, None)) id
    ∙ ap (λ (n : Option ℕ). c.args.out.now.items ++ member_text c.args.later (verdict_by c.args.texts.now c.args.hash.now n)) (sym c.in-None.is)) c.write_accepted.ensures

pub returns-in-Some : goal.returns-in-Some
returns-in-Some c =
    let id : 36 ∷ c.symbols_of-symbols.result ≡ id_text c.args.hash.now = ap (λ s. 36 ∷ s) c.symbols_of-symbols.ensures.symbols ∙ sym (id_text-is c.args.hash.now) in
    on_ok_weaker c.write_failed.result (λ e.
    e ∙ ap (λ (i : List ℕ). c.args.out.now.items ++ member_text c.args.later (i, Some c.text.result.now)) id
    ∙ ap (λ (t : List ℕ). c.args.out.now.items ++ member_text c.args.later (id_text c.args.hash.now, Some t)) c.text.ensures
    ∙ ap (λ (n : Option ℕ). c.args.out.now.items ++ member_text c.args.later (verdict_by c.args.texts.now c.args.hash.now n)) (sym c.in-Some.is)) c.write_failed.ensures
