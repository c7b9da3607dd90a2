use Rattle.std.proofs.Common.{◌≡◌, ◌+◌, ◌++◌, ◌∷◌, [], List, ℕ, length, get_or, append-nil, length-append, ap, sym, ◌∙◌, is_ok, if◌then◌else◌, arith}
use Rattle.std.specs.List.{concat, filter_map}
use Rattle.std.proofs.lemmas.List.Folds.{concat-append}
use Rattle.fed_event.specs.EventIds.{ids_left}
use Rattle.fed_room_contract.specs.Places.{place_at}
use Rattle.fed_room_contract.proofs.LinkLists.{starts-more}
use Rattle.fed_room_contract.proofs.links.Links.add.Goals as goal

pub returns : goal.returns
returns c = λ lists are.
    let places = place_at c.args.places.now in
    let last : List ℕ = filter_map places (ids_left c.args.ids) in
    let before : List ℕ = c.args.self.now.starts.items in
    let count : ℕ = c.len.result in
    let begun : c.push.new.self.items ≡ before ++ count ∷ [] = c.push.ensures.items ∙ ap (λ r. if is_ok r then before ++ count ∷ [] else before) c.unwrap.ensures in
    let starts : c.loop-id.self.starts.items ≡ before ++ count ∷ [] = c.loop-id.invariant.starts ∙ begun in
    let none : ids_left c.loop-id.id-iterator ≡ [] = c.in-None.ensures.steps.0 in
    let whole : c.loop-id.self.places.items ≡ c.args.self.now.places.items ++ last =
    sym (append-nil c.loop-id.self.places.items) ∙ ap (λ ids. c.loop-id.self.places.items ++ filter_map places ids) (sym none) ∙ c.loop-id.invariant.places
    ∙ ap (λ ids. c.args.self.now.places.items ++ filter_map places (ids_left ids)) c.into_iter-id-iterator.ensures.into_iter_gives in
    let counted : count ≡ length (concat lists) = let fact = c.args.self.now.places.ok.0 in let same = ap length are.places in let is = c.len.ensures in omega arith in
    record {
      places = whole ∙ ap (λ ps. ps ++ last) are.places ∙ ap (λ ps. concat lists ++ ps) (sym (append-nil last)) ∙ sym (concat-append lists (last ∷ []));
      long = ap length starts ∙ length-append before (count ∷ []) ∙ ap (λ n. n + 1) are.long ∙ sym (length-append lists (last ∷ []));
      starts = λ k below. ap (λ ss. get_or ss k 0) starts ∙ starts-more lists last before count are.long counted are.starts k below;
    }
