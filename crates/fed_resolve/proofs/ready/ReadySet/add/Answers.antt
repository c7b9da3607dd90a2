use Rattle.std.proofs.Common.{◌≡◌, ◌<◌, ◌≤◌, ◌++◌, ◌∷◌, [], ◌⊎◌, inl, inr, ℕ, true, false, List, Option, IfSome, All, Contains, length, vec_len, refl, sym, ap, subst, ◌∙◌, arith}
use Rattle.std.specs.Vec.{with_item}
use Rattle.std.specs.List.{list_all}
use Rattle.std.proofs.lemmas.Bool.{cases_lt, eq-eqb}
use Rattle.std.proofs.lemmas.Map.Views.{All-insert_key}
use Rattle.std.proofs.lemmas.List.{length-set}
use Rattle.std.proofs.lemmas.List.Elements.{All-contains}
use Rattle.std.proofs.lemmas.Option.{slice_get_read}
use Rattle.fed_resolve.specs.declared.order.Candidate.{Candidate}
use Rattle.fed_resolve.specs.ChainParts.{is_marked}
use Rattle.fed_resolve.specs.ReadyParts.{IsReady, waiting_in}
use Rattle.fed_resolve.proofs.Orders.{fronts-set}
use Rattle.fed_resolve.proofs.ReadySets.{held-by-key, held-by-place, list-at, waiting-below}
use Rattle.fed_resolve.proofs.ready.ReadySet.add.Given.{Over}
use Rattle.fed_resolve.proofs.ready.ReadySet.add.Goals as goal

pub returns-in_ok-insert-clause-kept : goal.returns-in_ok-insert-clause-kept
returns-in_ok-insert-clause-kept g c =
    let marks = c.args.is_listed.now in
    let all = c.args.candidates.now in
    let ready = c.args.self.now in
    let one = c.index-candidates-index.result in
    let there = slice_get_read all (length all) c.args.index one refl c.requires.index c.index-candidates-index.is in
    let listed : list_all (is_marked marks) one.after.items ≡ true = sym c.listed_front-front.ensures.whole ∙ eq-eqb c.listed_front-front.result (vec_len one.after) (c.if-front-len.true ∙ c.len.ensures) in
    record {
      fronts = fronts-set marks all ready.fronts.items c.args.index c.listed_front-front.result one c.requires.index c.index-candidates-index.is c.listed_front-front.ensures.front c.requires.kept.fronts;
      long = c.requires.kept.long;
      waiting = c.requires.kept.waiting;
      first =
          subst (All (IsReady marks all)) (sym c.in_ok-insert.ensures.keys)
          (All-insert_key _ _ (IsReady marks all) ready.first.keys c.requires.kept.first (record { one = one; here = there; rank = refl; listed = listed }));
    }

pub returns-in_ok-insert-clause-held : goal.returns-in_ok-insert-clause-held
returns-in_ok-insert-clause-held g c =
    let all = c.args.candidates.now in
    let one = c.index-candidates-index.result in
    let there = slice_get_read all (length all) c.args.index one refl c.requires.index c.index-candidates-index.is in
    held-by-key c.args.is_listed.now all c.args.self.now _ c.args.index one there g.R.Ord.cmp _ (λ a b. refl) c.in_ok-insert.ensures.keys refl c.requires.kept

-- ---- it waits for the first that is not listed

before-end : (places : List ℕ) (front len n : ℕ) → front ≤ length places → (front ≡ len → ⊥) → len ≡ n → n ≡ length places → front < length places
before-end places front len n within apart is long = by (cases_lt front (length places))
  where
    by : (front < length places) ⊎ (length places ≤ front) → front < length places
    by (inl less) = less
    by (inr past) = absurd (apart (omega (arith, within, past, is, long)))

module _ (g : Over) (c : goal.In_ok-push g) where
  abbrev place : ℕ
  place = c.index-else-front-len.result.now

  abbrev afters : List ℕ
  afters = c.index-candidates-index.result.after.items

  front-less : c.listed_front-front.result < length afters
  front-less = before-end afters c.listed_front-front.result c.len.result (vec_len c.index-candidates-index.result.after) c.listed_front-front.ensures.front.within c.if-front-len.false c.len.ensures c.index-candidates-index.result.after.ok.0

  after : Contains afters place
  after = (c.listed_front-front.result, front-less, sym c.index-else-front-len.ensures)

  within : place < length c.args.self.now.waiting.items
  within =
      let all = c.args.candidates.now in
      let below : All (λ p. p < length c.args.is_listed.now) afters =
      subst (λ (x : Candidate g.row.R.Denot). All (λ p. p < length c.args.is_listed.now) x.after.items) (sym c.index-candidates-index.is) (c.requires.within c.args.index c.index-candidates-index.result c.requires.index).after in
      let less = All-contains (λ p. p < length c.args.is_listed.now) afters place below after in
      let long = c.requires.kept.long in
      omega (arith, less, long)

  unlisted : is_marked c.args.is_listed.now place ≡ false
  unlisted =
      subst (λ (o : Option ℕ). IfSome o (λ p. is_marked c.args.is_listed.now p ≡ false)) (slice_get_read afters (length afters) c.listed_front-front.result place refl front-less c.index-else-front-len.ensures)
      c.listed_front-front.ensures.next

  grown : c.push.new.self.items ≡ waiting_in c.args.self.now.waiting place ++ c.args.index ∷ []
  grown = c.in_ok-push.ensures.items ∙ ap (λ is. is ++ c.args.index ∷ []) (sym (list-at c.args.self.now.waiting place c.index_mut-else-front-len.result.now within c.index_mut-else-front-len.ensures.value))

pub returns-in_ok-push-clause-kept : goal.returns-in_ok-push-clause-kept
returns-in_ok-push-clause-kept g c =
    let marks = c.args.is_listed.now in
    let all = c.args.candidates.now in
    let ready = c.args.self.now in
    let one = c.index-candidates-index.result in
    record {
      fronts = fronts-set marks all ready.fronts.items c.args.index c.listed_front-front.result one c.requires.index c.index-candidates-index.is c.listed_front-front.ensures.front c.requires.kept.fronts;
      long = length-set ready.waiting.items (place g c) c.push.new.self ∙ c.requires.kept.long;
      waiting = waiting-below ready.waiting (with_item ready.waiting (place g c) c.push.new.self) (place g c) c.push.new.self refl c.args.index (length all) (within g c) (grown g c) c.requires.kept.waiting c.requires.index;
      first = c.requires.kept.first;
    }

pub returns-in_ok-push-clause-held : goal.returns-in_ok-push-clause-held
returns-in_ok-push-clause-held g c =
    let all = c.args.candidates.now in
    let one = c.index-candidates-index.result in
    let there = slice_get_read all (length all) c.args.index one refl c.requires.index c.index-candidates-index.is in
    held-by-place c.args.is_listed.now all c.args.self.now _ c.args.index one there (place g c) c.push.new.self refl refl (grown g c) (within g c) (after g c) (unlisted g c)
