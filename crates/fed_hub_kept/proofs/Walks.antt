-- The walk over the entries of a journal, as far as what was accepted reaches.
use Rattle.std.proofs.Common.{◌≡◌, ◌↔◌, ℕ, suc, ◌+◌, ◌<◌, Bool, true, false, List, [], ◌∷◌, length, drop, get_or, refl, sym, ap, ◌∙◌, subst, drop-cons, add-one}
use Rattle.std.specs.List.{cons_option}
use Rattle.fed_journal.specs.declared.entry.Entry.{Entry}
use Rattle.fed_journal.specs.declared.parcel.Load.{Load}
use Rattle.fed_journal.specs.Journal.{closes, load_for, loads}
use Rattle.fed_outbox.specs.Outbox.{OutboxState}
use Rattle.fed_hub_kept.specs.Left.{LeftState, all_of, is_nothing, with_first, without_first}
use Rattle.fed_hub_kept.specs.OfJournal.{IsOfJournal}
use Rattle.fed_hub_kept.proofs.Fronts.{IsFront, nothing_fronts, front_of_none, step_taken, step_needed, loads_open, loads_closed}
use Rattle.fed_hub_kept.proofs.Comparing.{Accepts, front_is_of_journal, of_journal_is_front}

-- what is told, by what it says of all that was accepted
pub told : Accepts → (entries : List Entry) (o : OutboxState) (d : ℕ) (P : Type 0) → d ≡ o.dest → (IsFront (all_of o) (loads entries d) → P) → (P → IsFront (all_of o) (loads entries d))
    → (P → IsOfJournal entries o) × (IsOfJournal entries o → P)
told accepts entries o d P is to from = (
  (λ p. front_is_of_journal accepts entries o (subst (λ e. IsFront (all_of o) (loads entries e)) is (from p))),
  (λ j. to (subst (λ e. IsFront (all_of o) (loads entries e)) (sym is) (of_journal_is_front entries o j))),
)

at_entry : (entries : List Entry) (i : ℕ) (entry : Entry) → i < length entries → entry ≡ get_or entries i entry → drop i entries ≡ entry ∷ drop (i + 1) entries
at_entry entries i entry within here =
    drop-cons entries i entry within ∙ ap (λ e. e ∷ drop (suc i) entries) (sym here) ∙ ap (λ n. entry ∷ drop n entries) (sym (add-one i))

-- one entry, while something is left
pub record Turn (entries : List Entry) (d i : ℕ) (entry : Entry) (l new : LeftState) (found : Bool) : Type 0 where
  pub within : i < length entries
  pub here : entry ≡ get_or entries i entry
  pub some : is_nothing l ≡ false
  pub first : (found ≡ true → l ≡ with_first (load_for d entry) new) × (l ≡ with_first (load_for d entry) new → found ≡ true)
  pub rest : new ≡ without_first (load_for d entry) l

module _ (entries : List Entry) (d i : ℕ) (entry : Entry) (l new : LeftState) (found : Bool) (turn : Turn entries d i entry l new found) where
  to_next : (more : List Load) → loads (drop i entries) d ≡ cons_option (load_for d entry) more → IsFront l (loads (drop i entries) d) → (found ≡ true) × IsFront new more
  to_next more places f =
      let needs = step_needed l (load_for d entry) more turn.some (subst (IsFront l) places f) in
      (turn.first.1 (needs.0 ∙ ap (with_first (load_for d entry)) (sym turn.rest)), subst (λ s. IsFront s more) (sym turn.rest) needs.1)

  from_next : (more : List Load) → loads (drop i entries) d ≡ cons_option (load_for d entry) more → found ≡ true → IsFront new more → IsFront l (loads (drop i entries) d)
  from_next more places first f = subst (IsFront l) (sym places) (step_taken l new (load_for d entry) more (turn.first.0 first) turn.rest f)

  places_open : closes d entry ≡ false → loads (drop i entries) d ≡ cons_option (load_for d entry) (loads (drop (i + 1) entries) d)
  places_open open_after = ap (λ es. loads es d) (at_entry entries i entry turn.within turn.here) ∙ loads_open d entry (drop (i + 1) entries) open_after

  places_closed : closes d entry ≡ true → loads (drop i entries) d ≡ cons_option (load_for d entry) []
  places_closed closed = ap (λ es. loads es d) (at_entry entries i entry turn.within turn.here) ∙ loads_closed d entry (drop (i + 1) entries) closed

  pub passed : found ≡ true → closes d entry ≡ false → IsFront l (loads (drop i entries) d) ↔ IsFront new (loads (drop (i + 1) entries) d)
  passed first stays = (
    (λ f. (to_next (loads (drop (i + 1) entries) d) (places_open stays) f).1),
    from_next (loads (drop (i + 1) entries) d) (places_open stays) first,
  )

  pub closed : found ≡ true → closes d entry ≡ true → IsFront l (loads (drop i entries) d) ↔ (is_nothing new ≡ true)
  closed first ends = (
    (λ f. front_of_none new (to_next [] (places_closed ends) f).1),
    (λ none. from_next [] (places_closed ends) first (nothing_fronts new [] none)),
  )

  pub refused : found ≡ false → IsFront l (loads (drop i entries) d) → false ≡ true
  refused other f = sym other ∙ by (closes d entry) refl
    where
      by : (b : Bool) → closes d entry ≡ b → found ≡ true
      by true ends = (to_next [] (places_closed ends) f).0
      by false stays = (to_next (loads (drop (i + 1) entries) d) (places_open stays) f).0
