-- What events that wait lack, for the clauses of private functions.
use Rattle.std.specs.Prelude.{◌≡◌, ⊤, ℕ, zero, suc, List, [], ◌∷◌, not, Option, Some, option_map, find}
use Rattle.fed_event.specs.Checked.{CheckedEvent}
use Rattle.fed_room_contract.specs.declared.graph.Stored.{Stored}
use Rattle.fed_room_contract.specs.Graph.{is_stored, named_by}
use Rattle.fed_room_contract.specs.Tags.{tag_of_text}

-- a number by which most ids are told apart
abbrev pub tag_of_id : List ℕ → ℕ
tag_of_id id = tag_of_text 0 id

-- the tag of the first of these ids that is not stored
abbrev pub lack_among : List Stored → List (List ℕ) → Option ℕ
lack_among stored ids = option_map tag_of_id (find (λ id. not (is_stored stored id)) ids)

-- what an event lacks: the tag of the first event that it names and that is not stored
abbrev pub lack_of : List Stored → CheckedEvent → Option ℕ
lack_of stored event = lack_among stored (named_by event.event)

-- the first so many of some lacks are right, and so is each behind them that is not this tag
abbrev pub AreRight : ℕ → ℕ → List (Option ℕ) → List (Option ℕ) → Type 0
AreRight count tag [] [] = ⊤
AreRight count tag [] (lack ∷ lacks) = ⊥
AreRight count tag (right ∷ rights) [] = ⊥
AreRight zero tag (right ∷ rights) (lack ∷ lacks) = ((lack ≡ Some tag → ⊥) → lack ≡ right) × AreRight zero tag rights lacks
AreRight (suc count) tag (right ∷ rights) (lack ∷ lacks) = (lack ≡ right) × AreRight count tag rights lacks
