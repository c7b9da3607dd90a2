-- What contracts see of a seat: its board, the words that it owns, the last value that it found in each word, and how often it loaded one.
use Rattle.std.specs.Prelude.{◌≡◌, ℕ, ◌+◌, ◌≤◌, List, All, drop, length, max, replicate, slice_index, slice_set, take}
use mathlib.Core.Option.{some}
use lib.ListN.{get_elem?}
use Rattle.fed_wires.specs.declared.board_rule.Owned.{Owned}
use Rattle.fed_wires.specs.Board.{BoardId, word_count}
use Rattle.fed_wires.specs.BoardRule.{owned}

pub record Seated : Type 0 where
  pub board : BoardId
  pub owned : Owned
  pub seen : List ℕ
  pub loads : ℕ

-- the owner of the one word, with its count
abbrev pub one_word : ℕ → ℕ → Owned
one_word word count = owned word (word + 1) count

-- owns one word; owns none
abbrev pub IsOwner : Seated → Type 0
IsOwner s = s.owned.until ≡ s.owned.from + 1

abbrev pub IsReader : Seated → Type 0
IsReader s = s.owned ≡ owned 0 0 0

-- a new seat, which has seen the words as they began
abbrev pub new_seat : BoardId → Owned → Seated
new_seat board words = record { board = board; owned = words; seen = replicate (word_count board) 0; loads = 0 }

-- found this in the word, by one load more
abbrev pub with_load : Seated → ℕ → ℕ → Seated
with_load s word found = record { board = s.board; owned = s.owned; seen = slice_set s.seen word found; loads = s.loads + 1 }

-- raised its word to the count, where that is more
abbrev pub with_raise : Seated → ℕ → Seated
with_raise s count = record { board = s.board; owned = owned s.owned.from s.owned.until (max s.owned.count count); seen = s.seen; loads = s.loads }

-- n seats, each of which owns these words
abbrev pub AreNewSeats : BoardId → ℕ → (ℕ → Owned) → List Seated → Type 0
AreNewSeats board n words seats = (length seats ≡ n) × ((k : ℕ) (s : Seated) → get_elem? seats k ≡ some s → s ≡ new_seat board (words k))

-- a seat for the owner of each word
abbrev pub AreOwners : BoardId → List Seated → Type 0
AreOwners board seats = AreNewSeats board (word_count board) (λ word. one_word word 0) seats

-- n seats that own no word
abbrev pub AreReaders : BoardId → ℕ → List Seated → Type 0
AreReaders board n seats = AreNewSeats board n (λ _. owned 0 0 0) seats

-- all are seats at the board
abbrev pub AreAt : BoardId → List Seated → Type 0
AreAt board seats = All (λ (s : Seated). s.board ≡ board) seats

-- They are all seats at a board with so many for readers: first those of the owners, one for each word, and then those of the readers.
pub record AreAll (board : BoardId) (readers : ℕ) (seats : List Seated) : Type 0 where
  pub count : length seats ≡ word_count board + readers
  pub same_board : AreAt board seats
  pub owners_first : All IsOwner (take (word_count board) seats)
  pub then_readers : All IsReader (drop (word_count board) seats)

-- what was seen in an owner's word is no more than the owner's count
abbrev pub HasShown : List ℕ → Seated → Type 0
HasShown seen owner = slice_index seen owner.owned.from ≤ owner.owned.count

-- no seat has seen more in a word than the word's owner has raised it to
abbrev pub NoneSawMore : List Seated → Type 0
NoneSawMore seats = All (λ owner. IsOwner owner → All (λ s. HasShown s.seen owner) seats) seats
