-- A board: words that only rise, each owned by one seat. A word is its owner's count, and no seat has seen more in it than it is.
use Rattle.std.specs.Prelude.{◌≡◌, ℕ, ◌+◌, ◌<◌, ◌≤◌, List, length, max, replicate, slice_index, slice_set}
use mathlib.Core.Option.{some}
use lib.ListN.{get_elem?}
use Rattle.atomic_table.specs.Table.{State, Step, Me}
use Rattle.fed_wires.specs.declared.board_rule.Owned.{Owned}
use Rattle.fed_wires.specs.declared.board_rule.Look.{Look}

abbrev pub owned : ℕ → ℕ → ℕ → Owned
owned from until count = record { from = from; until = until; count = count }

abbrev pub look : Owned → List ℕ → ℕ → Look
look words seen loads = record { owned = words; seen = seen; loads = loads }

-- one of the words
abbrev pub Owns : Owned → ℕ → Type 0
Owns o word = (o.from ≤ word) × (word < o.until)

-- owns all words, which are 0
abbrev pub all_words : ℕ → Look
all_words words = look (owned 0 words 0) (replicate words 0) 0

-- owns none
abbrev pub looker : List ℕ → ℕ → Look
looker seen loads = look (owned 0 0 0) seen loads

abbrev pub without_first : Look → Look
without_first v = look (owned (v.owned.from + 1) v.owned.until v.owned.count) v.seen v.loads

abbrev pub first_alone : Look → Look
first_alone v = look (owned v.owned.from (v.owned.from + 1) v.owned.count) v.seen 0

-- the words are the counts of the seats that own them, and at least what any seat has seen in them
abbrev pub Fits : (ℕ → ℕ) → List ℕ → ℕ → Look → Type 0
Fits owner words seat v =
    ((k : ℕ) → v.owned.from ≤ k → k < v.owned.until → (owner k ≡ seat) × (slice_index words k ≡ v.owned.count))
    × ((k : ℕ) → slice_index v.seen k ≤ slice_index words k)

-- the rule: there is one owner for each of the words, and each seat's view fits
abbrev pub Counted : ℕ → State (Unit {0}) Look → Type 0
Counted words s =
    (owner : ℕ → ℕ) × (length s.words ≡ words)
    × ((seat : ℕ) (v : Look) → get_elem? s.views seat ≡ some v → Fits owner s.words seat v)

-- a seat found the word as it is: no less than what it had seen, and its own count where it owns the word
abbrev pub Loaded : Step (Unit {0}) → Me (Unit {0}) Look → ℕ → Me (Unit {0}) Look → Type 0
Loaded s v found w =
    (w ≡ (look v.0.owned (slice_set v.0.seen s.word found) (v.0.loads + 1), v.1))
    × (slice_index v.0.seen s.word ≤ found)
    × (Owns v.0.owned s.word → found ≡ v.0.owned.count)

-- the owner of a word raised it to what the step says, where that is more
abbrev pub Raised : Step (Unit {0}) → Me (Unit {0}) Look → ℕ → Me (Unit {0}) Look → Type 0
Raised s v found w = w ≡ (look (owned v.0.owned.from v.0.owned.until (max v.0.owned.count s.first)) v.0.seen v.0.loads, v.1)
