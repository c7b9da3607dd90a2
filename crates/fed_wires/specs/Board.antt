-- What contracts see of a board: its name, which no other board has, and how many seats it has that own no word.
use Rattle.std.specs.Prelude.{ℕ, []}
use Rattle.atomic_table.specs.Seated.{TableId}

pub record BoardId : Type 0 where
  pub table : TableId

abbrev pub board_of : TableId → BoardId
board_of table = record { table = table }

abbrev pub word_count : BoardId → ℕ
word_count id = id.table.words

-- a name for where there is no board
abbrev pub no_board : BoardId
no_board = board_of record { words = 0; slots = 0; views_name = 0; atom = 0; block = 0; offset = 0; slot_names = [] }

pub record Shown : Type 0 where
  pub id : BoardId
  pub readers : ℕ
