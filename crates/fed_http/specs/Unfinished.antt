-- Heads and trailers that have not ended, and may end yet.
use Rattle.std.specs.Prelude.{ℕ, suc, ◌<◌, ◌≤◌, List}
use Rattle.httparse.specs.Grammar.{HasNoSection, MayBecomeSection}
use Rattle.fed_http.specs.Limits.{max_fields, window}
use Rattle.fed_http.specs.Lines.{line_feeds, head_lines, first_lines}
use Rattle.fed_http.specs.Head.{HasNoHead, MayBecomeHead}
use Rattle.fed_http.specs.declared.message.Kind.{Kind}

-- no head is there, the bytes may be the beginning of one, and no more lines have ended than the first and those of so many fields
pub record IsUnfinishedHead (kind : Kind) (bytes : List ℕ) : Type 0 where
  pub none : HasNoHead kind bytes
  pub may : MayBecomeHead kind bytes
  pub few : head_lines bytes ≤ suc max_fields

-- what is looked at of a trailer: of its first bytes as many lines as it may have, which are those of its fields and the empty one
abbrev pub trailer_front : List ℕ → List ℕ
trailer_front bytes = first_lines (window bytes) (suc max_fields)

-- the same of a trailer section
pub record IsUnfinishedTrailer (bytes : List ℕ) : Type 0 where
  pub none : HasNoSection bytes
  pub may : MayBecomeSection bytes
  pub few : line_feeds bytes ≤ max_fields

-- all lines that a trailer may have are there, and they are those of fields
pub record IsFullTrailer (bytes : List ℕ) : Type 0 where
  pub none : HasNoSection bytes
  pub may : MayBecomeSection bytes
  pub many : max_fields < line_feeds bytes
