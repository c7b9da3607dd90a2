-- Which value bytes are read as, and the first fault of bytes that are read as none.
use Rattle.std.specs.Prelude.{◌≡◌, ℕ, ◌<◌, ◌≤◌, List, true, false, Some, None, IsUtf8, Result, Ok, Err}
use Rattle.serde_json.specs.Data.{Data, depth}
use Rattle.serde_json.specs.Read.{read}
use Rattle.fed_json.specs.Profile.{all_whole}
use Rattle.fed_json.specs.declared.fault.JsonFault.{JsonFault}
use Rattle.fed_json.specs.declared.fault.JsonFault.TheVariants.{Memory}

-- the bytes are a text that `serde_json` reads as this value
abbrev pub ReadsAs : List ℕ → Data → Type 0
ReadsAs bytes d = IsUtf8 bytes × (read bytes ≡ Some d)

-- the bytes are no text, or one that `serde_json` reads as no value
abbrev pub IsNotJson : List ℕ → Type 0
IsNotJson bytes = IsUtf8 bytes → read bytes ≡ None

-- a value with a number that is not whole, or out of range
abbrev pub HasOtherNumber : List ℕ → Type 0
HasOtherNumber bytes = (d : Data) × ReadsAs bytes d × (all_whole d ≡ false)

-- a value of whole numbers that nests deeper than this
abbrev pub NestsPast : List ℕ → ℕ → Type 0
NestsPast bytes levels = (d : Data) × ReadsAs bytes d × (all_whole d ≡ true) × (levels < depth d)

-- a value of whole numbers that nests at most this deep
pub record ReadsWithin (bytes : List ℕ) (levels : ℕ) (d : Data) : Type 0 where
  pub reads : ReadsAs bytes d
  pub whole : all_whole d ≡ true
  pub shallow : depth d ≤ levels

-- this value, or want of memory
abbrev pub IsOnly : Result Data JsonFault → Data → Type 0
IsOnly (Ok e) d = e ≡ d
IsOnly (Err fault) d = fault ≡ Memory
