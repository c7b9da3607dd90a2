-- What an input has read and not yet given away, what is left of it, and how much it can still give.
use Rattle.std.specs.Prelude.{ℕ, ◌+◌, ◌-◌, ◌*◌, ◌==◌, ◌≤◌, List, length, slice_range, Bool, Option, IfSome}
use Rattle.std.specs.Io.KnownBytes.{prepend_known}
use Rattle.fed_app.specs.declared.input.Input.{Input}

abbrev pub is_newline : ℕ → Bool
is_newline byte = byte == 10

-- what was read and not yet taken
abbrev pub ahead_of : {R : Type 0} → Input R → List ℕ
ahead_of input = slice_range input.buffer.items input.start input.end

-- that, and then what the reader has left, where that is known
abbrev pub left_of : {R : Type 0} → (R → Option (List ℕ)) → Input R → Option (List ℕ)
left_of remaining input = prepend_known (ahead_of input) (remaining input.reader)

-- the most bytes that can still be taken: what was read, and 65,536 at each read
abbrev pub room_of : {R : Type 0} → Input R → ℕ
room_of input = (input.end - input.start) + input.reads * 65536

-- no more bytes were taken than the room fell by
abbrev pub Spends : Option (List ℕ) → Option (List ℕ) → ℕ → ℕ → Type 0
Spends old new room left = IfSome old (λ bytes. IfSome new (λ rest. length bytes + left ≤ length rest + room))
