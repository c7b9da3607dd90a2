use Rattle.std.proofs.Common.{◌≡◌, ◌++◌, drop}
use Rattle.std.specs.List.{flat_map}
use Rattle.fed_http.specs.Writing.{field_line}
use Rattle.fed_http.proofs.writing.push_fields.Given as goal

-- so far, and what is left
abbrev pub invariant-loop-field : goal.invariant-loop-field
invariant-loop-field l = l.text.items ++ flat_map field_line (drop l.field-index l.fields) ≡ l.fn.text.items ++ flat_map field_line l.fields
