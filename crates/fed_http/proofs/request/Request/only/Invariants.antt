use Rattle.std.proofs.Common.{◌≡◌, ◌++◌, drop}
use Rattle.fed_http.specs.Framing.{values_of}
use Rattle.fed_http.proofs.Values.{found_list}
use Rattle.fed_http.proofs.request.Request.only.Given as goal

-- what was found, and what is left
abbrev pub invariant-loop-field : goal.invariant-loop-field
invariant-loop-field l = found_list l.found ++ values_of l.name (drop l.field-index l.field-items) ≡ values_of l.name l.field-items
