use Rattle.std.proofs.Common.{◌≡◌, ◌++◌, map, drop}
use Rattle.httparse.specs.Spans.{header_bytes}
use Rattle.fed_http.specs.Framing.{values_of}
use Rattle.fed_http.proofs.Values.{found_list}
use Rattle.fed_http.proofs.framing.values_of.Given as goal

abbrev pub invariant-loop-field : goal.invariant-loop-field
invariant-loop-field l = found_list l.found ++ values_of l.name (map (header_bytes l.bytes) (drop l.field-index l.fields)) ≡ values_of l.name (map (header_bytes l.bytes) l.fields)
