-- As many fields as spans were written.
use Rattle.std.proofs.Common.{arith, ℕ, ◌≤◌, List, length, take, ap}
use Rattle.std.proofs.lemmas.List.{length-map, length-take}
use Rattle.std.proofs.Math.Nat.{min-le_left}
use Rattle.httparse.specs.Grammar.{Field}
use Rattle.httparse.specs.Spans.{AreFieldsAt, header_bytes, name_and_value}
use Rattle.httparse.specs.declared.spans.HeaderSpan.{HeaderSpan}
use Rattle.fed_http.specs.Limits.{max_fields}

pub few_fields : (bytes : List ℕ) (headers : List HeaderSpan) (count : ℕ) (fields : List Field) → count ≤ max_fields → AreFieldsAt bytes headers count fields → length fields ≤ max_fields
few_fields bytes headers count fields few are =
    omega (arith, ap length are, length-map (take count headers) (header_bytes bytes), length-map fields name_and_value, length-take count headers, min-le_left count (length headers))
