-- What contracts see of what shows that a wire had no room: the wire, and for how many messages it had none.
use Rattle.std.specs.Prelude.{ℕ}
use Rattle.fed_wires.specs.WireId.{WireId}

pub record Lack (T : Type 0) : Type 0 where
  pub wire : WireId T
  pub count : ℕ
