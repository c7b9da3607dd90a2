-- The text of each verdict on an event.
use Rattle.std.specs.Prelude.{ℕ, List, ◌++◌, codes}
use Rattle.fed_event.specs.declared.fault.PduFault.{PduFault}
use Rattle.fed_event.specs.declared.fault.PduFault.TheVariants.{Memory, NotJson, NotCanonical, Missing, WrongKind, TooLarge, TooLong, TooMany, TooDeep}
use Rattle.fed_event.specs.Field.{field_name}

abbrev pub verdict_of : PduFault → List ℕ
verdict_of Memory = codes "out of memory"
verdict_of NotJson = codes "not json"
verdict_of NotCanonical = codes "not canonical"
verdict_of (Missing field) = codes "missing field: " ++ field_name field
verdict_of (WrongKind field) = codes "wrong kind: " ++ field_name field
verdict_of TooLarge = codes "event too large"
verdict_of (TooLong field) = codes "field too long: " ++ field_name field
verdict_of (TooMany field) = codes "too many: " ++ field_name field
verdict_of TooDeep = codes "event too deep"
