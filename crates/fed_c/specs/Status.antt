-- The numbers that C sees (c/wikzord.h, `enum wikzord_status`).
use Rattle.std.specs.Prelude.{ℕ}
use Rattle.fed_c.specs.declared.status.Status.{Status}
use Rattle.fed_c.specs.declared.status.Status.TheVariants.{Done, BufferTooSmall, Memory, NotJson, NotCanonical, TooDeep, HashDiffers, NotUtf8, MissingField, WrongKind, EventTooLarge, FieldTooLong, TooManyIds, BodyTooLarge, BadBody, TooManyPdus, TooManyEdus, BadVerdicts, BadHeader, BadSignature, NotSigned, BadEvents, BadState, BadServers, BadIds, MissingEvents, BadVersion}

abbrev pub number_of : Status → ℕ
number_of Done = 0
number_of BufferTooSmall = 1
number_of Memory = 2
number_of NotJson = 3
number_of NotCanonical = 4
number_of TooDeep = 5
number_of HashDiffers = 6
number_of NotUtf8 = 7
number_of MissingField = 8
number_of WrongKind = 9
number_of EventTooLarge = 10
number_of FieldTooLong = 11
number_of TooManyIds = 12
number_of BodyTooLarge = 13
number_of BadBody = 14
number_of TooManyPdus = 15
number_of TooManyEdus = 16
number_of BadVerdicts = 17
number_of BadHeader = 18
number_of BadSignature = 19
number_of NotSigned = 20
number_of BadEvents = 21
number_of BadState = 22
number_of BadServers = 23
number_of BadIds = 24
number_of MissingEvents = 25
number_of BadVersion = 26
