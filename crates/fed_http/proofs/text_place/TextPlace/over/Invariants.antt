use Rattle.std.proofs.Common.{List, ℕ, ◌++◌, take}
use Rattle.fed_http.specs.TextPlaces.{Follows, HasFew, IsLate}
use Rattle.fed_http.specs.declared.message.Kind.TheVariants.{Requests}
use Rattle.fed_http.proofs.text_place.TextPlace.over.Given as goal

abbrev pub invariant-loop-byte : goal.invariant-loop-byte
invariant-loop-byte l = record {
  few : HasFew l.fn.self → HasFew l.place;
  late : IsLate l.fn.self → IsLate l.place;
  follows : (rest : List ℕ) (n : ℕ) → Follows Requests l.place rest n → Follows Requests l.fn.self (take l.byte-index l.more ++ rest) n;
}
