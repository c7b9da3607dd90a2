-- A body that passes every test of a transaction, for the clause of a private function.
use Rattle.std.specs.Prelude.{◌≡◌, ℕ, ℤ, List, true, IsSome, Some}
use Rattle.serde_json.specs.Data.{Data}
use Rattle.serde_json.specs.Find.{as_object}
use Rattle.fed_txn.specs.Transaction.{origin_of, at_ms_of, pdus_of, edus_of, are_at_most}

pub record HasForm (body : Data) (origin : List ℕ) (at_ms : ℤ) : Type 0 where
  pub object : IsSome (as_object body)
  pub origin_is : origin_of body ≡ Some origin
  pub at_ms_is : at_ms_of body ≡ Some at_ms
  pub pdus : IsSome (pdus_of body)
  pub edus : IsSome (edus_of body)
  pub few_pdus : are_at_most 50 (pdus_of body) ≡ true
  pub few_edus : are_at_most 100 (edus_of body) ≡ true
