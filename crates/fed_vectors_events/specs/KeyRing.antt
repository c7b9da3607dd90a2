-- The keys that a call names: those of the kind that it is.
use Rattle.std.specs.Prelude.{◌≡◌, ℕ, List, true, refl}
use Rattle.std.proofs.lemmas.Slice.Eq.{bytes_eq-Decides}
use Rattle.fed_keys.specs.Keys.{Checks}
use Rattle.fed_keys.specs.StandIn.{stand_in_key, stand_in_signature, stand_in_checks}
use Rattle.fed_keys.specs.Trusting.{trusting_signature, trusting_checks}
use Rattle.fed_vectors_events.specs.declared.key_ring.KeyRing.{KeyRing}
use Rattle.fed_vectors_events.specs.declared.key_ring.Ring.{Ring}
use Rattle.fed_vectors_events.specs.declared.key_ring.Ring.TheVariants.{StandIn, Trusting}

abbrev pub ring_name : Ring → List ℕ
ring_name (StandIn own) = own
ring_name (Trusting own) = own

abbrev pub ring_signature : Ring → List ℕ → List ℕ
ring_signature (StandIn own) = stand_in_signature own
ring_signature (Trusting own) = trusting_signature

abbrev pub ring_checks : Ring → Checks
ring_checks (StandIn own) = stand_in_checks
ring_checks (Trusting own) = trusting_checks

-- the own server's name
abbrev pub name_of : KeyRing → List ℕ
name_of keys = ring_name keys.ring

abbrev pub signature_by : KeyRing → List ℕ → List ℕ
signature_by keys = ring_signature keys.ring

abbrev pub checks_by : KeyRing → Checks
checks_by keys = ring_checks keys.ring

checked : (ring : Ring) (message : List ℕ) → ring_checks ring (ring_name ring) stand_in_key message (ring_signature ring message) ≡ true
checked (StandIn own) message =
    (bytes_eq-Decides (stand_in_signature own message) (stand_in_signature own message)).1 refl
checked (Trusting own) message = refl

-- what is signed checks
pub signed-checks : (keys : KeyRing) (message : List ℕ)
    → checks_by keys (name_of keys) stand_in_key message (signature_by keys message) ≡ true
signed-checks keys message = checked keys.ring message
