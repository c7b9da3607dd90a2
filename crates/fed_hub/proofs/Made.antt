-- A hub is made of wires and seats that nobody has used, by the server that the keys sign as.
use Rattle.std.proofs.Common.{◌≡◌, ◌==◌, not, ◌||◌, Bool, true, false, true≢false, ℕ, List, [], length, Option, Some, None, is_some, bytes_eq, refl, sym, ap, ◌∙◌}
use Rattle.std.specs.List.{slice_get}
use Rattle.std.specs.Option.{option_map}
use Rattle.std.proofs.lemmas.Option.{slice_get-map}
use Rattle.std.proofs.lemmas.Slice.Eq.{bytes_eq-Decides}
use Rattle.fed_dest.specs.List.{place_of}
use Rattle.fed_wires.specs.SendEnd.{Sender, new_sender}
use Rattle.fed_wires.specs.WireId.{WireId}
use Rattle.fed_hub.specs.Setup.{has_own_fault}
use Rattle.fed_hub.specs.Wires.{new_senders}

-- nothing went over a wire, and nothing came back
pub record IsUnused {T : Type 0} (e : Sender T) : Type 0 where
  pub sent : e.sent ≡ []
  pub returned : e.returned ≡ 0

unused_at : {T : Type 0} (e : Sender T) (o : Option (WireId T)) → option_map (λ (w : WireId T). new_sender w) o ≡ Some e → IsUnused e
unused_at e None is = absurd (cc)
unused_at {T} e (Some w) is =
    let same : new_sender w ≡ e = cc in
    record { sent = ap (λ (x : Sender T). x.sent) (sym same); returned = ap (λ (x : Sender T). x.returned) (sym same) }

pub unused : {T : Type 0} (wires : List (WireId T)) (k : ℕ) (e : Sender T) → slice_get (new_senders wires) k ≡ Some e → IsUnused e
unused {T} wires k e at = unused_at e (slice_get wires k) (sym (slice_get-map (λ (w : WireId T). new_sender w) wires k) ∙ at)

third : (a b c : Bool) → (a || (not b || not c)) ≡ false → c ≡ true
third a b true is = refl
third true b false is = absurd (true≢false is)
third false true false is = absurd (true≢false is)
third false false false is = absurd (true≢false is)

pub signs_as_own : (list : List (List ℕ)) (own signs : List ℕ) → has_own_fault list own signs ≡ false → signs ≡ own
signs_as_own list own signs is = sym ((bytes_eq-Decides own signs).0 (third (length list == 1) (is_some (place_of list own)) (bytes_eq own signs) is))
