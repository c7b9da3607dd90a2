-- Looking for the keys of a server, and for a user without; what is started where all users have keys.
use Rattle.std.proofs.Common.{◌≡◌, ◌<◌, ◌+◌, ℕ, List, [], ◌∷◌, length, drop, map, Bool, true, false, cond, is_none, Option, Some, None, Ok, option_map, slice_index_or, refl, sym, ap, ◌∙◌, if◌then◌else◌}
use Rattle.fed_room_contract.specs.Prepared.{Signer, is_own_user}
use Rattle.fed_room_contract.specs.Draft.{DraftFields}
use Rattle.fed_redaction.specs.declared.version.Version.{Version}
use Rattle.fed_room.specs.Creation.{drafts_of, events_in, keys_of, after_drafts, keyless, unless_keyless, started_of}
use Rattle.fed_room.specs.Line.{empty_line}
use Rattle.fed_room.proofs.AtPlaces.{left_here}

pub none-mapped : {X Y : Type 0} (f : X → Y) (o : Option X) → is_none (option_map f o) ≡ is_none o
none-mapped f None = refl
none-mapped f (Some x) = refl

module _ {X : Type 0} (signer : X → Signer) where
  pub keys-here : (keys : List X) (user : List ℕ) (i : ℕ) (k : X) → i < length keys → k ≡ slice_index_or keys i k → is_own_user (signer k).name user ≡ true → keys_of signer (drop i keys) user ≡ Some k
  keys-here keys user i k below is own =
      ap (λ ks. keys_of signer ks user) (left_here keys i k below is) ∙ ap (λ b. cond b (Some k) (keys_of signer (drop (i + 1) keys) user)) own

  pub keys-next : (keys : List X) (user : List ℕ) (i : ℕ) (k : X) → i < length keys → k ≡ slice_index_or keys i k → is_own_user (signer k).name user ≡ false → keys_of signer (drop i keys) user ≡ keys_of signer (drop (i + 1) keys) user
  keys-next keys user i k below is own =
      ap (λ ks. keys_of signer ks user) (left_here keys i k below is) ∙ ap (λ b. cond b (Some k) (keys_of signer (drop (i + 1) keys) user)) own

  pub keys-own : (keys : List X) (user : List ℕ) (k : X) → keys_of signer keys user ≡ Some k → is_own_user (signer k).name user ≡ true
  keys-own [] user k h = absurd (cc)
  keys-own (other ∷ keys) user k h = by (is_own_user (signer other).name user) refl h (keys-own keys user k)
    where
      by : (b : Bool) → is_own_user (signer other).name user ≡ b → cond b (Some other) (keys_of signer keys user) ≡ Some k → (keys_of signer keys user ≡ Some k → is_own_user (signer k).name user ≡ true) → is_own_user (signer k).name user ≡ true
      by true own same later = let same : other ≡ k = cc in ap (λ k. is_own_user (signer k).name user) (sym same) ∙ own
      by false own same later = later same

  module _ (keys : List X) {T : Type 0} (text : T → List ℕ) (users : List T) (i : ℕ) (user : T) (below : i < length users) (is : user ≡ slice_index_or users i user) where
    looked : keyless signer keys (i + 1) (map text (drop i users)) ≡ (if is_none (keys_of signer keys (text user)) then Some (i + 1) else keyless signer keys (i + 1 + 1) (map text (drop (i + 1) users)))
    looked = ap (λ us. keyless signer keys (i + 1) (map text us)) (left_here users i user below is)

    pub keyless-here : is_none (keys_of signer keys (text user)) ≡ true → {answer : Option ℕ} → keyless signer keys (i + 1) (map text (drop i users)) ≡ answer → Some (i + 1) ≡ answer
    keyless-here none same = sym (looked ∙ ap (λ b. if b then Some (i + 1) else keyless signer keys (i + 1 + 1) (map text (drop (i + 1) users))) none) ∙ same

    pub keyless-next : is_none (keys_of signer keys (text user)) ≡ false → {answer : Option ℕ} → keyless signer keys (i + 1) (map text (drop i users)) ≡ answer → keyless signer keys (i + 1 + 1) (map text (drop (i + 1) users)) ≡ answer
    keyless-next some same = sym (looked ∙ ap (λ b. if b then Some (i + 1) else keyless signer keys (i + 1 + 1) (map text (drop (i + 1) users))) some) ∙ same

  pub started-is : (keys : List X) (version : Version) (room : List ℕ) {T : Type 0} (text : T → List ℕ) (users : List T) (first : T) (others : List T) (drafts : List DraftFields) → users ≡ first ∷ others
      → keyless signer keys 1 (map text users) ≡ None → drafts ≡ drafts_of version room (text first) (map text others)
      → started_of signer keys version room (map text users) ≡ events_in (after_drafts signer keys (Ok (empty_line version)) drafts)
  started-is keys version room text users first others drafts e none same =
      ap (λ us. started_of signer keys version room (map text us)) e
      ∙ ap (λ o. unless_keyless signer keys o (events_in (after_drafts signer keys (Ok (empty_line version)) (drafts_of version room (text first) (map text others))))) (ap (λ us. keyless signer keys 1 (map text us)) (sym e) ∙ none)
      ∙ ap (λ (ds : List DraftFields). events_in (after_drafts signer keys (Ok (empty_line version)) ds)) (sym same)
