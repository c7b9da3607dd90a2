-- Events that wait, and are not stored.
use Rattle.std.proofs.Common.{◌≡◌, ℕ, List, [], ◌∷◌, ◌++◌, Bool, true, false, ◌&&◌, ◌||◌, not, cond, find, Some, refl, sym, ap, ◌∙◌, true≢false}
use Rattle.std.proofs.lemmas.Slice.Eq.{bytes_eq-Decides}
use Rattle.std.specs.Str.{bytes_eq}
use Rattle.fed_event.specs.Checked.{CheckedEvent}
use Rattle.fed_room_contract.specs.declared.graph.Stored.{Stored}
use Rattle.fed_room_contract.specs.Graph.{has_id, id_of, is_stored}
use Rattle.fed_room_contract.specs.Room.{event_id, is_of_id, without, none_stored}

differ : (xs ys : List ℕ) → bytes_eq xs ys ≡ false → bytes_eq ys xs ≡ false
differ xs ys h = by (bytes_eq ys xs) refl
  where
    by : (b : Bool) → bytes_eq ys xs ≡ b → b ≡ false
    by false t = refl
    by true t = absurd (true≢false (sym ((bytes_eq-Decides xs ys).1 (sym ((bytes_eq-Decides ys xs).0 t))) ∙ h))

-- an id that is not that of the last one
pub still_not : (xs : List Stored) (s : Stored) (id : List ℕ) → is_stored xs id ≡ false → has_id id s ≡ false → is_stored (xs ++ s ∷ []) id ≡ false
still_not [] s id h t = ap (λ b. b || false) t
still_not (x ∷ xs) s id h t = by (has_id id x) h (still_not xs s id)
  where
    by : (b : Bool) → (b || is_stored xs id) ≡ false → (is_stored xs id ≡ false → has_id id s ≡ false → is_stored (xs ++ s ∷ []) id ≡ false) → (b || is_stored (xs ++ s ∷ []) id) ≡ false
    by true h later = absurd (cc)
    by false h later = later h t

first : (a b : Bool) → (a && b) ≡ true → a ≡ true
first true b h = refl
first false b h = absurd (cc)

second : (a b : Bool) → (a && b) ≡ true → b ≡ true
second true b h = h
second false b h = absurd (cc)

is_false : (b : Bool) → not b ≡ true → b ≡ false
is_false true h = absurd (cc)
is_false false h = refl

-- one more is stored, and waits no longer
pub apart-stored : (xs : List Stored) (s : Stored) (waiting : List CheckedEvent) → none_stored xs waiting ≡ true → none_stored (xs ++ s ∷ []) (without (id_of s) waiting) ≡ true
apart-stored xs s [] h = refl
apart-stored xs s (e ∷ es) h = by (is_of_id (id_of s) e) refl (apart-stored xs s es (second (not (is_stored xs (event_id e))) _ h))
  where
    by : (b : Bool) → is_of_id (id_of s) e ≡ b → none_stored (xs ++ s ∷ []) (without (id_of s) es) ≡ true → none_stored (xs ++ s ∷ []) (cond (not b) (e ∷ without (id_of s) es) (without (id_of s) es)) ≡ true
    by true t later = later
    by false t later =
        let not_before = is_false (is_stored xs (event_id e)) (first _ _ h) in
        let new = still_not xs s (event_id e) not_before (differ (event_id e) (id_of s) t) in
        ap (λ b. not b && none_stored (xs ++ s ∷ []) (without (id_of s) es)) new ∙ later

-- one more waits
pub apart-waits : (xs : List Stored) (e : CheckedEvent) (waiting : List CheckedEvent) → none_stored xs waiting ≡ true → is_stored xs (event_id e) ≡ false → none_stored xs (waiting ++ e ∷ []) ≡ true
apart-waits xs e [] h t = ap (λ b. not b && true) t
apart-waits xs e (x ∷ ws) h t =
    ap (λ b. b && none_stored xs (ws ++ e ∷ [])) (first (not (is_stored xs (event_id x))) _ h) ∙ apart-waits xs e ws (second (not (is_stored xs (event_id x))) _ h) t

-- what is found passes the test, and is one of the list
pub found_passes : (p : CheckedEvent → Bool) (xs : List CheckedEvent) (e : CheckedEvent) → find p xs ≡ Some e → p e ≡ true
found_passes p [] e h = absurd (cc)
found_passes p (x ∷ xs) e h = by (p x) refl h (found_passes p xs e)
  where
    by : (b : Bool) → p x ≡ b → cond b (Some x) (find p xs) ≡ Some e → (find p xs ≡ Some e → p e ≡ true) → p e ≡ true
    by true t h later = let same : x ≡ e = cc in ap p (sym same) ∙ t
    by false t h later = later h

pub found_apart : (xs : List Stored) (p : CheckedEvent → Bool) (waiting : List CheckedEvent) (e : CheckedEvent) → none_stored xs waiting ≡ true → find p waiting ≡ Some e → is_stored xs (event_id e) ≡ false
found_apart xs p [] e h is = absurd (cc)
found_apart xs p (x ∷ ws) e h is = by (p x) is (found_apart xs p ws e (second (not (is_stored xs (event_id x))) _ h))
  where
    by : (b : Bool) → cond b (Some x) (find p ws) ≡ Some e → (find p ws ≡ Some e → is_stored xs (event_id e) ≡ false) → is_stored xs (event_id e) ≡ false
    by true t later = let same : x ≡ e = cc in ap (λ (y : CheckedEvent). is_stored xs (event_id y)) (sym same) ∙ is_false _ (first _ _ h)
    by false t later = later t
