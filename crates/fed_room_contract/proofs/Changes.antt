-- Changes of a state.
use Rattle.std.proofs.Common.{◌≡◌, ◌≢◌, ◌++◌, ◌∷◌, [], ℕ, List, Bool, true, false, ◌&&◌, ◌||◌, cond, All, Option, None, Some, option_map, find, map, nat_cmp, true≢false, refl, sym, ap, ◌∙◌}
use Rattle.std.proofs.lemmas.Bool.{and_parts}
use Rattle.std.proofs.lemmas.List.Elements.{All-head, All-tail}
use Rattle.std.proofs.lemmas.Slice.Eq.{bytes_eq-Decides}
use Rattle.std.specs.Prelude.{string_bytes, bytes_eq, is_some, if◌then◌else◌}
use Rattle.std.specs.FinMap as finite
use Rattle.std.specs.List.{list_any}
use Rattle.std.specs.Ordering.{eq_by_cmp}
use Rattle.std.specs.Cmp.{tied_then}
use Rattle.std.specs.Cmp.Lexicographic.{slice_cmp}
use Rattle.fed_room_contract.specs.State.{StateKey, StateMap, key_cmp, entry_at, with_entry}
use Rattle.fed_room_contract.specs.Steps.{IsAlikeBut}
use Rattle.fed_room_contract.specs.ChangeParts.{key_of, held_by, is_change_at, is_changed, with_change, with_changes}
use Rattle.fed_room_contract.specs.declared.change.Change.{Change}
use Rattle.fed_room_contract.proofs.Filled.{tied}
use Rattle.fed_room_contract.proofs.TextUpdates.{same_test}
use Rattle.fed_room_contract.proofs.States.{key_cmp_total, key_cmp_same, entry_at-same, entry_at-other, removed-same, removed-other}

-- ---- at a key

pub is-at : (kind key : List ℕ) (c : Change) → is_change_at kind key c ≡ true → key_of c ≡ (kind, key)
is-at kind key c h =
    let parts = and_parts (bytes_eq (string_bytes c.state_key) key) (bytes_eq (string_bytes c.kind) kind) h in
    let one = (bytes_eq-Decides (string_bytes c.kind) kind).0 parts.1 in
    let two = (bytes_eq-Decides (string_bytes c.state_key) key).0 parts.0 in
    λ i. (one i, two i)

not-at : (kind key : List ℕ) (c : Change) → is_change_at kind key c ≡ false → ◌≢◌ {A = StateKey} (kind, key) (key_of c)
not-at kind key c h e =
    let one : bytes_eq (string_bytes c.kind) kind ≡ true = (bytes_eq-Decides (string_bytes c.kind) kind).1 (ap (λ (q : StateKey). q.0) (sym e)) in
    let two : bytes_eq (string_bytes c.state_key) key ≡ true = (bytes_eq-Decides (string_bytes c.state_key) key).1 (ap (λ (q : StateKey). q.1) (sym e)) in
    true≢false (sym (λ i. two i && one i) ∙ h)

here : (s : StateMap) (c : Change) (kind key : List ℕ) → is_change_at kind key c ≡ true → entry_at (with_change s c) kind key ≡ held_by c
here s c kind key h = by c.holds
  where
    same : key_of c ≡ (kind, key)
    same = is-at kind key c h

    by : (b : Bool) → entry_at (if b then with_entry s (string_bytes c.kind) (string_bytes c.state_key) c.id else finite.remove s (key_of c)) kind key ≡ (if b then Some c.id else None)
    by true = ap (λ (q : StateKey). entry_at (with_entry s q.0 q.1 c.id) kind key) same ∙ entry_at-same s kind key c.id
    by false = ap (λ (q : StateKey). entry_at (finite.remove s q) kind key) same ∙ removed-same s kind key

apart : (s : StateMap) (c : Change) (kind key : List ℕ) → is_change_at kind key c ≡ false → entry_at (with_change s c) kind key ≡ entry_at s kind key
apart s c kind key h = by c.holds
  where
    by : (b : Bool) → entry_at (if b then with_entry s (string_bytes c.kind) (string_bytes c.state_key) c.id else finite.remove s (key_of c)) kind key ≡ entry_at s kind key
    by true = entry_at-other s (string_bytes c.kind) (string_bytes c.state_key) c.id (kind, key) (not-at kind key c h)
    by false = removed-other s (key_of c) (kind, key) (not-at kind key c h)

-- what is found by a look-up among changes and below them
abbrev pub found : Option Change → Option (List ℕ) → Option (List ℕ)
found None below = below
found (Some c) below = held_by c

pub found-changes : (s : StateMap) (cs : List Change) (kind key : List ℕ) → entry_at (with_changes s cs) kind key ≡ found (find (is_change_at kind key) cs) (entry_at s kind key)
found-changes s [] kind key = refl
found-changes s (c ∷ cs) kind key = by (is_change_at kind key c) refl (found-changes s cs kind key)
  where
    by : (b : Bool) → is_change_at kind key c ≡ b → entry_at (with_changes s cs) kind key ≡ found (find (is_change_at kind key) cs) (entry_at s kind key)
        → entry_at (with_change (with_changes s cs) c) kind key ≡ found (cond b (Some c) (find (is_change_at kind key) cs)) (entry_at s kind key)
    by true h rest = here (with_changes s cs) c kind key h
    by false h rest = apart (with_changes s cs) c kind key h ∙ rest

pub first-not : (a b : Bool) → (a || b) ≡ false → a ≡ false
first-not true b h = h
first-not false b h = refl

pub second-not : (a b : Bool) → (a || b) ≡ false → b ≡ false
second-not true b h = absurd (true≢false h)
second-not false b h = h

pub none-found : (cs : List Change) (kind key : List ℕ) → is_changed cs (kind, key) ≡ false → find (is_change_at kind key) cs ≡ None
none-found [] kind key h = refl
none-found (c ∷ cs) kind key h =
    ap (λ b. cond b (Some c) (find (is_change_at kind key) cs)) (first-not (is_change_at kind key c) (is_changed cs (kind, key)) h)
    ∙ none-found cs kind key (second-not (is_change_at kind key c) (is_changed cs (kind, key)) h)

-- where there is no change, all is as before
pub unchanged : (s : StateMap) (cs : List Change) (q : StateKey) → is_changed cs q ≡ false → finite.get (with_changes s cs) q ≡ finite.get s q
unchanged s cs q h = found-changes s cs q.0 q.1 ∙ ap (λ o. found o (finite.get s q)) (none-found cs q.0 q.1 h)

-- ---- changes to what another state has

turned : (a b : Bool) → (a && b) ≡ (b && a)
turned true true = refl
turned true false = refl
turned false true = refl
turned false false = refl

at-key : (c : Change) (q : StateKey) → is_change_at q.0 q.1 c ≡ eq_by_cmp key_cmp q (key_of c)
at-key c q =
    turned (bytes_eq (string_bytes c.state_key) q.1) (bytes_eq (string_bytes c.kind) q.0)
    ∙ (λ i. same_test (string_bytes c.kind) q.0 i && same_test (string_bytes c.state_key) q.1 i)
    ∙ tied_then (slice_cmp nat_cmp q.0 (string_bytes c.kind)) (slice_cmp nat_cmp q.1 (string_bytes c.state_key))

changed-keys : (cs : List Change) (q : StateKey) → is_changed cs q ≡ list_any (eq_by_cmp key_cmp q) (map key_of cs)
changed-keys [] q = refl
changed-keys (c ∷ cs) q = λ i. at-key c q i || changed-keys cs q i

held-first : (state : StateMap) (cs : List Change) (q : StateKey) → All (λ c. held_by c ≡ finite.get state (key_of c)) cs → is_changed cs q ≡ true → found (find (is_change_at q.0 q.1) cs) None ≡ finite.get state q
held-first state [] q all h = absurd (true≢false (sym h))
held-first state (c ∷ cs) q all h = by (is_change_at q.0 q.1 c) refl (held-first state cs q (All-tail (λ c. held_by c ≡ finite.get state (key_of c)) c cs all))
  where
    by : (b : Bool) → is_change_at q.0 q.1 c ≡ b → (is_changed cs q ≡ true → found (find (is_change_at q.0 q.1) cs) None ≡ finite.get state q)
        → found (cond b (Some c) (find (is_change_at q.0 q.1) cs)) None ≡ finite.get state q
    by true e rest = All-head (λ c. held_by c ≡ finite.get state (key_of c)) c cs all ∙ ap (finite.get state) (is-at q.0 q.1 c e)
    by false e rest = rest (ap (λ b. b || is_changed cs q) (sym e) ∙ h)

some-found : (cs : List Change) (kind key : List ℕ) (below : Option (List ℕ)) → is_changed cs (kind, key) ≡ true → found (find (is_change_at kind key) cs) below ≡ found (find (is_change_at kind key) cs) None
some-found [] kind key below h = absurd (true≢false (sym h))
some-found (c ∷ cs) kind key below h = by (is_change_at kind key c) refl (some-found cs kind key below)
  where
    by : (b : Bool) → is_change_at kind key c ≡ b → (is_changed cs (kind, key) ≡ true → found (find (is_change_at kind key) cs) below ≡ found (find (is_change_at kind key) cs) None)
        → found (cond b (Some c) (find (is_change_at kind key) cs)) below ≡ found (cond b (Some c) (find (is_change_at kind key) cs)) None
    by true e rest = refl
    by false e rest = rest (ap (λ b. b || is_changed cs (kind, key)) (sym e) ∙ h)

-- changes at all keys at which two states may differ, to what the second has, make it of the first
pub made-of : (before state keys : StateMap) (cs : List Change) → map key_of cs ≡ finite.keys keys → All (λ c. held_by c ≡ finite.get state (key_of c)) cs → IsAlikeBut keys before state
    → with_changes before cs ≡ state
made-of before state keys cs same held alike = finite.same_map key_cmp_total key_cmp_same _ _ (λ q. by q (is_changed cs q) refl)
  where
    by : (q : StateKey) (b : Bool) → is_changed cs q ≡ b → finite.get (with_changes before cs) q ≡ finite.get state q
    by q true h = found-changes before cs q.0 q.1 ∙ some-found cs q.0 q.1 (finite.get before q) h ∙ held-first state cs q held h
    by q false h =
        let missing : finite.contains_key keys q ≡ false = finite.contains_key-keys keys q ∙ ap (list_any (eq_by_cmp key_cmp q)) (sym same) ∙ sym (changed-keys cs q) ∙ h in
        unchanged before cs q h ∙ sym (alike q missing)

-- ---- keys

-- one of the entries is at the key
abbrev pub has_key : List (StateKey × List ℕ) → StateKey → Bool
has_key es q = list_any (λ e. eq_by_cmp key_cmp q e.0) es

any-keys : (es : List (StateKey × List ℕ)) (q : StateKey) → list_any (eq_by_cmp key_cmp q) (map (λ e. e.0) es) ≡ has_key es q
any-keys [] q = refl
any-keys (e ∷ es) q = ap (λ b. eq_by_cmp key_cmp q e.0 || b) (any-keys es q)

pub all-keys : (state : StateMap) (q : StateKey) → has_key (finite.entries state) q ≡ finite.contains_key state q
all-keys state q = sym (any-keys (finite.entries state) q) ∙ sym (finite.contains_key-keys state q)

is_some-cond : {X : Type 0} (b : Bool) (x : X) (o : Option X) → is_some (cond b (Some x) o) ≡ (is_some o || b)
is_some-cond true x None = refl
is_some-cond true x (Some y) = refl
is_some-cond false x None = refl
is_some-cond false x (Some y) = refl

-- an entry more is a key more
pub key-more : (s : StateMap) (k : StateKey) (id : List ℕ) (q : StateKey) → finite.contains_key (finite.insert s k id) q ≡ (finite.contains_key s q || eq_by_cmp key_cmp q k)
key-more s k id q = ap is_some (finite.get-insert key_cmp_total s k id q) ∙ is_some-cond (eq_by_cmp key_cmp q k) id (finite.get s q)

pub key-there : (s : StateMap) (k q : StateKey) → finite.contains_key s k ≡ true → finite.contains_key s q ≡ (finite.contains_key s q || eq_by_cmp key_cmp q k)
key-there s k q h = by (eq_by_cmp key_cmp q k) refl
  where
    kept : (b : Bool) → b ≡ (b || false)
    kept true = refl
    kept false = refl

    all : (b : Bool) → b ≡ true → b ≡ (b || true)
    all true e = refl
    all false e = absurd (true≢false (sym e))

    by : (b : Bool) → eq_by_cmp key_cmp q k ≡ b → finite.contains_key s q ≡ (finite.contains_key s q || b)
    by false e = kept (finite.contains_key s q)
    by true e = all (finite.contains_key s q) (ap (λ (x : StateKey). finite.contains_key s x) (key_cmp_same q k (tied _ e)) ∙ h)

or_step : (a b c : Bool) → ((a || b) || c) ≡ (a || (b || c))
or_step true b c = refl
or_step false b c = refl

or_none : (b : Bool) → b ≡ (b || false)
or_none true = refl
or_none false = refl

last-change : (cs : List Change) (c : Change) (q : StateKey) → (is_changed cs q || is_change_at q.0 q.1 c) ≡ is_changed (cs ++ c ∷ []) q
last-change [] c q = or_none (is_change_at q.0 q.1 c)
last-change (x ∷ cs) c q = or_step (is_change_at q.0 q.1 x) (is_changed cs q) (is_change_at q.0 q.1 c) ∙ ap (λ b. is_change_at q.0 q.1 x || b) (last-change cs c q)

last-key : (es : List (StateKey × List ℕ)) (e : StateKey × List ℕ) (q : StateKey) → (has_key es q || eq_by_cmp key_cmp q e.0) ≡ has_key (es ++ e ∷ []) q
last-key [] e q = or_none (eq_by_cmp key_cmp q e.0)
last-key (x ∷ es) e q = or_step (eq_by_cmp key_cmp q x.0) (has_key es q) (eq_by_cmp key_cmp q e.0) ∙ ap (λ b. eq_by_cmp key_cmp q x.0 || b) (last-key es e q)

-- the keys so far, with one more
pub more-changed : (before after next : StateMap) (cs : List Change) (c : Change) (q : StateKey)
    → finite.contains_key after q ≡ (finite.contains_key before q || is_changed cs q)
    → finite.contains_key next q ≡ (finite.contains_key after q || eq_by_cmp key_cmp q (key_of c))
    → finite.contains_key next q ≡ (finite.contains_key before q || is_changed (cs ++ c ∷ []) q)
more-changed before after next cs c q so_far more =
    more ∙ ap (λ b. b || eq_by_cmp key_cmp q (key_of c)) so_far
    ∙ or_step (finite.contains_key before q) (is_changed cs q) (eq_by_cmp key_cmp q (key_of c))
    ∙ ap (λ b. finite.contains_key before q || (is_changed cs q || b)) (sym (at-key c q))
    ∙ ap (λ b. finite.contains_key before q || b) (last-change cs c q)

pub more-entries : (before after next : StateMap) (es : List (StateKey × List ℕ)) (e : StateKey × List ℕ) (q : StateKey)
    → finite.contains_key after q ≡ (finite.contains_key before q || has_key es q)
    → finite.contains_key next q ≡ (finite.contains_key after q || eq_by_cmp key_cmp q e.0)
    → finite.contains_key next q ≡ (finite.contains_key before q || has_key (es ++ e ∷ []) q)
more-entries before after next es e q so_far more =
    more ∙ ap (λ b. b || eq_by_cmp key_cmp q e.0) so_far
    ∙ or_step (finite.contains_key before q) (has_key es q) (eq_by_cmp key_cmp q e.0)
    ∙ ap (λ b. finite.contains_key before q || b) (last-key es e q)

pub some-map : {X Y : Type 0} (f : X → Y) (o : Option X) → is_some (option_map f o) ≡ is_some o
some-map f None = refl
some-map f (Some x) = refl

-- the keys of entries that are seen
pub seen-keys : {E : Type 0} (shown : E → StateKey × List ℕ) (es : List E) → map (λ e. (shown e).0) es ≡ map (λ e. e.0) (map shown es)
seen-keys shown [] = refl
seen-keys shown (e ∷ es) = ap (λ xs. (shown e).0 ∷ xs) (seen-keys shown es)

pub none-there : {X : Type 0} (o : Option X) → is_some o ≡ false → o ≡ None
none-there None h = refl
none-there (Some x) h = absurd (true≢false h)
