-- What a new inbox knows and what the verdicts of a transaction are, as look-ups.
use Rattle.std.proofs.Common.{◌≡◌, ◌≢◌, ℕ, List, [], ◌∷◌, map, filter, Bool, true, false, ◌&&◌, ◌||◌, not, cond, if◌then◌else◌, Option, Some, None, option_map, is_some, find, bytes_eq, Less, Equal, Greater, nat_cmp, refl, sym, ap, ◌∙◌, ◌⊎◌, inl, inr}
use Rattle.std.proofs.lemmas.Bool.{cases_Bool, false≢true}
use Rattle.std.proofs.lemmas.Slice.Eq.{bytes_eq-Decides}
use Rattle.std.proofs.lemmas.Map.Text.{is_eq-slice_cmp}
use Rattle.std.specs.FinMap as finite
use Rattle.std.specs.Ordering.{is_eq, match_ordering}
use Rattle.std.specs.BTreeSet.{insert_key}
use Rattle.std.specs.Cmp.Lexicographic.{slice_cmp, nat_list_cmp_total}
use Rattle.serde_json.specs.Data.{Data}
use Rattle.serde_json.specs.Find.{as_object}
use Rattle.fed_event.specs.Names.{is_one_of}
use Rattle.fed_inbox.specs.Elements.{element_id}
use Rattle.fed_event.specs.Keys.{Checks}
use Rattle.fed_txn.specs.Verdicts.{VerdictMap}
use Rattle.fed_inbox.specs.Rooms.{with_rooms}
use Rattle.fed_replies.specs.Kept.{KeptReplies}
use Rattle.fed_inbox.specs.Inbox.{log_at, new_log, logs_for}
use Rattle.fed_inbox.specs.Taking.{firsts_but, verdict_on, with_verdicts}
use Rattle.fed_inbox.specs.LookUps.{log_of_new, has_id}
use Rattle.fed_inbox.proofs.FoundLogs.{same_or_not}

-- ---- the rooms

swapped : (a b c : Bool) → (a || (b || c)) ≡ (b || (a || c))
swapped true true c = refl
swapped true false c = refl
swapped false true c = refl
swapped false false c = refl

twice : (a c : Bool) → (a || c) ≡ (a || (a || c))
twice true c = refl
twice false c = refl

equal_texts : (k x : List ℕ) → slice_cmp nat_cmp k x ≡ Equal → k ≡ x
equal_texts k x e = (bytes_eq-Decides k x).0 (sym (is_eq-slice_cmp k x) ∙ ap is_eq e)

room_entered : (set : List (List ℕ)) (k q : List ℕ) → is_one_of (insert_key (slice_cmp nat_cmp) set k) q ≡ (bytes_eq q k || is_one_of set q)
room_entered [] k q = refl
room_entered (x ∷ xs) k q =
    elim (slice_cmp nat_cmp k x) as (λ o. slice_cmp nat_cmp k x ≡ o → is_one_of (match_ordering o (k ∷ x ∷ xs) (x ∷ xs) (x ∷ insert_key (slice_cmp nat_cmp) xs k)) q ≡ (bytes_eq q k || (bytes_eq q x || is_one_of xs q))) [
      | Less ↦ (λ e. refl)
      | Equal ↦ (λ e. rw (equal_texts k x e) (twice (bytes_eq q x) (is_one_of xs q)))
      | Greater ↦ (λ e. ap (λ b. bytes_eq q x || b) (room_entered xs k q) ∙ swapped (bytes_eq q x) (bytes_eq q k) (is_one_of xs q))
    ]
    refl

moved : (a b c : Bool) → ((a || b) || c) ≡ (b || (a || c))
moved true true c = refl
moved true false c = refl
moved false b c = refl

pub rooms_known : (set rooms : List (List ℕ)) (q : List ℕ) → is_one_of (with_rooms set rooms) q ≡ (is_one_of set q || is_one_of rooms q)
rooms_known set [] q = or_false (is_one_of set q)
  where
    or_false : (b : Bool) → b ≡ (b || false)
    or_false true = refl
    or_false false = refl
rooms_known set (room ∷ rooms) q =
    rooms_known (insert_key (slice_cmp nat_cmp) set room) rooms q
    ∙ ap (λ b. b || is_one_of rooms q) (room_entered set room q)
    ∙ moved (bytes_eq q room) (is_one_of set q) (is_one_of rooms q)

-- ---- the logs

eq_true : (x : List ℕ) → bytes_eq x x ≡ true
eq_true x = (bytes_eq-Decides x x).1 refl

eq_false : (x y : List ℕ) → x ≢ y → bytes_eq x y ≡ false
eq_false x y apart = by (cases_Bool (bytes_eq x y))
  where
    by : (bytes_eq x y ≡ true) ⊎ (bytes_eq x y ≡ false) → bytes_eq x y ≡ false
    by (inl t) = absurd (apart ((bytes_eq-Decides x y).0 t))
    by (inr f) = f

and_false : (b : Bool) → (b && false) ≡ false
and_false true = refl
and_false false = refl

-- the own server has no log, listed or not
own_has_none : (kept : KeptReplies) (own : List ℕ) (ss : List (List ℕ)) (q : List ℕ) → bytes_eq q own ≡ true → log_of_new kept own ss q ≡ None
own_has_none kept own ss q t =
    ap (λ b. if is_one_of ss q && not b then Some (new_log kept q) else None) t
    ∙ ap (λ b. if b then Some (new_log kept q) else None) (and_false (is_one_of ss q))

not_first : (kept : KeptReplies) (own s : List ℕ) (ss : List (List ℕ)) (q : List ℕ) → q ≢ s → log_of_new kept own ss q ≡ log_of_new kept own (s ∷ ss) q
not_first kept own s ss q apart = ap (λ b. if (b || is_one_of ss q) && not (bytes_eq q own) then Some (new_log kept q) else None) (sym (eq_false q s apart))

first_is : (kept : KeptReplies) (own s : List ℕ) (ss : List (List ℕ)) → bytes_eq s own ≡ false → log_of_new kept own (s ∷ ss) s ≡ Some (new_log kept s)
first_is kept own s ss f =
    ap (λ b. if (b || is_one_of ss s) && not (bytes_eq s own) then Some (new_log kept s) else None) (eq_true s)
    ∙ ap (λ b. if not b then Some (new_log kept s) else None) f

-- the first of these servers has a log where it is not the own
first_log : (kept : KeptReplies) (own s : List ℕ) (ss : List (List ℕ)) (q : List ℕ) (b : Bool) → bytes_eq s own ≡ b
    → log_at q (logs_for kept own (s ∷ ss)) ≡ (if b then log_at q (logs_for kept own ss) else cond (bytes_eq s q) (Some (new_log kept s)) (log_at q (logs_for kept own ss)))
first_log kept own s ss q true e = ap (λ x. log_at q (map (new_log kept) (cond (not x) (s ∷ filter (λ server. not (bytes_eq server own)) ss) (filter (λ server. not (bytes_eq server own)) ss)))) e
first_log kept own s ss q false e = ap (λ x. log_at q (map (new_log kept) (cond (not x) (s ∷ filter (λ server. not (bytes_eq server own)) ss) (filter (λ server. not (bytes_eq server own)) ss)))) e

pub logs_listed : (kept : KeptReplies) (own : List ℕ) (servers : List (List ℕ)) (q : List ℕ) → log_at q (logs_for kept own servers) ≡ log_of_new kept own servers q
logs_listed kept own [] q = refl
logs_listed kept own (s ∷ ss) q = by (logs_listed kept own ss q) (cases_Bool (bytes_eq s own)) (same_or_not q s)
  where
    by : log_at q (logs_for kept own ss) ≡ log_of_new kept own ss q → (bytes_eq s own ≡ true) ⊎ (bytes_eq s own ≡ false) → (q ≡ s) ⊎ (q ≢ s)
        → log_at q (logs_for kept own (s ∷ ss)) ≡ log_of_new kept own (s ∷ ss) q
    by later (inl t) (inl is) =
        let own_too = ap (λ x. bytes_eq x own) is ∙ t in
        first_log kept own s ss q true t ∙ later ∙ own_has_none kept own ss q own_too ∙ sym (own_has_none kept own (s ∷ ss) q own_too)
    by later (inl t) (inr apart) = first_log kept own s ss q true t ∙ later ∙ not_first kept own s ss q apart
    by later (inr f) (inl is) =
        ap (λ x. log_at x (logs_for kept own (s ∷ ss))) is
        ∙ first_log kept own s ss s false f ∙ ap (λ b. cond b (Some (new_log kept s)) (log_at s (logs_for kept own ss))) (eq_true s)
        ∙ sym (first_is kept own s ss f) ∙ ap (log_of_new kept own (s ∷ ss)) (sym is)
    by later (inr f) (inr apart) =
        first_log kept own s ss q false f ∙ ap (λ b. cond b (Some (new_log kept s)) (log_at q (logs_for kept own ss))) (eq_false s q (λ e. apart (sym e)))
        ∙ later ∙ not_first kept own s ss q apart

-- ---- the verdicts

or_true : (b : Bool) → (b || true) ≡ true
or_true true = refl
or_true false = refl

module _ (checks : Checks) (rooms : List (List ℕ)) where
  verdict_entered : (m : VerdictMap) (k : List ℕ) (v : Option (List ℕ)) (q : List ℕ) → finite.get (finite.insert m k v) q ≡ cond (bytes_eq q k) (Some v) (finite.get m q)
  verdict_entered m k v q = finite.get-insert nat_list_cmp_total m k v q ∙ ap (λ b. cond b (Some v) (finite.get m q)) (is_eq-slice_cmp q k)

  firsts_by : (known : List (List ℕ)) (e : Data) (es : List Data) (b : Bool) → (is_some (as_object e) && not (is_one_of known (element_id e))) ≡ b
      → firsts_but known (e ∷ es) ≡ (if b then e ∷ firsts_but (element_id e ∷ known) es else firsts_but known es)
  firsts_by known e es b is = ap (λ t. if t then e ∷ firsts_but (element_id e ∷ known) es else firsts_but known es) is

  -- the verdict under a known id stays
  known_stays : (m : VerdictMap) (known : List (List ℕ)) (es : List Data) (q : List ℕ) → is_one_of known q ≡ true
      → finite.get (with_verdicts checks rooms m (firsts_but known es)) q ≡ finite.get m q
  known_stays m known [] q here = refl
  known_stays m known (e ∷ es) q here = by (λ m' known' here'. known_stays m' known' es q here') (cases_Bool (is_some (as_object e) && not (is_one_of known (element_id e))))
    where
      id : List ℕ
      id = element_id e

      by : ((m' : VerdictMap) (known' : List (List ℕ)) → is_one_of known' q ≡ true → finite.get (with_verdicts checks rooms m' (firsts_but known' es)) q ≡ finite.get m' q)
          → ((is_some (as_object e) && not (is_one_of known id)) ≡ true) ⊎ ((is_some (as_object e) && not (is_one_of known id)) ≡ false)
          → finite.get (with_verdicts checks rooms m (firsts_but known (e ∷ es))) q ≡ finite.get m q
      by rest (inr f) = ap (λ l. finite.get (with_verdicts checks rooms m l) q) (firsts_by known e es false f) ∙ rest m known here
      by rest (inl t) =
          ap (λ l. finite.get (with_verdicts checks rooms m l) q) (firsts_by known e es true t)
          ∙ rest (finite.insert m id (verdict_on checks rooms e)) (id ∷ known) (ap (λ b. bytes_eq q id || b) here ∙ or_true (bytes_eq q id))
          ∙ verdict_entered m id (verdict_on checks rooms e) q
          ∙ ap (λ b. cond b (Some (verdict_on checks rooms e)) (finite.get m q)) (eq_false q id (λ same. cc_of same t))
        where
          cc_of : q ≡ id → (is_some (as_object e) && not (is_one_of known id)) ≡ true → ⊥
          cc_of same t =
              let there : is_one_of known id ≡ true = ap (is_one_of known) (sym same) ∙ here in
              let no : (is_some (as_object e) && not true) ≡ true = ap (λ b. is_some (as_object e) && not b) (sym there) ∙ t in
              false≢true (sym (and_false (is_some (as_object e))) ∙ no)

  -- under another id stands the verdict on the first object of that id
  pub first_decides : (m : VerdictMap) (known : List (List ℕ)) (es : List Data) (q : List ℕ) → is_one_of known q ≡ false → finite.get m q ≡ None
      → finite.get (with_verdicts checks rooms m (firsts_but known es)) q ≡ option_map (verdict_on checks rooms) (find (has_id q) es)
  first_decides m known [] q new none = none
  first_decides m known (e ∷ es) q new none = by (λ m' known' new' none'. first_decides m' known' es q new' none') (cases_Bool (is_some (as_object e))) (same_or_not q (element_id e))
    where
      id : List ℕ
      id = element_id e

      rest : Option (Option (List ℕ))
      rest = option_map (verdict_on checks rooms) (find (has_id q) es)

      -- what the look-up comes to where the element has the id or not
      find_by : (b : Bool) → has_id q e ≡ b → option_map (verdict_on checks rooms) (find (has_id q) (e ∷ es)) ≡ (if b then Some (verdict_on checks rooms e) else rest)
      find_by b is = ap (λ t. option_map (verdict_on checks rooms) (cond t (Some e) (find (has_id q) es))) is
          ∙ elim b as (λ t. option_map (verdict_on checks rooms) (cond t (Some e) (find (has_id q) es)) ≡ (if t then Some (verdict_on checks rooms e) else rest)) [ true ↦ refl | false ↦ refl ]

      Left : Type 0
      Left = (m' : VerdictMap) (known' : List (List ℕ)) → is_one_of known' q ≡ false → finite.get m' q ≡ None
          → finite.get (with_verdicts checks rooms m' (firsts_but known' es)) q ≡ rest

      skipped : Left → (is_some (as_object e) && not (is_one_of known id)) ≡ false → has_id q e ≡ false
          → finite.get (with_verdicts checks rooms m (firsts_but known (e ∷ es))) q ≡ option_map (verdict_on checks rooms) (find (has_id q) (e ∷ es))
      skipped left f lacks =
          ap (λ l. finite.get (with_verdicts checks rooms m l) q) (firsts_by known e es false f) ∙ left m known new none ∙ sym (find_by false lacks)

      by : Left → (is_some (as_object e) ≡ true) ⊎ (is_some (as_object e) ≡ false) → (q ≡ id) ⊎ (q ≢ id)
          → finite.get (with_verdicts checks rooms m (firsts_but known (e ∷ es))) q ≡ option_map (verdict_on checks rooms) (find (has_id q) (e ∷ es))
      by left (inr other) same = skipped left (ap (λ b. b && not (is_one_of known id)) other) (ap (λ b. b && bytes_eq q id) other)
      by left (inl object) (inl is) =
          ap (λ l. finite.get (with_verdicts checks rooms m l) q) (firsts_by known e es true (ap (λ b. b && not (is_one_of known id)) object ∙ ap not (ap (is_one_of known) (sym is) ∙ new)))
          ∙ known_stays (finite.insert m id (verdict_on checks rooms e)) (id ∷ known) es q (ap (λ b. b || is_one_of known q) ((bytes_eq-Decides q id).1 is))
          ∙ verdict_entered m id (verdict_on checks rooms e) q
          ∙ ap (λ b. cond b (Some (verdict_on checks rooms e)) (finite.get m q)) ((bytes_eq-Decides q id).1 is)
          ∙ sym (find_by true (ap (λ b. b && bytes_eq q id) object ∙ (bytes_eq-Decides q id).1 is))
      by left (inl object) (inr apart) = among (cases_Bool (is_one_of known id))
        where
          lacks : has_id q e ≡ false
          lacks = ap (λ b. b && bytes_eq q id) object ∙ eq_false q id apart

          among : (is_one_of known id ≡ true) ⊎ (is_one_of known id ≡ false)
              → finite.get (with_verdicts checks rooms m (firsts_but known (e ∷ es))) q ≡ option_map (verdict_on checks rooms) (find (has_id q) (e ∷ es))
          among (inl seen) = skipped left (ap (λ b. b && not (is_one_of known id)) object ∙ ap not seen) lacks
          among (inr unseen) =
              ap (λ l. finite.get (with_verdicts checks rooms m l) q) (firsts_by known e es true (ap (λ b. b && not (is_one_of known id)) object ∙ ap not unseen))
              ∙ left (finite.insert m id (verdict_on checks rooms e)) (id ∷ known) (ap (λ b. b || is_one_of known q) (eq_false q id apart) ∙ new)
              (verdict_entered m id (verdict_on checks rooms e) q ∙ ap (λ b. cond b (Some (verdict_on checks rooms e)) (finite.get m q)) (eq_false q id apart) ∙ none)
              ∙ sym (find_by false lacks)
