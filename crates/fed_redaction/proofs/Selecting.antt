-- Members that pass a test, and members under a name.
use Rattle.std.proofs.Common.{◌≡◌, ◌≢◌, ℕ, List, Bool, true, false, ◌&&◌, cond, Option, Some, None, option_map, Ordering, Less, Equal, Greater, nat_cmp, is_eq, bytes_eq, refl, sym, ◌∙◌, ap, ap₂, true≢false}
use Rattle.std.proofs.lemmas.Slice.Eq.{bytes_eq-Decides}
use Rattle.std.proofs.lemmas.Map.Text.{is_eq-slice_cmp}
use Rattle.std.specs.Ordering.{match_ordering}
use Rattle.std.specs.Cmp.Lexicographic.{slice_cmp}
use Rattle.serde_json.specs.Data.{Data, Members, no_members, member}
use Rattle.serde_json.specs.Find.{get_member}
use Rattle.fed_redaction.specs.Names.{select, member_if, keep, at_name}

pub ap_cond : {X Y : Type 0} (f : X → Y) (b : Bool) (x y : X) → f (cond b x y) ≡ cond b (f x) (f y)
ap_cond f true x y = refl
ap_cond f false x y = refl

cond_and : {X : Type 0} (a b : Bool) (x y : X) → cond a (cond b x y) y ≡ cond (a && b) x y
cond_and true b x y = refl
cond_and false b x y = refl

cond_twice : {X : Type 0} (b : Bool) (f g : X → X) (x : X) → cond b (f (cond b (g x) x)) (cond b (g x) x) ≡ cond b (f (g x)) x
cond_twice true f g x = refl
cond_twice false f g x = refl

-- ---- tests in a row

pub select-same : (p q : List ℕ → Bool) → ((k : List ℕ) → p k ≡ q k) → (ms : Members) → select p ms ≡ select q ms
select-same p q same no_members = refl
select-same p q same (member k d ms) = ap₂ (λ b rest. cond b (member k d rest) rest) (same k) (select-same p q same ms)

pub select-select : (p q : List ℕ → Bool) (ms : Members) → select p (select q ms) ≡ select (λ k. q k && p k) ms
select-select p q no_members = refl
select-select p q (member k d ms) =
    ap_cond (select p) (q k) (member k d (select q ms)) (select q ms)
    ∙ ap (λ rest. cond (q k) (cond (p k) (member k d rest) rest) rest) (select-select p q ms)
    ∙ cond_and (q k) (p k) _ _

pub select-at_name : (p : List ℕ → Bool) (n : List ℕ) (f : Data → Data) (ms : Members) → select p (at_name n f ms) ≡ at_name n f (select p ms)
select-at_name p n f no_members = refl
select-at_name p n f (member k d ms) =
    ap (λ rest. cond (p k) (member k (cond (bytes_eq k n) (f d) d) rest) rest) (select-at_name p n f ms)
    ∙ sym (ap_cond (at_name n f) (p k) (member k d (select p ms)) (select p ms))

pub at_name-at_name : (n : List ℕ) (f g : Data → Data) (ms : Members) → at_name n f (at_name n g ms) ≡ at_name n (λ d. f (g d)) ms
at_name-at_name n f g no_members = refl
at_name-at_name n f g (member k d ms) = ap₂ (member k) (cond_twice (bytes_eq k n) f g d) (at_name-at_name n f g ms)

pub at_name-same : (n : List ℕ) (f g : Data → Data) → ((d : Data) → f d ≡ g d) → (ms : Members) → at_name n f ms ≡ at_name n g ms
at_name-same n f g same no_members = refl
at_name-same n f g same (member k d ms) = ap₂ (λ v rest. member k (cond (bytes_eq k n) v d) rest) (same d) (at_name-same n f g same ms)

-- ---- looking up

pub same_name : (k l : List ℕ) → is_eq (slice_cmp nat_cmp k l) ≡ true → k ≡ l
same_name k l h = (bytes_eq-Decides k l).0 (sym (is_eq-slice_cmp k l) ∙ h)

found_kept : (b : Bool) (o : Ordering) (d : Option Data) (e : Data) → (is_eq o ≡ true → b ≡ true) → cond b (match_ordering o d (Some e) d) d ≡ match_ordering o d (Some e) d
found_kept true o d e h = refl
found_kept false Less d e h = refl
found_kept false Equal d e h = absurd (true≢false (sym (h refl)))
found_kept false Greater d e h = refl

pub get_member-select : (p : List ℕ → Bool) (k : List ℕ) (ms : Members) → p k ≡ true → get_member k (select p ms) ≡ get_member k ms
get_member-select p k no_members h = refl
get_member-select p k (member l e ms) h =
    ap_cond (get_member k) (p l) (member l e (select p ms)) (select p ms)
    ∙ ap (λ d. cond (p l) (match_ordering (slice_cmp nat_cmp k l) d (Some e) d) d) (get_member-select p k ms h)
    ∙ found_kept (p l) (slice_cmp nat_cmp k l) (get_member k ms) e (λ is. ap p (sym (same_name k l is)) ∙ h)

found_dropped : (b : Bool) (o : Ordering) (e : Data) → (is_eq o ≡ true → b ≡ false) → cond b (match_ordering o None (Some e) None) None ≡ None
found_dropped false o e h = refl
found_dropped true Less e h = refl
found_dropped true Equal e h = absurd (true≢false (h refl))
found_dropped true Greater e h = refl

pub get_member-dropped : (p : List ℕ → Bool) (k : List ℕ) (ms : Members) → p k ≡ false → get_member k (select p ms) ≡ None
get_member-dropped p k no_members h = refl
get_member-dropped p k (member l e ms) h =
    ap_cond (get_member k) (p l) (member l e (select p ms)) (select p ms)
    ∙ ap (λ d. cond (p l) (match_ordering (slice_cmp nat_cmp k l) d (Some e) d) d) (get_member-dropped p k ms h)
    ∙ found_dropped (p l) (slice_cmp nat_cmp k l) e (λ is. ap p (sym (same_name k l is)) ∙ h)

found_at : (o : Ordering) (f : Data → Data) (d : Option Data) (e v : Data) → (is_eq o ≡ true → v ≡ f e)
    → match_ordering o (option_map f d) (Some v) (option_map f d) ≡ option_map f (match_ordering o d (Some e) d)
found_at Less f d e v h = refl
found_at Equal f d e v h = ap Some (h refl)
found_at Greater f d e v h = refl

pub get_member-at_name : (n : List ℕ) (f : Data → Data) (k : List ℕ) (ms : Members) → get_member k (at_name n f ms) ≡ option_map (λ d. cond (bytes_eq k n) (f d) d) (get_member k ms)
get_member-at_name n f k no_members = refl
get_member-at_name n f k (member l e ms) =
    ap (λ d. match_ordering (slice_cmp nat_cmp k l) d (Some (cond (bytes_eq l n) (f e) e)) d) (get_member-at_name n f k ms)
    ∙ found_at (slice_cmp nat_cmp k l) (λ d. cond (bytes_eq k n) (f d) d) (get_member k ms) e (cond (bytes_eq l n) (f e) e)
    (λ is. ap (λ x. cond (bytes_eq x n) (f e) e) (sym (same_name k l is)))

option_map-same : {X : Type 0} (f : X → X) (o : Option X) → ((x : X) → f x ≡ x) → option_map f o ≡ o
option_map-same f None h = refl
option_map-same f (Some x) h = ap Some (h x)

not_name : (k n : List ℕ) → k ≢ n → bytes_eq k n ≡ false
not_name k n other = by (bytes_eq k n) refl
  where
    by : (b : Bool) → bytes_eq k n ≡ b → b ≡ false
    by true is = absurd (other ((bytes_eq-Decides k n).0 is))
    by false is = refl

pub get_member-other : (n : List ℕ) (f : Data → Data) (k : List ℕ) (ms : Members) → k ≢ n → get_member k (at_name n f ms) ≡ get_member k ms
get_member-other n f k ms other =
    get_member-at_name n f k ms ∙ option_map-same (λ d. cond (bytes_eq k n) (f d) d) (get_member k ms) (λ d. ap (λ b. cond b (f d) d) (not_name k n other))

-- ---- what a test leaves

-- a value that is left is left again as it is
abbrev pub LeavesAgain : (List ℕ → Data → Option Data) → Type 0
LeavesAgain f = (k : List ℕ) (d e : Data) → f k d ≡ Some e → f k e ≡ Some e

keep_if : (f : List ℕ → Data → Option Data) (k : List ℕ) (o : Option Data) (ms : Members) → ((e : Data) → o ≡ Some e → f k e ≡ Some e)
    → keep f (member_if k o ms) ≡ member_if k o (keep f ms)
keep_if f k None ms h = refl
keep_if f k (Some e) ms h = ap (λ o. member_if k o (keep f ms)) (h e refl)

pub keep_twice : (f : List ℕ → Data → Option Data) → LeavesAgain f → (ms : Members) → keep f (keep f ms) ≡ keep f ms
keep_twice f again no_members = refl
keep_twice f again (member k d ms) = keep_if f k (f k d) (keep f ms) (again k d) ∙ ap (member_if k (f k d)) (keep_twice f again ms)

not_left : (o : Ordering) (d : Option Data) (e : Data) → (is_eq o ≡ true → ◌≡◌ {A = Option Data} None (Some e)) → d ≡ match_ordering o d (Some e) d
not_left Less d e h = refl
not_left Equal d e h = let no = h refl in absurd (cc)
not_left Greater d e h = refl

is_left : (o : Ordering) (d : Option Data) (v e : Data) → (is_eq o ≡ true → Some v ≡ Some e) → match_ordering o d (Some v) d ≡ match_ordering o d (Some e) d
is_left Less d v e h = refl
is_left Equal d v e h = h refl
is_left Greater d v e h = refl

get_if : (k l : List ℕ) (o : Option Data) (rest : Members) (e : Data) → (is_eq (slice_cmp nat_cmp k l) ≡ true → o ≡ Some e)
    → get_member k (member_if l o rest) ≡ match_ordering (slice_cmp nat_cmp k l) (get_member k rest) (Some e) (get_member k rest)
get_if k l None rest e h = not_left (slice_cmp nat_cmp k l) (get_member k rest) e h
get_if k l (Some v) rest e h = is_left (slice_cmp nat_cmp k l) (get_member k rest) v e h

-- what is left whole
pub get_member-kept : (f : List ℕ → Data → Option Data) (k : List ℕ) (ms : Members) → ((e : Data) → f k e ≡ Some e) → get_member k (keep f ms) ≡ get_member k ms
get_member-kept f k no_members h = refl
get_member-kept f k (member l e ms) h =
    get_if k l (f l e) (keep f ms) e (λ is. ap (λ n. f n e) (sym (same_name k l is)) ∙ h e)
    ∙ ap (λ d. match_ordering (slice_cmp nat_cmp k l) d (Some e) d) (get_member-kept f k ms h)

none_at : (o : Ordering) (d : Option Data) (v : Data) → (is_eq o ≡ true → Some v ≡ None) → d ≡ None → match_ordering o d (Some v) d ≡ None
none_at Less d v h none = none
none_at Equal d v h none = h refl
none_at Greater d v h none = none

none_if : (k l : List ℕ) (o : Option Data) (rest : Members) → (is_eq (slice_cmp nat_cmp k l) ≡ true → o ≡ None) → get_member k rest ≡ None → get_member k (member_if l o rest) ≡ None
none_if k l None rest h none = none
none_if k l (Some v) rest h none = none_at (slice_cmp nat_cmp k l) (get_member k rest) v h none

pub get_member-unkept : (f : List ℕ → Data → Option Data) (k : List ℕ) (ms : Members) → ((e : Data) → f k e ≡ None) → get_member k (keep f ms) ≡ None
get_member-unkept f k no_members h = refl
get_member-unkept f k (member l e ms) h =
    none_if k l (f l e) (keep f ms) (λ is. ap (λ n. f n e) (sym (same_name k l is)) ∙ h e) (get_member-unkept f k ms h)
