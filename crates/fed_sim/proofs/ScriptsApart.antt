-- Lines are read in one way, and no text is a script and none.
use Rattle.std.proofs.Common.{arith, ◌≡◌, ◌+◌, ◌++◌, ◌∷◌, [], ◌⊎◌, inl, inr, ◌||◌, ◌&&◌, not, ℕ, zero, suc, List, Bool, true, false, true≢false, length, map, take, All, Option, Some, None, IsSome, Result, Ok, Err, bytes_eq, String, Global, string_bytes, refl, sym, ap, subst, ◌∙◌, if◌then◌else◌, get_or, length-append}
use Rattle.std.specs.List.{slice_get, list_any, list_all}
use Rattle.std.specs.List.Sorted.{IsPermutation, IsSorted}
use Rattle.std.specs.Ordering.{nat_cmp, is_lt, ordering_reverse}
use Rattle.std.specs.Cmp.Lexicographic.{slice_cmp, nat_list_cmp_total}
use Rattle.std.specs.FinMap.{nat_cmp-IsAntisymmetric, slice_cmp-IsAntisymmetric}
use Rattle.std.proofs.lemmas.List.{nil_from_length, map-append}
use Rattle.std.proofs.lemmas.List.Folds.{list_all-map}
use Rattle.std.proofs.lemmas.List.Sorted.{sum_by-IsPermutation}
use Rattle.std.proofs.lemmas.Map.Keys.{Less-from_sorted}
use Rattle.std.proofs.lemmas.Option.{same_Some, none-some}
use Rattle.fed_event.specs.Ids.{domain_of, is_user_id}
use Rattle.fed_event.specs.Names.{is_one_of}
use Rattle.fed_room.proofs.OneOrder.{sorted-one}
use Rattle.fed_dest.specs.List.{list_fault}
use Rattle.fed_dest.specs.ListParts.{AreInOrder}
use Rattle.fed_dest.specs.ServerName.{IsServerName}
use Rattle.fed_sim.specs.declared.script.faults.ScriptError.{ScriptError}
use Rattle.fed_sim.specs.declared.setup.RoomSetup.{RoomSetup}
use Rattle.fed_sim.specs.declared.setup.Setup.{Setup}
use Rattle.fed_sim.specs.declared.setup_check.RoomFault.{RoomFault}
use Rattle.fed_sim.specs.declared.setup_check.RoomFault.TheVariants as room_fault
use Rattle.fed_sim.specs.declared.step.Step.{Step}
use Rattle.fed_sim.specs.Script.{CommandText, servers, room, step, is_skipped, line_text, Said, IsRoom, Says, servers_first, then_rooms, then_steps, IsWrong, servers_again, no_names, no_list, room_before_servers, room_behind_step, no_room, step_before_servers, no_step, Takes, skipped, taken, HasFault, no_text, not_there, Reads, no_line, one_more, lines_of, IsScript, IsNoScript, at_line, nothing_said}
use Rattle.fed_sim.specs.Script as script
use Rattle.fed_sim.specs.ScriptSteps.{StepText, send, edu, apply, between, alone, IsStep, step_fault}
use Rattle.fed_sim.specs.Setup.{id_of, users_of, is_room_id, is_of_first, are_users, room_fault_of}

-- ---- names have one order

is_sorted : (names : List (List ℕ)) → AreInOrder names → IsSorted (slice_cmp nat_cmp) names
is_sorted names order k d low high =
    let less = Less-from_sorted (slice_cmp nat_cmp) names k (k + 1) d order (omega arith) high in
    ap is_lt (nat_list_cmp_total.antisymm (get_or names (k + 1) d) (get_or names k d) ∙ ap ordering_reverse less)

one_list : (names a b : List (List ℕ)) → IsPermutation names a → AreInOrder a → IsPermutation names b → AreInOrder b → a ≡ b
one_list names a b moved order other up =
    sorted-one (slice_cmp nat_cmp) nat_list_cmp_total (slice_cmp-IsAntisymmetric nat_cmp-IsAntisymmetric) a b
    (λ f. sum_by-IsPermutation f names a moved ∙ sym (sum_by-IsPermutation f names b other)) (is_sorted a order) (is_sorted b up)

-- ---- the fault of a room is one of its texts, beside the ids of others

any_of : {A B : Type 0} (p : B → Bool) (f : A → B) (xs : List A) → list_any (λ x. p (f x)) xs ≡ list_any p (map f xs)
any_of p f [] = refl
any_of p f (x ∷ xs) = ap (λ b. p (f x) || b) (any_of p f xs)

abbrev first_by : List (List ℕ) → List ℕ → Bool
first_by [] id = false
first_by (first ∷ others) id = bytes_eq (domain_of first) (domain_of id)

first_is : (users : List (String Global)) (id : List ℕ) → is_of_first users id ≡ first_by (map string_bytes users) id
first_is [] id = refl
first_is (first ∷ others) id = refl

abbrev users_by : List (List ℕ) → Bool
users_by [] = true
users_by (user ∷ users) = (is_user_id user && not (list_any (λ other. bytes_eq user other) users)) && users_by users

users_are : (users : List (String Global)) → are_users users ≡ users_by (map string_bytes users)
users_are [] = refl
users_are (user ∷ users) =
    let id = string_bytes user in
    λ i. (is_user_id id && not (any_of (λ other. bytes_eq id other) string_bytes users i)) && users_are users i

abbrev fault_by : List (List ℕ) → List (List ℕ) → List ℕ → List (List ℕ) → Option RoomFault
fault_by among ids id users =
    if ((not (is_room_id id) || list_any (λ other. bytes_eq id other) ids) || not (first_by users id)) || not (users_by users) then Some room_fault.Wrong
    else if not (list_all (λ user. is_one_of among (domain_of user)) users) then Some room_fault.UnknownServer
    else None

fault_is : (among : List (List ℕ)) (others : List RoomSetup) (one : RoomSetup) → room_fault_of among others one ≡ fault_by among (map id_of others) (id_of one) (users_of one)
fault_is among others one =
    let id = id_of one in
    let users = one.users.items in
    λ i. if ((not (is_room_id id) || any_of (λ other. bytes_eq id other) id_of others i) || not (first_is users id i)) || not (users_are users i) then Some room_fault.Wrong
    else if not (sym (list_all-map (λ user. is_one_of among (domain_of user)) string_bytes users) i) then Some room_fault.UnknownServer
    else None

same_fault : (among : List (List ℕ)) (others beside : List RoomSetup) (one other : RoomSetup) → map id_of others ≡ map id_of beside → id_of one ≡ id_of other → users_of one ≡ users_of other
    → room_fault_of among others one ≡ room_fault_of among beside other
same_fault among others beside one other ids id users =
    fault_is among others one ∙ (λ i. fault_by among (ids i) (id i) (users i)) ∙ sym (fault_is among beside other)

-- ---- a step has no fault

no_fault : (listed : List (List ℕ)) (text : StepText) (made : Step) → IsStep listed text made → step_fault listed text ≡ None
unfolding step_fault
no_fault listed (send server id sender kind key content) made is = rw (is.2, is.3) refl
no_fault listed (edu server kind dests content) made is = rw (is.3, is.4.listed, is.5) refl
no_fault listed (apply server id) made is = rw is.2 refl
no_fault listed (between by server other) made is = rw (is.2, is.3) refl
no_fault listed (alone one) made is = refl

-- ---- what each command says, and what is wrong with it

abbrev SaysSo : Said → CommandText → Said → Type 0
SaysSo said (servers names) new =
    (listed : List (List ℕ)) × (said.listed ≡ None) × All IsServerName names × (list_fault names ≡ None) × IsPermutation names listed × AreInOrder listed
    × (new ≡ record { names = names; listed = Some listed; rooms = said.rooms; steps = said.steps })
SaysSo said (room id users) new =
    (listed : List (List ℕ)) × (one : RoomSetup) × (said.listed ≡ Some listed) × (said.steps ≡ []) × IsRoom id users one × (room_fault_of listed said.rooms one ≡ None)
    × (new ≡ record { names = said.names; listed = said.listed; rooms = said.rooms ++ one ∷ []; steps = said.steps })
SaysSo said (step text) new =
    (listed : List (List ℕ)) × (made : Step) × (said.listed ≡ Some listed) × IsStep listed text made
    × (new ≡ record { names = said.names; listed = said.listed; rooms = said.rooms; steps = said.steps ++ made ∷ [] })

says_so : (said : Said) (command : CommandText) (new : Said) → Says said command new → SaysSo said command new
says_so said _ _ (servers_first names listed none all good moved order) = (listed, none, all, good, moved, order, refl)
says_so said _ _ (then_rooms listed id users one there none is good) = (listed, one, there, none, is, good, refl)
says_so said _ _ (then_steps listed text made there is) = (listed, made, there, is, refl)

abbrev WrongSo : Said → CommandText → ScriptError → Type 0
WrongSo said (servers names) fault = IsSome said.listed ⊎ ((¬ (All IsServerName names)) ⊎ IsSome (list_fault names))
WrongSo said (room id users) fault =
    (said.listed ≡ None) ⊎ ((¬ (said.steps ≡ [])) ⊎ ((listed : List (List ℕ)) × (one : RoomSetup) × (what : RoomFault) × (said.listed ≡ Some listed) × IsRoom id users one × (room_fault_of listed said.rooms one ≡ Some what)))
WrongSo said (step text) fault = (said.listed ≡ None) ⊎ ((listed : List (List ℕ)) × (said.listed ≡ Some listed) × (step_fault listed text ≡ Some fault))

wrong_so : (said : Said) (command : CommandText) (fault : ScriptError) → IsWrong said command fault → WrongSo said command fault
wrong_so said _ _ (servers_again names again) = inl again
wrong_so said _ _ (no_names names none) = inr (inl none)
wrong_so said _ _ (no_list names bad) = inr (inr bad)
wrong_so said _ _ (room_before_servers id users none) = inl none
wrong_so said _ _ (room_behind_step id users later) = inr (inl later)
wrong_so said _ _ (no_room listed id users one what there none is bad) = inr (inr (listed, one, what, there, is, bad))
wrong_so said _ _ (step_before_servers text none) = inl none
wrong_so said _ _ (no_step listed text fault there bad) = inr (listed, there, bad)

-- ---- behind lines that have said the same

-- the same servers, rooms of the same ids and as many steps
record Alike (a b : Said) : Type 0 where
  listed : a.listed ≡ b.listed
  rooms : map id_of a.rooms ≡ map id_of b.rooms
  steps : length a.steps ≡ length b.steps

module _ (a b : Said) (h : Alike a b) where
  says_alike : (command : CommandText) (new other : Said) → SaysSo a command new → SaysSo b command other → Alike new other
  says_alike (servers names) new other (one, _, _, _, moved, order, is) (two, _, _, _, shift, up, was) = rw (is, was) (record {
    listed = ap Some (one_list names one two moved order shift up);
    rooms = h.rooms;
    steps = h.steps;
  })
  says_alike (room id users) new other (_, one, _, _, this, _, is) (_, two, _, _, that, _, was) = rw (is, was) (record {
    listed = h.listed;
    rooms = map-append id_of a.rooms (one ∷ []) ∙ (λ i. h.rooms i ++ (this.id_is ∙ sym that.id_is) i ∷ []) ∙ sym (map-append id_of b.rooms (two ∷ []));
    steps = h.steps;
  })
  says_alike (step text) new other (_, one, _, _, is) (_, two, _, _, was) = rw (is, was) (record {
    listed = h.listed;
    rooms = h.rooms;
    steps = length-append a.steps (one ∷ []) ∙ ap (λ n. n + 1) h.steps ∙ sym (length-append b.steps (two ∷ []));
  })

  says_nothing_wrong : (command : CommandText) (new : Said) (fault : ScriptError) → SaysSo a command new → WrongSo b command fault → ⊥
  says_nothing_wrong (servers names) new fault (listed, none, all, good, moved, order, _) (inl again) = true≢false (sym (subst IsSome (sym h.listed ∙ none) again))
  says_nothing_wrong (servers names) new fault (listed, none, all, good, moved, order, _) (inr (inl none_so)) = none_so all
  says_nothing_wrong (servers names) new fault (listed, none, all, good, moved, order, _) (inr (inr bad)) = true≢false (sym (subst IsSome good bad))
  says_nothing_wrong (room id users) new fault (listed, one, there, first, this, good, _) (inl none) = none-some listed (sym none ∙ sym h.listed ∙ there)
  says_nothing_wrong (room id users) new fault (listed, one, there, first, this, good, _) (inr (inl later)) = later (nil_from_length b.steps (sym h.steps ∙ ap length first))
  says_nothing_wrong (room id users) new fault (listed, one, there, first, this, good, _) (inr (inr (other, two, what, here, that, bad))) =
      let same : listed ≡ other = same_Some listed other (sym there ∙ h.listed ∙ here) in
      none-some what
      (sym good ∙ ap (λ names. room_fault_of names a.rooms one) same ∙ same_fault other a.rooms b.rooms one two h.rooms (this.id_is ∙ sym that.id_is) (this.users_are ∙ sym that.users_are) ∙ bad)
  says_nothing_wrong (step text) new fault (listed, made, there, is, _) (inl none) = none-some listed (sym none ∙ sym h.listed ∙ there)
  says_nothing_wrong (step text) new fault (listed, made, there, is, _) (inr (other, here, bad)) =
      let same : listed ≡ other = same_Some listed other (sym there ∙ h.listed ∙ here) in
      none-some fault (sym (no_fault listed text made is) ∙ ap (λ names. step_fault names text) same ∙ bad)

-- ---- a line

abbrev TakesSo : Said → List ℕ → Said → Type 0
TakesSo said line new = ((is_skipped line ≡ true) × (new ≡ said)) ⊎ ((command : CommandText) × (is_skipped line ≡ false) × (line_text line ≡ Ok command) × SaysSo said command new)

takes_so : (said : Said) (line : List ℕ) (new : Said) → Takes said line new → TakesSo said line new
takes_so said line _ (skipped empty) = inl (empty, refl)
takes_so said line _ (taken command new full text says) = inr (command, full, text, says_so said command new says)

abbrev FaultSo : Said → List ℕ → ScriptError → Type 0
FaultSo said line fault = (is_skipped line ≡ false) × ((line_text line ≡ Err fault) ⊎ ((command : CommandText) × (line_text line ≡ Ok command) × WrongSo said command fault))

fault_so : (said : Said) (line : List ℕ) (fault : ScriptError) → HasFault said line fault → FaultSo said line fault
fault_so said line fault (no_text full bad) = (full, inl bad)
fault_so said line fault (not_there command full text wrong) = (full, inr (command, text, wrong_so said command fault wrong))

one_command : (r : Result CommandText ScriptError) (a b : CommandText) → r ≡ Ok a → r ≡ Ok b → a ≡ b
one_command r a b first last = let both : ◌≡◌ {A = Result CommandText ScriptError} (Ok a) (Ok b) = sym first ∙ last in cc

no_command : (r : Result CommandText ScriptError) (a : CommandText) (fault : ScriptError) → r ≡ Ok a → r ≡ Err fault → ⊥
no_command r a fault first last = let both : ◌≡◌ {A = Result CommandText ScriptError} (Ok a) (Err fault) = sym first ∙ last in absurd (cc)

module _ (a b : Said) (h : Alike a b) (line : List ℕ) where
  takes_alike : (new other : Said) → TakesSo a line new → TakesSo b line other → Alike new other
  takes_alike new other (inl (_, is)) (inl (_, was)) = rw (is, was) h
  takes_alike new other (inl (empty, _)) (inr (_, full, _, _)) = absurd (true≢false (sym empty ∙ full))
  takes_alike new other (inr (_, full, _, _)) (inl (empty, _)) = absurd (true≢false (sym empty ∙ full))
  takes_alike new other (inr (one, _, text, says)) (inr (two, _, read, tells)) =
      says_alike a b h one new other says (subst (λ c. SaysSo b c other) (one_command (line_text line) two one read text) tells)

  takes_no_fault : (new : Said) (fault : ScriptError) → TakesSo a line new → FaultSo b line fault → ⊥
  takes_no_fault new fault (inl (empty, _)) (full, _) = true≢false (sym empty ∙ full)
  takes_no_fault new fault (inr (one, _, text, says)) (_, inl bad) = no_command (line_text line) one fault text bad
  takes_no_fault new fault (inr (one, _, text, says)) (_, inr (two, read, wrong)) =
      says_nothing_wrong a b h one new fault says (subst (λ c. WrongSo b c fault) (one_command (line_text line) two one read text) wrong)

-- ---- lines

abbrev behind : {A : Type 0} → List A → List A
behind [] = []
behind (x ∷ xs) = xs

snoc_same : {A : Type 0} (xs ys : List A) (x y : A) → xs ++ x ∷ [] ≡ ys ++ y ∷ [] → (xs ≡ ys) × (x ≡ y)
snoc_same [] [] x y e = (refl, same_Some x y (ap (λ l. slice_get l 0) e))
snoc_same [] (b ∷ ys) x y e = let counted = ap length e in let more = length-append ys (y ∷ []) in absurd (omega (arith, counted, more))
snoc_same (a ∷ xs) [] x y e = let counted = ap length e in let more = length-append xs (x ∷ []) in absurd (omega (arith, counted, more))
snoc_same (a ∷ xs) (b ∷ ys) x y e =
    let found = snoc_same xs ys x y (ap behind e) in
    ((λ i. same_Some a b (ap (λ l. slice_get l 0) e) i ∷ found.0 i), found.1)

not_snoc : {A : Type 0} (xs : List A) (x : A) → [] ≡ xs ++ x ∷ [] → ⊥
not_snoc xs x e = let counted = ap length e in let more = length-append xs (x ∷ []) in absurd (omega (arith, counted, more))

reads_none : (lines : List (List ℕ)) (said : Said) → Reads lines said → lines ≡ [] → said ≡ script.nothing
reads_none _ _ no_line none = refl
reads_none _ _ (one_more lines line old new reads takes) none = absurd (not_snoc lines line (sym none))

reads_front : (lines : List (List ℕ)) (said : Said) → Reads lines said → (front : List (List ℕ)) (line : List ℕ) → lines ≡ front ++ line ∷ [] → (old : Said) × Reads front old × TakesSo old line said
reads_front _ _ no_line front line is = absurd (not_snoc front line is)
reads_front _ _ (one_more lines last old new reads takes) front line is =
    let same = snoc_same lines front last line is in
    (old, subst (λ ls. Reads ls old) same.0 reads, subst (λ l. TakesSo old l new) same.1 (takes_so old last new takes))

read_alike : (lines : List (List ℕ)) (a b : Said) → Reads lines a → Reads lines b → Alike a b
read_alike _ _ b no_line reads = let is = reads_none [] b reads refl in rw is (record { listed = refl; rooms = refl; steps = refl })
read_alike _ _ b (one_more lines line old new reads takes) again =
    let before = reads_front (lines ++ line ∷ []) b again lines line refl in
    takes_alike old before.0 (read_alike lines old before.0 reads before.1) line new b (takes_so old line new takes) before.2

earlier_or_last : {A : Type 0} (xs : List A) (x : A) (k : ℕ) (y : A) → slice_get (xs ++ x ∷ []) k ≡ Some y
    → ((slice_get xs k ≡ Some y) × (take k (xs ++ x ∷ []) ≡ take k xs)) ⊎ ((x ≡ y) × (take k (xs ++ x ∷ []) ≡ xs))
earlier_or_last [] x zero y e = inr (same_Some x y e, refl)
earlier_or_last [] x (suc k) y e = absurd (none-some y e)
earlier_or_last (z ∷ xs) x zero y e = inl (e, refl)
earlier_or_last (z ∷ xs) x (suc k) y e = by (earlier_or_last xs x k y e)
  where
    by : ((slice_get xs k ≡ Some y) × (take k (xs ++ x ∷ []) ≡ take k xs)) ⊎ ((x ≡ y) × (take k (xs ++ x ∷ []) ≡ xs))
        → ((slice_get xs k ≡ Some y) × (take (suc k) (z ∷ xs ++ x ∷ []) ≡ take (suc k) (z ∷ xs))) ⊎ ((x ≡ y) × (take (suc k) (z ∷ xs ++ x ∷ []) ≡ z ∷ xs))
    by (inl (there, front)) = inl (there, ap (λ l. z ∷ l) front)
    by (inr (same, front)) = inr (same, ap (λ l. z ∷ l) front)

-- each line is taken behind those before it
reads_each : (lines : List (List ℕ)) (said : Said) → Reads lines said → (place : ℕ) (line : List ℕ) → slice_get lines place ≡ Some line
    → (old : Said) × (new : Said) × Reads (take place lines) old × TakesSo old line new
reads_each _ _ no_line place line there = absurd (none-some line there)
reads_each _ _ (one_more lines last old new reads takes) place line there =
    by (λ earlier. reads_each lines old reads place line earlier) (earlier_or_last lines last place line there)
  where
    by : (slice_get lines place ≡ Some line → (before : Said) × (after : Said) × Reads (take place lines) before × TakesSo before line after)
        → ((slice_get lines place ≡ Some line) × (take place (lines ++ last ∷ []) ≡ take place lines)) ⊎ ((last ≡ line) × (take place (lines ++ last ∷ []) ≡ lines))
        → (before : Said) × (after : Said) × Reads (take place (lines ++ last ∷ [])) before × TakesSo before line after
    by among (inl (earlier, front)) =
        let found = among earlier in
        (found.0, found.1, subst (λ ls. Reads ls found.0) (sym front) found.2, found.3)
    by among (inr (same, front)) = (old, new, subst (λ ls. Reads ls old) (sym front) reads, subst (λ l. TakesSo old l new) same (takes_so old last new takes))

-- ---- a whole text

pub scripts_apart : (text : List ℕ) (begin : Setup) (steps : List Step) (line : ℕ) (fault : ScriptError) → IsScript text begin steps → IsNoScript text line fault → ⊥
scripts_apart text begin steps _ _ is (at_line place said line fault front here bad) =
    let found = reads_each (lines_of text) is.said is.reads place line here in
    takes_no_fault found.0 said (read_alike (take place (lines_of text)) found.0 said found.2 front) line found.1 fault found.3 (fault_so said line fault bad)
scripts_apart text begin steps _ _ is (nothing_said said reads none) =
    let alike = read_alike (lines_of text) is.said said is.reads reads in
    true≢false (sym (subst IsSome (alike.listed ∙ none) is.is_said.listed))
