-- States that are kept by earlier ones.
use Rattle.std.proofs.Common.{◌≡◌, ◌<◌, ◌≤◌, ◌+◌, ◌%◌, ◌^◌, ◌++◌, ◌∷◌, [], ℕ, zero, suc, List, Bool, true, false, Option, None, Some, length, cond, ◌≢◌, true≢false, take, drop, slice_get, unwrap_or, option_map, refl, sym, ap, subst, ◌∙◌, ◌⊎◌, inl, inr, arith, length-append}
use Rattle.std.proofs.lemmas.Bool.{cases_lt}
use Rattle.std.proofs.lemmas.Nat.{pow_pos, pow_apart, and_or_self, and_or_apart}
use Rattle.std.proofs.lemmas.List.{length-take, take-append-drop, take-append-le, get_or-take, get_or_past}
use Rattle.std.proofs.lemmas.List.Elements.{All-head, All-tail}
use Rattle.std.proofs.lemmas.Option.{slice_get_within, slice_get-get_or}
use Rattle.std.proofs.Math.Nat.{min-le_left, min-le_right}
use Rattle.std.proofs.Math.ListN.{get_or-append}
use Rattle.std.proofs.Math.Seq.{get_or-append_seam, take-append_seam}
use Rattle.std.specs.Prelude.{⊤, IfSome, All, find}
use Rattle.std.specs.Int.Bits.{bit_and, bit_or}
use Rattle.std.specs.List.{AllByRecursion}
use Rattle.std.specs.FinMap as finite
use Rattle.fed_room_contract.specs.State.{StateKey, StateMap, key_cmp, entry_at}
use Rattle.fed_room_contract.specs.Steps.{state_at}
use Rattle.fed_room_contract.specs.ChangeParts.{IsTagged, bit_of, bits_with, is_change_at, tag_of, with_changes}
use Rattle.fed_room_contract.specs.StepParts.{step_state, states_behind, states_of, is_root, is_root_at, base_of, base_at, bits_of, bits_at, IsRootOf, IsLower, IsWholeOver, AreSteps, IsSharedOf}
use Rattle.fed_room_contract.specs.declared.change.Change.{Change}
use Rattle.fed_room_contract.specs.declared.step.Laid.{Laid as LaidChanges}
use Rattle.fed_room_contract.specs.declared.step.Over.{Over}
use Rattle.fed_room_contract.specs.declared.step.Whole.{Whole as WholeState}
use Rattle.fed_room_contract.specs.declared.step.Step.{Step}
use Rattle.fed_room_contract.specs.declared.step.Step.TheVariants.{Same, Laid, Whole}
use Rattle.fed_room_contract.specs.declared.steps.Shared.{Shared}
use Rattle.fed_room_contract.proofs.Changes.{found, found-changes, is-at}

-- ---- one state for each step

long : (states : List StateMap) (steps : List Step) → length (states_behind states steps) ≡ length states + length steps
long states [] = omega arith
long states (step ∷ steps) =
    let rest = long (states ++ step_state states step ∷ []) steps in
    let more = length-append states (step_state states step ∷ []) in
    omega arith

-- what stands before stays
stays : (states : List StateMap) (steps : List Step) (place : ℕ) → place < length states → state_at (states_behind states steps) place ≡ state_at states place
stays states [] place below = refl
stays states (step ∷ steps) place below =
    let state : StateMap = step_state states step in
    let more = length-append states (state ∷ []) in
    stays (states ++ state ∷ []) steps place (omega arith) ∙ get_or-append states (state ∷ []) finite.empty place below

one_more : (states : List StateMap) (steps : List Step) (step : Step) → states_behind states (steps ++ step ∷ []) ≡ states_behind states steps ++ step_state (states_behind states steps) step ∷ []
one_more states [] step = refl
one_more states (s ∷ steps) step = one_more (states ++ step_state states s ∷ []) steps step

-- ---- what a step names

abbrev NamesBelow : ℕ → Step → Type 0
NamesBelow n (Same parent) = parent < n
NamesBelow n (Laid laid) = laid.over.parent < n
NamesBelow n (Whole whole) = ⊤

shorter : (steps : List Step) (place : ℕ) → length (take place steps) ≤ place
shorter steps place = let is = length-take place steps in let least = min-le_left place (length steps) in omega (arith, is, least)

names : (steps : List Step) (place : ℕ) (step : Step) → IsLower (take place steps) step → NamesBelow place step
names steps place (Same parent) lower = let least = shorter steps place in let within = lower.within in omega (arith, least, within)
names steps place (Laid laid) lower = let least = shorter steps place in let within = lower.root.within in omega (arith, least, within)
names steps place (Whole whole) lower = tt

alike : (states others : List StateMap) (n : ℕ) → ((place : ℕ) → place < n → state_at states place ≡ state_at others place) → (step : Step) → NamesBelow n step
    → step_state states step ≡ step_state others step
alike states others n same (Same parent) below = same parent below
alike states others n same (Laid laid) below = ap (λ (s : StateMap). with_changes s laid.over.changes.items) (same laid.over.parent below)
alike states others n same (Whole whole) below = refl

standing : (states : List StateMap) (steps : List Step) (place : ℕ) (step : Step) → slice_get steps place ≡ Some step → NamesBelow (length states + place) step
    → state_at (states_behind states steps) (length states + place) ≡ step_state (states_behind states steps) step
standing states [] place step e below = absurd (cc)
standing states (s ∷ steps) zero step e below =
    let one : s ≡ step = cc in
    let state : StateMap = step_state states s in
    let more = length-append states (state ∷ []) in
    let none : length states + 0 ≡ length states = omega arith in
    let last : state_at (states ++ state ∷ []) (length states) ≡ state = get_or-append_seam states state [] finite.empty in
    let here : state_at (states_behind (states ++ state ∷ []) steps) (length states) ≡ state = stays (states ++ state ∷ []) steps (length states) (omega arith) ∙ last in
    let front : (place : ℕ) → place < length states + 0 → state_at states place ≡ state_at (states_behind (states ++ state ∷ []) steps) place =
    λ p less. sym (stays (states ++ state ∷ []) steps p (omega (arith, less, more)) ∙ get_or-append states (state ∷ []) finite.empty p (omega (arith, less))) in
    ap (state_at (states_behind (states ++ state ∷ []) steps)) none ∙ here ∙ ap (step_state states) one ∙ alike states (states_behind (states ++ state ∷ []) steps) (length states + 0) front step below
standing states (s ∷ steps) (suc place) step e below =
    let state : StateMap = step_state states s in
    let more = length-append states (state ∷ []) in
    let same : length (states ++ state ∷ []) + place ≡ length states + suc place = omega (arith, more) in
    ap (state_at (states_behind (states ++ state ∷ []) steps)) (sym same) ∙ standing (states ++ state ∷ []) steps place step e (subst (λ n. NamesBelow n step) (sym same) below)

-- ---- the state at a place

pub count : (steps : List Step) → length (states_of steps) ≡ length steps
unfolding states_of
count steps = let is = long [] steps in omega (arith, is)

pub pushed : (steps : List Step) (step : Step) → states_of (steps ++ step ∷ []) ≡ states_of steps ++ step_state (states_of steps) step ∷ []
unfolding states_of
pushed steps step = one_more [] steps step

pub at-step : (steps : List Step) (place : ℕ) (step : Step) → AreSteps steps → slice_get steps place ≡ Some step → state_at (states_of steps) place ≡ step_state (states_of steps) step
unfolding states_of
at-step steps place step are e = let none : place ≡ 0 + place = omega arith in ap (state_at (states_behind [] steps)) none ∙ standing [] steps place step e (subst (λ n. NamesBelow n step) none (names steps place step (are place step e)))

pub at-none : (steps : List Step) (place : ℕ) (kind key : List ℕ) → slice_get steps place ≡ None → entry_at (state_at (states_of steps) place) kind key ≡ None
at-none steps place kind key e = ap (λ (s : StateMap). entry_at s kind key) (by (cases_lt place (length (states_of steps)))) ∙ finite.get-empty {X = List ℕ} key_cmp (kind, key)
  where
    by : (place < length (states_of steps)) ⊎ (length (states_of steps) ≤ place) → state_at (states_of steps) place ≡ finite.empty
    by (inl less) = let same = count steps in let there = slice_get-get_or steps place (Same 0) (omega (arith, same, less)) in absurd (cc)
    by (inr past) = get_or_past (states_of steps) place finite.empty past

-- what a step at a place names stands before it
pub parent-before : (steps : List Step) (place parent : ℕ) → AreSteps steps → slice_get steps place ≡ Some (Same parent) → parent < place
parent-before steps place parent are e = names steps place (Same parent) (are place (Same parent) e)

pub laid-before : (steps : List Step) (place : ℕ) (laid : LaidChanges) → AreSteps steps → slice_get steps place ≡ Some (Laid laid) → laid.over.parent < place
laid-before steps place laid are e = names steps place (Laid laid) (are place (Laid laid) e)

-- ---- one step more

front-get : (steps : List Step) (place p : ℕ) → p < length (take place steps) → slice_get (take place steps) p ≡ slice_get steps p
front-get steps place p less =
    let least = shorter steps place in
    let is = length-take place steps in
    let most = min-le_right place (length steps) in
    slice_get-get_or (take place steps) p (Same 0) less ∙ ap (λ (s : Step). Some s) (get_or-take place steps p (Same 0) (omega (arith, least, less))) ∙ sym (slice_get-get_or steps p (Same 0) (omega (arith, is, most, less)))

pub root-of : (steps : List Step) (place p : ℕ) → IsRootOf (take place steps) p → IsRootOf steps p
root-of steps place p root =
    let within = root.within in
    let is = length-take place steps in
    let most = min-le_right place (length steps) in
    record { within = omega (arith, within, is, most); root = ap (λ (o : Option Step). unwrap_or (option_map is_root o) false) (sym (front-get steps place p root.within)) ∙ root.root }

pub more-steps : (steps : List Step) (step : Step) → AreSteps steps → IsLower steps step → AreSteps (steps ++ step ∷ [])
more-steps steps step are lower place other e = by (cases_lt place (length steps))
  where
    by : (place < length steps) ⊎ (length steps ≤ place) → IsLower (take place (steps ++ step ∷ [])) other
    by (inl less) =
        let same : slice_get (steps ++ step ∷ []) place ≡ slice_get steps place =
        slice_get-get_or (steps ++ step ∷ []) place step (let more = length-append steps (step ∷ []) in omega (arith, more, less))
        ∙ ap (λ (s : Step). Some s) (get_or-append steps (step ∷ []) step place less) ∙ sym (slice_get-get_or steps place step less) in
        subst (λ front. IsLower front other) (sym (take-append-le place steps (step ∷ []) (omega (arith, less)))) (are place other (sym same ∙ e))
    by (inr past) =
        let within = slice_get_within (steps ++ step ∷ []) place other e in
        let more = length-append steps (step ∷ []) in
        let here : place ≡ length steps = omega (arith, past, within, more) in
        let there : slice_get (steps ++ step ∷ []) (length steps) ≡ Some step =
        slice_get-get_or (steps ++ step ∷ []) (length steps) step (omega (arith, more)) ∙ ap (λ (s : Step). Some s) (get_or-append_seam steps step [] step) in
        let one : other ≡ step = let both = sym e ∙ ap (slice_get (steps ++ step ∷ [])) here ∙ there in cc in
        subst (λ n. IsLower (take n (steps ++ step ∷ [])) other) (sym here) (subst (λ front. IsLower front other) (sym (take-append_seam steps (step ∷ []))) (subst (IsLower steps) (sym one) lower))

-- what is whole stays the state at its place
pub shared-stays : (steps : List Step) (step : Step) (o : Option Shared) → IfSome o (IsSharedOf steps) → IfSome o (IsSharedOf (steps ++ step ∷ []))
shared-stays steps step None whole = tt
shared-stays steps step (Some s) whole =
    let within = whole.within in
    let more = length-append steps (step ∷ []) in
    let same = count steps in
    let before : state_at (states_of (steps ++ step ∷ [])) s.place ≡ state_at (states_of steps) s.place =
    ap (λ states. state_at states s.place) (pushed steps step) ∙ get_or-append (states_of steps) (step_state (states_of steps) step ∷ []) finite.empty s.place (omega (arith, within, same)) in
    record { within = omega (arith, within, more); state = whole.state ∙ sym before }

-- ---- what a step names

pub same-root : (steps : List Step) (place parent : ℕ) → AreSteps steps → slice_get steps place ≡ Some (Same parent) → IsRootOf steps parent
same-root steps place parent are e = root-of steps place parent (are place (Same parent) e)

pub laid-root : (steps : List Step) (place : ℕ) (laid : LaidChanges) → AreSteps steps → slice_get steps place ≡ Some (Laid laid) → IsRootOf steps laid.over.parent
laid-root steps place laid are e = root-of steps place laid.over.parent (are place (Laid laid) e).root

pub within-steps : (steps : List Step) (after : List StateMap) (place : ℕ) → states_of steps ≡ after → place < length after → place < length steps
within-steps steps after place same below = let long = ap length same in let is = count steps in omega (arith, long, is, below)

pub root-there : (steps : List Step) (place : ℕ) (step : Step) → slice_get steps place ≡ Some step → ((laid : LaidChanges) × (step ≡ Laid laid)) ⊎ ((whole : WholeState) × (step ≡ Whole whole)) → is_root_at steps place ≡ true
root-there steps place step e (inl (laid, is)) = ap (λ (o : Option Step). unwrap_or (option_map is_root o) false) e ∙ ap is_root is
root-there steps place step e (inr (whole, is)) = ap (λ (o : Option Step). unwrap_or (option_map is_root o) false) e ∙ ap is_root is

-- ---- the whole state over which changes are laid

root-at : (steps : List Step) (place : ℕ) (o : Option Step) → slice_get steps place ≡ o → is_root_at steps place ≡ unwrap_or (option_map is_root o) false
root-at steps place o e = ap (λ (o : Option Step). unwrap_or (option_map is_root o) false) e

base-there : (steps : List Step) (place : ℕ) (o : Option Step) → slice_get steps place ≡ o → base_at steps place ≡ unwrap_or (option_map (base_of place) o) place
base-there steps place o e = ap (λ (o : Option Step). unwrap_or (option_map (base_of place) o) place) e

bits-there : (steps : List Step) (place : ℕ) (o : Option Step) → slice_get steps place ≡ o → bits_at steps place ≡ unwrap_or (option_map bits_of o) 0
bits-there steps place o e = ap (λ (o : Option Step). unwrap_or (option_map bits_of o) 0) e

-- those of changes that are laid, by what is laid below them
laid-base : (steps : List Step) (place : ℕ) (laid : LaidChanges) → AreSteps steps → slice_get steps place ≡ Some (Laid laid) → laid.base ≡ base_at steps laid.over.parent
laid-base steps place laid are e =
    let lower = are place (Laid laid) e in
    lower.base ∙ ap (λ (o : Option Step). unwrap_or (option_map (base_of laid.over.parent) o) laid.over.parent) (front-get steps place laid.over.parent lower.root.within)

laid-bits : (steps : List Step) (place : ℕ) (laid : LaidChanges) → AreSteps steps → slice_get steps place ≡ Some (Laid laid) → laid.bits ≡ bits_with (bits_at steps laid.over.parent) laid.over.changes.items
laid-bits steps place laid are e =
    let lower = are place (Laid laid) e in
    lower.bits ∙ ap (λ (o : Option Step). bits_with (unwrap_or (option_map bits_of o) 0) laid.over.changes.items) (front-get steps place laid.over.parent lower.root.within)

base-one : (steps : List Step) → AreSteps steps → (place : ℕ) → ((p : ℕ) → p < place → base_at steps p ≤ p) → (o : Option Step) → slice_get steps place ≡ o → base_at steps place ≤ place
base-one steps are place rest None e = let is = base-there steps place None e in omega (arith, is)
base-one steps are place rest (Some (Same parent)) e = let is = base-there steps place (Some (Same parent)) e in omega (arith, is)
base-one steps are place rest (Some (Whole whole)) e = let is = base-there steps place (Some (Whole whole)) e in omega (arith, is)
base-one steps are place rest (Some (Laid laid)) e =
    let is = base-there steps place (Some (Laid laid)) e in
    let same = laid-base steps place laid are e in
    let less = laid-before steps place laid are e in
    let least = rest laid.over.parent less in
    omega (arith, is, same, less, least)

base-least : (steps : List Step) → AreSteps steps → (n place : ℕ) → place < n → base_at steps place ≤ place
base-least steps are zero place less = absurd (omega (arith, less))
base-least steps are (suc n) place less = base-one steps are place (λ p below. base-least steps are n p (omega (arith, less, below))) (slice_get steps place) refl

pub base-before : (steps : List Step) (place : ℕ) (laid : LaidChanges) → AreSteps steps → slice_get steps place ≡ Some (Laid laid) → laid.base < place
base-before steps place laid are e =
    let same = laid-base steps place laid are e in
    let less = laid-before steps place laid are e in
    let least = base-least steps are (laid.over.parent + 1) laid.over.parent (omega arith) in
    omega (arith, same, less, least)

-- ---- look-ups that pass what is laid

-- a word with the bit of one tag and without that of another
other-bit : (bits tag other : ℕ) → bit_and (bit_or bits (bit_of other)) (bit_of tag) ≡ 0 → other % 64 ≢ tag % 64
other-bit bits tag other none e =
    let power = pow_pos (tag % 64) in
    let same : bit_and (bit_or bits (bit_of tag)) (bit_of tag) ≡ bit_of tag = and_or_self (bit_of tag) bits in
    let no : bit_of tag ≡ 0 = sym same ∙ ap (λ k. bit_and (bit_or bits (2 ^ k)) (bit_of tag)) (sym e) ∙ none in
    omega (arith, power, no)

fewer-bits : (bits tag other : ℕ) → bit_and (bit_or bits (bit_of other)) (bit_of tag) ≡ 0 → bit_and bits (bit_of tag) ≡ 0
fewer-bits bits tag other none = sym (and_or_apart (bit_of tag) bits (bit_of other) (pow_apart (other % 64) (tag % 64) (other-bit bits tag other none))) ∙ none

-- no change has the bit, nor does what is below them
without-bits : (bits tag : ℕ) (cs : List Change) → bit_and (bits_with bits cs) (bit_of tag) ≡ 0 → (bit_and bits (bit_of tag) ≡ 0) × AllByRecursion (λ (c : Change). c.tag % 64 ≢ tag % 64) cs
without-bits bits tag [] none = (none, tt)
without-bits bits tag (c ∷ cs) none =
    let rest = without-bits (bit_or bits (bit_of c.tag)) tag cs none in
    (fewer-bits bits tag c.tag rest.0, (other-bit bits tag c.tag rest.0, rest.1))

-- a change of another tag is at another type and state key
other-change : (c : Change) (kind key : List ℕ) → IsTagged c → c.tag % 64 ≢ tag_of kind key % 64 → (b : Bool) → is_change_at kind key c ≡ b → b ≡ false
other-change c kind key tag apart false e = refl
other-change c kind key tag apart true e = absurd (apart (ap (λ k. k % 64) (tag ∙ ap (λ (q : StateKey). tag_of q.0 q.1) (is-at kind key c e))))

none-at : (cs : List Change) (kind key : List ℕ) → All IsTagged cs → AllByRecursion (λ (c : Change). c.tag % 64 ≢ tag_of kind key % 64) cs → find (is_change_at kind key) cs ≡ None
none-at [] kind key tags others = refl
none-at (c ∷ cs) kind key tags others =
    ap (λ b. cond b (Some c) (find (is_change_at kind key) cs)) (other-change c kind key (All-head IsTagged c cs tags) others.0 (is_change_at kind key c) refl)
    ∙ none-at cs kind key (All-tail IsTagged c cs tags) others.1

-- the same holds at a place as at the one over which changes are laid there, where none of them has the bit
abbrev IsPassed : List Step → List ℕ → List ℕ → ℕ → Type 0
IsPassed steps kind key place = is_root_at steps place ≡ true → bit_and (bits_at steps place) (bit_of (tag_of kind key)) ≡ 0
    → entry_at (state_at (states_of steps) (base_at steps place)) kind key ≡ entry_at (state_at (states_of steps) place) kind key

passed-one : (steps : List Step) (kind key : List ℕ) → AreSteps steps → (place : ℕ) → ((p : ℕ) → p < place → IsPassed steps kind key p) → (o : Option Step) → slice_get steps place ≡ o
    → IsPassed steps kind key place
passed-one steps kind key are place rest None e root none = absurd (true≢false (sym root ∙ root-at steps place None e))
passed-one steps kind key are place rest (Some (Same parent)) e root none = absurd (true≢false (sym root ∙ root-at steps place (Some (Same parent)) e))
passed-one steps kind key are place rest (Some (Whole whole)) e root none =
    ap (λ p. entry_at (state_at (states_of steps) p) kind key) (base-there steps place (Some (Whole whole)) e)
passed-one steps kind key are place rest (Some (Laid laid)) e root none =
    let lower = are place (Laid laid) e in
    let cs : List Change = laid.over.changes.items in
    let without : bit_and (bits_with (bits_at steps laid.over.parent) cs) (bit_of (tag_of kind key)) ≡ 0 =
    ap (λ bits. bit_and bits (bit_of (tag_of kind key))) (sym (bits-there steps place (Some (Laid laid)) e ∙ laid-bits steps place laid are e)) ∙ none in
    let others = without-bits (bits_at steps laid.over.parent) (tag_of kind key) cs without in
    let below = rest laid.over.parent (laid-before steps place laid are e) (laid-root steps place laid are e).root others.0 in
    let missing : find (is_change_at kind key) cs ≡ None = none-at cs kind key lower.tags others.1 in
    ap (λ p. entry_at (state_at (states_of steps) p) kind key) (base-there steps place (Some (Laid laid)) e ∙ laid-base steps place laid are e)
    ∙ below
    ∙ sym (found-changes (state_at (states_of steps) laid.over.parent) cs kind key ∙ ap (λ o. found o (entry_at (state_at (states_of steps) laid.over.parent) kind key)) missing)
    ∙ ap (λ (s : StateMap). entry_at s kind key) (sym (at-step steps place (Laid laid) are e))

passed : (steps : List Step) (kind key : List ℕ) → AreSteps steps → (n place : ℕ) → place < n → IsPassed steps kind key place
passed steps kind key are zero place less = absurd (omega (arith, less))
passed steps kind key are (suc n) place less = passed-one steps kind key are place (λ p below. passed steps kind key are n p (omega (arith, less, below))) (slice_get steps place) refl

pub passed-laid : (steps : List Step) (kind key : List ℕ) (place : ℕ) (laid : LaidChanges) → AreSteps steps → slice_get steps place ≡ Some (Laid laid) → bit_and laid.bits (bit_of (tag_of kind key)) ≡ 0
    → entry_at (state_at (states_of steps) laid.base) kind key ≡ entry_at (state_at (states_of steps) place) kind key
passed-laid steps kind key place laid are e none =
    ap (λ p. entry_at (state_at (states_of steps) p) kind key) (sym (base-there steps place (Some (Laid laid)) e))
    ∙ passed steps kind key are (place + 1) place (omega arith) (root-at steps place (Some (Laid laid)) e)
    (ap (λ bits. bit_and bits (bit_of (tag_of kind key))) (bits-there steps place (Some (Laid laid)) e) ∙ none)

-- ---- of which state a whole one was made

fronts : (states : List StateMap) (xs ys : List Step) → states_behind states (xs ++ ys) ≡ states_behind (states_behind states xs) ys
fronts states [] ys = refl
fronts states (x ∷ xs) ys = fronts (states ++ step_state states x ∷ []) xs ys

-- what the steps in front give
front-state : (steps : List Step) (place p : ℕ) → p < length (take place steps) → state_at (states_of (take place steps)) p ≡ state_at (states_of steps) p
unfolding states_of
front-state steps place p less =
    let front : List Step = take place steps in
    let long = count front in
    sym (ap (λ (xs : List Step). state_at (states_behind [] xs) p) (sym (take-append-drop place steps)) ∙ ap (λ states. state_at states p) (fronts [] front (drop place steps))
    ∙ stays (states_behind [] front) (drop place steps) p (omega (arith, less, long)))

pub whole-over : (steps : List Step) (place : ℕ) (whole : WholeState) (over : Over) → AreSteps steps → slice_get steps place ≡ Some (Whole whole) → whole.over ≡ Some over
    → (over.parent < place) × (IsRootOf steps over.parent × (whole.state ≡ with_changes (state_at (states_of steps) over.parent) over.changes.items))
whole-over steps place whole over are e is =
    let lower : IsWholeOver (take place steps) whole.state over = subst (λ (o : Option Over). IfSome o (IsWholeOver (take place steps) whole.state)) is (are place (Whole whole) e) in
    let least = shorter steps place in
    let within = lower.root.within in
    (omega (arith, least, within), (root-of steps place over.parent lower.root, lower.made ∙ ap (λ (s : StateMap). with_changes s over.changes.items) (front-state steps place over.parent lower.root.within)))
