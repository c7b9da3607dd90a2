-- What is left, beside what is placed from some entry on.
use Rattle.std.proofs.Common.{arith, ◌≡◌, ◌≤◌, ◌<◌, ℕ, suc, ◌+◌, Bool, true, false, not, ◌&&◌, if◌then◌else◌, List, [], ◌∷◌, ◌++◌, length, drop, Option, Some, None, refl, sym, ap, ◌∙◌, subst, length-append}
use Rattle.std.specs.List.{filter_map, cons_option}
use Rattle.serde_json.specs.Data.{Data}
use Rattle.fed_event.specs.Checked.{CheckedEvent}
use Rattle.fed_journal.specs.declared.entry.Entry.{Entry}
use Rattle.fed_journal.specs.declared.parcel.Load.{Load}
use Rattle.fed_journal.specs.declared.parcel.Load.TheVariants.{Event, Edu, End}
use Rattle.fed_journal.specs.Journal.{closes, load_for, loads, reaching}
use Rattle.fed_journal.specs.Loads.{event_in_load, edu_in_load}
use Rattle.fed_journal.proofs.Entries.{none_reaches}
use Rattle.fed_outbox.specs.Outbox.{is_empty}
use Rattle.fed_hub_kept.specs.Left.{LeftState, is_nothing, with_first, without_first}

abbrev pub count_of : LeftState → ℕ
count_of l = length l.events + length l.edus + (if l.has_end then 1 else 0)

-- these loads hold what is left
pub record Holds (held : List Load) (l : LeftState) : Type 0 where
  pub events : l.events ≡ filter_map event_in_load held
  pub edus : l.edus ≡ filter_map edu_in_load held
  pub count : length held ≡ count_of l

-- the first of these do
pub record IsFront (l : LeftState) (all : List Load) : Type 0 where
  pub front : List Load
  pub later : List Load
  pub split : all ≡ front ++ later
  pub holds : Holds front l

-- ---- nothing is left

record Nothing (es : List CheckedEvent) (us : List Data) (b : Bool) : Type 0 where
  events : es ≡ []
  edus : us ≡ []
  count : 0 ≡ length es + length us + (if b then 1 else 0)

nothing_is : (es : List CheckedEvent) (us : List Data) (b : Bool) → (is_empty es && (is_empty us && not b)) ≡ true → Nothing es us b
nothing_is [] [] false e = record { events = refl; edus = refl; count = refl }
nothing_is [] [] true e = absurd (cc)
nothing_is [] (u ∷ us) b e = absurd (cc)
nothing_is (x ∷ es) us b e = absurd (cc)

something : (es : List CheckedEvent) (us : List Data) (b : Bool) → (is_empty es && (is_empty us && not b)) ≡ false → 0 < length es + length us + (if b then 1 else 0)
something [] [] false e = absurd (cc)
something [] [] true e = omega arith
something [] (u ∷ us) b e = omega arith
something (x ∷ es) us b e = omega arith

none_counts : (es : List CheckedEvent) (us : List Data) (b : Bool) → 0 ≡ length es + length us + (if b then 1 else 0) → (is_empty es && (is_empty us && not b)) ≡ true
none_counts [] [] false e = refl
none_counts [] [] true e = absurd (omega arith)
none_counts [] (u ∷ us) b e = absurd (omega arith)
none_counts (x ∷ es) us b e = absurd (omega arith)

pub nothing_fronts : (l : LeftState) (all : List Load) → is_nothing l ≡ true → IsFront l all
nothing_fronts l all e =
    let n = nothing_is l.events l.edus l.has_end e in
    record { front = []; later = all; split = refl; holds = record { events = n.events; edus = n.edus; count = n.count } }

pub front_of_none : (l : LeftState) → IsFront l [] → is_nothing l ≡ true
front_of_none l f =
    let split : 0 ≡ length (f.front ++ f.later) = ap length f.split in
    let both = length-append f.front f.later in
    let count = f.holds.count in
    none_counts l.events l.edus l.has_end (omega arith)

-- ---- one load

abbrev mark : Bool → ℕ
mark b = if b then 1 else 0

off : (b : Bool) → b ≡ false → mark b ≡ 0
off false e = refl
off true e = absurd (cc)

on : (b : Bool) → b ≡ true → mark b ≡ 1
on true e = refl
on false e = absurd (cc)

-- no more events and EDUs than loads
few : (held : List Load) → length (filter_map event_in_load held) + length (filter_map edu_in_load held) ≤ length held
few [] = omega arith
few (Event event ∷ held) = let h = few held in omega arith
few (Edu edu ∷ held) = let h = few held in omega arith
few (End ∷ held) = let h = few held in omega arith

taken : (l new : LeftState) (load : Load) (more : List Load) → l ≡ with_first (Some load) new → new ≡ without_first (Some load) l → IsFront new more → IsFront l (load ∷ more)
taken l new (Event event) more first rest f = record {
  front = Event event ∷ f.front;
  later = f.later;
  split = ap (λ xs. Event event ∷ xs) f.split;
  holds = record {
    events = ap (λ (s : LeftState). s.events) first ∙ ap (λ es. event ∷ es) f.holds.events;
    edus = ap (λ (s : LeftState). s.edus) first ∙ f.holds.edus;
    count = let was = f.holds.count in let counts : count_of l ≡ count_of (with_first (Some (Event event)) new) = ap count_of first in omega arith;
  };
}
taken l new (Edu edu) more first rest f = record {
  front = Edu edu ∷ f.front;
  later = f.later;
  split = ap (λ xs. Edu edu ∷ xs) f.split;
  holds = record {
    events = ap (λ (s : LeftState). s.events) first ∙ f.holds.events;
    edus = ap (λ (s : LeftState). s.edus) first ∙ ap (λ us. edu ∷ us) f.holds.edus;
    count = let was = f.holds.count in let counts : count_of l ≡ count_of (with_first (Some (Edu edu)) new) = ap count_of first in omega arith;
  };
}
taken l new End more first rest f = record {
  front = End ∷ f.front;
  later = f.later;
  split = ap (λ xs. End ∷ xs) f.split;
  holds = record {
    events = ap (λ (s : LeftState). s.events) first ∙ f.holds.events;
    edus = ap (λ (s : LeftState). s.edus) first ∙ f.holds.edus;
    count =
        let was = f.holds.count in
        let counts : count_of l ≡ length new.events + length new.edus + 1 = ap count_of first in
        let none = off new.has_end (ap (λ (s : LeftState). s.has_end) rest) in
        omega arith;
  };
}

-- the load stands first in what is left
abbrev Leads : LeftState → Load → List Load → Type 0
Leads l load more = (l ≡ with_first (Some load) (without_first (Some load) l)) × IsFront (without_first (Some load) l) more

ended : (es : List CheckedEvent) (us : List Data) (b : Bool) (held : List Load) → es ≡ filter_map event_in_load held → us ≡ filter_map edu_in_load held
    → suc (length held) ≡ length es + length us + (if b then 1 else 0) → b ≡ true
ended es us true held events edus count = refl
ended es us false held events edus count =
    let least = few held in let one = ap length events in let two = ap length edus in absurd (omega arith)

leads : (l : LeftState) (load : Load) (more front later : List Load) → more ≡ front ++ later → Holds (load ∷ front) l → Leads l load more
leads l (Event event) more front later rest h =
    let others : drop 1 l.events ≡ filter_map event_in_load front = ap (drop 1) h.events in
    let is : l.events ≡ event ∷ drop 1 l.events = h.events ∙ ap (λ es. event ∷ es) (sym others) in
    let count = h.count in
    let counts : length l.events ≡ suc (length (drop 1 l.events)) = ap length is in
    let fewer : length front ≡ length (drop 1 l.events) + length l.edus + (if l.has_end then 1 else 0) = omega arith in (
      (λ i. record { events = is i; edus = l.edus; has_end = l.has_end }),
      record { front = front; later = later; split = rest; holds = record { events = others; edus = h.edus; count = fewer } },
    )
leads l (Edu edu) more front later rest h =
    let others : drop 1 l.edus ≡ filter_map edu_in_load front = ap (drop 1) h.edus in
    let is : l.edus ≡ edu ∷ drop 1 l.edus = h.edus ∙ ap (λ us. edu ∷ us) (sym others) in
    let count = h.count in
    let counts : length l.edus ≡ suc (length (drop 1 l.edus)) = ap length is in
    let fewer : length front ≡ length l.events + length (drop 1 l.edus) + (if l.has_end then 1 else 0) = omega arith in (
      (λ i. record { events = l.events; edus = is i; has_end = l.has_end }),
      record { front = front; later = later; split = rest; holds = record { events = h.events; edus = others; count = fewer } },
    )
leads l End more front later rest h =
    let is : l.has_end ≡ true = ended l.events l.edus l.has_end front h.events h.edus h.count in
    let count = h.count in
    let counts = on l.has_end is in
    let fewer : length front ≡ length l.events + length l.edus + 0 = omega arith in (
      (λ i. record { events = l.events; edus = l.edus; has_end = is i }),
      record { front = front; later = later; split = rest; holds = record { events = h.events; edus = h.edus; count = fewer } },
    )

needed : (l : LeftState) (load : Load) (more front later : List Load) → is_nothing l ≡ false → load ∷ more ≡ front ++ later → Holds front l → Leads l load more
needed l load more [] later some split h = absurd (let least = something l.events l.edus l.has_end some in let none = h.count in omega arith)
needed l load more (x ∷ front) later some split h =
    leads l load more front later (ap (drop 1) split) (subst (λ y. Holds (y ∷ front) l) (sym (ap (first_or load) split)) h)
  where
    first_or : Load → List Load → Load
    first_or y [] = y
    first_or y (z ∷ zs) = z

-- ---- what an entry places

pub step_taken : (l new : LeftState) (o : Option Load) (more : List Load) → l ≡ with_first o new → new ≡ without_first o l → IsFront new more → IsFront l (cons_option o more)
step_taken l new None more first rest f = subst (λ s. IsFront s more) (sym first) f
step_taken l new (Some load) more first rest f = taken l new load more first rest f

pub step_needed : (l : LeftState) (o : Option Load) (more : List Load) → is_nothing l ≡ false → IsFront l (cons_option o more)
    → (l ≡ with_first o (without_first o l)) × IsFront (without_first o l) more
step_needed l None more some f = (refl, f)
step_needed l (Some load) more some f = needed l load more f.front f.later some f.split f.holds

pub loads_open : (d : ℕ) (entry : Entry) (entries : List Entry) → closes d entry ≡ false → loads (entry ∷ entries) d ≡ cons_option (load_for d entry) (loads entries d)
loads_open d entry entries e = ap (λ b. cons_option (load_for d entry) (filter_map (load_for d) (reaching d (not b) entries))) e

pub loads_closed : (d : ℕ) (entry : Entry) (entries : List Entry) → closes d entry ≡ true → loads (entry ∷ entries) d ≡ cons_option (load_for d entry) []
loads_closed d entry entries e =
    ap (λ b. cons_option (load_for d entry) (filter_map (load_for d) (reaching d (not b) entries))) e
    ∙ ap (λ es. cons_option (load_for d entry) (filter_map (load_for d) es)) (none_reaches d entries)
