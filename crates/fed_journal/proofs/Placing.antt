-- The parcels that an entry places, and that none is placed behind an end.
use Rattle.std.proofs.Common.{arith, ◌≡◌, ◌≢◌, ℕ, suc, ◌+◌, ◌==◌, Bool, true, false, ◌||◌, if◌then◌else◌, List, [], ◌∷◌, ◌++◌, length, map, drop, Option, Some, None, refl, sym, ap, ◌∙◌, subst, not}
use Rattle.std.specs.List.{list_any, filter_map, cons_option}
use Rattle.std.specs.Option.{option_map, option_to_list}
use Rattle.std.proofs.lemmas.List.{append-nil, map-append}
use Rattle.std.proofs.Math.Seq.{drop-append_seam, drop-length}
use Rattle.std.proofs.lemmas.Bool.{eq-eqb, ne_eqb}
use Rattle.std.proofs.lemmas.List.Elements.{All-nil}
use Rattle.fed_dest.specs.ServerSet.{is_among}
use Rattle.fed_journal.specs.declared.entry.Cause.{Cause}
use Rattle.fed_journal.specs.declared.entry.Cause.TheVariants.{Asked, Lost}
use Rattle.fed_journal.specs.declared.entry.Entry.{Entry}
use Rattle.fed_journal.specs.declared.entry.Entry.TheVariants.{Event, Edu, Close}
use Rattle.fed_journal.specs.declared.parcel.Load.{Load}
use Rattle.fed_journal.specs.declared.parcel.Load.TheVariants as load
use Rattle.fed_journal.specs.declared.parcel.Parcel.{Parcel}
use Rattle.fed_journal.specs.declared.offered.Offered.{Offered}
use Rattle.fed_journal.specs.declared.offered.Offered.TheVariants as offered
use Rattle.fed_journal.specs.Journal.{is_closed, closes, reaching, event_for, edu_for, load_for, end_of, addressed, addressed_edus, loads, placed, next_place, numbered, parcels}
use Rattle.fed_journal.specs.Loads.{is_end}
use Rattle.fed_journal.specs.Offered.{entry_of, load_of}
use Rattle.fed_journal.specs.Offering.{open_among, AreLost}
use Rattle.fed_journal.specs.Queues.{parcel_after, parcel_to, placed_beyond}
use Rattle.fed_journal.proofs.Entries.{is_closed-more, is_closed-one, addressed-more, addressed-one, addressed_edus-more, addressed_edus-one, loads-more, loads-one, none_reaches}

numbered-append : (d n : ℕ) (xs ys : List Load) → numbered d n (xs ++ ys) ≡ numbered d n xs ++ numbered d (n + length xs) ys
numbered-append d n [] ys = ap (λ m. numbered d m ys) (omega arith)
numbered-append d n (x ∷ xs) ys =
    ap (λ ps. record { place = record { dest = d; number = n + 1 }; load = x } ∷ ps) (numbered-append d (n + 1) xs ys ∙ ap (λ m. numbered d (n + 1) xs ++ numbered d m ys) (omega arith))

abbrev parcel_with : ℕ → ℕ → Load → Parcel
parcel_with d n x = record { place = record { dest = d; number = n + 1 }; load = x }

numbered_one : (d n : ℕ) (o : Option Load) → numbered d (0 + n) (cons_option o []) ≡ option_to_list (option_map (parcel_with d n) o)
numbered_one d n None = refl
numbered_one d n (Some x) = ap (λ m. parcel_with d m x ∷ []) (omega arith)

pub parcels-more : (entries : List Entry) (entry : Entry) (d : ℕ) → parcels (entries ++ entry ∷ []) d ≡ parcels entries d ++ option_to_list (parcel_after entries entry d)
parcels-more entries entry d =
    ap (numbered d 0) (loads-more entries (entry ∷ []) d ∙ ap (λ xs. if is_closed entries d then loads entries d else loads entries d ++ xs) (loads-one d entry))
    ∙ by (is_closed entries d)
  where
    by : (b : Bool) → numbered d 0 (if b then loads entries d else loads entries d ++ cons_option (load_for d entry) [])
        ≡ parcels entries d ++ option_to_list (option_map (parcel_with d (placed entries d)) (if b then None else load_for d entry))
    by true = sym (append-nil (parcels entries d))
    by false =
        numbered-append d 0 (loads entries d) (cons_option (load_for d entry) [])
        ∙ ap (λ ps. parcels entries d ++ ps) (numbered_one d (placed entries d) (load_for d entry))

length-numbered : (d n : ℕ) (xs : List Load) → length (numbered d n xs) ≡ length xs
length-numbered d n [] = refl
length-numbered d n (x ∷ xs) = ap suc (length-numbered d (n + 1) xs)

pub parcels_beyond : (entries : List Entry) (entry : Entry) (d : ℕ) → placed_beyond entries (entries ++ entry ∷ []) d ≡ option_to_list (parcel_after entries entry d)
parcels_beyond entries entry d =
    ap (drop (placed entries d)) (parcels-more entries entry d)
    ∙ ap (λ n. drop n (parcels entries d ++ option_to_list (parcel_after entries entry d))) (sym (length-numbered d 0 (loads entries d)))
    ∙ drop-append_seam (parcels entries d) (option_to_list (parcel_after entries entry d))

pub nothing_beyond : (entries : List Entry) (d : ℕ) → placed_beyond entries entries d ≡ []
nothing_beyond entries d = ap (λ n. drop n (parcels entries d)) (sym (length-numbered d 0 (loads entries d))) ∙ drop-length (parcels entries d)

-- a parcel of a load at the next place, where the outbox is open
to_open : (entries : List Entry) (d : ℕ) (x : Load) → option_map (parcel_with d (placed entries d)) (if is_closed entries d then None else Some x) ≡ parcel_to entries x d
to_open entries d x = by (is_closed entries d)
  where
    by : (b : Bool) → option_map (parcel_with d (placed entries d)) (if b then None else Some x)
        ≡ option_map (λ place. record { place = place; load = x }) (if b then None else Some (record { dest = d; number = placed entries d + 1 }))
    by true = refl
    by false = refl

none_to : (entries : List Entry) (d : ℕ) → option_map (parcel_with d (placed entries d)) (if is_closed entries d then None else None) ≡ None
none_to entries d = by (is_closed entries d)
  where
    by : (b : Bool) → option_map (parcel_with d (placed entries d)) (if b then None else None) ≡ None
    by true = refl
    by false = refl

to_chosen : (entries : List Entry) (d : ℕ) (x : Load) (b : Bool)
    → option_map (parcel_with d (placed entries d)) (if is_closed entries d then None else (if b then Some x else None)) ≡ (if b then parcel_to entries x d else None)
to_chosen entries d x true = to_open entries d x
to_chosen entries d x false = none_to entries d

pub parcel_offered : (entries : List Entry) (what : Offered) (dests : List ℕ) (d : ℕ)
    → parcel_after entries (entry_of what dests) d ≡ (if is_among dests d then parcel_to entries (load_of what) d else None)
parcel_offered entries (offered.Event event) dests d = to_chosen entries d (load.Event event) (is_among dests d)
parcel_offered entries (offered.Edu edu) dests d = to_chosen entries d (load.Edu edu) (is_among dests d)

pub parcel_ending : (entries : List Entry) (d : ℕ) → parcel_after entries (Close d Asked) d ≡ parcel_to entries load.End d
parcel_ending entries d =
    ap (λ (b : Bool). option_map (parcel_with d (placed entries d)) (if is_closed entries d then None else (if b then Some load.End else None))) (eq-eqb d d refl) ∙ to_open entries d load.End

pub parcel_losing : (entries : List Entry) (dest d : ℕ) → parcel_after entries (Close dest Lost) d ≡ None
parcel_losing entries dest d = ap (λ (o : Option Load). option_map (parcel_with d (placed entries d)) (if is_closed entries d then None else o)) (by (dest == d)) ∙ none_to entries d
  where
    by : (b : Bool) → (if b then end_of Lost else None) ≡ None
    by true = refl
    by false = refl

-- ---- a close leaves the others

module _ (entries : List Entry) (dest : ℕ) (cause : Cause) (d : ℕ) (apart : d ≢ dest) where
  other : (dest == d) ≡ false
  other = ne_eqb dest d (λ e. apart (sym e))

  either_way : {X : Type 0} (b : Bool) (xs : List X) → (if b then xs else xs ++ []) ≡ xs
  either_way true xs = refl
  either_way false xs = append-nil xs

  pub others_closed : is_closed (entries ++ Close dest cause ∷ []) d ≡ is_closed entries d
  others_closed = is_closed-more entries (Close dest cause ∷ []) d ∙ ap (λ b. is_closed entries d || b) (is_closed-one d (Close dest cause) ∙ other) ∙ or_false (is_closed entries d)
    where
      or_false : (b : Bool) → (b || false) ≡ b
      or_false true = refl
      or_false false = refl

  pub others_addressed : addressed (entries ++ Close dest cause ∷ []) d ≡ addressed entries d
  others_addressed =
      addressed-more entries (Close dest cause ∷ []) d
      ∙ ap (λ xs. if is_closed entries d then addressed entries d else addressed entries d ++ xs) (addressed-one d (Close dest cause))
      ∙ either_way (is_closed entries d) (addressed entries d)

  pub others_edus : addressed_edus (entries ++ Close dest cause ∷ []) d ≡ addressed_edus entries d
  others_edus =
      addressed_edus-more entries (Close dest cause ∷ []) d
      ∙ ap (λ xs. if is_closed entries d then addressed_edus entries d else addressed_edus entries d ++ xs) (addressed_edus-one d (Close dest cause))
      ∙ either_way (is_closed entries d) (addressed_edus entries d)

  others_loads : loads (entries ++ Close dest cause ∷ []) d ≡ loads entries d
  others_loads =
      loads-more entries (Close dest cause ∷ []) d
      ∙ ap (λ xs. if is_closed entries d then loads entries d else loads entries d ++ xs)
      (loads-one d (Close dest cause) ∙ ap (λ (b : Bool). cons_option (if b then end_of cause else None) []) other)
      ∙ either_way (is_closed entries d) (loads entries d)

  pub others_parcels : parcels (entries ++ Close dest cause ∷ []) d ≡ parcels entries d
  others_parcels = ap (numbered d 0) others_loads

  pub others_place : next_place (entries ++ Close dest cause ∷ []) d ≡ next_place entries d
  others_place = λ i. if others_closed i then None else Some (record { dest = d; number = length (others_loads i) + 1 })

-- ---- no outbox is lost

pub none_lost : (entries : List Entry) (dests : List ℕ) → AreLost entries dests []
none_lost entries dests = record { rising = λ k more. absurd (omega (arith, more)); reached = All-nil (λ d. is_among (open_among entries dests) d ≡ true) }

-- ---- an end is the last

abbrev EndsLast : List Load → Type 0
EndsLast xs = (before after : List Load) → xs ≡ before ++ after → list_any is_end before ≡ true → after ≡ []

abbrev tail_of : List Load → List Load
tail_of [] = []
tail_of (x ∷ xs) = xs

abbrev front_ends : List Load → Bool
front_ends [] = false
front_ends (x ∷ xs) = is_end x

nothing_left : (before after : List Load) → [] ≡ before ++ after → after ≡ []
nothing_left [] after e = sym e
nothing_left (x ∷ before) after e = absurd (cc)

none_last : EndsLast []
none_last before after e any = nothing_left before after e

one_more_last : (l : Load) (xs : List Load) → is_end l ≡ false → EndsLast xs → EndsLast (l ∷ xs)
one_more_last l xs not_end rest [] after e any = absurd (cc)
one_more_last l xs not_end rest (x ∷ before) after e any =
    rest before after (ap tail_of e) (sym (ap (λ b. b || list_any is_end before) (sym (ap front_ends e) ∙ not_end)) ∙ any)

only_last : (l : Load) → EndsLast (l ∷ [])
only_last l [] after e any = absurd (cc)
only_last l (x ∷ before) after e any = nothing_left before after (ap tail_of e)

closing_last : (b : Bool) (cause : Cause) → EndsLast (cons_option (if b then end_of cause else None) [])
closing_last true Asked = only_last load.End
closing_last true Lost = none_last
closing_last false cause = none_last

last_from : (d : ℕ) (was_open : Bool) (xs : List Entry) → EndsLast (filter_map (load_for d) (reaching d was_open xs))
last_from d was_open [] = none_last
last_from d false (x ∷ xs) = last_from d false xs
last_from d true (Event event dests ∷ xs) = by (is_among dests d) (last_from d true xs)
  where
    by : (b : Bool) → EndsLast (filter_map (load_for d) (reaching d true xs)) → EndsLast (cons_option (if b then Some (load.Event event) else None) (filter_map (load_for d) (reaching d true xs)))
    by true rest = one_more_last (load.Event event) _ refl rest
    by false rest = rest
last_from d true (Edu edu dests ∷ xs) = by (is_among dests d) (last_from d true xs)
  where
    by : (b : Bool) → EndsLast (filter_map (load_for d) (reaching d true xs)) → EndsLast (cons_option (if b then Some (load.Edu edu) else None) (filter_map (load_for d) (reaching d true xs)))
    by true rest = one_more_last (load.Edu edu) _ refl rest
    by false rest = rest
last_from d true (Close dest cause ∷ xs) = by (dest == d) (last_from d true xs)
  where
    by : (b : Bool) → EndsLast (filter_map (load_for d) (reaching d true xs))
        → EndsLast (cons_option (if b then end_of cause else None) (filter_map (load_for d) (reaching d (not b) xs)))
    by true rest = subst (λ es. EndsLast (cons_option (end_of cause) (filter_map (load_for d) es))) (sym (none_reaches d xs)) (closing_last true cause)
    by false rest = rest

pub loads_end_last : (entries : List Entry) (d : ℕ) → EndsLast (loads entries d)
loads_end_last entries d = last_from d true entries

abbrev load_in : Parcel → Load
load_in parcel = parcel.load

loads_in : (d n : ℕ) (xs : List Load) → map load_in (numbered d n xs) ≡ xs
loads_in d n [] = refl
loads_in d n (x ∷ xs) = ap (λ ys. x ∷ ys) (loads_in d (n + 1) xs)

any_end : (ps : List Parcel) → list_any is_end (map load_in ps) ≡ list_any (λ p. is_end p.load) ps
any_end [] = refl
any_end (p ∷ ps) = ap (λ b. is_end p.load || b) (any_end ps)

none_there : (ps : List Parcel) → map load_in ps ≡ [] → ps ≡ []
none_there [] e = refl
none_there (p ∷ ps) e = absurd (cc)

pub parcels_end_last : (entries : List Entry) (d : ℕ) (before after : List Parcel) → parcels entries d ≡ before ++ after → list_any (λ p. is_end p.load) before ≡ true → after ≡ []
parcels_end_last entries d before after e any =
    none_there after (loads_end_last entries d (map load_in before) (map load_in after)
    (sym (loads_in d 0 (loads entries d)) ∙ ap (map load_in) e ∙ map-append load_in before after) (any_end before ∙ any))
