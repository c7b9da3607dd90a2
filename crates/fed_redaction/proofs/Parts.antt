-- An object and the names and values of its members.
use Rattle.std.proofs.Common.{◌≡◌, ℕ, ◌<◌, ◌≤◌, List, Bool, true, false, not, Option, Some, None, IfSome, codes, if◌then◌else◌, Ordering, Less, Equal, Greater, nat_cmp, refl, sym, ◌∙◌, ap, arith}
use Rattle.std.proofs.lemmas.Bool.{cond_both}
use Rattle.std.specs.Ordering.{match_ordering}
use Rattle.std.specs.Cmp.Lexicographic.{slice_cmp}
use Rattle.serde_json.specs.Data.{Data, null, boolean, number, string, array, object, Members, no_members, member, depth, members_depth}
use Rattle.serde_json.specs.Read.{max_depth}
use Rattle.serde_json.specs.Find.{as_object, get, get_member}
use Rattle.fed_json.specs.JsonRef.{pairs_of, as_members}
use Rattle.fed_redaction.specs.declared.version.Version.{Version}
use Rattle.fed_redaction.specs.Names.{is_one_of, select, member_if, keep, leave_out, members_of}
use Rattle.fed_redaction.specs.Version.{Kept}
use Rattle.fed_redaction.specs.Event.{event_in}
use Rattle.fed_redaction.specs.Redaction.{type_of, kept_of, signed_alone, stays_whole, kept_value, kept_content, redacted_members, redacted_in}
use Rattle.fed_redaction.specs.EventId.{unsigned_keys, signed_part}

pub members_of-pairs_of : (ms : Members) → members_of (pairs_of ms) ≡ ms
members_of-pairs_of no_members = refl
members_of-pairs_of (member k d ms) = ap (member k d) (members_of-pairs_of ms)

some_pairs : (ms : Members) (ps : List (List ℕ × Data)) → Some (pairs_of ms) ≡ Some ps → ms ≡ members_of ps
some_pairs ms ps h = let same : pairs_of ms ≡ ps = cc in sym (members_of-pairs_of ms) ∙ ap members_of same

-- what has members is an object
pub object-as_members : (d : Data) (ps : List (List ℕ × Data)) → as_members d ≡ Some ps → d ≡ object (members_of ps)
object-as_members null ps h = absurd (cc)
object-as_members (boolean b) ps h = absurd (cc)
object-as_members (number n) ps h = absurd (cc)
object-as_members (string s) ps h = absurd (cc)
object-as_members (array ds) ps h = absurd (cc)
object-as_members (object ms) ps h = ap object (some_pairs ms ps h)

pub as_object-none : (d : Data) → as_members d ≡ None → as_object d ≡ None
as_object-none null h = refl
as_object-none (boolean b) h = refl
as_object-none (number n) h = refl
as_object-none (string s) h = refl
as_object-none (array ds) h = refl
as_object-none (object ms) h = absurd (cc)

pub shallow-members : (d : Data) (ps : List (List ℕ × Data)) → as_members d ≡ Some ps → depth d ≤ max_depth → members_depth (members_of ps) < max_depth
shallow-members d ps h low = let is = ap depth (object-as_members d ps h) in omega (arith, low, is)

-- ---- the content

pub kept_content-members : (kept : Kept) (d : Data) (ps : List (List ℕ × Data)) → as_members d ≡ Some ps → kept_content kept d ≡ object (keep (kept_value kept) (members_of ps))
kept_content-members kept d ps h = ap (kept_content kept) (object-as_members d ps h)

pub members-select : (test : List ℕ → Bool) (ms : Members) → members_depth (select test ms) ≤ members_depth ms
members-select test no_members = omega arith
members-select test (member k d ms) =
    cond_both (test k) (member k d (select test ms)) (select test ms) (λ kept. members_depth kept ≤ members_depth (member k d ms))
    (λ _. let rest = members-select test ms in omega (arith, rest))
    (λ _. let rest = members-select test ms in omega (arith, rest))

weaker : (o : Option Data) (P Q : Data → Type 0) → ((d : Data) → P d → Q d) → IfSome o P → IfSome o Q
weaker None P Q h p = tt
weaker (Some d) P Q h p = h d p

-- no value that is left nests deeper
abbrev pub Deepens : (List ℕ → Data → Option Data) → Type 0
Deepens f = (k : List ℕ) (d : Data) → IfSome (f k d) (λ e. depth e ≤ depth d)

depth_if : (k : List ℕ) (o : Option Data) (ms : Members) (n : ℕ) → IfSome o (λ e. depth e ≤ n) → members_depth ms ≤ n → members_depth (member_if k o ms) ≤ n
depth_if k None ms n here rest = rest
depth_if k (Some e) ms n here rest = omega (arith, here, rest)

pub members-keep : (f : List ℕ → Data → Option Data) → Deepens f → (ms : Members) → members_depth (keep f ms) ≤ members_depth ms
members-keep f low no_members = omega arith
members-keep f low (member k d ms) =
    let rest = members-keep f low ms in
    depth_if k (f k d) (keep f ms) (members_depth (member k d ms))
    (weaker (f k d) (λ e. depth e ≤ depth d) (λ e. depth e ≤ members_depth (member k d ms)) (λ e h. omega (arith, h)) (low k d)) (omega (arith, rest))

depth_at : (o : Ordering) (d : Option Data) (e : Data) (n : ℕ) → IfSome d (λ v. depth v ≤ n) → depth e ≤ n → IfSome (match_ordering o d (Some e) d) (λ v. depth v ≤ n)
depth_at Less d e n rest here = rest
depth_at Equal d e n rest here = here
depth_at Greater d e n rest here = rest

pub get_member-depth : (k : List ℕ) (ms : Members) → IfSome (get_member k ms) (λ v. depth v ≤ members_depth ms)
get_member-depth k no_members = tt
get_member-depth k (member l e ms) =
    depth_at (slice_cmp nat_cmp k l) (get_member k ms) e (members_depth (member l e ms))
    (weaker (get_member k ms) (λ v. depth v ≤ members_depth ms) (λ v. depth v ≤ members_depth (member l e ms)) (λ v h. omega (arith, h)) (get_member-depth k ms)) (omega arith)

pub signed_alone-depth : (d : Data) → IfSome (signed_alone d) (λ e. depth e ≤ depth d)
signed_alone-depth null = tt
signed_alone-depth (boolean b) = tt
signed_alone-depth (number n) = tt
signed_alone-depth (string s) = tt
signed_alone-depth (array ds) = tt
signed_alone-depth (object ms) =
    let low = depth_if (codes "signed") (get_member (codes "signed") ms) no_members (members_depth ms) (get_member-depth (codes "signed") ms) (omega arith) in
    omega (arith, low)

-- what stands under a name nests no deeper
pub get-depth : (k : List ℕ) (d : Data) → IfSome (get k d) (λ v. depth v ≤ depth d)
get-depth k null = tt
get-depth k (boolean b) = tt
get-depth k (number n) = tt
get-depth k (string s) = tt
get-depth k (array ds) = tt
get-depth k (object ms) = weaker (get_member k ms) (λ v. depth v ≤ members_depth ms) (λ v. depth v ≤ depth (object ms)) (λ v h. omega (arith, h)) (get_member-depth k ms)

pub kept_value-depth : (kept : Kept) → Deepens (kept_value kept)
kept_value-depth kept k d = by (stays_whole kept k) (is_one_of kept.signed k)
  where
    by : (whole part : Bool) → IfSome (if whole then Some d else if part then signed_alone d else None) (λ e. depth e ≤ depth d)
    by true part = omega arith
    by false true = signed_alone-depth d
    by false false = tt

pub kept_content-depth : (kept : Kept) (d : Data) → depth d < max_depth → depth (kept_content kept d) < max_depth
kept_content-depth kept null h = omega arith
kept_content-depth kept (boolean b) h = omega arith
kept_content-depth kept (number n) h = omega arith
kept_content-depth kept (string s) h = omega arith
kept_content-depth kept (array ds) h = omega arith
kept_content-depth kept (object ms) h = let rest = members-keep (kept_value kept) (kept_value-depth kept) ms in omega (arith, rest, h)

-- ---- an event

pub redacted-members : (version : Version) (event : Data) (ps : List (List ℕ × Data)) (kept : Kept) → as_members event ≡ Some ps → kept ≡ kept_of version (type_of event)
    → redacted_in version event ≡ object (redacted_members version kept (members_of ps))
redacted-members version event ps kept h k =
    let is = object-as_members event ps h in
    ap (redacted_in version) is ∙ ap (λ rule. object (redacted_members version rule (members_of ps))) (ap (λ d. kept_of version (type_of d)) (sym is) ∙ sym k)

pub signed_part-members : (version : Version) (event : Data) (ps : List (List ℕ × Data)) (kept : Kept) → as_members event ≡ Some ps → kept ≡ kept_of version (type_of event)
    → signed_part (event_in version event) ≡ object (select (λ k. not (is_one_of unsigned_keys k)) (redacted_members version kept (members_of ps)))
signed_part-members version event ps kept h k = ap (leave_out unsigned_keys) (redacted-members version event ps kept h k)

pub signed_part-other : (version : Version) (event : Data) → as_members event ≡ None → signed_part (event_in version event) ≡ event
signed_part-other version null h = refl
signed_part-other version (boolean b) h = refl
signed_part-other version (number n) h = refl
signed_part-other version (string s) h = refl
signed_part-other version (array ds) h = refl
signed_part-other version (object ms) h = absurd (cc)
