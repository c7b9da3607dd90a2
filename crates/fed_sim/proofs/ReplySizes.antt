-- The reply to a transaction is short: it has at most as many verdicts as the transaction has events, and each of them is short.
use Rattle.std.proofs.Common.{arith, ◌≡◌, ℕ, suc, ◌+◌, ◌*◌, ◌/◌, ◌%◌, ◌≤◌, nat_lt, nat_cmp, ◌&&◌, not, Bool, true, false, cond, Ordering, Less, Equal, Greater, List, [], ◌∷◌, ◌++◌, length, length-append, codes, Option, Some, None, option_map, is_some, sym, ap, ◌∙◌, subst}
use Rattle.std.specs.Cmp.Lexicographic.{slice_cmp, nat_list_cmp_total}
use Rattle.std.specs.FinMap as finite
use Rattle.std.specs.Char.{digit_char}
use Rattle.json.specs.Print.{quoted, escape, escape_byte, escape_letter}
use Rattle.serde_json.specs.Data.{Data, object, string, Members, no_members, member}
use Rattle.serde_json.specs.Find.{as_object}
use Rattle.serde_json.specs.Written.{comma_if, members_text}
use Rattle.fed_json.specs.CanonicalText.{canonical_text}
use Rattle.fed_redaction.proofs.IdTexts.{id_text}
use Rattle.fed_event.specs.declared.fault.PduFault.{PduFault}
use Rattle.fed_event.specs.declared.fault.PduFault.TheVariants.{Memory, NotJson, NotCanonical, Missing, WrongKind, TooLarge, TooLong, TooMany, TooDeep}
use Rattle.fed_event.specs.declared.field.Field.{Field}
use Rattle.fed_event.specs.declared.field.Field.TheVariants.{Event, AuthEvents, Content, Depth, Hashes, OriginServerTs, PrevEvents, RoomId, Sender, Signatures, StateKey, «Type»}
use Rattle.fed_event.specs.EventId.{signed_text_of}
use Rattle.fed_inbox.specs.Elements.{read_as, element_id}
use Rattle.fed_event.specs.Field.{field_name}
use Rattle.fed_event.specs.Fields.{room_id_of}
use Rattle.fed_event.specs.Keys.{Checks}
use Rattle.fed_event.specs.Names.{is_one_of}
use Rattle.fed_event.specs.Signatures.{is_signed}
use Rattle.fed_event.specs.Tests.{first_fault_of}
use Rattle.fed_event.specs.Verdict.{verdict_of}
use Rattle.fed_txn.specs.Reply.{single, verdict_value, verdict_members, reply_value}
use Rattle.fed_txn.specs.Transaction.{Transaction}
use Rattle.fed_txn.specs.Verdicts.{VerdictMap}
use Rattle.fed_inbox.specs.Taking.{firsts_but, firsts, first_text, unless, verdict_on, with_verdicts, verdicts_on, taking_of}

-- ---- texts

length-cond : (b : Bool) (xs ys : List ℕ) (n : ℕ) → length xs ≤ n → length ys ≤ n → length (cond b xs ys) ≤ n
length-cond true xs ys n h k = h
length-cond false xs ys n h k = k

length-escape_byte : (x : ℕ) → length (escape_byte x) ≤ 6
unfolding escape_byte
length-escape_byte x =
    let digits : List ℕ = 92 ∷ 117 ∷ 48 ∷ 48 ∷ digit_char (x / 16) ∷ digit_char (x % 16) ∷ [] in
    length-cond (nat_lt 0 (escape_letter x)) (92 ∷ escape_letter x ∷ []) (cond (nat_lt x 32) digits (x ∷ [])) 6 (omega arith)
    (length-cond (nat_lt x 32) digits (x ∷ []) 6 (omega arith) (omega arith))

length-escape : (s : List ℕ) → length (escape s) ≤ 6 * length s
length-escape [] = omega arith
length-escape (x ∷ s) = rw length-append (omega (arith, length-escape_byte x, length-escape s))

length-quoted : (s : List ℕ) → length (quoted s) ≤ 6 * length s + 2
length-quoted s = simp length-append (omega (arith, length-escape s))

joined-length : (c q a r : List ℕ) → length (c ++ (q ++ 58 ∷ (a ++ r))) ≡ length c + (length q + suc (length a + length r))
joined-length c q a r = simp length-append

member-length : (later : Bool) (k : List ℕ) (d : Data) (ms : Members)
    → length (members_text later (member k d ms)) ≡ length (comma_if later) + (length (quoted k) + suc (length (canonical_text d) + length (members_text true ms)))
member-length later k d ms = joined-length (comma_if later) (quoted k) (canonical_text d) (members_text true ms)

object-length : (ms : Members) → length (canonical_text (object ms)) ≡ length (members_text false ms) + 1
object-length ms = omega arith

comma-length : (later : Bool) → length (comma_if later) ≤ 1
comma-length true = omega arith
comma-length false = omega arith

single-length : (k : List ℕ) (d : Data) → length (canonical_text (single k d)) ≤ 6 * length k + length (canonical_text d) + 8
single-length k d = omega (arith, object-length (member k d no_members), member-length false k d no_members, length-quoted k)

-- ---- verdicts

abbrev IsShortText : Option (List ℕ) → Type 0
IsShortText None = Unit {0}
IsShortText (Some text) = length text ≤ 64

abbrev Verdict : Type 0
Verdict = List ℕ × Option (List ℕ)

-- an id, and at most a short text
record IsShort (e : Verdict) : Type 0 where
  pub id : length e.0 ≤ 44
  pub text : IsShortText e.1

abbrev AreShort : List Verdict → Type 0
AreShort [] = Unit {0}
AreShort (e ∷ es) = IsShort e × AreShort es

verdict-length : (v : Option (List ℕ)) → IsShortText v → length (canonical_text (verdict_value v)) ≤ 500
verdict-length None short = omega arith
verdict-length (Some text) short = omega (arith, single-length (codes "error") (string text), length-quoted text, short)

members-length : (later : Bool) (es : List Verdict) → AreShort es → length (members_text later (verdict_members es)) ≤ 1000 * length es + 1
members-length later [] short = omega arith
members-length later (e ∷ es) short =
    omega (arith, member-length later e.0 (verdict_value e.1) (verdict_members es), comma-length later, length-quoted e.0, short.0.id, verdict-length e.1 short.0.text, members-length true es short.1)

reply-length : (verdicts : VerdictMap) → AreShort (finite.entries verdicts) → length (canonical_text (reply_value verdicts)) ≤ 1000 * length (finite.entries verdicts) + 100
reply-length verdicts short =
    omega (arith, single-length (codes "pdus") (object (verdict_members (finite.entries verdicts))), object-length (verdict_members (finite.entries verdicts)), members-length false (finite.entries verdicts) short)

-- ---- a verdict more

abbrev chosen : {A : Type 0} → Ordering → A → A → A → A
chosen Less a b c = a
chosen Equal a b c = b
chosen Greater a b c = c

put_more : (k : List ℕ) (v : Option (List ℕ)) (es : List Verdict) → IsShort (k, v) → AreShort es
    → AreShort (finite.put (slice_cmp nat_cmp) k v es) × (length (finite.put (slice_cmp nat_cmp) k v es) ≤ suc (length es))
put_more k v [] new old = ((record { id = new.id; text = new.text }, tt), omega arith)
put_more k v (e ∷ es) new old = by (slice_cmp nat_cmp k e.0) (put_more k v es new old.1)
  where
    by : (o : Ordering) → AreShort (finite.put (slice_cmp nat_cmp) k v es) × (length (finite.put (slice_cmp nat_cmp) k v es) ≤ suc (length es))
        → AreShort (chosen o ((k, v) ∷ e ∷ es) ((e.0, v) ∷ es) (e ∷ finite.put (slice_cmp nat_cmp) k v es))
        × (length (chosen o ((k, v) ∷ e ∷ es) ((e.0, v) ∷ es) (e ∷ finite.put (slice_cmp nat_cmp) k v es)) ≤ suc (suc (length es)))
    by Less later = ((new, old), omega arith)
    by Equal later = ((record { id = old.0.id; text = new.text }, old.1), omega arith)
    by Greater later = ((old.0, later.0), omega (arith, later.1))

-- ---- the verdicts on events

field-short : (field : Field) → length (field_name field) ≤ 20
field-short Event = omega arith
field-short AuthEvents = omega arith
field-short Content = omega arith
field-short Depth = omega arith
field-short Hashes = omega arith
field-short OriginServerTs = omega arith
field-short PrevEvents = omega arith
field-short RoomId = omega arith
field-short Sender = omega arith
field-short Signatures = omega arith
field-short StateKey = omega arith
field-short «Type» = omega arith

named-short : (front : List ℕ) (field : Field) → length front ≤ 20 → length (front ++ field_name field) ≤ 64
named-short front field short = rw length-append (omega (arith, short, field-short field))

fault-short : (fault : PduFault) → length (verdict_of fault) ≤ 64
fault-short Memory = omega arith
fault-short NotJson = omega arith
fault-short NotCanonical = omega arith
fault-short (Missing field) = named-short (codes "missing field: ") field (omega arith)
fault-short (WrongKind field) = named-short (codes "wrong kind: ") field (omega arith)
fault-short TooLarge = omega arith
fault-short (TooLong field) = named-short (codes "field too long: ") field (omega arith)
fault-short (TooMany field) = named-short (codes "too many: ") field (omega arith)
fault-short TooDeep = omega arith

-- the first of three texts is short where each is
first-short : (fault : Option PduFault) (signed known : Bool)
    → IsShortText (first_text (option_map verdict_of fault ∷ unless signed (codes "bad signature") ∷ unless known (codes "unknown room") ∷ []))
first-short (Some fault) signed known = fault-short fault
first-short None false known = omega arith
first-short None true false = omega arith
first-short None true true = tt

module _ (checks : Checks) (rooms : List (List ℕ)) where
  verdict-short : (event : Data) → IsShort (element_id event, verdict_on checks rooms event)
  verdict-short event = record {
    id = let size = (id_text (signed_text_of (read_as event))).size in omega (arith, size);
    text = first-short (first_fault_of event) (is_signed checks (read_as event)) (is_one_of rooms (room_id_of (read_as event)));
  }

  verdicts-short : (verdicts : VerdictMap) (events : List Data) → AreShort (finite.entries verdicts)
      → AreShort (finite.entries (with_verdicts checks rooms verdicts events))
      × (length (finite.entries (with_verdicts checks rooms verdicts events)) ≤ length (finite.entries verdicts) + length events)
  verdicts-short verdicts [] short = (short, omega arith)
  verdicts-short verdicts (event ∷ events) short =
      let id = element_id event in
      let verdict = verdict_on checks rooms event in
      let put = put_more id verdict (finite.entries verdicts) (verdict-short event) short in
      let same = finite.entries-insert nat_list_cmp_total verdicts id verdict in
      let later = verdicts-short (finite.insert verdicts id verdict) events (subst AreShort (sym same) put.0) in
      let more = put.1 in
      let count = ap length same in
      (later.0, omega (arith, later.1, more, count))

firsts-length : (known : List (List ℕ)) (elements : List Data) → length (firsts_but known elements) ≤ length elements
firsts-length known [] = omega arith
firsts-length known (element ∷ elements) =
    by (is_some (as_object element) && not (is_one_of known (element_id element))) (firsts-length (element_id element ∷ known) elements) (firsts-length known elements)
  where
    by : (b : Bool) → length (firsts_but (element_id element ∷ known) elements) ≤ length elements → length (firsts_but known elements) ≤ length elements
        → length (cond b (element ∷ firsts_but (element_id element ∷ known) elements) (firsts_but known elements)) ≤ suc (length elements)
    by true taken left = omega (arith, taken)
    by false taken left = omega (arith, left)

no_entries : (es : List Verdict) → length es ≡ 0 → AreShort es
no_entries [] none = tt
no_entries (e ∷ es) none = absurd (omega (arith, none))

-- the reply to a transaction of at most 50 events fits into the body of a message
pub reply_fits : (checks : Checks) (rooms : List (List ℕ)) (t : Transaction) → length t.pdus ≤ 50 → length (taking_of checks rooms t).reply ≤ 16777216
reply_fits checks rooms t few =
    let none : VerdictMap = finite.empty in
    let empty_is : length (finite.entries none) ≡ 0 = sym (finite.len-entries none) ∙ finite.len-empty (slice_cmp nat_cmp) (Option (List ℕ)) in
    let made = verdicts-short checks rooms none (firsts t.pdus) (no_entries (finite.entries none) empty_is) in
    omega (arith, empty_is, reply-length (verdicts_on checks rooms t.pdus) made.0, made.1, firsts-length [] t.pdus, few)
