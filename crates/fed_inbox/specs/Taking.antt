-- What taking a transaction comes to (Server-Server API, "Transactions", "PDUs", "EDUs"): every element of `pdus` is taken as its
-- canonical text, an object among them gets a verdict under its event id, those without a fault are handed on to the rooms, and
-- the elements of `edus` that are EDUs are taken.
use Rattle.std.specs.Prelude.{ℕ, List, [], ◌∷◌, map, filter, codes, Bool, ◌&&◌, not, is_some, is_none, Option, Some, None, option_map, if◌then◌else◌}
use Rattle.std.specs.FinMap as finite
use Rattle.serde_json.specs.Data.{Data}
use Rattle.serde_json.specs.Find.{as_object}
use Rattle.fed_json.specs.CanonicalText.{canonical_text}
use Rattle.fed_event.specs.Names.{is_one_of}
use Rattle.fed_event.specs.Fields.{room_id_of}
use Rattle.fed_inbox.specs.Elements.{read_as, element_id}
use Rattle.fed_event.specs.Tests.{first_fault_of}
use Rattle.fed_event.specs.Verdict.{verdict_of}
use Rattle.fed_event.specs.Keys.{Checks}
use Rattle.fed_event.specs.Signatures.{is_signed}
use Rattle.fed_event.specs.Checked.{CheckedEvent, checked_of}
use Rattle.fed_journal.specs.Edu.{is_edu}
use Rattle.fed_txn.specs.Verdicts.{VerdictMap}
use Rattle.fed_txn.specs.Reply.{reply_value}
use Rattle.fed_txn.specs.Transaction.{Transaction}

-- the objects among the elements whose ids are none of these, each the first of its id
abbrev pub firsts_but : List (List ℕ) → List Data → List Data
firsts_but known [] = []
firsts_but known (element ∷ elements) =
    if is_some (as_object element) && not (is_one_of known (element_id element))
    then element ∷ firsts_but (element_id element ∷ known) elements
    else firsts_but known elements

-- the objects among the elements, each the first of its id: of several objects of one id it alone is looked at
abbrev pub firsts : List Data → List Data
firsts elements = firsts_but [] elements

-- the first text that is there
abbrev pub first_text : List (Option (List ℕ)) → Option (List ℕ)
first_text [] = None
first_text (None ∷ texts) = first_text texts
first_text (Some text ∷ texts) = Some text

abbrev pub unless : Bool → List ℕ → Option (List ℕ)
unless passes text = if passes then None else Some text

module _ (checks : Checks) (rooms : List (List ℕ)) where
  -- the verdict on an object: its first fault, in this order, or nothing (Server-Server API, "Checks performed on receipt of a
  -- PDU", checks 1 and 2, and whether its room is known)
  abbrev pub verdict_on : Data → Option (List ℕ)
  verdict_on event =
      first_text (option_map verdict_of (first_fault_of event)
      ∷ unless (is_signed checks (read_as event)) (codes "bad signature")
      ∷ unless (is_one_of rooms (room_id_of (read_as event))) (codes "unknown room")
      ∷ [])

  -- the map with the verdicts on these objects
  abbrev pub with_verdicts : VerdictMap → List Data → VerdictMap
  with_verdicts verdicts [] = verdicts
  with_verdicts verdicts (event ∷ events) = with_verdicts (finite.insert verdicts (element_id event) (verdict_on event)) events

  abbrev pub verdicts_on : List Data → VerdictMap
  verdicts_on elements = with_verdicts finite.empty (firsts elements)

  -- the events without a fault, in order, as they are checked
  abbrev pub passing : List Data → List CheckedEvent
  passing events = map (λ event. checked_of checks (read_as event)) (filter (λ event. is_none (verdict_on event)) events)

  -- those that a transaction brings for the rooms
  abbrev pub fresh_of : List Data → List CheckedEvent
  fresh_of elements = passing (firsts elements)

pub record Taking : Type 0 where
  pub pdus : List (List ℕ)
  pub edus : List (List ℕ)
  pub fresh : List CheckedEvent
  pub reply : List ℕ

abbrev pub taking_of : Checks → List (List ℕ) → Transaction → Taking
taking_of checks rooms t = record {
  pdus = map canonical_text t.pdus;
  edus = map canonical_text (filter is_edu t.edus);
  fresh = fresh_of checks rooms t.pdus;
  reply = canonical_text (reply_value (verdicts_on checks rooms t.pdus));
}
