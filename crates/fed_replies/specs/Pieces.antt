-- What packed replies lie in: the events of all of them, each by its hash and the mark of its verdict, the numbers that marks have no room for,
-- and the texts.
use Rattle.std.specs.Prelude.{◌≡◌, ℕ, ◌<◌, ◌≤◌, List, [], ◌∷◌, ◌++◌, length, take, slice_index_or, Option, Some, None, option_map, Bool, true, false, refl}
use Rattle.std.specs.Coded.{Coded, code_by, coded×, coded_ℕ, coded_list}
use Rattle.std.specs.FinMap as map
use Rattle.std.specs.List.{All, slice_range}
use Rattle.fed_txn.specs.Verdicts.{VerdictMap, with_verdict}
use Rattle.fed_replies.specs.declared.pieces.Event.{Event}
use Rattle.fed_replies.specs.declared.pieces.Ends.{Ends}
use Rattle.fed_replies.specs.declared.pieces.Mark.{Mark}
use Rattle.fed_replies.specs.HashId.{IsHashId, id_text}
use Rattle.fed_replies.specs.Marks.{HasLarge, large_for, mark_for, number_at, numbers_behind}
use Rattle.fed_replies.specs.PackedReply.{Verdict, with_errors, AreFit, IsCanonicalReply}
use Rattle.fed_replies.specs.Texts.{Texts}
use Rattle.fed_replies.specs.TextTable.{IsNumberFor}

pub record Content : Type 0 where
  pub events : List Event
  pub numbers : List ℕ
  pub texts : Texts

abbrev pub event_code : Coded Event
event_code = code_by (List ℕ × ℕ) (coded× (coded_list coded_ℕ) coded_ℕ) (λ e. (e.hash, e.mark)) (λ p. record { hash = p.0; mark = p.1 }) (λ _. refl)

abbrev pub content_code : Coded Content
content_code =
    code_by (List Event × (List ℕ × Texts)) (coded× (coded_list event_code) (coded× (coded_list coded_ℕ) (coded_list (coded_list coded_ℕ))))
    (λ c. (c.events, (c.numbers, c.texts))) (λ p. record { events = p.0; numbers = p.1.0; texts = p.1.1 }) (λ _. refl)

-- ---- how far they reach

abbrev pub ends_of : Content → Ends
ends_of content = record { events = length content.events; numbers = length content.numbers }

abbrev pub mark_of : Content → Mark
mark_of content = record { ends = ends_of content; texts = length content.texts }

-- the front up to a mark
abbrev pub cut : Content → Mark → Content
cut content mark = record {
  events = take mark.ends.events content.events;
  numbers = take mark.ends.numbers content.numbers;
  texts = take mark.texts content.texts;
}

-- ---- verdicts

-- the verdict about the event with a hash, by the number of its text where it has failed
abbrev pub verdict_by : Texts → List ℕ → Option ℕ → Verdict
verdict_by texts hash number = (id_text hash, option_map (λ n. slice_index_or texts n []) number)

abbrev pub verdict_of : Texts → Event → List ℕ → Verdict
verdict_of texts event left = verdict_by texts event.hash (number_at event.mark left)

-- the verdicts about events, of which these are the numbers
abbrev pub verdicts_of : Texts → List Event → List ℕ → List Verdict
verdicts_of texts [] left = []
verdicts_of texts (event ∷ events) left = verdict_of texts event left ∷ verdicts_of texts events (numbers_behind event.mark left)

-- where there is a number, it has a text
abbrev pub HasText : Texts → Option ℕ → Type 0
HasText texts None = Unit {0}
HasText texts (Some number) = number < length texts

pub record IsNumbered (texts : Texts) (mark : ℕ) (left : List ℕ) : Type 0 where
  pub large : HasLarge mark left
  pub text : HasText texts (number_at mark left)

-- these are just the numbers of the events, and each has a text
abbrev pub AreNumbered : Texts → List Event → List ℕ → Type 0
AreNumbered texts [] left = left ≡ []
AreNumbered texts (event ∷ events) left = IsNumbered texts event.mark left × AreNumbered texts events (numbers_behind event.mark left)

-- these verdicts lie behind the old content
pub record AreEntered (old : Content) (verdicts : List Verdict) (new : Content) : Type 0 where
  pub events : List Event
  pub numbers : List ℕ
  pub events_are : new.events ≡ old.events ++ events
  pub numbers_are : new.numbers ≡ old.numbers ++ numbers
  pub texts_are : new.texts ≡ with_errors old.texts verdicts
  pub verdicts_are : verdicts_of new.texts events numbers ≡ verdicts
  pub numbered : AreNumbered new.texts events numbers
  pub ids : All (λ verdict. IsHashId verdict.0) verdicts

-- the verdicts were entered; or not all can be, and the content is as it was
abbrev pub IsEntry : Content → List Verdict → Bool → Content → Type 0
IsEntry old verdicts true new = AreEntered old verdicts new
IsEntry old verdicts false new = (new ≡ old) × ¬ AreFit old.texts verdicts

-- the verdicts of a reply were entered
pub record IsReplyEntered (old : Content) (reply : List ℕ) (new : Content) : Type 0 where
  pub verdicts : VerdictMap
  pub canonical : IsCanonicalReply reply verdicts
  pub entered : AreEntered old (map.entries verdicts) new

-- they were; or nothing was, and the content is as it was
abbrev pub IsPlainEntry : Content → List ℕ → Bool → Content → Type 0
IsPlainEntry old reply true new = IsReplyEntered old reply new
IsPlainEntry old reply false new = new ≡ old

-- one more event that was accepted
abbrev pub with_accepted : Content → List ℕ → Content
with_accepted content hash = record content { events = content.events ++ record { hash = hash; mark = 0 } ∷ [] }

-- one more event that has failed, with the table that has its text
abbrev pub with_failed : Content → List ℕ → ℕ → Texts → Content
with_failed content hash number texts = record {
  events = content.events ++ record { hash = hash; mark = mark_for (Some number) } ∷ [];
  numbers = content.numbers ++ large_for (Some number);
  texts = texts;
}

-- the failed event was entered with the number of its text; or there is none, and the content is as it was
abbrev pub IsFailedEntry : Content → List ℕ → List ℕ → Bool → Content → Type 0
IsFailedEntry old hash text true new = (number : ℕ) × (texts : Texts) × IsNumberFor old.texts text (Some number) texts × (new ≡ with_failed old hash number texts)
IsFailedEntry old hash text false new = (new ≡ old) × IsNumberFor old.texts text None old.texts

-- the verdicts between these ends
abbrev pub verdicts_in : Content → Ends → Ends → List Verdict
verdicts_in content start end =
    verdicts_of content.texts (slice_range content.events start.events end.events) (slice_range content.numbers start.numbers end.numbers)

abbrev pub with_verdicts : VerdictMap → List Verdict → VerdictMap
with_verdicts verdicts [] = verdicts
with_verdicts verdicts (one ∷ others) = with_verdicts (with_verdict verdicts one.0 one.1) others

abbrev pub unpacked : Content → Ends → Ends → VerdictMap
unpacked content start end = with_verdicts map.empty (verdicts_in content start end)

-- the ends lie in the content, the numbers between them are those of the events and have texts, and the verdicts stand in the order of
-- their ids, each once
pub record AreWithin (content : Content) (start end : Ends) : Type 0 where
  pub events : start.events ≤ end.events
  pub numbers : start.numbers ≤ end.numbers
  pub events_end : end.events ≤ length content.events
  pub numbers_end : end.numbers ≤ length content.numbers
  pub numbered : AreNumbered content.texts (slice_range content.events start.events end.events) (slice_range content.numbers start.numbers end.numbers)
  pub in_order : map.entries (unpacked content start end) ≡ verdicts_in content start end
