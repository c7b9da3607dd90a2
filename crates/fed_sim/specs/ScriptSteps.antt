-- The steps of a script: the table of their commands, and which step the words of a line say.
use Rattle.std.specs.Prelude.{◌≡◌, ◌&&◌, not, ℕ, ◌==◌, Bool, true, false, List, [], ◌∷◌, nat_le, bytes_eq, codes, Option, Some, None, option_map, is_some, is_none, Result, Err, String, string_bytes, find, if◌then◌else◌}
use Rattle.std.specs.List.{list_any, list_all, filter_map, slice_split}
use Rattle.std.specs.Str.{is_utf8}
use Rattle.std.specs.Option.{option_and_then, ok_or}
use Rattle.std.specs.List.Sorted.{IsStrictlyIncreasing}
use Rattle.std.specs.declared.alloc.Global.{Global}
use Rattle.serde_json.specs.Data.{Data, depth, string, object, no_members, member}
use Rattle.serde_json.specs.Read.{read}
use Rattle.fed_json.specs.Profile.{all_whole}
use Rattle.fed_dest.specs.List.{place_of}
use Rattle.fed_dest.specs.ServerSet.{is_among}
use Rattle.fed_sim.specs.ScriptWords.{first_word, two_words, whole_rest, number_of, state_key_of}
use Rattle.fed_sim.specs.declared.script.faults.ScriptError.{ScriptError}
use Rattle.fed_sim.specs.declared.script.faults.ScriptError.TheVariants.{UnknownCommand, WrongWords, UnknownServer, BadContent}
use Rattle.fed_sim.specs.declared.step.Step.{Step}
use Rattle.fed_sim.specs.declared.step.Step.TheVariants.{Offer, OfferEdu, Close, Collect, Cut, Failed, Post, Take, Settle, Apply, Tick, Show, Calm}

-- What the words of a step say, before it is known which servers are listed.
pub data StepText : Type 0 where
  send : (server room sender kind : List ℕ) → Option (List ℕ) → (content : List ℕ) → StepText
  edu : (server kind : List ℕ) → (dests : List (List ℕ)) → (content : List ℕ) → StepText
  apply : (server room : List ℕ) → StepText
  -- a step of a server and another one, by what it is at their places
  between : (ℕ → ℕ → Step) → (server other : List ℕ) → StepText
  -- a step that names no server
  alone : Step → StepText

-- ---- the words

-- a word, and what is read of it and of the rest of the line
abbrev pub with_word : (List ℕ → List ℕ → Option StepText) → List ℕ → Option StepText
with_word next text = option_and_then (λ led. next led.0 led.1) (first_word text)

-- the names between commas, which are 44
abbrev pub names_in : List ℕ → List (List ℕ)
names_in text = slice_split (λ byte. byte == 44) text

-- a server and another one
abbrev pub two_servers : List ℕ → Option (List ℕ × List ℕ)
two_servers text = option_and_then (λ two. if bytes_eq two.0 two.1 then None else Some two) (two_words text)

abbrev pub send_words : List ℕ → Option StepText
send_words = with_word (λ server. with_word (λ room. with_word (λ sender. with_word (λ kind. with_word (λ key rest.
    option_and_then (λ state_key. option_map (send server room sender kind state_key) (whole_rest rest)) (state_key_of key))))))

-- no destination is the server itself
abbrev pub edu_words : List ℕ → Option StepText
edu_words = with_word (λ server. with_word (λ kind. with_word (λ dests rest.
    if list_any (λ name. bytes_eq name server) (names_in dests) then None else option_map (edu server kind (names_in dests)) (whole_rest rest))))

abbrev pub apply_words : List ℕ → Option StepText
apply_words text = option_map (λ two. apply two.0 two.1) (two_words text)

abbrev pub between_words : (ℕ → ℕ → Step) → List ℕ → Option StepText
between_words step text = option_map (λ two. between step two.0 two.1) (two_servers text)

abbrev pub number_words : (ℕ → Step) → List ℕ → Option StepText
number_words step text = option_map (λ number. alone (step number)) (number_of text)

-- ---- the table

-- a command, and what is read of the words behind its name
pub record Row : Type 0 where
  pub name : List ℕ
  pub reads : List ℕ → Option StepText

abbrev pub row : List ℕ → (List ℕ → Option StepText) → Row
row name reads = record { name = name; reads = reads }

abbrev pub step_table : List Row
step_table =
    row (codes "send") send_words
    ∷ (row (codes "edu") edu_words
    ∷ (row (codes "close") (between_words Close)
    ∷ (row (codes "collect") (between_words Collect)
    ∷ (row (codes "cut") (between_words Cut)
    ∷ (row (codes "failed") (between_words Failed)
    ∷ (row (codes "post") (between_words Post)
    ∷ (row (codes "arrive") (number_words Take)
    ∷ (row (codes "answer") (number_words Settle)
    ∷ (row (codes "apply") apply_words
    ∷ (row (codes "tick") (number_words Tick)
    ∷ (row (codes "calm") (number_words Calm)
    ∷ (row (codes "show") (between_words Show)
    ∷ []))))))))))))

-- no such command, or not its words
abbrev pub text_or_fault : Option Row → List ℕ → Result StepText ScriptError
text_or_fault None rest = Err UnknownCommand
text_or_fault (Some row) rest = ok_or (row.reads rest) WrongWords

-- what a command of this name and the words behind it say
unfoldable pub step_text : List ℕ → List ℕ → Result StepText ScriptError
step_text name rest = text_or_fault (find (λ row. bytes_eq name row.name) step_table) rest

-- ---- among the listed servers

-- the servers that the words name
abbrev pub servers_in : StepText → List (List ℕ)
servers_in (send server room sender kind key content) = server ∷ []
servers_in (edu server kind dests content) = server ∷ dests
servers_in (apply server room) = server ∷ []
servers_in (between step server other) = server ∷ other ∷ []
servers_in (alone step) = []

-- all of these are listed
abbrev pub are_listed : List (List ℕ) → List (List ℕ) → Bool
are_listed servers names = list_all (λ name. is_some (place_of servers name)) names

-- the value of a content, which nests at most this deep
unfoldable pub content_of : ℕ → List ℕ → Option Data
content_of levels text = option_and_then (λ d. if all_whole d && nat_le (depth d) levels then Some d else None) (if is_utf8 text then read text else None)

-- the content has no value. That of an ephemeral data unit stands one level deep in it.
abbrev pub has_bad_content : StepText → Bool
has_bad_content (send server room sender kind key content) = is_none (content_of 127 content)
has_bad_content (edu server kind dests content) = is_none (content_of 126 content)
has_bad_content (apply server room) = false
has_bad_content (between step server other) = false
has_bad_content (alone step) = false

-- why the words say no step where these servers are listed: the first of these that holds
unfoldable pub step_fault : List (List ℕ) → StepText → Option ScriptError
step_fault servers text =
    if not (are_listed servers (servers_in text)) then Some UnknownServer
    else if has_bad_content text then Some BadContent
    else None

-- an ephemeral data unit
abbrev pub edu_of : List ℕ → Data → Data
edu_of kind content = object (member (codes "content") content (member (codes "edu_type") (string kind) no_members))

-- the places of the servers of these names, each once, in order: all of them are listed
pub record ArePlaces (servers names : List (List ℕ)) (places : List ℕ) : Type 0 where
  pub listed : are_listed servers names ≡ true
  pub rising : IsStrictlyIncreasing places
  pub named : (place : ℕ) → is_among places place ≡ is_among (filter_map (place_of servers) names) place

-- the step that the words say, by the places of the servers
abbrev pub IsStep : List (List ℕ) → StepText → Step → Type 0
IsStep servers (send server room sender kind key content) step =
    (place : ℕ) × (value : Data) × (place_of servers server ≡ Some place) × (content_of 127 content ≡ Some value)
    × (step ≡ Offer place (record { room = room; sender = sender; kind = kind; state_key = key; content = value; at_ms = 0 }))
IsStep servers (edu server kind dests content) step =
    (place : ℕ) × (places : List ℕ) × (value : Data) × (place_of servers server ≡ Some place) × ArePlaces servers dests places × (content_of 126 content ≡ Some value)
    × (step ≡ OfferEdu place (edu_of kind value) places)
IsStep servers (apply server room) step =
    (place : ℕ) × (id : String Global) × (place_of servers server ≡ Some place) × (string_bytes id ≡ room) × (step ≡ Apply place id)
IsStep servers (between made server other) step =
    (place other_place : ℕ) × (place_of servers server ≡ Some place) × (place_of servers other ≡ Some other_place) × (step ≡ made place other_place)
IsStep servers (alone made) step = step ≡ made
