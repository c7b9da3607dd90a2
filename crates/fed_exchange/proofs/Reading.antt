-- What a reader that begins gives of bytes.
use Rattle.std.proofs.Common.{◌≡◌, ◌≢◌, ℕ, List, [], take, drop, ◌++◌, Option, None, Some, IfSome, IfNone, true, true≢false, refl, sym, ◌∙◌, subst}
use Rattle.std.proofs.lemmas.List.{take-append-drop}
use Rattle.fed_http.specs.Head.{Head, IsHeadOf, message_of}
use Rattle.fed_http.specs.Head.{request, reply}
use Rattle.fed_http.specs.Message.{RequestValue, Answer}
use Rattle.fed_http.specs.Faults.{IsBadHead, IsTooLarge, IsBadLength, IsBadChunk}
use Rattle.fed_http.specs.Text.{IsText, BeginsWith, HasNoText}
use Rattle.fed_http.specs.Reader.{Reading, StandsFor, Gives, Waits, Fails}
use Rattle.fed_http.specs.declared.fault.HttpFault.{HttpFault}
use Rattle.fed_http.specs.declared.fault.HttpFault.TheVariants as fault
use Rattle.fed_http.specs.declared.message.Kind.{Kind}
use Rattle.fed_http.specs.declared.message.Kind.TheVariants.{Requests, Replies}
use Rattle.fed_http.specs.declared.message.Message.{Message}
use Rattle.fed_http.specs.declared.message.Message.TheVariants as message

pub given : (old : Reading) (bytes : List ℕ) (new : Reading) (found : Option Message) (used : ℕ) → IfSome found (λ m. Gives old [] bytes new m used) → IfSome found (λ m. BeginsWith old.kind bytes m)
given old bytes new None used none = none
given old bytes new (Some m) used gives = (used, gives.text)

pub not_given : (old : Reading) (bytes : List ℕ) (new : Reading) (found : Option Message) (used : ℕ) → IfNone found (Waits old [] bytes new used) → IfNone found (HasNoText old.kind bytes)
not_given old bytes new None used waits = waits.none
not_given old bytes new (Some m) used waits = tt

-- bytes that begin with the text of no message begin with that of none of a kind
pub no_text : (kind : Kind) (bytes : List ℕ) (m : Message) → HasNoText kind bytes → ¬ (BeginsWith kind bytes m)
no_text kind bytes m none begins = none m (take begins.0 bytes) (drop begins.0 bytes) begins.1 (sym (take-append-drop begins.0 bytes))

-- requests are no replies
pub no_reply : (bytes : List ℕ) (r : Answer) → ¬ (BeginsWith Requests bytes (message.Reply r))
no_reply bytes r begins = by begins.1.head begins.1.valid begins.1.message_is
  where
    by : (h : Head) → IsHeadOf Requests h → ¬ (message.Reply r ≡ message_of h begins.1.body)
    by (request h) valid is = absurd (cc)
    by (reply h) valid is = valid

pub no_request : (bytes : List ℕ) (r : RequestValue) → ¬ (BeginsWith Replies bytes (message.Request r))
no_request bytes r begins = by begins.1.head begins.1.valid begins.1.message_is
  where
    by : (h : Head) → IsHeadOf Replies h → ¬ (message.Request r ≡ message_of h begins.1.body)
    by (request h) valid is = valid
    by (reply h) valid is = absurd (cc)

-- a reader that begins tells of a fault where there is no text
pub faulty : (old : Reading) (bytes : List ℕ) (new : Reading) (told : HttpFault) → StandsFor old [] → told ≢ fault.Memory
    → (told ≡ fault.BadHead → Fails IsBadHead old [] bytes new) → (told ≡ fault.TooLarge → Fails IsTooLarge old [] bytes new)
    → (told ≡ fault.BadLength → Fails IsBadLength old [] bytes new) → (told ≡ fault.BadChunk → Fails IsBadChunk old [] bytes new)
    → (told ≡ fault.HasFailed → old.has_failed ≡ true) → HasNoText old.kind bytes
faulty old bytes new fault.Memory begins other a b c d e = absurd (other refl)
faulty old bytes new fault.BadHead begins other a b c d e = (a refl).none
faulty old bytes new fault.TooLarge begins other a b c d e = (b refl).none
faulty old bytes new fault.BadLength begins other a b c d e = (c refl).none
faulty old bytes new fault.BadChunk begins other a b c d e = (d refl).none
faulty old bytes new fault.HasFailed begins other a b c d e = absurd (true≢false (sym (e refl) ∙ begins.live))

-- a reader that begins and finds nothing leaves no message of its kind
pub none_of_kind : (kind : Kind) (reader : Reading) (bytes : List ℕ) (found : Option Message) (m : Message) → reader.kind ≡ kind → found ≡ None
    → IfNone found (HasNoText reader.kind bytes) → ¬ (BeginsWith kind bytes m)
none_of_kind kind reader bytes (Some x) m of_kind none told = absurd (cc)
none_of_kind kind reader bytes None m of_kind none told = no_text kind bytes m (subst (λ k. HasNoText k bytes) of_kind told)
