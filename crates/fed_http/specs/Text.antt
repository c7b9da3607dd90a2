-- The bytes that a message is sent as (RFC 9112, section 2.1): its head, and its body as the head frames it.
use Rattle.std.specs.Prelude.{◌≡◌, ℕ, ◌≤◌, List, ◌++◌, length, take, Some}
use Rattle.fed_http.specs.Limits.{max_body}
use Rattle.fed_http.specs.Head.{Head, IsHeadOf, print_head, IsWithinLimits, IsFinal, head_framing, message_of}
use Rattle.fed_http.specs.Body.{IsBodyText}
use Rattle.fed_http.specs.Message.{RequestValue, Answer}
use Rattle.fed_http.specs.declared.framing.Framing.{Framing}
use Rattle.fed_http.specs.declared.message.Kind.{Kind}
use Rattle.fed_http.specs.declared.message.Kind.TheVariants.{Requests, Replies}
use Rattle.fed_http.specs.declared.message.Message.{Message}
use Rattle.fed_http.specs.declared.message.Message.TheVariants.{Request, Reply}

pub record IsText (kind : Kind) (m : Message) (text : List ℕ) : Type 0 where
  pub head : Head
  pub framing : Framing
  pub body : List ℕ
  pub body_text : List ℕ
  pub valid : IsHeadOf kind head
  pub within : IsWithinLimits head
  pub final : IsFinal head
  pub framed : head_framing head ≡ Some framing
  pub is_body : IsBodyText framing body body_text
  pub body_fits : length body ≤ max_body
  pub message_is : m ≡ message_of head body
  pub text_is : text ≡ print_head head ++ body_text

-- bytes begin with the text of a message
abbrev pub BeginsWith : Kind → List ℕ → Message → Type 0
BeginsWith kind bytes m = (used : ℕ) × IsText kind m (take used bytes)

-- the bytes of a request
abbrev pub IsRequestText : RequestValue → List ℕ → Type 0
IsRequestText m text = IsText Requests (Request m) text

-- the bytes of a reply
abbrev pub IsReplyText : Answer → List ℕ → Type 0
IsReplyText m text = IsText Replies (Reply m) text

-- no prefix of the bytes is a text
abbrev pub HasNoText : Kind → List ℕ → Type 0
HasNoText kind bytes = (m : Message) (text rest : List ℕ) → IsText kind m text → ¬ (bytes ≡ text ++ rest)
