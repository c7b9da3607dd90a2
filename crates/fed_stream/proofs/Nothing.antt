-- Where no byte came yet, a message may begin.
use Rattle.std.proofs.Common.{arith, ◌≡◌, ℕ, ◌<◌, List, [], ◌∷◌, ◌++◌, length, refl, sym, ap, length-append, append-nil, inl, None}
use Rattle.std.proofs.lemmas.List.Elements.{All-nil, All-cons}
use Rattle.std.proofs.lemmas.Str.{IsUtf8-from_ascii}
use Rattle.std.proofs.lemmas.Str.Ascii.{IsAscii-nil, IsAscii-cons}
use Rattle.std.specs.Prelude.{IsTrue}
use Rattle.std.specs.Char.{is_ascii_digit}
use Rattle.httparse.specs.Grammar.{lf, IsToken, is_token_byte, is_uri_byte, is_value_byte, IsField, RequestHead, ResponseHead, print_request, print_response, print_blank, print_version}
use Rattle.httparse.proofs.GrammarLemmas.{print_request-append, print_response-append}
use Rattle.httparse.proofs.OpenLemmas.{letter_is_token}
use Rattle.fed_http.specs.Head.{Head, request, reply, print_head, HasNoHead, MayBecomeHead}
use Rattle.fed_http.specs.Waiting.{IsWaiting}
use Rattle.fed_http.specs.Waiting as waiting
use Rattle.fed_http.specs.declared.message.Kind.{Kind}
use Rattle.fed_http.specs.declared.message.Kind.TheVariants.{Requests, Replies}

-- ---- no head is empty

some_bytes : (blank word tail : List ℕ) (c : ℕ) (all : List ℕ) → all ≡ blank ++ (word ++ c ∷ tail) → 0 < length all
some_bytes blank word tail c all e = omega (arith, ap length e, length-append blank (word ++ c ∷ tail), length-append word (c ∷ tail))

some_head : (h : Head) (rest : List ℕ) → 0 < length (print_head h ++ rest)
some_head (request h) rest = some_bytes (print_blank h.blank) h.method _ 32 (print_request h ++ rest) (print_request-append h rest)
some_head (reply h) rest = some_bytes (print_blank h.blank) (print_version h.minor) _ 32 (print_response h ++ rest) (print_response-append h rest)

no_head : (kind : Kind) → HasNoHead kind []
no_head kind h rest reads = omega (arith, some_head h rest, ap length reads.whole)

-- ---- but some bytes are a head

letter : IsToken (65 ∷ [])
letter = (omega arith, All-cons (λ b. IsTrue (is_token_byte b)) 65 [] letter_is_token (All-nil (λ b. IsTrue (is_token_byte b))))

some_request : RequestHead
some_request = record { blank = []; method = 65 ∷ []; target = 65 ∷ []; minor = 0; line_end = lf; fields = []; last = lf }

some_reply : ResponseHead
some_reply = record { blank = []; minor = 0; digits = 50 ∷ 48 ∷ 48 ∷ []; reason = None; line_end = lf; fields = []; last = lf }

may_become : (kind : Kind) → MayBecomeHead kind []
unfolding some_request some_reply
may_become Requests =
    inl (
      print_request some_request,
      some_request,
      (
        record {
          method = letter;
          target = (omega arith, All-cons (λ b. IsTrue (is_uri_byte b)) 65 [] refl (All-nil (λ b. IsTrue (is_uri_byte b))));
          target_text = IsUtf8-from_ascii (65 ∷ []) (IsAscii-cons 65 [] (omega arith) IsAscii-nil);
          minor = omega arith;
          fields = All-nil IsField;
        },
        sym (append-nil (print_request some_request)),
      ),
    )
may_become Replies = (
  print_response some_reply,
  some_reply,
  (
    record {
      minor = omega arith;
      digits = (refl, All-cons (λ b. IsTrue (is_ascii_digit b)) 50 (48 ∷ 48 ∷ []) refl (All-cons (λ b. IsTrue (is_ascii_digit b)) 48 (48 ∷ []) refl (All-cons (λ b. IsTrue (is_ascii_digit b)) 48 [] refl (All-nil (λ b. IsTrue (is_ascii_digit b))))));
      reason = All-nil (λ b. IsTrue (is_value_byte b));
      fields = All-nil IsField;
    },
    sym (append-nil (print_response some_reply)),
  ),
)

pub nothing_waits : (kind : Kind) → IsWaiting kind []
nothing_waits kind = waiting.head (omega arith) (record { none = no_head kind; may = may_become kind; few = omega arith })
