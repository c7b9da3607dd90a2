-- What is read of a reply can be written, and is read back from what is written.
use Rattle.std.proofs.Common.{◌≡◌, ℕ, ◌≤◌, ◌<◌, ◌^◌, List, [], ◌∷◌, ◌++◌, length, take, Option, Result, Ok, Err, refl, sym, ap, subst, ◌∙◌, arith}
use Rattle.std.specs.Prelude.{IsTrue}
use Rattle.std.specs.Char.{digit_value, is_ascii_digit}
use Rattle.std.specs.Str.Parse.{AllDigits, digits_value}
use Rattle.std.proofs.lemmas.Bool.Decides.{nat_tests}
use Rattle.std.proofs.lemmas.Int.Digits.{digits_value-lt}
use Rattle.std.proofs.lemmas.List.{take_all}
use Rattle.std.proofs.lemmas.List.Elements.{All-head, All-tail}
use Rattle.httparse.specs.Grammar.{AllPass, ResponseHead, IsResponseHead, status_code}
use Rattle.fed_http.specs.Head.{Head, request, reply, IsHeadOf, IsFinal, message_of}
use Rattle.fed_http.specs.Message.{Answer}
use Rattle.fed_http.specs.Text.{IsText, IsReplyText, BeginsWith}
use Rattle.fed_http.specs.Writing.{reply_bytes, IsWritableReply}
use Rattle.fed_http.specs.declared.message.Kind.TheVariants.{Replies}
use Rattle.fed_http.specs.declared.message.Message.TheVariants.{Reply}
use Rattle.fed_stream.specs.Reading.{Reads}
use Rattle.fed_connection.specs.Exchanging.{IsReplyRead}

-- ---- the status has three digits

digit_small : (c : ℕ) → IsTrue (is_ascii_digit c) → digit_value c < 10
digit_small c is = grind (arith, nat_tests)

all_digits : (ds : List ℕ) → AllPass is_ascii_digit ds → AllDigits 10 ds
all_digits [] pass = tt
all_digits (d ∷ ds) pass =
    let P = λ (b : ℕ). IsTrue (is_ascii_digit b) in
    (digit_small d (All-head P d ds pass), all_digits ds (All-tail P d ds pass))

small_status : (h : ResponseHead) → IsResponseHead h → status_code h < 1000
small_status h valid =
    let below : digits_value 10 h.digits < 10 ^ 3 = subst (λ (k : ℕ). digits_value 10 h.digits < 10 ^ k) valid.digits.0 (digits_value-lt 10 h.digits (all_digits h.digits valid.digits.1)) in
    omega (arith, below)

-- ---- a reply that is the text of some bytes

same_reply : (a b : Answer) → Reply a ≡ Reply b → a ≡ b
same_reply a b e = cc

of_text : (m : Answer) (text : List ℕ) → IsText Replies (Reply m) text → IsWritableReply m
of_text m text is = by_head is.head is.valid is.final is.message_is
  where
    by_head : (h : Head) → IsHeadOf Replies h → IsFinal h → Reply m ≡ message_of h is.body → IsWritableReply m
    by_head (request h) valid final same = absurd valid
    by_head (reply h) valid final same =
        let told : m ≡ record { status = status_code h; body = is.body } = same_reply m _ same in
        subst IsWritableReply (sym told) (record { final = final; status = small_status h valid; body_fits = is.body_fits })

pub is_writable : (old new : Option (List ℕ)) (m : Answer) → Reads Replies old new (Reply m) → IsWritableReply m
is_writable old new m reads = let (used, text) = reads.ends in of_text m _ text

pub reply_read : (old new : Option (List ℕ)) (m : Answer) (bytes : List ℕ) → Reads Replies old new (Reply m) → bytes ≡ reply_bytes m → (IsWritableReply m → IsReplyText m bytes) → IsReplyRead old new bytes
reply_read old new m bytes reads written back = record {
  reply = m;
  read = reads;
  written = written;
  read_back = (length bytes, subst (IsText Replies (Reply m)) (sym (take_all (length bytes) bytes (omega arith))) (back (is_writable old new m reads)));
}
