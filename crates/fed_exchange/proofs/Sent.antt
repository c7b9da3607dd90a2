-- The request for a transaction can be sent, and its bytes are read as that request.
use Rattle.std.proofs.Common.{◌≡◌, ℕ, ◌+◌, ◌*◌, ◌≤◌, ◌<◌, ◌^◌, ◌/◌, if◌then◌else◌, Bool, true, false, nat_lt, List, [], ◌∷◌, ◌++◌, length, take, drop, codes, decimal, Some, None, Ok, Err, refl, sym, ap, subst, ◌∙◌, arith, length-append}
use Rattle.std.proofs.lemmas.List.{append-nil, take-append-drop, take_all}
use Rattle.std.proofs.lemmas.Fmt.{length-decimal-le}
use Rattle.std.specs.List.{list_all}
use Rattle.serde_json.specs.Data.{Data}
use Rattle.sha2.proofs.Facts512.{length-sha512}
use Rattle.base64.specs.Engines.{standard_no_pad}
use Rattle.base64.specs.GeneralPurpose.{IsBytes, encode_of}
use Rattle.base64.specs.Rfc4648.{encode_symbols}
use Rattle.base64.proofs.RoundTrip.{length-encode_symbols}
use Rattle.httparse.specs.Grammar.{trim_ows, is_token_byte}
use Rattle.std.proofs.lemmas.List.Sums.{AllPass-from_list_all}
use Rattle.std.proofs.lemmas.Bool.Decides.{nat_tests}
use Rattle.std.specs.Str.{is_utf8}
use Rattle.serde_json.specs.Read.{read as json_value}
use Rattle.fed_json.specs.CanonicalText.{canonical_text}
use Rattle.fed_keys.specs.StandIn.{stand_in_key, stand_in_secret, stand_in_signature}
use Rattle.fed_http.specs.Limits.{max_head}
use Rattle.fed_http.specs.Message.{RequestValue}
use Rattle.fed_http.specs.XMatrixSigning.{SignableJson, signed_text, sent_fields, request_of, IsSendable}
use Rattle.fed_http.specs.Text.{IsText}
use Rattle.fed_http.specs.XMatrixWriting.{escaped, in_quotes, header_text}
use Rattle.fed_http.specs.Writing.{request_bytes, IsWritableField}
use Rattle.fed_http.specs.declared.message.Kind.TheVariants.{Requests}
use Rattle.fed_http.specs.declared.message.Message.TheVariants as message
use Rattle.fed_http.proofs.SentTexts.{sent_text_is}
use Rattle.fed_http.proofs.TextLemmas.{text_unique}
use Rattle.fed_dest.specs.ServerName.{IsServerName}
use Rattle.fed_txn.specs.declared.fault.TxnFault.TheVariants as fault
use Rattle.fed_txn.specs.Reading.{value_or_fault, body_of}
use Rattle.fed_txn.specs.Writing.{body_value, IsWithinLimits}
use Rattle.fed_outbox.specs.Transaction.{TransactionValue}
use Rattle.fed_exchange.specs.Messages.{target_of, asked_of, bytes_sent, IsReadable, IsRequestIn}
use Rattle.fed_exchange.proofs.Printed.{is_printed, is_shown, joined, shown, value_bytes, uri_bytes, text, EndsIn, behind, trimmed, decimal_printed, IsName, name_is, quoted_printed, escaped_short, encoded_printed, table, and_left, and_right}
use Rattle.fed_exchange.proofs.Digests.{digest_bytes_are}

-- ---- the fields

abbrev pub header_by : (origin dest signature : List ℕ) → List ℕ
header_by origin dest signature = header_text (record { origin = origin; destination = Some dest; key = stand_in_key; signature = signature })

abbrev pub signature_text : List ℕ → List ℕ
signature_text signature = in_quotes (encode_of standard_no_pad signature)

pub header_shown : (origin dest signature : List ℕ) → IsName origin → IsName dest → IsBytes signature → list_all is_shown (header_by origin dest signature) ≡ true
header_shown origin dest signature o d b =
    let key_part = codes ",key=" ++ (in_quotes stand_in_key ++ (codes ",sig=" ++ signature_text signature)) in
    joined is_shown (codes "X-Matrix origin=") (in_quotes origin ++ ((codes ",destination=" ++ in_quotes dest) ++ key_part)) refl
    (joined is_shown (in_quotes origin) ((codes ",destination=" ++ in_quotes dest) ++ key_part) (shown (in_quotes origin) (quoted_printed origin o.printed))
    (joined is_shown (codes ",destination=" ++ in_quotes dest) key_part (joined is_shown (codes ",destination=") (in_quotes dest) refl (shown (in_quotes dest) (quoted_printed dest d.printed)))
    (joined is_shown (codes ",key=") (in_quotes stand_in_key ++ (codes ",sig=" ++ signature_text signature)) refl
    (joined is_shown (in_quotes stand_in_key) (codes ",sig=" ++ signature_text signature) refl
    (joined is_shown (codes ",sig=") (signature_text signature) refl
    (shown (signature_text signature) (quoted_printed (encode_of standard_no_pad signature) (encoded_printed signature b))))))))

encoded_short : (signature : List ℕ) → length signature ≡ 64 → length (encode_of standard_no_pad signature) ≡ 86
encoded_short signature count = ap length (append-nil (encode_symbols table signature)) ∙ length-encode_symbols table signature ∙ ap (λ n. (4 * n + 2) / 3) count

header_short : (origin dest signature : List ℕ) → IsName origin → IsName dest → length signature ≡ 64 → length (header_by origin dest signature) ≤ 2000
header_short origin dest signature o d count =
    simp length-append (omega (arith, o.short, d.short, escaped_short origin, escaped_short dest, escaped_short (encode_of standard_no_pad signature), encoded_short signature count))

header_ends : (origin dest signature : List ℕ) → EndsIn (header_by origin dest signature)
header_ends origin dest signature =
    let key_part = codes ",key=" ++ (in_quotes stand_in_key ++ (codes ",sig=" ++ signature_text signature)) in
    behind (codes "X-Matrix origin=") (in_quotes origin ++ ((codes ",destination=" ++ in_quotes dest) ++ key_part))
    (behind (in_quotes origin) ((codes ",destination=" ++ in_quotes dest) ++ key_part)
    (behind (codes ",destination=" ++ in_quotes dest) key_part
    (behind (codes ",key=") (in_quotes stand_in_key ++ (codes ",sig=" ++ signature_text signature))
    (behind (in_quotes stand_in_key) (codes ",sig=" ++ signature_text signature)
    (behind (codes ",sig=") (signature_text signature)
    (34 ∷ escaped (encode_of standard_no_pad signature), 34, refl, refl))))))

authorization_writable : (origin dest signature : List ℕ) → IsName origin → IsName dest → IsBytes signature → IsWritableField (codes "Authorization", header_by origin dest signature)
unfolding is_token_byte
authorization_writable origin dest signature o d b = record {
  name = (omega arith, AllPass-from_list_all is_token_byte (codes "Authorization") refl);
  value = value_bytes (header_by origin dest signature) (header_shown origin dest signature o d b);
  trimmed = trimmed 88 (drop 1 (header_by origin dest signature)) refl (header_ends origin dest signature);
}

ends : (c : ℕ) (s : List ℕ) → list_all is_printed (c ∷ s) ≡ true → EndsIn (c ∷ s)
ends c [] h = ([], c, and_left (is_printed c) true h, refl)
ends c (d ∷ s) h = behind (c ∷ []) (d ∷ s) (ends d s (and_right (is_printed c) (list_all is_printed (d ∷ s)) h))

untrimmed : (s : List ℕ) → IsName s → trim_ows (32 ∷ s) ≡ s
untrimmed [] h = absurd (omega (arith, h.some))
untrimmed (c ∷ s) h = trimmed c s (and_left (is_printed c) (list_all is_printed s) h.printed) (ends c s h.printed)

host_writable : (dest : List ℕ) → IsName dest → IsWritableField (codes "Host", dest)
unfolding is_token_byte
host_writable dest d = record {
  name = (omega arith, AllPass-from_list_all is_token_byte (codes "Host") refl);
  value = value_bytes dest (shown dest d.printed);
  trimmed = untrimmed dest d;
}

-- ---- the target

pub target_printed : (epoch n : ℕ) → epoch < 2 ^ 64 → n < 2 ^ 64 → list_all is_printed (target_of epoch n) ≡ true
target_printed epoch n h k =
    joined is_printed (codes "/_matrix/federation/v1/send/") (decimal epoch ++ (codes "-" ++ decimal n)) refl
    (joined is_printed (decimal epoch) (codes "-" ++ decimal n) (decimal_printed epoch h) (joined is_printed (codes "-") (decimal n) refl (decimal_printed n k)))

target_short : (epoch n : ℕ) → epoch < 2 ^ 64 → n < 2 ^ 64 → length (target_of epoch n) ≤ 100
target_short epoch n h k =
    simp length-append (omega (arith, length-decimal-le 20 epoch (omega arith) (omega arith) h, length-decimal-le 20 n (omega arith) (omega arith) k))

-- ---- the body and the head

pub body_small : (bytes : List ℕ) (d : Data) → body_of bytes ≡ Ok d → length bytes ≤ 16777216
body_small bytes d is = by (nat_lt 16777216 (length bytes)) refl is
  where
    by : (b : Bool) → nat_lt 16777216 (length bytes) ≡ b
        → (if b then Err fault.TooLarge else value_or_fault (if is_utf8 bytes then json_value bytes else None)) ≡ Ok d → length bytes ≤ 16777216
    by true large h = absurd (cc h)
    by false small h = grind (arith, nat_tests)

head_size : (target dest header : List ℕ) (count : ℕ) → length target ≤ 100 → length dest ≤ 261 → length header ≤ 2000 → count ≤ 16777216
    → length (request_bytes (record { method = codes "PUT"; target = target; fields = sent_fields dest header count; body = [] })) ≤ max_head
head_size target dest header count t d h c =
    simp length-append (omega (arith, t, d, h, length-decimal-le 8 count (omega arith) (omega arith) (omega arith)))

-- ---- the request

module _ (origin dest : List ℕ) (epoch : ℕ) (t : TransactionValue) (named : IsServerName origin) (other : IsServerName dest) (limits : IsWithinLimits t) (readable : IsReadable origin epoch t) where
  abbrev pub asked : SignableJson
  asked = asked_of origin dest epoch t

  abbrev pub sent : RequestValue
  sent = request_of asked stand_in_key (stand_in_signature origin)

  abbrev pub signature : List ℕ
  signature = stand_in_signature origin (signed_text asked)

  from_name : IsName origin
  from_name = name_is origin named

  to_name : IsName dest
  to_name = name_is dest other

  pub body_is : body_of (canonical_text (body_value origin t)) ≡ Ok (body_value origin t)
  body_is = readable.body limits (omega (arith, from_name.short))

  pub signature_bytes : IsBytes signature
  signature_bytes = digest_bytes_are (stand_in_secret origin ++ 10 ∷ signed_text asked)

  pub signature_long : length signature ≡ 64
  signature_long = length-sha512 (stand_in_secret origin ++ 10 ∷ signed_text asked)

  pub header_is_shown : list_all is_shown (header_by origin dest signature) ≡ true
  header_is_shown = header_shown origin dest signature from_name to_name signature_bytes

  pub sendable : IsSendable asked stand_in_key (stand_in_signature origin)
  unfolding is_token_byte
  sendable = record {
    method = (omega arith, AllPass-from_list_all is_token_byte (codes "PUT") refl);
    target = (omega arith, uri_bytes (target_of epoch t.number) (target_printed epoch t.number readable.epoch_fits readable.number_fits));
    target_text = text (target_of epoch t.number) (shown (target_of epoch t.number) (target_printed epoch t.number readable.epoch_fits readable.number_fits));
    host = host_writable dest to_name;
    authorization = authorization_writable origin dest signature from_name to_name signature_bytes;
    head_fits =
        head_size (target_of epoch t.number) dest (header_by origin dest signature) (length (canonical_text (body_value origin t)))
        (target_short epoch t.number readable.epoch_fits readable.number_fits) to_name.short (header_short origin dest signature from_name to_name signature_long)
        (body_small (canonical_text (body_value origin t)) (body_value origin t) body_is);
    body_fits = body_small (canonical_text (body_value origin t)) (body_value origin t) body_is;
  }

  pub posted_is_text : IsText Requests (message.Request sent) (bytes_sent asked stand_in_key (stand_in_signature origin))
  posted_is_text = sent_text_is asked stand_in_key (stand_in_signature origin) sendable

  -- no other request is read from the bytes
  pub read_as_posted : (r : RequestValue) → IsRequestIn (bytes_sent asked stand_in_key (stand_in_signature origin)) r → r ≡ sent
  read_as_posted r (used, is) =
      let bytes = bytes_sent asked stand_in_key (stand_in_signature origin) in
      same_request r sent (text_unique Requests (message.Request r) (message.Request sent) bytes (take used bytes) bytes (drop used bytes) [] is posted_is_text
      (sym (take-append-drop used bytes)) (sym (append-nil bytes))).0
    where
      same_request : (a b : RequestValue) → message.Request a ≡ message.Request b → a ≡ b
      same_request a b e = cc

  -- and that one is
  pub posted_is_read : IsRequestIn (bytes_sent asked stand_in_key (stand_in_signature origin)) sent
  posted_is_read =
      let bytes = bytes_sent asked stand_in_key (stand_in_signature origin) in
      (length bytes, subst (IsText Requests (message.Request sent)) (sym (take_all (length bytes) bytes (omega arith))) posted_is_text)
