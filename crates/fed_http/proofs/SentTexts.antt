-- What is written of a signed request is a text of it.
use Rattle.std.proofs.Common.{◌≡◌, ℕ, ◌≤◌, List, [], ◌∷◌, length, All, Some, codes, decimal, arith}
use Rattle.std.proofs.lemmas.List.Elements.{All-nil, All-cons}
use Rattle.fed_json.specs.CanonicalText.{canonical_text}
use Rattle.fed_http.specs.Framing.{framing_of}
use Rattle.fed_http.specs.XMatrixSigning.{SignableJson, sent_fields, request_of, header_of, IsSendable}
use Rattle.fed_http.specs.XMatrixWriting.{header_text}
use Rattle.fed_http.specs.Text.{IsRequestText}
use Rattle.fed_http.specs.declared.framing.Framing.TheVariants.{Fixed}
use Rattle.fed_http.specs.Writing.{IsWritable, IsWritableField, request_bytes}
use Rattle.fed_http.proofs.WrittenTexts.{Pair, request_text_is}
use Rattle.fed_http.proofs.ReplyTexts.{content_type, content_length, connection, length_given}

abbrev last_three : ℕ → List Pair
last_three count = (codes "Content-Type", codes "application/json") ∷ (codes "Content-Length", decimal count) ∷ (codes "Connection", codes "close") ∷ []

fields : (host authorization : List ℕ) (count : ℕ) → count ≤ 16777216 → IsWritableField (codes "Host", host) → IsWritableField (codes "Authorization", authorization)
    → All IsWritableField (sent_fields host authorization count)
fields host authorization count few h a =
    All-cons IsWritableField (codes "Host", host) ((codes "Authorization", authorization) ∷ last_three count) h
    (All-cons IsWritableField (codes "Authorization", authorization) (last_three count) a
    (All-cons IsWritableField (codes "Content-Type", codes "application/json") ((codes "Content-Length", decimal count) ∷ (codes "Connection", codes "close") ∷ []) content_type
    (All-cons IsWritableField (codes "Content-Length", decimal count) ((codes "Connection", codes "close") ∷ []) (content_length count (omega arith))
    (All-cons IsWritableField (codes "Connection", codes "close") [] connection (All-nil IsWritableField)))))

framed : (host authorization : List ℕ) (count : ℕ) → count ≤ 16777216 → framing_of (sent_fields host authorization count) ≡ Some (Fixed count)
framed host authorization count few = length_given count few

pub sent_text_is : (asked : SignableJson) (key : List ℕ) (sign : List ℕ → List ℕ) → IsSendable asked key sign → IsRequestText (request_of asked key sign) (request_bytes (request_of asked key sign))
sent_text_is asked key sign h =
    let count = length (canonical_text asked.content) in
    let header = header_text (header_of asked key sign) in
    let is : IsWritable (request_of asked key sign) = record {
      method = h.method;
      target = h.target;
      target_text = h.target_text;
      fields = fields asked.destination header count h.body_fits h.host h.authorization;
      few = omega arith;
      framed = framed asked.destination header count h.body_fits;
      head_fits = h.head_fits;
      body_fits = h.body_fits;
    } in
    request_text_is (request_of asked key sign) is
