-- The bytes of a reply, in the parts in which they are gathered.
use Rattle.std.proofs.Common.{◌≡◌, List, ℕ, [], ◌++◌, length, take, drop, codes, decimal, sym, ap, ◌∙◌, append_assoc, append-nil, take-append-drop}
use Rattle.std.specs.List.{flat_map}
use Rattle.fed_http.specs.Message.{Answer}
use Rattle.fed_http.specs.Writing.{behind_start, field_line, line_end, phrase_of, reply_bytes, reply_fields, reply_head, status_line}

abbrev pub before_length : List ℕ
before_length = codes "\r\nContent-Type: application/json\r\nContent-Length: "

abbrev pub behind_length : List ℕ
behind_length = codes "\r\nConnection: close\r\n\r\n"

behind_is : (body rest : List ℕ) → line_end ++ behind_start (reply_fields body) rest ≡ before_length ++ (decimal (length body) ++ (behind_length ++ rest))
behind_is body rest =
    let digits = decimal (length body) in
    let last = field_line (codes "Connection", codes "close") in
    ap (λ (tail : List ℕ). before_length ++ tail) (append_assoc (digits ++ line_end) last (line_end ++ rest) ∙ append_assoc digits line_end (last ++ (line_end ++ rest)))

pub head_is : (m : Answer) → reply_head m ≡ (((((codes "HTTP/1.1 " ++ decimal m.status) ++ codes " ") ++ phrase_of m.status) ++ before_length) ++ decimal (length m.body)) ++ behind_length
head_is m =
    spread (codes "HTTP/1.1 ") (decimal m.status) (codes " ") (phrase_of m.status) line_end (behind_start (reply_fields m.body) [])
    ∙ ap (λ (tail : List ℕ). (((codes "HTTP/1.1 " ++ decimal m.status) ++ codes " ") ++ phrase_of m.status) ++ tail) (behind_is m.body [])
    ∙ grouped (((codes "HTTP/1.1 " ++ decimal m.status) ++ codes " ") ++ phrase_of m.status) before_length (decimal (length m.body)) behind_length
  where
    spread : (a b c d e f : List ℕ) → (a ++ (b ++ (c ++ (d ++ e)))) ++ f ≡ (((a ++ b) ++ c) ++ d) ++ (e ++ f)
    spread a b c d e f = simp append_assoc

    grouped : (a b c d : List ℕ) → a ++ (b ++ (c ++ (d ++ []))) ≡ ((a ++ b) ++ c) ++ d
    grouped a b c d = simp (append_assoc, append-nil)

-- the head with the first bytes of the body, and the others
pub reply_is : (m : Answer) (taken : ℕ) → reply_bytes m ≡ (reply_head m ++ take taken m.body) ++ drop taken m.body
reply_is m taken =
    behind (status_line m.status (phrase_of m.status)) (flat_map field_line (reply_fields m.body)) line_end m.body
    ∙ ap (λ (body : List ℕ). reply_head m ++ body) (sym (take-append-drop taken m.body))
    ∙ sym (append_assoc (reply_head m) (take taken m.body) (drop taken m.body))
  where
    behind : (a b c d : List ℕ) → a ++ (b ++ (c ++ d)) ≡ (a ++ (b ++ (c ++ []))) ++ d
    behind a b c d = simp (append_assoc, append-nil)
