-- The places in the first line of a head, and that what may follow each place leaves it without an end.
use Rattle.std.proofs.Common.{arith, ◌≡◌, ◌≢◌, ℕ, zero, suc, ◌+◌, ◌<◌, ◌≤◌, true, false, cond, IsTrue, List, [], ◌∷◌, ◌++◌, length, drop, refl, sym, ap, subst, ◌∙◌, append_assoc, append-nil, length-append, codes, inl, inr, ◌⊎◌, Option, None}
use Rattle.std.proofs.lemmas.List.Elements.{All-nil, All-cons}
use Rattle.std.specs.Prelude.{IsUtf8}
use Rattle.std.proofs.lemmas.Str.{IsUtf8-from_ascii}
use Rattle.std.proofs.lemmas.Str.Ascii.{IsAscii-cons, IsAscii-nil}
use Rattle.std.specs.Char.{is_ascii_digit, is_ascii_hexdigit}
use Rattle.httparse.specs.Grammar.{LineEnd, crlf, lf, print_end, print_blank, print_section, print_reason, AllPass, is_token_byte, is_uri_byte, RequestHead, ResponseHead, ReadsSection, print_chunk_line, print_extension}
use Rattle.httparse.proofs.ChunkLemmas.{chunk_line_unique, ReadsChunkLine-append}
use Rattle.httparse.proofs.GrammarLemmas.{section_unique, ReadsSection-append, cons-append, print_request-append, print_response-append}
use Rattle.httparse.proofs.OpenLemmas.{letter_is_token}
use Rattle.fed_http.specs.Limits.{max_head, max_fields}
use Rattle.fed_http.specs.ChunkParts.{LacksLine, LacksTrailer}
use Rattle.fed_http.specs.Lines.{line_feeds, is_line_byte, behind_ends, head_lines, first_lines}
use Rattle.fed_http.specs.Head.{Head, request, reply, ReadsHead, print_head, MayBecomeHead}
use Rattle.fed_http.specs.Unfinished.{IsUnfinishedHead, IsUnfinishedTrailer, trailer_front}
use Rattle.fed_http.specs.TextPlaces.{FollowsSection, FollowsEnd, FollowsReturn, FollowsText, FollowsName, FollowsCode, FollowsVersion, FollowsProtocol, FollowsPad, FollowsSize, IsWholeHead, IsWholeLine, IsBehind, IsLatePlace, IsInMethod, IsInTargetFrom, IsHeadPlace, IsLinePlace, IsTrailerPlace}
use Rattle.fed_http.specs.declared.text_place.TextPlace.{TextPlace}
use Rattle.fed_http.specs.declared.text_place.TextPlace.TheVariants.{EmptyLines, EmptyReturn, Method, Target, Version, BehindVersion, Code, Text, LineReturn, LineStart, Name, Size, Pad, Extension, ChunkReturn, Unknown}
use Rattle.fed_http.specs.declared.message.Kind.{Kind}
use Rattle.fed_http.specs.declared.message.Kind.TheVariants.{Requests, Replies}
use Rattle.fed_http.proofs.HeadLemmas.{head_unique, ReadsHead-append}
use Rattle.fed_http.proofs.HeadLines.{target_unfinished}
use Rattle.fed_http.proofs.LineCounts.{feeds-append, head_front, head_is, front_lines, same_front, section_front, section_is, section_feeds}
use Rattle.fed_http.proofs.Targets.{snoc_blank}
use Rattle.fed_http.proofs.Windows.{behind, all_of_few}
use Rattle.fed_http.proofs.FirstLines.{first-behind}

-- ---- the first line

-- behind the target of a request and a space the version may follow
pub target_ends : (start : ℕ) (bytes : List ℕ) (t : IsInTargetFrom start bytes) → 0 < length t.target → IsUtf8 t.target → IsBehind (IsWholeHead Requests) (bytes ++ 32 ∷ []) (FollowsProtocol Requests 0)
target_ends start bytes t some text more n f =
    let s = f.behind.section in
    let h : RequestHead = record { blank = t.blank; method = t.method; target = t.target; minor = f.minor; line_end = f.behind.end; fields = s.fields; last = s.last } in
    record {
      head = request h;
      reads = record {
        valid = record { method = t.is_method; target = (some, t.is_target); target_text = text; minor = f.small; fields = s.valid };
        whole =
            (λ i. (t.whole i ++ 32 ∷ []) ++ (f.whole ∙ ap (λ v. codes "HTTP/1." ++ (48 + f.minor) ∷ v) (f.behind.whole ∙ ap (λ v. print_end f.behind.end ++ v) s.whole)) i)
            ∙ regroup (print_blank t.blank) t.method t.target (codes "HTTP/1.") (48 + f.minor) (print_end f.behind.end) (print_section s.fields s.last)
            ∙ sym (print_request-append h []);
      };
      count = omega (arith, s.count);
    }
  where
    regroup : (a b c v : List ℕ) (d : ℕ) (e s : List ℕ) → ((a ++ b ++ 32 ∷ c) ++ 32 ∷ []) ++ (v ++ d ∷ (e ++ s)) ≡ a ++ (b ++ 32 ∷ (c ++ 32 ∷ ((v ++ d ∷ []) ++ (e ++ (s ++ [])))))
    regroup a b c v d e s = simp (append_assoc, cons-append, append-nil)

-- behind empty lines a reply may begin
pub reply_begins : (bytes : List ℕ) (blank : List LineEnd) → bytes ≡ print_blank blank → IsBehind (IsWholeHead Replies) bytes (FollowsProtocol Replies 0)
reply_begins bytes blank is more n f =
    let k = f.behind.code in
    let s = k.end.section in
    let h : ResponseHead = record { blank = blank; minor = f.minor; digits = k.digits; reason = k.reason; line_end = k.end.end; fields = s.fields; last = s.last } in
    record {
      head = reply h;
      reads = record {
        valid = record { minor = f.small; digits = (k.few, k.valid); reason = k.phrase; fields = s.valid };
        whole =
            (λ i. is i ++ (f.whole ∙ ap (λ v. codes "HTTP/1." ++ (48 + f.minor) ∷ v) (f.behind.whole ∙ ap (λ v. 32 ∷ v) (k.whole ∙ ap (λ v. k.digits ++ (print_reason k.reason ++ v)) (k.end.whole ∙ ap (λ v. print_end k.end.end ++ v) s.whole)))) i)
            ∙ regroup (print_blank blank) (codes "HTTP/1.") (48 + f.minor) k.digits (print_reason k.reason) (print_end k.end.end) (print_section s.fields s.last)
            ∙ sym (print_response-append h []);
      };
      count = omega (arith, s.count);
    }
  where
    regroup : (a v : List ℕ) (d : ℕ) (c r e s : List ℕ) → a ++ (v ++ d ∷ (32 ∷ (c ++ (r ++ (e ++ s))))) ≡ a ++ ((v ++ d ∷ []) ++ 32 ∷ (c ++ (r ++ (e ++ (s ++ [])))))
    regroup a v d c r e s = simp (append_assoc, cons-append, append-nil)

-- ---- what may follow

some_section : (k : ℕ) → FollowsSection k (10 ∷ []) k
some_section k = record { fields = []; last = lf; valid = All-nil _; whole = refl; count = omega arith }

some_end : (k : ℕ) → FollowsEnd k (10 ∷ 10 ∷ []) k
some_end k = record { end = lf; rest = 10 ∷ []; whole = refl; section = some_section k }

some_return : (k : ℕ) → FollowsReturn k (10 ∷ 10 ∷ []) k
some_return k = record { rest = 10 ∷ []; whole = refl; section = some_section k }

some_text : (k : ℕ) → FollowsText k (10 ∷ 10 ∷ []) k
some_text k = record { text = []; rest = 10 ∷ 10 ∷ []; valid = All-nil _; whole = refl; end = some_end k }

some_name : (k : ℕ) → FollowsName k (58 ∷ 10 ∷ 10 ∷ []) k
some_name k = record { name = []; rest = 10 ∷ 10 ∷ []; valid = All-nil _; whole = refl; text = some_text k }

abbrev zeros : ℕ → List ℕ
zeros zero = []
zeros (suc n) = 48 ∷ zeros n

zeros_are : (n : ℕ) → AllPass is_ascii_digit (zeros n)
zeros_are zero = All-nil _
zeros_are (suc n) = All-cons (λ b. IsTrue (is_ascii_digit b)) 48 (zeros n) refl (zeros_are n)

zeros_count : (n : ℕ) → length (zeros n) ≡ n
zeros_count zero = refl
zeros_count (suc n) = omega (arith, zeros_count n)

some_code : (left : ℕ) → FollowsCode left (zeros left ++ 10 ∷ 10 ∷ []) 0
some_code left = record {
  digits = zeros left;
  few = zeros_count left;
  valid = zeros_are left;
  reason = None;
  phrase = All-nil _;
  rest = 10 ∷ 10 ∷ [];
  whole = refl;
  end = some_end 0;
}

-- what may follow a version, up to the last line feed
abbrev version_front : Kind → List ℕ
version_front Requests = 10 ∷ []
version_front Replies = 32 ∷ 48 ∷ 48 ∷ 48 ∷ 10 ∷ []

some_version : (kind : Kind) → FollowsVersion kind (version_front kind ++ 10 ∷ []) 0
some_version Requests = some_end 0
some_version Replies = record { rest = 48 ∷ 48 ∷ 48 ∷ 10 ∷ 10 ∷ []; whole = refl; code = some_code 3 }

abbrev protocol_front : Kind → ℕ → List ℕ
protocol_front kind read = drop read (codes "HTTP/1.") ++ 48 ∷ version_front kind

some_protocol : (kind : Kind) (read : ℕ) → FollowsProtocol kind read (protocol_front kind read ++ 10 ∷ []) 0
some_protocol kind read = record {
  minor = 0;
  small = omega arith;
  rest = version_front kind ++ 10 ∷ [];
  whole = append_assoc (drop read (codes "HTTP/1.")) (48 ∷ version_front kind) (10 ∷ []);
  behind = some_version kind;
}

-- ---- heads that have not ended

-- the lines of bytes and of what follows them
lines_of : (xs ys : List ℕ) → (head_lines xs ≡ 0) ⊎ (head_lines (xs ++ ys) ≡ head_lines xs + line_feeds ys)
lines_of [] ys = inl refl
lines_of (x ∷ xs) ys = elim (is_line_byte x) as (λ b. (line_feeds (cond b (behind_ends xs) (x ∷ xs)) ≡ 0) ⊎ (line_feeds (cond b (behind_ends (xs ++ ys)) ((x ∷ xs) ++ ys)) ≡ line_feeds (cond b (behind_ends xs) (x ∷ xs)) + line_feeds ys)) [
  | true ↦ lines_of xs ys
  | false ↦ inr (feeds-append (x ∷ xs) ys)
]

may_of : (kind : Kind) (bytes more : List ℕ) (h : Head) → ReadsHead kind (bytes ++ more) h [] → MayBecomeHead kind bytes
may_of Requests bytes more (request h) r = inl (more, h, (r.valid, r.whole))
may_of Requests bytes more (reply h) r = absurd r.valid
may_of Replies bytes more (request h) r = absurd r.valid
may_of Replies bytes more (reply h) r = (more, h, (r.valid, r.whole))

-- bytes that are the front of a head, which may have so many lines more
pub front_unfinished : (kind : Kind) (bytes xs : List ℕ) (n : ℕ) → IsWholeHead kind (bytes ++ (xs ++ 10 ∷ [])) n → n ≤ max_fields + line_feeds xs → IsUnfinishedHead kind bytes
front_unfinished kind bytes xs n w few = record {
  none = λ h rest reads.
      let more = xs ++ 10 ∷ [] in
      let same : rest ++ more ≡ [] = (head_unique kind (bytes ++ more) h w.head (rest ++ more) [] (ReadsHead-append kind bytes h rest more reads) w.reads).1 in
      omega (arith, ap length same, length-append rest more, length-append xs (10 ∷ []));
  may = may_of kind bytes (xs ++ 10 ∷ []) w.head w.reads;
  few =
      let whole : (bytes ++ xs) ++ 10 ∷ [] ≡ head_front w.head ++ 10 ∷ [] = append_assoc bytes xs (10 ∷ []) ∙ w.reads.whole ∙ append-nil (print_head w.head) ∙ head_is w.head in
      let all : head_lines (bytes ++ xs) ≡ suc n = ap head_lines (same_front (bytes ++ xs) (head_front w.head) 10 10 whole) ∙ front_lines kind w.head w.reads.valid ∙ ap suc w.count in
      elim (lines_of bytes xs) [
        | inl none ↦ omega (arith, none)
        | inr sum ↦ omega (arith, sum, all, few)
      ];
}

-- a whole head behind more bytes
behind_more : (kind : Kind) (bytes xs more : List ℕ) (n : ℕ) → IsWholeHead kind ((bytes ++ xs) ++ more) n → IsWholeHead kind (bytes ++ (xs ++ more)) n
behind_more kind bytes xs more n w = subst (λ v. IsWholeHead kind v n) (append_assoc bytes xs more) w

-- behind a method a target may follow
abbrev method_front : List ℕ
method_front = 32 ∷ 47 ∷ 32 ∷ protocol_front Requests 0

method_ends : (bytes : List ℕ) → IsInMethod bytes → IsWholeHead Requests (bytes ++ (method_front ++ 10 ∷ [])) 0
method_ends bytes m =
    let t : IsInTargetFrom (suc (length bytes)) (bytes ++ 32 ∷ 47 ∷ []) = record {
      blank = m.blank;
      method = m.method;
      target = 47 ∷ [];
      is_method = m.is_method;
      is_target = All-cons (λ b. IsTrue (is_uri_byte b)) 47 [] refl (All-nil _);
      whole = ap (λ v. v ++ 32 ∷ 47 ∷ []) m.whole;
      at = ap (λ v. suc (length v)) m.whole;
    } in
    let rest = protocol_front Requests 0 ++ 10 ∷ [] in
    behind_more Requests bytes (32 ∷ 47 ∷ []) (32 ∷ rest) 0
    (behind_more Requests (bytes ++ 32 ∷ 47 ∷ []) (32 ∷ []) rest 0
    (target_ends _ (bytes ++ 32 ∷ 47 ∷ []) t (omega arith) (IsUtf8-from_ascii _ (IsAscii-cons 47 [] (omega arith) IsAscii-nil)) rest 0 (some_protocol Requests 0)))

-- behind empty lines a head may follow
abbrev empty_front : Kind → List ℕ
empty_front Requests = 65 ∷ method_front
empty_front Replies = protocol_front Replies 0

empty_ends : (kind : Kind) (bytes : List ℕ) (blank : List LineEnd) → bytes ≡ print_blank blank → IsWholeHead kind (bytes ++ (empty_front kind ++ 10 ∷ [])) 0
empty_ends Requests bytes blank is =
    behind_more Requests bytes (65 ∷ []) (method_front ++ 10 ∷ []) 0
    (method_ends (bytes ++ 65 ∷ []) (record { blank = blank; method = 65 ∷ []; is_method = (omega arith, All-cons (λ b. IsTrue (is_token_byte b)) 65 [] letter_is_token (All-nil _)); whole = ap (λ v. v ++ 65 ∷ []) is }))
empty_ends Replies bytes blank is = reply_begins bytes blank is (protocol_front Replies 0 ++ 10 ∷ []) 0 (some_protocol Replies 0)

-- one empty line more
pub one_feed : (bytes : List ℕ) (blank : List LineEnd) (b : ℕ) → bytes ≡ print_blank blank → b ≡ 10 → (x : List LineEnd) × (bytes ++ b ∷ [] ≡ print_blank x)
one_feed bytes blank b is feed = (blank ++ lf ∷ [], (λ i. is i ++ feed i ∷ []) ∙ sym (snoc_blank blank lf))

pub one_return : (bytes : List ℕ) (blank : List LineEnd) (b : ℕ) → bytes ≡ print_blank blank ++ 13 ∷ [] → b ≡ 10 → (x : List LineEnd) × (bytes ++ b ∷ [] ≡ print_blank x)
one_return bytes blank b is feed = (blank ++ crlf ∷ [], (λ i. is i ++ feed i ∷ []) ∙ append_assoc (print_blank blank) (13 ∷ []) (10 ∷ []) ∙ sym (snoc_blank blank crlf))

-- the target that begins behind so many bytes
pub target_is : (start : ℕ) (bytes : List ℕ) (t : IsInTargetFrom start bytes) → drop start bytes ≡ t.target
target_is start bytes t =
    let front = print_blank t.blank ++ t.method ++ 32 ∷ [] in
    let whole : bytes ≡ front ++ t.target = t.whole ∙ sym (append_assoc (print_blank t.blank ++ t.method) (32 ∷ []) t.target) in
    ap (λ n. drop n bytes) (t.at ∙ omega (arith, length-append (print_blank t.blank ++ t.method) (32 ∷ []))) ∙ behind bytes front t.target whole

-- ---- places where more may end

-- bytes and a line feed behind them make a whole of n fields
pub record EndsSoon (whole : List ℕ → ℕ → Type 0) (bytes : List ℕ) : Type 0 where
  pub front : List ℕ
  pub n : ℕ
  pub is : whole (bytes ++ (front ++ 10 ∷ [])) n
  pub few : n ≤ max_fields + line_feeds front

one_line : line_feeds (10 ∷ []) ≡ 1
one_line = refl

colon_line : line_feeds (58 ∷ 10 ∷ []) ≡ 1
colon_line = refl

some_pad : FollowsPad (13 ∷ 10 ∷ [])
some_pad = record { pad = []; valid = All-nil _; extension = None; is_extension = tt; whole = refl }

size_ends : (whole : List ℕ → ℕ → Type 0) (bytes : List ℕ) (read : ℕ) → read ≤ 16 → IsBehind whole bytes (λ more n. FollowsSize read more) → EndsSoon whole bytes
size_ends whole bytes zero few at = record {
  front = 48 ∷ 13 ∷ [];
  n = 0;
  is = at (48 ∷ 13 ∷ 10 ∷ []) 0 (record { digits = 48 ∷ []; some = omega arith; few = omega arith; valid = All-cons (λ b. IsTrue (is_ascii_hexdigit b)) 48 [] refl (All-nil _); rest = 13 ∷ 10 ∷ []; whole = refl; pad = some_pad });
  few = omega arith;
}
size_ends whole bytes (suc read) few at = record {
  front = 13 ∷ [];
  n = 0;
  is = at (13 ∷ 10 ∷ []) 0 (record { digits = []; some = omega arith; few = omega (arith, few); valid = All-nil _; rest = 13 ∷ 10 ∷ []; whole = refl; pad = some_pad });
  few = omega arith;
}

pub late_ends : (kind : Kind) (whole : List ℕ → ℕ → Type 0) (bytes : List ℕ) (p : TextPlace) → IsLatePlace kind whole bytes p → p ≢ Unknown → EndsSoon whole bytes
late_ends kind whole bytes EmptyLines at known = absurd at.late
late_ends kind whole bytes EmptyReturn at known = absurd at.late
late_ends kind whole bytes Method at known = absurd at.late
late_ends kind whole bytes (Target start) at known = absurd at.late
late_ends kind whole bytes (Version read) at known = record { front = protocol_front kind read; n = 0; is = at.behind (protocol_front kind read ++ 10 ∷ []) 0 (some_protocol kind read); few = omega arith }
late_ends kind whole bytes BehindVersion at known = record { front = version_front kind; n = 0; is = at.behind (version_front kind ++ 10 ∷ []) 0 (some_version kind); few = omega arith }
late_ends kind whole bytes (Code left) at known = record {
  front = zeros left ++ 10 ∷ [];
  n = 0;
  is = subst (λ v. whole (bytes ++ v) 0) (sym (append_assoc (zeros left) (10 ∷ []) (10 ∷ []))) (at.behind (zeros left ++ 10 ∷ 10 ∷ []) 0 (some_code left));
  few = omega arith;
}
late_ends kind whole bytes (Text fields) at known = record { front = 10 ∷ []; n = fields; is = at.behind (10 ∷ 10 ∷ []) fields (some_text fields); few = omega (arith, at.few, one_line) }
late_ends kind whole bytes (LineReturn fields) at known = record { front = 10 ∷ []; n = fields; is = at.behind (10 ∷ 10 ∷ []) fields (some_return fields); few = omega (arith, at.few, one_line) }
late_ends kind whole bytes (LineStart fields) at known = record { front = []; n = fields; is = at.behind (10 ∷ []) fields (some_section fields); few = omega (arith, at.few) }
late_ends kind whole bytes (Name fields) at known = record { front = 58 ∷ 10 ∷ []; n = fields; is = at.behind (58 ∷ 10 ∷ 10 ∷ []) fields (some_name fields); few = omega (arith, at.few, colon_line) }
late_ends kind whole bytes (Size digits) at known = size_ends whole bytes digits at.few at.behind
late_ends kind whole bytes Pad at known = record { front = 13 ∷ []; n = 0; is = at.behind (13 ∷ 10 ∷ []) 0 some_pad; few = omega arith }
late_ends kind whole bytes Extension at known = record { front = 13 ∷ []; n = 0; is = at.behind (13 ∷ 10 ∷ []) 0 (record { text = []; valid = All-nil _; whole = refl }); few = omega arith }
late_ends kind whole bytes ChunkReturn at known = record { front = []; n = 0; is = at.behind (10 ∷ []) 0 refl; few = omega arith }
late_ends kind whole bytes Unknown at known = absurd (known refl)

-- ---- what has not ended

head_unfinished : (kind : Kind) (bytes : List ℕ) → EndsSoon (IsWholeHead kind) bytes → IsUnfinishedHead kind bytes
head_unfinished kind bytes e = front_unfinished kind bytes e.front e.n e.is e.few

-- a head, at a known place
pub place_unfinished : (kind : Kind) (bytes : List ℕ) (p : TextPlace) → IsHeadPlace kind bytes p → p ≢ Unknown → IsUnfinishedHead kind bytes
place_unfinished kind bytes EmptyLines at known = front_unfinished kind bytes (empty_front kind) 0 (empty_ends kind bytes at.0 at.1) (omega arith)
place_unfinished kind bytes EmptyReturn at known =
    let line = one_return bytes at.0 10 at.1 refl in
    front_unfinished kind bytes (10 ∷ empty_front kind) 0 (behind_more kind bytes (10 ∷ []) (empty_front kind ++ 10 ∷ []) 0 (empty_ends kind (bytes ++ 10 ∷ []) line.0 line.1)) (omega arith)
place_unfinished kind bytes Method at known = subst (λ k. IsUnfinishedHead k bytes) (sym at.0) (front_unfinished Requests bytes method_front 0 (method_ends bytes at.1) (omega arith))
place_unfinished kind bytes (Target start) at known =
    let t = at.1 in
    subst (λ k. IsUnfinishedHead k bytes) (sym at.0) (target_unfinished bytes (t.blank, t.method, t.target, t.is_method, t.is_target, t.whole))
place_unfinished kind bytes (Version read) at known = head_unfinished kind bytes (late_ends kind (IsWholeHead kind) bytes (Version read) at known)
place_unfinished kind bytes BehindVersion at known = head_unfinished kind bytes (late_ends kind (IsWholeHead kind) bytes BehindVersion at known)
place_unfinished kind bytes (Code left) at known = head_unfinished kind bytes (late_ends kind (IsWholeHead kind) bytes (Code left) at known)
place_unfinished kind bytes (Text fields) at known = head_unfinished kind bytes (late_ends kind (IsWholeHead kind) bytes (Text fields) at known)
place_unfinished kind bytes (LineReturn fields) at known = head_unfinished kind bytes (late_ends kind (IsWholeHead kind) bytes (LineReturn fields) at known)
place_unfinished kind bytes (LineStart fields) at known = head_unfinished kind bytes (late_ends kind (IsWholeHead kind) bytes (LineStart fields) at known)
place_unfinished kind bytes (Name fields) at known = head_unfinished kind bytes (late_ends kind (IsWholeHead kind) bytes (Name fields) at known)
place_unfinished kind bytes (Size digits) at known = head_unfinished kind bytes (late_ends kind (IsWholeHead kind) bytes (Size digits) at known)
place_unfinished kind bytes Pad at known = head_unfinished kind bytes (late_ends kind (IsWholeHead kind) bytes Pad at known)
place_unfinished kind bytes Extension at known = head_unfinished kind bytes (late_ends kind (IsWholeHead kind) bytes Extension at known)
place_unfinished kind bytes ChunkReturn at known = head_unfinished kind bytes (late_ends kind (IsWholeHead kind) bytes ChunkReturn at known)
place_unfinished kind bytes Unknown at known = head_unfinished kind bytes (late_ends kind (IsWholeHead kind) bytes Unknown at known)

all_lines : (xs : List ℕ) (n : ℕ) → line_feeds xs < n → first_lines xs n ≡ xs
all_lines xs n few = ap (λ v. first_lines v n) (sym (append-nil xs)) ∙ first-behind xs [] n few ∙ append-nil xs

-- a trailer
pub trailer_unfinished : (bytes : List ℕ) (p : TextPlace) → IsTrailerPlace bytes p → p ≢ Unknown → length bytes < max_head → LacksTrailer bytes
trailer_unfinished bytes p at known short =
    let e = late_ends Requests (FollowsSection 0) bytes p at known in
    let more = e.front ++ 10 ∷ [] in
    let s = e.is in
    let whole : (bytes ++ e.front) ++ 10 ∷ [] ≡ section_front s.fields s.last ++ 10 ∷ [] = append_assoc bytes e.front (10 ∷ []) ∙ s.whole ∙ section_is s.fields s.last in
    let lines : line_feeds (bytes ++ e.front) ≡ length s.fields = ap line_feeds (same_front (bytes ++ e.front) (section_front s.fields s.last) 10 10 whole) ∙ section_feeds s.fields s.last s.valid in
    let few : line_feeds bytes ≤ max_fields = omega (arith, lines, s.count, e.few, feeds-append bytes e.front) in
    let front : trailer_front bytes ≡ bytes = ap (λ v. first_lines v (suc max_fields)) (all_of_few max_head bytes short) ∙ all_lines bytes (suc max_fields) (omega (arith, few)) in
    let reads : ReadsSection (bytes ++ more) s.fields s.last [] = (s.valid, s.whole ∙ sym (append-nil (print_section s.fields s.last))) in
    let unended : IsUnfinishedTrailer bytes = record {
      none = λ fields last rest is.
          let same : rest ++ more ≡ [] = (section_unique (bytes ++ more) fields s.fields last s.last (rest ++ more) [] (ReadsSection-append bytes fields last rest more is) reads).2 in
          omega (arith, ap length same, length-append rest more, length-append e.front (10 ∷ []));
      may = (more, s.fields, s.last, reads);
      few = few;
    } in
    record { few = short; unended = subst IsUnfinishedTrailer (sym front) unended }

-- a chunk line
pub line_unfinished : (bytes : List ℕ) (p : TextPlace) → IsLinePlace bytes p → p ≢ Unknown → length bytes < max_head → LacksLine bytes
line_unfinished bytes p at known short =
    let e = late_ends Requests IsWholeLine bytes p at known in
    let more = e.front ++ 10 ∷ [] in
    record {
      few = short;
      none = λ l rest is.
          let same : rest ++ more ≡ [] = (chunk_line_unique (bytes ++ more) l e.is.line (rest ++ more) [] (ReadsChunkLine-append bytes l rest more is) e.is.reads).1 in
          omega (arith, ap length same, length-append rest more, length-append e.front (10 ∷ []));
      may = (more, e.is.line, e.is.reads);
    }

-- ---- where a chunk line and a trailer begin

pub line_begins : IsLinePlace [] (Size 0)
unfolding print_chunk_line
line_begins = record {
  few = omega arith;
  late = tt;
  behind = λ more n f. record {
    line = record { digits = f.digits; pad = f.pad.pad; extension = f.pad.extension };
    reads = (
      record { digits = (omega (arith, f.some), omega (arith, f.few), f.valid); pad = f.pad.valid; extension = f.pad.is_extension },
      printed f.digits f.pad.pad f.pad.extension more f.rest f.whole f.pad.whole,
    );
  };
}
  where
    regroup : (a b c d : List ℕ) → a ++ (b ++ (c ++ d)) ≡ (a ++ b ++ c ++ d) ++ []
    regroup a b c d = simp (append_assoc, append-nil)

    printed : (digits pad : List ℕ) (extension : Option (List ℕ)) (more rest : List ℕ) → more ≡ digits ++ rest → rest ≡ pad ++ (print_extension extension ++ print_end crlf) → [] ++ more ≡ print_chunk_line (record { digits = digits; pad = pad; extension = extension }) ++ []
    printed digits pad extension more rest whole last = whole ∙ ap (λ v. digits ++ v) last ∙ regroup digits pad (print_extension extension) (print_end crlf)

pub trailer_begins : IsTrailerPlace [] (LineStart 0)
trailer_begins = record { few = omega arith; late = tt; behind = λ more n f. f }
