-- What a byte more does to what may follow the bytes of a head, a chunk line or a trailer.
use Rattle.std.proofs.Common.{arith, ◌≡◌, ℕ, ◌+◌, ◌<◌, ◌≤◌, IsTrue, List, [], ◌∷◌, ◌++◌, get_or, refl, sym, ap, subst, ◌∙◌, append_assoc, codes, Some, None, flat_map}
use Rattle.std.proofs.lemmas.List.{drop_more}
use Rattle.std.proofs.lemmas.List.Elements.{All-nil, All-cons}
use Rattle.std.specs.Char.{is_ascii_digit, is_ascii_hexdigit}
use Rattle.httparse.specs.Grammar.{LineEnd, crlf, lf, print_end, Field, IsField, print_field, print_section, is_token_byte, is_value_byte, is_ows, is_extension_byte}
use Rattle.fed_http.specs.TextPlaces.{FollowsSection, FollowsEnd, FollowsReturn, FollowsText, FollowsName, FollowsCode, FollowsProtocol, FollowsPad, FollowsSize, FollowsExtension, Follows, HasFew, IsLate, IsWholeHead, IsBehind, IsLatePlace, IsHeadPlace}
use Rattle.fed_http.specs.declared.text_place.TextPlace.{TextPlace}
use Rattle.fed_http.specs.declared.text_place.TextPlace.TheVariants.{EmptyLines, EmptyReturn, Method, Target, Version, BehindVersion, Code, Text, LineReturn, LineStart, Name, Size, Pad, Extension, ChunkReturn, Unknown}
use Rattle.fed_http.specs.declared.message.Kind.{Kind}
use Rattle.fed_http.specs.declared.message.Kind.TheVariants.{Requests}

-- ---- one byte more in front of what may follow

pub end_return : (k : ℕ) (more : List ℕ) (n : ℕ) → FollowsReturn k more n → FollowsEnd k (13 ∷ more) n
end_return k more n f = record { end = crlf; rest = f.rest; whole = ap (λ v. 13 ∷ v) f.whole; section = f.section }

pub end_feed : (k : ℕ) (more : List ℕ) (n : ℕ) → FollowsSection k more n → FollowsEnd k (10 ∷ more) n
end_feed k more n f = record { end = lf; rest = more; whole = refl; section = f }

pub text_byte : (k b : ℕ) (more : List ℕ) (n : ℕ) → IsTrue (is_value_byte b) → FollowsText k more n → FollowsText k (b ∷ more) n
text_byte k b more n passes f = record {
  text = b ∷ f.text;
  rest = f.rest;
  valid = All-cons (λ b. IsTrue (is_value_byte b)) b f.text passes f.valid;
  whole = ap (λ v. b ∷ v) f.whole;
  end = f.end;
}

pub text_end : (k : ℕ) (more : List ℕ) (n : ℕ) → FollowsEnd k more n → FollowsText k more n
text_end k more n f = record { text = []; rest = more; valid = All-nil _; whole = refl; end = f }

pub name_byte : (k b : ℕ) (more : List ℕ) (n : ℕ) → IsTrue (is_token_byte b) → FollowsName k more n → FollowsName k (b ∷ more) n
name_byte k b more n passes f = record {
  name = b ∷ f.name;
  rest = f.rest;
  valid = All-cons (λ b. IsTrue (is_token_byte b)) b f.name passes f.valid;
  whole = ap (λ v. b ∷ v) f.whole;
  text = f.text;
}

pub name_colon : (k : ℕ) (more : List ℕ) (n : ℕ) → FollowsText k more n → FollowsName k (58 ∷ more) n
name_colon k more n f = record { name = []; rest = more; valid = All-nil _; whole = refl; text = f }

-- a field line, and the section behind it
field_front : (name raw : List ℕ) (e : LineEnd) (rest : List ℕ) → name ++ 58 ∷ (raw ++ (print_end e ++ rest)) ≡ (name ++ 58 ∷ raw ++ print_end e) ++ rest
field_front name raw e rest = regroup name raw (print_end e) rest
  where
    regroup : (a b c d : List ℕ) → a ++ 58 ∷ (b ++ (c ++ d)) ≡ (a ++ 58 ∷ b ++ c) ++ d
    regroup a b c d = sym (append_assoc (a ++ 58 ∷ b) c d ∙ append_assoc a (58 ∷ b) (c ++ d))

pub line_name : (k b : ℕ) (more : List ℕ) (n : ℕ) → IsTrue (is_token_byte b) → FollowsName (k + 1) more n → FollowsSection k (b ∷ more) n
line_name k b more n passes f =
    let s = f.text.end.section in
    let field : Field = record { name = b ∷ f.name; raw = f.text.text; end = f.text.end.end } in
    let is : IsField field = record { name = (omega arith, All-cons (λ b. IsTrue (is_token_byte b)) b f.name passes f.valid); raw = f.text.valid } in
    record {
      fields = field ∷ s.fields;
      last = s.last;
      valid = All-cons IsField field s.fields is s.valid;
      whole =
          ap (λ v. b ∷ v) (f.whole ∙ ap (λ v. f.name ++ 58 ∷ v) (f.text.whole ∙ ap (λ v. f.text.text ++ v) (f.text.end.whole ∙ ap (λ v. print_end f.text.end.end ++ v) s.whole)))
          ∙ field_front (b ∷ f.name) f.text.text f.text.end.end (print_section s.fields s.last)
          ∙ sym (append_assoc (print_field field) (flat_map print_field s.fields) (print_end s.last));
      count = omega (arith, s.count);
    }

pub code_digit : (left next b : ℕ) (more : List ℕ) (n : ℕ) → left ≡ next + 1 → IsTrue (is_ascii_digit b) → FollowsCode next more n → FollowsCode left (b ∷ more) n
code_digit left next b more n one passes f = record {
  digits = b ∷ f.digits;
  few = omega (arith, f.few, one);
  valid = All-cons (λ b. IsTrue (is_ascii_digit b)) b f.digits passes f.valid;
  reason = f.reason;
  phrase = f.phrase;
  rest = f.rest;
  whole = ap (λ v. b ∷ v) f.whole;
  end = f.end;
}

pub code_space : (left : ℕ) (more : List ℕ) (n : ℕ) → 0 ≡ left → FollowsText 0 more n → FollowsCode left (32 ∷ more) n
code_space left more n none f = record {
  digits = [];
  few = none;
  valid = All-nil _;
  reason = Some f.text;
  phrase = f.valid;
  rest = f.rest;
  whole = ap (λ v. 32 ∷ v) f.whole;
  end = f.end;
}

pub code_end : (left : ℕ) (more : List ℕ) (n : ℕ) → 0 ≡ left → FollowsEnd 0 more n → FollowsCode left more n
code_end left more n none f = record {
  digits = [];
  few = none;
  valid = All-nil _;
  reason = None;
  phrase = All-nil _;
  rest = more;
  whole = refl;
  end = f;
}

pub version_byte : (kind : Kind) (read b : ℕ) (more : List ℕ) (n : ℕ) → read < 7 → b ≡ get_or (codes "HTTP/1.") read 0 → FollowsProtocol kind (read + 1) more n → FollowsProtocol kind read (b ∷ more) n
version_byte kind read b more n inside is f = record {
  minor = f.minor;
  small = f.small;
  rest = f.rest;
  whole = (λ i. is i ∷ f.whole i) ∙ ap (λ v. v ++ (48 + f.minor) ∷ f.rest) (sym (drop_more (codes "HTTP/1.") read 0 inside));
  behind = f.behind;
}

-- ---- chunk lines

pub pad_byte : (b : ℕ) (more : List ℕ) → IsTrue (is_ows b) → FollowsPad more → FollowsPad (b ∷ more)
pad_byte b more passes f = record {
  pad = b ∷ f.pad;
  valid = All-cons (λ b. IsTrue (is_ows b)) b f.pad passes f.valid;
  extension = f.extension;
  is_extension = f.is_extension;
  whole = ap (λ v. b ∷ v) f.whole;
}

pub pad_extension : (more : List ℕ) → FollowsExtension more → FollowsPad (59 ∷ more)
pad_extension more f = record { pad = []; valid = All-nil _; extension = Some f.text; is_extension = f.valid; whole = ap (λ v. 59 ∷ v) f.whole }

pub pad_return : (more : List ℕ) → more ≡ 10 ∷ [] → FollowsPad (13 ∷ more)
pad_return more feed = record { pad = []; valid = All-nil _; extension = None; is_extension = tt; whole = ap (λ v. 13 ∷ v) feed }

pub size_digit : (read b : ℕ) (more : List ℕ) → IsTrue (is_ascii_hexdigit b) → FollowsSize (read + 1) more → FollowsSize read (b ∷ more)
size_digit read b more passes f = record {
  digits = b ∷ f.digits;
  some = omega arith;
  few = omega (arith, f.few);
  valid = All-cons (λ b. IsTrue (is_ascii_hexdigit b)) b f.digits passes f.valid;
  rest = f.rest;
  whole = ap (λ v. b ∷ v) f.whole;
  pad = f.pad;
}

pub size_pad : (read : ℕ) (more : List ℕ) → 0 < read → read ≤ 16 → FollowsPad more → FollowsSize read more
size_pad read more some few f = record {
  digits = [];
  some = omega (arith, some);
  few = omega (arith, few);
  valid = All-nil _;
  rest = more;
  whole = refl;
  pad = f;
}

pub extension_byte : (b : ℕ) (more : List ℕ) → IsTrue (is_extension_byte b) → FollowsExtension more → FollowsExtension (b ∷ more)
extension_byte b more passes f = record { text = b ∷ f.text; valid = All-cons (λ b. IsTrue (is_extension_byte b)) b f.text passes f.valid; whole = ap (λ v. b ∷ v) f.whole }

pub extension_return : (more : List ℕ) → more ≡ 10 ∷ [] → FollowsExtension (13 ∷ more)
extension_return more feed = record { text = []; valid = All-nil _; whole = ap (λ v. 13 ∷ v) feed }

-- ---- places

pub few_of : (kind : Kind) (bytes : List ℕ) (p : TextPlace) → IsHeadPlace kind bytes p → HasFew p
few_of kind bytes EmptyLines at = tt
few_of kind bytes EmptyReturn at = tt
few_of kind bytes Method at = tt
few_of kind bytes (Target start) at = tt
few_of kind bytes (Version read) at = at.few
few_of kind bytes BehindVersion at = at.few
few_of kind bytes (Code left) at = at.few
few_of kind bytes (Text fields) at = at.few
few_of kind bytes (LineReturn fields) at = at.few
few_of kind bytes (LineStart fields) at = at.few
few_of kind bytes (Name fields) at = at.few
few_of kind bytes (Size digits) at = at.few
few_of kind bytes Pad at = at.few
few_of kind bytes Extension at = at.few
few_of kind bytes ChunkReturn at = at.few
few_of kind bytes Unknown at = at.few

pub behind_of : (kind : Kind) (bytes : List ℕ) (p : TextPlace) → IsHeadPlace kind bytes p → IsBehind (IsWholeHead kind) bytes (Follows kind p)
behind_of kind bytes EmptyLines at = λ more n f. absurd f
behind_of kind bytes EmptyReturn at = λ more n f. absurd f
behind_of kind bytes Method at = λ more n f. absurd f
behind_of kind bytes (Target start) at = λ more n f. absurd f
behind_of kind bytes (Version read) at = at.behind
behind_of kind bytes BehindVersion at = at.behind
behind_of kind bytes (Code left) at = at.behind
behind_of kind bytes (Text fields) at = at.behind
behind_of kind bytes (LineReturn fields) at = at.behind
behind_of kind bytes (LineStart fields) at = at.behind
behind_of kind bytes (Name fields) at = at.behind
behind_of kind bytes (Size digits) at = at.behind
behind_of kind bytes Pad at = at.behind
behind_of kind bytes Extension at = at.behind
behind_of kind bytes ChunkReturn at = at.behind
behind_of kind bytes Unknown at = at.behind

pub place_of : (kind : Kind) (bytes : List ℕ) (p : TextPlace) → IsLatePlace kind (IsWholeHead kind) bytes p → IsHeadPlace kind bytes p
place_of kind bytes EmptyLines at = absurd at.late
place_of kind bytes EmptyReturn at = absurd at.late
place_of kind bytes Method at = absurd at.late
place_of kind bytes (Target start) at = absurd at.late
place_of kind bytes (Version read) at = at
place_of kind bytes BehindVersion at = at
place_of kind bytes (Code left) at = at
place_of kind bytes (Text fields) at = at
place_of kind bytes (LineReturn fields) at = at
place_of kind bytes (LineStart fields) at = at
place_of kind bytes (Name fields) at = at
place_of kind bytes (Size digits) at = at
place_of kind bytes Pad at = at
place_of kind bytes Extension at = at
place_of kind bytes ChunkReturn at = at
place_of kind bytes Unknown at = at

-- what follows bytes more
behind_bytes : (whole : List ℕ → ℕ → Type 0) (bytes xs : List ℕ) (F G : List ℕ → ℕ → Type 0) → ((more : List ℕ) (n : ℕ) → G more n → F (xs ++ more) n) → IsBehind whole bytes F → IsBehind whole (bytes ++ xs) G
behind_bytes whole bytes xs F G step at more n f = subst (λ v. whole v n) (sym (append_assoc bytes xs more)) (at (xs ++ more) n (step more n f))

pub next_place : (kind : Kind) (bytes : List ℕ) (b : ℕ) (p q : TextPlace) → IsHeadPlace kind bytes p → (HasFew p → HasFew q) → IsLate q → ((more : List ℕ) (n : ℕ) → Follows kind q more n → Follows kind p (b ∷ more) n) → IsHeadPlace kind (bytes ++ b ∷ []) q
next_place kind bytes b p q at few late step =
    place_of kind (bytes ++ b ∷ []) q (record { few = few (few_of kind bytes p at); late = late; behind = behind_bytes (IsWholeHead kind) bytes (b ∷ []) (Follows kind p) (Follows kind q) step (behind_of kind bytes p at) })

-- the place behind more bytes of a chunk line or of a trailer
pub late_on : (whole : List ℕ → ℕ → Type 0) (bytes more : List ℕ) (p q : TextPlace) → (HasFew p → HasFew q) → (IsLate p → IsLate q) → ((rest : List ℕ) (n : ℕ) → Follows Requests q rest n → Follows Requests p (more ++ rest) n) → IsLatePlace Requests whole bytes p
    → IsLatePlace Requests whole (bytes ++ more) q
late_on whole bytes more p q few late step at = record { few = few at.few; late = late at.late; behind = behind_bytes whole bytes more (Follows Requests p) (Follows Requests q) step at.behind }
