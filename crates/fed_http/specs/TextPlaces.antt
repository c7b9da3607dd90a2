-- Where in a head, a chunk line or a trailer its bytes so far end, by what may follow them (RFC 9112, sections 2 to 5 and 7.1).
use Rattle.std.specs.Prelude.{◌≡◌, ◌≢◌, ℕ, suc, ◌+◌, ◌<◌, ◌≤◌, List, [], ◌∷◌, ◌++◌, length, take, drop, All, Option, codes, ⊤}
use Rattle.std.specs.Char.{is_ascii_digit, is_ascii_hexdigit}
use Rattle.httparse.specs.Grammar.{LineEnd, crlf, print_end, print_blank, Field, IsField, ChunkLine, ReadsChunkLine, IsExtension, print_extension, is_ows, is_extension_byte, print_section, print_reason, reason_phrase, IsToken, AllPass, is_token_byte, is_uri_byte, is_value_byte}
use Rattle.fed_http.specs.Limits.{max_head, max_fields}
use Rattle.fed_http.specs.Head.{Head, ReadsHead, field_lines}
use Rattle.fed_http.specs.declared.text_place.TextPlace.{TextPlace}
use Rattle.fed_http.specs.declared.text_place.TextPlace.TheVariants.{EmptyLines, EmptyReturn, Method, Target, Version, BehindVersion, Code, Text, LineReturn, LineStart, Name, Size, Pad, Extension, ChunkReturn, Unknown}
use Rattle.fed_http.specs.declared.message.Kind.{Kind}
use Rattle.fed_http.specs.declared.message.Kind.TheVariants.{Requests, Replies}

-- ---- what may follow, up to the end of a head or a trailer that has n fields in all

-- field lines and the empty line: so many fields have ended
pub record FollowsSection (ended : ℕ) (more : List ℕ) (n : ℕ) : Type 0 where
  pub fields : List Field
  pub last : LineEnd
  pub valid : All IsField fields
  pub whole : more ≡ print_section fields last
  pub count : n ≡ ended + length fields

-- the end of a line, with which so many fields have ended
pub record FollowsEnd (ended : ℕ) (more : List ℕ) (n : ℕ) : Type 0 where
  pub end : LineEnd
  pub rest : List ℕ
  pub whole : more ≡ print_end end ++ rest
  pub section : FollowsSection ended rest n

-- LF
pub record FollowsReturn (ended : ℕ) (more : List ℕ) (n : ℕ) : Type 0 where
  pub rest : List ℕ
  pub whole : more ≡ 10 ∷ rest
  pub section : FollowsSection ended rest n

-- bytes of a value or of a reason phrase, and the end of the line
pub record FollowsText (ended : ℕ) (more : List ℕ) (n : ℕ) : Type 0 where
  pub text : List ℕ
  pub rest : List ℕ
  pub valid : AllPass is_value_byte text
  pub whole : more ≡ text ++ rest
  pub end : FollowsEnd ended rest n

-- bytes of a field's name, the colon, and the value
pub record FollowsName (ended : ℕ) (more : List ℕ) (n : ℕ) : Type 0 where
  pub name : List ℕ
  pub rest : List ℕ
  pub valid : AllPass is_token_byte name
  pub whole : more ≡ name ++ 58 ∷ rest
  pub text : FollowsText ended rest n

-- digits of a status code, and a reason phrase or none
pub record FollowsCode (left : ℕ) (more : List ℕ) (n : ℕ) : Type 0 where
  pub digits : List ℕ
  pub few : length digits ≡ left
  pub valid : AllPass is_ascii_digit digits
  pub reason : Option (List ℕ)
  pub phrase : AllPass is_value_byte (reason_phrase reason)
  pub rest : List ℕ
  pub whole : more ≡ digits ++ (print_reason reason ++ rest)
  pub end : FollowsEnd 0 rest n

-- a space and the status code
pub record FollowsSpace (more : List ℕ) (n : ℕ) : Type 0 where
  pub rest : List ℕ
  pub whole : more ≡ 32 ∷ rest
  pub code : FollowsCode 3 rest n

-- what stands behind the version
abbrev pub FollowsVersion : Kind → List ℕ → ℕ → Type 0
FollowsVersion Requests more n = FollowsEnd 0 more n
FollowsVersion Replies more n = FollowsSpace more n

-- the version, of which so many bytes were read
pub record FollowsProtocol (kind : Kind) (read : ℕ) (more : List ℕ) (n : ℕ) : Type 0 where
  pub minor : ℕ
  pub small : minor ≤ 1
  pub rest : List ℕ
  pub whole : more ≡ drop read (codes "HTTP/1.") ++ (48 + minor) ∷ rest
  pub behind : FollowsVersion kind rest n

-- ---- what may follow, up to the end of a chunk line

-- white space, an extension or none, and CR LF
pub record FollowsPad (more : List ℕ) : Type 0 where
  pub pad : List ℕ
  pub valid : AllPass is_ows pad
  pub extension : Option (List ℕ)
  pub is_extension : IsExtension extension
  pub whole : more ≡ pad ++ (print_extension extension ++ print_end crlf)

-- digits of the size, of which so many were read, and what follows them
pub record FollowsSize (read : ℕ) (more : List ℕ) : Type 0 where
  pub digits : List ℕ
  pub some : 0 < read + length digits
  pub few : read + length digits ≤ 16
  pub valid : AllPass is_ascii_hexdigit digits
  pub rest : List ℕ
  pub whole : more ≡ digits ++ rest
  pub pad : FollowsPad rest

-- bytes of an extension, and CR LF
pub record FollowsExtension (more : List ℕ) : Type 0 where
  pub text : List ℕ
  pub valid : AllPass is_extension_byte text
  pub whole : more ≡ text ++ print_end crlf

-- ---- places

abbrev pub Follows : Kind → TextPlace → List ℕ → ℕ → Type 0
Follows kind EmptyLines more n = ⊥
Follows kind EmptyReturn more n = ⊥
Follows kind Method more n = ⊥
Follows kind (Target start) more n = ⊥
Follows kind (Version read) more n = FollowsProtocol kind read more n
Follows kind BehindVersion more n = FollowsVersion kind more n
Follows kind (Code left) more n = FollowsCode left more n
Follows kind (Text fields) more n = FollowsText fields more n
Follows kind (LineReturn fields) more n = FollowsReturn fields more n
Follows kind (LineStart fields) more n = FollowsSection fields more n
Follows kind (Name fields) more n = FollowsName fields more n
Follows kind (Size digits) more n = FollowsSize digits more
Follows kind Pad more n = FollowsPad more
Follows kind Extension more n = FollowsExtension more
Follows kind ChunkReturn more n = more ≡ 10 ∷ []
Follows kind Unknown more n = ⊥

-- no more fields have ended than a head may have, or are read than one more
abbrev pub HasFew : TextPlace → Type 0
HasFew EmptyLines = ⊤
HasFew EmptyReturn = ⊤
HasFew Method = ⊤
HasFew (Target start) = ⊤
HasFew (Version read) = ⊤
HasFew BehindVersion = ⊤
HasFew (Code left) = ⊤
HasFew (Text fields) = fields ≤ suc max_fields
HasFew (LineReturn fields) = fields ≤ suc max_fields
HasFew (LineStart fields) = fields ≤ max_fields
HasFew (Name fields) = fields ≤ suc max_fields
HasFew (Size digits) = digits ≤ 16
HasFew Pad = ⊤
HasFew Extension = ⊤
HasFew ChunkReturn = ⊤
HasFew Unknown = ⊤

-- any place but those up to the target of a request
abbrev pub IsLate : TextPlace → Type 0
IsLate EmptyLines = ⊥
IsLate EmptyReturn = ⊥
IsLate Method = ⊥
IsLate (Target start) = ⊥
IsLate (Version read) = ⊤
IsLate BehindVersion = ⊤
IsLate (Code left) = ⊤
IsLate (Text fields) = ⊤
IsLate (LineReturn fields) = ⊤
IsLate (LineStart fields) = ⊤
IsLate (Name fields) = ⊤
IsLate (Size digits) = ⊤
IsLate Pad = ⊤
IsLate Extension = ⊤
IsLate ChunkReturn = ⊤
IsLate Unknown = ⊤

-- ---- the place where bytes end

-- the bytes are a head that has n fields
pub record IsWholeHead (kind : Kind) (bytes : List ℕ) (n : ℕ) : Type 0 where
  pub head : Head
  pub reads : ReadsHead kind bytes head []
  pub count : length (field_lines head) ≡ n

-- whatever may follow the bytes makes the whole of them
abbrev pub IsBehind : (List ℕ → ℕ → Type 0) → List ℕ → (List ℕ → ℕ → Type 0) → Type 0
IsBehind whole bytes follows = (more : List ℕ) (n : ℕ) → follows more n → whole (bytes ++ more) n

-- empty lines and bytes of a method
pub record IsInMethod (bytes : List ℕ) : Type 0 where
  pub blank : List LineEnd
  pub method : List ℕ
  pub is_method : IsToken method
  pub whole : bytes ≡ print_blank blank ++ method

-- empty lines, a method, a space, and from so many bytes on those of a target
pub record IsInTargetFrom (start : ℕ) (bytes : List ℕ) : Type 0 where
  pub blank : List LineEnd
  pub method : List ℕ
  pub target : List ℕ
  pub is_method : IsToken method
  pub is_target : AllPass is_uri_byte target
  pub whole : bytes ≡ print_blank blank ++ method ++ 32 ∷ target
  pub at : start ≡ suc (length (print_blank blank ++ method))

-- bytes end at a late place, where the whole of them is such
pub record IsLatePlace (kind : Kind) (whole : List ℕ → ℕ → Type 0) (bytes : List ℕ) (p : TextPlace) : Type 0 where
  pub few : HasFew p
  pub late : IsLate p
  pub behind : IsBehind whole bytes (Follows kind p)

-- where the bytes of a head end
abbrev pub IsHeadPlace : Kind → List ℕ → TextPlace → Type 0
IsHeadPlace kind bytes EmptyLines = (blank : List LineEnd) × (bytes ≡ print_blank blank)
IsHeadPlace kind bytes EmptyReturn = (blank : List LineEnd) × (bytes ≡ print_blank blank ++ 13 ∷ [])
IsHeadPlace kind bytes Method = (kind ≡ Requests) × IsInMethod bytes
IsHeadPlace kind bytes (Target start) = (kind ≡ Requests) × IsInTargetFrom start bytes
IsHeadPlace kind bytes (Version read) = IsLatePlace kind (IsWholeHead kind) bytes (Version read)
IsHeadPlace kind bytes BehindVersion = IsLatePlace kind (IsWholeHead kind) bytes BehindVersion
IsHeadPlace kind bytes (Code left) = IsLatePlace kind (IsWholeHead kind) bytes (Code left)
IsHeadPlace kind bytes (Text fields) = IsLatePlace kind (IsWholeHead kind) bytes (Text fields)
IsHeadPlace kind bytes (LineReturn fields) = IsLatePlace kind (IsWholeHead kind) bytes (LineReturn fields)
IsHeadPlace kind bytes (LineStart fields) = IsLatePlace kind (IsWholeHead kind) bytes (LineStart fields)
IsHeadPlace kind bytes (Name fields) = IsLatePlace kind (IsWholeHead kind) bytes (Name fields)
IsHeadPlace kind bytes (Size digits) = IsLatePlace kind (IsWholeHead kind) bytes (Size digits)
IsHeadPlace kind bytes Pad = IsLatePlace kind (IsWholeHead kind) bytes Pad
IsHeadPlace kind bytes Extension = IsLatePlace kind (IsWholeHead kind) bytes Extension
IsHeadPlace kind bytes ChunkReturn = IsLatePlace kind (IsWholeHead kind) bytes ChunkReturn
IsHeadPlace kind bytes Unknown = IsLatePlace kind (IsWholeHead kind) bytes Unknown

-- the bytes are a chunk line
pub record IsWholeLine (bytes : List ℕ) (n : ℕ) : Type 0 where
  pub line : ChunkLine
  pub reads : ReadsChunkLine bytes line []

-- where those of a chunk line end, and those of a trailer; of these `kind` says nothing
abbrev pub IsLinePlace : List ℕ → TextPlace → Type 0
IsLinePlace bytes p = IsLatePlace Requests IsWholeLine bytes p

abbrev pub IsTrailerPlace : List ℕ → TextPlace → Type 0
IsTrailerPlace bytes p = IsLatePlace Requests (FollowsSection 0) bytes p

-- behind more bytes than the old place, at the new one, a chunk line or a trailer may end yet
pub record GoesOnTo (old : TextPlace) (before : ℕ) (more : List ℕ) (new : TextPlace) : Type 0 where
  pub short : before + length more < max_head
  pub known : new ≢ Unknown
  pub few : HasFew old → HasFew new
  pub late : IsLate old → IsLate new
  pub follows : (rest : List ℕ) (n : ℕ) → Follows Requests new rest n → Follows Requests old (more ++ rest) n

-- the same of a head
pub record HeadGoesOnTo (kind : Kind) (old : TextPlace) (before : ℕ) (bytes : List ℕ) (new : TextPlace) : Type 0 where
  pub short : length bytes < max_head
  pub known : new ≢ Unknown
  pub on : IsHeadPlace kind (take before bytes) old → IsHeadPlace kind bytes new
