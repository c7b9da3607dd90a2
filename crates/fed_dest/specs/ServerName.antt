-- The name of a server (Matrix, appendix "Server Name"): a host, and perhaps a colon and a port behind it.
use Rattle.std.specs.Prelude.{◌≡◌, ◌⊎◌, ℕ, List, [], ◌∷◌, ◌++◌, ◌==◌, ◌&&◌, ◌||◌, Bool, IsTrue, nat_le, length}
use Rattle.std.specs.List.{list_all}
use Rattle.std.specs.Char.{is_ascii_digit, is_ascii_hexdigit, is_ascii_alphanumeric}

-- from `low` to `high` characters, each of which passes
abbrev pub is_text_of : (ℕ → Bool) → ℕ → ℕ → List ℕ → Bool
is_text_of test low high text = nat_le low (length text) && nat_le (length text) high && list_all test text

-- a digit, a letter, `-`, which is 45, or `.`, which is 46
abbrev pub is_dns_char : ℕ → Bool
is_dns_char c = is_ascii_alphanumeric c || c == 45 || c == 46

-- a hexadecimal digit, `:`, which is 58, or `.`
abbrev pub is_ipv6_char : ℕ → Bool
is_ipv6_char c = is_ascii_hexdigit c || c == 58 || c == 46

-- every IPv4 address is one too, by its characters
abbrev pub is_dns_name : List ℕ → Bool
is_dns_name = is_text_of is_dns_char 1 255

abbrev pub is_ipv6_address : List ℕ → Bool
is_ipv6_address = is_text_of is_ipv6_char 2 45

abbrev pub is_port : List ℕ → Bool
is_port = is_text_of is_ascii_digit 1 5

-- an IPv6 address between `[`, which is 91, and `]`, which is 93
abbrev pub IsInBrackets : List ℕ → Type 0
IsInBrackets host = (address : List ℕ) × IsTrue (is_ipv6_address address) × (host ≡ 91 ∷ (address ++ 93 ∷ []))

abbrev pub IsHost : List ℕ → Type 0
IsHost host = IsTrue (is_dns_name host) ⊎ IsInBrackets host

-- a host, a colon and a port
abbrev pub IsHostAndPort : List ℕ → Type 0
IsHostAndPort name = (host port : List ℕ) × IsHost host × IsTrue (is_port port) × (name ≡ host ++ 58 ∷ port)

abbrev pub IsServerName : List ℕ → Type 0
IsServerName name = ∥ IsHost name ⊎ IsHostAndPort name ∥₁

-- what stands behind a host: nothing, or a colon and a port
abbrev pub IsPortOrNothing : List ℕ → Type 0
IsPortOrNothing text = (text ≡ []) ⊎ ((port : List ℕ) × IsTrue (is_port port) × (text ≡ 58 ∷ port))
