-- The parts of a server name, and where its text is cut.
use Rattle.std.proofs.Common.{arith, suc, ◌==◌, Decides, ◌≡◌, ◌≢◌, ◌⊎◌, ℕ, ◌<◌, ◌≤◌, List, [], ◌∷◌, ◌++◌, ◌&&◌, Bool, true, false, length, slice_index_or, refl, sym, ap, subst, ◌∙◌, inl, inr, append_assoc}
use Rattle.std.proofs.Math.Bool.{Bool-set}
use Rattle.std.proofs.Math.Logic.{∥∥₁_elim}
use Rattle.std.specs.List.{list_all}
use Rattle.std.proofs.lemmas.Bool.{false≢true}
use Rattle.std.proofs.lemmas.Bool.Decides.{nat_tests}
use Rattle.std.proofs.lemmas.List.{append-nil}
use Rattle.std.proofs.lemmas.List.Folds.{list_all_at}
use Rattle.fed_dest.specs.ServerName.{is_text_of, is_dns_char, is_ipv6_char, is_dns_name, is_ipv6_address, is_port, IsHost, IsHostAndPort, IsServerName, IsPortOrNothing}

-- ---- texts of some characters

pub of_length : (test : ℕ → Bool) (low high : ℕ) (text : List ℕ) (r : Bool) → low ≤ length text → length text ≤ high → r ≡ list_all test text → r ≡ is_text_of test low high text
of_length test low high text r least most all = grind (arith, nat_tests)

all_of : (test : ℕ → Bool) (low high : ℕ) (text : List ℕ) → is_text_of test low high text ≡ true → list_all test text ≡ true
all_of test low high text h = grind (arith, nat_tests)

least_of : (test : ℕ → Bool) (low high : ℕ) (text : List ℕ) → is_text_of test low high text ≡ true → low ≤ length text
least_of test low high text h = grind (arith, nat_tests)

-- no such character stands in the text
abbrev pub Lacks : ℕ → List ℕ → Type 0
Lacks c text = (i : ℕ) → i < length text → slice_index_or text i 0 ≢ c

lacks_other : (test : ℕ → Bool) (low high c : ℕ) (text : List ℕ) → test c ≡ false → is_text_of test low high text ≡ true → Lacks c text
lacks_other test low high c text other h i within here = false≢true (sym (list_all_at test text i 0 within (ap test here ∙ other)) ∙ all_of test low high text h)

-- ---- where a text is cut

holds_it : (c : ℕ) (front back : List ℕ) → Lacks c (front ++ c ∷ back) → ⊥
holds_it c [] back lacks = lacks 0 (omega arith) refl
holds_it c (x ∷ front) back lacks = holds_it c front back (λ i within. lacks (suc i) (omega arith))

-- a text is cut in one way at the first such character
first_at : (c : ℕ) (front back other rest : List ℕ) → Lacks c front → Lacks c other → front ++ c ∷ back ≡ other ++ c ∷ rest → (front ≡ other) × (back ≡ rest)
first_at c [] back [] rest free clear e = (refl, cc)
first_at c [] back (y ∷ other) rest free clear e = let same : y ≡ c = cc in absurd (clear 0 (omega arith) same)
first_at c (x ∷ front) back [] rest free clear e = let same : x ≡ c = cc in absurd (free 0 (omega arith) same)
first_at c (x ∷ front) back (y ∷ other) rest free clear e =
    let tails : front ++ c ∷ back ≡ other ++ c ∷ rest = cc in
    let same = first_at c front back other rest (λ i within. free (suc i) (omega arith)) (λ i within. clear (suc i) (omega arith)) tails in
    (cc, same.1)

-- ---- names in brackets

starts_otherwise : (host rest behind : List ℕ) → is_dns_name host ≡ true → host ++ behind ≡ 91 ∷ rest → ⊥
starts_otherwise [] rest behind h e = false≢true h
starts_otherwise (x ∷ host) rest behind h e =
    let first : x ≡ 91 = cc in
    lacks_other is_dns_char 1 255 91 (x ∷ host) refl h 0 (omega arith) first

abbrev pub IsCase : List ℕ → Type 0
IsCase text = IsHost text ⊎ IsHostAndPort text

-- what stands behind a `[`
abbrev IsBehindBracket : List ℕ → Type 0
IsBehindBracket rest = (address : List ℕ) × (behind : List ℕ) × (is_ipv6_address address ≡ true) × IsPortOrNothing behind × (rest ≡ address ++ 93 ∷ behind)

behind_host : (rest host behind : List ℕ) → IsHost host → IsPortOrNothing behind → 91 ∷ rest ≡ host ++ behind → IsBehindBracket rest
behind_host rest host behind (inl dns) port e = absurd (starts_otherwise host rest behind dns (sym e))
behind_host rest host behind (inr (address, is, whole)) port e =
    let joined : 91 ∷ rest ≡ (91 ∷ (address ++ 93 ∷ [])) ++ behind = e ∙ ap (λ h. h ++ behind) whole in
    let tail : rest ≡ (address ++ 93 ∷ []) ++ behind = cc in
    (address, behind, is, port, tail ∙ append_assoc address (93 ∷ []) behind)

behind_bracket : (text rest : List ℕ) → text ≡ 91 ∷ rest → IsCase text → IsBehindBracket rest
behind_bracket text rest e (inl host) = behind_host rest text [] host (inl refl) (sym e ∙ sym (append-nil text))
behind_bracket text rest e (inr (host, port, is, digits, whole)) = behind_host rest host (58 ∷ port) is (inr (port, digits, refl)) (sym e ∙ whole)

of_parts : (rest address behind : List ℕ) → rest ≡ address ++ 93 ∷ behind → is_ipv6_address address ≡ true → IsPortOrNothing behind → IsCase (91 ∷ rest)
of_parts rest address behind e is (inl nil) = inl (inr (address, is, ap (λ t. 91 ∷ t) (e ∙ ap (λ b. address ++ 93 ∷ b) nil)))
of_parts rest address behind e is (inr (port, digits, some)) =
    inr (91 ∷ (address ++ 93 ∷ []), port, inr (address, is, refl), digits, ap (λ t. 91 ∷ t) (e ∙ ap (λ b. address ++ 93 ∷ b) some ∙ sym (append_assoc address (93 ∷ []) (58 ∷ port))))

-- ---- names without brackets

without_bracket : (text : List ℕ) → ((rest : List ℕ) → text ≢ 91 ∷ rest) → IsCase text
    → (is_dns_name text ≡ true) ⊎ ((host : List ℕ) × (port : List ℕ) × (is_dns_name host ≡ true) × (is_port port ≡ true) × (text ≡ host ++ 58 ∷ port))
without_bracket text bare (inl (inl dns)) = inl dns
without_bracket text bare (inl (inr (address, is, whole))) = absurd (bare (address ++ 93 ∷ []) whole)
without_bracket text bare (inr (host, port, inl dns, digits, whole)) = inr (host, port, dns, digits, whole)
without_bracket text bare (inr (host, port, inr (address, is, brackets), digits, whole)) =
    absurd (bare ((address ++ 93 ∷ []) ++ 58 ∷ port) (whole ∙ ap (λ h. h ++ 58 ∷ port) brackets))

-- ---- the answers

ipv6_lacks : (address : List ℕ) → is_ipv6_address address ≡ true → Lacks 93 address
ipv6_lacks address is = lacks_other is_ipv6_char 2 45 93 address refl is

dns_lacks : (host : List ℕ) → is_dns_name host ≡ true → Lacks 58 host
dns_lacks host is = lacks_other is_dns_char 1 255 58 host refl is

-- a test that is true of each name, of a name
found : (text : List ℕ) (b : Bool) → (IsCase text → b ≡ true) → IsServerName text → b ≡ true
found text b each name = ∥∥₁_elim name (Bool-set b true) each

pub brackets_hold : (text rest address behind : List ℕ) (b : Bool) → text ≡ 91 ∷ rest → rest ≡ address ++ 93 ∷ behind → Lacks 93 address → (IsPortOrNothing behind → b ≡ true)
    → IsServerName text → (is_ipv6_address address && b) ≡ true
brackets_hold text rest address behind b starts cut first test name =
    found text (is_ipv6_address address && b) (λ case.
    let (other, after, is, port, whole) = behind_bracket text rest starts case in
    let same = first_at 93 address behind other after first (ipv6_lacks other is) (sym cut ∙ whole) in
    let fits : is_ipv6_address address ≡ true = ap is_ipv6_address same.0 ∙ is in
    let more : b ≡ true = test (subst IsPortOrNothing (sym same.1) port) in
    ap (λ v. v && b) fits ∙ more) name

pub brackets_are : (text rest address behind : List ℕ) → text ≡ 91 ∷ rest → rest ≡ address ++ 93 ∷ behind → is_ipv6_address address ≡ true → IsPortOrNothing behind → IsServerName text
brackets_are text rest address behind starts cut is port = ∣ subst IsCase (sym starts) (of_parts rest address behind cut is port) ∣₁

pub open_bracket : (text rest : List ℕ) → text ≡ 91 ∷ rest → Lacks 93 rest → IsServerName text → false ≡ true
open_bracket text rest starts lacks name =
    found text false (λ case.
    let (address, behind, is, port, whole) = behind_bracket text rest starts case in
    absurd (holds_it 93 address behind (subst (Lacks 93) whole lacks))) name

pub port_holds : (text host port : List ℕ) → ((rest : List ℕ) → text ≢ 91 ∷ rest) → text ≡ host ++ 58 ∷ port → Lacks 58 host → IsServerName text → (is_dns_name host && is_port port) ≡ true
port_holds text host port bare cut first name = found text (is_dns_name host && is_port port) (λ case. cut_so (without_bracket text bare case)) name
  where
    cut_so : (is_dns_name text ≡ true) ⊎ ((other : List ℕ) × (after : List ℕ) × (is_dns_name other ≡ true) × (is_port after ≡ true) × (text ≡ other ++ 58 ∷ after)) → (is_dns_name host && is_port port) ≡ true
    cut_so (inl dns) = absurd (holds_it 58 host port (subst (Lacks 58) cut (dns_lacks text dns)))
    cut_so (inr (other, after, is, digits, whole)) =
        let same = first_at 58 host port other after first (dns_lacks other is) (sym cut ∙ whole) in
        ap (λ h. is_dns_name h && is_port port) same.0 ∙ ap (λ v. v && is_port port) is ∙ ap is_port same.1 ∙ digits

pub port_is : (text host port : List ℕ) → text ≡ host ++ 58 ∷ port → is_dns_name host ≡ true → is_port port ≡ true → IsServerName text
port_is text host port cut is digits = ∣ inr (host, port, inl is, digits, cut) ∣₁

pub dns_holds : (text : List ℕ) → ((rest : List ℕ) → text ≢ 91 ∷ rest) → Lacks 58 text → IsServerName text → is_dns_name text ≡ true
dns_holds text bare lacks name = found text (is_dns_name text) (λ case. whole_so (without_bracket text bare case)) name
  where
    whole_so : (is_dns_name text ≡ true) ⊎ ((host : List ℕ) × (port : List ℕ) × (is_dns_name host ≡ true) × (is_port port ≡ true) × (text ≡ host ++ 58 ∷ port)) → is_dns_name text ≡ true
    whole_so (inl dns) = dns
    whole_so (inr (host, port, is, digits, cut)) = absurd (holds_it 58 host port (subst (Lacks 58) cut lacks))

pub dns_is : (text : List ℕ) → is_dns_name text ≡ true → IsServerName text
dns_is text dns = ∣ inl (inl dns) ∣₁

-- ---- what stands behind a host

pub behind_colon : (text port : List ℕ) → text ≡ 58 ∷ port → Decides (is_port port) (IsPortOrNothing text)
behind_colon text port starts = (λ digits. inr (port, digits, starts), of_some)
  where
    of_some : IsPortOrNothing text → is_port port ≡ true
    of_some (inl nil) = cc
    of_some (inr (other, digits, is)) = let same : other ≡ port = cc in ap is_port (sym same) ∙ digits

pub nothing_behind : (text : List ℕ) (empty : Bool) → empty ≡ (length text == 0) → ((rest : List ℕ) → text ≢ 58 ∷ rest) → Decides empty (IsPortOrNothing text)
nothing_behind [] empty is bare = (λ _. inl refl, λ _. is)
nothing_behind (x ∷ text) empty is bare = (λ h. absurd (grind (arith, nat_tests)), of_some)
  where
    of_some : IsPortOrNothing (x ∷ text) → empty ≡ true
    of_some (inl nil) = cc
    of_some (inr (port, digits, starts)) = absurd (bare port starts)
