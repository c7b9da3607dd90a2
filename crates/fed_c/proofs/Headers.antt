-- What a call on an Authorization field answers, by what the reading of its text says.
use Rattle.std.proofs.Common.{◌≡◌, ◌≢◌, ℕ, List, [], false, Option, Some, None, option_map, unwrap_or, Bor, Result, Ok, Err, IfOk, IfErr, IsErrAnd, IsUtf8, refl, sym, ap, subst, ◌∙◌}
use Rattle.std.proofs.lemmas.Str.{is_utf8-from_IsUtf8}
use Rattle.std.specs.Str.{is_utf8}
use Rattle.fed_http.specs.XMatrix.{XMatrixValue, IsXMatrix}
use Rattle.fed_c.specs.declared.status.Status.{Status}
use Rattle.fed_c.specs.declared.status.Status.TheVariants.{Memory, NotUtf8, BadHeader}
use Rattle.fed_c.specs.Output.{Output, Gives, IsRefused}
use Rattle.fed_c.specs.Values.{text_of}
use Rattle.fed_c.specs.XMatrix.{Answers, IsMade, IsWhy, whole}

text_of_text : (header : List ℕ) → IsUtf8 header → text_of header ≡ Ok header
text_of_text header u = rw (is_utf8-from_IsUtf8 header u)

text_of_other : (header : List ℕ) → is_utf8 header ≡ false → text_of header ≡ Err NotUtf8
text_of_other header n = rw n

-- ---- what the field says

-- the field, as a reading that was made
abbrev pub IsRead : List ℕ → Result XMatrixValue Status → Type 0
IsRead header answer = Answers whole header (IsMade answer (λ said. said)) (IsWhy answer)

pub no_text_read : (header : List ℕ) (answer : Result XMatrixValue Status) (why : Status) → text_of header ≡ Err why → IsErrAnd answer (λ e. e ≡ why) → IsRead header answer
no_text_read header answer why none is = record {
  says = λ u said at. let t = text_of_text header u in absurd (cc);
  says_nothing = λ u nothing. let t = text_of_text header u in absurd (cc);
  no_text = λ n. let t = text_of_other header n in let same : why ≡ NotUtf8 = cc in subst (λ s. IsErrAnd answer (λ e. e ≡ s)) same is;
}

pub said_read : (header text : List ℕ) (said : XMatrixValue) → text_of header ≡ Ok text → IsXMatrix text said → ((h : XMatrixValue) → IsXMatrix text h → said ≡ h) → IsRead header (Ok said)
said_read header text said h is only = record {
  says = λ u other at. sym (only other (subst (λ t. IsXMatrix t other) (same u) at));
  says_nothing = λ u none. absurd (none said (subst (λ t. IsXMatrix t said) (sym (same u)) is));
  no_text = λ n. let t = text_of_other header n in absurd (cc);
}
  where
    same : IsUtf8 header → header ≡ text
    same u = let t = text_of_text header u in cc

pub bad_read : (header text : List ℕ) → text_of header ≡ Ok text → ((h : XMatrixValue) → IsXMatrix text h → ⊥) → IsRead header (Err BadHeader)
bad_read header text h none = record {
  says = λ u said is. let t = text_of_text header u in let same : header ≡ text = cc in absurd (none said (subst (λ t. IsXMatrix t said) same is));
  says_nothing = λ u nothing. refl;
  no_text = λ n. let t = text_of_other header n in absurd (cc);
}

-- a text that says nothing is told without memory
pub memory_read : (header text : List ℕ) → text_of header ≡ Ok text → (((h : XMatrixValue) → IsXMatrix text h → ⊥) → ⊥) → IsRead header (Err Memory)
memory_read header text h some = record {
  says = λ u said is. refl;
  says_nothing = λ u none. let t = text_of_text header u in let same : text ≡ header = cc in absurd (some (subst (λ t. (h : XMatrixValue) → IsXMatrix t h → ⊥) (sym same) none));
  no_text = λ n. let t = text_of_other header n in absurd (cc);
}

-- ---- one part of it

pub part_answers : (part : XMatrixValue → List ℕ) (header bytes : List ℕ) (said : XMatrixValue) → bytes ≡ part said → IsRead header (Ok said)
    → Answers part header (λ wanted. wanted ≡ bytes) (λ why. ⊥)
part_answers part header bytes said is read = record {
  says = λ u other at. ap part (read.says u other at) ∙ sym is;
  says_nothing = λ u none. read.says_nothing u none;
  no_text = λ n. read.no_text n;
}

pub part_memory : {V : Type 0} (part : XMatrixValue → List ℕ) (header : List ℕ) (said : XMatrixValue) (answer : Result V Status) (items : V → List ℕ)
    → IsErrAnd answer (λ e. e ≡ Memory) → IsRead header (Ok said) → Answers part header (IsMade answer items) (IsWhy answer)
part_memory part header said (Ok v) items is read = absurd is
part_memory part header said (Err e) items is read = record {
  says = λ u other at. is;
  says_nothing = λ u none. absurd (read.says_nothing u none);
  no_text = λ n. absurd (read.no_text n);
}

-- an answer that ends as the reading did
pub part_ends : {V : Type 0} (part : XMatrixValue → List ℕ) (header : List ℕ) (why : Status) (answer : Result V Status) (items : V → List ℕ)
    → IsErrAnd answer (λ e. e ≡ why) → IsRead header (Err why) → Answers part header (IsMade answer items) (IsWhy answer)
part_ends part header why (Ok v) items is read = absurd is
part_ends part header why (Err e) items is read = record {
  says = λ u said at. is ∙ read.says u said at;
  says_nothing = λ u none. is ∙ read.says_nothing u none;
  no_text = λ n. is ∙ read.no_text n;
}

pub named : (o : Option (Bor (List ℕ))) (name : Bor (List ℕ)) (d : Option (List ℕ)) → option_map (λ (s : Bor (List ℕ)). s.now) o ≡ d → o ≡ Some name → name.now ≡ unwrap_or d []
named o name d h is = sym (ap (λ x. unwrap_or x []) (sym h ∙ ap (option_map (λ (s : Bor (List ℕ)). s.now)) is))

pub unnamed : (o : Option (Bor (List ℕ))) (d : Option (List ℕ)) → option_map (λ (s : Bor (List ℕ)). s.now) o ≡ d → o ≡ None → unwrap_or d [] ≡ []
unnamed o d h is = ap (λ x. unwrap_or x []) (sym h ∙ ap (option_map (λ (s : Bor (List ℕ)). s.now)) is)

-- an answer that is given
pub given : {V : Type 0} (part : XMatrixValue → List ℕ) (header : List ℕ) (answer : Result V Status) (items : V → List ℕ) (status : ℕ) (o : Output)
    → ((wanted : Result (List ℕ) Status) → IfOk answer (λ v. wanted ≡ Ok (items v)) → IfErr answer (λ e. e ≢ Memory → wanted ≡ Err e) → Gives wanted status o)
    → IfErr answer (λ why. IsRefused why status o)
    → Answers part header (IsMade answer items) (IsWhy answer) → Answers part header (λ bytes. Gives (Ok bytes) status o) (λ why. IsRefused why status o)
given part header (Ok v) items status o gives refused a = record {
  says = λ u said is. gives (Ok (part said)) (ap Ok (a.says u said is)) tt;
  says_nothing = λ u none. absurd (a.says_nothing u none);
  no_text = λ n. absurd (a.no_text n);
}
given part header (Err e) items status o gives refused a = record {
  says = λ u said is. gives (Ok (part said)) tt (λ other. absurd (other (a.says u said is)));
  says_nothing = λ u none. subst (λ why. IsRefused why status o) (a.says_nothing u none) refused;
  no_text = λ n. subst (λ why. IsRefused why status o) (a.no_text n) refused;
}
