-- What the text of an Authorization field says.
use Rattle.std.proofs.Common.{◌≡◌, ℕ, ◌==◌, List, [], ◌∷◌, ◌++◌, codes, Option, Some, None, option_map, refl, sym, ap, subst, ◌∙◌, arith}
use Rattle.std.proofs.lemmas.Bool.Decides.{nat_tests}
use Rattle.std.specs.Option.{option_to_list}
use Rattle.fed_http.specs.declared.x_matrix.parameter.Raw.{Raw}
use Rattle.fed_http.specs.declared.x_matrix.named_values.NamedValues.{NamedValues}
use Rattle.fed_http.specs.XMatrix.{XMatrixValue, is_white, Parameter, AreParameters, values_under, IsSignatureText, Says, IsXMatrix}
use Rattle.fed_http.specs.XMatrixParts.{BeginsWithout, Holds, StartsWithScheme, slot_values, value_of}
use Rattle.fed_http.proofs.Runs.{run_unique, first_at}
use Rattle.fed_http.proofs.ParameterLists.{scheme_lacks, parameters_begin, parameters_unique}
use Rattle.fed_http.proofs.Signatures.{signature_in, signature_in-text}

pub without_scheme : (text : List ℕ) → ((rest : List ℕ) → StartsWithScheme rest text → ⊥) → (h : XMatrixValue) → IsXMatrix text h → ⊥
without_scheme text none h (scheme, spaces, list, ps, is, are, parameters, says, e) =
    none list (record { scheme = scheme; spaces = spaces; scheme_is = is; spaces_are = are; text_is = e })

no_space : (text : List ℕ) → BeginsWithout is_white text → BeginsWithout (λ c. c == 32) text
no_space [] h = tt
no_space (c ∷ text) h = grind (arith, nat_tests)

-- the parameters behind the scheme say it
pub record Listed (list : List ℕ) (h : XMatrixValue) : Type 0 where
  pub parameters : List Parameter
  pub are : AreParameters parameters list
  pub says : Says parameters h

pub listed : (text list : List ℕ) (h : XMatrixValue) → StartsWithScheme list text → BeginsWithout (λ c. c == 32) list → IsXMatrix text h → Listed list h
listed text list h s stops (scheme, spaces, other, ps, is, are, parameters, says, e) =
    let behind = first_at 32 s.scheme (s.spaces ++ list) scheme (spaces ++ other) (scheme_lacks s.scheme s.scheme_is) (scheme_lacks scheme is) (sym s.text_is ∙ e) in
    let same = run_unique (λ c. c == 32) s.spaces spaces list other s.spaces_are are stops (no_space other (parameters_begin ps other parameters)) behind.1 in
    record { parameters = ps; are = subst (AreParameters ps) (sym same.1) parameters; says = says }

pub says_so : (ps : List Parameter) (text list : List ℕ) (h : XMatrixValue) → StartsWithScheme list text → BeginsWithout (λ c. c == 32) list → AreParameters ps list → IsXMatrix text h → Says ps h
says_so ps text list h s stops are is =
    let l = listed text list h s stops is in
    subst (λ qs. Says qs h) (parameters_unique l.parameters ps list l.are are) l.says

-- where something was not found
pub empty_slot : (slot : Option Raw) (values : List (List ℕ)) (value : List ℕ) → values ≡ slot_values slot → slot ≡ None → values ≡ value ∷ [] → ⊥
empty_slot slot values value holds none says = absurd (cc (sym (ap slot_values none) ∙ sym holds ∙ says))

pub signature_slot : (slot : Option Raw) (raw : Raw) (values : List (List ℕ)) (h : XMatrixValue) → values ≡ slot_values slot → slot ≡ Some raw
    → ((text : List ℕ) × (values ≡ text ∷ []) × IsSignatureText h.signature text) → IsSignatureText h.signature (value_of raw)
signature_slot slot raw values h holds some (text, says, is) =
    let whole : text ∷ [] ≡ value_of raw ∷ [] = sym says ∙ holds ∙ ap slot_values some in
    let same : text ≡ value_of raw = cc whole in
    subst (IsSignatureText h.signature) same is

slot_list : (slot : Option Raw) → slot_values slot ≡ option_to_list (option_map value_of slot)
slot_list None = refl
slot_list (Some raw) = refl

pub header_of : (ps : List Parameter) (text list : List ℕ) (found : NamedValues) (origin key signed : Raw) (signature : List ℕ) → StartsWithScheme list text → AreParameters ps list → Holds ps found
    → found.origin ≡ Some origin → found.key ≡ Some key → found.signature ≡ Some signed → IsSignatureText signature (value_of signed)
    → IsXMatrix text (record { origin = value_of origin; destination = option_map value_of found.destination; key = value_of key; signature = signature })
header_of ps text list found origin key signed signature s are holds o k g is = (
  s.scheme,
  s.spaces,
  list,
  ps,
  s.scheme_is,
  s.spaces_are,
  are,
  record {
    origin = holds.origin ∙ ap slot_values o;
    destination = holds.destination ∙ slot_list found.destination;
    key = holds.key ∙ ap slot_values k;
    signature = (value_of signed, holds.signature ∙ ap slot_values g, is);
  },
  s.text_is,
)

-- ---- one text, one header

same_option : (a b : Option (List ℕ)) → option_to_list a ≡ option_to_list b → a ≡ b
same_option None None e = refl
same_option None (Some y) e = absurd (cc)
same_option (Some x) None e = absurd (cc)
same_option (Some x) (Some y) e = cc

same_signature : (values : List (List ℕ)) (a b : List ℕ) → ((text : List ℕ) × (values ≡ text ∷ []) × IsSignatureText a text) → ((text : List ℕ) × (values ≡ text ∷ []) × IsSignatureText b text) → a ≡ b
same_signature values a b (text, says, is) (other, also, has) =
    let whole : text ∷ [] ≡ other ∷ [] = sym says ∙ also in
    let same : text ≡ other = cc whole in
    let found : Some a ≡ Some b = sym (signature_in-text a text is) ∙ ap signature_in same ∙ signature_in-text b other has in
    cc found

same_fields : (h g : XMatrixValue) → h.origin ≡ g.origin → h.destination ≡ g.destination → h.key ≡ g.key → h.signature ≡ g.signature → h ≡ g
same_fields h g origin destination key signature =
    ap (λ o. record { origin = o; destination = h.destination; key = h.key; signature = h.signature }) origin
    ∙ ap (λ d. record { origin = g.origin; destination = d; key = h.key; signature = h.signature }) destination
    ∙ ap (λ k. record { origin = g.origin; destination = g.destination; key = k; signature = h.signature }) key
    ∙ ap (λ s. record { origin = g.origin; destination = g.destination; key = g.key; signature = s }) signature

same_said : (ps : List Parameter) (h g : XMatrixValue) → Says ps h → Says ps g → h ≡ g
same_said ps h g a b =
    let origins : h.origin ∷ [] ≡ g.origin ∷ [] = sym a.origin ∙ b.origin in
    let keys : h.key ∷ [] ≡ g.key ∷ [] = sym a.key ∙ b.key in
    let origin : h.origin ≡ g.origin = cc origins in
    let key : h.key ≡ g.key = cc keys in
    let destination : h.destination ≡ g.destination = same_option h.destination g.destination (sym a.destination ∙ b.destination) in
    let signature : h.signature ≡ g.signature = same_signature (values_under (codes "sig") ps) h.signature g.signature a.signature b.signature in
    same_fields h g origin destination key signature

pub same_header : (text : List ℕ) (h g : XMatrixValue) → IsXMatrix text h → IsXMatrix text g → h ≡ g
same_header text h g (scheme, spaces, list, ps, is, are, parameters, says, e) other =
    let s : StartsWithScheme list text = record { scheme = scheme; spaces = spaces; scheme_is = is; spaces_are = are; text_is = e } in
    same_said ps h g says (says_so ps text list g s (no_space list (parameters_begin ps list parameters)) parameters other)
