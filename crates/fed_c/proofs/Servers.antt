-- Servers by the names of an array.
use Rattle.std.proofs.Common.{◌≡◌, ◌≢◌, ℕ, List, [], ◌∷◌, ◌++◌, map, All, Option, Some, None, option_map, Result, Ok, Err, IsErrAnd, IfOk, IfErr, Bor, refl, sym, ap, subst, ◌∙◌, append_assoc}
use Rattle.std.proofs.lemmas.List.{map-append}
use Rattle.std.proofs.lemmas.List.Elements.{All-head, All-tail}
use Rattle.serde_json.specs.Data.{Data, null, boolean, number, string, array, object, Items, no_items, item}
use Rattle.serde_json.specs.Find.{as_str}
use Rattle.serde_json.specs.View.{items_of}
use Rattle.fed_json.specs.JsonRef.{as_items, list_of}
use Rattle.fed_json.proofs.Parts.{list_of-items_of}
use Rattle.fed_dest.specs.ServerName.{IsServerName}
use Rattle.fed_c.specs.declared.status.Status.{Status}
use Rattle.fed_c.specs.declared.status.Status.TheVariants.{Memory, BadServers}
use Rattle.fed_c.specs.Destinations.{AreServers, servers_fault, texts_value}
use Rattle.fed_c.specs.DestinationsParts.{AreNames, HasNoNames, IsNoName}

-- ---- names among items

pub text_told : (o : Option (Bor (List ℕ))) (text : Bor (List ℕ)) (d : Option (List ℕ)) → option_map (λ (s : Bor (List ℕ)). s.now) o ≡ d → o ≡ Some text → d ≡ Some text.now
text_told o text d h is = sym h ∙ ap (option_map (λ (s : Bor (List ℕ)). s.now)) is

pub is_no_name : (value : Data) (text : List ℕ) → as_str value ≡ Some text → (IsServerName text → ⊥) → IsNoName value
is_no_name value text told none name is named =
    let same : Some text ≡ Some name = sym told ∙ ap as_str is in
    let one : text ≡ name = cc in none (subst IsServerName (sym one) named)

-- what stands behind names that were read is none
no_names : (before : List (List ℕ)) (value : Data) (rest : List Data) (names : List (List ℕ)) → IsNoName value → map string before ++ value ∷ rest ≡ map string names → All IsServerName names → ⊥
no_names [] value rest [] none e each = absurd (cc)
no_names [] value rest (name ∷ names) none e each = let is : value ≡ string name = cc in none name is (All-head IsServerName name names each)
no_names (b ∷ before) value rest [] none e each = absurd (cc)
no_names (b ∷ before) value rest (name ∷ names) none e each = let later : map string before ++ value ∷ rest ≡ map string names = cc in no_names before value rest names none later (All-tail IsServerName name names each)

pub has_no_names : (items : List Data) (before : List (List ℕ)) (value : Data) (rest : List Data) → items ≡ map string before ++ value ∷ rest → IsNoName value → HasNoNames items
has_no_names items before value rest is none names are = no_names before value rest names none (sym is ∙ are.texts) are.each

pub one_more : (before : List (List ℕ)) (name : List ℕ) (value : Data) (rest : List Data) → value ≡ string name → map string before ++ value ∷ rest ≡ map string (before ++ name ∷ []) ++ rest
one_more before name value rest is =
    ap (λ v. map string before ++ v ∷ rest) is ∙ sym (append_assoc (map string before) (string name ∷ []) rest) ∙ ap (λ ds. ds ++ rest) (sym (map-append string before (name ∷ [])))

-- a fault that is passed on
pub fault_passed : {X : Type 0} (items : List Data) (answer : Result X Status) (status : Status) → IsErrAnd answer (λ e. e ≡ status)
    → (status ≢ Memory → (status ≡ BadServers) × HasNoNames items) → IfErr answer (λ e. e ≢ Memory → (e ≡ BadServers) × HasNoNames items)
fault_passed items (Ok x) status is fault = tt
fault_passed items (Err e) status is fault = λ other. let told = fault (λ m. other (is ∙ m)) in (is ∙ told.0, told.1)

-- ---- the array of names

items_of-list_of : (items : Items) → items_of (list_of items) ≡ items
items_of-list_of no_items = refl
items_of-list_of (item d ds) = ap (item d) (items_of-list_of ds)

array_is : (value : Data) (items : List Data) (names : List (List ℕ)) → as_items value ≡ Some items → items ≡ map string names → value ≡ texts_value names
array_is null items names e is = absurd (cc)
array_is (boolean b) items names e is = absurd (cc)
array_is (number n) items names e is = absurd (cc)
array_is (string s) items names e is = absurd (cc)
array_is (array ds) items names e is =
    let same : list_of ds ≡ items = cc in
    ap array (sym (items_of-list_of ds) ∙ ap items_of (same ∙ is))
array_is (object ms) items names e is = absurd (cc)

items_are : (names : List (List ℕ)) → as_items (texts_value names) ≡ Some (map string names)
items_are names = ap Some (list_of-items_of (map string names))

texts_one : (names others : List (List ℕ)) → map string names ≡ map string others → names ≡ others
texts_one [] [] e = refl
texts_one [] (o ∷ others) e = absurd (cc)
texts_one (n ∷ names) [] e = absurd (cc)
texts_one (n ∷ names) (o ∷ others) e =
    let first : n ≡ o = cc in
    let rest : map string names ≡ map string others = cc in
    ap (λ x. x ∷ names) first ∙ ap (λ xs. o ∷ xs) (texts_one names others rest)

-- an array has one list of names
one_list : (names others : List (List ℕ)) → texts_value names ≡ texts_value others → names ≡ others
one_list names others e =
    let same : Some (map string names) ≡ Some (map string others) = sym (items_are names) ∙ ap as_items e ∙ items_are others in
    let texts : map string names ≡ map string others = cc in texts_one names others texts

pub same_servers : (value : Result Data Status) (names others : List (List ℕ)) → AreServers value names → AreServers value others → names ≡ others
same_servers value names others are also =
    let same : Ok (texts_value names) ≡ Ok (texts_value others) = sym are.listed ∙ also.listed in
    let whole : texts_value names ≡ texts_value others = cc in one_list names others whole

-- ---- the servers of a value, or why there are none

abbrev pub HasNoServers : Result Data Status → Type 0
HasNoServers value = (names : List (List ℕ)) → ¬ AreServers value names

abbrev pub IsFault : Result Data Status → Status → Type 0
IsFault value status = (servers_fault value ≡ status) × HasNoServers value

pub no_value : (value : Result Data Status) (why : Status) → value ≡ Err why → IsFault value why
no_value value why e = (ap servers_fault e, λ names are. let told : Err why ≡ Ok (texts_value names) = sym e ∙ are.listed in absurd (cc))

pub no_array : (value : Result Data Status) (json : Data) → value ≡ Ok json → as_items json ≡ None → IsFault value BadServers
no_array value json e none = (
  ap servers_fault e,
  λ names are.
      let told : Ok json ≡ Ok (texts_value names) = sym e ∙ are.listed in
      let same : json ≡ texts_value names = cc in
      let some : None ≡ Some (map string names) = sym none ∙ ap as_items same ∙ items_are names in absurd (cc),
)

pub no_names_there : (value : Result Data Status) (json : Data) (items : List Data) → value ≡ Ok json → as_items json ≡ Some items → HasNoNames items → IsFault value BadServers
no_names_there value json items e listed none = (
  ap servers_fault e,
  λ names are.
      let told : Ok json ≡ Ok (texts_value names) = sym e ∙ are.listed in
      let same : json ≡ texts_value names = cc in
      let some : Some items ≡ Some (map string names) = sym listed ∙ ap as_items same ∙ items_are names in
      let texts : items ≡ map string names = cc in
      none names (record { texts = texts; each = are.each }),
)

pub servers_there : (value : Result Data Status) (json : Data) (items : List Data) (names : List (List ℕ)) → value ≡ Ok json → as_items json ≡ Some items → AreNames items names → AreServers value names
servers_there value json items names e listed are = record { listed = e ∙ ap Ok (array_is json items names listed are.texts); each = are.each }

pub items_told : {I : Type 0} (left : I → List Data) (o : Option I) (items : I) (d : Option (List Data)) → option_map left o ≡ d → o ≡ Some items → d ≡ Some (left items)
items_told left o items d h is = sym h ∙ ap (option_map left) is

module _ {Y : Type 0} (value : Result Data Status) (json : Data) (items : List Data) (is : value ≡ Ok json) (listed : as_items json ≡ Some items) where
  pub ok_servers : (answer : Result Y Status) (names : Y → List (List ℕ)) → IfOk answer (λ y. AreNames items (names y)) → IfOk answer (λ y. AreServers value (names y))
  ok_servers (Ok y) names are = servers_there value json items (names y) is listed are
  ok_servers (Err e) names are = tt

  pub no_servers : (answer : Result Y Status) → IfErr answer (λ e. e ≢ Memory → (e ≡ BadServers) × HasNoNames items) → IfErr answer (λ e. e ≢ Memory → IsFault value e)
  no_servers (Ok y) fault = tt
  no_servers (Err e) fault = λ other. let told = fault other in let none = no_names_there value json items is listed told.1 in (none.0 ∙ sym told.0, none.1)
