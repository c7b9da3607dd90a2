-- What is written, piece by piece.
use Rattle.std.proofs.Common.{◌≡◌, ℕ, List, ◌∷◌, ◌++◌, [], Bool, true, false, Result, Ok, Err, refl, ap, ◌∙◌, append_assoc}
use Rattle.std.specs.Prelude.{IsUtf8, OnOk, OnErr}
use Rattle.std.proofs.lemmas.Str.{IsUtf8-append}
use Rattle.json.specs.Print.{quoted}
use Rattle.json.proofs.Printed.Utf8.{IsUtf8-are_ascii, IsUtf8-quoted}
use Rattle.serde_json.specs.Data.{Data, Items, no_items, item, Members, no_members, member}
use Rattle.serde_json.specs.Written.{compact_text, comma_if, items_text, members_text}
use Rattle.fed_json.specs.Tree.{Begins}

pub on_err : {A E : Type 0} (r : Result A E) (X : Type 0) → X → OnErr r X
on_err (Ok a) X x = tt
on_err (Err e) X x = x

pub on_ok : {A E : Type 0} (r : Result A E) (X : Type 0) → X → OnOk r X
on_ok (Ok a) X x = x
on_ok (Err e) X x = tt

pub begins_later : (a b c : List ℕ) → Begins a b → Begins b c → Begins a c
begins_later a b c one two = (one.0 ++ two.0, two.1 ∙ ap (λ s. s ++ two.0) one.1 ∙ append_assoc a one.0 two.0)

-- a text behind what was there, and one behind that
pub opened : (old new rest : List ℕ) (x : ℕ) → new ≡ old ++ x ∷ [] → new ++ rest ≡ old ++ x ∷ rest
opened old new rest x is = ap (λ s. s ++ rest) is ∙ append_assoc old (x ∷ []) rest

pub item_written : (out behind new whole : List ℕ) (later : Bool) (d : Data) (ds : Items) → behind ≡ out ++ comma_if later → new ≡ behind ++ compact_text d → out ++ items_text later (item d ds) ≡ whole
    → new ++ items_text true ds ≡ whole
item_written out behind new whole later d ds one two all =
    ap (λ s. s ++ items_text true ds) (two ∙ ap (λ s. s ++ compact_text d) one) ∙ append_assoc (out ++ comma_if later) (compact_text d) _ ∙ append_assoc out (comma_if later) _ ∙ all

pub member_written : (out behind named colon new whole : List ℕ) (later : Bool) (k : List ℕ) (d : Data) (ms : Members) → behind ≡ out ++ comma_if later → named ≡ behind ++ quoted k → colon ≡ named ++ 58 ∷ []
    → new ≡ colon ++ compact_text d → out ++ members_text later (member k d ms) ≡ whole → new ++ members_text true ms ≡ whole
member_written out behind named colon new whole later k d ms one two three four all =
    ap (λ s. s ++ members_text true ms) four ∙ append_assoc colon (compact_text d) _ ∙ opened named colon _ 58 three ∙ ap (λ s. s ++ 58 ∷ (compact_text d ++ members_text true ms)) (two ∙ ap (λ s. s ++ quoted k) one)
    ∙ append_assoc (out ++ comma_if later) (quoted k) _ ∙ append_assoc out (comma_if later) _ ∙ all

-- ---- all of it is UTF-8

comma_utf8 : (later : Bool) → IsUtf8 (comma_if later)
comma_utf8 true = IsUtf8-are_ascii (44 ∷ []) refl
comma_utf8 false = IsUtf8-are_ascii [] refl

pub item_utf8 : (later : Bool) (d : Data) (ds : Items) → IsUtf8 (compact_text d) → IsUtf8 (items_text true ds) → IsUtf8 (items_text later (item d ds))
item_utf8 later d ds one rest = IsUtf8-append (comma_if later) _ (comma_utf8 later) (IsUtf8-append (compact_text d) _ one rest)

pub member_utf8 : (later : Bool) (k : List ℕ) (d : Data) (ms : Members) → IsUtf8 k → IsUtf8 (compact_text d) → IsUtf8 (members_text true ms) → IsUtf8 (members_text later (member k d ms))
member_utf8 later k d ms key one rest =
    let colon = IsUtf8-append (58 ∷ []) _ (IsUtf8-are_ascii (58 ∷ []) refl) (IsUtf8-append (compact_text d) _ one rest) in
    IsUtf8-append (comma_if later) _ (comma_utf8 later) (IsUtf8-append _ _ (IsUtf8-quoted k key) colon)

pub array_utf8 : (s : List ℕ) → IsUtf8 s → IsUtf8 (91 ∷ s)
array_utf8 s rest = IsUtf8-append (91 ∷ []) s (IsUtf8-are_ascii (91 ∷ []) refl) rest

pub object_utf8 : (s : List ℕ) → IsUtf8 s → IsUtf8 (123 ∷ s)
object_utf8 s rest = IsUtf8-append (123 ∷ []) s (IsUtf8-are_ascii (123 ∷ []) refl) rest

pub array_end : (later : Bool) → IsUtf8 (items_text later no_items)
array_end later = IsUtf8-are_ascii (93 ∷ []) refl

pub object_end : (later : Bool) → IsUtf8 (members_text later no_members)
object_end later = IsUtf8-are_ascii (125 ∷ []) refl
