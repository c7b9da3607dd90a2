-- The canonical text of a value (Matrix, appendix "Canonical JSON"): the shortest UTF-8 text, with the keys of every object in the
-- order of their code points. `IsCanonicalText` is the definition, by cases on the value; `canonical_text` is that text as a
-- function, and the law `one_text` of this crate ties the two.
use Rattle.std.specs.Prelude.{◌≡◌, ℕ, pos, negsuc, ◌+◌, List, [], ◌++◌, Bool, true, false, bytes_eq, codes, decimal, if◌then◌else◌}
use Rattle.serde_json.specs.Data.{Num, unsigned, negative, float, Data, null, boolean, number, string, array, object, Items, no_items, item, Members, no_members, member}
use Rattle.serde_json.specs.Written.{compact_text}
use Rattle.fed_json.specs.Profile.{comes_before_first}
use Rattle.fed_json.specs.Quoted.{in_quotes}

-- the digits, with no 0 before another digit; a number that is no integer has no text
abbrev pub IsNumberText : Num → List ℕ → Type 0
IsNumberText (unsigned n) s = s ≡ decimal n
IsNumberText (negative (pos n)) s = s ≡ decimal n
IsNumberText (negative (negsuc n)) s = s ≡ codes "-" ++ decimal (n + 1)
IsNumberText (float x) s = ⊥

-- before every item and member but the first
abbrev pub comma : Bool → List ℕ
comma later = if later then codes "," else []

abbrev mutual
  pub IsCanonicalText : Data → List ℕ → Type 0
  IsCanonicalText null s = s ≡ codes "null"
  IsCanonicalText (boolean true) s = s ≡ codes "true"
  IsCanonicalText (boolean false) s = s ≡ codes "false"
  IsCanonicalText (number n) s = IsNumberText n s
  IsCanonicalText (string t) s = s ≡ in_quotes t
  IsCanonicalText (array ds) s = (inner : List ℕ) × AreItemTexts false ds inner × (s ≡ codes "[" ++ (inner ++ codes "]"))
  IsCanonicalText (object ms) s = (inner : List ℕ) × AreMemberTexts false ms inner × (s ≡ codes "{" ++ (inner ++ codes "}"))

  pub AreItemTexts : Bool → Items → List ℕ → Type 0
  AreItemTexts later no_items s = s ≡ []
  AreItemTexts later (item d ds) s =
      (first : List ℕ) × (rest : List ℕ) × IsCanonicalText d first × AreItemTexts true ds rest × (s ≡ comma later ++ (first ++ rest))

  -- keys rise strictly
  pub AreMemberTexts : Bool → Members → List ℕ → Type 0
  AreMemberTexts later no_members s = s ≡ []
  AreMemberTexts later (member k d ms) s =
      (value : List ℕ) × (rest : List ℕ) × IsCanonicalText d value × AreMemberTexts true ms rest × (comes_before_first k ms ≡ true)
      × (s ≡ comma later ++ (in_quotes k ++ (codes ":" ++ (value ++ rest))))

-- the text as a function: what `serde_json` writes with no white space
abbrev pub canonical_text : Data → List ℕ
canonical_text = compact_text

-- the values have one text; so values of the profile are one value (the law `one_value`)
abbrev pub have_one_text : Data → Data → Bool
have_one_text d e = bytes_eq (canonical_text d) (canonical_text e)
