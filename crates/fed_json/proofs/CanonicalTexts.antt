-- The relation between a value and its canonical text holds of `compact_text` and of no other text.
use Rattle.std.proofs.Common.{◌≡◌, ℕ, pos, negsuc, List, [], ◌∷◌, ◌++◌, Bool, true, false, ◌&&◌, decimal, refl, sym, ap, ◌∙◌, append_assoc, add-one}
use Rattle.std.proofs.lemmas.Bool.{and_parts}
use Rattle.serde_json.specs.Data.{Num, unsigned, negative, float, Data, null, boolean, number, string, array, object, Items, no_items, item, Members, no_members, member}
use Rattle.serde_json.specs.Written.{number_text, compact_text, items_text, members_text}
use Rattle.fed_json.specs.Profile.{is_whole, all_whole, items_whole, members_whole, comes_before_first, keys_rise, items_rise, members_rise}
use Rattle.std.specs.Str.{is_utf8}
use Rattle.fed_json.specs.Quoted.{in_quotes}
use Rattle.fed_json.proofs.Quoting.{in_quotes-quoted}
use Rattle.fed_json.specs.CanonicalText.{IsNumberText, comma, IsCanonicalText, AreItemTexts, AreMemberTexts}

-- what stands between the brackets
abbrev inner_items : Bool → Items → List ℕ
inner_items later no_items = []
inner_items later (item d ds) = comma later ++ (compact_text d ++ inner_items true ds)

abbrev inner_members : Bool → Members → List ℕ
inner_members later no_members = []
inner_members later (member k d ms) = comma later ++ (in_quotes k ++ 58 ∷ (compact_text d ++ inner_members true ms))

number_has : (n : Num) → is_whole n ≡ true → IsNumberText n (number_text n)
number_has (unsigned n) h = refl
number_has (negative (pos n)) h = absurd (cc)
number_has (negative (negsuc n)) h = ap (λ m. 45 ∷ decimal m) (sym (add-one n))
number_has (float x) h = absurd (cc)

number_only : (n : Num) (s : List ℕ) → IsNumberText n s → s ≡ number_text n
number_only (unsigned n) s h = h
number_only (negative (pos n)) s h = h
number_only (negative (negsuc n)) s h = h ∙ ap (λ m. 45 ∷ decimal m) (add-one n)
number_only (float x) s h = absurd h

regroup_item : (c a r e : List ℕ) → (c ++ (a ++ r)) ++ e ≡ c ++ (a ++ (r ++ e))
regroup_item c a r e = simp append_assoc

regroup_member : (c q a r e : List ℕ) → (c ++ (q ++ 58 ∷ (a ++ r))) ++ e ≡ c ++ (q ++ 58 ∷ (a ++ (r ++ e)))
regroup_member c q a r e = append_assoc c _ e ∙ ap (λ s. c ++ s) (append_assoc q _ e ∙ ap (λ s. q ++ 58 ∷ s) (append_assoc a r e))

-- ---- no other text

mutual
  pub text_only : (d : Data) (s : List ℕ) → IsCanonicalText d s → s ≡ compact_text d
  text_only null s h = h
  text_only (boolean true) s h = h
  text_only (boolean false) s h = h
  text_only (number n) s h = number_only n s h
  text_only (string t) s h = h ∙ in_quotes-quoted t
  text_only (array ds) s h = h.2 ∙ ap (λ x. 91 ∷ x) (items_only false ds h.0 h.1)
  text_only (object ms) s h = h.2 ∙ ap (λ x. 123 ∷ x) (members_only false ms h.0 h.1)

  items_only : (later : Bool) (ds : Items) (s : List ℕ) → AreItemTexts later ds s → s ++ 93 ∷ [] ≡ items_text later ds
  items_only later no_items s h = ap (λ x. x ++ 93 ∷ []) h
  items_only later (item d ds) s h =
      let first = text_only d h.0 h.2 in
      let rest = items_only true ds h.1 h.3 in
      ap (λ x. x ++ 93 ∷ []) h.4 ∙ regroup_item (comma later) h.0 h.1 (93 ∷ []) ∙ rw (first, rest)

  members_only : (later : Bool) (ms : Members) (s : List ℕ) → AreMemberTexts later ms s → s ++ 125 ∷ [] ≡ members_text later ms
  members_only later no_members s h = ap (λ x. x ++ 125 ∷ []) h
  members_only later (member k d ms) s h =
      let value = text_only d h.0 h.2 in
      let rest = members_only true ms h.1 h.3 in
      ap (λ x. x ++ 125 ∷ []) h.5 ∙ regroup_member (comma later) (in_quotes k) h.0 h.1 (125 ∷ []) ∙ ap (λ q. comma later ++ (q ++ 58 ∷ (h.0 ++ (h.1 ++ 125 ∷ [])))) (in_quotes-quoted k)
      ∙ rw (value, rest)

-- ---- this one

mutual
  pub text_has : (d : Data) → all_whole d ≡ true → keys_rise d ≡ true → IsCanonicalText d (compact_text d)
  text_has null w r = refl
  text_has (boolean true) w r = refl
  text_has (boolean false) w r = refl
  text_has (number n) w r = number_has n w
  text_has (string t) w r = sym (in_quotes-quoted t)
  text_has (array ds) w r =
      let inner = items_have false ds w r in
      (inner_items false ds, inner, ap (λ x. 91 ∷ x) (sym (items_only false ds _ inner)))
  text_has (object ms) w r =
      let inner = members_have false ms w r in
      (inner_members false ms, inner, ap (λ x. 123 ∷ x) (sym (members_only false ms _ inner)))

  items_have : (later : Bool) (ds : Items) → items_whole ds ≡ true → items_rise ds ≡ true → AreItemTexts later ds (inner_items later ds)
  items_have later no_items w r = refl
  items_have later (item d ds) w r =
      let ws = and_parts (all_whole d) _ w in
      let rs = and_parts (keys_rise d) _ r in
      (compact_text d, inner_items true ds, text_has d ws.0 rs.0, items_have true ds ws.1 rs.1, refl)

  members_have : (later : Bool) (ms : Members) → members_whole ms ≡ true → members_rise ms ≡ true → AreMemberTexts later ms (inner_members later ms)
  members_have later no_members w r = refl
  members_have later (member k d ms) w r =
      let ws = and_parts (all_whole d) _ w in
      let parts = and_parts (is_utf8 k && comes_before_first k ms) _ r in
      let before = and_parts (is_utf8 k) _ parts.0 in
      let rs = and_parts (keys_rise d) _ parts.1 in
      (compact_text d, inner_members true ms, text_has d ws.0 rs.0, members_have true ms ws.1 rs.1, before.1, refl)
