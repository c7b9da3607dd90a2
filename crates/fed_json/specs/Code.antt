-- How a JSON value is stored where a contract keeps one: a tree of numbers, one to one. Nothing else is said of it.
use Rattle.std.specs.Prelude.{◌≡◌}
use Rattle.std.specs.Coded.{Coded, coded_ℕ, coded_ℤ, coded_bool, coded_list}
use base.Stored.{Gv, gnil, gcons, coded_float}
use Rattle.std.proofs.Common.{refl, ap}
use Rattle.serde_json.specs.Data.{Num, unsigned, negative, float, Data, null, boolean, number, string, array, object, Items, no_items, item, Members, no_members, member}

-- one more
abbrev next : Gv → Gv
next g = gcons gnil g

abbrev body : Gv → Gv
body (gcons a b) = b
body g = g

abbrev number_code : Num → Gv
number_code (unsigned n) = gcons gnil (coded_ℕ.code n)
number_code (negative z) = gcons (next gnil) (coded_ℤ.code z)
number_code (float x) = gcons (next (next gnil)) (coded_float.code x)

number_code_inj : (m n : Num) → number_code m ≡ number_code n → m ≡ n
number_code_inj (unsigned m) (unsigned n) p = ap unsigned (coded_ℕ.inj m n (ap body p))
number_code_inj (unsigned m) n p = absurd (cc)
number_code_inj (negative m) (negative n) p = ap negative (coded_ℤ.inj m n (ap body p))
number_code_inj (negative m) n p = absurd (cc)
number_code_inj (float x) (float y) p = ap float (coded_float.inj x y (ap body p))
number_code_inj (float x) n p = absurd (cc)

abbrev mutual
  pub data_code : Data → Gv
  data_code null = gcons gnil gnil
  data_code (boolean b) = gcons (next gnil) (coded_bool.code b)
  data_code (number n) = gcons (next (next gnil)) (number_code n)
  data_code (string s) = gcons (next (next (next gnil))) ((coded_list coded_ℕ).code s)
  data_code (array ds) = gcons (next (next (next (next gnil)))) (items_code ds)
  data_code (object ms) = gcons (next (next (next (next (next gnil))))) (members_code ms)

  items_code : Items → Gv
  items_code no_items = gnil
  items_code (item d ds) = gcons (data_code d) (items_code ds)

  members_code : Members → Gv
  members_code no_members = gnil
  members_code (member k d ms) = gcons ((coded_list coded_ℕ).code k) (gcons (data_code d) (members_code ms))

mutual
  pub data_code_inj : (d e : Data) → data_code d ≡ data_code e → d ≡ e
  data_code_inj null null p = refl
  data_code_inj null e p = absurd (cc)
  data_code_inj (boolean b) (boolean c) p = ap boolean (coded_bool.inj b c (ap body p))
  data_code_inj (boolean b) e p = absurd (cc)
  data_code_inj (number m) (number n) p = ap number (number_code_inj m n (ap body p))
  data_code_inj (number m) e p = absurd (cc)
  data_code_inj (string s) (string t) p = ap string ((coded_list coded_ℕ).inj s t (ap body p))
  data_code_inj (string s) e p = absurd (cc)
  data_code_inj (array ds) (array es) p = ap array (items_code_inj ds es (ap body p))
  data_code_inj (array ds) e p = absurd (cc)
  data_code_inj (object ms) (object ns) p = ap object (members_code_inj ms ns (ap body p))
  data_code_inj (object ms) e p = absurd (cc)

  items_code_inj : (ds es : Items) → items_code ds ≡ items_code es → ds ≡ es
  items_code_inj no_items no_items p = refl
  items_code_inj no_items (item e es) p = absurd (cc)
  items_code_inj (item d ds) no_items p = absurd (cc)
  items_code_inj (item d ds) (item e es) p =
      let first : data_code d ≡ data_code e = cc in
      let same = data_code_inj d e first in
      let rest = items_code_inj ds es (ap body p) in
      cc

  members_code_inj : (ms ns : Members) → members_code ms ≡ members_code ns → ms ≡ ns
  members_code_inj no_members no_members p = refl
  members_code_inj no_members (member l e ns) p = absurd (cc)
  members_code_inj (member k d ms) no_members p = absurd (cc)
  members_code_inj (member k d ms) (member l e ns) p =
      let key : (coded_list coded_ℕ).code k ≡ (coded_list coded_ℕ).code l = cc in
      let keys = (coded_list coded_ℕ).inj k l key in
      let first : data_code d ≡ data_code e = cc in
      let same = data_code_inj d e first in
      let rest = members_code_inj ms ns (ap body (ap body p)) in
      cc

abbrev pub coded_data : Coded Data
coded_data = record { code = data_code; inj = data_code_inj }
