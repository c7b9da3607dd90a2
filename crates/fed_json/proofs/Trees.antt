-- A tree, level by level, and its parts.
use Rattle.std.proofs.Common.{◌≡◌, ℕ, ℤ, List, [], ◌∷◌, ◌++◌, Bool, String, Vec, Global, string_bytes, refl, ap, rules}
use Rattle.serde_json.specs.Data.{null, boolean, number, string, array, object, Members, no_members, member}
use Rattle.serde_json.specs.Find.{of_integer}
use Rattle.fed_json.specs.Editing.{item_after}
use Rattle.serde_json.specs.Data.{Data, item}
use Rattle.fed_json.specs.Places.{Entry, name_of}
use Rattle.fed_json.specs.Tree.{view, items_view, members_view}
use Rattle.fed_json.specs.declared.tree.Tree.{Tree, Null, «Bool» as Truth, Number, «String» as Text, Array, Object, the_lemmas}

pub view-Null : view Null ≡ null
view-Null = search (rules, the_lemmas)

pub view-Bool : (b : Bool) → view (Truth b) ≡ boolean b
view-Bool b = search (rules, the_lemmas)

pub view-Number : (n : ℤ) → view (Number n) ≡ number (of_integer n)
view-Number n = search (rules, the_lemmas)

pub view-String : (s : String Global) → view (Text s) ≡ string (string_bytes s)
view-String s = search (rules, the_lemmas)

pub view-Array : (v : Vec Tree Global) → view (Array v) ≡ array (items_view v.items)
view-Array v = search (rules, the_lemmas)

pub view-Object : (v : Vec Entry Global) → view (Object v) ≡ object (members_view v.items)
view-Object v = search (rules, the_lemmas)

pub items_view-after : (ts : List Tree) (t : Tree) → items_view (ts ++ t ∷ []) ≡ item_after (view t) (items_view ts)
items_view-after [] t = refl
items_view-after (u ∷ ts) t = ap (item (view u)) (items_view-after ts t)

-- ---- an object whose members come one after another

abbrev pub member_after : List ℕ → Data → Members → Members
member_after k d no_members = member k d no_members
member_after k d (member l e ms) = member l e (member_after k d ms)

pub members_view-after : (es : List Entry) (e : Entry) → members_view (es ++ e ∷ []) ≡ member_after (name_of e) (view e.1) (members_view es)
members_view-after [] e = refl
members_view-after (f ∷ es) e = ap (member (name_of f) (view f.1)) (members_view-after es e)

abbrev pub joined : Members → Members → Members
joined no_members ms = ms
joined (member k d found) ms = member k d (joined found ms)

pub joined-after : (found : Members) (k : List ℕ) (d : Data) (ms : Members) → joined (member_after k d found) ms ≡ joined found (member k d ms)
joined-after no_members k d ms = refl
joined-after (member l e found) k d ms = ap (member l e) (joined-after found k d ms)

pub joined-none : (found : Members) → joined found no_members ≡ found
joined-none no_members = refl
joined-none (member l e found) = ap (member l e) (joined-none found)
