-- Changes of maps from texts, seen as finite maps.
use Rattle.std.proofs.Common.{◌≡◌, ℕ, List, Bool, true, false, cond, nat_cmp, Option, Some, None, option_map, string_bytes, String, refl, sym, ap, ◌∙◌}
use Rattle.std.specs.declared.alloc.Global.{Global}
use Rattle.std.specs.FinMap as finite
use Rattle.std.specs.FinMap.{IsAntisymmetric, slice_cmp-IsAntisymmetric, nat_cmp-IsAntisymmetric}
use Rattle.std.specs.BTreeMap.{BTreeMap, IsOrdered, UpdatesBy, get_by_text}
use Rattle.std.specs.Str.{bytes_eq}
use Rattle.std.specs.String.{string_cmp}
use Rattle.std.specs.Ordering.{eq_by_cmp}
use Rattle.std.specs.Cmp.Lexicographic.{slice_cmp, nat_list_cmp_total}
use Rattle.std.specs.Cmp.{eq_by_cmp_equiv}
use Rattle.std.proofs.lemmas.Map.Text.{is_eq-slice_cmp, btree_map_updates_text}
use Rattle.fed_json.specs.TextMap.{text_map}
use Rattle.fed_json.proofs.TextMaps.{get-text_map}

pub text_order_same : IsAntisymmetric (slice_cmp nat_cmp)
text_order_same = slice_cmp-IsAntisymmetric nat_cmp-IsAntisymmetric

pub same_test : (bs cs : List ℕ) → bytes_eq bs cs ≡ eq_by_cmp (slice_cmp nat_cmp) cs bs
same_test bs cs = sym (is_eq-slice_cmp bs cs) ∙ (eq_by_cmp_equiv nat_list_cmp_total).symm bs cs

chosen : {V X : Type 0} (seen : V → X) (b : Bool) (w : V) (o : Option V) → option_map seen (cond b (Some w) o) ≡ cond b (Some (seen w)) (option_map seen o)
chosen seen b w o = elim b as (λ b. option_map seen (cond b (Some w) o) ≡ cond b (Some (seen w)) (option_map seen o)) [ true ↦ refl | false ↦ refl ]

-- a value that is written at a text
pub text_map-updates : {V X : Type 0} (seen : V → X) (m n : BTreeMap (String Global) V) (bs : List ℕ) (w : V) → IsOrdered string_cmp m → IsOrdered string_cmp n
    → UpdatesBy string_cmp (λ k. slice_cmp nat_cmp bs (string_bytes k)) m n (Some w)
    → text_map seen n.entries ≡ finite.insert (text_map seen m.entries) bs (seen w)
text_map-updates seen m n bs w old new updates =
    finite.same_map nat_list_cmp_total text_order_same _ _ (λ q.
    get-text_map seen n.entries new q ∙ ap (option_map seen) (btree_map_updates_text bs m n (Some w) updates q)
    ∙ chosen seen (bytes_eq bs q) w (get_by_text m q)
    ∙ ap (λ (b : Bool). cond b (Some (seen w)) (option_map seen (get_by_text m q))) (same_test bs q)
    ∙ ap (cond (eq_by_cmp (slice_cmp nat_cmp) q bs) (Some (seen w))) (sym (get-text_map seen m.entries old q))
    ∙ sym (finite.get-insert nat_list_cmp_total (text_map seen m.entries) bs (seen w) q))

removed : {V X : Type 0} (seen : V → X) (b : Bool) (o : Option V) → option_map seen (cond b None o) ≡ cond b None (option_map seen o)
removed seen true o = refl
removed seen false o = refl

-- an entry that is removed
pub text_map-removes : {V X : Type 0} (seen : V → X) (m n : BTreeMap (String Global) V) (bs : List ℕ) → IsOrdered string_cmp m → IsOrdered string_cmp n
    → UpdatesBy string_cmp (λ k. slice_cmp nat_cmp bs (string_bytes k)) m n None
    → text_map seen n.entries ≡ finite.remove (text_map seen m.entries) bs
text_map-removes seen m n bs old new updates =
    finite.same_map nat_list_cmp_total text_order_same _ _ (λ q.
    get-text_map seen n.entries new q ∙ ap (option_map seen) (btree_map_updates_text bs m n None updates q)
    ∙ removed seen (bytes_eq bs q) (get_by_text m q)
    ∙ ap (λ (b : Bool). cond b None (option_map seen (get_by_text m q))) (same_test bs q)
    ∙ ap (cond (eq_by_cmp (slice_cmp nat_cmp) q bs) None) (sym (get-text_map seen m.entries old q))
    ∙ sym (finite.get-remove nat_list_cmp_total (text_map seen m.entries) bs q))

-- what is looked up in a map whose values are seen as they are
pub text_map-at : {V : Type 0} (m : BTreeMap (String Global) V) (k : List ℕ) (o : Option V) → IsOrdered string_cmp m → o ≡ get_by_text m k → finite.get (text_map (λ (v : V). v) m.entries) k ≡ o
text_map-at {V} m k o h e = get-text_map (λ (v : V). v) m.entries h k ∙ unchanged _ ∙ sym e
  where
    unchanged : (o : Option V) → option_map (λ v. v) o ≡ o
    unchanged None = refl
    unchanged (Some x) = refl
