-- A store of packed replies before and after one more.
use Rattle.std.proofs.Common.{◌≡◌, ℕ, ◌+◌, ◌<◌, List, [], ◌∷◌, ◌++◌, length, cond, get_or, Option, Some, None, option_map, unwrap_or, sym, ap, subst, ◌∙◌, arith}
use Rattle.std.specs.FinMap as finite
use Rattle.std.specs.List.{count_by}
use Rattle.std.proofs.lemmas.List.{map-append, length-map, length_push, get_or-map}
use Rattle.std.proofs.lemmas.List.Elements.{All-nil}
use Rattle.std.proofs.lemmas.List.Sums.{sum_by_push}
use Rattle.fed_json.specs.CanonicalText.{canonical_text}
use Rattle.fed_txn.specs.Reply.{reply_value}
use Rattle.fed_replies.specs.declared.form.Form.{Form}
use Rattle.fed_replies.specs.declared.form.Form.TheVariants.{Packed, Whole}
use Rattle.fed_replies.specs.Kept.{reply_at, with_reply}
use Rattle.fed_replies.specs.Places.{OriginPlaces, AllPlaces, place_at, with_place, replies_at}
use Rattle.fed_replies.specs.Texts.{Texts}
use Rattle.fed_replies.specs.PackedReply.{ArePacked, none, packed, whole}
use Rattle.fed_replies.specs.Pieces.{Content, ends_of, mark_of, cut, AreWithin, unpacked}
use Rattle.fed_replies.specs.Forms.{is_packed, reply_of, IsWithin, IsFormOf}
use Rattle.fed_replies.specs.PackedStore.{AreStored, replies_in, seen}
use Rattle.fed_replies.proofs.Entering.{entered-none, cut-entered}
use Rattle.fed_replies.proofs.Unpacking.{unpacked-entered, within-entered}
use Rattle.fed_replies.proofs.Growing.{Extends, extends-same, extends-entered, replies-more, all_within}
use Rattle.fed_replies.proofs.OtherValues.{order, reply_at-places, replies_at-push, placed-more}

pub none_stored : AreStored finite.empty (record { events = []; numbers = []; texts = [] }) []
none_stored = record {
  within = All-nil (IsWithin (record { events = []; numbers = []; texts = [] }));
  placed = λ origin txn place h. let gone : None ≡ Some place = sym (finite.get-empty order txn) ∙ (ap (λ (o : Option OriginPlaces). finite.get (unwrap_or o finite.empty) txn) (sym (finite.get-empty order origin)) ∙ h) in absurd (cc);
  counted = none;
}

-- the same parts
pub stored-same : (places places' : AllPlaces) (c c' : Content) (fs fs' : List Form) → places' ≡ places → c' ≡ c → fs' ≡ fs → AreStored places c fs → AreStored places' c' fs'
stored-same places places' c c' fs fs' p e f h = subst (λ q. AreStored q c' fs') (sym p) (subst (λ d. AreStored places d fs') (sym e) (subst (AreStored places c) (sym f) h))

pub seen-same : (places places' : AllPlaces) (c c' : Content) (fs fs' : List Form) → places' ≡ places → c' ≡ c → fs' ≡ fs → seen places' c' fs' ≡ seen places c fs
seen-same places places' c c' fs fs' p e f = ap (λ q. seen q c' fs') p ∙ ap (λ d. seen places d fs') e ∙ ap (seen places c) f

-- ---- the form of one more reply

pub form_extends : (c d : Content) (reply : List ℕ) (f : Form) → IsFormOf c reply f d → Extends c d
form_extends c d reply (Packed start end size) h = extends-entered c d (finite.entries h.verdicts) h.entered
form_extends c d reply (Whole bytes) h = subst (Extends c) (sym h.same) (extends-same c)

pub form_within : (c d : Content) (reply : List ℕ) (f : Form) → IsFormOf c reply f d → IsWithin d f
form_within c d reply (Packed start end size) h = subst (λ s. AreWithin d s end) (sym h.start_is) (subst (λ e. AreWithin d (ends_of c) e) (sym h.end_is) (within-entered c d h.verdicts h.entered))
form_within c d reply (Whole bytes) h = tt

pub form_reply : (c d : Content) (reply : List ℕ) (f : Form) → IsFormOf c reply f d → reply_of d f ≡ reply
form_reply c d reply (Packed start end size) h =
    ap (λ s. canonical_text (reply_value (unpacked d s end))) h.start_is ∙ ap (λ e. canonical_text (reply_value (unpacked d (ends_of c) e))) h.end_is
    ∙ ap (λ m. canonical_text (reply_value m)) (unpacked-entered c d h.verdicts h.entered) ∙ sym h.packable.canonical.written
form_reply c d reply (Whole bytes) h = h.bytes_are

-- the pieces without it
pub form_cut : (c d : Content) (reply : List ℕ) (f : Form) → IsFormOf c reply f d → cut d (mark_of c) ≡ c
form_cut c d reply (Packed start end size) h = cut-entered c d (finite.entries h.verdicts) h.entered
form_cut c d reply (Whole bytes) h = ap (λ e. cut e (mark_of c)) h.same ∙ cut-entered c c [] (entered-none c)

pub form_counted : (c d : Content) (reply : List ℕ) (f : Form) (replies : List (List ℕ)) (n : ℕ) → IsFormOf c reply f d → ArePacked replies c.texts n
    → ArePacked (replies ++ reply ∷ []) d.texts (n + cond (is_packed f) 1 0)
form_counted c d reply (Packed start end size) replies n h k = subst (λ (ts : Texts). ArePacked (replies ++ reply ∷ []) ts (n + 1)) (sym h.entered.texts_are) (packed k h.packable)
form_counted c d reply (Whole bytes) replies n h k =
    let same : n ≡ n + 0 = omega arith in
    subst (λ m. ArePacked (replies ++ reply ∷ []) d.texts m) same (subst (λ (e : Content). ArePacked (replies ++ reply ∷ []) e.texts n) (sym h.same) (whole k h.not_packable))

module _ (places : AllPlaces) (c d : Content) (fs : List Form) (f : Form) (reply : List ℕ) (h : AreStored places c fs) (form : IsFormOf c reply f d) where
  pub replies-push : replies_in d (fs ++ f ∷ []) ≡ replies_in c fs ++ reply ∷ []
  replies-push =
      map-append (reply_of d) fs (f ∷ []) ∙ ap (λ rs. rs ++ reply_of d f ∷ []) (replies-more c d (form_extends c d reply f form) fs h.within)
      ∙ ap (λ r. replies_in c fs ++ r ∷ []) (form_reply c d reply f form)

  pub stored-push : (origin txn : List ℕ) → AreStored (with_place places origin txn (length fs)) d (fs ++ f ∷ [])
  stored-push origin txn = record {
    within = all_within c d (form_extends c d reply f form) fs f h.within (form_within c d reply f form);
    placed = λ o t place e. let below = placed-more places origin txn (length fs) h.placed o t place e in let size = length_push fs f in omega arith;
    counted = subst (λ (rs : List (List ℕ)). ArePacked rs d.texts (count_by is_packed (fs ++ f ∷ []))) (sym replies-push)
        (subst (λ n. ArePacked (replies_in c fs ++ reply ∷ []) d.texts n) (sym (sum_by_push (λ g. cond (is_packed g) 1 0) fs f)) (form_counted c d reply f (replies_in c fs) (count_by is_packed fs) form h.counted));
  }

  pub kept-push : (origin txn : List ℕ) → replies_at (replies_in d (fs ++ f ∷ [])) (with_place places origin txn (length fs)) ≡ with_reply (replies_at (replies_in c fs) places) origin txn reply
  kept-push origin txn =
      let size : length (replies_in c fs) ≡ length fs = length-map fs (reply_of c) in
      ap (λ rs. replies_at rs (with_place places origin txn (length fs))) replies-push
      ∙ ap (λ n. replies_at (replies_in c fs ++ reply ∷ []) (with_place places origin txn n)) (sym size)
      ∙ replies_at-push (replies_in c fs) places (λ o t place e. let below = h.placed o t place e in omega arith) reply origin txn

-- ---- a reply that is kept

pub reply_there : (places : AllPlaces) (c : Content) (fs : List Form) (origin txn : List ℕ) (place : ℕ) (f : Form) → AreStored places c fs → place_at places origin txn ≡ Some place → f ≡ get_or fs place f
    → reply_at (replies_at (replies_in c fs) places) origin txn ≡ Some (reply_of c f)
reply_there places c fs origin txn place f h at is =
    let below : place < length fs = h.placed origin txn place at in
    reply_at-places (replies_in c fs) places origin txn ∙ ap (option_map (λ p. get_or (replies_in c fs) p [])) at
    ∙ ap Some (get_or-map (reply_of c) fs place f [] below ∙ ap (reply_of c) (sym is))

pub no_reply_there : (places : AllPlaces) (c : Content) (fs : List Form) (origin txn : List ℕ) → place_at places origin txn ≡ None → reply_at (replies_at (replies_in c fs) places) origin txn ≡ None
no_reply_there places c fs origin txn at = reply_at-places (replies_in c fs) places origin txn ∙ ap (option_map (λ p. get_or (replies_in c fs) p [])) at

pub within_there : (places : AllPlaces) (c : Content) (fs : List Form) (origin txn : List ℕ) (place : ℕ) (f : Form) → AreStored places c fs → place_at places origin txn ≡ Some place → f ≡ get_or fs place f → IsWithin c f
within_there places c fs origin txn place f h at is = subst (IsWithin c) (sym is) (h.within place f (h.placed origin txn place at))
