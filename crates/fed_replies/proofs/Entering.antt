-- What was entered of verdicts, and why verdicts can't be entered.
use Rattle.std.proofs.Common.{◌≡◌, ℕ, ◌<◌, ◌≤◌, List, [], ◌∷◌, ◌++◌, length, take, get_or, Bool, true, false, cond, Option, Some, None, append-nil, refl, sym, ap, subst, ◌∙◌, arith}
use Rattle.std.specs.Str.{bytes_eq}
use Rattle.std.specs.List.{All, list_any}
use Rattle.std.proofs.lemmas.List.{append_assoc, length-append, take_at}
use Rattle.std.proofs.lemmas.List.Elements.{All-nil, All-cons, All-head, All-tail, All-append}
use Rattle.fed_replies.specs.HashId.{IsIdOf, IsHashId}
use Rattle.fed_replies.specs.Marks.{large_for, mark_for}
use Rattle.fed_replies.specs.Texts.{Texts, with_text}
use Rattle.fed_replies.specs.TextTable.{IsNumberFor}
use Rattle.fed_replies.specs.PackedReply.{Verdict, with_error, with_errors, AreFit}
use Rattle.fed_replies.specs.Pieces.{Content, cut, mark_of, AreNumbered, AreEntered, HasText, IsEntry, IsFailedEntry, verdict_by, verdicts_of, with_accepted, with_failed}
use Rattle.fed_replies.proofs.MarkNumbers.{told, none_left, has_own}
use Rattle.fed_replies.proofs.Events.{numbered-append, numbered-more, verdicts-append, verdicts-more}

-- the list goes on so
abbrev pub Begins : {X : Type 0} → List X → List X → Type 0
Begins {X} xs ys = (more : List X) × (ys ≡ xs ++ more)

pub Begins-then : {X : Type 0} (xs ys zs : List X) → Begins xs ys → Begins ys zs → Begins xs zs
Begins-then xs ys zs (more, e) (others, f) = (more ++ others, f ∙ ap (λ l. l ++ others) e ∙ append_assoc xs more others)

pub longer : {X : Type 0} (xs ys : List X) → Begins xs ys → length xs ≤ length ys
longer xs ys (more, e) = omega (arith, ap length e, length-append xs more)

front : {X : Type 0} (xs ys more : List X) → ys ≡ xs ++ more → take (length xs) ys ≡ xs
front xs ys more e = ap (take (length xs)) e ∙ take_at xs more (length xs) refl

-- ---- the texts

with_error-begins : (texts : Texts) (error : Option (List ℕ)) → Begins texts (with_error texts error)
with_error-begins texts None = ([], sym (append-nil texts))
with_error-begins texts (Some text) = by (list_any (bytes_eq text) texts)
  where
    by : (b : Bool) → Begins texts (cond b texts (texts ++ text ∷ []))
    by true = ([], sym (append-nil texts))
    by false = (text ∷ [], refl)

pub with_errors-begins : (texts : Texts) (vs : List Verdict) → Begins texts (with_errors texts vs)
with_errors-begins texts [] = ([], sym (append-nil texts))
with_errors-begins texts (v ∷ vs) = Begins-then texts (with_error texts v.1) (with_errors (with_error texts v.1) vs) (with_error-begins texts v.1) (with_errors-begins (with_error texts v.1) vs)

with_errors-append : (texts : Texts) (vs ws : List Verdict) → with_errors texts (vs ++ ws) ≡ with_errors (with_errors texts vs) ws
with_errors-append texts [] ws = refl
with_errors-append texts (v ∷ vs) ws = with_errors-append (with_error texts v.1) vs ws

abbrev pub HasHashId : Verdict → Type 0
HasHashId v = IsHashId v.0

-- ---- one verdict

pub entered-none : (c : Content) → AreEntered c [] c
entered-none c = record {
  events = [];
  numbers = [];
  events_are = sym (append-nil c.events);
  numbers_are = sym (append-nil c.numbers);
  texts_are = refl;
  verdicts_are = refl;
  numbered = refl;
  ids = All-nil HasHashId;
}

pub entered-accepted : (c : Content) (hash id : List ℕ) → IsIdOf hash id → AreEntered c ((id, None) ∷ []) (with_accepted c hash)
entered-accepted c hash id h = record {
  events = record { hash = hash; mark = 0 } ∷ [];
  numbers = [];
  events_are = refl;
  numbers_are = sym (append-nil c.numbers);
  texts_are = refl;
  verdicts_are = ap (λ (i : List ℕ). (i, None) ∷ []) (sym h.encoded);
  numbered = (record { large = λ e. absurd (omega arith); text = tt }, refl);
  ids = All-cons HasHashId (id, None) [] (hash, h) (All-nil HasHashId);
}

pub entered-failed : (c : Content) (hash id text : List ℕ) (number : ℕ) (texts : Texts) → IsIdOf hash id → IsNumberFor c.texts text (Some number) texts
    → AreEntered c ((id, Some text) ∷ []) (with_failed c hash number texts)
entered-failed c hash id text number texts h n =
    record {
      events = record { hash = hash; mark = mark_for (Some number) } ∷ [];
      numbers = large_for (Some number);
      events_are = refl;
      numbers_are = refl;
      texts_are = n.0;
      verdicts_are = ap (λ o. verdict_by texts hash o ∷ []) (told number)
          ∙ ap (λ (i : List ℕ). (i, Some (get_or texts number [])) ∷ []) (sym h.encoded) ∙ ap (λ (t : List ℕ). (id, Some t) ∷ []) n.1.1;
      numbered = (record { large = has_own number; text = subst (HasText texts) (sym (told number)) n.1.0 }, none_left number);
      ids = All-cons HasHashId (id, Some text) [] (hash, h) (All-nil HasHashId);
    }

-- ---- what comes of one verdict

pub no_entry : (c : Content) (id : List ℕ) (error : Option (List ℕ)) → ¬ IsHashId id → IsEntry c ((id, error) ∷ []) false c
no_entry c id error not = (refl, λ fit. not (All-head HasHashId (id, error) [] fit.ids))

pub accepted_entry : (c d : Content) (hash id : List ℕ) (error : Option (List ℕ)) → IsIdOf hash id → error ≡ None → d ≡ with_accepted c hash → AreEntered c ((id, error) ∷ []) d
accepted_entry c d hash id error h e is = subst (λ (o : Option (List ℕ)). AreEntered c ((id, o) ∷ []) d) (sym e) (subst (AreEntered c ((id, None) ∷ [])) (sym is) (entered-accepted c hash id h))

failed_by : (c : Content) (hash id text : List ℕ) → IsIdOf hash id → (all : Bool) (d : Content) → IsFailedEntry c hash text all d → IsEntry c ((id, Some text) ∷ []) all d
failed_by c hash id text h true d e = subst (AreEntered c ((id, Some text) ∷ [])) (sym e.3) (entered-failed c hash id text e.0 e.1 h e.2)
failed_by c hash id text h false d e = (e.0, λ fit. let above : 65535 < length (with_text c.texts text) = e.1.1 in let few : length (with_text c.texts text) ≤ 65535 = fit.few in absurd (omega arith))

pub failed_entry : (c d : Content) (hash id text : List ℕ) (error : Option (List ℕ)) (all : Bool) → IsIdOf hash id → error ≡ Some text → IsFailedEntry c hash text all d → IsEntry c ((id, error) ∷ []) all d
failed_entry c d hash id text error all h e is = subst (λ (o : Option (List ℕ)). IsEntry c ((id, o) ∷ []) all d) (sym e) (failed_by c hash id text h all d is)

-- ---- one after another

pub entered-then : (c d e : Content) (vs ws : List Verdict) → AreEntered c vs d → AreEntered d ws e → AreEntered c (vs ++ ws) e
entered-then c d e vs ws h k =
    let texts = with_errors-begins d.texts ws in
    let grown : e.texts ≡ d.texts ++ texts.0 = k.texts_are ∙ texts.1 in
    let size : length d.texts ≤ length e.texts = longer d.texts e.texts (texts.0, grown) in
    let numbered : AreNumbered e.texts h.events h.numbers = numbered-more d.texts e.texts h.events h.numbers size h.numbered in
    let stays : verdicts_of e.texts h.events h.numbers ≡ vs = ap (λ ts. verdicts_of ts h.events h.numbers) grown ∙ verdicts-more d.texts texts.0 h.events h.numbers h.numbered ∙ h.verdicts_are in
    record {
      events = h.events ++ k.events;
      numbers = h.numbers ++ k.numbers;
      events_are = k.events_are ∙ ap (λ l. l ++ k.events) h.events_are ∙ append_assoc c.events h.events k.events;
      numbers_are = k.numbers_are ∙ ap (λ l. l ++ k.numbers) h.numbers_are ∙ append_assoc c.numbers h.numbers k.numbers;
      texts_are = k.texts_are ∙ ap (λ ts. with_errors ts ws) h.texts_are ∙ sym (with_errors-append c.texts vs ws);
      verdicts_are = verdicts-append e.texts h.events k.events h.numbers k.numbers numbered ∙ ap (λ us. us ++ verdicts_of e.texts k.events k.numbers) stays ∙ ap (λ us. vs ++ us) k.verdicts_are;
      numbered = numbered-append e.texts h.events k.events h.numbers k.numbers numbered k.numbered;
      ids = All-append HasHashId vs ws h.ids k.ids;
    }

-- what lies behind the mark can be taken away
pub cut-entered : (c d : Content) (vs : List Verdict) → AreEntered c vs d → cut d (mark_of c) ≡ c
cut-entered c d vs h =
    let texts = with_errors-begins c.texts vs in
    let events = front c.events d.events h.events h.events_are in
    let numbers = front c.numbers d.numbers h.numbers h.numbers_are in
    let named = front c.texts d.texts texts.0 (h.texts_are ∙ texts.1) in
    λ i. record { events = events i; numbers = numbers i; texts = named i }

pub fit-entered : (c d : Content) (vs : List Verdict) → AreEntered c vs d → length d.texts ≤ 65535 → AreFit c.texts vs
fit-entered c d vs h few = record { ids = h.ids; few = let same = ap length h.texts_are in omega arith }

-- a verdict that can't be entered behind others is not fit among them
pub not_fit-among : (c d : Content) (vs : List Verdict) (v : Verdict) (ws : List Verdict) → AreEntered c vs d → (AreFit d.texts (v ∷ []) → ⊥) → AreFit c.texts (vs ++ v ∷ ws) → ⊥
not_fit-among c d vs v ws h not fit =
    let one = with_error d.texts v.1 in
    let same : with_errors c.texts (vs ++ v ∷ ws) ≡ with_errors one ws = with_errors-append c.texts vs (v ∷ ws) ∙ ap (λ ts. with_errors ts (v ∷ ws)) (sym h.texts_are) in
    let more = longer one (with_errors one ws) (with_errors-begins one ws) in
    let size = ap length same in
    let all : length (with_errors c.texts (vs ++ v ∷ ws)) ≤ 65535 = fit.few in
    let few : length (with_error d.texts v.1) ≤ 65535 = omega arith in
    not (record { ids = All-cons HasHashId v [] (own vs fit.ids) (All-nil HasHashId); few = few })
  where
    own : (us : List Verdict) → All HasHashId (us ++ v ∷ ws) → HasHashId v
    own [] all = All-head HasHashId v ws all
    own (u ∷ us) all = own us (All-tail HasHashId u (us ++ v ∷ ws) all)
