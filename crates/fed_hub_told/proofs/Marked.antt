-- What clients were told, as far as its numbers are marked.
use Rattle.std.proofs.Common.{◌≡◌, ◌↔◌, IsTrue, ℕ, Bool, true, false, List, [], ◌∷◌, ◌++◌, length, map, Some, None, refl, sym, ap, ◌∙◌}
use Rattle.std.specs.Prelude.{All, IsSomeAnd, flat_map, if◌then◌else◌}
use Rattle.std.specs.List.Sorted.{IsStrictlyIncreasing}
use Rattle.std.proofs.lemmas.Grind.{flat_map-append}
use Rattle.std.proofs.lemmas.List.{map-append, append-nil}
use Rattle.std.proofs.lemmas.List.Elements.{All-nil, All-push, All-head, All-tail}
use Rattle.fed_hub_told.specs.Numbers.{numbered}
use Rattle.fed_hub_told.specs.Marks.{no_marks, is_free, with_mark, are_all_marked, marks_after}
use Rattle.fed_hub_told.specs.AsTold.{IsClientAsTold, AreAsTold}
use Rattle.fed_hub_told.specs.Marking.{IsMarked}
use Rattle.fed_hub_told.proofs.Marking.{marks_after-append, marks_after-front, each_once_from, marked_from}

-- ---- lists

one_marked : (marks : List Bool) (x : ℕ) → is_free marks x ≡ true → marks_after marks (x ∷ []) ≡ Some (with_mark marks x)
one_marked marks x free = ap (λ b. if b then Some (with_mark marks x) else None) free

none_marked : (marks : List Bool) (x : ℕ) (xs : List ℕ) → is_free marks x ≡ false → marks_after marks (x ∷ xs) ≡ None
none_marked marks x xs taken = ap (λ b. if b then marks_after (with_mark marks x) xs else None) taken

All-behind : {X : Type 0} (P : X → Type 0) (xs : List X) (y : X) (ys : List X) → All P (xs ++ y ∷ ys) → P y
All-behind P [] y ys all = All-head P y ys all
All-behind P (x ∷ xs) y ys all = All-behind P xs y ys (All-tail P x (xs ++ y ∷ ys) all)

-- ---- one client

module _ {T X : Type 0} (number : T → ℕ) (IsOf : T → X → Type 0) (things : List X) where
  -- the first of what a client was told is as it was told, and its numbers are marked
  pub record IsFrontMarked (told : List T) (before after : List Bool) : Type 0 where
    pub same : All (λ t. IsSomeAnd (numbered things (number t)) (IsOf t)) told
    pub marks : marks_after before (map number told) ≡ Some after

  pub front_none : (before : List Bool) → IsFrontMarked [] before before
  front_none before = record { same = All-nil (λ t. IsSomeAnd (numbered things (number t)) (IsOf t)); marks = refl }

  module _ (told : List T) (t : T) (before mid : List Bool) (so_far : IsFrontMarked told before mid) where
    pub front_next : is_free mid (number t) ≡ true → IsSomeAnd (numbered things (number t)) (IsOf t) → IsFrontMarked (told ++ t ∷ []) before (with_mark mid (number t))
    front_next free is = record {
      same = All-push (λ t. IsSomeAnd (numbered things (number t)) (IsOf t)) told t so_far.same is;
      marks = ap (marks_after before) (map-append number told (t ∷ [])) ∙ marks_after-append before mid (map number told) (number t ∷ []) so_far.marks ∙ one_marked mid (number t) free;
    }

    pub front_taken : (rest : List T) (after : List Bool) → is_free mid (number t) ≡ false → ¬ IsMarked number IsOf things (told ++ t ∷ rest) before after
    front_taken rest after taken marked =
        let none : None ≡ Some after =
        sym (ap (marks_after before) (map-append number told (t ∷ rest)) ∙ marks_after-append before mid (map number told) (number t ∷ map number rest) so_far.marks
        ∙ none_marked mid (number t) (map number rest) taken) ∙ marked.marks in
        cc

    pub front_other : (rest : List T) (after : List Bool) → ¬ IsSomeAnd (numbered things (number t)) (IsOf t) → ¬ IsMarked number IsOf things (told ++ t ∷ rest) before after
    front_other rest after other marked = other (All-behind (λ t. IsSomeAnd (numbered things (number t)) (IsOf t)) told t rest marked.client.same)

  pub client_marked : (told : List T) (before after : List Bool) → IsStrictlyIncreasing (map number told) → IsFrontMarked told before after → IsMarked number IsOf things told before after
  client_marked told before after rising all = record { client = record { rising = rising; same = all.same }; marks = all.marks }

  -- ---- all clients

  -- the first clients were told what is there, and its numbers are marked
  pub record AreMarked (clients : List (List T)) (now : List Bool) : Type 0 where
    pub each : All (IsClientAsTold number IsOf things) clients
    pub marks : marks_after (no_marks (length things)) (flat_map (map number) clients) ≡ Some now

  pub marked_none : AreMarked [] (no_marks (length things))
  marked_none = record { each = All-nil (IsClientAsTold number IsOf things); marks = refl }

  module _ (clients : List (List T)) (client : List T) (mid : List Bool) (so_far : AreMarked clients mid) where
    after-split : (rest : List (List T)) → marks_after (no_marks (length things)) (flat_map (map number) (clients ++ client ∷ rest)) ≡ marks_after mid (map number client ++ flat_map (map number) rest)
    after-split rest =
        ap (marks_after (no_marks (length things))) (flat_map-append (map number) clients (client ∷ rest))
        ∙ marks_after-append (no_marks (length things)) mid (flat_map (map number) clients) (map number client ++ flat_map (map number) rest) so_far.marks

    pub marked_next : (after : List Bool) → IsMarked number IsOf things client mid after → AreMarked (clients ++ client ∷ []) after
    marked_next after marked = record {
      each = All-push (IsClientAsTold number IsOf things) clients client so_far.each marked.client;
      marks = after-split [] ∙ ap (marks_after mid) (append-nil (map number client)) ∙ marked.marks;
    }

    pub not_marked : (rest : List (List T)) → ((after : List Bool) → ¬ IsMarked number IsOf things client mid after) → ¬ AreAsTold number IsOf things (clients ++ client ∷ rest)
    not_marked rest never told =
        let all = marked_from (length things) (flat_map (map number) (clients ++ client ∷ rest)) told.once in
        let front = marks_after-front mid all.0 (map number client) (flat_map (map number) rest) (sym (after-split rest) ∙ all.1) in
        never front.0 (record { client = All-behind (IsClientAsTold number IsOf things) clients client rest told.each; marks = front.1 })

  pub all_marked : (clients : List (List T)) (marks : List Bool) → AreMarked clients marks → IsTrue (are_all_marked marks) ↔ AreAsTold number IsOf things clients
  all_marked clients marks so_far = (
    λ all. record { each = so_far.each; once = each_once_from (length things) (flat_map (map number) clients) marks so_far.marks all },
    λ told.
        let all = marked_from (length things) (flat_map (map number) clients) told.once in
        let same : all.0 ≡ marks = cc (all.1, so_far.marks) in
        ap are_all_marked (sym same) ∙ all.2,
  )
