-- What is made of texts one after another is what is made of all.
use Rattle.std.proofs.Common.{◌≡◌, ℕ, List, [], ◌∷◌, ◌++◌, Result, Ok, Err, refl, sym, ap, ◌∙◌, append_assoc}
use Rattle.std.proofs.lemmas.List.{append-nil}
use Rattle.serde_json.specs.Data.{Data}
use Rattle.fed_c.specs.declared.status.Status.{Status}
use Rattle.fed_c.specs.Results.{and_then}
use Rattle.fed_c.specs.Texts.{of_value}
use Rattle.fed_c.specs.Values.{value_of}
use Rattle.fed_c.specs.Several.{of_values}
use Rattle.fed_c.specs.SeveralParts.{with_values}

module _ (f : Data → List ℕ) where
  behind : (before bytes : List ℕ) (r : Result (List ℕ) Status)
      → and_then r (λ others. Ok ((before ++ bytes) ++ others)) ≡ and_then (and_then r (λ others. Ok (bytes ++ others))) (λ others. Ok (before ++ others))
  behind before bytes (Ok others) = ap Ok (append_assoc before bytes others)
  behind before bytes (Err why) = refl

  abbrev Continues : List ℕ → List (List ℕ) → Type 0
  Continues before texts = with_values f before texts ≡ and_then (of_values f texts) (λ others. Ok (before ++ others))

  one_more : (before text : List ℕ) (texts : List (List ℕ)) (r : Result (List ℕ) Status) → of_value f (value_of text) ≡ r
      → ((bytes : List ℕ) → Continues (before ++ bytes) texts) → Continues before (text ∷ texts)
  one_more before text texts (Ok bytes) e rest = rw e (rest bytes ∙ behind before bytes (of_values f texts))
  one_more before text texts (Err why) e rest = rw e refl

  continues : (before : List ℕ) (texts : List (List ℕ)) → Continues before texts
  continues before [] = ap Ok (sym (append-nil before))
  continues before (text ∷ texts) = one_more before text texts (of_value f (value_of text)) refl (λ bytes. continues (before ++ bytes) texts)

  same : (r : Result (List ℕ) Status) → and_then r (λ others. Ok ([] ++ others)) ≡ r
  same (Ok others) = refl
  same (Err why) = refl

  pub all_at_once : (texts : List (List ℕ)) → of_values f texts ≡ with_values f [] texts
  all_at_once texts = sym (continues [] texts ∙ same (of_values f texts))
