-- The table of the steps of a script.
use Rattle.std.proofs.Common.{◌≡◌, ℕ, List, Err, codes, true, false, refl}
use Rattle.std.specs.Str.{bytes_eq}
use Rattle.std.proofs.lemmas.Slice.Eq.{bytes_eq-Decides}
use Rattle.fed_sim.specs.ScriptSteps.{step_text}
use Rattle.fed_sim.specs.declared.script.faults.ScriptError.TheVariants.{UnknownCommand}

pub apart : (a b : List ℕ) → (a ≡ b → ⊥) → bytes_eq a b ≡ false
apart a b other = elim (bytes_eq a b) as (λ t. bytes_eq a b ≡ t → t ≡ false) [ true ↦ λ e. absurd (other ((bytes_eq-Decides a b).0 e)) | false ↦ λ _. refl ] refl

-- a name that no row has
pub unknown : (name rest : List ℕ)
    → (name ≡ codes "send" → ⊥)
    → (name ≡ codes "edu" → ⊥)
    → (name ≡ codes "close" → ⊥)
    → (name ≡ codes "collect" → ⊥)
    → (name ≡ codes "cut" → ⊥)
    → (name ≡ codes "failed" → ⊥)
    → (name ≡ codes "post" → ⊥)
    → (name ≡ codes "arrive" → ⊥)
    → (name ≡ codes "answer" → ⊥)
    → (name ≡ codes "apply" → ⊥)
    → (name ≡ codes "tick" → ⊥)
    → (name ≡ codes "calm" → ⊥)
    → (name ≡ codes "show" → ⊥)
    → step_text name rest ≡ Err UnknownCommand
unfolding step_text
unknown name rest send edu close collect cut failed post arrive answer apply_ tick calm show =
    rw (apart name (codes "send") send, apart name (codes "edu") edu, apart name (codes "close") close, apart name (codes "collect") collect, apart name (codes "cut") cut, apart name (codes "failed") failed, apart name (codes "post") post, apart name (codes "arrive") arrive, apart name (codes "answer") answer, apart name (codes "apply") apply_, apart name (codes "tick") tick, apart name (codes "calm") calm, apart name (codes "show") show) refl
