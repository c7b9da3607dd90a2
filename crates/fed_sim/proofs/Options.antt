-- Options that are mapped.
use Rattle.std.proofs.Common.{◌≡◌, Option, Some, None, refl, sym}
use Rattle.std.specs.Option.{option_map}
use Rattle.std.proofs.lemmas.Option.{same_Some, none-some}

pub mapped_none : {A B : Type 0} (f : A → B) (x : Option A) → None ≡ option_map f x → x ≡ None
mapped_none f None is = refl
mapped_none f (Some a) is = absurd (none-some (f a) is)

pub mapped_some : {A B : Type 0} (f : A → B) (x : Option A) (b : B) → Some b ≡ option_map f x → (a : A) × (x ≡ Some a) × (b ≡ f a)
mapped_some f None b is = absurd (none-some b (sym is))
mapped_some f (Some a) b is = (a, refl, same_Some b (f a) is)
