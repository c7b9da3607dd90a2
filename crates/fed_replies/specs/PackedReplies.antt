-- What a store that packs replies stands for: the replies that are kept, and the list of them in the order in which they were kept.
use Rattle.std.specs.Prelude.{ℕ, List, refl}
use Rattle.std.specs.Coded.{Coded, code_by, coded×, coded_ℕ, coded_list}
use Rattle.fed_replies.specs.Kept.{KeptReplies, kept_code}

pub record PackedReplies : Type 0 where
  pub kept : KeptReplies
  pub replies : List (List ℕ)

abbrev pub packed_replies_code : Coded PackedReplies
packed_replies_code =
    code_by (KeptReplies × List (List ℕ)) (coded× kept_code (coded_list (coded_list coded_ℕ))) (λ s. (s.kept, s.replies))
    (λ p. record { kept = p.0; replies = p.1 }) (λ _. refl)
