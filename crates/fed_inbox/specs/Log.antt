-- What was taken from one origin, in order, and the reply kept for each of its transactions, by id.
use Rattle.std.specs.Prelude.{ℕ, List, map, refl}
use Rattle.std.specs.Ordering.{nat_cmp}
use Rattle.std.specs.Cmp.Lexicographic.{slice_cmp}
use Rattle.std.specs.List.Sorted.{IsStrictlySortedBy}
use Rattle.std.specs.Coded.{Coded, code_by, coded×, coded_ℕ, coded_list}
use Rattle.fed_json.specs.TextMap.{TextMap, text_map_code}
use Rattle.fed_replies.specs.Kept.{KeptReplies, replies_of}

pub record LogState : Type 0 where
  pub origin : List ℕ
  pub replies : TextMap (List ℕ)
  pub pdus : List (List ℕ)
  pub edus : List (List ℕ)

abbrev pub texts_code : Coded (List (List ℕ))
texts_code = coded_list (coded_list coded_ℕ)

abbrev pub log_code : Coded LogState
log_code =
    code_by (List ℕ × (TextMap (List ℕ) × (List (List ℕ) × List (List ℕ))))
    (coded× (coded_list coded_ℕ) (coded× (text_map_code (coded_list coded_ℕ)) (coded× texts_code texts_code)))
    (λ l. (l.origin, (l.replies, (l.pdus, l.edus))))
    (λ p. record { origin = p.0; replies = p.1.0; pdus = p.1.1.0; edus = p.1.1.1 })
    (λ _. refl)

-- what was taken, without the replies
pub record TakenFrom : Type 0 where
  pub origin : List ℕ
  pub pdus : List (List ℕ)
  pub edus : List (List ℕ)

abbrev pub taken_from_code : Coded TakenFrom
taken_from_code =
    code_by (List ℕ × (List (List ℕ) × List (List ℕ)))
    (coded× (coded_list coded_ℕ) (coded× texts_code texts_code))
    (λ t. (t.origin, (t.pdus, t.edus)))
    (λ p. record { origin = p.0; pdus = p.1.0; edus = p.1.1 })
    (λ _. refl)

-- with the replies that are kept for its origin
abbrev pub with_replies : KeptReplies → TakenFrom → LogState
with_replies kept t = record { origin = t.origin; replies = replies_of kept t.origin; pdus = t.pdus; edus = t.edus }

abbrev pub origin_of : TakenFrom → List ℕ
origin_of t = t.origin

-- in the order of the bytes of their origins, one for each
abbrev pub AreByOrigin : List TakenFrom → Type 0
AreByOrigin logs = IsStrictlySortedBy (slice_cmp nat_cmp) (map origin_of logs)
