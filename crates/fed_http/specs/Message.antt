-- What is sent over a connection (RFC 9112, section 2.1): requests and replies.
use Rattle.std.specs.Prelude.{ℕ, List, refl}
use Rattle.std.specs.Coded.{Coded, code_by, coded×, coded_ℕ, coded_list}

-- a request: its method, its target, the names and values of its fields in order, and its body
pub record RequestValue : Type 0 where
  pub method : List ℕ
  pub target : List ℕ
  pub fields : List (List ℕ × List ℕ)
  pub body : List ℕ

-- a reply: its status and its body
pub record Answer : Type 0 where
  pub status : ℕ
  pub body : List ℕ

abbrev pub request_code : Coded RequestValue
request_code =
    code_by (List ℕ × (List ℕ × (List (List ℕ × List ℕ) × List ℕ)))
    (coded× (coded_list coded_ℕ) (coded× (coded_list coded_ℕ) (coded× (coded_list (coded× (coded_list coded_ℕ) (coded_list coded_ℕ))) (coded_list coded_ℕ))))
    (λ r. (r.method, (r.target, (r.fields, r.body))))
    (λ p. record { method = p.0; target = p.1.0; fields = p.1.1.0; body = p.1.1.1 })
    (λ _. refl)

abbrev pub answer_code : Coded Answer
answer_code = code_by (ℕ × List ℕ) (coded× coded_ℕ (coded_list coded_ℕ)) (λ r. (r.status, r.body)) (λ p. record { status = p.0; body = p.1 }) (λ _. refl)
