-- A request that a server answered, with its reply, and the number of its point in the history of the inbox, from 1.
use Rattle.std.specs.Prelude.{◌≡◌, ℕ, List, [], ◌∷◌, ◌++◌, Option, Some, None, refl}
use Rattle.std.specs.Coded.{Coded, code_by, coded×, coded_ℕ}
use Rattle.fed_http.specs.Message.{RequestValue, Answer, request_code, answer_code}
use Rattle.fed_inbox.specs.History.{Point}

pub record AnsweredValue : Type 0 where
  pub request : RequestValue
  pub reply : Answer
  pub number : ℕ

abbrev pub answered_code : Coded AnsweredValue
answered_code =
    code_by (RequestValue × (Answer × ℕ)) (coded× request_code (coded× answer_code coded_ℕ)) (λ a. (a.request, (a.reply, a.number)))
    (λ p. record { request = p.0; reply = p.1.0; number = p.1.1 }) (λ _. refl)

abbrev pub answered_by : RequestValue → Answer → ℕ → AnsweredValue
answered_by request reply number = record { request = request; reply = reply; number = number }

-- a request that has a number goes behind these, with its reply and the number; one that has none does not
abbrev pub with_answered : List AnsweredValue → RequestValue → Answer → Option ℕ → List AnsweredValue
with_answered given request reply None = given
with_answered given request reply (Some number) = given ++ answered_by request reply number ∷ []

-- a point of the history is of this request, with this reply; which events it brought for the rooms is not said
pub record IsPointOf (answered : AnsweredValue) (point : Point) : Type 0 where
  pub request : point.request ≡ answered.request
  pub reply : point.reply ≡ answered.reply
