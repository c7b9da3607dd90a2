-- How a point of a history is stored where a contract keeps one.
use Rattle.std.specs.Prelude.{List, refl}
use Rattle.std.specs.Coded.{Coded, code_by, coded×, coded_list}
use Rattle.fed_event.specs.Checked.{CheckedEvent, checked_code}
use Rattle.fed_http.specs.Message.{RequestValue, Answer, request_code, answer_code}
use Rattle.fed_inbox.specs.History.{Point}

abbrev pub point_code : Coded Point
point_code =
    code_by (RequestValue × (Answer × List CheckedEvent)) (coded× request_code (coded× answer_code (coded_list checked_code)))
    (λ p. (p.request, (p.reply, p.fresh))) (λ p. record { request = p.0; reply = p.1.0; fresh = p.1.1 }) (λ _. refl)
