use Rattle.fed_http.specs.declared.message.Kind.TheVariants.{Requests}
use Rattle.fed_http.specs.declared.message.Message.TheVariants as message
use Rattle.fed_exchange.proofs.Reading.{none_of_kind}
use Rattle.fed_exchange.proofs.requests.read_request.Goals as goal

pub returns-clause-none : goal.returns-clause-none
returns-clause-none c = λ request. none_of_kind Requests c.requests.result c.args.bytes.now c.in_ok-request.field-0 (message.Request request) c.requests.ensures.kind c.in-None.is c.in_ok-request.ensures.none
