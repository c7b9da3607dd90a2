use Rattle.fed_http.specs.declared.message.Kind.TheVariants.{Replies}
use Rattle.fed_http.specs.declared.message.Message.TheVariants as message
use Rattle.fed_exchange.proofs.Reading.{none_of_kind}
use Rattle.fed_exchange.proofs.replies.status_in.Goals as goal

pub returns : goal.returns
returns c = λ reply. none_of_kind Replies c.replies.result c.args.bytes.now c.in_ok-reply.field-0 (message.Reply reply) c.replies.ensures.kind c.in-None.is c.in_ok-reply.ensures.none
