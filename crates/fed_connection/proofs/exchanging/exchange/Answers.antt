use Rattle.fed_connection.proofs.Replies.{reply_read}
use Rattle.fed_connection.proofs.exchanging.exchange.Goals as goal

pub returns-clause-reply : goal.returns-clause-reply
returns-clause-reply g c =
    let S = g.R.Read.remaining in
    let written = c.in_ok-write_reply in
    reply_read (S c.args.reader.now) (S c.read_reply.new.from) c.in_ok-reply.reply written.field-0.items c.in_ok-reply.ensures.reads written.ensures.exact written.ensures.read_back
