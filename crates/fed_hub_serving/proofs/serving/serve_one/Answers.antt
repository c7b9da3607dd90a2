use Rattle.std.proofs.Common.{refl}
use Rattle.fed_hub_serving.specs.Served.{Ends}
use Rattle.fed_hub_serving.proofs.Replies.{of_request, of_fault}
use Rattle.fed_hub_serving.proofs.serving.serve_one.Goals as goal

pub returns-in-Ok : goal.returns-in-Ok
returns-in-Ok g c =
    let N = g.N.ServingNaming in
    let S = g.D.InboxAccess.state in
    let old : Ends = record { left = g.R.Read.remaining c.args.reader.now; written = g.W.Write.contents c.args.writer.now; inbox = S c.args.inbox.now; given = c.args.token.now } in
    let new : Ends = record { left = g.R.Read.remaining c.read_request.new.from; written = g.W.Write.contents c.serve_request.new.writer; inbox = S c.serve_request.new.inbox; given = c.serve_request.new.token } in
    of_request N.checks N.known N.beginning old new c.in-Ok.request c.in-Ok.ensures.reads c.serve_request.result c.serve_request.ensures

pub returns-in-Err-Http : goal.returns-in-Err-Http
returns-in-Err-Http g c =
    let N = g.N.ServingNaming in
    let S = g.D.InboxAccess.state in
    let old : Ends = record { left = g.R.Read.remaining c.args.reader.now; written = g.W.Write.contents c.args.writer.now; inbox = S c.args.inbox.now; given = c.args.token.now } in
    let new : Ends = record { left = g.R.Read.remaining c.read_request.new.from; written = g.W.Write.contents c.send-in-Err-Http.new.writer; inbox = S c.args.inbox.now; given = c.args.token.now } in
    of_fault N.checks N.known N.beginning old new c.in-Err-Http.fault (rw c.in-Err-Http.field-0-is at c.in-Err-Http.ensures.unread) c.from.result (rw c.in-Err-Http.field-0-is at c.from.ensures) refl refl c.send-in-Err-Http.result c.send-in-Err-Http.ensures
