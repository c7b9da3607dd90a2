use Rattle.fed_http.proofs.Messages.{request_texts}
use Rattle.fed_http.proofs.opening.copy_head.Goals as goal

pub copy_request-requires-clause-method_text : goal.copy_request-requires-clause-method_text
copy_request-requires-clause-method_text c =
    (request_texts c.args.kind c.args.bytes.now c.window-front.result.now c.args.fields.now c.in-Request.method c.in-Request.target c.args.head c.requires.found.0 c.window-front.ensures c.in-Request.is c.requires.found.1).method_text

pub copy_request-requires-clause-target_text : goal.copy_request-requires-clause-target_text
copy_request-requires-clause-target_text c =
    (request_texts c.args.kind c.args.bytes.now c.window-front.result.now c.args.fields.now c.in-Request.method c.in-Request.target c.args.head c.requires.found.0 c.window-front.ensures c.in-Request.is c.requires.found.1).target_text

pub copy_request-requires-clause-names : goal.copy_request-requires-clause-names
copy_request-requires-clause-names c =
    (request_texts c.args.kind c.args.bytes.now c.window-front.result.now c.args.fields.now c.in-Request.method c.in-Request.target c.args.head c.requires.found.0 c.window-front.ensures c.in-Request.is c.requires.found.1).names
