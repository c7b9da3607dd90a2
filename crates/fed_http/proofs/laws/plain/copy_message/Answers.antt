use Rattle.std.proofs.Common.{◌∙◌, ap}
use Rattle.fed_http.specs.declared.message.Message.TheVariants as messages
use Rattle.fed_http.proofs.Messages.{request_texts, request_is, reply_is, message_at, body_behind}
use Rattle.fed_http.proofs.laws.plain.copy_message.Goals as goal

pub copy_request-requires-clause-method_text : goal.copy_request-requires-clause-method_text
copy_request-requires-clause-method_text c =
    (request_texts c.args.kind c.args.bytes.now c.window-head.result.now c.args.fields.now c.in-Request.method c.in-Request.target c.args.found.head c.requires.found.0 c.window-head.ensures c.in-Request.is c.requires.found.1.at).method_text

pub copy_request-requires-clause-target_text : goal.copy_request-requires-clause-target_text
copy_request-requires-clause-target_text c =
    (request_texts c.args.kind c.args.bytes.now c.window-head.result.now c.args.fields.now c.in-Request.method c.in-Request.target c.args.found.head c.requires.found.0 c.window-head.ensures c.in-Request.is c.requires.found.1.at).target_text

pub copy_request-requires-clause-names : goal.copy_request-requires-clause-names
copy_request-requires-clause-names c =
    (request_texts c.args.kind c.args.bytes.now c.window-head.result.now c.args.fields.now c.in-Request.method c.in-Request.target c.args.found.head c.requires.found.0 c.window-head.ensures c.in-Request.is c.requires.found.1.at).names

pub returns-in_ok-request-in-Request : goal.returns-in_ok-request-in-Request
returns-in_ok-request-in-Request c =
    let found = c.args.found in
    let body = c.in_ok-body.body.items in
    record {
      message = message_at c.args.kind c.args.bytes.now c.args.fields.now found c.requires.found.0 body (messages.Request c.in_ok-request-in-Request.request) c.requires.found.1
          (body_behind found.framing c.args.bytes.now found.head.len found.body.text body c.in_ok-body.ensures.body)
          (ap messages.Request c.in_ok-request-in-Request.ensures ∙ request_is c.args.kind c.args.bytes.now c.window-head.result.now c.args.fields.now c.in-Request.method c.in-Request.target found.head c.requires.found.0 body c.window-head.ensures c.in-Request.is c.requires.found.1.at);
    }

pub returns-in-Reply : goal.returns-in-Reply
returns-in-Reply c =
    let found = c.args.found in
    let body = c.in_ok-body.body.items in
    record {
      message = message_at c.args.kind c.args.bytes.now c.args.fields.now found c.requires.found.0 body (messages.Reply c.new.result) c.requires.found.1
          (body_behind found.framing c.args.bytes.now found.head.len found.body.text body c.in_ok-body.ensures.body)
          (ap messages.Reply c.new.ensures ∙ reply_is c.args.kind c.args.bytes.now c.args.fields.now c.in-Reply.status found.head c.requires.found.0 body c.in-Reply.is c.requires.found.1.at);
    }
