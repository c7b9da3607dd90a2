-- What is known of a reply of an inbox under its lock.
use Rattle.fed_keys.specs.Keys.{Checks}
use Rattle.fed_http.specs.Message.{RequestValue}
use Rattle.fed_inbox.specs.Inbox.{InboxState}
use Rattle.fed_hub_serving.specs.Served.{IsInboxReply, IsNumbered}
use Rattle.fed_hub_serving.specs.declared.inbox_reply.InboxReply.{InboxReply}

-- it is the reply of an inbox of the server to the request, and has a number unless it is of 500
abbrev pub IsLockedReply : Checks → InboxState → RequestValue → InboxReply → Type 0
IsLockedReply checks beginning request r = IsInboxReply checks beginning request r.reply × IsNumbered r.reply r.number
