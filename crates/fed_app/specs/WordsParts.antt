-- The request that `Words` stands for.
use Rattle.fed_inbox.specs.Answer.{SendRequest, request_of}
use Rattle.fed_app.specs.declared.words.Words.{Words}

abbrev pub request_by : Words → SendRequest
request_by words = request_of words.origin.now words.txn.now words.body.now
