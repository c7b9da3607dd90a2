-- What a server answers where bytes were not read as a request (Matrix, Client-Server API, "Standard error response").
use Rattle.std.specs.Prelude.{ℕ, List, ◌++◌, codes}
use Rattle.fed_http.specs.Message.{Answer}
use Rattle.fed_http.specs.declared.fault.HttpFault.{HttpFault}
use Rattle.fed_http.specs.declared.fault.HttpFault.TheVariants.{Memory, BadHead, TooLarge, BadLength, BadChunk, HasFailed}

-- the reply with the body `{"errcode":..,"error":..}`
abbrev pub error_reply : ℕ → List ℕ → List ℕ → Answer
error_reply status errcode error = record {
  status = status;
  body = codes "{\"errcode\":\"" ++ (errcode ++ (codes "\",\"error\":\"" ++ (error ++ codes "\"}")));
}

-- one table of status, code and text
abbrev pub reply_to : HttpFault → Answer
reply_to Memory = error_reply 500 (codes "M_UNKNOWN") (codes "out of memory")
reply_to BadHead = error_reply 400 (codes "M_UNKNOWN") (codes "bad request")
reply_to TooLarge = error_reply 413 (codes "M_TOO_LARGE") (codes "body too large")
reply_to BadLength = error_reply 400 (codes "M_UNKNOWN") (codes "bad request")
reply_to BadChunk = error_reply 400 (codes "M_UNKNOWN") (codes "bad request")
reply_to HasFailed = error_reply 400 (codes "M_UNKNOWN") (codes "bad request")
