-- The phrases of statuses are of the grammar of a status line, and short.
use Rattle.std.proofs.Common.{◌≡◌, ℕ, ◌==◌, ◌&&◌, Bool, true, false, cond, List, [], length, unwrap_or, Option, Some, None, codes, refl}
use Rattle.std.specs.Prelude.{nat_le}
use Rattle.std.specs.List.{list_all}
use Rattle.http.specs.StatusCode.{reason_phrase}
use Rattle.httparse.specs.Grammar.{is_value_byte}

-- there is none, or it is of these bytes, and at most 64 of them
pub passes : Option (List ℕ) → Bool
passes None = true
passes (Some phrase) = list_all is_value_byte phrase && nat_le (length phrase) 64

either : (b : Bool) (x y : Option (List ℕ)) → passes x ≡ true → passes y ≡ true → passes (cond b x y) ≡ true
either true x y h k = h
either false x y h k = k

none : passes None ≡ true
unfolding passes
none = refl

leaf : (phrase : List ℕ) → (list_all is_value_byte phrase && nat_le (length phrase) 64) ≡ true → passes (Some phrase) ≡ true
unfolding passes
leaf phrase h = h

pub phrases_pass : (n : ℕ) → passes (reason_phrase n) ≡ true
phrases_pass n =
    either (n == 100) (Some (codes "Continue")) _ (leaf (codes "Continue") refl)
    (either (n == 101) (Some (codes "Switching Protocols")) _ (leaf (codes "Switching Protocols") refl)
    (either (n == 102) (Some (codes "Processing")) _ (leaf (codes "Processing") refl)
    (either (n == 103) (Some (codes "Early Hints")) _ (leaf (codes "Early Hints") refl)
    (either (n == 200) (Some (codes "OK")) _ (leaf (codes "OK") refl)
    (either (n == 201) (Some (codes "Created")) _ (leaf (codes "Created") refl)
    (either (n == 202) (Some (codes "Accepted")) _ (leaf (codes "Accepted") refl)
    (either (n == 203) (Some (codes "Non Authoritative Information")) _ (leaf (codes "Non Authoritative Information") refl)
    (either (n == 204) (Some (codes "No Content")) _ (leaf (codes "No Content") refl)
    (either (n == 205) (Some (codes "Reset Content")) _ (leaf (codes "Reset Content") refl)
    (either (n == 206) (Some (codes "Partial Content")) _ (leaf (codes "Partial Content") refl)
    (either (n == 207) (Some (codes "Multi-Status")) _ (leaf (codes "Multi-Status") refl)
    (either (n == 208) (Some (codes "Already Reported")) _ (leaf (codes "Already Reported") refl)
    (either (n == 226) (Some (codes "IM Used")) _ (leaf (codes "IM Used") refl)
    (either (n == 300) (Some (codes "Multiple Choices")) _ (leaf (codes "Multiple Choices") refl)
    (either (n == 301) (Some (codes "Moved Permanently")) _ (leaf (codes "Moved Permanently") refl)
    (either (n == 302) (Some (codes "Found")) _ (leaf (codes "Found") refl)
    (either (n == 303) (Some (codes "See Other")) _ (leaf (codes "See Other") refl)
    (either (n == 304) (Some (codes "Not Modified")) _ (leaf (codes "Not Modified") refl)
    (either (n == 305) (Some (codes "Use Proxy")) _ (leaf (codes "Use Proxy") refl)
    (either (n == 307) (Some (codes "Temporary Redirect")) _ (leaf (codes "Temporary Redirect") refl)
    (either (n == 308) (Some (codes "Permanent Redirect")) _ (leaf (codes "Permanent Redirect") refl)
    (either (n == 400) (Some (codes "Bad Request")) _ (leaf (codes "Bad Request") refl)
    (either (n == 401) (Some (codes "Unauthorized")) _ (leaf (codes "Unauthorized") refl)
    (either (n == 402) (Some (codes "Payment Required")) _ (leaf (codes "Payment Required") refl)
    (either (n == 403) (Some (codes "Forbidden")) _ (leaf (codes "Forbidden") refl)
    (either (n == 404) (Some (codes "Not Found")) _ (leaf (codes "Not Found") refl)
    (either (n == 405) (Some (codes "Method Not Allowed")) _ (leaf (codes "Method Not Allowed") refl)
    (either (n == 406) (Some (codes "Not Acceptable")) _ (leaf (codes "Not Acceptable") refl)
    (either (n == 407) (Some (codes "Proxy Authentication Required")) _ (leaf (codes "Proxy Authentication Required") refl)
    (either (n == 408) (Some (codes "Request Timeout")) _ (leaf (codes "Request Timeout") refl)
    (either (n == 409) (Some (codes "Conflict")) _ (leaf (codes "Conflict") refl)
    (either (n == 410) (Some (codes "Gone")) _ (leaf (codes "Gone") refl)
    (either (n == 411) (Some (codes "Length Required")) _ (leaf (codes "Length Required") refl)
    (either (n == 412) (Some (codes "Precondition Failed")) _ (leaf (codes "Precondition Failed") refl)
    (either (n == 413) (Some (codes "Payload Too Large")) _ (leaf (codes "Payload Too Large") refl)
    (either (n == 414) (Some (codes "URI Too Long")) _ (leaf (codes "URI Too Long") refl)
    (either (n == 415) (Some (codes "Unsupported Media Type")) _ (leaf (codes "Unsupported Media Type") refl)
    (either (n == 416) (Some (codes "Range Not Satisfiable")) _ (leaf (codes "Range Not Satisfiable") refl)
    (either (n == 417) (Some (codes "Expectation Failed")) _ (leaf (codes "Expectation Failed") refl)
    (either (n == 418) (Some (codes "I'm a teapot")) _ (leaf (codes "I'm a teapot") refl)
    (either (n == 421) (Some (codes "Misdirected Request")) _ (leaf (codes "Misdirected Request") refl)
    (either (n == 422) (Some (codes "Unprocessable Entity")) _ (leaf (codes "Unprocessable Entity") refl)
    (either (n == 423) (Some (codes "Locked")) _ (leaf (codes "Locked") refl)
    (either (n == 424) (Some (codes "Failed Dependency")) _ (leaf (codes "Failed Dependency") refl)
    (either (n == 425) (Some (codes "Too Early")) _ (leaf (codes "Too Early") refl)
    (either (n == 426) (Some (codes "Upgrade Required")) _ (leaf (codes "Upgrade Required") refl)
    (either (n == 428) (Some (codes "Precondition Required")) _ (leaf (codes "Precondition Required") refl)
    (either (n == 429) (Some (codes "Too Many Requests")) _ (leaf (codes "Too Many Requests") refl)
    (either (n == 431) (Some (codes "Request Header Fields Too Large")) _ (leaf (codes "Request Header Fields Too Large") refl)
    (either (n == 451) (Some (codes "Unavailable For Legal Reasons")) _ (leaf (codes "Unavailable For Legal Reasons") refl)
    (either (n == 500) (Some (codes "Internal Server Error")) _ (leaf (codes "Internal Server Error") refl)
    (either (n == 501) (Some (codes "Not Implemented")) _ (leaf (codes "Not Implemented") refl)
    (either (n == 502) (Some (codes "Bad Gateway")) _ (leaf (codes "Bad Gateway") refl)
    (either (n == 503) (Some (codes "Service Unavailable")) _ (leaf (codes "Service Unavailable") refl)
    (either (n == 504) (Some (codes "Gateway Timeout")) _ (leaf (codes "Gateway Timeout") refl)
    (either (n == 505) (Some (codes "HTTP Version Not Supported")) _ (leaf (codes "HTTP Version Not Supported") refl)
    (either (n == 506) (Some (codes "Variant Also Negotiates")) _ (leaf (codes "Variant Also Negotiates") refl)
    (either (n == 507) (Some (codes "Insufficient Storage")) _ (leaf (codes "Insufficient Storage") refl)
    (either (n == 508) (Some (codes "Loop Detected")) _ (leaf (codes "Loop Detected") refl)
    (either (n == 510) (Some (codes "Not Extended")) _ (leaf (codes "Not Extended") refl)
    (either (n == 511) (Some (codes "Network Authentication Required")) _ (leaf (codes "Network Authentication Required") refl) (none))))))))))))))))))))))))))))))))))))))))))))))))))))))))))))))

pub some_passes : (phrase : List ℕ) → passes (Some phrase) ≡ true → (list_all is_value_byte phrase && nat_le (length phrase) 64) ≡ true
unfolding passes
some_passes phrase h = h

pub none_or_some : (r : Option (List ℕ)) → passes r ≡ true → (list_all is_value_byte (unwrap_or r []) && nat_le (length (unwrap_or r [])) 64) ≡ true
none_or_some None h = refl
none_or_some (Some phrase) h = some_passes phrase h
