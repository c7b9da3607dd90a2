-- The error replies (Matrix, Client-Server API, "Standard error response"): one table of status, code and text.
use Rattle.std.specs.Prelude.{ℕ, List, ◌++◌, codes}
use Rattle.fed_txn.specs.declared.fault.TxnFault.{TxnFault}
use Rattle.fed_txn.specs.declared.fault.TxnFault.TheVariants as fault
use Rattle.fed_txn.specs.Fault.{field_name}
use Rattle.fed_inbox.specs.declared.refusal.Refusal.{Refusal}
use Rattle.fed_inbox.specs.declared.refusal.Refusal.TheVariants.{NoSuchPath, MethodNotAllowed, BadAuthorization, WrongDestination, ServerNotListed, BodyTooLarge, NotJson, NotCanonical, BadSignature, OriginDiffers, BadField, TooManyPdus, TooManyEdus, OutOfMemory}

pub record ErrorReply : Type 0 where
  pub status : ℕ
  pub errcode : List ℕ
  pub error : List ℕ

abbrev pub row : ℕ → List ℕ → List ℕ → ErrorReply
row status errcode error = record { status = status; errcode = errcode; error = error }

abbrev pub error_reply : Refusal → ErrorReply
error_reply NoSuchPath = row 404 (codes "M_UNRECOGNIZED") (codes "no such path")
error_reply MethodNotAllowed = row 405 (codes "M_UNRECOGNIZED") (codes "method not allowed")
error_reply BadAuthorization = row 401 (codes "M_UNAUTHORIZED") (codes "bad authorization")
error_reply WrongDestination = row 401 (codes "M_UNAUTHORIZED") (codes "wrong destination")
error_reply ServerNotListed = row 403 (codes "M_FORBIDDEN") (codes "server not listed")
error_reply BodyTooLarge = row 413 (codes "M_TOO_LARGE") (codes "body too large")
error_reply NotJson = row 400 (codes "M_NOT_JSON") (codes "not json")
error_reply NotCanonical = row 400 (codes "M_BAD_JSON") (codes "not canonical")
error_reply BadSignature = row 401 (codes "M_UNAUTHORIZED") (codes "bad signature")
error_reply OriginDiffers = row 401 (codes "M_UNAUTHORIZED") (codes "origin differs")
error_reply (BadField field) = row 400 (codes "M_BAD_JSON") (codes "bad field: " ++ field_name field)
error_reply TooManyPdus = row 400 (codes "M_BAD_JSON") (codes "too many pdus")
error_reply TooManyEdus = row 400 (codes "M_BAD_JSON") (codes "too many edus")
error_reply OutOfMemory = row 500 (codes "M_UNKNOWN") (codes "out of memory")

-- `{"errcode":..,"error":..}`
abbrev pub error_body : ErrorReply → List ℕ
error_body r = codes "{\"errcode\":\"" ++ (r.errcode ++ (codes "\",\"error\":\"" ++ (r.error ++ codes "\"}")))

-- the refusal of a body by what is wrong with it
abbrev pub refusal_of : TxnFault → Refusal
refusal_of fault.Memory = OutOfMemory
refusal_of fault.NotJson = NotJson
refusal_of fault.NotCanonical = NotCanonical
refusal_of (fault.BadJson field) = BadField field
refusal_of fault.TooManyPdus = TooManyPdus
refusal_of fault.TooManyEdus = TooManyEdus
refusal_of fault.TooLarge = BodyTooLarge
