-- The transaction id in the target of a request (Server-Server API, "Transactions": `PUT /_matrix/federation/v1/send/{txnId}`).
use Rattle.std.specs.Prelude.{ℕ, List, codes, take, drop, length, ◌==◌, ◌&&◌, not, nat_lt, bytes_eq, Bool, Option, Some, None, option_and_then, if◌then◌else◌}
use Rattle.std.specs.List.{before_first, list_any}
use Rattle.std.specs.Str.{is_utf8}
use Rattle.percent_encoding.specs.Percent.{percent_decode}

abbrev pub send_path : List ℕ
send_path = codes "/_matrix/federation/v1/send/"

-- what stands before the query, which begins with `?` (RFC 3986, section 3.4)
abbrev pub is_question_mark : ℕ → Bool
is_question_mark byte = byte == 63

abbrev pub path_of : List ℕ → List ℕ
path_of target = before_first is_question_mark target

abbrev pub if_passes : (List ℕ → Bool) → List ℕ → Option (List ℕ)
if_passes test text = if test text then Some text else None

-- what stands behind a front
abbrev pub behind : List ℕ → List ℕ → Option (List ℕ)
behind front text = if bytes_eq (take (length front) text) front then Some (drop (length front) text) else None

-- one segment of a path, which is not empty (RFC 3986, section 3.3)
abbrev pub is_slash : ℕ → Bool
is_slash byte = byte == 47

abbrev pub is_segment : List ℕ → Bool
is_segment text = nat_lt 0 (length text) && not (list_any is_slash text)

abbrev pub segment_of : List ℕ → Option (List ℕ)
segment_of path = option_and_then (if_passes is_segment) (behind send_path path)

-- the one segment behind the path, decoded (RFC 3986, section 2.1), where it is a text
abbrev pub decoded : List ℕ → Option (List ℕ)
decoded segment = if_passes is_utf8 (percent_decode segment)

abbrev pub txn_of : List ℕ → Option (List ℕ)
txn_of target = option_and_then decoded (segment_of (path_of target))
