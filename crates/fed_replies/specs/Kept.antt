-- The replies that are kept: for each origin the reply to each of its transactions (Server-Server API, "Transactions": a
-- transaction is known by its origin and its id).
use Rattle.std.specs.Prelude.{ℕ, List, Option, unwrap_or}
use Rattle.std.specs.Coded.{Coded, coded_ℕ, coded_list}
use Rattle.std.specs.FinMap as map
use Rattle.fed_json.specs.TextMap.{TextMap, text_map_code}

-- from the id of a transaction to the reply
abbrev pub OriginReplies : Type 0
OriginReplies = TextMap (List ℕ)

-- from an origin to its replies
abbrev pub KeptReplies : Type 0
KeptReplies = TextMap OriginReplies

abbrev pub origin_code : Coded OriginReplies
origin_code = text_map_code (coded_list coded_ℕ)

abbrev pub kept_code : Coded KeptReplies
kept_code = text_map_code origin_code

-- the replies to one origin: none where it got none
abbrev pub replies_of : KeptReplies → List ℕ → OriginReplies
replies_of kept origin = unwrap_or (map.get kept origin) map.empty

-- the reply to a transaction of an origin
abbrev pub reply_at : KeptReplies → List ℕ → List ℕ → Option (List ℕ)
reply_at kept origin txn = map.get (replies_of kept origin) txn

-- with one more reply
abbrev pub with_reply : KeptReplies → List ℕ → List ℕ → List ℕ → KeptReplies
with_reply kept origin txn reply = map.insert kept origin (map.insert (replies_of kept origin) txn reply)
