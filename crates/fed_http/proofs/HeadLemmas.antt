-- Bytes begin with at most one head.
use Rattle.std.proofs.Common.{◌≡◌, ℕ, List, ◌++◌, ap}
use Rattle.httparse.proofs.GrammarLemmas.{request_unique, response_unique}
use Rattle.httparse.proofs.PieceLemmas.{front-append}
use Rattle.fed_http.specs.Head.{Head, request, reply, ReadsHead, print_head}
use Rattle.fed_http.specs.declared.message.Kind.{Kind}
use Rattle.fed_http.specs.declared.message.Kind.TheVariants.{Requests, Replies}

pub head_unique : (kind : Kind) (bytes : List ℕ) (h k : Head) (r q : List ℕ) → ReadsHead kind bytes h r → ReadsHead kind bytes k q → (h ≡ k) × (r ≡ q)
head_unique Requests bytes (request h) (request k) r q x y = let same = request_unique bytes h k r q (x.valid, x.whole) (y.valid, y.whole) in (ap request same.0, same.1)
head_unique Requests bytes (request h) (reply k) r q x y = absurd y.valid
head_unique Requests bytes (reply h) k r q x y = absurd x.valid
head_unique Replies bytes (reply h) (reply k) r q x y = let same = response_unique bytes h k r q (x.valid, x.whole) (y.valid, y.whole) in (ap reply same.0, same.1)
head_unique Replies bytes (reply h) (request k) r q x y = absurd y.valid
head_unique Replies bytes (request h) k r q x y = absurd x.valid

pub ReadsHead-append : (kind : Kind) (bytes : List ℕ) (h : Head) (rest more : List ℕ) → ReadsHead kind bytes h rest → ReadsHead kind (bytes ++ more) h (rest ++ more)
ReadsHead-append kind bytes h rest more x = record { valid = x.valid; whole = front-append bytes (print_head h) rest more x.whole }
