use Rattle.std.proofs.Common.{◌≡◌, rules, subst, sym, arith}
use Rattle.base64.specs.Engines.{url_safe_no_pad}
use Rattle.base64.specs.GeneralPurpose.{encode_of}
use Rattle.fed_replies.specs.Plain.{IsPlain}
use Rattle.fed_replies.proofs.HashIds.{plain_hash}
use Rattle.fed_replies.proofs.hash_id.encoded.Goals as goal

pub returns-clause-plain : goal.returns-clause-plain
returns-clause-plain c =
    let is : c.encode_slice.new.output ≡ encode_of url_safe_no_pad c.args.hash.now = search rules in
    subst IsPlain (sym is) (plain_hash c.args.hash.now (λ k. let fits = c.fits-hash k in omega arith))
