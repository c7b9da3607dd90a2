use Rattle.std.proofs.Common.{◌≡◌, ◌++◌, ◌-◌, length, take, drop, sym, ap, subst, ◌∙◌}
use Rattle.std.specs.Io.KnownBytes.{Appends}
use Rattle.fed_http.specs.Sending.{AppendsFront}
use Rattle.fed_http.specs.Writing.{reply_head}
use Rattle.fed_http.proofs.SentReplies.{reply_is}
use Rattle.fed_http.proofs.Windows.{to_end}
use Rattle.fed_http.proofs.Writes.{cut_in, whole_behind, was_cut, same_bytes}
use Rattle.fed_http.proofs.sending.send_reply.Goals as goal

pub returns-in_err-write_whole-clause-written : goal.returns-in_err-write_whole-clause-written
returns-in_err-write_whole-clause-written g c =
    let m = c.args.reply.now in
    let taken = c.push_some-taken.result in
    let first = reply_head m ++ take taken m.body in
    let gathered : c.as_slice.result.now ≡ first = c.as_slice.ensures ∙ c.push_some-taken.ensures.bytes ∙ (λ i. c.head_of-front.ensures i ++ take taken (c.body-body.ensures i)) in
    same_bytes _ _ _ _ _ (reply_is m taken) (was_cut _ _ _ _ c.from_residual.ensures.0 (cut_in _ _ first (drop taken m.body) (subst (AppendsFront _ _) gathered c.in_err-write_whole.ensures.written)))

pub returns-clause-written : goal.returns-clause-written
returns-clause-written g c =
    let m = c.args.reply.now in
    let taken = c.push_some-taken.result in
    let first = reply_head m ++ take taken m.body in
    let gathered : c.as_slice.result.now ≡ first = c.as_slice.ensures ∙ c.push_some-taken.ensures.bytes ∙ (λ i. c.head_of-front.ensures i ++ take taken (c.body-body.ensures i)) in
    let body = c.body-body.result.now in
    let rest : drop taken m.body ≡ take (length body - taken) (drop taken body) = sym (to_end body taken ∙ ap (drop taken) c.body-body.ensures) in
    same_bytes _ _ _ _ _ (reply_is m taken)
    (whole_behind _ _ _ first (drop taken m.body) _ (subst (Appends _ _) gathered c.in_ok-write_whole.ensures.written) (same_bytes _ _ _ _ _ rest c.write_whole-2.ensures.written))
