use Rattle.std.proofs.Common.{◌-◌, length, take, drop, subst}
use Rattle.fed_http.specs.Limits.{max_body}
use Rattle.fed_http.specs.ChunkParts.{IsPartAt, IsWalkFault}
use Rattle.fed_http.proofs.Windows.{to_end}
use Rattle.fed_http.proofs.Lines.{passed_on}
use Rattle.fed_http.proofs.Walks.{walk_starts, walk_on, walk_ends, walk_lacks, walk_fault}
use Rattle.fed_http.proofs.chunks.find_last.Goals as goal

pub loop-size-init : goal.loop-size-init
loop-size-init c = walk_starts c.args.bytes.now

pub returns-in_err-size-clause-fault : goal.returns-in_err-size-clause-fault
returns-in_err-size-clause-fault c =
    let bytes = c.args.bytes.now in
    let text = c.loop-size.text in
    passed_on c.from_residual.result (IsWalkFault bytes) c.in_err-size.field-0.0 c.from_residual.ensures.1
    (walk_fault bytes (take (length bytes - text) (drop text bytes)) c.loop-size.body text c.in_err-size.field-0.0 c.loop-size.invariant (to_end bytes text) c.in_err-size.ensures.fault)

pub loop-size-preserved : goal.loop-size-preserved
loop-size-preserved c =
    let bytes = c.args.bytes.now in
    let text = c.loop-size.text in
    let rest = take (length bytes - text) (drop text bytes) in
    walk_on bytes rest c.loop-size.body text c.in-Chunk.size c.in-Chunk.len c.loop-size.invariant (to_end bytes text) (subst (IsPartAt rest (max_body - c.loop-size.body)) c.in-Chunk.is c.in_ok-size.ensures.part)

pub returns-in-Last-clause-found : goal.returns-in-Last-clause-found
returns-in-Last-clause-found c =
    let bytes = c.args.bytes.now in
    let text = c.loop-size.text in
    let rest = take (length bytes - text) (drop text bytes) in
    walk_ends bytes rest c.loop-size.body text c.in-Last.len c.loop-size.invariant (to_end bytes text) (subst (IsPartAt rest (max_body - c.loop-size.body)) c.in-Last.is c.in_ok-size.ensures.part)

pub returns-in-Unfinished-clause-unfinished : goal.returns-in-Unfinished-clause-unfinished
returns-in-Unfinished-clause-unfinished c =
    let bytes = c.args.bytes.now in
    let text = c.loop-size.text in
    let rest = take (length bytes - text) (drop text bytes) in
    walk_lacks bytes rest c.loop-size.body text c.loop-size.invariant (to_end bytes text) (subst (IsPartAt rest (max_body - c.loop-size.body)) c.in-Unfinished.is c.in_ok-size.ensures.part)
