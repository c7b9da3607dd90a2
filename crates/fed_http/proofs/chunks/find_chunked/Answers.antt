use Rattle.std.proofs.Common.{◌-◌, length, take, drop}
use Rattle.fed_http.specs.ChunkParts.{IsChunksEnd, IsTrailerAt, LacksTrailer, IsChunkedFault}
use Rattle.fed_http.specs.Waiting.{LacksChunks}
use Rattle.fed_http.proofs.Windows.{to_end}
use Rattle.fed_http.proofs.Lines.{on_some, on_none, passed_on}
use Rattle.fed_http.proofs.Bodies.{body_lacks, walk_fault_is, trailer_fault_is, body_found}
use Rattle.fed_http.proofs.chunks.find_chunked.Goals as goal

pub returns-in_err-chunks-clause-fault : goal.returns-in_err-chunks-clause-fault
returns-in_err-chunks-clause-fault c =
    passed_on c.from_residual.result (IsChunkedFault c.args.bytes.now) c.in_err-chunks.field-0.0 c.from_residual.ensures.1 (walk_fault_is c.args.bytes.now c.in_err-chunks.field-0.0 c.in_err-chunks.ensures.fault)

pub returns-in_default-clause-unfinished : goal.returns-in_default-clause-unfinished
returns-in_default-clause-unfinished c = on_none (LacksChunks c.args.bytes.now) c.in_default.is c.in_ok-chunks.ensures.unfinished

pub returns-in_err-len-clause-fault : goal.returns-in_err-len-clause-fault
returns-in_err-len-clause-fault c =
    let bytes = c.args.bytes.now in
    let found = c.in-Some.chunks in
    let end = on_some (IsChunksEnd bytes) c.in-Some.is c.in_ok-chunks.ensures.found in
    let rest = take (length bytes - found.text) (drop found.text bytes) in
    passed_on c.from_residual-in_err-len.result (IsChunkedFault bytes) c.in_err-len.field-0.0 c.from_residual-in_err-len.ensures.1
    (trailer_fault_is bytes rest found c.in_err-len.field-0.0 end (to_end bytes found.text) c.in_err-len.ensures.fault)

pub returns-in_default-2-clause-unfinished : goal.returns-in_default-2-clause-unfinished
returns-in_default-2-clause-unfinished c =
    let bytes = c.args.bytes.now in
    let found = c.in-Some.chunks in
    let end = on_some (IsChunksEnd bytes) c.in-Some.is c.in_ok-chunks.ensures.found in
    let rest = take (length bytes - found.text) (drop found.text bytes) in
    body_lacks bytes rest found end (to_end bytes found.text) (on_none (LacksTrailer rest) c.in_default-2.is c.in_ok-len.ensures.unfinished)

pub returns-clause-found : goal.returns-clause-found
returns-clause-found c =
    let bytes = c.args.bytes.now in
    let found = c.in-Some.chunks in
    let end = on_some (IsChunksEnd bytes) c.in-Some.is c.in_ok-chunks.ensures.found in
    let rest = take (length bytes - found.text) (drop found.text bytes) in
    body_found bytes rest found c.in-Some-2.len end (to_end bytes found.text) (on_some (IsTrailerAt rest) c.in-Some-2.is c.in_ok-len.ensures.found)
