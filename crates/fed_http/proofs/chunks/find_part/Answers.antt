use Rattle.std.proofs.Common.{◌-◌, length, take, drop, subst}
use Rattle.fed_http.specs.ChunkParts.{IsLineAt, LineEndOf}
use Rattle.fed_http.proofs.Windows.{to_end}
use Rattle.fed_http.proofs.Lines.{on_some}
use Rattle.fed_http.proofs.Parts.{part_lacks, part_there, part_unended, part_never}
use Rattle.fed_http.proofs.chunks.find_part.Goals as goal

pub returns-then-behind-size-clause-part : goal.returns-then-behind-size-clause-part
returns-then-behind-size-clause-part c =
    let bytes = c.args.bytes.now in
    let found = c.in-Some.line in
    let at = on_some (IsLineAt bytes) c.in-Some.is c.in_ok-line.ensures.found in
    part_lacks bytes (take (length bytes - found.len) (drop found.len bytes)) found c.args.room at c.if-line-eq0.false c.if-line-room.false (to_end bytes found.len) c.if-behind-size.true

pub returns-in-There-clause-part : goal.returns-in-There-clause-part
returns-in-There-clause-part c =
    let bytes = c.args.bytes.now in
    let found = c.in-Some.line in
    let at = on_some (IsLineAt bytes) c.in-Some.is c.in_ok-line.ensures.found in
    let behind = take (length bytes - found.len) (drop found.len bytes) in
    let tail = take (length behind - found.size) (drop found.size behind) in
    part_there bytes behind tail found c.args.room at c.if-line-eq0.false c.if-line-room.false (to_end bytes found.len) c.if-behind-size.false (to_end behind found.size) (subst (LineEndOf tail) c.in-There.is c.line_end.ensures)

pub returns-in-Unfinished-clause-part : goal.returns-in-Unfinished-clause-part
returns-in-Unfinished-clause-part c =
    let bytes = c.args.bytes.now in
    let found = c.in-Some.line in
    let at = on_some (IsLineAt bytes) c.in-Some.is c.in_ok-line.ensures.found in
    let behind = take (length bytes - found.len) (drop found.len bytes) in
    let tail = take (length behind - found.size) (drop found.size behind) in
    part_unended bytes behind tail found c.args.room at c.if-line-eq0.false c.if-line-room.false (to_end bytes found.len) c.if-behind-size.false (to_end behind found.size) (subst (LineEndOf tail) c.in-Unfinished.is c.line_end.ensures)

pub returns-in-Never-clause-fault : goal.returns-in-Never-clause-fault
returns-in-Never-clause-fault c =
    let bytes = c.args.bytes.now in
    let found = c.in-Some.line in
    let at = on_some (IsLineAt bytes) c.in-Some.is c.in_ok-line.ensures.found in
    let behind = take (length bytes - found.len) (drop found.len bytes) in
    let tail = take (length behind - found.size) (drop found.size behind) in
    part_never bytes behind tail found c.args.room at c.if-line-eq0.false c.if-line-room.false (to_end bytes found.len) c.if-behind-size.false (to_end behind found.size) (subst (LineEndOf tail) c.in-Never.is c.line_end.ensures)
