use Rattle.std.proofs.Common.{arith, ◌≡◌, length, take, drop, ap, sym, ◌∙◌, subst, Err}
use Rattle.std.specs.Prelude.{IfSome, IfNone}
use Rattle.fed_http.specs.Reader.{Gives, Waits}
use Rattle.fed_http.specs.Faults.{IsFault}
use Rattle.fed_http.specs.Text.{BeginsWith}
use Rattle.fed_stream.proofs.Pieces.{Stands, is_piece, stands_first, stands_kept, stands_waits, up_to, message_ends, fault_ends, nothing_taken, passed_on}
use Rattle.fed_stream.proofs.reading.read_message.Goals.{in-Ok+in_ok-message-in-Ok+in_default, in-Err+else-ne}
use Rattle.fed_stream.proofs.reading.read_message.Goals as goal

pub returns-in_err-buffer-clause-unread : goal.returns-in_err-buffer-clause-unread
returns-in_err-buffer-clause-unread g c =
    let a = g.R.Read.remaining c.args.from.now in
    let told = c.in_err-buffer.field-0.0 in
    passed_on c.args.reader.kind a a told c.from_residual.result c.from_residual.ensures.1 (nothing_taken c.args.reader.kind a told c.in_err-buffer.ensures.memory)

pub loop-init : goal.loop-init
loop-init g c = (stands_first _ c.args.reader c.requires, c.in_ok-buffer.ensures.room)

pub returns-in_err-message-in-Ok-clause-unread : goal.returns-in_err-message-in-Ok-clause-unread
returns-in_err-message-in-Ok-clause-unread g c =
    let kind = c.args.reader.kind in
    let told = c.in_err-message-in-Ok.field-0.0 in
    let (s, size) = c.loop.invariant in
    let a = g.R.Read.remaining c.args.from.now in
    let b = g.R.Read.remaining c.loop.from in
    let d = g.R.Read.remaining c.read.new.self in
    let piece = take c.in-Ok.count c.deref.result.now in
    let full : length c.read.new.buf ≡ c.loop.buffer.len = omega arith in
    let p = is_piece b d c.in-Ok.count c.loop.buffer.len c.read.new.buf (drop (length c.read.new.buf) c.loop.buffer.items) c.deref.result.now c.deref.ensures.value full size c.in-Ok.ensures.bytes.0 in
    let ends = fault_ends kind a b c.loop.reader c.feed.new.self piece told s
    (λ is. c.feed.ensures.bad_head s.bytes s.stands (c.in_err-message-in-Ok.was ∙ ap Err is)) (λ is. c.feed.ensures.too_large s.bytes s.stands (c.in_err-message-in-Ok.was ∙ ap Err is))
    (λ is. c.feed.ensures.bad_length s.bytes s.stands (c.in_err-message-in-Ok.was ∙ ap Err is)) (λ is. c.feed.ensures.bad_chunk s.bytes s.stands (c.in_err-message-in-Ok.was ∙ ap Err is))
    (λ is. c.feed.ensures.only_failed (c.in_err-message-in-Ok.was ∙ ap Err is)) in
    passed_on kind a d told c.from_residual-in_err-message-in-Ok.result c.from_residual-in_err-message-in-Ok.ensures.1
    (up_to kind a b d c.loop.reader piece (λ bytes. IsFault kind bytes told) s p ends)

pub returns-in-Some-clause-reads : goal.returns-in-Some-clause-reads
returns-in-Some-clause-reads g c =
    let kind = c.args.reader.kind in
    let m = c.in-Some.message in
    let used = c.in_ok-message-in-Ok.field-0-1 in
    let (s, size) = c.loop.invariant in
    let a = g.R.Read.remaining c.args.from.now in
    let b = g.R.Read.remaining c.loop.from in
    let d = g.R.Read.remaining c.read.new.self in
    let piece = take c.in-Ok.count c.deref.result.now in
    let full : length c.read.new.buf ≡ c.loop.buffer.len = omega arith in
    let p = is_piece b d c.in-Ok.count c.loop.buffer.len c.read.new.buf (drop (length c.read.new.buf) c.loop.buffer.items) c.deref.result.now c.deref.ensures.value full size c.in-Ok.ensures.bytes.0 in
    let gives : Gives c.loop.reader s.bytes piece c.feed.new.self m used =
    subst (λ o. IfSome o (λ x. Gives c.loop.reader s.bytes piece c.feed.new.self x used)) c.in-Some.is (c.in_ok-message-in-Ok.ensures.given s.bytes s.stands) in
    up_to kind a b d c.loop.reader piece (λ bytes. BeginsWith kind bytes m) s p (message_ends kind a b c.loop.reader c.feed.new.self piece m used s gives)

pub loop-preserved : goal.loop-preserved
loop-preserved g c =
    let kind = c.args.reader.kind in
    let (s, size) = c.loop.invariant in
    let a = g.R.Read.remaining c.args.from.now in
    let b = g.R.Read.remaining c.loop.from in
    let d = g.R.Read.remaining c.read.new.self in
    let full : length c.read.new.buf ≡ c.loop.buffer.len = omega arith in
    elim c.match-read.branch [
      | in-Ok+in_ok-message-in-Ok+in_default w ↦
          let piece = take w.in-Ok.count w.deref.result.now in
          let used = w.in_ok-message-in-Ok.field-0-1 in
          let p = is_piece b d w.in-Ok.count c.loop.buffer.len c.read.new.buf (drop (length c.read.new.buf) c.loop.buffer.items) w.deref.result.now w.deref.ensures.value full size w.in-Ok.ensures.bytes.0 in
          let waits : Waits c.loop.reader s.bytes piece w.feed.new.self used =
          subst (λ o. IfNone o (Waits c.loop.reader s.bytes piece w.feed.new.self used)) w.in_default.is (w.in_ok-message-in-Ok.ensures.waits s.bytes s.stands) in
          (subst (Stands kind a d) (sym w.reader-is) (stands_waits kind a b d c.loop.reader w.feed.new.self piece used s p waits), size)
      | in-Err+else-ne w ↦ (subst (Stands kind a d) (sym w.reader-is) (stands_kept kind a b d c.loop.reader s w.in-Err.ensures.bytes), size)
    ]
