use Rattle.std.proofs.Common.{◌≡◌, ◌++◌, [], take, drop, refl, sym, ap, ◌∙◌, subst, append-nil, drop_of_length-le, rules}
use Rattle.std.specs.Io.KnownBytes.{Appends}
use Rattle.fed_http.proofs.Writes.{appends_none, appends_both, appends_kept, moves_front, moved, kept}
use Rattle.fed_http.proofs.sending.write_whole.Goals.{in-Ok, in-Err+else-ne}
use Rattle.fed_http.proofs.sending.write_whole.Goals as goal

pub loop-init : goal.loop-init
loop-init g c = ([], refl, appends_none _)

pub returns-then-is_empty-clause-written : goal.returns-then-is_empty-clause-written
returns-then-is_empty-clause-written g c =
    let (front, split, appended) = c.loop.invariant in
    let rest = c.loop.rest.now in
    let empty : rest ≡ [] = drop_of_length-le rest {i = 0} (search rules) in
    subst (Appends _ _) (sym (split ∙ ap (λ l. front ++ l) empty ∙ append-nil front)) appended

pub returns-in-Ok-eq0-clause-written : goal.returns-in-Ok-eq0-clause-written
returns-in-Ok-eq0-clause-written g c =
    let (front, split, appended) = c.loop.invariant in
    let rest = c.loop.rest.now in
    (front ++ take 0 rest, drop 0 rest, moves_front _ front rest 0 split, appends_both _ _ _ _ _ appended (search rules))

pub returns-then-ne-clause-written : goal.returns-then-ne-clause-written
returns-then-ne-clause-written g c =
    let (front, split, appended) = c.loop.invariant in
    (front, c.loop.rest.now, split, appends_kept _ _ _ _ appended (search rules))

pub returns-clause-written : goal.returns-clause-written
returns-clause-written g c =
    let (front, split, appended) = c.loop.invariant in
    (front, c.loop.rest.now, split, appended)

pub loop-preserved : goal.loop-preserved
loop-preserved g c =
    let (front, split, appended) = c.loop.invariant in
    elim c.match-write.branch [
      | in-Ok w ↦ moved _ _ _ _ front c.loop.rest.now _ w.in-Ok.written split appended w.in-Ok.ensures.bytes (ap (λ r. r.now) w.rest-is)
      | in-Err+else-ne w ↦ kept _ _ _ _ front c.loop.rest.now _ split appended w.in-Err.ensures.bytes (ap (λ r. r.now) w.rest-is)
    ]
