use Rattle.std.proofs.Common.{◌≡◌, ◌+◌, ◌-◌, length, slice_range, ap, ◌∙◌, rules}
use Rattle.std.specs.List.{after_first, position_or_len}
use Rattle.fed_app.specs.Input.{is_newline, ahead_of}
use Rattle.fed_app.proofs.LineLemmas.{slice_end}
use Rattle.fed_app.proofs.input.Input.take_piece.Goals as goal

pub returns-clause-rest : goal.returns-clause-rest
returns-clause-rest g c =
    let w = c.args.self.now in
    let rest : c.split_at_newline-found.result.1.now ≡ after_first is_newline (ahead_of w) = search rules in
    ap (λ l. slice_range w.buffer.items (w.end - length l) w.end) rest
    ∙ slice_end w.buffer.items w.start w.end (position_or_len is_newline (ahead_of w) + 1) (search rules) (search rules)
