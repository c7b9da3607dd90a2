use Rattle.std.proofs.Common.{◌≡◌, not, take, sym, ap, ◌∙◌}
use Rattle.std.specs.List.{insert, position_or_len}
use Rattle.std.specs.Ordering.{is_lt}
use Rattle.fed_room.specs.Links.{tip_cmp}
use Rattle.fed_room.proofs.Tips.{tip-inserted}
use Rattle.fed_room.proofs.links.add.Goals as goal

pub returns : goal.returns
returns c =
    let events = c.args.graph.now.stored in
    let sorted = c.args.sorted.now.items in
    let id = c.args.id in
    let place : c.place_for-place.result ≡ position_or_len (λ other. not (is_lt (tip_cmp events other id))) sorted = c.place_for-place.ensures.place ∙ ap (λ ids. position_or_len (λ other. not (is_lt (tip_cmp events other id))) ids) c.deref.ensures.value in
    c.truncate.ensures.items ∙ ap (take 20) (c.in_ok-insert.ensures.items ∙ ap (λ place. insert sorted place id) place ∙ sym (tip-inserted events id sorted))
