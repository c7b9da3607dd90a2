use Rattle.std.proofs.Common.{◌≡◌, drop}
use Rattle.std.specs.List.{fold}
use Rattle.fed_room_contract.specs.Tags.{tag_step, tag_of_text}
use Rattle.fed_room_contract.proofs.tag.tag_of_text.Given as goal

-- what is left makes the tag
abbrev pub invariant-loop-byte : goal.invariant-loop-byte
invariant-loop-byte l = fold tag_step l.tag (drop l.byte-index l.byte-items) ≡ tag_of_text l.start l.text
