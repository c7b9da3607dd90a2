use Rattle.std.proofs.Common.{rules}
use Rattle.fed_room_contract.specs.Tags.{tag_of_text}
use Rattle.fed_room_contract.proofs.tag.tag_of_text.Goals as goal

pub loop-byte-init : goal.loop-byte-init
unfolding tag_of_text
loop-byte-init c = search rules
