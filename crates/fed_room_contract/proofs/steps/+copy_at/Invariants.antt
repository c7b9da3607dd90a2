use Rattle.fed_room_contract.proofs.steps.+copy_at.Given as goal

abbrev pub decreases-copy_at : goal.decreases-copy_at
decreases-copy_at l = l.place
