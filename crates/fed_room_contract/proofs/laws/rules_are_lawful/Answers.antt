use Rattle.fed_room_contract.proofs.laws.rules_are_lawful.Goals as goal

pub returns : goal.returns
returns g c = λ engine. g.met.R.RoomEngine.lawful engine
