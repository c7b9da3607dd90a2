use Rattle.fed_txn.proofs.Bodies.{fault_of_read}
use Rattle.fed_txn.proofs.reading.read.Goals as goal

pub returns-clause-fault : goal.returns-clause-fault
returns-clause-fault c = fault_of_read c.args.body.now c.in_ok-body.body c.of_json.result c.in_ok-body.ensures.ok c.of_json.ensures.fault c.of_json.ensures.only
