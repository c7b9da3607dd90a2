use Rattle.std.proofs.lemmas.Result.{on_ok_weaker}
use Rattle.fed_json.specs.JsonRef.{seen}
use Rattle.fed_json.proofs.ReadBack.{reads_as}
use Rattle.fed_json.proofs.json_ref.JsonRef.append_to.Goals as goal

pub returns-else-is_err-clause-reads_back : goal.returns-else-is_err-clause-reads_back
returns-else-is_err-clause-reads_back c =
    let r = c.args.self in
    on_ok_weaker c.append-written.result (reads_as (seen r) r.whole r.rising r.shallow) c.append-written.ensures.utf8
