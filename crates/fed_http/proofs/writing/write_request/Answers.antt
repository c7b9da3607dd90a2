use Rattle.std.proofs.Common.{sym, subst}
use Rattle.std.proofs.Common.{arith}
use Rattle.std.proofs.lemmas.Grind.{common_steps}
use Rattle.fed_http.specs.Text.{IsRequestText}
use Rattle.fed_http.proofs.WrittenTexts.{request_text_is}
use Rattle.fed_http.proofs.writing.write_request.Goals as goal

pub returns-clause-exact : goal.returns-clause-exact
returns-clause-exact c = grind (arith, common_steps)

pub returns-clause-read_back : goal.returns-clause-read_back
returns-clause-read_back c = λ is. subst (IsRequestText c.args.request.now) (sym (returns-clause-exact c)) (request_text_is c.args.request.now is)
