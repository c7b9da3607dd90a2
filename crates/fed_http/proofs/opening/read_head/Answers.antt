use Rattle.std.proofs.Common.{take, refl}
use Rattle.fed_http.specs.Limits.{max_head}
use Rattle.fed_http.specs.KeepingParts.{IsFramedAt}
use Rattle.fed_http.specs.declared.framing.Framing.{Framing}
use Rattle.fed_http.specs.declared.head.HeadSpans.{HeadSpans}
use Rattle.fed_http.proofs.Lines.{on_some}
use Rattle.fed_http.proofs.Finds.{reads_all}
use Rattle.fed_http.proofs.opening.read_head.Goals as goal

pub returns-clause-opening : goal.returns-clause-opening
returns-clause-opening c =
    let bytes = c.args.bytes.now in
    let headers = c.find_framed.new.fields in
    let P : HeadSpans × Framing → Type 0 = λ found. IsFramedAt c.args.kind bytes headers found.0 found.1 in
    let head = on_some P c.in-Some.is c.in_ok-head.ensures.found in
    record {
      head = head.0;
      reads = reads_all c.args.kind bytes (take max_head bytes) headers c.in-Some.head head.0 refl head.1.at;
      within = head.1.at.within;
      final = head.1.final;
      framed = head.1.framed;
      len = head.1.at.len;
      message = c.in_ok-message.ensures head.0 head.1.at;
    }
