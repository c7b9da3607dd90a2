use Rattle.std.proofs.Common.{arith, ◌-◌, length, take, drop, refl, subst}
use Rattle.fed_http.specs.Limits.{max_head}
use Rattle.fed_http.specs.FoundParts.{IsBodyAt, IsBodyFault, LacksBody}
use Rattle.fed_http.specs.KeepingParts.{IsFramedAt, LacksHead}
use Rattle.fed_http.specs.Waiting as waiting
use Rattle.fed_http.specs.declared.framing.Framing.{Framing}
use Rattle.fed_http.specs.declared.head.HeadSpans.{HeadSpans}
use Rattle.fed_http.proofs.Windows.{to_end}
use Rattle.fed_http.proofs.Lines.{on_some, on_none, passed_on}
use Rattle.fed_http.proofs.Finds.{IsTold, reaches, body_fault, body_waits, found_at}
use Rattle.fed_http.proofs.finding.find_message.Goals as goal

pub returns-in_err-head-clause-fault : goal.returns-in_err-head-clause-fault
returns-in_err-head-clause-fault c = passed_on c.from_residual.result (IsTold c.args.kind c.args.bytes.now) c.in_err-head.field-0.0 c.from_residual.ensures.1 c.in_err-head.ensures.fault

pub returns-in_default-clause-waiting : goal.returns-in_default-clause-waiting
returns-in_default-clause-waiting c =
    let lacks = on_none (LacksHead c.args.kind c.args.bytes.now) c.in_default.is c.in_ok-head.ensures.unfinished in
    waiting.head lacks.few lacks.unfinished

pub slice_bounds-find_body-count : goal.slice_bounds-find_body-count
slice_bounds-find_body-count c =
    let P : HeadSpans × Framing → Type 0 = λ found. IsFramedAt c.args.kind c.args.bytes.now c.find_framed.new.fields found.0 found.1 in
    (on_some P c.in-Some.is c.in_ok-head.ensures.found).1.fits

pub slice_bounds-find_body-start : goal.slice_bounds-find_body-start
slice_bounds-find_body-start c =
    let P : HeadSpans × Framing → Type 0 = λ found. IsFramedAt c.args.kind c.args.bytes.now c.find_framed.new.fields found.0 found.1 in
    let head = on_some P c.in-Some.is c.in_ok-head.ensures.found in
    omega (arith, head.1.fits)

pub returns-in_err-body-clause-fault : goal.returns-in_err-body-clause-fault
returns-in_err-body-clause-fault c =
    let kind = c.args.kind in
    let bytes = c.args.bytes.now in
    let headers = c.find_framed.new.fields in
    let P : HeadSpans × Framing → Type 0 = λ found. IsFramedAt kind bytes headers found.0 found.1 in
    let head = on_some P c.in-Some.is c.in_ok-head.ensures.found in
    let spans = c.in-Some.head in
    let framing = c.in-Some.framing in
    let at = reaches kind bytes (take max_head bytes) headers spans head.0 framing refl head.1.at (head.1.final, head.1.framed) in
    let f = c.in_err-body.field-0.0 in
    passed_on c.from_residual-in_err-body.result (IsTold kind bytes) f c.from_residual-in_err-body.ensures.1 (body_fault kind bytes (drop spans.len bytes) framing f at (subst (λ v. IsBodyFault framing v f) (to_end bytes spans.len) c.in_err-body.ensures.fault))

pub returns-in-Some-2-clause-found : goal.returns-in-Some-2-clause-found
returns-in-Some-2-clause-found c =
    let kind = c.args.kind in
    let bytes = c.args.bytes.now in
    let headers = c.find_framed.new.fields in
    let P : HeadSpans × Framing → Type 0 = λ found. IsFramedAt kind bytes headers found.0 found.1 in
    let head = on_some P c.in-Some.is c.in_ok-head.ensures.found in
    let spans = c.in-Some.head in
    let framing = c.in-Some.framing in
    found_at kind bytes (take max_head bytes) headers spans head.0 framing c.in-Some-2.body refl head.1.at (head.1.final, head.1.framed)
    (subst (λ v. IsBodyAt framing v c.in-Some-2.body) (to_end bytes spans.len) (on_some (IsBodyAt framing (take (length bytes - spans.len) (drop spans.len bytes))) c.in-Some-2.is c.in_ok-body.ensures.found))

pub returns-in-None-clause-waiting : goal.returns-in-None-clause-waiting
returns-in-None-clause-waiting c =
    let kind = c.args.kind in
    let bytes = c.args.bytes.now in
    let headers = c.find_framed.new.fields in
    let P : HeadSpans × Framing → Type 0 = λ found. IsFramedAt kind bytes headers found.0 found.1 in
    let head = on_some P c.in-Some.is c.in_ok-head.ensures.found in
    let spans = c.in-Some.head in
    let framing = c.in-Some.framing in
    let at = reaches kind bytes (take max_head bytes) headers spans head.0 framing refl head.1.at (head.1.final, head.1.framed) in
    body_waits kind bytes (drop spans.len bytes) framing at
    (subst (LacksBody framing) (to_end bytes spans.len) (on_none (LacksBody framing (take (length bytes - spans.len) (drop spans.len bytes))) c.in-None.is c.in_ok-body.ensures.unfinished))
