use Rattle.std.proofs.Common.{◌≡◌, ◌++◌, ap, ◌∙◌, sym}
use Rattle.serde_json.specs.Written.{compact_text}
use Rattle.fed_json.specs.Tree.{view}
use Rattle.fed_json.proofs.CanonicalTexts.{text_has}
use Rattle.fed_json.proofs.ReadBack.{reads_as}
use Rattle.fed_json.proofs.writing.canonical.Goals as goal

pub returns-in_err-text-clause-profile : goal.returns-in_err-text-clause-profile
returns-in_err-text-clause-profile c = rw (sym c.json.view_is) (record { whole = c.json.invariant.whole; rising = c.json.invariant.rising })

pub returns-clause-canonical : goal.returns-clause-canonical
returns-clause-canonical c =
    let d = view c.json.inside.value in
    let written : c.append.new.out.items ≡ compact_text d = c.in_ok-append.ensures.ok ∙ ap (λ s. s ++ compact_text d) c.in_ok-text.ensures.items in
    rw (sym c.json.view_is, written) (text_has d c.json.invariant.whole c.json.invariant.rising)

pub returns-clause-reads_back : goal.returns-clause-reads_back
returns-clause-reads_back c =
    let d = view c.json.inside.value in
    let written : c.append.new.out.items ≡ compact_text d = c.in_ok-append.ensures.ok ∙ ap (λ s. s ++ compact_text d) c.in_ok-text.ensures.items in
    rw (sym c.json.view_is, written) (reads_as d c.json.invariant.whole c.json.invariant.rising c.json.invariant.shallow c.in_ok-append.ensures.utf8)
