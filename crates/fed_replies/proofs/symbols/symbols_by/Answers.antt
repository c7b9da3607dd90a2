use Rattle.std.proofs.Common.{◌≡◌, ◌+◌, ◌-◌, ◌*◌, take, sym, ap, subst, ◌∙◌, arith}
use Rattle.fed_replies.specs.Plain.{IsPlain}
use Rattle.fed_replies.specs.Symbols.{alphabet}
use Rattle.fed_replies.proofs.HashIds.{plain_hash}
use Rattle.fed_replies.proofs.SymbolPairs.{groups-written, last-written}
use Rattle.fed_replies.proofs.symbols.symbols_by.Goals as goal

pub words-preserved : goal.words-preserved
words-preserved c =
    let width : 6 * c.words.word + 8 - 6 * c.words.word ≡ 8 = omega arith in
    groups-written alphabet c.args.hash.now c.words.symbols c.copy_from_slice.new.self _ c.words.word _ c.words.invariant (omega arith) (omega arith) (omega arith)
    (rw width at c.copy_from_slice.ensures.after) (c.copy_from_slice-in-words.ensures.after ∙ c.symbol_groups.ensures)

pub returns-clause-symbols : goal.returns-clause-symbols
returns-clause-symbols c =
    let done : c.words.word ≡ 5 = omega arith in
    let held = rw done at c.words.invariant in
    last-written alphabet c.args.hash.now c.words.symbols _ (omega arith) (omega arith) held (c.copy_from_slice-2.ensures.after ∙ ap (take 3) c.symbol_group-last.ensures)

pub returns-clause-plain : goal.returns-clause-plain
returns-clause-plain c = subst IsPlain (sym (returns-clause-symbols c)) (plain_hash c.args.hash.now (λ k. let fits = c.fits-hash k in omega arith))
