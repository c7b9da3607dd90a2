use Rattle.std.proofs.Common.{◌≡◌, length, take, Ok, sym, ap, ◌∙◌, arith}
use Rattle.std.proofs.lemmas.Grind.{common_steps}
use Rattle.base64.specs.Engines.{url_safe_no_pad}
use Rattle.base64.specs.GeneralPurpose.{decode_of}
use Rattle.fed_replies.proofs.HashIds.{no_hash_of_nothing, no_hash_of_another, no_hash_of_size, behind_bytes, decoded_as, plain_id}
use Rattle.fed_replies.proofs.hash_id.hash_of.Goals as goal

pub returns-in_default-clause-hash : goal.returns-in_default-clause-hash
returns-in_default-clause-hash c = no_hash_of_nothing c.args.id.now c.in_default.ensures.cases

pub returns-then-sigil-ne36-clause-hash : goal.returns-then-sigil-ne36-clause-hash
returns-then-sigil-ne36-clause-hash c = no_hash_of_another c.args.id.now c.in-Some.sigil.now c.in-Some.symbols.now c.in-Some.ensures.cases.0 c.if-sigil-ne36.true

pub returns-then-symbols-ne-SYMBOLS-clause-hash : goal.returns-then-symbols-ne-SYMBOLS-clause-hash
returns-then-symbols-ne-SYMBOLS-clause-hash c = no_hash_of_size c.args.id.now c.in-Some.sigil.now c.in-Some.symbols.now c.in-Some.ensures.cases.0 c.if-symbols-ne-SYMBOLS.true

pub returns-clause-hash : goal.returns-clause-hash
returns-clause-hash c =
    let hash = c.copy_from_slice.new.self in
    let is : c.copy_from_slice.new.self ≡ take c.in-Ok.len c.decode_slice_unchecked.new.output = grind (arith, common_steps) in
    let decoded : decode_of url_safe_no_pad c.in-Some.symbols.now ≡ Ok c.copy_from_slice.new.self = c.in-Ok.ensures.ok.0 ∙ ap Ok (sym is) in
    let size : length c.copy_from_slice.new.self ≡ 32 = omega (arith, c.copy_from_slice.ensures.len) in
    decoded_as c.args.id.now c.in-Some.sigil.now c.in-Some.symbols.now c.in-Some.ensures.cases.0 c.copy_from_slice.new.self c.if-sigil-ne36.false
    (behind_bytes c.args.id.now c.in-Some.sigil.now c.in-Some.symbols.now c.in-Some.ensures.cases.0 (λ k. let fits = c.type_inv.id k in omega arith)) decoded size

pub returns-clause-plain : goal.returns-clause-plain
returns-clause-plain c = plain_id c.copy_from_slice.new.self c.args.id.now c.are_bytes.ensures (returns-clause-hash c)
