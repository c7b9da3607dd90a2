use Rattle.fed_event.proofs.SealedParts.{get-sealed, get-sealed_hashes, get-sealed_signatures}
use Rattle.fed_event.proofs.laws.what_is_sealed.Goals as goal

pub returns-clause-parts : goal.returns-clause-parts
returns-clause-parts c = get-sealed

pub returns-clause-hashes : goal.returns-clause-hashes
returns-clause-hashes c = get-sealed_hashes

pub returns-clause-signatures : goal.returns-clause-signatures
returns-clause-signatures c = get-sealed_signatures
