use Rattle.std.proofs.Common.{refl}
use Rattle.fed_http.specs.declared.message.Kind.TheVariants.{Requests}
use Rattle.fed_http.proofs.Feeds.{empty_has_no_text}
use Rattle.fed_http.proofs.Kept.{begins_sound}
use Rattle.fed_http.proofs.reader.Reader.requests.Goals as goal

pub invariant_of-result : goal.invariant_of-result
invariant_of-result c = begins_sound Requests c.new.result c.new.ensures.kept c.new.ensures.place

pub returns-clause-stands : goal.returns-clause-stands
returns-clause-stands c = record { live = refl; none = empty_has_no_text Requests; kept = c.new.ensures.kept Requests }
