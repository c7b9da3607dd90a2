use Rattle.std.proofs.Common.{refl}
use Rattle.fed_http.proofs.Feeds.{nothing_kept}
use Rattle.fed_http.proofs.state.State.new.Goals as goal

pub returns-clause-kept : goal.returns-clause-kept
returns-clause-kept c kind = nothing_kept kind _ refl refl c.new.ensures.items c.new-2.ensures.items
