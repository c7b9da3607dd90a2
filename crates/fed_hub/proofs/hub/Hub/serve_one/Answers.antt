use Rattle.fed_hub.proofs.hub.Hub.serve_one.Goals as goal

pub serve_one-requires : goal.serve_one-requires
serve_one-requires g c = c.self.invariant.8.same_checks
