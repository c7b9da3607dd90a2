use Rattle.std.proofs.Common.{rules, subst, sym, ◌↔◌, ◌≡◌, IsTrue, bytes_eq}
use Rattle.std.specs.Cmp.Lexicographic.{bytes_decides}
use Rattle.fed_dest.proofs.server_set.ServerSetPartialEq.eq.Goals as goal

pub returns-clause-places : goal.returns-clause-places
returns-clause-places c = Prim.search rules

pub returns-clause-same : goal.returns-clause-same
returns-clause-same c =
    let decides : IsTrue (bytes_eq c.args.self.now c.args.other.now) ↔ (c.args.self.now ≡ c.args.other.now) = bytes_decides c.args.self.now c.args.other.now in
    subst (λ told. IsTrue told ↔ (c.args.self.now ≡ c.args.other.now)) (sym (returns-clause-places c)) decides
