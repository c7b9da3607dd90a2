use Rattle.std.proofs.Common.{rules, ◌≡◌, ◌==◌, ◌&&◌, nat_lt, not, sym, subst, ap, ◌∙◌}
use Rattle.std.specs.List.{filter}
use Rattle.std.specs.List.Sorted.{IsStrictlyIncreasing}
use Rattle.std.proofs.lemmas.Fn.{filter_same}
use Rattle.std.proofs.lemmas.List.Kept.{IsStrictlyIncreasing-filter}
use Rattle.fed_sim.specs.Offering.{others_among}
use Rattle.fed_sim.proofs.offering.others_among.Goals as goal

pub of-requires : goal.of-requires
of-requires c =
    let others = c.into_vec-others.result.items in
    let kept : c.retain.new.self.items ≡ filter (λ server. not (server == c.args.own) && nat_lt server c.args.count) others =
    filter_same _ (λ server. not (server == c.args.own) && nat_lt server c.args.count) _ (λ x b f called. search rules) others c.retain.new.self.items c.retain.ensures.filtered in
    let rising : IsStrictlyIncreasing others = subst IsStrictlyIncreasing (sym c.into_vec-others.ensures.servers) c.into_vec-others.ensures.rising in
    subst IsStrictlyIncreasing (sym kept) (IsStrictlyIncreasing-filter (λ server. not (server == c.args.own) && nat_lt server c.args.count) others rising)

pub returns : goal.returns
returns c =
    let others = c.into_vec-others.result.items in
    c.of.ensures
    ∙ filter_same _ (λ server. not (server == c.args.own) && nat_lt server c.args.count) _ (λ x b f called. search rules) others c.retain.new.self.items c.retain.ensures.filtered
    ∙ ap (others_among c.args.own c.args.count) (c.into_vec-others.ensures.servers ∙ c.in_ok-copy.ensures)
