use Rattle.std.proofs.Common.{rules, ◌≡◌, ◌==◌, ◌&&◌, not, sym, ap, subst, ◌∙◌}
use Rattle.std.specs.List.{filter}
use Rattle.std.specs.List.Sorted.{IsStrictlyIncreasing}
use Rattle.std.proofs.lemmas.Fn.{filter_same}
use Rattle.std.proofs.lemmas.List.Kept.{IsStrictlyIncreasing-filter}
use Rattle.fed_dest.specs.ServerSet.{is_among}
use Rattle.fed_dest.specs.Joined.{is_joined_place}
use Rattle.fed_dest.proofs.Joinings.{without_one}
use Rattle.fed_dest.proofs.joined.destinations.Goals as goal

pub of-requires : goal.of-requires
of-requires c =
    let others = c.into_vec-others.result.items in
    let kept : c.retain.new.self.items ≡ filter (λ server. not (server == c.args.own)) others =
    filter_same _ (λ server. not (server == c.args.own)) _ (λ x b f called. search rules) others c.retain.new.self.items c.retain.ensures.filtered in
    let rising : IsStrictlyIncreasing others = subst IsStrictlyIncreasing (sym c.into_vec-others.ensures.servers) c.into_vec-others.ensures.rising in
    subst IsStrictlyIncreasing (sym kept) (IsStrictlyIncreasing-filter (λ server. not (server == c.args.own)) others rising)

pub returns : goal.returns
returns c = λ place.
    let own = c.args.own in
    let others = c.into_vec-others.result.items in
    let kept : c.retain.new.self.items ≡ filter (λ server. not (server == own)) others =
    filter_same _ (λ server. not (server == own)) _ (λ x b f called. search rules) others c.retain.new.self.items c.retain.ensures.filtered in
    let joined : is_among others place ≡ is_joined_place c.args.graph.now.stored c.args.state.now c.args.servers.now place =
    ap (λ xs. is_among xs place) c.into_vec-others.ensures.servers ∙ c.in_ok-joined_servers.ensures place in
    ap (λ xs. is_among xs place) (c.of.ensures ∙ kept) ∙ without_one own place others ∙ ap (λ b. not (place == own) && b) joined
