use Rattle.std.proofs.Common.{rules, ◌≡◌, not, sym, subst, ap, ◌∙◌}
use Rattle.std.specs.List.{filter}
use Rattle.std.specs.List.Sorted.{IsStrictlyIncreasing}
use Rattle.std.proofs.lemmas.Fn.{filter_same}
use Rattle.std.proofs.lemmas.List.Kept.{IsStrictlyIncreasing-filter}
use Rattle.fed_journal.specs.Journal.{is_closed}
use Rattle.fed_journal.specs.Offering.{open_among}
use Rattle.fed_sim.proofs.entering.open_among.Goals as goal

pub of-requires : goal.of-requires
of-requires c =
    let open_ones = c.into_vec-open.result.items in
    let kept : c.retain.new.self.items ≡ filter (λ dest. not (is_closed c.args.journal.now.entries dest)) open_ones =
    filter_same _ (λ dest. not (is_closed c.args.journal.now.entries dest)) _ (λ x b f called. search rules) open_ones c.retain.new.self.items c.retain.ensures.filtered in
    let rising : IsStrictlyIncreasing open_ones = subst IsStrictlyIncreasing (sym c.into_vec-open.ensures.servers) c.into_vec-open.ensures.rising in
    subst IsStrictlyIncreasing (sym kept) (IsStrictlyIncreasing-filter (λ dest. not (is_closed c.args.journal.now.entries dest)) open_ones rising)

pub returns : goal.returns
returns c =
    let others = c.into_vec-open.result.items in
    c.of.ensures
    ∙ filter_same _ (λ dest. not (is_closed c.args.journal.now.entries dest)) _ (λ x b f called. search rules) others c.retain.new.self.items c.retain.ensures.filtered
    ∙ ap (open_among c.args.journal.now.entries) (c.into_vec-open.ensures.servers ∙ c.in_ok-copy.ensures)
