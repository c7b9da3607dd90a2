use Rattle.std.proofs.Common.{rules, ◌≡◌, ◌==◌, ◌+◌, ◌++◌, ◌∷◌, [], ◌||◌, ℕ, Bool, Option, None, map, take, false, true, sym, ap, ◌∙◌}
use Rattle.std.specs.FinMap as finite
use Rattle.std.specs.List.{list_any}
use Rattle.std.proofs.lemmas.List.Sorted.{list_any-IsPermutation}
use Rattle.fed_room_contract.specs.declared.entry.Entry.{Entry}
use Rattle.fed_room_contract.specs.Entry.{seen}
use Rattle.fed_dest.specs.ServerSet.{is_among}
use Rattle.fed_dest.specs.JoinedParts.{joined_by, joins_place}
use Rattle.fed_dest.proofs.Joinings.{none_apart, none_among, one_apart, same_apart, one_among, had_among, same_among, gathered, sorted_rise, take_all, all_joined}
use Rattle.fed_dest.proofs.joined.joined_servers.Goals as goal
use Rattle.fed_dest.proofs.joined.joined_servers.Goals.{in-Some+then-not-contains+in_ok-push, in_default, in_default-via-in-None-1, in_default-via-in-Some+else-not-contains}

pub loop-entry-init : goal.loop-entry-init
loop-entry-init c = record { apart = none_apart c.in_ok-joined.joined.items (search rules); among = none_among c.in_ok-joined.joined.items (search rules) }

pub loop-entry-preserved : goal.loop-entry-preserved
loop-entry-preserved c =
    let before = c.loop-entry.joined.items in
    let after = c.match-server_joined_by.joined.items in
    let kept = c.loop-entry.invariant in
    let test : ℕ → Entry → Bool = λ place entry. joins_place c.args.graph.now.stored c.args.servers.now place (seen entry) in
    let o : Option ℕ = joined_by c.args.graph.now.stored c.args.servers.now (seen c.entry-item.result) in
    let so_far : ((place : ℕ) → is_among after place ≡ (is_among before place || test place c.entry-item.result)) → (place : ℕ) → is_among after place ≡ list_any (test place) (take (c.loop-entry.entry-index + 1) c.deref-entry-items.result.now) =
    gathered test c.deref-entry-items.result.now c.loop-entry.entry-index c.entry-item.result before after c.loop-entry-test.true c.entry-item.is kept.among in
    elim c.match-server_joined_by.branch [
      | in-Some+then-not-contains+in_ok-push w ↦
          let server = w.in-Some.server in
          let grown : after ≡ before ++ server ∷ [] = ap (λ v. v.items) w.joined-is ∙ w.in_ok-push.ensures.items in
          let new : is_among before server ≡ false = ap (λ xs. is_among xs server) (sym w.deref.ensures.value) ∙ sym w.contains.ensures.value ∙ w.if-not-contains.true in
          record { apart = one_apart before after server grown new kept.apart; among = so_far (one_among before after server o grown (sym c.server_joined_by.ensures ∙ w.in-Some.is)) }
      | in_default w ↦
          let same : after ≡ before = ap (λ v. v.items) w.joined-is in
          elim w.in_default.branch [
            | in_default-via-in-None-1 v ↦
                let none : c.server_joined_by.result ≡ None = search rules in
                record { apart = same_apart before after same kept.apart; among = so_far (same_among before after o same (sym c.server_joined_by.ensures ∙ none)) }
            | in_default-via-in-Some+else-not-contains v ↦
                let server = v.in-Some.server in
                let has : is_among before server ≡ true = ap (λ xs. is_among xs server) (sym v.deref.ensures.value) ∙ sym v.contains.ensures.value ∙ v.if-not-contains.false in
                record { apart = same_apart before after same kept.apart; among = so_far (had_among before after server o same has (sym c.server_joined_by.ensures ∙ v.in-Some.is)) }
          ]
    ]

pub of-requires : goal.of-requires
of-requires c = sorted_rise c.loop-entry.joined.items c.sort_unstable.new.self.items c.loop-entry.invariant.apart c.sort_unstable.ensures.permutation c.sort_unstable.ensures.sorted

pub returns : goal.returns
returns c = λ place.
    let events = c.args.graph.now.stored in
    let servers = c.args.servers.now in
    let entries = c.deref-entry-items.result.now in
    let whole : map seen entries ≡ finite.entries c.args.state.now = ap (map seen) c.deref-entry-items.ensures.value ∙ c.in_ok-entries.ensures in
    ap (λ xs. is_among xs place) c.of.ensures
    ∙ sym (list_any-IsPermutation (λ other. other == place) c.loop-entry.joined.items c.sort_unstable.new.self.items c.sort_unstable.ensures.permutation)
    ∙ c.loop-entry.invariant.among place
    ∙ ap (list_any (λ entry. joins_place events servers place (seen entry))) (take_all entries c.loop-entry.entry-index c.loop-entry-test.false)
    ∙ all_joined seen events servers c.args.state.now entries place c.len.ensures.order whole
