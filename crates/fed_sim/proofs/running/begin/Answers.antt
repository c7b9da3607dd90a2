use Rattle.std.proofs.Common.{List, map, string_bytes, String, Global, ap, ◌∙◌, subst}
use Rattle.std.specs.List.Sorted.{IsPermutation}
use Rattle.std.proofs.lemmas.Result.{err_from_is_err_and}
use Rattle.fed_sim.specs.declared.setup.RoomSetup.{RoomSetup}
use Rattle.fed_sim.specs.Running.{Begins, IsBeginning, HasNoStart, no_start, begins_run}
use Rattle.fed_sim.specs.WorldFields.{world_with}
use Rattle.fed_sim.proofs.Starts.{begins_so}
use Rattle.fed_sim.proofs.Worlds.{seen_of}
use Rattle.fed_sim.proofs.running.begin.Goals as goal

pub invariant_of-result-clause-comes : goal.invariant_of-result-clause-comes
invariant_of-result-clause-comes c =
    let names = c.in_ok-list.list in
    let ids = c.in_ok-known.known.items in
    let begins : Begins c.args.setup.now (world_with names ids c.args.setup.now.epoch c.in_ok-servers.servers.items c.new.result.items 0) =
    begins_so c.args.setup.now names ids c.in_ok-servers.servers.items c.new.result.items (subst (λ ns. IsPermutation ns names) c.deref.ensures.value c.in_ok-list.ensures.names) c.in_ok-list.ensures.order
    (c.in_ok-known.ensures ∙ ap (map (λ (r : RoomSetup). string_bytes r.id)) c.deref-2.ensures.value) c.in_ok-servers.ensures.count
    (λ k s here. subst (λ (rooms : List RoomSetup). IsBeginning names (map string_bytes ids) rooms k (seen_of s)) c.deref-4.ensures.value
    (subst (λ (ks : List (String Global)). IsBeginning names (map string_bytes ks) c.deref-4.result.now k (seen_of s)) c.deref-3.ensures.value (c.in_ok-servers.ensures.each k s here)))
    c.new.ensures.items in
    ∣ begins_run c.args.setup.now _ begins ∣₁

pub returns-clause-begins : goal.returns-clause-begins
returns-clause-begins c =
    let names = c.in_ok-list.list in
    let ids = c.in_ok-known.known.items in
    begins_so c.args.setup.now names ids c.in_ok-servers.servers.items c.new.result.items (subst (λ ns. IsPermutation ns names) c.deref.ensures.value c.in_ok-list.ensures.names) c.in_ok-list.ensures.order
    (c.in_ok-known.ensures ∙ ap (map (λ (r : RoomSetup). string_bytes r.id)) c.deref-2.ensures.value) c.in_ok-servers.ensures.count
    (λ k s here. subst (λ (rooms : List RoomSetup). IsBeginning names (map string_bytes ids) rooms k (seen_of s)) c.deref-4.ensures.value
    (subst (λ (ks : List (String Global)). IsBeginning names (map string_bytes ks) c.deref-4.result.now k (seen_of s)) c.deref-3.ensures.value (c.in_ok-servers.ensures.each k s here)))
    c.new.ensures.items

pub returns-in_err-servers-clause-bad_only : goal.returns-in_err-servers-clause-bad_only
returns-in_err-servers-clause-bad_only c =
    let p = err_from_is_err_and c.from_residual-in_err-servers.result c.from_residual-in_err-servers.ensures.1 in
    let names = c.in_ok-list.list in
    rw (p.1, p.2)
    (λ bad. no_start names (subst (λ ns. IsPermutation ns names) c.deref.ensures.value c.in_ok-list.ensures.names) c.in_ok-list.ensures.order
    (subst (λ (rooms : List RoomSetup). HasNoStart names rooms) c.deref-4.ensures.value (c.in_err-servers.ensures.bad bad)))
