use Rattle.std.proofs.Common.{arith, ◌≡◌, Some, length, map, string_bytes, sym, ap, ◌∙◌, subst}
use Rattle.std.specs.List.{slice_get}
use Rattle.std.proofs.lemmas.List.{length-append}
use Rattle.std.proofs.lemmas.Option.{none-some}
use Rattle.std.proofs.lemmas.Result.{err_from_is_err_and}
use Rattle.fed_sim.specs.NewServer.{IsNewServer}
use Rattle.fed_sim.specs.declared.server.Server.{Server}
use Rattle.fed_sim.specs.Running.{IsBeginning, HasNoStart}
use Rattle.fed_sim.specs.Starts.{AreStarts}
use Rattle.fed_sim.specs.ServerParts.{server_of}
use Rattle.fed_sim.proofs.Built.{each_pushed}
use Rattle.fed_sim.proofs.Starts.{begun_with, none_accepted, is_beginning}
use Rattle.fed_sim.proofs.running.servers.Goals as goal

pub loop-place-init : goal.loop-place-init
loop-place-init c = (ap length c.in_ok-servers.ensures.items, λ k s here. absurd (none-some s (ap (λ ss. slice_get ss k) (sym c.in_ok-servers.ensures.items) ∙ here)))

pub loop-place-preserved : goal.loop-place-preserved
loop-place-preserved c =
    let more = c.in_ok-push.ensures.items in
    let longer = ap length more ∙ length-append c.loop-place.servers.items _ in
    let count = c.loop-place.invariant.0 in
    let names = c.args.list.now in
    let known = map string_bytes c.args.known.now in
    let rooms = c.args.rooms.now in
    let starts = c.deref-in-loop-place.result.now in
    let hosted = c.in_ok-hosted.hosted.items in
    let place = c.new-own.ensures ∙ sym count in
    let made : AreStarts names rooms starts =
    subst (λ all. AreStarts all rooms starts) (c.deref.ensures.value ∙ c.in_ok-keys.ensures)
    (subst (AreStarts c.deref.result.now rooms) (sym c.deref-in-loop-place.ensures.value) c.in_ok-starts.ensures.each) in (
      omega (arith, longer, count),
      each_pushed (λ k (s : Server). IsBeginning names known rooms k (server_of s)) c.loop-place.servers.items c.push.new.self.items c.in_ok-new.field-0 more c.loop-place.invariant.1
          (is_beginning names known rooms (length c.loop-place.servers.items) (server_of c.in_ok-new.field-0) hosted c.name.result.now
          (c.in_ok-hosted.ensures.count ∙ ap length c.deref-in-loop-place.ensures.value ∙ c.in_ok-starts.ensures.count)
          (subst (λ k. IsNewServer names known k hosted (server_of c.in_ok-new.field-0)) place c.in_ok-new.ensures) (subst (λ k. slice_get names k ≡ Some c.name.result.now) place c.name.ensures.text)
          (begun_with names c.name.result.now rooms starts hosted c.in_ok-hosted.ensures.count made c.in_ok-hosted.ensures.each)),
    )

pub returns-clause-count : goal.returns-clause-count
returns-clause-count c = let count = c.loop-place.invariant.0 in let at = c.loop-place.auto.place-end in omega (arith, count, at, c.loop-place-test.false, c.len-count.ensures.len)

pub returns-clause-each : goal.returns-clause-each
returns-clause-each c = c.loop-place.invariant.1

pub returns-in_err-starts-clause-bad : goal.returns-in_err-starts-clause-bad
returns-in_err-starts-clause-bad c =
    let p = err_from_is_err_and c.from_residual-in_err-starts.result c.from_residual-in_err-starts.ensures.1 in
    rw (p.1, p.2) (λ bad. subst (λ names. HasNoStart names c.args.rooms.now) (c.deref.ensures.value ∙ c.in_ok-keys.ensures) (c.in_err-starts.ensures.bad bad))

pub returns-in_err-hosted-clause-bad : goal.returns-in_err-hosted-clause-bad
returns-in_err-hosted-clause-bad c =
    let p = err_from_is_err_and c.from_residual-in_err-hosted.result c.from_residual-in_err-hosted.ensures.1 in
    let names = c.args.list.now in
    let rooms = c.args.rooms.now in
    let starts = c.deref-in-loop-place.result.now in
    let made : AreStarts names rooms starts =
    subst (λ all. AreStarts all rooms starts) (c.deref.ensures.value ∙ c.in_ok-keys.ensures)
    (subst (AreStarts c.deref.result.now rooms) (sym c.deref-in-loop-place.ensures.value) c.in_ok-starts.ensures.each) in
    rw (p.1, p.2) (λ bad. none_accepted names rooms starts (ap length c.deref-in-loop-place.ensures.value ∙ c.in_ok-starts.ensures.count) made (c.in_err-hosted.ensures.bad bad))
