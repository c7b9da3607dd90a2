use Rattle.std.proofs.Common.{arith, ◌≡◌, Bool, [], ◌∷◌, ◌++◌, length, if◌then◌else◌, refl, sym, ap, ◌∙◌}
use Rattle.std.proofs.lemmas.List.{with_items_is, length-map}
use Rattle.fed_journal.specs.declared.entry.Entry.TheVariants as entry
use Rattle.fed_sim.specs.declared.entering.Entered.{Entered}
use Rattle.fed_journal.specs.declared.offered.Offered.TheVariants as offered
use Rattle.fed_sim.specs.declared.outcome.EduRefusal.TheVariants as edu
use Rattle.fed_sim.specs.declared.outcome.Outcome.TheVariants.{EduSent, EduNotSent}
use Rattle.fed_sim.specs.Way.{WayState, ways_of}
use Rattle.fed_journal.specs.Offering.{has_place, open_among}
use Rattle.fed_sim.specs.Ways.{ways_beyond}
use Rattle.fed_sim.specs.Sending.{ways_after}
use Rattle.fed_sim.specs.Offering.{IsEduOffered, others_among, with_journal}
use Rattle.fed_dest.specs.ServerSet.{is_among}
use Rattle.fed_sim.proofs.Places.{among_others}
use Rattle.fed_sim.proofs.Offers.{edu_refused, edu_limit, edu_enters}
use Rattle.fed_sim.specs.ServerParts.{server_of}
use Rattle.fed_sim.proofs.Servers.{same_at, same_step, told_some, told_none}
use Rattle.fed_sim.proofs.server.Server.offer_edu.Goals as goal

pub enter-requires : goal.enter-requires
enter-requires c = λ d among.
    let within = among_others c.args.self.now.own c.len.result c.args.dests.now d (ap (λ ds. is_among ds d) (sym c.in_ok-dests.ensures) ∙ among) in
    omega (arith, within, c.args.self.now.ways.ok.0, c.len.ensures, ap length c.deref_mut.ensures.value)

pub returns-in-Some-clause-offered : goal.returns-in-Some-clause-offered
returns-in-Some-clause-offered c = edu_refused c.args.edu.now c.args.dests.now (server_of c.args.self.now) c.in-Some.fault (sym c.in_ok-fault.ensures.fault ∙ c.in-Some.is)

pub returns-in-Some-2-clause-offered : goal.returns-in-Some-2-clause-offered
returns-in-Some-2-clause-offered c =
    let old = server_of c.args.self.now in
    let entries = c.args.self.now.journal.entries in
    let ways = ways_of c.args.self.now.ways.items in
    let value = c.args.edu.now in
    let wanted = others_among old.own (length ways) c.args.dests.now in
    let count : c.len.result ≡ length ways = let all = length-map c.args.self.now.ways.items (λ (l : WayState). l.way) in let size = c.args.self.now.ways.ok.0 in omega (arith, all, size, c.len.ensures) in
    let dests : c.in_ok-dests.dests ≡ wanted = c.in_ok-dests.ensures ∙ ap (λ n. others_among old.own n c.args.dests.now) count in
    let same : c.in_ok-copy.field-0 ≡ value = c.in_ok-copy.ensures in
    let told = told_some (offered.Edu c.in_ok-copy.field-0) c.in_ok-dests.dests entries c.in_ok-dests-2.field-0 c.in-Some-2.field-0 c.in_ok-dests-2.ensures.told c.in-Some-2.is in
    same_step (IsEduOffered value c.args.dests.now old) (EduSent (open_among entries wanted)) (EduSent c.in-Some-2.field-0.dests) (with_journal old (entries ++ entry.Edu value wanted ∷ [])) _
    (ap (λ ds. EduSent (open_among entries ds)) (sym dests) ∙ ap (λ (e : Entered). EduSent e.dests) (sym told.1))
    (same_at old _ _ _ _
    (sym (c.in_ok-dests-2.ensures.entries ∙ ap (λ (b : Bool). if b then entries ++ entry.Edu c.in_ok-copy.field-0 c.in_ok-dests.dests ∷ [] else entries) told.0 ∙ (λ i. entries ++ entry.Edu (same i) (dests i) ∷ [])))
    (sym (ap ways_of (with_items_is c.args.self.now.ways c.enter.new.ways (omega (arith, c.in_ok-dests-2.ensures.count, ap length c.deref_mut.ensures.value, c.args.self.now.ways.ok.0)))
    ∙ c.in_ok-dests-2.ensures.ways ∙ ap (λ ls. ways_after (offered.Edu c.in_ok-copy.field-0) c.in_ok-dests.dests entries (ways_of ls)) c.deref_mut.ensures.value
    ∙ ap (λ (b : Bool). if b then ways_beyond 0 entries (entries ++ entry.Edu c.in_ok-copy.field-0 c.in_ok-dests.dests ∷ []) ways else ways) told.0 ∙ (λ i. ways_beyond 0 entries (entries ++ entry.Edu (same i) (dests i) ∷ []) ways))))
    (edu_enters value c.args.dests.now old (sym c.in_ok-fault.ensures.fault ∙ c.in_default.is) (ap (λ ds. has_place entries (length (open_among entries ds))) (sym dests) ∙ told.0))

pub returns-in-None-clause-offered : goal.returns-in-None-clause-offered
returns-in-None-clause-offered c =
    let old = server_of c.args.self.now in
    let entries = c.args.self.now.journal.entries in
    let ways = ways_of c.args.self.now.ways.items in
    let wanted = others_among old.own (length ways) c.args.dests.now in
    let count : c.len.result ≡ length ways = let all = length-map c.args.self.now.ways.items (λ (l : WayState). l.way) in let size = c.args.self.now.ways.ok.0 in omega (arith, all, size, c.len.ensures) in
    let dests : c.in_ok-dests.dests ≡ wanted = c.in_ok-dests.ensures ∙ ap (λ n. others_among old.own n c.args.dests.now) count in
    let full = told_none (offered.Edu c.in_ok-copy.field-0) c.in_ok-dests.dests entries c.in_ok-dests-2.field-0 c.in_ok-dests-2.ensures.told c.in-None.is in
    same_step (IsEduOffered c.args.edu.now c.args.dests.now old) (EduNotSent edu.Limit) (EduNotSent edu.Limit) old _ refl
    (same_at old _ _ _ _
    (sym (c.in_ok-dests-2.ensures.entries ∙ ap (λ (b : Bool). if b then entries ++ entry.Edu c.in_ok-copy.field-0 c.in_ok-dests.dests ∷ [] else entries) full))
    (sym (ap ways_of (with_items_is c.args.self.now.ways c.enter.new.ways (omega (arith, c.in_ok-dests-2.ensures.count, ap length c.deref_mut.ensures.value, c.args.self.now.ways.ok.0)))
    ∙ c.in_ok-dests-2.ensures.ways ∙ ap (λ ls. ways_after (offered.Edu c.in_ok-copy.field-0) c.in_ok-dests.dests entries (ways_of ls)) c.deref_mut.ensures.value
    ∙ ap (λ (b : Bool). if b then ways_beyond 0 entries (entries ++ entry.Edu c.in_ok-copy.field-0 c.in_ok-dests.dests ∷ []) ways else ways) full)))
    (edu_limit c.args.edu.now c.args.dests.now old (sym c.in_ok-fault.ensures.fault ∙ c.in_default.is) (ap (λ ds. has_place entries (length (open_among entries ds))) (sym dests) ∙ full))
