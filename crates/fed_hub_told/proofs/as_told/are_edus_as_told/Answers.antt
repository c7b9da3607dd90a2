use Rattle.std.proofs.Common.{◌≡◌, map, sym, ap, ◌∙◌}
use Rattle.std.proofs.lemmas.Simd.{map-map}
use Rattle.fed_hub_told.specs.declared.told_edu.ToldEdu.{ToldEdu}
use Rattle.fed_hub_told.specs.Told.{ToldState}
use Rattle.fed_hub_told.specs.AsTold.{IsEduOf, offered_edus}
use Rattle.fed_hub_told.specs.Offers.{edu_of}
use Rattle.fed_hub_told.proofs.Seen.{answer_seen}
use Rattle.fed_hub_told.proofs.as_told.are_edus_as_told.Goals as goal

pub returns : goal.returns
returns g c =
    let clients = c.args.clients.now in
    let are : map edu_of c.deref-2.result.now ≡ offered_edus c.args.entries.now = ap (map edu_of) c.deref-2.ensures.value ∙ c.in_ok-edus.ensures in
    let told : map (λ es. es.now) c.deref.result.now ≡ map (λ (t : ToldState). t.edus) (map g.C.Client.told clients) =
    ap (map (λ es. es.now)) c.deref.ensures.value ∙ c.in_ok-told.ensures ∙ sym (map-map (λ (t : ToldState). t.edus) g.C.Client.told clients) in
    answer_seen (λ (t : ToldEdu). t.number) IsEduOf edu_of c.deref-2.result.now _ _ _ c.are_as_told.result are told c.are_as_told.ensures
