use Rattle.std.proofs.Common.{◌≡◌, rules, codes, string_bytes, option_map, refl, ap, ◌∙◌}
use Rattle.std.proofs.lemmas.Result.{IfOk-weaker}
use Rattle.serde_json.specs.Data.{number}
use Rattle.serde_json.specs.Find.{of_integer}
use Rattle.fed_room_contract.specs.DraftParts.{fields_of as draft_of}
use Rattle.fed_room.specs.LinksParts.{links_seen}
use Rattle.fed_room.specs.Parts.{fields_of, with_state_key, parts_of}
use Rattle.fed_room.proofs.Arrays.{array-shallow}
use Rattle.fed_room.proofs.Made.{step}
use Rattle.fed_room.proofs.drafting.parts.Goals as goal

pub put-requires : goal.put-requires
put-requires c = array-shallow c.args.links.auth_events.items c.in_ok-auth_events.auth_events c.in_ok-auth_events.ensures

pub put-requires-5 : goal.put-requires-5
put-requires-5 c = array-shallow c.args.links.prev_events.items c.in_ok-prev_events.prev_events c.in_ok-prev_events.ensures

pub returns-clause-parts : goal.returns-clause-parts
returns-clause-parts c =
    let inside = c.draft.inside in
    let links = links_seen c.args.links in
    let depth : c.from_signed.result ≡ number (of_integer c.args.links.depth) = search rules in
    let one = step (codes "auth_events") c.in_ok-put.ensures c.in_ok-auth_events.ensures c.empty_object-parts.ensures in
    let two = step (codes "content") c.in_ok-put-2.ensures refl one in
    let three = step (codes "depth") c.in_ok-put-3.ensures depth two in
    let four = step (codes "origin_server_ts") c.in_ok-put-4.ensures c.from_whole.ensures three in
    let five = step (codes "prev_events") c.in_ok-put-5.ensures c.in_ok-prev_events.ensures four in
    let six = step (codes "room_id") c.in_ok-put-6.ensures c.from.ensures five in
    let seven = step (codes "sender") c.in_ok-put-7.ensures c.from-2.ensures six in
    let all : c.put-8.new.event ≡ fields_of links (draft_of inside) = step (codes "type") c.in_ok-put-8.ensures c.from-3.ensures seven in
    IfOk-weaker c.with_state_key.result _ _ (λ event same. same ∙ ap (with_state_key (option_map string_bytes inside.state_key)) all ∙ ap (λ draft. (parts_of links draft).value) c.draft.view_is) c.with_state_key.ensures
