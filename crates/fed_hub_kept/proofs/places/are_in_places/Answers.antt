use Rattle.std.proofs.Common.{◌≡◌, ◌<◌, length, string_bytes, sym, ◌∙◌, subst}
use Rattle.std.proofs.lemmas.Bool.{false≢true}
use Rattle.fed_hub_state.specs.KeptRoom.{id_of}
use Rattle.fed_hub_kept.proofs.SameIds.{equal_texts, other_texts, same_here, same_more}
use Rattle.fed_hub_kept.proofs.places.are_in_places.Goals as goal

pub returns-then-ne : goal.returns-then-ne
returns-then-ne c =
    let room = c.index-rooms-place.result in
    let id = c.index-ids-place.result in
    let there : c.loop-place.place < length c.args.ids.now = subst (λ n. c.loop-place.place < n) c.if-rooms-ids.false c.loop-place-test.true in
    let differs : ¬ (id_of room ≡ string_bytes id) = λ same.
    other_texts c.id.result.now c.as_str.result.now (sym c.ne.ensures ∙ c.if-ne.true) (c.id.ensures ∙ same ∙ sym c.as_str.ensures.value) in (
      λ no. absurd (false≢true no),
      λ all. absurd (differs (same_here id_of string_bytes c.args.rooms.now c.args.ids.now c.loop-place.place room id c.loop-place-test.true there c.index-rooms-place.is c.index-ids-place.is all)),
    )

pub loop-place-preserved : goal.loop-place-preserved
loop-place-preserved c =
    let room = c.index-rooms-place.result in
    let id = c.index-ids-place.result in
    let there : c.loop-place.place < length c.args.ids.now = subst (λ n. c.loop-place.place < n) c.if-rooms-ids.false c.loop-place-test.true in
    let same : id_of room ≡ string_bytes id = sym c.id.ensures ∙ equal_texts c.id.result.now c.as_str.result.now (sym c.ne.ensures ∙ c.if-ne.false) ∙ c.as_str.ensures.value in
    same_more id_of string_bytes c.args.rooms.now c.args.ids.now c.loop-place.place room id c.loop-place-test.true there c.index-rooms-place.is c.index-ids-place.is c.loop-place.invariant same
