use Rattle.std.proofs.Common.{arith, All, ◌≡◌, ◌<◌, ◌+◌, ◌∷◌, [], ◌||◌, bytes_eq, length, length-append, sym, ap, ◌∙◌, subst}
use Rattle.std.specs.Map.{values_of}
use Rattle.std.specs.String.{string_cmp}
use Rattle.std.proofs.lemmas.Map.Views.{All-values-insert_entry}
use Rattle.fed_hub.specs.Rooms.{RoomsShape}
use Rattle.fed_hub.specs.Setup.{has_room}
use Rattle.fed_hub.proofs.Ids.{ids, one_more}
use Rattle.fed_hub.proofs.rooms.Rooms.add.Goals as goal

pub invariant_of-self-2 : goal.invariant_of-self-2
invariant_of-self-2 c =
    let longer : length c.push_reserved.new.self.items ≡ length c.self.inside.rooms.items + 1 =
    ap length c.push_reserved.ensures.items ∙ length-append c.reserve.new.self.items (c.new.result ∷ []) ∙ ap (λ xs. length xs + 1) c.in_ok-reserve.ensures.items in
    let count = length c.push_reserved.new.self.items in
    let here : c.len-place.result < count = omega (arith, c.len-place.ensures, ap length c.in_ok-reserve.ensures.items, longer) in (
      c.in_default.ensures.ordered,
      subst (λ es. All (λ place. place < count) (values_of es)) (sym c.in_default.ensures.entries) (
          All-values-insert_entry string_cmp c.in_ok-id.id c.len-place.result (λ place. place < count) c.self.inside.places.entries
          (λ k d at. omega (arith, c.self.invariant.1 k d at, longer)) here
          ),
    )

pub returns-clause-added : goal.returns-clause-added
returns-clause-added c =
    let longer : length c.push_reserved.new.self.items ≡ length c.self.inside.rooms.items + 1 =
    ap length c.push_reserved.ensures.items ∙ length-append c.reserve.new.self.items (c.new.result ∷ []) ∙ ap (λ xs. length xs + 1) c.in_ok-reserve.ensures.items in
    record {
      absent = ap (has_room c.args.self.now.ids) (sym c.id.ensures) ∙ sym c.get.ensures ∙ sym c.is_some.ensures ∙ c.if-is_some.false;
      more = λ other.
          ap (λ es. has_room (ids es) other) c.in_default.ensures.entries ∙ one_more other c.self.inside.places.entries c.in_ok-id.id c.len-place.result
          ∙ (λ i. bytes_eq other ((c.in_ok-id.ensures.ok ∙ c.id-2.ensures) i) || has_room (c.self.view_is i).ids other);
      one = longer ∙ ap (λ (r : RoomsShape). r.count + 1) c.self.view_is;
    }
