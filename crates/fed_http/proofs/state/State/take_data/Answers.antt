use Rattle.std.proofs.Common.{arith, ◌+◌, ◌≤◌, length, refl}
use Rattle.std.specs.Prelude.{min, vec_len, vec_capacity}
use Rattle.fed_http.specs.Limits.{max_body}
use Rattle.fed_http.specs.KeepingParts.{kept_of}
use Rattle.fed_http.specs.declared.place.Place.TheVariants.{InData}
use Rattle.fed_http.proofs.Steps.{data_taken, data_ended, room_of, length_taken}
use Rattle.fed_http.proofs.TakenBodies.{data_fits}
use Rattle.fed_http.proofs.state.State.take_data.Goals as goal

pub extend-requires : goal.extend-requires
extend-requires c =
    let s = c.args.self.now in
    let rest = c.args.rest.now in
    let left = c.args.left in
    let taken = c.min-taken.result in
    let fits : length s.body.items + left ≤ max_body = data_fits (kept_of s) left c.requires.at c.requires.sound in
    let room : min (vec_len s.body + length rest) max_body ≤ vec_capacity s.body = (room_of (InData left) s (length rest) c.requires.at c.requires.room).1 in
    omega (arith, fits, room, c.min-taken.ensures, s.body.ok, length_taken taken rest (omega (arith, c.min-taken.ensures)))

pub returns-then-taken-left-clause-stepped : goal.returns-then-taken-left-clause-stepped
returns-then-taken-left-clause-stepped c =
    data_ended c.args.self.now _ c.args.rest.now c.args.left c.min-taken.result c.requires.at refl c.if-taken-left.true c.min-taken.ensures (record { head = refl; start = refl }) (record { items = refl; len = refl; cap = refl })
    (record { items = c.extend.ensures.items; len = c.extend.ensures.len; cap = c.extend.ensures.capacity }) c.requires.room c.requires.some

pub returns-clause-stepped : goal.returns-clause-stepped
returns-clause-stepped c =
    data_taken c.args.self.now _ c.args.rest.now c.args.left c.min-taken.result c.requires.at refl (omega (arith, c.min-taken.ensures)) c.if-taken-left.false c.min-taken.ensures (record { head = refl; start = refl }) (record { items = refl; len = refl; cap = refl })
    (record { items = c.extend.ensures.items; len = c.extend.ensures.len; cap = c.extend.ensures.capacity }) c.requires.room c.requires.some
