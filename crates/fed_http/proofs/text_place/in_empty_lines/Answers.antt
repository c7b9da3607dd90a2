use Rattle.std.proofs.Common.{arith, [], ◌∷◌, ◌++◌, sym, subst}
use Rattle.fed_http.specs.TextPlaces.{IsWholeHead, IsLatePlace, IsHeadPlace}
use Rattle.fed_http.specs.declared.text_place.TextPlace.TheVariants.{Version}
use Rattle.fed_http.specs.declared.message.Kind.TheVariants.{Replies}
use Rattle.fed_http.proofs.PlaceSteps.{version_byte, next_place}
use Rattle.fed_http.proofs.PlaceStarts.{reply_begins, one_feed}
use Rattle.fed_http.proofs.text_place.in_empty_lines.Goals as goal

pub returns-then-byte-eq10 : goal.returns-then-byte-eq10
returns-then-byte-eq10 c bytes blank is = one_feed bytes blank c.args.byte is c.if-byte-eq10.true

pub returns-in-Replies : goal.returns-in-Replies
returns-in-Replies c bytes blank is =
    let begins : IsLatePlace Replies (IsWholeHead Replies) bytes (Version 0) = record { few = tt; late = tt; behind = reply_begins bytes blank is } in
    subst (λ k. IsHeadPlace k (bytes ++ c.args.byte ∷ []) (Version 1)) (sym c.in-Replies.is) (next_place Replies bytes c.args.byte (Version 0) (Version 1) begins (λ _. tt) tt (λ more n f. version_byte Replies 0 c.args.byte more n (omega arith) c.if-byte-eq72.true f))
