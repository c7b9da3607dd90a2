use Rattle.std.proofs.Common.{[], codes, append_assoc, ◌++◌, ◌≡◌}
use Rattle.sha2.specs.Sha512.{sha512}
use Rattle.fed_keys.proofs.stand_in.stand_in_of.Goals as goal

pub returns : goal.returns
returns c =
    let server = c.args.server.now in
    let bytes = c.args.bytes.now in
    let h1 = c.update.ensures [] c.new-hasher.ensures in
    let h2 = c.update-2.ensures _ h1 in
    let h3 = c.update-3.ensures _ h2 in
    let h4 = c.update-4.ensures _ h3 in
    let whole : c.finalize.result ≡ sha512 (((codes "stand-in secret of " ++ server) ++ codes "\n") ++ bytes) = c.finalize.ensures _ h4 in
    rw append_assoc at whole
