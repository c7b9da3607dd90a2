use Rattle.std.proofs.Common.{◌≡◌, ◌++◌, take}
use Rattle.json.specs.Print.{escape}
use Rattle.fed_json.proofs.quoted.append_escaped.Given as goal

-- what was gone over is written
abbrev pub invariant-loop-byte : goal.invariant-loop-byte
invariant-loop-byte l = l.out.items ≡ l.fn.out.items ++ escape (take l.byte-index l.text)
