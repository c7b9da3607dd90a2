-- What the content of a `Reply` stands for.
use Rattle.std.specs.Prelude.{⊤, ℕ, List}
use Rattle.fed_http.specs.declared.reply.Content.{Content}
use Rattle.fed_http.specs.declared.reply.Content.TheVariants.{Bytes, Fixed}

-- its bytes
abbrev pub body_of : Content → List ℕ
body_of (Bytes body) = body.items
body_of (Fixed body) = body.now

-- it is a text that the program has
abbrev pub IsFixed : Content → Type 0
IsFixed (Bytes body) = ⊥
IsFixed (Fixed body) = ⊤
