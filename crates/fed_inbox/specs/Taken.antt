-- The texts that an iterator has left.
use Rattle.std.specs.Prelude.{ℕ, List, ◌++◌}
use Rattle.fed_inbox.specs.declared.text_list.Texts.{Texts}
use Rattle.fed_inbox.specs.declared.taken.Taken.{Taken}
use Rattle.fed_inbox.specs.TextList.{texts_in, joined}

abbrev pub texts_left : Texts → List (List ℕ)
texts_left t = texts_in t.lengths.now t.bytes.now

-- those of one list, and then those of the lists after it
abbrev pub taken_left : Taken → List (List ℕ)
taken_left t = texts_left t.texts ++ joined t.lists.now
