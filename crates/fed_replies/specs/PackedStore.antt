-- What a store that packs replies stands for, and what holds inside of it.
use Rattle.std.specs.Prelude.{◌≡◌, ℕ, ◌<◌, List, map as map_list, length, Some}
use Rattle.std.specs.List.{All, count_by}
use Rattle.fed_replies.specs.declared.form.Form.{Form}
use Rattle.fed_replies.specs.declared.packed_store.PackedStore.TheInside.{Inside}
use Rattle.fed_replies.specs.Places.{AllPlaces, place_at, replies_at}
use Rattle.fed_replies.specs.Pieces.{Content}
use Rattle.fed_replies.specs.Forms.{is_packed, reply_of, IsWithin}
use Rattle.fed_replies.specs.PackedReply.{ArePacked}
use Rattle.fed_replies.specs.PackedReplies.{PackedReplies}

abbrev pub replies_in : Content → List Form → List (List ℕ)
replies_in content forms = map_list (reply_of content) forms

abbrev pub seen : AllPlaces → Content → List Form → PackedReplies
seen places content forms = record { kept = replies_at (replies_in content forms) places; replies = replies_in content forms }

-- each form lies in the pieces, each place in the list of forms, and the replies that can be packed are
pub record AreStored (places : AllPlaces) (content : Content) (forms : List Form) : Type 0 where
  pub within : All (IsWithin content) forms
  pub placed : (origin txn : List ℕ) (place : ℕ) → place_at places origin txn ≡ Some place → place < length forms
  pub counted : ArePacked (replies_in content forms) content.texts (count_by is_packed forms)

abbrev pub replies_seen : Inside → PackedReplies
replies_seen s = seen s.places s.pieces s.forms.items

abbrev pub IsStored : Inside → Type 0
IsStored s = AreStored s.places s.pieces s.forms.items
