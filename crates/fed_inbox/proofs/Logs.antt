-- Logs and the texts in them.
use Rattle.std.proofs.Common.{◌≡◌, ℕ, List, [], ◌∷◌, ◌++◌, map, refl, sym, ap, ◌∙◌, append_assoc}
use Rattle.std.proofs.lemmas.List.{append-nil}
use Rattle.fed_json.specs.TextMap.{TextMap}
use Rattle.fed_replies.specs.Kept.{KeptReplies}
use Rattle.fed_inbox.specs.Log.{LogState, TakenFrom, with_replies}
use Rattle.fed_inbox.specs.LogParts.{nothing_from}
use Rattle.fed_inbox.specs.Inbox.{new_log}
use Rattle.fed_inbox.specs.TextList.{joined}

pub same_taken : {o : List ℕ} {p p' e e' : List (List ℕ)} → p ≡ p' → e ≡ e' → ◌≡◌ {A = TakenFrom} (record { origin = o; pdus = p; edus = e }) (record { origin = o; pdus = p'; edus = e' })
same_taken {o} a b i = record { origin = o; pdus = a i; edus = b i }

pub same_log : {o o' : List ℕ} {r r' : TextMap (List ℕ)} {p p' e e' : List (List ℕ)} → o ≡ o' → r ≡ r' → p ≡ p' → e ≡ e'
    → ◌≡◌ {A = LogState} (record { origin = o; replies = r; pdus = p; edus = e }) (record { origin = o'; replies = r'; pdus = p'; edus = e' })
same_log a b c d i = record { origin = a i; replies = b i; pdus = c i; edus = d i }

-- logs of which nothing is taken
pub new_logs : (kept : KeptReplies) (servers : List (List ℕ)) → map (with_replies kept) (map nothing_from servers) ≡ map (new_log kept) servers
new_logs kept [] = refl
new_logs kept (s ∷ servers) = ap (λ logs. new_log kept s ∷ logs) (new_logs kept servers)

-- one more list of texts at the end
pub joined-push : (lists : List (List (List ℕ))) (texts : List (List ℕ)) → joined (lists ++ texts ∷ []) ≡ joined lists ++ texts
joined-push [] texts = append-nil texts
joined-push (l ∷ lists) texts = ap (λ t. l ++ t) (joined-push lists texts) ∙ sym (append_assoc l (joined lists) texts)
