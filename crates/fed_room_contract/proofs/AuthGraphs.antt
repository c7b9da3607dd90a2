-- Graphs by auth events.
use Rattle.std.proofs.Common.{◌≡◌, List, [], ◌∷◌, ◌++◌, append_assoc, true, sym, ap, subst, ◌∙◌, ◌⊎◌, inl, inr}
use Rattle.std.proofs.lemmas.Bool.{and_parts}
use Rattle.std.proofs.lemmas.List.Folds.{list_all-append}
use Rattle.fed_event.specs.Event.{Event}
use Rattle.fed_event.specs.Fields.{auth_events_of, prev_events_of}
use Rattle.fed_room_contract.specs.declared.graph.Stored.{Stored}
use Rattle.fed_room_contract.specs.Graph.{IsGraph, IsAuthGraph, IsAuthNext, is_stored, is_ready, has_auths}
use Rattle.fed_room_contract.proofs.Graphs.{split}

-- what is ready has its auth events
pub ready_has_auths : (xs : List Stored) (event : Event) → is_ready xs event ≡ true → has_auths xs event ≡ true
ready_has_auths xs event h = (and_parts _ _ (sym (list_all-append (is_stored xs) (prev_events_of event) (auth_events_of event)) ∙ h)).1

-- a graph is one by auth events
pub auth_graph : (xs : List Stored) → IsGraph xs → IsAuthGraph xs
auth_graph xs graph = record {
  each = λ before next after e. let next_is = graph.each before next after e in record { new = next_is.new; auths = ready_has_auths before next.event.event next_is.ready };
}

nothing_next : (before : List Stored) (next : Stored) (after : List Stored) → ([] ≡ before ++ next ∷ after) → IsAuthNext before next
nothing_next [] next after e = absurd (cc)
nothing_next (b ∷ before) next after e = absurd (cc)

pub no_auth_graph : IsAuthGraph []
no_auth_graph = record { each = nothing_next }

pub auth_graph_grows : (xs : List Stored) (last : Stored) → IsAuthGraph xs → IsAuthNext xs last → IsAuthGraph (xs ++ last ∷ [])
auth_graph_grows xs last graph next = record { each = λ before n after e. by before n (split xs last before n after e) }
  where
    by : (before : List Stored) (n : Stored) → ((before ≡ xs) × (n ≡ last)) ⊎ ((rest : List Stored) × (xs ≡ before ++ n ∷ rest)) → IsAuthNext before n
    by before n (inl (p, q)) = subst (λ (b : List Stored). IsAuthNext b n) (sym p) (subst (λ (m : Stored). IsAuthNext xs m) (sym q) next)
    by before n (inr (rest, p)) = graph.each before n rest p

pub auth_graph_front : (xs ys : List Stored) → IsAuthGraph (xs ++ ys) → IsAuthGraph xs
auth_graph_front xs ys h = record { each = λ before next after e. h.each before next (after ++ ys) (ap (λ zs. zs ++ ys) e ∙ append_assoc before (next ∷ after) ys) }
