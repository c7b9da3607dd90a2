-- Logs in the order of their origins.
use Rattle.std.proofs.Common.{◌≡◌, ℕ, List, [], ◌∷◌, map, filter, not, bytes_eq, nat_cmp, zero, suc, refl, sym, ap, subst, set, get_or}
use Rattle.std.specs.Cmp.Lexicographic.{slice_cmp}
use Rattle.std.specs.List.Sorted.{IsStrictlySortedBy}
use Rattle.std.proofs.lemmas.List.Kept.{IsStrictlySortedBy-filter}
use Rattle.fed_inbox.specs.Log.{TakenFrom, origin_of, AreByOrigin}
use Rattle.fed_inbox.specs.LogParts.{nothing_from}
use Rattle.fed_inbox.specs.InboxParts.{nothing_from_all}

origins_of_empty : (servers : List (List ℕ)) → map origin_of (map nothing_from servers) ≡ servers
origins_of_empty [] = refl
origins_of_empty (s ∷ servers) = ap (λ ss. s ∷ ss) (origins_of_empty servers)

pub new_by_origin : (own : List ℕ) (servers : List (List ℕ)) → IsStrictlySortedBy (slice_cmp nat_cmp) servers → AreByOrigin (nothing_from_all own servers)
new_by_origin own servers order =
    subst (IsStrictlySortedBy (slice_cmp nat_cmp)) (sym (origins_of_empty (filter (λ server. not (bytes_eq server own)) servers)))
    (IsStrictlySortedBy-filter (slice_cmp nat_cmp) (λ server. not (bytes_eq server own)) servers order)

pub origins-set : (logs : List TakenFrom) (place : ℕ) (old new : TakenFrom) → old ≡ get_or logs place old → new.origin ≡ old.origin → map origin_of (set logs place new) ≡ map origin_of logs
origins-set [] place old new is same = refl
origins-set (log ∷ logs) zero old new is same = ap (λ o. o ∷ map origin_of logs) (rw (same) (ap origin_of is))
origins-set (log ∷ logs) (suc place) old new is same = ap (λ os. log.origin ∷ os) (origins-set logs place old new is same)

pub still_by_origin : (logs : List TakenFrom) (place : ℕ) (old new : TakenFrom) → old ≡ get_or logs place old → new.origin ≡ old.origin → AreByOrigin logs → AreByOrigin (set logs place new)
still_by_origin logs place old new is same order = subst (IsStrictlySortedBy (slice_cmp nat_cmp)) (sym (origins-set logs place old new is same)) order
