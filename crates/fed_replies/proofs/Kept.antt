-- What one more reply changes.
use Rattle.std.proofs.Common.{◌≡◌, ◌≢◌, ℕ, List, ◌⊎◌, inl, inr, Bool, true, false, cond, Option, Some, None, refl, sym, ap, ◌∙◌}
use Rattle.std.proofs.lemmas.Bool.{cases_Bool}
use Rattle.std.specs.Option.{unwrap_or}
use Rattle.std.specs.Ordering.{nat_cmp}
use Rattle.std.specs.Cmp.Lexicographic.{slice_cmp, nat_list_cmp_total}
use Rattle.std.specs.FinMap as finite
use Rattle.fed_replies.specs.Kept.{KeptReplies, OriginReplies, replies_of, reply_at, with_reply}
use Rattle.fed_replies.proofs.Maps.{tied, same_key, is_tied}

pub replies_of_none : (kept : KeptReplies) (origin : List ℕ) → finite.get kept origin ≡ None → replies_of kept origin ≡ finite.empty
replies_of_none kept origin h = ap (λ (o : Option OriginReplies). unwrap_or o finite.empty) h

pub none_kept : (kept : KeptReplies) (origin txn : List ℕ) → finite.get kept origin ≡ None → reply_at kept origin txn ≡ None
none_kept kept origin txn h = ap (λ m. finite.get m txn) (replies_of_none kept origin h) ∙ finite.get-empty (slice_cmp nat_cmp) txn

pub one_kept : (kept : KeptReplies) (origin txn : List ℕ) (replies : OriginReplies) → finite.get kept origin ≡ Some replies → reply_at kept origin txn ≡ finite.get replies txn
one_kept kept origin txn replies h = ap (λ (o : Option OriginReplies). finite.get (unwrap_or o finite.empty) txn) h

pub none_of_empty : (origin txn : List ℕ) → reply_at finite.empty origin txn ≡ None
none_of_empty origin txn = none_kept finite.empty origin txn (finite.get-empty (slice_cmp nat_cmp) origin)

-- a transaction's reply after one more
after_one : (kept : KeptReplies) (origin txn reply other number : List ℕ)
    → reply_at (with_reply kept origin txn reply) other number ≡ cond (tied other origin) (cond (tied number txn) (Some reply) (reply_at kept origin number)) (reply_at kept other number)
after_one kept origin txn reply other number =
    ap (λ (o : Option OriginReplies). finite.get (unwrap_or o finite.empty) number) (finite.get-insert nat_list_cmp_total kept origin (finite.insert (replies_of kept origin) txn reply) other)
    ∙ split (tied other origin)
    ∙ ap (λ r. cond (tied other origin) r (reply_at kept other number)) (finite.get-insert nat_list_cmp_total (replies_of kept origin) txn reply number)
  where
    split : (b : Bool) → finite.get (unwrap_or (cond b (Some (finite.insert (replies_of kept origin) txn reply)) (finite.get kept other)) finite.empty) number
        ≡ cond b (finite.get (finite.insert (replies_of kept origin) txn reply) number) (reply_at kept other number)
    split true = refl
    split false = refl

pub there : (kept : KeptReplies) (origin txn reply : List ℕ) → reply_at (with_reply kept origin txn reply) origin txn ≡ Some reply
there kept origin txn reply = after_one kept origin txn reply origin txn ∙ rw (is_tied origin origin refl, is_tied txn txn refl) refl

pub others : (kept : KeptReplies) (origin txn reply other number : List ℕ) → (other ≢ origin) ⊎ (number ≢ txn) → reply_at (with_reply kept origin txn reply) other number ≡ reply_at kept other number
others kept origin txn reply other number apart = after_one kept origin txn reply other number ∙ by (cases_Bool (tied other origin)) (cases_Bool (tied number txn))
  where
    same : (other ≢ origin) ⊎ (number ≢ txn) → other ≡ origin → number ≡ txn → ⊥
    same (inl a) o n = a o
    same (inr a) o n = a n

    by : (tied other origin ≡ true) ⊎ (tied other origin ≡ false) → (tied number txn ≡ true) ⊎ (tied number txn ≡ false)
        → cond (tied other origin) (cond (tied number txn) (Some reply) (reply_at kept origin number)) (reply_at kept other number) ≡ reply_at kept other number
    by (inr f) t = rw f refl
    by (inl t) (inr f) = rw (t, f) (ap (λ o. reply_at kept o number) (sym (same_key other origin t)))
    by (inl t) (inl s) = absurd (same apart (same_key other origin t) (same_key number txn s))

pub stays : (kept : KeptReplies) (origin txn reply other number earlier : List ℕ) → reply_at kept origin txn ≡ None → reply_at kept other number ≡ Some earlier
    → reply_at (with_reply kept origin txn reply) other number ≡ Some earlier
stays kept origin txn reply other number earlier none some = by (cases_Bool (tied other origin)) (cases_Bool (tied number txn))
  where
    by : (tied other origin ≡ true) ⊎ (tied other origin ≡ false) → (tied number txn ≡ true) ⊎ (tied number txn ≡ false) → reply_at (with_reply kept origin txn reply) other number ≡ Some earlier
    by (inr f) t = others kept origin txn reply other number (inl (λ e. let yes = is_tied other origin e in absurd (cc))) ∙ some
    by (inl t) (inr f) = others kept origin txn reply other number (inr (λ e. let yes = is_tied number txn e in absurd (cc))) ∙ some
    by (inl t) (inl s) =
        let gone : reply_at kept other number ≡ None = ap (λ o. reply_at kept o number) (same_key other origin t) ∙ ap (reply_at kept origin) (same_key number txn s) ∙ none in
        absurd (cc)

pub replies_of_some : (kept : KeptReplies) (origin : List ℕ) (replies : OriginReplies) → finite.get kept origin ≡ Some replies → replies_of kept origin ≡ replies
replies_of_some kept origin replies h = ap (λ (o : Option OriginReplies). unwrap_or o finite.empty) h

-- the replies to the origin of one more reply, and to another
pub own_replies : (kept : KeptReplies) (origin txn reply : List ℕ) → replies_of (with_reply kept origin txn reply) origin ≡ finite.insert (replies_of kept origin) txn reply
own_replies kept origin txn reply =
    ap (λ (o : Option OriginReplies). unwrap_or o finite.empty) (finite.get-insert nat_list_cmp_total kept origin (finite.insert (replies_of kept origin) txn reply) origin) ∙ rw (is_tied origin origin refl) refl

pub other_replies : (kept : KeptReplies) (origin txn reply other : List ℕ) → other ≢ origin → replies_of (with_reply kept origin txn reply) other ≡ replies_of kept other
other_replies kept origin txn reply other apart =
    ap (λ (o : Option OriginReplies). unwrap_or o finite.empty) (finite.get-insert nat_list_cmp_total kept origin (finite.insert (replies_of kept origin) txn reply) other) ∙ by (cases_Bool (tied other origin))
  where
    by : (tied other origin ≡ true) ⊎ (tied other origin ≡ false)
        → unwrap_or (cond (tied other origin) (Some (finite.insert (replies_of kept origin) txn reply)) (finite.get kept other)) finite.empty ≡ replies_of kept other
    by (inl t) = absurd (apart (same_key other origin t))
    by (inr f) = rw f refl
