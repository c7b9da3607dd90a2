-- In a world that begins, what is so of every world is so.
use Rattle.std.proofs.Common.{◌≡◌, ◌≢◌, ℕ, zero, suc, ◌+◌, ◌^◌, nat_lt, Bool, true, false, if◌then◌else◌, Less, bytes_eq, List, [], ◌∷◌, length, map, Some, None, refl, sym, ap, subst, ◌∙◌, ◌⊎◌, inl, inr, arith}
use Rattle.std.specs.Prelude.{slice_get}
use Rattle.std.specs.FinMap as finite
use Rattle.std.specs.List.{range_with_len, AllByRecursion}
use Rattle.std.specs.List.Sorted.{IsStrictlySortedBy}
use Rattle.std.specs.Ordering.{nat_cmp}
use Rattle.std.specs.Cmp.Lexicographic.{slice_cmp}
use Rattle.std.proofs.lemmas.Bool.{cases_Bool, true≢false}
use Rattle.std.proofs.lemmas.List.{length-map}
use Rattle.std.proofs.lemmas.List.FromFn.{length-range_with_len}
use Rattle.std.proofs.lemmas.List.Elements.{All-nil}
use Rattle.std.proofs.lemmas.Slice.Eq.{bytes_eq-Decides}
use Rattle.fed_dest.specs.ListParts.{AreInOrder}
use Rattle.fed_dest.proofs.Halving.{less_tested}
use Rattle.fed_inbox.specs.Inbox.{log_at, new_log, logs_for}
use Rattle.fed_outbox.specs.Collecting.{Way}
use Rattle.fed_replies.specs.Kept.{KeptReplies}
use Rattle.fed_replies.proofs.Kept.{none_of_empty}
use Rattle.fed_sim.specs.declared.setup.Setup.{Setup}
use Rattle.fed_sim.specs.Way.{new_way}
use Rattle.fed_sim.specs.NewServer.{new_server}
use Rattle.fed_sim.specs.Packets.{packet_at}
use Rattle.fed_sim.specs.Running.{Begins, IsBeginning}
use Rattle.fed_sim.specs.Server.{ServerState}
use Rattle.fed_sim.specs.Ways.{way_to}
use Rattle.fed_sim.specs.World.{PacketState, WorldState}
use Rattle.fed_sim.proofs.Ids.{txn_id}
use Rattle.fed_sim.proofs.Landing.{kept_for, Lands}
use Rattle.fed_sim.proofs.WayMoves.{IsSoundEdu, IsHeld, sent_of}
use Rattle.fed_sim.proofs.Between.{same_some, not_none, IsServerAt, IsBetween, IsSound, way_there}

-- ---- the names

all_at : {A : Type 0} (P : A → Type 0) (xs : List A) (k : ℕ) (x : A) → AllByRecursion P xs → slice_get xs k ≡ Some x → P x
all_at P [] k x all e = absurd (not_none x e)
all_at P (y ∷ xs) zero x all e = subst P (same_some y x e) all.0
all_at P (y ∷ xs) (suc k) x all e = all_at P xs k x all.1 e

not_below_itself : (x : List ℕ) → slice_cmp nat_cmp x x ≡ Less → ⊥
not_below_itself x e = true≢false (sym ((bytes_eq-Decides x x).1 refl) ∙ less_tested x x e)

each_once : (names : List (List ℕ)) → AreInOrder names → (i j : ℕ) (x : List ℕ) → slice_get names i ≡ Some x → slice_get names j ≡ Some x → i ≡ j
unfolding IsStrictlySortedBy
each_once [] order i j x a b = absurd (not_none x a)
each_once (y ∷ names) order zero zero x a b = refl
each_once (y ∷ names) order zero (suc j) x a b =
    absurd (not_below_itself x (subst (λ z. slice_cmp nat_cmp z x ≡ Less) (same_some y x a) (all_at (λ z. slice_cmp nat_cmp y z ≡ Less) names j x order.0 b)))
each_once (y ∷ names) order (suc i) zero x a b =
    absurd (not_below_itself x (subst (λ z. slice_cmp nat_cmp z x ≡ Less) (same_some y x b) (all_at (λ z. slice_cmp nat_cmp y z ≡ Less) names i x order.0 a)))
each_once (y ∷ names) order (suc i) (suc j) x a b = ap suc (each_once names order.1 i j x a b)

-- ---- the logs

log_there : (kept : KeptReplies) (names : List (List ℕ)) (own name : List ℕ) (k : ℕ) → name ≢ own → slice_get names k ≡ Some name → log_at name (logs_for kept own names) ≡ Some (new_log kept name)
log_there kept [] own name k apart e = absurd (not_none name e)
log_there kept (x ∷ names) own name k apart e = by (cases_Bool (bytes_eq x own)) (cases_Bool (bytes_eq x name)) (place (λ i is. log_there kept names own name i apart is) k e)
  where
    -- the name is this one, or among the others
    place : ((i : ℕ) → slice_get names i ≡ Some name → log_at name (logs_for kept own names) ≡ Some (new_log kept name)) → (i : ℕ) → slice_get (x ∷ names) i ≡ Some name → (x ≡ name) ⊎ (log_at name (logs_for kept own names) ≡ Some (new_log kept name))
    place others zero is = inl (same_some x name is)
    place others (suc i) is = inr (others i is)

    here : bytes_eq x own ≡ false → bytes_eq x name ≡ true → log_at name (logs_for kept own (x ∷ names)) ≡ Some (new_log kept x)
    here others is = rw (others, is) refl

    later : (bytes_eq x own ≡ true) ⊎ ((bytes_eq x own ≡ false) × (bytes_eq x name ≡ false)) → log_at name (logs_for kept own (x ∷ names)) ≡ log_at name (logs_for kept own names)
    later (inl is) = rw is refl
    later (inr (others, differs)) = rw (others, differs) refl

    by : (bytes_eq x own ≡ true) ⊎ (bytes_eq x own ≡ false) → (bytes_eq x name ≡ true) ⊎ (bytes_eq x name ≡ false) → (x ≡ name) ⊎ (log_at name (logs_for kept own names) ≡ Some (new_log kept name))
        → log_at name (logs_for kept own (x ∷ names)) ≡ Some (new_log kept name)
    by (inl is) named (inl same) = absurd (apart (sym same ∙ (bytes_eq-Decides x own).0 is))
    by (inl is) named (inr rest) = later (inl is) ∙ rest
    by (inr others) (inl is) found = here others is ∙ ap (λ n. Some (new_log kept n)) ((bytes_eq-Decides x name).0 is)
    by (inr others) (inr differs) (inl same) = absurd (true≢false (sym ((bytes_eq-Decides x name).1 same) ∙ differs))
    by (inr others) (inr differs) (inr rest) = later (inr (others, differs)) ∙ rest

-- ---- nothing is sent or taken yet

none_at_all : (name id : List ℕ) → finite.get (new_log finite.empty name).replies id ≡ None
none_at_all name id = none_of_empty name id

nothing_kept : (name : List ℕ) (epoch n : ℕ) → kept_for (new_log finite.empty name) epoch n ≡ None
nothing_kept name epoch n = by (nat_lt n (2 ^ 64)) (none_at_all name (txn_id epoch n))
  where
    by : (b : Bool) → finite.get (new_log finite.empty name).replies (txn_id epoch n) ≡ None → (if b then finite.get (new_log finite.empty name).replies (txn_id epoch n) else None) ≡ None
    by true none = none
    by false none = refl

no_packets : (k : ℕ) (p : PacketState) → packet_at [] k ≡ Some p → ⊥
no_packets zero p e = not_none p e
no_packets (suc k) p e = not_none p e

fresh_lands : (o d epoch : ℕ) (name other : List ℕ) → Lands o d epoch name other (sent_of (new_way d).outbox) (new_log finite.empty name) []
fresh_lands o d epoch name other = record {
  pdus = refl;
  edus = refl;
  newest = λ t e. absurd (not_none t e);
  range = λ n reply e. absurd (not_none reply (sym (nothing_kept name epoch n) ∙ e));
  short = λ n reply e. absurd (not_none reply (sym (nothing_kept name epoch n) ∙ e));
  requests = λ k n bytes e. absurd (no_packets k _ e);
  answers = λ k n reply e. absurd (no_packets k _ e);
  replied = λ n body e. absurd (not_none body (sym (nothing_kept name epoch n) ∙ e));
}

fresh_held : (o d epoch : ℕ) (name other : List ℕ) → IsHeld o d epoch name other [] (new_way d) (new_log finite.empty name) []
fresh_held o d epoch name other = record {
  sound = All-nil IsSoundEdu;
  follows = record { collected = []; all = refl; dest = refl; events = refl; edus = refl; next = refl; end = refl };
  lands = fresh_lands o d epoch name other;
}

-- ---- the ways

way_is : (n count d : ℕ) (way : Way) → slice_get (map new_way (range_with_len n count)) d ≡ Some way → way ≡ new_way (n + d)
way_is n zero d way e = absurd (not_none way e)
way_is n (suc count) zero way e = let at : n ≡ n + 0 = omega arith in sym (same_some (new_way n) way e) ∙ ap new_way at
way_is n (suc count) (suc d) way e = let at : n + 1 + d ≡ n + suc d = omega arith in way_is (n + 1) count d way e ∙ ap new_way at

-- ---- the world

pub begins_sound : (setup : Setup) (w : WorldState) → Begins setup w → IsSound w
begins_sound setup w b = record {
  distinct = each_once w.names b.order;
  moment = let zero_now = b.now in omega (arith, zero_now);
  servers = λ k s e. server k s (b.servers k s e);
  ways = λ k a c n bytes e. absurd (no_packets k _ (ap (λ ps. packet_at ps k) (sym b.packets) ∙ e));
  pairs = λ o d os ds way eo ed leads. pair o d os ds way (b.servers o os eo) (b.servers d ds ed) leads;
}
  where
    server : (k : ℕ) (s : ServerState) → IsBeginning w.names w.known setup.rooms.items k s → IsServerAt w.names (length w.servers) k s
    server k s is =
        subst (IsServerAt w.names (length w.servers) k) (sym is.new.is)
        (record {
          own = refl;
          name_is = is.new.name_is;
          named = is.new.named;
          inbox_own = refl;
          ways = length-map (range_with_len 0 (length w.names)) new_way ∙ length-range_with_len 0 (length w.names) ∙ sym b.count;
        })

    pair : (o d : ℕ) (os ds : ServerState) (way : Way) → IsBeginning w.names w.known setup.rooms.items o os → IsBeginning w.names w.known setup.rooms.items d ds → way_to os d ≡ Some way
        → IsBetween o d w.epoch os ds way w.packets
    pair o d os ds way of to leads =
        let a = of.new in
        let c = to.new in
        let there = way_there (new_server w.names w.known o a.name of.hosted) d way (ap (λ s. way_to s d) (sym a.is) ∙ leads) in
        let at : 0 + d ≡ d = omega arith in
        let is : way ≡ new_way d = way_is 0 (length w.names) d way there.is ∙ ap new_way at in
        let apart : a.name ≢ c.name = λ e. there.apart (each_once w.names b.order d o a.name (c.name_is ∙ ap Some (sym e)) a.name_is) in
        let new : IsBetween o d w.epoch (new_server w.names w.known o a.name of.hosted) (new_server w.names w.known d c.name to.hosted) (new_way d) [] = record {
          log = new_log finite.empty a.name;
          log_is = log_there finite.empty w.names c.name a.name o apart a.name_is;
          held = fresh_held o d w.epoch a.name c.name;
        } in
        subst (λ x. IsBetween o d w.epoch x ds way w.packets) (sym a.is) (subst (λ y. IsBetween o d w.epoch (new_server w.names w.known o a.name of.hosted) y way w.packets) (sym c.is)
        (subst (λ l. IsBetween o d w.epoch (new_server w.names w.known o a.name of.hosted) (new_server w.names w.known d c.name to.hosted) l w.packets) (sym is)
        (subst (IsBetween o d w.epoch (new_server w.names w.known o a.name of.hosted) (new_server w.names w.known d c.name to.hosted) (new_way d)) (sym b.packets) new)))
