-- What is so of every world, and of each two servers of it: what changes at one server leaves it so.
use Rattle.std.proofs.Common.{◌≡◌, ◌≢◌, ℕ, zero, suc, ◌≤◌, ◌<◌, ◌==◌, ◌&&◌, not, nat_lt, Bool, true, false, cond, if◌then◌else◌, List, [], ◌∷◌, length, Option, Some, None, refl, sym, ap, subst, ◌∙◌, ◌⊎◌, inl, inr, arith}
use Rattle.std.specs.Prelude.{slice_get, set}
use Rattle.std.proofs.lemmas.Bool.{eq-eqb, eqb-true, true≢false}
use Rattle.std.proofs.lemmas.List.{length-set}
use Rattle.fed_dest.specs.ServerName.{IsServerName}
use Rattle.fed_inbox.specs.Log.{LogState}
use Rattle.fed_inbox.specs.Inbox.{log_at}
use Rattle.fed_outbox.specs.Collecting.{Way}
use Rattle.fed_sim.specs.Server.{ServerState}
use Rattle.fed_sim.specs.Packets.{packet_at}
use Rattle.fed_sim.specs.Ways.{has_way, way_to, with_way}
use Rattle.fed_sim.specs.World.{PacketState, request, WorldState, with_server, max_moment}
pub use Rattle.fed_sim.proofs.Landing.{same_some, not_none}
use Rattle.fed_sim.proofs.WayMoves.{IsHeld}

-- ---- places of a list

-- what stands at a place of a list with another element at p
pub set_or_other : {A : Type 0} (xs : List A) (p : ℕ) (y : A) (k : ℕ) (x : A) → slice_get (set xs p y) k ≡ Some x → ((k ≡ p) × (y ≡ x)) ⊎ ((k ≢ p) × (slice_get xs k ≡ Some x))
set_or_other [] p y k x e = absurd (not_none x e)
set_or_other (z ∷ xs) zero y zero x e = inl (refl, same_some y x e)
set_or_other (z ∷ xs) zero y (suc k) x e = inr ((λ same. absurd (omega (arith, same))), e)
set_or_other (z ∷ xs) (suc p) y zero x e = inr ((λ same. absurd (omega (arith, same))), e)
set_or_other (z ∷ xs) (suc p) y (suc k) x e = by (set_or_other xs p y k x e)
  where
    by : ((k ≡ p) × (y ≡ x)) ⊎ ((k ≢ p) × (slice_get xs k ≡ Some x)) → ((suc k ≡ suc p) × (y ≡ x)) ⊎ ((suc k ≢ suc p) × (slice_get xs k ≡ Some x))
    by (inl (here, is)) = inl (ap suc here, is)
    by (inr (elsewhere, is)) = inr ((λ same. elsewhere (omega (arith, same))), is)

pub set_same : {A : Type 0} (xs : List A) (p : ℕ) (x : A) → slice_get xs p ≡ Some x → set xs p x ≡ xs
set_same [] p x e = refl
set_same (z ∷ xs) zero x e = ap (λ y. y ∷ xs) (sym (same_some z x e))
set_same (z ∷ xs) (suc p) x e = ap (λ ys. z ∷ ys) (set_same xs p x e)

-- ---- a world

pub record IsServerAt (names : List (List ℕ)) (count k : ℕ) (s : ServerState) : Type 0 where
  pub own : s.own ≡ k
  pub name_is : slice_get names k ≡ Some s.name
  pub named : IsServerName s.name
  pub inbox_own : s.inbox.own ≡ s.name
  pub ways : length s.ways ≡ count

pub record IsWay (count server dest : ℕ) : Type 0 where
  pub from : server < count
  pub to : dest < count
  pub apart : dest ≢ server

pub record IsBetween (o d epoch : ℕ) (os ds : ServerState) (way : Way) (packets : List PacketState) : Type 0 where
  pub log : LogState
  pub log_is : log_at os.name ds.inbox.logs ≡ Some log
  pub held : IsHeld o d epoch os.name ds.name os.journal way log packets

pub record IsSound (w : WorldState) : Type 0 where
  pub distinct : (i j : ℕ) (x : List ℕ) → slice_get w.names i ≡ Some x → slice_get w.names j ≡ Some x → i ≡ j
  pub moment : w.now ≤ max_moment
  pub servers : (k : ℕ) (s : ServerState) → slice_get w.servers k ≡ Some s → IsServerAt w.names (length w.servers) k s
  pub ways : (k server dest n : ℕ) (bytes : List ℕ) → packet_at w.packets k ≡ Some (request server dest n bytes) → IsWay (length w.servers) server dest
  pub pairs : (o d : ℕ) (os ds : ServerState) (way : Way) → slice_get w.servers o ≡ Some os → slice_get w.servers d ≡ Some ds → way_to os d ≡ Some way
      → IsBetween o d w.epoch os ds way w.packets

-- ---- ways

way_test : (b : Bool) (found : Option Way) (way : Way) → cond b found None ≡ Some way → (b ≡ true) × (found ≡ Some way)
way_test true found way e = (refl, e)
way_test false found way e = absurd (not_none way e)

both_true : (a b : Bool) → (a && b) ≡ true → (a ≡ true) × (b ≡ true)
both_true true b h = (refl, h)
both_true false b h = absurd (true≢false (sym h))

pub record WayTo (s : ServerState) (d : ℕ) (way : Way) : Type 0 where
  pub apart : d ≢ s.own
  pub within : nat_lt d (length s.ways) ≡ true
  pub is : slice_get s.ways d ≡ Some way

pub way_there : (s : ServerState) (d : ℕ) (way : Way) → way_to s d ≡ Some way → WayTo s d way
way_there s d way e =
    let test = way_test (has_way s d) (slice_get s.ways d) way e in
    let both = both_true (not (d == s.own)) (nat_lt d (length s.ways)) test.0 in
    record { apart = λ same. differs (d == s.own) (eq-eqb d s.own same) both.0; within = both.1; is = test.1 }
  where
    differs : (b : Bool) → b ≡ true → not b ≡ true → ⊥
    differs true is other = true≢false (sym other)
    differs false is other = true≢false (sym is)

pub there_way : (s : ServerState) (d : ℕ) (way : Way) → WayTo s d way → way_to s d ≡ Some way
there_way s d way leads = by (d == s.own) refl
  where
    by : (b : Bool) → (d == s.own) ≡ b → (if not b && nat_lt d (length s.ways) then slice_get s.ways d else None) ≡ Some way
    by true is = absurd (leads.apart (eqb-true d s.own is))
    by false is = ap (λ b. if b then slice_get s.ways d else None) leads.within ∙ leads.is

-- ---- one server is another

module _ (w : WorldState) (p : ℕ) (before : ServerState) (at : slice_get w.servers p ≡ Some before) (h : IsSound w) where
  pub record Stays (after : ServerState) : Type 0 where
    pub own : after.own ≡ before.own
    pub name : after.name ≡ before.name
    pub inbox : after.inbox ≡ before.inbox
    pub ways : length after.ways ≡ length before.ways

  pub changed : (after : ServerState) → Stays after
      → ((d : ℕ) (ds : ServerState) (way : Way) → slice_get w.servers d ≡ Some ds → way_to after d ≡ Some way → IsBetween p d w.epoch after ds way w.packets)
      → IsSound (with_server w p after)
  changed after stays from = record {
    distinct = h.distinct;
    moment = h.moment;
    servers = λ k s e. server k s (set_or_other w.servers p after k s e);
    ways = λ k server dest n bytes e. counted server dest (h.ways k server dest n bytes e);
    pairs = λ o d os ds way eo ed leads. pair o d os ds way (set_or_other w.servers p after o os eo) (set_or_other w.servers p after d ds ed) leads;
  }
    where
      count : length (set w.servers p after) ≡ length w.servers
      count = length-set w.servers p after

      old : IsServerAt w.names (length w.servers) p before
      old = h.servers p before at

      now : IsServerAt w.names (length w.servers) p after
      now = record {
        own = stays.own ∙ old.own;
        name_is = old.name_is ∙ ap Some (sym stays.name);
        named = subst IsServerName (sym stays.name) old.named;
        inbox_own = ap (λ i. i.own) stays.inbox ∙ old.inbox_own ∙ sym stays.name;
        ways = stays.ways ∙ old.ways;
      }

      server : (k : ℕ) (s : ServerState) → ((k ≡ p) × (after ≡ s)) ⊎ ((k ≢ p) × (slice_get w.servers k ≡ Some s)) → IsServerAt w.names (length (set w.servers p after)) k s
      server k s (inl (here, is)) = subst (λ n. IsServerAt w.names n k s) (sym count) (subst (λ x. IsServerAt w.names (length w.servers) x s) (sym here) (subst (IsServerAt w.names (length w.servers) p) is now))
      server k s (inr (elsewhere, is)) = subst (λ n. IsServerAt w.names n k s) (sym count) (h.servers k s is)

      counted : (a b : ℕ) → IsWay (length w.servers) a b → IsWay (length (set w.servers p after)) a b
      counted a b leads = subst (λ n. IsWay n a b) (sym count) leads

      receives : (o : ℕ) (os : ServerState) (way : Way) → IsBetween o p w.epoch os before way w.packets → IsBetween o p w.epoch os after way w.packets
      receives o os way b = record {
        log = b.log;
        log_is = ap (λ i. log_at os.name i.logs) stays.inbox ∙ b.log_is;
        held = subst (λ x. IsHeld o p w.epoch os.name x os.journal way b.log w.packets) (sym stays.name) b.held;
      }

      pair : (o d : ℕ) (os ds : ServerState) (way : Way) → ((o ≡ p) × (after ≡ os)) ⊎ ((o ≢ p) × (slice_get w.servers o ≡ Some os)) → ((d ≡ p) × (after ≡ ds)) ⊎ ((d ≢ p) × (slice_get w.servers d ≡ Some ds))
          → way_to os d ≡ Some way → IsBetween o d w.epoch os ds way w.packets
      pair o d os ds way (inl (here, is)) (inl (there, is_too)) leads =
          absurd ((way_there os d way leads).apart (there ∙ sym (ap (λ s. s.own) (sym is) ∙ now.own)))
      pair o d os ds way (inl (here, is)) (inr (elsewhere, to)) leads =
          subst (λ x. IsBetween x d w.epoch os ds way w.packets) (sym here)
          (subst (λ s. IsBetween p d w.epoch s ds way w.packets) is (from d ds way to (ap (λ s. way_to s d) is ∙ leads)))
      pair o d os ds way (inr (elsewhere, of)) (inl (there, is)) leads =
          subst (λ x. IsBetween o x w.epoch os ds way w.packets) (sym there)
          (subst (λ s. IsBetween o p w.epoch os s way w.packets) is (receives o os way (h.pairs o p os before way of at (ap (λ x. way_to os x) (sym there) ∙ leads))))
      pair o d os ds way (inr (elsewhere, of)) (inr (elsewhere_too, to)) leads = h.pairs o d os ds way of to leads

  -- nothing that counts here has changed
  pub changed_elsewhere : (after : ServerState) → Stays after → after.journal ≡ before.journal → after.ways ≡ before.ways → IsSound (with_server w p after)
  changed_elsewhere after stays journal ways = changed after stays (λ d ds way to leads. again d ds way (h.pairs p d before ds way at to (same_way d way leads)))
    where
      same_way : (d : ℕ) (way : Way) → way_to after d ≡ Some way → way_to before d ≡ Some way
      same_way d way leads =
          let is = way_there after d way leads in
          there_way before d way (record { apart = λ e. is.apart (e ∙ sym stays.own); within = ap (λ l. nat_lt d (length l)) (sym ways) ∙ is.within; is = ap (λ l. slice_get l d) (sym ways) ∙ is.is })

      again : (d : ℕ) (ds : ServerState) (way : Way) → IsBetween p d w.epoch before ds way w.packets → IsBetween p d w.epoch after ds way w.packets
      again d ds way b = record {
        log = b.log;
        log_is = ap (λ x. log_at x ds.inbox.logs) stays.name ∙ b.log_is;
        held = subst (λ x. IsHeld p d w.epoch x ds.name after.journal way b.log w.packets) (sym stays.name) (subst (λ j. IsHeld p d w.epoch before.name ds.name j way b.log w.packets) (sym journal) b.held);
      }

  -- one of its ways is another
  pub way_changed : (d : ℕ) (old new : Way) → way_to before d ≡ Some old
      → ((ds : ServerState) → slice_get w.servers d ≡ Some ds → (log : LogState) → log_at before.name ds.inbox.logs ≡ Some log → IsHeld p d w.epoch before.name ds.name before.journal old log w.packets
      → IsHeld p d w.epoch before.name ds.name before.journal new log w.packets)
      → IsSound (with_server w p (with_way before d new))
  way_changed d old new there moves = changed (with_way before d new) stays (λ x ds way to leads. by x ds way to (way_there (with_way before d new) x way leads) (which x ds way (way_there (with_way before d new) x way leads)))
    where
      stays : Stays (with_way before d new)
      stays = record { own = refl; name = refl; inbox = refl; ways = length-set before.ways d new }

      which : (x : ℕ) (ds : ServerState) (way : Way) → WayTo (with_way before d new) x way → ((x ≡ d) × (new ≡ way)) ⊎ ((x ≢ d) × (slice_get before.ways x ≡ Some way))
      which x ds way leads = set_or_other before.ways d new x way leads.is

      moved : (ds : ServerState) → slice_get w.servers d ≡ Some ds → IsBetween p d w.epoch before ds old w.packets → IsBetween p d w.epoch (with_way before d new) ds new w.packets
      moved ds to b = record { log = b.log; log_is = b.log_is; held = moves ds to b.log b.log_is b.held }

      kept : (x : ℕ) (ds : ServerState) (way : Way) → IsBetween p x w.epoch before ds way w.packets → IsBetween p x w.epoch (with_way before d new) ds way w.packets
      kept x ds way b = record { log = b.log; log_is = b.log_is; held = b.held }

      by : (x : ℕ) (ds : ServerState) (way : Way) → slice_get w.servers x ≡ Some ds → WayTo (with_way before d new) x way
          → ((x ≡ d) × (new ≡ way)) ⊎ ((x ≢ d) × (slice_get before.ways x ≡ Some way)) → IsBetween p x w.epoch (with_way before d new) ds way w.packets
      by x ds way to leads (inl (here, is)) =
          subst (λ l. IsBetween p x w.epoch (with_way before d new) ds l w.packets) is
          (subst (λ y. IsBetween p y w.epoch (with_way before d new) ds new w.packets) (sym here)
          (moved ds (ap (slice_get w.servers) (sym here) ∙ to) (h.pairs p d before ds old at (ap (slice_get w.servers) (sym here) ∙ to) there)))
      by x ds way to leads (inr (elsewhere, is)) =
          kept x ds way (h.pairs p x before ds way at to
          (there_way before x way (record { apart = leads.apart; within = ap (λ n. nat_lt x n) (sym (length-set before.ways d new)) ∙ leads.within; is = is })))
