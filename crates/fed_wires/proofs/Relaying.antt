-- Each step of a wire keeps its rule.
use Rattle.std.proofs.Common.{◌≡◌, ◌≢◌, ℕ, ◌+◌, ◌≤◌, true, false, true≢false, List, [], ◌∷◌, ◌++◌, length, set, sym, refl, ap, ◌∙◌, subst, ⊎_elim, append_assoc, length-append, arith}
use mathlib.Core.Option.{some}
use lib.ListN.{get_elem?}
use Rattle.crossbeam_channel.specs.Fifo.{Pushes, Pops, Forks, Merges, Learns}
use Rattle.atomic_table.proofs.Lists.{at_set}
use Rattle.fed_wires.specs.declared.rule.Log.{Log}
use Rattle.fed_wires.specs.Wire.{log, idle, Numbered, Follows, Knows, Relays}
use Rattle.fed_wires.proofs.Views.{Each, each_set, each_more, each_one}

off : false ≡ true → ⊥
off e = true≢false (sym e)

module _ {T : Type 0} (fits : ℕ → T → Type 0) where
  numbered_more : (n : ℕ) (xs : List T) (x : T) → Numbered fits n xs → fits (n + length xs + 1) x → Numbered fits n (xs ++ x ∷ [])
  numbered_more n [] x all fit = (subst (λ (k : ℕ). fits k x) (omega arith) fit, tt)
  numbered_more n (y ∷ ys) x all fit = (all.0, numbered_more (n + 1) ys x all.1 (subst (λ (k : ℕ). fits k x) (omega arith) fit))

  numbered_at : (n : ℕ) (xs : List T) (x : T) (ys : List T) → Numbered fits n (xs ++ x ∷ ys) → fits (n + length xs + 1) x
  numbered_at n [] x ys all = subst (λ (k : ℕ). fits k x) (omega arith) all.0
  numbered_at n (y ∷ xs) x ys all = subst (λ (k : ℕ). fits k x) (omega arith) (numbered_at (n + 1) xs x ys all.1)

  module _ (room : ℕ) where
    -- a new wire, whose one pass does both
    pub begins : Relays fits room [] (log true true [] [] 0 ∷ [])
    begins = (0, 0, [], [], (refl, omega arith), tt, each_one (Knows 0 0 [] []) (log true true [] [] 0) ((λ _. (refl, refl)), λ _. (refl, refl)))

    -- a message joins what was sent, and the queue
    pub sends : (n pass : ℕ) (v : Log T) (x : T) → n ≤ room → v.sends ≡ true → fits (length v.sent + 1) x
        → Pushes (Relays fits room) n pass v x (λ w. w ≡ log v.sends v.receives (v.sent ++ x ∷ []) v.received v.returned)
    sends n pass v x small may fit queue views less h at =
        let w : Log T = log v.sends v.receives (v.sent ++ x ∷ []) v.received v.returned in
        let mine = h.6 pass v at in
        let known : v.sent ≡ h.2 = (mine.0 may).1 in
        let sent : List T = h.2 ++ x ∷ [] in (
          w,
          (
            h.0,
            h.1,
            sent,
            h.3,
            (ap (λ (l : List T). l ++ x ∷ []) h.4.0 ∙ append_assoc h.3 queue (x ∷ []), omega (arith, length-append queue (x ∷ []))),
            numbered_more 0 h.2 x h.5 (subst (λ (k : ℕ). fits k x) (omega (arith, ap length known)) fit),
            each_set (Knows h.0 h.1 sent h.3) views pass w ((λ _. ((mine.0 may).0, ap (λ (l : List T). l ++ x ∷ []) known)), mine.1)
                (λ j u apart e. ((λ p. absurd (apart (((h.6 j u e).0 p).0 ∙ sym (mine.0 may).0))), (h.6 j u e).1)),
          ),
          refl,
        )

    -- the first message of the queue joins what was received
    pub receives : (pass : ℕ) (v : Log T) → v.receives ≡ true
        → Pops (Relays fits room) pass v (λ x w. (w ≡ log v.sends v.receives v.sent (v.received ++ x ∷ []) v.returned) × fits (length v.received + 1) x)
    receives pass v may x queue views h at =
        let w : Log T = log v.sends v.receives v.sent (v.received ++ x ∷ []) v.returned in
        let mine = h.6 pass v at in
        let known : v.received ≡ h.3 = (mine.1 may).1 in
        let received : List T = h.3 ++ x ∷ [] in (
          w,
          (
            h.0,
            h.1,
            h.2,
            received,
            (h.4.0 ∙ sym (append_assoc h.3 (x ∷ []) queue), omega (arith, h.4.1)),
            h.5,
            each_set (Knows h.0 h.1 h.2 received) views pass w (mine.0, λ _. ((mine.1 may).0, ap (λ (l : List T). l ++ x ∷ []) known))
                (λ j u apart e. ((h.6 j u e).0, λ p. absurd (apart (((h.6 j u e).1 p).0 ∙ sym (mine.1 may).0)))),
          ),
          (refl, subst (λ (k : ℕ). fits k x) (omega (arith, ap length known)) (numbered_at 0 h.3 x queue (subst (Numbered fits 0) h.4.0 h.5))),
        )

    -- who receives leaves that to a new pass
    pub parts : (pass : ℕ) (v : Log T) → v.receives ≡ true → Forks (Relays fits room) pass v (log v.sends false v.sent [] v.returned) (log false true [] v.received 0)
    parts pass v may queue views h at =
        let left : Log T = log v.sends false v.sent [] v.returned in
        let right : Log T = log false true [] v.received 0 in
        let mine = h.6 pass v at in
        let vs : List (Log T) = set views pass left in
        let Sending : ℕ → Log T → Type 0 = λ j u. (u.sends ≡ true → (j ≡ h.0) × (u.sent ≡ h.2)) × (u.receives ≢ true) in
        let old : Each Sending vs = each_set Sending views pass left (mine.0, off) (λ j u apart e. ((h.6 j u e).0, λ p. apart (((h.6 j u e).1 p).0 ∙ sym (mine.1 may).0))) in (
          h.0,
          length vs,
          h.2,
          h.3,
          h.4,
          h.5,
          each_more (Knows h.0 (length vs) h.2 h.3) vs right (λ j u e. ((old j u e).0, λ p. absurd ((old j u e).1 p))) ((λ p. absurd (off p)), λ _. (refl, (mine.1 may).1)),
        )

    -- a pass that knows nothing may join
    pub shows : (pass : ℕ) (v : Log T) → Forks (Relays fits room) pass v v idle
    shows pass v queue views h at =
        let vs : List (Log T) = set views pass v in (
          h.0,
          h.1,
          h.2,
          h.3,
          h.4,
          h.5,
          each_more (Knows h.0 h.1 h.2 h.3) vs idle (each_set (Knows h.0 h.1 h.2 h.3) views pass v (h.6 pass v at) (λ j u _ e. h.6 j u e)) ((λ p. absurd (off p)), λ p. absurd (off p)),
        )

    -- a count of messages that came back changes nothing else, and a pass that knows nothing may join
    pub returns : (pass : ℕ) (v : Log T) → Forks (Relays fits room) pass v (log v.sends v.receives v.sent v.received (v.returned + 1)) idle
    returns pass v queue views h at =
        let left : Log T = log v.sends v.receives v.sent v.received (v.returned + 1) in
        let vs : List (Log T) = set views pass left in (
          h.0,
          h.1,
          h.2,
          h.3,
          h.4,
          h.5,
          each_more (Knows h.0 h.1 h.2 h.3) vs idle (each_set (Knows h.0 h.1 h.2 h.3) views pass left (h.6 pass v at) (λ j u _ e. h.6 j u e)) ((λ p. absurd (off p)), λ p. absurd (off p)),
        )

    -- who sends takes in who receives
    pub meets : (pass : ℕ) (v : Log T) (other : ℕ) (u : Log T) → u.receives ≡ true
        → Merges (Relays fits room) pass v other u (log v.sends u.receives v.sent u.received v.returned) idle
    meets pass v other u may queue views h at two at' =
        let both : Log T = log v.sends u.receives v.sent u.received v.returned in
        let mine = h.6 pass v at in
        let vs : List (Log T) = set views pass both in
        let was : get_elem? views other ≡ some u = ⊎_elim (λ here. absurd (two here.0)) (λ apart. apart.1) (at_set views pass other both u at') in
        let theirs = (h.6 other u was).1 may in
        let Others : ℕ → Log T → Type 0 = λ j y. j ≢ other → Knows h.0 pass h.2 h.3 j y in
        let now : Each Others vs = each_set Others views pass both (λ _. (mine.0, λ _. (refl, theirs.1))) (λ j y _ e apart. ((h.6 j y e).0, λ p. absurd (apart (((h.6 j y e).1 p).0 ∙ sym theirs.0)))) in
        (h.0, pass, h.2, h.3, h.4, h.5, each_set (Knows h.0 pass h.2 h.3) vs other idle ((λ p. absurd (off p)), λ p. absurd (off p)) (λ j y apart e. now j y e apart))

    -- who does both knows both lists, and so what the queue is
    pub compares : (pass : ℕ) (v : Log T) → v.sends ≡ true → v.receives ≡ true → Learns (Relays fits room) pass v (λ queue. Follows v.sent v.received queue room)
    compares pass v sending receiving queue views h at =
        let mine = h.6 pass v at in
        ((mine.0 sending).1 ∙ h.4.0 ∙ ap (λ (l : List T). l ++ queue) (sym (mine.1 receiving).1), h.4.1)
