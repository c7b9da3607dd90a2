use Rattle.std.proofs.Common.{rules, ◌≡◌, ℕ, ◌<◌, ◌∙◌, ap, length, sym, subst, arith, replicate}
use Rattle.fed_wires.specs.declared.board_rule.Look.{Look}
use Rattle.fed_wires.specs.Board.{board_of}
use Rattle.fed_wires.specs.BoardRule.{owned, look, looker, first_alone, without_first}
use Rattle.fed_wires.specs.Seat.{Seated, new_seat, one_word}
use Rattle.fed_wires.proofs.Counting.{begins, deals, admits}
use Rattle.fed_wires.proofs.Seats.{one_more}
use Rattle.fed_wires.proofs.board.Board.new.Goals as goal

pub of_words-requires : goal.of_words-requires
of_words-requires c = begins _ _ (c.as_slice.ensures.value ∙ c.in_ok-zeros.ensures.items_if_clones_equal (λ y e. e)) (search rules)

pub split_seat-token-requires : goal.split_seat-token-requires
split_seat-token-requires c =
    let is = ap (λ m. m.0) c.loop-word.invariant.me in
    let words : length c.as_slice.result.now ≡ c.args.words = search rules in
    let some_word = subst (λ (v : Look). v.owned.from < v.owned.until) (sym is) (omega arith) in
    (c.loop-word.invariant.root, omega (arith, c.in_ok-table.ensures.0, words, c.requires), deals _ _ _ some_word)

pub loop-word-preserved : goal.loop-word-preserved
loop-word-preserved c =
    let z = c.in_ok-table.table.shared.table_id in
    let e = c.split_seat-token.ensures in
    let is = ap (λ m. m.0) c.loop-word.invariant.me in
    let words : length c.as_slice.result.now ≡ c.args.words = search rules in
    let size : z.words ≡ c.args.words = c.in_ok-table.ensures.0 ∙ words in
    let s : Seated = record { board = board_of c.split_seat-token.result.table_id; owned = c.split_seat-token.result.me.0.owned; seen = c.split_seat-token.result.me.0.seen; loads = c.split_seat-token.result.me.0.loads } in
    let view : c.split_seat-token.result.me.0 ≡ look (one_word c.loop-word.word 0) (replicate z.words 0) 0 = ap (λ m. m.0) e.4 ∙ ap first_alone is ∙ ap (λ (n : ℕ). look (one_word c.loop-word.word 0) (replicate n 0) 0) (sym size) in
    let new : s ≡ new_seat (board_of z) (one_word c.loop-word.word 0) = ap (λ t. record { board = board_of t; owned = c.split_seat-token.result.me.0.owned; seen = c.split_seat-token.result.me.0.seen; loads = c.split_seat-token.result.me.0.loads }) (e.3 ∙ c.loop-word.invariant.root) ∙ ap (λ (v : Look). record { board = board_of z; owned = v.owned; seen = v.seen; loads = v.loads }) view in
    record {
      root = e.0 ∙ c.loop-word.invariant.root;
      me = e.2 ∙ ap (λ m. (without_first m.0, m.1)) c.loop-word.invariant.me;
      owners = one_more (board_of z) c.loop-word.word (λ word. one_word word 0) c.loop-word.owners.items c.push.new.self.items s c.in_ok-push.ensures.items new c.loop-word.invariant.owners;
    }

pub split_seat-token-requires-in-loop : goal.split_seat-token-requires-in-loop
split_seat-token-requires-in-loop c =
    let words : length c.as_slice.result.now ≡ c.args.words = search rules in
    (c.loop.invariant.root, omega (arith, c.in_ok-table.ensures.0, words, c.requires), admits _ _ _)

pub loop-preserved : goal.loop-preserved
loop-preserved c =
    let z = c.in_ok-table.table.shared.table_id in
    let e = c.split_seat-token-in-loop.ensures in
    let is = ap (λ m. m.0) c.loop.invariant.me in
    let words : length c.as_slice.result.now ≡ c.args.words = search rules in
    let size : z.words ≡ c.args.words = c.in_ok-table.ensures.0 ∙ words in
    let s : Seated = record { board = board_of c.split_seat-token-in-loop.result.table_id; owned = c.split_seat-token-in-loop.result.me.0.owned; seen = c.split_seat-token-in-loop.result.me.0.seen; loads = c.split_seat-token-in-loop.result.me.0.loads } in
    let view : c.split_seat-token-in-loop.result.me.0 ≡ looker (replicate z.words 0) 0 = ap (λ m. m.0) e.4 ∙ ap (λ (v : Look). looker v.seen 0) is ∙ ap (λ (n : ℕ). looker (replicate n 0) 0) (sym size) in
    let new : s ≡ new_seat (board_of z) (owned 0 0 0) = ap (λ t. record { board = board_of t; owned = c.split_seat-token-in-loop.result.me.0.owned; seen = c.split_seat-token-in-loop.result.me.0.seen; loads = c.split_seat-token-in-loop.result.me.0.loads }) (e.3 ∙ c.loop.invariant.root) ∙ ap (λ (v : Look). record { board = board_of z; owned = v.owned; seen = v.seen; loads = v.loads }) view in
    record {
      root = e.0 ∙ c.loop.invariant.root;
      me = e.2 ∙ c.loop.invariant.me;
      readers = one_more (board_of z) c.loop.counter (λ _. owned 0 0 0) c.loop.others.items c.push-in-loop.new.self.items s c.in_ok-push-2.ensures.items new c.loop.invariant.readers;
    }
