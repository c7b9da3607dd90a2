-- What a reader of messages stands for, as pieces come.
use Rattle.std.proofs.Common.{arith, ◌≡◌, ℕ, ◌+◌, ◌≤◌, List, [], ◌++◌, length, take, refl, sym, ap, subst, ◌∙◌, true, true≢false}
use Rattle.std.specs.Prelude.{Option, Result, Ok, Err, IfErr, IsErrAnd}
use Rattle.std.specs.Io.KnownBytes.{Consumes, Keeps}
use Rattle.std.proofs.KnownBytes.{Consumes-nil, Consumes-trans, Consumes-kept}
use Rattle.std.proofs.lemmas.List.{length-take}
use Rattle.std.proofs.Math.Seq.{take-append-add, take-append_seam}
use Rattle.fed_http.specs.Text.{IsText, BeginsWith}
use Rattle.fed_http.specs.Waiting.{IsWaiting}
use Rattle.fed_http.specs.Faults.{IsFault, IsBadHead, IsTooLarge, IsBadLength, IsBadChunk}
use Rattle.fed_http.specs.Reader.{Reading, StandsFor, Gives, Waits, Fails}
use Rattle.fed_http.specs.declared.fault.HttpFault.{HttpFault}
use Rattle.fed_http.specs.declared.fault.HttpFault.TheVariants as fault
use Rattle.fed_http.specs.declared.message.Kind.{Kind}
use Rattle.fed_http.specs.declared.message.Message.{Message}
use Rattle.fed_stream.specs.declared.unread.Unread.{Unread}
use Rattle.fed_stream.specs.declared.unread.Unread.TheVariants.{Http}
use Rattle.fed_stream.specs.Reading.{TakesUpTo, IsUnread}
use Rattle.fed_stream.proofs.Nothing.{nothing_waits}

-- what was taken waits for more, and the reader of messages stands for it
pub record Stands (kind : Kind) (old new : Option (List ℕ)) (reader : Reading) : Type 0 where
  pub bytes : List ℕ
  pub taken : Consumes old new bytes
  pub waiting : IsWaiting kind bytes
  pub of_kind : reader.kind ≡ kind
  pub stands : StandsFor reader bytes

pub stands_first : (old : Option (List ℕ)) (reader : Reading) → StandsFor reader [] → Stands reader.kind old old reader
stands_first old reader stands = record { bytes = []; taken = Consumes-nil old; waiting = nothing_waits reader.kind; of_kind = refl; stands = stands }

-- a read that gave nothing
pub stands_kept : (kind : Kind) (a b c : Option (List ℕ)) (reader : Reading) → Stands kind a b reader → Keeps b c → Stands kind a c reader
stands_kept kind a b c reader s kept = record { bytes = s.bytes; taken = Consumes-kept a b c s.bytes s.taken kept; waiting = s.waiting; of_kind = s.of_kind; stands = s.stands }

-- ---- a piece

pub record IsPiece (old new : Option (List ℕ)) (piece : List ℕ) : Type 0 where
  pub taken : Consumes old new piece
  pub short : length piece ≤ 65536

-- the bytes of a buffer up to which a read filled it
pub is_piece : (a b : Option (List ℕ)) (count len : ℕ) (given kept all : List ℕ) → all ≡ take len (given ++ kept) → length given ≡ len → len ≡ 65536 → Consumes a b (take count given) → IsPiece a b (take count all)
is_piece a b count len given kept all is full size taken =
    let same : all ≡ given = is ∙ ap (λ n. take n (given ++ kept)) (sym full) ∙ take-append_seam given kept in
    subst (λ l. IsPiece a b (take count l)) (sym same) (record { taken = taken; short = rw length-take (omega arith) })

pub stands_waits : (kind : Kind) (a b c : Option (List ℕ)) (old new : Reading) (piece : List ℕ) (used : ℕ) (s : Stands kind a b old) → IsPiece b c piece → Waits old s.bytes piece new used → Stands kind a c new
stands_waits kind a b c old new piece used s p w = record {
  bytes = s.bytes ++ piece;
  taken = Consumes-trans a b c s.bytes piece s.taken p.taken;
  waiting = subst (λ k. IsWaiting k (s.bytes ++ piece)) s.of_kind w.waiting;
  of_kind = w.kind ∙ s.of_kind;
  stands = w.after;
}

-- ---- the last piece

pub up_to : (kind : Kind) (a b c : Option (List ℕ)) (reader : Reading) (piece : List ℕ) (Ends : List ℕ → Type 0) (s : Stands kind a b reader) → IsPiece b c piece → Ends (s.bytes ++ piece)
    → TakesUpTo kind a c Ends
up_to kind a b c reader piece Ends s p ends = record {
  before = s.bytes;
  piece = piece;
  taken = Consumes-trans a b c s.bytes piece s.taken p.taken;
  waiting = s.waiting;
  short = p.short;
  ends = ends;
}

pub message_ends : (kind : Kind) (a b : Option (List ℕ)) (old new : Reading) (piece : List ℕ) (m : Message) (used : ℕ) (s : Stands kind a b old) → Gives old s.bytes piece new m used → BeginsWith kind (s.bytes ++ piece) m
message_ends kind a b old new piece m used s g = (
  length s.bytes + used,
  subst (λ k. IsText k m (take (length s.bytes + used) (s.bytes ++ piece))) s.of_kind (subst (IsText old.kind m) (sym (take-append-add s.bytes piece used)) g.text),
)

-- what is told of a piece is a fault of the bytes, or want of memory; it did not fail before
pub fault_ends : (kind : Kind) (a b : Option (List ℕ)) (old new : Reading) (piece : List ℕ) (told : HttpFault) (s : Stands kind a b old)
    → (told ≡ fault.BadHead → Fails IsBadHead old s.bytes piece new) → (told ≡ fault.TooLarge → Fails IsTooLarge old s.bytes piece new)
    → (told ≡ fault.BadLength → Fails IsBadLength old s.bytes piece new) → (told ≡ fault.BadChunk → Fails IsBadChunk old s.bytes piece new)
    → (told ≡ fault.HasFailed → old.has_failed ≡ true) → IsFault kind (s.bytes ++ piece) told
fault_ends kind a b old new piece told s head large length chunk failed = subst (λ k. IsFault k (s.bytes ++ piece) told) s.of_kind (by told head large length chunk failed)
  where
    by : (f : HttpFault) → (f ≡ fault.BadHead → Fails IsBadHead old s.bytes piece new) → (f ≡ fault.TooLarge → Fails IsTooLarge old s.bytes piece new)
        → (f ≡ fault.BadLength → Fails IsBadLength old s.bytes piece new) → (f ≡ fault.BadChunk → Fails IsBadChunk old s.bytes piece new)
        → (f ≡ fault.HasFailed → old.has_failed ≡ true) → IsFault old.kind (s.bytes ++ piece) f
    by fault.Memory head large length chunk failed = tt
    by fault.BadHead head large length chunk failed = (head refl).is
    by fault.TooLarge head large length chunk failed = (large refl).is
    by fault.BadLength head large length chunk failed = (length refl).is
    by fault.BadChunk head large length chunk failed = (chunk refl).is
    by fault.HasFailed head large length chunk failed = absurd (true≢false (sym (failed refl) ∙ s.stands.live))

-- ---- a fault that is passed on

-- no piece was read yet
pub nothing_taken : (kind : Kind) (a : Option (List ℕ)) (told : HttpFault) → told ≡ fault.Memory → TakesUpTo kind a a (λ bytes. IsFault kind bytes told)
nothing_taken kind a told is = record { before = []; piece = []; taken = Consumes-nil a; waiting = nothing_waits kind; short = omega arith; ends = subst (IsFault kind []) (sym is) tt }

pub passed_on : {T : Type 0} (kind : Kind) (a b : Option (List ℕ)) (told : HttpFault) (r : Result T Unread) → IsErrAnd r (λ why. why ≡ Http told) → TakesUpTo kind a b (λ bytes. IsFault kind bytes told)
    → IfErr r (λ why. IsUnread kind a b why)
passed_on kind a b told (Ok x) is taken = tt
passed_on kind a b told (Err why) is taken = subst (IsUnread kind a b) (sym is) taken
