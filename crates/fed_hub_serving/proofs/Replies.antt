-- What a server replies to a request, and what becomes of one that comes to it.
use Rattle.std.proofs.Common.{◌≡◌, ℕ, List, [], length, Option, Some, None, Result, Ok, Err, refl, sym, subst, ◌∙◌}
use Rattle.std.proofs.lemmas.Option.{none-some}
use Rattle.fed_event.specs.Checked.{CheckedEvent}
use Rattle.fed_keys.specs.Keys.{Checks}
use Rattle.fed_http.specs.FaultReplies.{reply_to}
use Rattle.fed_http.specs.Message.{RequestValue, Answer}
use Rattle.fed_http.specs.declared.fault.HttpFault.{HttpFault}
use Rattle.fed_http.specs.declared.message.Kind.TheVariants.{Requests}
use Rattle.fed_http.specs.declared.message.Message.TheVariants.{Request}
use Rattle.fed_inbox.specs.declared.refusal.Refusal.TheVariants.{OutOfMemory}
use Rattle.fed_inbox.specs.History.{begun}
use Rattle.fed_inbox.specs.Inbox.{InboxState}
use Rattle.fed_inbox.specs.Reply.{refused}
use Rattle.fed_stream.specs.Reading.{Reads, IsUnread}
use Rattle.fed_stream.specs.declared.unread.Unread.TheVariants.{Http}
use Rattle.std.specs.Prelude.{IfOk}
use Rattle.fed_hub_serving.specs.declared.inbox_reply.InboxReply.{InboxReply}
use Rattle.fed_hub_serving.specs.declared.served.Served.{Served}
use Rattle.fed_hub_serving.specs.Locked.{IsLockedReply}
use Rattle.fed_hub_serving.specs.declared.served.Served.TheVariants.{Answered, ReadFault, EndedEarly, WriteFault}
use Rattle.fed_hub_serving.specs.Answered.{AnsweredValue}
use Rattle.fed_hub_serving.specs.Sections.{Takes, RequestIsTaken, no_memory, served}
use Rattle.fed_hub_serving.specs.Served.{IsInboxReply, IsNumbered, IsTakenIn, hidden, seen, Ends, to_request, to_fault, IsServed}
use Rattle.fed_hub_serving.specs.ServedParts.{IsSent, IsRequestServed}
use Rattle.fed_hub_serving.specs.Serving.{ServingState, IsKeptFrom}
use Rattle.fed_hub_serving.proofs.Takes.{takes, no_memory_is_told}

module _ (checks : Checks) (known : List (List ℕ)) (beginning : InboxState) (request : RequestValue) (old : ServingState) (reply : Answer) where
  by_step : (new : InboxState) (fresh : List CheckedEvent) → IsKeptFrom checks beginning old → Takes checks known request old.inbox reply new fresh → IsInboxReply checks beginning request reply
  by_step new fresh history takes =
      let take = takes [] in
      record { points = old.points; inbox = old.inbox; history = history; new = new; fresh = take.fresh; answered = take.answered }

  module _ (number : Option ℕ) where
    pub replied : (new : ServingState) → IsKeptFrom checks beginning old → RequestIsTaken checks known request old reply number new → IsInboxReply checks beginning request reply
    replied _ history (no_memory is none takes) = by_step old.inbox [] history takes
    replied _ history (served new so some) = by_step new.inbox so.fresh history so.takes

    pub numbered : (new : ServingState) → RequestIsTaken checks known request old reply number new → IsNumbered reply number
    numbered _ (no_memory is none takes) = (λ _. is, λ _. none)
    numbered _ (served new so some) = (λ none. absurd (none-some (length new.points) (sym none ∙ some)), λ is. absurd (so.found is))

-- the same of a request that may be given back
pub locked : {E : Type 0} (checks : Checks) (known : List (List ℕ)) (beginning : InboxState) (request : RequestValue) (old : ServingState) (told : Result InboxReply E) (new : ServingState) → IsKeptFrom checks beginning old
    → IfOk told (λ (r : InboxReply). RequestIsTaken checks known request old r.reply r.number new) → IfOk told (IsLockedReply checks beginning request)
locked checks known beginning request old (Ok r) new history taken = (replied checks known beginning request old r.reply r.number new history taken, numbered checks known beginning request old r.reply r.number new taken)
locked checks known beginning request old (Err back) new history taken = tt

pub if_ok : {X E : Type 0} (told : Result X E) (P Q : X → Type 0) → ((x : X) → P x → Q x) → IfOk told P → IfOk told Q
if_ok (Ok x) P Q then is = then x is
if_ok (Err e) P Q then is = tt

-- of want of memory it tells after any history
pub replied_for_memory : (checks : Checks) (beginning : InboxState) (request : RequestValue) → IsInboxReply checks beginning request (refused OutOfMemory)
replied_for_memory checks beginning request = record {
  points = [];
  inbox = beginning;
  history = begun;
  new = beginning;
  fresh = [];
  answered = no_memory_is_told checks beginning request;
}

module _ (checks : Checks) (known : List (List ℕ)) (beginning : InboxState) where
  -- where memory runs out, the inbox is as it was
  untaken_for_memory : (request : RequestValue) (inbox : Option ServingState) → IsTakenIn checks known request (refused OutOfMemory) None inbox inbox
  untaken_for_memory request None = hidden None (λ _. refl, λ _. refl)
  untaken_for_memory request (Some old) =
      seen old old (no_memory refl refl (takes checks known request old.inbox (refused OutOfMemory) old.inbox [] (no_memory_is_told checks old.inbox request)))

  -- where memory runs out for a request, it is told, and nothing is kept
  pub served_for_memory : (request : RequestValue) (inbox : Option ServingState) (given given' : List AnsweredValue) (old new : Option (List ℕ)) (told : Served) (reply : Answer) → reply ≡ refused OutOfMemory → given' ≡ given
      → IsSent request.method old new reply told → IsRequestServed checks known beginning request inbox inbox given given' old new told
  served_for_memory request inbox given given' old new told reply is same sent = record {
    reply = reply;
    number = None;
    of_inbox = subst (IsInboxReply checks beginning request) (sym is) (replied_for_memory checks beginning request);
    taken = subst (λ (a : Answer). IsTakenIn checks known request a None inbox inbox) (sym is) (untaken_for_memory request inbox);
    kept = same;
    sent = sent;
  }

  module _ (old new : Ends) where
    pub of_request : (request : RequestValue) → Reads Requests old.left new.left (Request request) → (told : Served)
        → IsRequestServed checks known beginning request old.inbox new.inbox old.given new.given old.written new.written told → IsServed checks known beginning old new told
    of_request request reads (Answered status) so = (so.reply, request.method, to_request request so.number reads so.of_inbox so.taken so.kept, so.sent.0, so.sent.1)
    of_request request reads WriteFault so = (so.reply, request.method, to_request request so.number reads so.of_inbox so.taken so.kept, so.sent)
    of_request request reads ReadFault so = absurd so.sent
    of_request request reads EndedEarly so = absurd so.sent

    pub of_fault : (fault : HttpFault) → IsUnread Requests old.left new.left (Http fault) → (reply : Answer) → reply ≡ reply_to fault → new.inbox ≡ old.inbox → new.given ≡ old.given → (told : Served)
        → IsSent [] old.written new.written reply told → IsServed checks known beginning old new told
    of_fault fault bytes reply is stays same (Answered status) sent = (reply, [], to_fault fault bytes is stays same, sent.0, sent.1)
    of_fault fault bytes reply is stays same WriteFault sent = (reply, [], to_fault fault bytes is stays same, sent)
    of_fault fault bytes reply is stays same ReadFault sent = absurd sent
    of_fault fault bytes reply is stays same EndedEarly sent = absurd sent

-- what holds of a request that was judged holds of the one that it was
pub replied_to : (checks : Checks) (beginning : InboxState) (judged request : RequestValue) (reply : Answer) → judged ≡ request → IsInboxReply checks beginning judged reply
    → IsInboxReply checks beginning request reply
replied_to checks beginning judged request reply same is = subst (λ (r : RequestValue). IsInboxReply checks beginning r reply) same is

pub taken_for : (checks : Checks) (known : List (List ℕ)) (judged request : RequestValue) (reply : Answer) (number : Option ℕ) (old new : Option ServingState) → judged ≡ request
    → IsTakenIn checks known judged reply number old new → IsTakenIn checks known request reply number old new
taken_for checks known judged request reply number old new same is = subst (λ (r : RequestValue). IsTakenIn checks known r reply number old new) same is
