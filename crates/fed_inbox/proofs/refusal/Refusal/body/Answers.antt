use Rattle.std.proofs.Common.{ap, sym, ◌∙◌, ℕ, List}
use Rattle.fed_inbox.specs.declared.refusal.Refusal.{Refusal}
use Rattle.fed_inbox.specs.Refusal.{error_reply, error_body}
use Rattle.fed_inbox.proofs.refusal.Refusal.body.Goals as goal

abbrev text : Refusal → List ℕ
text r = error_body (error_reply r)

pub returns-in-ServerNotListed : goal.returns-in-ServerNotListed
returns-in-ServerNotListed c = ap text (sym c.in-ServerNotListed.is)

pub returns-in-BodyTooLarge : goal.returns-in-BodyTooLarge
returns-in-BodyTooLarge c = ap text (sym c.in-BodyTooLarge.is)

pub returns-in-NotCanonical : goal.returns-in-NotCanonical
returns-in-NotCanonical c = ap text (sym c.in-NotCanonical.is)

pub returns-in-BadSignature : goal.returns-in-BadSignature
returns-in-BadSignature c = ap text (sym c.in-BadSignature.is)

pub returns-in-OriginDiffers : goal.returns-in-OriginDiffers
returns-in-OriginDiffers c = ap text (sym c.in-OriginDiffers.is)

pub returns-in-TooManyPdus : goal.returns-in-TooManyPdus
returns-in-TooManyPdus c = ap text (sym c.in-TooManyPdus.is)

pub returns-in-TooManyEdus : goal.returns-in-TooManyEdus
returns-in-TooManyEdus c = ap text (sym c.in-TooManyEdus.is)

pub returns-in-OutOfMemory : goal.returns-in-OutOfMemory
returns-in-OutOfMemory c = ap text (sym c.in-OutOfMemory.is)

pub returns-in-BadField : goal.returns-in-BadField
returns-in-BadField c = c.bad_field.ensures ∙ ap text (sym c.in-BadField.is)

pub returns-in-NoSuchPath : goal.returns-in-NoSuchPath
returns-in-NoSuchPath c = ap text (sym c.in-NoSuchPath.is)

pub returns-in-MethodNotAllowed : goal.returns-in-MethodNotAllowed
returns-in-MethodNotAllowed c = ap text (sym c.in-MethodNotAllowed.is)

pub returns-in-BadAuthorization : goal.returns-in-BadAuthorization
returns-in-BadAuthorization c = ap text (sym c.in-BadAuthorization.is)

pub returns-in-WrongDestination : goal.returns-in-WrongDestination
returns-in-WrongDestination c = ap text (sym c.in-WrongDestination.is)
