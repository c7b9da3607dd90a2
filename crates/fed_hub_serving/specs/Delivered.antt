-- A request that was read apart from the inbox of its server, and delivers a transaction (Matrix, Server-Server API, "Transactions").
use Rattle.fed_keys.specs.Keys.{Checks}
use Rattle.fed_inbox.specs.Receiver.{ReceiverState}
use Rattle.fed_inbox.specs.Delivery.{judged_of, Settles}
use Rattle.fed_inbox.specs.DeliveryParts.{delivered}
use Rattle.fed_hub_serving.specs.declared.delivered_request.DeliveredRequest.{DeliveredRequest}

-- what any inbox of the server makes of the transaction, once it is judged, is its answer to the request
abbrev pub IsDelivered : Checks → ReceiverState → DeliveredRequest → Type 0
IsDelivered checks receiver d = Settles checks receiver d.request (judged_of checks receiver.rooms (delivered d.delivery))
