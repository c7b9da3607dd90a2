use Rattle.fed_redaction.specs.declared.version.Version.TheVariants.{V10}
use Rattle.fed_c.specs.Destinations.{destinations_answer}
use Rattle.fed_c.specs.Values.{value_of}
use Rattle.fed_c.proofs.AnyVersion.{gives_same, same_destinations}
use Rattle.fed_c.proofs.destinations.wikzord_destinations.Goals as goal

pub returns-clause-gives : goal.returns-clause-gives
returns-clause-gives c = λ version names are.
    let state = value_of c.args.state.now in
    gives_same _ _ _ _ (same_destinations V10 version state names c.args.own.now)
    (c.give.ensures.gives (destinations_answer V10 state names c.args.own.now) (c.destinations.ensures.ok names are) (c.destinations.ensures.fault names are))
