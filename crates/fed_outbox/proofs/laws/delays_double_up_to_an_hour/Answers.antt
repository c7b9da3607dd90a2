use Rattle.fed_outbox.proofs.Delays.{delay_doubled, delay_most}
use Rattle.fed_outbox.proofs.laws.delays_double_up_to_an_hour.Goals as goal

pub returns-clause-doubled : goal.returns-clause-doubled
returns-clause-doubled c = delay_doubled

pub returns-clause-most : goal.returns-clause-most
returns-clause-most c = delay_most
