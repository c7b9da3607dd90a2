-- What an EDU of a journal that is pointed to stands for.
use Rattle.fed_hub_told.specs.declared.offers.Offer.{Offer}
use Rattle.fed_hub_told.specs.AsTold.{OfferedEdu}

abbrev pub edu_of : Offer → OfferedEdu
edu_of offer = record { edu = offer.edu.now; dests = offer.dests.now }
