use Rattle.net_text.proofs.ReadingLaw.{network_of_valid}
use Rattle.net_text.proofs.reader.law_of_reading.Goals as goal

pub returns : goal.returns
returns c = network_of_valid
