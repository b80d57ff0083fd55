use Rattle.net_text.proofs.PrintedNetworks.{printed_is_read}
use Rattle.net_text.proofs.printing.law_of_printing.Goals as goal

pub returns : goal.returns
returns c = printed_is_read
