use Rattle.net_model.specs.Drafts.{data_of}
use Rattle.net_text.proofs.ReadingLaw.{network_of_valid}
use Rattle.net_text.proofs.reader.read_net.Goals as goal

pub build-requires : goal.build-requires
build-requires c = network_of_valid c.args.text.now (data_of c.in-Ok.draft) c.in-Ok.ensures
