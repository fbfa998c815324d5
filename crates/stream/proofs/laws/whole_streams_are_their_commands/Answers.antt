use Rattle.stream.proofs.Items.{whole_items}
use Rattle.stream.proofs.laws.whole_streams_are_their_commands.Goals as goal

pub returns : goal.returns
returns c = whole_items
