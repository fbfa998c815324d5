use Rattle.stream.proofs.Apart.{lines_tell_apart}
use Rattle.stream.proofs.laws.lines_tell_apart.Goals as goal

pub returns : goal.returns
returns c d = lines_tell_apart
