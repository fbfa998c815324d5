use Rattle.model.proofs.every_call_keeps_a_possible_book.Goals as goal
use Rattle.model.proofs.Answers.{keeps_possible}

pub returns : goal.returns
returns g c = keeps_possible
