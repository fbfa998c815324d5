use Rattle.std.proofs.Common.{◌≡◌, ◌+◌}
use Rattle.model.specs.Sweeps.{sweep_answer, sweep_next, sweep_book}
use Rattle.book.specs.State.{model}
use Rattle.book.proofs.books.Book.sweep.Given as goal

-- what is left to do from here, with what is done, is the whole sweep
abbrev pub invariant-loop-job : goal.invariant-loop-job
invariant-loop-job g l =
    (l.count + sweep_answer g.P.Policy.does l.policy (model l.self) ≡ sweep_answer g.P.Policy.does l.initial.policy (model l.initial.self))
    × (sweep_next g.P.Policy.does l.policy (model l.self) ≡ sweep_next g.P.Policy.does l.initial.policy (model l.initial.self))
    × (sweep_book g.P.Policy.does l.policy (model l.self) ≡ sweep_book g.P.Policy.does l.initial.policy (model l.initial.self))

abbrev pub decreases-loop-job : goal.decreases-loop-job
decreases-loop-job g l = sweep_answer g.P.Policy.does l.policy (model l.self)
