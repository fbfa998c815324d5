use Rattle.std.proofs.Common.{◌≡◌}
use Rattle.stream.specs.Held.{held, SameHeld}
use Rattle.stream.proofs.Going.{Going}
use Rattle.stream.proofs.runner.run.Given as goal

abbrev pub invariant-loop-place : goal.invariant-loop-place
invariant-loop-place g l = record {
  holds : SameHeld l.initial.runner l.runner;
  into : l.output.bytes.ghost_name ≡ l.initial.output.bytes.ghost_name;
  going :
      Going g.K.Kind.kind g.P.Policy.does l.input (held l.initial.runner) l.initial.output.bytes.now
      l.place l.reader.at l.reader.rest.now (held l.runner) l.output;
}
