use Rattle.std.proofs.Common.{◌<◌, length, arith, rules}
use Rattle.commands.specs.Calls.{call_of}
use Rattle.commands.proofs.Taken.{less_taken}
use Rattle.commands.proofs.readers.calls.ReaderIterator.next.Goals as goal

pub overflow_sub-self : goal.overflow_sub-self
overflow_sub-self g c =
    let less : length c.in_ok-command.rest.now < length c.args.self.now.rest.now = less_taken g.K.Kind.kind.width c.args.self.now.at c.args.self.now.rest.now c.in_ok-command.rest.now (call_of c.in_ok-command.command) (search rules) (search rules) in
    omega arith

pub returns : goal.returns
returns g c =
    let less : length c.in_ok-command.rest.now < length c.args.self.now.rest.now = less_taken g.K.Kind.kind.width c.args.self.now.at c.args.self.now.rest.now c.in_ok-command.rest.now (call_of c.in_ok-command.command) (search rules) (search rules) in
    record {
      steps = record { command = search rules; order = search rules; rest = search rules; at = omega arith };
      goes = record { on = λ f. (tt, tt, less); keeps = tt; rests = λ f. tt };
    }
