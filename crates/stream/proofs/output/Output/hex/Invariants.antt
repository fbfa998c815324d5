use Rattle.std.proofs.Common.{take, Ok}
use Rattle.stream.specs.Lines.{hex}
use Rattle.stream.specs.Puts.{Puts}
use Rattle.stream.proofs.output.Output.hex.Given as goal

abbrev pub invariant-loop-byte : goal.invariant-loop-byte
invariant-loop-byte l = Puts (hex (take l.byte-index l.bytes)) l.initial.self (Ok tt) l.self
