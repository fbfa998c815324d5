use Rattle.std.proofs.Common.{ℕ, ◌+◌, List, drop, arith}
use Rattle.stream.specs.Lines.{hex}
use Rattle.stream.proofs.Puts.{puts_then, puts_broke, puts_same}
use Rattle.stream.proofs.Hexes.{two_digits, hex_more, hex_split}
use Rattle.stream.proofs.output.Output.hex.Goals as goal

pub returns-in_err-put : goal.returns-in_err-put
returns-in_err-put c =
    let i : ℕ = c.loop-byte.byte-index in
    let bytes : List ℕ = c.args.bytes.now in
    puts_same (hex_split bytes i (omega arith))
    (puts_broke (hex (drop (i + 1) bytes)) (puts_then c.loop-byte.invariant (puts_same (two_digits _ _ _ c.hex_digit.ensures c.hex_digit-in-loop-byte.ensures) c.in_err-put.ensures)))

pub loop-byte-preserved : goal.loop-byte-preserved
loop-byte-preserved c =
    puts_same (hex_more c.args.bytes.now c.loop-byte.byte-index (omega arith))
    (puts_then c.loop-byte.invariant (puts_same (two_digits _ _ _ c.hex_digit.ensures c.hex_digit-in-loop-byte.ensures) c.in_ok-put.ensures))
