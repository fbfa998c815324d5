use Rattle.std.proofs.Common.{ℕ, ◌+◌, ◌%◌, [], ◌∷◌, sym, arith}
use Rattle.std.proofs.lemmas.Fmt.{decimal_digit, decimal_step}
use Rattle.stream.proofs.Puts.{puts_then, puts_broke, puts_same}
use Rattle.stream.proofs.output.Output.+decimal.Goals as goal

pub returns-then-n-lt10 : goal.returns-then-n-lt10
returns-then-n-lt10 t c = puts_same (sym (decimal_digit c.args.n (omega arith))) c.put.ensures

pub returns-in_err-decimal : goal.returns-in_err-decimal
returns-in_err-decimal t c =
    let n : ℕ = c.args.n in
    puts_same (sym (decimal_step n (omega arith) (omega arith))) (puts_broke ((48 + n % 10) ∷ []) c.in_err-decimal.ensures)

pub returns : goal.returns
returns t c =
    let n : ℕ = c.args.n in
    puts_same (sym (decimal_step n (omega arith) (omega arith))) (puts_then c.in_ok-decimal.ensures c.put-2.ensures)
