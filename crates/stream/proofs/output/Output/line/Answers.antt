use Rattle.std.proofs.Common.{ℕ, ◌≤◌, [], ◌∷◌, length, decimal, ap, arith}
use Rattle.stream.specs.Lines.{line, line_room}
use Rattle.stream.specs.Puts.{Puts}
use Rattle.stream.proofs.Puts.{puts_then, puts_not, puts_same}
use Rattle.stream.proofs.Lengths.{place_length, head_length, front_length, line_length}
use Rattle.stream.proofs.output.Output.line.Goals as goal

pub returns-in_err-decimal : goal.returns-in_err-decimal
returns-in_err-decimal g c = absurd (puts_not c.in_err-decimal.ensures (omega (arith, place_length c.from.result (omega arith))))

pub returns-in_err-put : goal.returns-in_err-put
returns-in_err-put g c =
    absurd (puts_not (puts_then c.in_ok-decimal.ensures c.in_err-put.ensures) (omega (arith, head_length c.from.result c.letter.result (omega arith))))

pub returns-in_err-words : goal.returns-in_err-words
returns-in_err-words g c =
    absurd (puts_not (puts_then c.in_ok-decimal.ensures (puts_then (puts_same (ap (λ (l : ℕ). 32 ∷ l ∷ 32 ∷ []) c.letter.ensures) c.in_ok-put.ensures) c.in_err-words.ensures.puts))
    (omega (arith, front_length g.K.Kind.kind c.from.result c.args.answer (omega arith) (c.in_err-words.ensures.brief c.requires.near))))

pub returns : goal.returns
returns g c =
    let n : ℕ = c.args.n in
    let a = c.args.answer in
    let short : length (line g.K.Kind.kind n a) ≤ line_room = line_length g.K.Kind.kind n a (omega arith) (c.in_ok-words.ensures.brief c.requires.near) in
    let all : Puts (line g.K.Kind.kind n a) c.args.self.now c.put-2.result c.put-2.new.self =
    puts_then (puts_same (ap decimal c.from.ensures) c.in_ok-decimal.ensures)
    (puts_then (puts_same (ap (λ (l : ℕ). 32 ∷ l ∷ 32 ∷ []) c.letter.ensures) c.in_ok-put.ensures) (puts_then c.in_ok-words.ensures.puts c.put-2.ensures)) in
    record { same = all.same; stand = all.puts (omega (arith, short, c.requires.room)); fits = short }
