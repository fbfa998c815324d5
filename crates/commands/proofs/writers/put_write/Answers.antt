use Rattle.std.proofs.Common.{◌≡◌, ℕ, ◌+◌, ◌≤◌, List, [], ◌∷◌, ◌++◌, length, get_or, ap, ◌∙◌, arith, rules}
use Rattle.values.specs.Output.{put_out}
use Rattle.values.specs.Words.{word}
use Rattle.commands.proofs.Writing.{two_out}
use Rattle.commands.proofs.writers.put_write.Goals as goal

pub returns-clause-out : goal.returns-clause-out
returns-clause-out c =
    let a : List ℕ = 87 ∷ get_or c.to_be_bytes.result 0 0 ∷ get_or c.to_be_bytes.result 1 0 ∷ c.args.count ∷ [] in
    let b : List ℕ = c.args.order.now in
    let out : List ℕ = c.args.out.now in
    let bytes : a ≡ 87 ∷ word c.args.job ++ (c.args.count ∷ []) = search rules in
    let h : c.args.at + length a + length b ≤ length out = omega arith in
    let n : c.in_ok-at.at ≡ c.args.at + length a = search rules in
    c.put-2.ensures.out ∙ two_out a b out c.args.at h c.put.new.out c.in_ok-at.at c.put.ensures.out n ∙ ap (λ (xs : List ℕ). put_out (xs ++ b) out c.args.at) bytes
