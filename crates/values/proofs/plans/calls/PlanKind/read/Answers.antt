use Rattle.std.proofs.Common.{◌≡◌, ℕ, true, List, Some, sym, ap, ◌∙◌, ap₂, rules}
use Rattle.std.proofs.lemmas.Bool.{cond-true}
use Rattle.values.specs.Words.{are_bytes, word_at}
use Rattle.values.specs.WordLaws.{are_typed}
use Rattle.values.specs.Levels.{level_of}
use Rattle.values.specs.Plans.{plan_of, plan_at}
use Rattle.values.proofs.plans.calls.PlanKind.read.Goals as goal

pub returns : goal.returns
returns c =
    let bytes : List ℕ = c.args.bytes.now in
    let b : are_bytes 6 bytes ≡ true = are_typed 6 bytes (search rules) (λ i. (c.type_inv.bytes i).fits) in
    let level : level_of (word_at bytes 4) ≡ Some c.in_ok-level.level =
    sym (ap level_of c.word_from.ensures) ∙ sym c.new.ensures ∙ c.in_ok-level.was in
    c.new-2.ensures
    ∙ ap₂ (λ (on off : ℕ). plan_of on off c.in_ok-level.level) c.word_from-2.ensures c.word_from-3.ensures
    ∙ ap (plan_at (word_at bytes 0) (word_at bytes 2)) (sym level)
    ∙ sym (cond-true _ _ _ b)
