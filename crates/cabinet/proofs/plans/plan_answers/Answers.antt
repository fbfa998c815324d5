use Rattle.std.proofs.Common.{◌≡◌, replicate, vec_items, sym, refl, ap, ◌∙◌, subst, MatchResult}
use Rattle.std.proofs.lemmas.Result.{MatchResult-at_ok}
use Rattle.values.specs.declared.plans.Plan.{Plan}
use Rattle.values.specs.Levels.{level_of_value}
use Rattle.values.specs.Plans.{plan_kind, plan_of_parts}
use Rattle.policies.specs.declared.plain.Thorough.{Thorough}
use Rattle.policies.specs.declared.spaced.Spaced.{Spaced}
use Rattle.policies.specs.Made.{as_struct}
use Rattle.cabinet.specs.declared.unanswered.Unanswered.TheVariants.{NoMemory}
use Rattle.cabinet.specs.Lines.{settings, Answered}
use Rattle.cabinet.specs.Programs.{full, first_plan, plan_policy, plan_row, plan_count}
use Rattle.cabinet.proofs.Answering.{same_ok, same_some, was_ok}
use Rattle.cabinet.proofs.plans.plan_answers.Goals as goal

pub returns : goal.returns
returns c =
    let level : c.in_ok-level.level ≡ full = same_some _ _ (sym c.in_ok-level.ensures.ok_part ∙ c.new.ensures ∙ level_of_value 1000 full refl) in
    let plan : c.in_ok-plan.plan ≡ first_plan = same_some _ _ (sym c.in_ok-plan.ensures.ok_part ∙ c.new-2.ensures ∙ plan_of_parts 360 1080 c.in_ok-level.level first_plan refl refl level) in
    let spaced : c.in_ok-spaced.spaced ≡ plan_count.second = sym (ap as_struct (same_ok _ _ (MatchResult-at_ok _ _ _ (was_ok _ c.new-3.result c.in_ok-spaced.spaced _ c.in_ok-spaced.ensures.cases c.in_ok-spaced.ensures.variant) c.new-3.ensures))) in
    subst (λ (s : Spaced Thorough). MatchResult c.answers.result (λ text. Answered plan_kind plan_policy plan_row (record { first = record {}; second = s }) c.args.input.now (vec_items text)) (λ e. e ≡ NoMemory)) spaced
    (subst (λ (p : Plan). MatchResult c.answers.result (λ text. Answered plan_kind plan_policy (replicate settings p) (record { first = record {}; second = c.in_ok-spaced.spaced }) c.args.input.now (vec_items text)) (λ e. e ≡ NoMemory)) plan
    c.answers.ensures)
