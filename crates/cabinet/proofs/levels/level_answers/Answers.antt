use Rattle.std.proofs.Common.{◌≡◌, replicate, vec_items, sym, refl, ◌∙◌, subst, MatchResult}
use Rattle.values.specs.declared.levels.Level.{Level}
use Rattle.values.specs.Levels.{level_kind, level_of_value}
use Rattle.cabinet.specs.declared.unanswered.Unanswered.TheVariants.{NoMemory}
use Rattle.cabinet.specs.Lines.{settings, Answered}
use Rattle.cabinet.specs.Programs.{full, level_policy, level_count}
use Rattle.cabinet.proofs.Answering.{same_some}
use Rattle.cabinet.proofs.levels.level_answers.Goals as goal

pub returns : goal.returns
returns c =
    let is : c.in_ok-full.full ≡ full = same_some _ _ (sym c.in_ok-full.ensures.ok_part ∙ c.new.ensures ∙ level_of_value 1000 full refl) in
    subst (λ (v : Level). MatchResult c.answers.result (λ text. Answered level_kind level_policy (replicate settings v) level_count c.args.input.now (vec_items text)) (λ e. e ≡ NoMemory)) is c.answers.ensures
