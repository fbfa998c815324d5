use Rattle.std.proofs.Common.{sym, refl}
use Rattle.values.specs.Levels.{level_of_value}
use Rattle.values.proofs.levels.Level.new.Goals as goal

pub returns-then-value-le-HIGHEST : goal.returns-then-value-le-HIGHEST
returns-then-value-le-HIGHEST c = sym (level_of_value c.args.value _ refl)
