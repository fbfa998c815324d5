-- Which indexes name a setting.
use Rattle.std.specs.Prelude.{ℕ, Option}
use Rattle.graph.specs.Placed.{below_64}
use Rattle.table.specs.declared.settings.Setting.{Setting}

-- the setting of an index below 64, and none for another
abbrev pub setting_of : ℕ → Option Setting
setting_of n = below_64 n (λ h. record { index = n; small = h })
