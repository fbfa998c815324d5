-- The entries of an order, one after another.
use Rattle.std.specs.Prelude.{◌≡◌, ℕ, zero, suc, false, List, [], ◌∷◌, ◌++◌, Some, None, Ok, Err, Option}
use Rattle.model.specs.declared.refusals.Refusal.{Refusal}
use Rattle.model.specs.Refusals.{cuts_off}
use Rattle.model.specs.Kinds.{Kind}
use Rattle.model.specs.Lists.{among}
use Rattle.model.specs.Orders.{entry_count, raw_entry}
use Rattle.model.specs.Calls.{named, order_entries}
use Rattle.table.specs.declared.settings.SettingSet.{SettingSet}
use Rattle.table.specs.Slots.{has_setting}

-- a setting with its value, if there is one
abbrev pub with_value : {V : Type 0} → ℕ → Option V → List (ℕ × V)
with_value e None = []
with_value e (Some v) = (e, v) ∷ []

module _ {V : Type 0} (reading : List ℕ → Option V) (raw : ℕ → ℕ × List ℕ) where
  -- of the first i entries, those whose bytes are a value
  abbrev pub valued : ℕ → List (ℕ × V)
  valued zero = []
  valued (suc i) = valued i ++ with_value (raw i).0 (reading (raw i).1)

-- the settings of the first i entries, the last of them first
abbrev pub settings_of : (ℕ → ℕ × List ℕ) → ℕ → List ℕ
settings_of raw zero = []
settings_of raw (suc i) = (raw i).0 ∷ settings_of raw i

-- a set has exactly the settings of a list
abbrev pub Names : SettingSet → List ℕ → Type 0
Names s es = (d : ℕ) → has_setting s d ≡ among d es

-- the entries of an order whose bytes are values
abbrev pub all_valued : {V : Type 0} → Kind V → List ℕ → List (ℕ × V)
all_valued k bytes = valued k.reading (raw_entry k.width bytes) (entry_count k.width bytes)

-- an order passes its checks, for so many settings, and a set has the settings that its entries name
pub record Accepted {V : Type 0} (k : Kind V) (e : ℕ) (bytes : List ℕ) (s : SettingSet) : Type 0 where
  pub passed : order_entries k e bytes ≡ Ok (all_valued k bytes)
  pub names : Names s (named (all_valued k bytes))

-- an order is refused, by a refusal that leaves its job in the book
pub record Refused {V : Type 0} (k : Kind V) (e : ℕ) (bytes : List ℕ) (r : Refusal) : Type 0 where
  pub refused : order_entries k e bytes ≡ Err r
  pub stays : cuts_off r ≡ false
