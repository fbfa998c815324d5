-- The checks of an order, entry after entry.
use Rattle.std.proofs.Common.{◌≡◌, ℕ, ◌+◌, ◌<◌, ◌≤◌, true, false, ◌||◌, eqb, ltb, List, Some, None, Err, sym, refl, ap, ◌∙◌, subst, ap₂, add-one}
use mathlib.Core.Bool.{or_comm}
use Rattle.std.proofs.lemmas.Bool.{lt-ltb, le-ltb}
use Rattle.model.specs.declared.refusals.Refusal.TheVariants.{EntrySetting, EntryRepeated, EntryValue}
use Rattle.model.specs.Kinds.{Kind}
use Rattle.model.specs.Lists.{among}
use Rattle.model.specs.Orders.{raw_entry, entry_count}
use Rattle.model.specs.Calls.{named, order_entries}
use Rattle.table.specs.declared.settings.SettingSet.{SettingSet}
use Rattle.table.specs.Slots.{has_setting}
use Rattle.book.specs.Entries.{valued, settings_of, Names, Accepted, Refused}
use Rattle.book.proofs.Entries.{all_from, all_end, no_setting, repeated, no_value, passed, named_more}

module _ {V : Type 0} (k : Kind V) (e : ℕ) (bytes : List ℕ) where
  abbrev raw : ℕ → ℕ × List ℕ
  raw = raw_entry k.width bytes

  abbrev many : ℕ
  many = entry_count k.width bytes

  -- the first i entries have passed, and the set has their settings
  pub record SoFar (s : SettingSet) (i : ℕ) : Type 0 where
    pub all : order_entries k e bytes ≡ all_from k.reading e raw many i
    pub names : Names s (settings_of raw i)
    pub same : (d : ℕ) → among d (named (valued k.reading raw i)) ≡ among d (settings_of raw i)

  pub so_far_all : (s : SettingSet) → SoFar s many → Accepted k e bytes s
  so_far_all s F = record { passed = F.all ∙ all_end k.reading e raw many; names = λ d. F.names d ∙ sym (F.same d) }

  module _ (s : SettingSet) (i : ℕ) (F : SoFar s i) (h : i < many) (x : ℕ) (is : x ≡ (raw i).0) where
    pub refused_setting : e ≤ x → Refused k e bytes (EntrySetting (i + 1))
    refused_setting high = record {
      refused = F.all ∙ no_setting k.reading e raw many i h (le-ltb (raw i).0 e (subst (λ y. e ≤ y) is high)) ∙ ap (λ n. Err (EntrySetting n)) (sym (add-one i));
      stays = refl;
    }

    module _ (low : x < e) where
      low_raw : ltb (raw i).0 e ≡ true
      low_raw = lt-ltb (raw i).0 e (subst (λ y. y < e) is low)

      before : among (raw i).0 (settings_of raw i) ≡ has_setting s x
      before = sym (F.names (raw i).0) ∙ ap (has_setting s) (sym is)

      pub refused_repeated : has_setting s x ≡ true → Refused k e bytes (EntryRepeated (i + 1))
      refused_repeated again = record {
        refused = F.all ∙ repeated k.reading e raw many i h low_raw (before ∙ again) ∙ ap (λ n. Err (EntryRepeated n)) (sym (add-one i));
        stays = refl;
      }

      module _ (new : has_setting s x ≡ false) where
        pub refused_value : None ≡ k.reading (raw i).1 → Refused k e bytes (EntryValue (i + 1))
        refused_value none = record {
          refused = F.all ∙ no_value k.reading e raw many i h low_raw (before ∙ new) (sym none) ∙ ap (λ n. Err (EntryValue n)) (sym (add-one i));
          stays = refl;
        }

        pub so_far_more : (v : V) → Some v ≡ k.reading (raw i).1 → (s' : SettingSet) → ((d : ℕ) → has_setting s' d ≡ (has_setting s d || eqb d x)) → SoFar s' (i + 1)
        so_far_more v value s' more = subst (SoFar s') (sym (add-one i)) (record {
          all = F.all ∙ passed k.reading e raw many i h low_raw (before ∙ new) v (sym value);
          names = λ d. more d ∙ or_comm (has_setting s d) (eqb d x) ∙ ap₂ (λ y u. eqb d y || u) is (F.names d);
          same = named_more k.reading raw i v (sym value) F.same;
        })
