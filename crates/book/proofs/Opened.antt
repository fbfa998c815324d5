-- Every run of a book that was opened is sound.
use Rattle.std.proofs.Common.{◌≡◌, ℕ, ◌≤◌, ◌&&◌, leb, List, Ok, sym, ap, ◌∙◌}
use Rattle.std.proofs.lemmas.Bool.{and_from, le-leb, cond-true}
use Rattle.model.specs.Kinds.{Kind}
use Rattle.model.specs.Book as Model
use Rattle.model.specs.Laws.{Sound}
use Rattle.model.specs.Calls.{opened, new_book}
use Rattle.model.proofs.Sound.{sound}

module _ (s l : ℕ) (settings_fit : (1 ≤ s) × (s ≤ Model.most_settings)) (limit_fits : (1 ≤ l) × (l ≤ Model.most_active)) where
  new_opened : opened s l ≡ Ok (new_book s l)
  new_opened =
      cond-true (leb 1 s && leb s Model.most_settings) _ _ (and_from _ _ (le-leb 1 s settings_fit.0) (le-leb s Model.most_settings settings_fit.1))
      ∙ cond-true (leb 1 l && leb l Model.most_active) _ _ (and_from _ _ (le-leb 1 l limit_fits.0) (le-leb l Model.most_active limit_fits.1))

  module _ (b : Model.Book) (is : b ≡ new_book s l) where
    pub opened_as : opened s l ≡ Ok b
    opened_as = new_opened ∙ ap Ok (sym is)

    pub opened_sound : {V : Type 0} (k : Kind V) (row : List V) → Sound k b row
    opened_sound k row = sound k s l b opened_as row
