-- What the fields of a book say together: every book can exist.
use Rattle.std.proofs.Common.{◌≡◌, ℕ, leb, sym, subst, le→leb, leb→le}
use Rattle.model.specs.Book as Model
use Rattle.model.specs.Possible.{Possible}
use Rattle.model.proofs.Tests.{and_i, and_l, and_r}
use Rattle.table.specs.declared.tables.Table.{Table}
use Rattle.book.specs.declared.books.Book.{Book}
use Rattle.book.specs.View.{view, Apart, Clean, Given, Acyclic, Unwritten, Within, Sized}
use Rattle.book.specs.State.{model}
use Rattle.book.proofs.Shows.{view_shows}

pub possible : (b : Book) → Possible (model b)
possible b = record {
  proper = record {
    ranged = λ n t. let r = b.given n t in (leb→le 1 n (and_l (leb 1 n) (leb n b.last) r), leb→le n b.last (and_r (leb 1 n) (leb n b.last) r));
    ends = (view_shows b.settings b.limit b.last b.table b.apart).ends;
    acyclic = b.acyclic;
    unwritten = λ n e a t. b.unwritten n e (and_i _ _ a t);
  };
  settings_fit = b.sized.0;
  limit_fits = b.sized.1;
  numbers_fit = b.sized.2;
  held_fit = b.sized.3;
  active_fit = b.sized.4;
  touched_fit = b.within;
}

-- what the fields of a book ask of a table that shows a book that can exist
abbrev pub Facts : ℕ → ℕ → ℕ → Table → Type 0
Facts s l n t = record {
  apart : Apart t;
  clean : Clean t;
  given : Given (view s l n t);
  acyclic : Acyclic (view s l n t);
  unwritten : Unwritten (view s l n t);
  within : Within (view s l n t);
  sized : Sized (view s l n t);
}

-- a table that shows a book
pub record Moved (s l n : ℕ) (t : Table) (m : Model.Book) : Type 0 where
  pub apart : Apart t
  pub clean : Clean t
  pub is : view s l n t ≡ m

pub facts : {s l n : ℕ} {t : Table} {m : Model.Book} → Moved s l n t m → Possible m → Facts s l n t
facts {s} {l} {n} {t} {m} M h =
    let p : Possible (view s l n t) = subst Possible (sym M.is) h in
    record {
      apart = M.apart;
      clean = M.clean;
      given = λ i q. let r = p.proper.ranged i q in and_i _ _ (le→leb 1 i r.0) (le→leb i n r.1);
      acyclic = p.proper.acyclic;
      unwritten = λ i e q. p.proper.unwritten i e (and_l _ _ q) (and_r (Model.is_active (view s l n t) i) _ q);
      within = p.touched_fit;
      sized = (p.settings_fit, p.limit_fits, p.numbers_fit, p.held_fit, p.active_fit);
    }
