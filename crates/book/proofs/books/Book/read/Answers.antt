use Rattle.std.proofs.Common.{◌≡◌, ℕ, ◌<◌, length, get_or, Some, sym, refl, ap, ◌∙◌, subst, arith}
use Rattle.std.specs.List.{slice_get}
use Rattle.std.proofs.lemmas.Option.{slice_get_read}
use Rattle.graph.specs.declared.matrix.Matrix.{Matrix}
use Rattle.graph.specs.Members.{has}
use Rattle.graph.specs.Drawn.{drawn}
use Rattle.graph.specs.Walk.{anywhere, Answers}
use Rattle.table.specs.Slots.{slot, passes}
use Rattle.table.specs.Touching.{wrote}
use Rattle.table.specs.Changed.{AfterRead}
use Rattle.book.proofs.Options.{gave}
use Rattle.book.proofs.Places.{removed_at, removed_facts}
use Rattle.book.proofs.Reading.{Seen, cut_answer, cut_book, pass_answer, pass_book, read_moved, read_facts}
use Rattle.book.proofs.books.Book.read.Given as given
use Rattle.book.proofs.books.Book.read.Goals as goal
use Rattle.book.proofs.books.Book.read.Goals.{After-shares}

module _ (g : given.Over) (c : After-shares g) where
  has_it : (c.in_ok-read.read.index ≡ c.args.setting) × (c.args.setting < c.args.self.now.settings)
  has_it = gave _ _ c.ok_or.ensures.ok_part _ _ c.setting.ensures c.in_ok-read.read c.in_ok-read.was

  long : length c.args.row.now ≡ c.args.self.now.settings
  long = c.if-row-from.false ∙ c.from.ensures

  seen : Seen c.args.self.now c.args.job c.in_ok-place.place.index c.args.setting c.remove.new.self c.shares.result
  seen = record {
    at = c.in_ok-place.ensures;
    low = has_it.1;
    writers = c.writers-from.result;
    wrote_it = λ i. subst (λ (d : ℕ). has c.writers-from.result i ≡ passes (wrote d) (slot c.args.self.now.table i)) has_it.0 (c.writers-from.ensures i);
    others = c.remove.ensures;
    reach = c.reached.result;
    reached = λ to. subst (λ (m : Matrix). Answers (drawn m.rows) anywhere c.in_ok-place.place.index to (has c.reached.result to)) c.arrows.ensures (c.reached.ensures to);
    shared = c.shares.ensures;
  }

  here : slice_get c.args.row.now c.args.setting ≡ Some c.index-row-from.result
  here =
      let low : c.args.setting < c.args.self.now.settings = has_it.1 in
      slice_get_read c.args.row.now (length c.args.row.now) c.args.setting c.index-row-from.result refl (let l = long in omega arith)
      (c.index-row-from.is ∙ ap (λ (i : ℕ). get_or c.args.row.now i c.index-row-from.result) c.from-2.ensures)

pub invariant_of-self : goal.invariant_of-self
invariant_of-self g c =
    removed_facts c.args.self.now c.remove-then-shares.new.self c.args.job c.in_ok-place.place.index c.in_ok-place.ensures.stands c.remove-then-shares.ensures.slots c.remove-then-shares.ensures.bits

pub returns-then-shares : goal.returns-then-shares
returns-then-shares g c =
    let k = (goal.at.returns-then-shares g c).After-shares in
    let row = c.args.row.now in
    record {
      answers = sym (cut_answer _ _ _ _ _ _ (seen g k) row (long g k) c.index-row-from.result (here g k) c.if-shares.true);
      leaves = (removed_at c.args.self.now c.remove-then-shares.new.self c.args.job c.in_ok-place.place.index c.in_ok-place.ensures.stands c.remove-then-shares.ensures.slots c.remove-then-shares.ensures.bits).is
          ∙ sym (cut_book _ _ _ _ _ _ (seen g k) row (long g k) c.index-row-from.result (here g k) c.if-shares.true);
    }

pub invariant_of-self-2 : goal.invariant_of-self-2
invariant_of-self-2 g c =
    read_facts _ _ _ _ _ _ (seen g (goal.at.invariant_of-self-2 g c).After-shares) c.note_read.new.self
    (subst (λ (d : ℕ). AfterRead d (slot c.args.self.now.table c.in_ok-place.place.index) (slot c.note_read.new.self c.in_ok-place.place.index)) (has_it g (goal.at.invariant_of-self-2 g c).After-shares).0 c.note_read.ensures.there)
    c.note_read.ensures.others c.note_read.ensures.bits c.if-shares.false

pub returns : goal.returns
returns g c =
    let k = (goal.at.returns g c).After-shares in
    let row = c.args.row.now in
    record {
      answers = sym (pass_answer _ _ _ _ _ _ (seen g k) row (long g k) c.index-row-from.result (here g k) c.if-shares.false);
      leaves = (read_moved _ _ _ _ _ _ (seen g k) c.note_read.new.self
          (subst (λ (d : ℕ). AfterRead d (slot c.args.self.now.table c.in_ok-place.place.index) (slot c.note_read.new.self c.in_ok-place.place.index)) (has_it g k).0 c.note_read.ensures.there)
          c.note_read.ensures.others c.note_read.ensures.bits).is
          ∙ sym (pass_book _ _ _ _ _ _ (seen g k) row (long g k) c.index-row-from.result (here g k) c.if-shares.false);
    }
