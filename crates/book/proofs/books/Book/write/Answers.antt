use Rattle.std.proofs.Common.{◌≡◌, length, sym, ◌∙◌, subst}
use Rattle.graph.specs.declared.matrix.Matrix.{Matrix}
use Rattle.graph.specs.Members.{has}
use Rattle.graph.specs.Drawn.{drawn}
use Rattle.graph.specs.Walk.{anywhere, Answers}
use Rattle.book.proofs.Places.{removed_at, removed_facts}
use Rattle.book.proofs.Finishing.{Seen, cut_answer, cut_book, cut_row, pass_answer, pass_book, pass_row, write_moved, write_facts}
use Rattle.book.proofs.books.Book.write.Given as given
use Rattle.book.proofs.books.Book.write.Goals as goal
use Rattle.book.proofs.books.Book.write.Goals.{After-shares}

module _ (g : given.Over) (c : After-shares g) where
  long : length c.args.row.now ≡ c.args.self.now.settings
  long = c.if-row-from.false ∙ c.from.ensures

  seen : Seen g.K.Kind.kind c.args.self.now c.args.job c.in_ok-place.place.index c.args.order.bytes.now c.in_ok-written.written c.remove.new.self c.shares.result
  seen = record {
    at = c.in_ok-place.ensures;
    accepted = c.in_ok-written.ensures;
    touchers = c.touchers-from.result;
    touched_some = c.touchers-from.ensures;
    others = c.remove.ensures;
    reach = c.reached.result;
    reached = λ to. subst (λ (m : Matrix). Answers (drawn m.rows) anywhere c.in_ok-place.place.index to (has c.reached.result to)) c.arrows.ensures (c.reached.ensures to);
    shared = c.shares.ensures;
  }

pub invariant_of-self : goal.invariant_of-self
invariant_of-self g c =
    removed_facts c.args.self.now c.remove-then-shares.new.self c.args.job c.in_ok-place.place.index c.in_ok-place.ensures.stands c.remove-then-shares.ensures.slots c.remove-then-shares.ensures.bits

pub returns-then-shares : goal.returns-then-shares
returns-then-shares g c =
    let k = (goal.at.returns-then-shares g c).After-shares in
    let row = c.args.row.now in
    record {
      answers = sym (cut_answer _ _ _ _ _ _ _ _ (seen g k) row (long g k) c.if-shares.true);
      leaves = (removed_at c.args.self.now c.remove-then-shares.new.self c.args.job c.in_ok-place.place.index c.in_ok-place.ensures.stands c.remove-then-shares.ensures.slots c.remove-then-shares.ensures.bits).is
          ∙ sym (cut_book _ _ _ _ _ _ _ _ (seen g k) row (long g k) c.if-shares.true);
      fills = sym (cut_row _ _ _ _ _ _ _ _ (seen g k) row (long g k) c.if-shares.true);
    }

pub invariant_of-self-2 : goal.invariant_of-self-2
invariant_of-self-2 g c =
    let k = (goal.at.invariant_of-self-2 g c).After-shares in
    write_facts _ _ _ _ _ _ _ _ (seen g k) c.args.row.now (long g k) c.finish.new.self c.finish.ensures.slots c.finish.ensures.bits c.if-shares.false

pub returns : goal.returns
returns g c =
    let k = (goal.at.returns g c).After-shares in
    let row = c.args.row.now in
    record {
      answers = sym (pass_answer _ _ _ _ _ _ _ _ (seen g k) row (long g k) c.if-shares.false);
      leaves = (write_moved _ _ _ _ _ _ _ _ (seen g k) row (long g k) c.finish.new.self c.finish.ensures.slots c.finish.ensures.bits).is
          ∙ sym (pass_book _ _ _ _ _ _ _ _ (seen g k) row (long g k) c.if-shares.false);
      fills = c.put_entries.ensures ∙ sym (pass_row _ _ _ _ _ _ _ _ (seen g k) row (long g k) c.if-shares.false);
    }
