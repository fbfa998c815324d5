use Rattle.std.proofs.Common.{◌≡◌, false, sym, ap, ◌∙◌, subst}
use Rattle.std.proofs.lemmas.Bool.{ne_eqb}
use Rattle.model.specs.Begin.{limit_reached, numbers_spent}
use Rattle.model.proofs.Begin.{begin_exact}
use Rattle.book.specs.State.{model}
use Rattle.book.proofs.Begins.{Ready, unswept, swept_first, begun_answer, begun_book}
use Rattle.book.proofs.Wholes.{possible}
use Rattle.book.proofs.books.Book.begin.Given as given
use Rattle.book.proofs.books.Book.begin.Goals as goal
use Rattle.book.proofs.books.Book.begin.Goals.{Joined-is_full, then-is_full, else-is_full}

module _ (g : given.Over) (c : Joined-is_full g) where
  few : limit_reached (model c.args.self.now) ≡ false
  few = sym c.if-limit_reached.ensures

  left : numbers_spent (model c.args.self.now) ≡ false
  left = ne_eqb c.args.self.now.last 65535 c.if-self.false

  ready : Ready g.P.Policy.does g.met.P.Policy.lawful c.args.policy.now (model c.args.self.now) (possible c.args.self.now) few left c.if-is_full.policy (model c.if-is_full.self)
  ready = elim c.if-is_full.branch [
    | then-is_full w ↦
        swept_first g.P.Policy.does g.met.P.Policy.lawful c.args.policy.now (model c.args.self.now) (possible c.args.self.now) few left (sym w.if-is_full.ensures)
        c.if-is_full.policy (model c.if-is_full.self) (w.policy-is ∙ w.sweep.ensures.moves) (ap model w.self-is ∙ w.sweep.ensures.leaves)
    | else-is_full w ↦
        subst (λ t. Ready g.P.Policy.does g.met.P.Policy.lawful c.args.policy.now (model c.args.self.now) (possible c.args.self.now) few left t (model c.if-is_full.self)) (sym w.policy-is)
        (subst (λ d. Ready g.P.Policy.does g.met.P.Policy.lawful c.args.policy.now (model c.args.self.now) (possible c.args.self.now) few left c.args.policy.now (model d)) (sym w.self-is)
        (unswept g.P.Policy.does g.met.P.Policy.lawful c.args.policy.now (model c.args.self.now) (possible c.args.self.now) few left (sym w.if-is_full.ensures)))
  ]

pub enter_next-requires : goal.enter_next-requires
enter_next-requires g c = let r = ready g (goal.at.enter_next-requires g c).Joined-is_full in (r.still_few, r.still_left)

pub returns : goal.returns
returns g c =
    let k = (goal.at.returns g c).Joined-is_full in
    let r = ready g k in
    record {
      answers = begun_answer _ _ _ _ _ (few g k) (left g k) _ _ r c.enter_next.result c.enter_next.ensures.answers;
      moves = r.next;
      leaves = begun_book _ _ _ _ _ (few g k) (left g k) _ _ r (model c.enter_next.new.self) c.enter_next.ensures.leaves;
      exact = begin_exact g.P.Policy.does g.met.P.Policy.lawful c.args.policy.now (model c.args.self.now) (possible c.args.self.now);
    }
