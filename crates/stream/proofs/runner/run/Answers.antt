use Rattle.std.proofs.Common.{ℕ, List, sym, refl, ◌∙◌, arith, rules}
use Rattle.commands.specs.Calls.{call_of}
use Rattle.commands.specs.Reading.Found.{took}
use Rattle.commands.proofs.Answered.{took_it, met_end, met_fault}
use Rattle.stream.proofs.Going.{each_a_byte, begun, ends, ends_short, ends_whole, last, goes_on, of_err, of_ok}
use Rattle.stream.proofs.runner.run.Goals as goal
use Rattle.stream.proofs.runner.run.Goals.{else-loop-place-test, then-loop-place-test+in-Some+else-is_err+else-place-lt65535}

pub loop-place-init : goal.loop-place-init
loop-place-init g c = record {
  holds = record { book = refl; row = refl; policy = refl };
  into = refl;
  going = begun _ _ _ _ _ _ _ _ c.new-reader.ensures.at c.new-reader.ensures.rest refl refl;
}

pub returns-in_default : goal.returns-in_default
returns-in_default g c =
    let w : ℕ = g.K.Kind.kind.width in
    let at' : ℕ = c.next.new.self.at in
    let rest' : List ℕ = c.next.new.self.rest.now in
    let none = c.in_default.ensures.steps.command in
    let z = ends _ _ _ _ _ _ _ _ _ _ c.loop-place.invariant.going c.fault.result
    (λ e. met_end w _ at' _ rest' c.next.ensures.steps.at c.next.ensures.steps.rest none (sym e ∙ c.fault.ensures))
    (λ f e. met_fault w _ at' _ rest' c.next.ensures.steps.at c.next.ensures.steps.rest none f (sym e ∙ c.fault.ensures))
    c.finish-stop.new.self c.finish-stop.result c.finish-stop.ensures.finishes in
    record { runs = search (rules, z.0); follows = search (rules, z.1) }

pub returns-then-is_err : goal.returns-then-is_err
returns-then-is_err g c =
    let rest' : List ℕ = c.next.new.self.rest.now in
    let y = of_err _ _ c.answer.result c.answer.ensures.answers c.if-is_err.ensures.value in
    let z = ends_short _ _ _ _ _ _ _ _ _ _ c.loop-place.invariant.going (took (call_of c.in-Some.command) rest')
    (took_it g.K.Kind.kind.width c.loop-place.reader.at c.next.new.self.at c.loop-place.reader.rest.now rest' c.next.ensures.steps.at c.next.ensures.steps.rest
    (call_of c.in-Some.command) c.in-Some.ensures.steps.command)
    (λ e. cc) _ c.answer.new.output y.same y.untold in
    record { runs = search (rules, z.0); follows = search (rules, z.1) }

pub loop-place-preserved : goal.loop-place-preserved
loop-place-preserved g c = record {
  holds = search rules;
  into = search rules;
  going =
      goes_on _ _ _ _ _ _ _ _ _ _ c.loop-place.invariant.going (each_a_byte c.args.input.now (λ i. (c.type_inv.input i).fits)) (call_of c.in-Some.command) _ _
      (took_it g.K.Kind.kind.width c.loop-place.reader.at c.next.new.self.at c.loop-place.reader.rest.now c.next.new.self.rest.now c.next.ensures.steps.at c.next.ensures.steps.rest
      (call_of c.in-Some.command) c.in-Some.ensures.steps.command)
      c.next.ensures.steps.at _ _ (of_ok _ _ c.answer.result c.answer.ensures.answers c.if-is_err.ensures.value);
}

pub returns : goal.returns
returns g c = elim c.loop-place-test.branch [
  | else-loop-place-test w ↦
      let x = c.loop-place.invariant.going in
      let z = ends_whole _ _ _ _ _ _ _ _ _ _ x (last _ _ _ _ _ _ _ _ _ _ x (omega arith)) c.loop-place.output refl refl in
      record { runs = search (rules, z.0); follows = search (rules, z.1) }
  | then-loop-place-test+in-Some+else-is_err+else-place-lt65535 w ↦
      let x =
      goes_on _ _ _ _ _ _ _ _ _ _ c.loop-place.invariant.going (each_a_byte c.args.input.now (λ i. (c.type_inv.input i).fits)) (call_of w.in-Some.command) _ _
      (took_it g.K.Kind.kind.width c.loop-place.reader.at w.next.new.self.at c.loop-place.reader.rest.now w.next.new.self.rest.now w.next.ensures.steps.at w.next.ensures.steps.rest
      (call_of w.in-Some.command) w.in-Some.ensures.steps.command)
      w.next.ensures.steps.at _ _ (of_ok _ _ w.answer.result w.answer.ensures.answers w.if-is_err.ensures.value) in
      let z = ends_whole _ _ _ _ _ _ _ _ _ _ x (last _ _ _ _ _ _ _ _ _ _ x (omega arith)) w.answer.new.output refl refl in
      record { runs = search (rules, z.0); follows = search (rules, z.1) }
]
