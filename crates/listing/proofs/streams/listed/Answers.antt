use Rattle.std.proofs.Common.{◌≡◌, ℕ, List, [], ◌++◌, string_bytes, sym, ap, ◌∙◌, subst, arith}
use Rattle.std.proofs.lemmas.List.{append-nil}
use Rattle.commands.specs.Calls.{call_of}
use Rattle.listing.specs.Lines.{width, command_words, fault_words}
use Rattle.listing.specs.Streams.{Lists}
use Rattle.commands.proofs.Answered.{shorter}
use Rattle.listing.proofs.Listed.{goes_on, ends, stops, lists_commands}
use Rattle.listing.proofs.streams.listed.Goals as goal
use Rattle.listing.proofs.streams.listed.Goals.{in-Some-fault+in_ok-fault_line+in_ok-push_str-2, in_default-fault}

pub loop-command-preserved : goal.loop-command-preserved
loop-command-preserved c =
    let less =
    shorter width c.loop-command.reader.at c.next.new.self.at c.loop-command.reader.rest.now c.next.new.self.rest.now c.next.ensures.steps.at c.next.ensures.steps.rest
    (call_of c.in-Some.command) c.in-Some.ensures.steps.command in
    let more : string_bytes c.push_str.new.self ≡ string_bytes c.loop-command.text ++ command_words c.loop-command.n (call_of c.in-Some.command) =
    c.in_ok-push_str.ensures.bytes ∙ ap (λ (xs : List ℕ). string_bytes c.loop-command.text ++ xs) (c.as_str.ensures.value ∙ c.in_ok-command_line.ensures) in
    let on = goes_on c.loop-command.n c.loop-command.reader.at c.next.new.self.at c.loop-command.reader.rest.now c.next.new.self.rest.now c.next.ensures.steps.at c.next.ensures.steps.rest
    (call_of c.in-Some.command) c.in-Some.ensures.steps.command c.args.bytes.now (string_bytes c.loop-command.text) c.loop-command.invariant.1 in
    (omega (arith, c.next.ensures.steps.at, c.loop-command.invariant.0, less), λ t l. subst (λ (xs : List ℕ). Lists 1 0 c.args.bytes.now (xs ++ t)) (sym more) (on t l))

pub returns : goal.returns
returns c =
    let n : ℕ = c.loop-command.n in
    let at : ℕ = c.loop-command.reader.at in
    let rest : List ℕ = c.loop-command.reader.rest.now in
    let text : List ℕ = string_bytes c.loop-command.text in
    let all : Lists 1 0 c.args.bytes.now (string_bytes c.match-fault.text) =
    elim c.match-fault.branch [
      | in-Some-fault+in_ok-fault_line+in_ok-push_str-2 w ↦
          let line : List ℕ = fault_words n w.in-Some-fault.fault in
          let more : string_bytes c.match-fault.text ≡ text ++ line =
          ap string_bytes w.text-is ∙ w.in_ok-push_str-2.ensures.bytes ∙ ap (λ (xs : List ℕ). text ++ xs) (w.as_str-in-Some-fault.ensures.value ∙ w.in_ok-fault_line.ensures) in
          let stop : Lists n at rest line = stops n at c.next.new.self.at rest c.next.new.self.rest.now c.next.ensures.steps.at c.next.ensures.steps.rest c.in_default.ensures.steps.command w.in-Some-fault.fault w.in-Some-fault.ensures in
          subst (λ (xs : List ℕ). Lists 1 0 c.args.bytes.now xs) (sym more) (c.loop-command.invariant.1 line stop)
      | in_default-fault w ↦
          let same : text ++ [] ≡ string_bytes c.match-fault.text = append-nil text ∙ sym (ap string_bytes w.text-is) in
          let end : Lists n at rest [] = ends n at c.next.new.self.at rest c.next.new.self.rest.now c.next.ensures.steps.at c.next.ensures.steps.rest c.in_default.ensures.steps.command w.in_default-fault.ensures in
          subst (λ (xs : List ℕ). Lists 1 0 c.args.bytes.now xs) same (c.loop-command.invariant.1 [] end)
    ] in
    record { lines = all; commands = lists_commands c.args.bytes.now (string_bytes c.match-fault.text) all }
