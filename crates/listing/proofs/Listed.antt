-- Steps of the listing of a stream.
use Rattle.std.proofs.Common.{◌≡◌, ℕ, ◌+◌, List, [], ◌∷◌, ◌++◌, length, Some, None, sym, refl, ap, ◌∙◌, subst, append_assoc, arith}
use Rattle.model.specs.declared.faults.Fault.{Fault}
use Rattle.commands.specs.Calls.{Call}
use Rattle.commands.specs.Reading.{next_at, call_taken, rest_behind, fault_met}
use Rattle.commands.specs.Reading.Found.{took}
use Rattle.commands.specs.Laws.{Reads}
use Rattle.commands.specs.Laws.Reads.{no_more, and_then}
use Rattle.commands.proofs.Answered.{took_it, met_end, met_fault}
use Rattle.listing.specs.Lines.{width, command_words, fault_words}
use Rattle.listing.specs.Streams.{Lists, ListsCommands, lines_from}
use Rattle.listing.specs.Streams.Lists.{at_end, at_fault, command}

-- what is left to list of a stream that began with `bytes`, once the text stands
abbrev pub GoesOn : List ℕ → List ℕ → ℕ → ℕ → List ℕ → Type 0
GoesOn bytes text n at rest = (t : List ℕ) → Lists n at rest t → Lists 1 0 bytes (text ++ t)

module _ (n at at' : ℕ) (rest rest' : List ℕ) (q : at' + length rest' ≡ at + length rest) (r : rest' ≡ rest_behind rest (next_at width at rest)) where
  -- a command was taken
  pub goes_on : (c : Call) → Some c ≡ call_taken (next_at width at rest) → (bytes text : List ℕ) → GoesOn bytes text n at rest
      → GoesOn bytes (text ++ command_words n c) (n + 1) at' rest'
  goes_on c e bytes text f t l =
      subst (λ (xs : List ℕ). Lists 1 0 bytes xs) (sym (append_assoc text (command_words n c) t))
      (f (command_words n c ++ t) (command (took_it width at at' rest rest' q r c e) q l))

  -- none was taken
  module _ (e : None ≡ call_taken (next_at width at rest)) where
    pub ends : None ≡ fault_met (next_at width at' rest') → Lists n at rest []
    ends d = at_end (met_end width at at' rest rest' q r e d)

    pub stops : (g : Fault) → Some g ≡ fault_met (next_at width at' rest') → Lists n at rest (fault_words n g)
    stops g d = at_fault (met_fault width at at' rest rest' q r e g d)

-- a stream that is whole commands is listed by their lines

taken_once : (c d : Call) (r s : List ℕ) → took c r ≡ took d s → (c ≡ d) × (r ≡ s)
taken_once c d r s e = (cc, cc)

lists_lines : (n at : ℕ) (bytes text : List ℕ) (cs : List Call) → Lists n at bytes text → Reads width at bytes cs → text ≡ lines_from n cs
lists_lines n at bytes text [] (at_end e) (no_more d) = refl
lists_lines n at bytes text [] (at_fault e) (no_more d) = let z : ◌≡◌ {A = ℕ} 0 1 = cc in absurd (omega arith)
lists_lines n at bytes text [] (command e q l) (no_more d) = let z : ◌≡◌ {A = ℕ} 0 1 = cc in absurd (omega arith)
lists_lines n at bytes text (c ∷ cs) (at_end e) (and_then d p r) = let z : ◌≡◌ {A = ℕ} 0 1 = cc in absurd (omega arith)
lists_lines n at bytes text (c ∷ cs) (at_fault e) (and_then d p r) = let z : ◌≡◌ {A = ℕ} 0 1 = cc in absurd (omega arith)
lists_lines n at bytes text (c ∷ cs) (command {next = i} {rest = x} {text = t} {c = k} e q l) (and_then {next = j} {rest = y} d p r) =
    let s = taken_once k c x y (sym e ∙ d) in
    let same : i ≡ j = omega (arith, ap length s.1) in
    let h : Lists (n + 1) j y t = subst (λ (xs : List ℕ). Lists (n + 1) j xs t) s.1 (subst (λ (m : ℕ). Lists (n + 1) m x t) same l) in
    ap (λ (b : Call). command_words n b ++ t) s.0 ∙ ap (λ (xs : List ℕ). command_words n c ++ xs) (lists_lines (n + 1) j y t cs h r)

pub lists_commands : (bytes text : List ℕ) → Lists 1 0 bytes text → ListsCommands bytes text
lists_commands bytes text l cs r = lists_lines 1 0 bytes text cs l r
