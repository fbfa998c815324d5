-- Whole streams of commands, read and written.
use Rattle.std.proofs.Common.{◌≡◌, ℕ, ◌+◌, ◌≤◌, true, eqb, ltb, leb, List, [], ◌∷◌, ◌++◌, length, sym, refl, ap, ◌∙◌, arith, length-append}
use Rattle.std.proofs.lemmas.Bool.{and_parts, cond-true, lt-ltb}
use Rattle.values.specs.Words.{bytes_only}
use Rattle.values.specs.WordLaws.{bytes_behind}
use Rattle.commands.specs.Calls.{Call, command_bytes, well_formed, begin_letter, read_letter, write_letter, withdraw_letter, sweep_letter}
use Rattle.commands.specs.Reading.{next_command, next_at, with_operands, longest}
use Rattle.commands.specs.Reading.Found.{ended}
use Rattle.commands.specs.Laws.{Reads, no_more, and_then, stream_bytes, each_well_formed, StreamsReadBack, StreamsWriteBack}
use Rattle.commands.proofs.Found.{in_length}
use Rattle.commands.proofs.Taken.{split}
use Rattle.commands.proofs.Back.{reads_back, writes_back}

stream_reads : (w at : ℕ) (cs : List Call) → each_well_formed w cs ≡ true → at + length (stream_bytes w cs) ≤ longest → Reads w at (stream_bytes w cs) cs
stream_reads w at [] e h = no_more (in_length w at [] h)
stream_reads w at (c ∷ cs) e h =
    let p = and_parts (well_formed w c) (each_well_formed w cs) e in
    let l : length (stream_bytes w (c ∷ cs)) ≡ length (command_bytes w c) + length (stream_bytes w cs) = length-append (command_bytes w c) (stream_bytes w cs) in
    let n : ℕ = at + length (command_bytes w c) in
    and_then {next = n} (reads_back w at c (stream_bytes w cs) p.0 h) (omega arith) (stream_reads w n cs p.1 (omega arith))

pub streams_read_back : StreamsReadBack
streams_read_back w cs e = record {
  reads = λ h. stream_reads w 0 cs e (omega arith);
  too_long = λ h. cond-true _ _ _ (lt-ltb longest (0 + length (stream_bytes w cs)) (omega arith));
}

-- the end is met only where nothing is left

with_not_ended : (at n : ℕ) (c : Call) (bs : List ℕ) → with_operands at n c bs ≡ ended → ⊥
with_not_ended at n c bs e =
    split (leb n (length bs)) _ _ _ e
    (λ p q. let z : ◌≡◌ {A = ℕ} 0 1 = cc in omega arith)
    (λ p q. let z : ◌≡◌ {A = ℕ} 0 1 = cc in omega arith)

not_ended : (w at x : ℕ) (bs : List ℕ) → next_command w at (x ∷ bs) ≡ ended → ⊥
not_ended w at x bs e =
    split (eqb x begin_letter) _ _ _ e (λ p q. let z : ◌≡◌ {A = ℕ} 0 1 = cc in omega arith) (λ p e.
    split (eqb x read_letter) _ _ _ e (λ p q. with_not_ended _ _ _ bs q) (λ p e.
    split (eqb x write_letter) _ _ _ e (λ p q. with_not_ended _ _ _ bs q) (λ p e.
    split (eqb x withdraw_letter) _ _ _ e (λ p q. with_not_ended _ _ _ bs q) (λ p e.
    split (eqb x sweep_letter) _ _ _ e (λ p q. let z : ◌≡◌ {A = ℕ} 0 1 = cc in omega arith) (λ p e.
    let z : ◌≡◌ {A = ℕ} 0 1 = cc in omega arith)))))

pub ended_empty : (w at : ℕ) (bytes : List ℕ) → next_at w at bytes ≡ ended → bytes ≡ []
ended_empty w at [] e = refl
ended_empty w at (x ∷ bs) e =
    split (ltb longest (at + length (x ∷ bs))) _ _ _ e
    (λ p q. let z : ◌≡◌ {A = ℕ} 0 1 = cc in absurd (omega arith))
    (λ p q. absurd (not_ended w at x bs q))

stream_writes : (w at : ℕ) (bytes : List ℕ) (cs : List Call) → bytes_only bytes ≡ true → Reads w at bytes cs → stream_bytes w cs ≡ bytes
stream_writes w at bytes [] b (no_more e) = sym (ended_empty w at bytes e)
stream_writes w at bytes (c ∷ cs) b (and_then {next = n} {rest = rest} e l r) =
    let p : command_bytes w c ++ rest ≡ bytes = writes_back w at bytes rest c b e in
    let k : bytes_only rest ≡ true = bytes_behind (command_bytes w c) rest (ap bytes_only p ∙ b) in
    ap (λ (xs : List ℕ). command_bytes w c ++ xs) (stream_writes w n rest cs k r) ∙ p

pub streams_write_back : StreamsWriteBack
streams_write_back w bytes cs b r = stream_writes w 0 bytes cs b r
