-- Reading undoes writing, and writing undoes reading.
use Rattle.std.proofs.Common.{◌≡◌, ℕ, ◌+◌, ◌*◌, ◌/◌, ◌%◌, ◌≤◌, true, eqb, ltb, List, [], ◌∷◌, ◌++◌, length, get_or, take, drop, sym, refl, ap, ◌∙◌, add-zero, arith, length-append, length-drop}
use Rattle.std.proofs.lemmas.Bool.{and_parts, cond-true, le-leb, eqb-true}
use Rattle.std.proofs.lemmas.Nat.{div-add-mod', div-mul-add}
use Rattle.std.proofs.lemmas.List.{take_at, drop_at, drop-drop, take-append-drop, drop_more, length-take-le}
use Rattle.model.specs.Orders.{entry_count}
use Rattle.values.specs.Words.{word, word_at, bytes_only}
use Rattle.values.specs.WordLaws.{word_next}
use Rattle.commands.specs.Calls.{Call, command_bytes, well_formed, begin_letter, read_letter, write_letter, withdraw_letter, sweep_letter}
use Rattle.commands.specs.Calls.Call.{begins, reads, writes, withdraws, sweeps}
use Rattle.commands.specs.Reading.{next_command}
use Rattle.commands.specs.Reading.Found.{took}
use Rattle.commands.specs.Laws.{ReadsBack, WritesBack}
use Rattle.commands.proofs.Found.{next_write, in_length}
use Rattle.commands.proofs.Taken.{split, taken, with_taken, found_within}
use Rattle.commands.proofs.Entries.{formed_whole}

took_writes : {j j' : ℕ} {o o' r r' : List ℕ} → j ≡ j' → o ≡ o' → r ≡ r' → took (writes j o) r ≡ took (writes j' o') r'
took_writes p q s = cc

command_reads : (w at : ℕ) (c : Call) (more : List ℕ) → well_formed w c ≡ true → next_command w at (command_bytes w c ++ more) ≡ took c more
command_reads w at begins more e = refl
command_reads w at (reads j s) more e = cond-true _ _ _ (le-leb 3 (length (j / 256 ∷ j % 256 ∷ s ∷ more)) (omega arith)) ∙ ap (λ (n : ℕ). took (reads n s) more) (div-add-mod' j 256)
command_reads w at (writes j o) more e =
    let n : ℕ = entry_count w o in
    let f : n * (w + 2) ≡ length o = formed_whole w o e in
    let g : length (o ++ more) ≡ length o + length more = length-append o more in
    next_write w at (87 ∷ j / 256 ∷ j % 256 ∷ n ∷ (o ++ more)) (omega arith) refl
    ∙ took_writes (div-add-mod' j 256) (take_at o more (n * (w + 2)) (sym f)) (drop_at o more (n * (w + 2)) (sym f))
command_reads w at (withdraws j) more e = cond-true _ _ _ (le-leb 2 (length (j / 256 ∷ j % 256 ∷ more)) (omega arith)) ∙ ap (λ (n : ℕ). took (withdraws n) more) (div-add-mod' j 256)
command_reads w at sweeps more e = refl

pub reads_back : ReadsBack
reads_back w at c more e h = in_length w at (command_bytes w c ++ more) h ∙ command_reads w at c more e

module _ (w : ℕ) (bs : List ℕ) (b : bytes_only bs ≡ true) where
  read_front : 3 ≤ length bs → command_bytes w (reads (word_at bs 0) (get_or bs 2 0)) ++ drop 3 bs ≡ read_letter ∷ bs
  read_front h =
      ap (λ (l : List ℕ). read_letter ∷ word (word_at bs 0) ++ l) (sym (drop_more bs 2 0 (omega arith)))
      ∙ ap (λ (l : List ℕ). read_letter ∷ l) (word_next 0 bs (omega arith) b)

  withdraw_front : 2 ≤ length bs → command_bytes w (withdraws (word_at bs 0)) ++ drop 2 bs ≡ withdraw_letter ∷ bs
  withdraw_front h = ap (λ (l : List ℕ). withdraw_letter ∷ l) (word_next 0 bs h b)

  write_front : 3 + get_or bs 2 0 * (w + 2) ≤ length bs
      → command_bytes w (writes (word_at bs 0) (take (get_or bs 2 0 * (w + 2)) (drop 3 bs))) ++ drop (3 + get_or bs 2 0 * (w + 2)) bs ≡ write_letter ∷ bs
  write_front h =
      let n : ℕ = get_or bs 2 0 in
      let m : ℕ = n * (w + 2) in
      let o : List ℕ = take m (drop 3 bs) in
      let l : length o ≡ m = length-take-le m (drop 3 bs) (simp length-drop (omega arith)) in
      let d : entry_count w o ≡ n = ap (λ (k : ℕ). k / (w + 2)) (l ∙ sym (add-zero m)) ∙ div-mul-add n (w + 2) 0 (omega arith) in
      let j : o ++ drop (3 + m) bs ≡ drop 3 bs = ap (λ (r : List ℕ). o ++ r) (sym (drop-drop m 3 bs)) ∙ take-append-drop m (drop 3 bs) in
      ap (λ (r : List ℕ). write_letter ∷ word (word_at bs 0) ++ (entry_count w o ∷ r)) j
      ∙ ap (λ (k : ℕ). write_letter ∷ word (word_at bs 0) ++ (k ∷ drop 3 bs)) d
      ∙ ap (λ (r : List ℕ). write_letter ∷ word (word_at bs 0) ++ r) (sym (drop_more bs 2 0 (omega arith)))
      ∙ ap (λ (r : List ℕ). write_letter ∷ r) (word_next 0 bs (omega arith) b)

-- the same, of a command and a rest that are known to be those
shown : (w x y : ℕ) (bs r s : List ℕ) (c d : Call) → x ≡ y → c ≡ d → r ≡ s → command_bytes w c ++ r ≡ y ∷ bs → command_bytes w d ++ s ≡ x ∷ bs
shown w x y bs r s c d p q t e = rw (← q, ← t, p) e

command_writes : (w at : ℕ) (bytes rest : List ℕ) (c : Call) → bytes_only bytes ≡ true → next_command w at bytes ≡ took c rest → command_bytes w c ++ rest ≡ bytes
command_writes w at [] rest c b e = let z : ◌≡◌ {A = ℕ} 0 1 = cc in absurd (omega arith)
command_writes w at (x ∷ bs) rest c b e =
    let k : bytes_only bs ≡ true = (and_parts (ltb x 256) (bytes_only bs) b).1 in
    split (eqb x begin_letter) _ _ _ e (λ p q. shown w x begin_letter bs _ _ _ _ (eqb-true x begin_letter p) (taken _ _ _ _ q).0 (taken _ _ _ _ q).1 refl) (λ p e.
    split (eqb x read_letter) _ _ _ e (λ p q. let t = with_taken _ _ _ _ bs _ q in shown w x read_letter bs _ _ _ _ (eqb-true x read_letter p) t.1 t.2 (read_front w bs k t.0)) (λ p e.
    split (eqb x write_letter) _ _ _ e (λ p q. let t = with_taken _ _ _ _ bs _ q in shown w x write_letter bs _ _ _ _ (eqb-true x write_letter p) t.1 t.2 (write_front w bs k t.0)) (λ p e.
    split (eqb x withdraw_letter) _ _ _ e (λ p q. let t = with_taken _ _ _ _ bs _ q in shown w x withdraw_letter bs _ _ _ _ (eqb-true x withdraw_letter p) t.1 t.2 (withdraw_front w bs k t.0)) (λ p e.
    split (eqb x sweep_letter) _ _ _ e (λ p q. shown w x sweep_letter bs _ _ _ _ (eqb-true x sweep_letter p) (taken _ _ _ _ q).0 (taken _ _ _ _ q).1 refl) (λ p e.
    let z : ◌≡◌ {A = ℕ} 0 1 = cc in absurd (omega arith))))))

pub writes_back : WritesBack
writes_back w at bytes rest c b e = command_writes w at bytes rest c b (found_within w at bytes rest c e).1
