-- The place and the answer can be read back from a line, so that no other place or answer has the same line.
use Rattle.std.proofs.Common.{◌≡◌, ℕ, ◌+◌, ◌-◌, ◌*◌, ◌/◌, ◌%◌, ◌^◌, ◌<◌, ◌≤◌, true, false, cond, eqb, ltb, List, [], ◌∷◌, ◌++◌, get_or, drop, Some, None, Ok, Err, decimal, Option, sym, refl, ap, ◌∙◌, inl, inr, append_assoc, arith, lit<}
use Rattle.std.proofs.lemmas.Fmt.{decimal_by_steps}
use Rattle.std.proofs.lemmas.Bool.{cond-true, cond-false, lt-ltb, le-ltb, ltb-true, and_parts, cases_lt}
use Rattle.model.specs.declared.refusals.Refusal.{Refusal}
use Rattle.model.specs.declared.refusals.Refusal.TheVariants.{SettingsRange, LimitRange, RowLength, ActiveLimit, NumbersSpent, BookFull, NotActive, NoSetting, OrderForm, EntrySetting, EntryRepeated, EntryValue, Circle, NotFinished, SpacingZero, NoRoom}
use Rattle.model.specs.declared.faults.Fault.{Fault}
use Rattle.model.specs.declared.faults.Fault.TheVariants.{TooLong, NoLetter, CutShort}
use Rattle.model.specs.Refusals.{refusal_says, number_of, entry_of, fault_number, fault_offset}
use Rattle.model.specs.Kinds.{Kind}
use Rattle.values.specs.Words.{bytes_only}
use Rattle.commands.specs.Calls.{begin_letter, read_letter, write_letter, withdraw_letter, sweep_letter}
use Rattle.stream.specs.declared.answers.Answer.{Answer}
use Rattle.stream.specs.declared.answers.Answer.TheVariants as answer
use Rattle.stream.specs.Lines.{hex_digit, hex, no_words, refusal_words, fault_words, letter_of, answer_words}
use Rattle.stream.specs.Apart.{NamedFits, Fits, LinesTellApart}

-- numbers

-- the number that n and the digits up to a space or a line feed make, and what follows them
abbrev number_at : ℕ → List ℕ → ℕ × List ℕ
number_at n [] = (n, [])
number_at n (x ∷ xs) = cond (ltb 32 x) (number_at (n * 10 + (x - 48)) xs) (n, x ∷ xs)

digit_read : (m n d : ℕ) (t : List ℕ) → m * 10 + d ≡ n → number_at m ((48 + d) ∷ t) ≡ number_at n t
digit_read m n d t e = cond-true _ _ _ (lt-ltb 32 (48 + d) (omega arith)) ∙ ap (λ (x : ℕ). number_at x t) (omega arith)

abbrev NumberReads : ℕ → List ℕ → Type 0
NumberReads n ds = (t : List ℕ) → number_at 0 (ds ++ t) ≡ number_at n t

digit_more : (n : ℕ) (ds : List ℕ) → 10 ≤ n → NumberReads (n / 10) ds → NumberReads n (ds ++ ((48 + n % 10) ∷ []))
digit_more n ds h r t = ap (number_at 0) (append_assoc ds ((48 + n % 10) ∷ []) t) ∙ r ((48 + n % 10) ∷ t) ∙ digit_read (n / 10) n (n % 10) t (omega arith)

number_reads : (n : ℕ) → n < 2 ^ 64 → NumberReads n (decimal n)
number_reads = decimal_by_steps NumberReads (λ n h t. digit_read 0 n n t (omega arith)) digit_more

number_back : (n : ℕ) → n < 2 ^ 64 → (number_at 0 (decimal n ++ (10 ∷ []))).0 ≡ n
number_back n h = ap (λ p. p.0) (number_reads n h (10 ∷ []))

-- values

-- what a hexadecimal digit stands for
abbrev digit_of : ℕ → ℕ
digit_of c = cond (ltb c 87) (c - 48) (c - 87)

-- the bytes of two digits each, up to the line feed
abbrev bytes_of : List ℕ → List ℕ
bytes_of [] = []
bytes_of (x ∷ []) = []
bytes_of (x ∷ y ∷ xs) = (digit_of x * 16 + digit_of y) ∷ bytes_of xs

digit_back : (n : ℕ) → n < 16 → digit_of (hex_digit n) ≡ n
digit_back n h =
    elim (cases_lt n 10) [
      | inl l ↦ ap digit_of (cond-true _ (48 + n) (87 + n) (lt-ltb n 10 l)) ∙ cond-true _ _ _ (lt-ltb (48 + n) 87 (omega arith)) ∙ omega arith
      | inr l ↦ ap digit_of (cond-false _ (48 + n) (87 + n) (le-ltb n 10 l)) ∙ cond-false _ _ _ (le-ltb (87 + n) 87 (omega arith)) ∙ omega arith
    ]

bytes_back : (bs : List ℕ) → bytes_only bs ≡ true → bytes_of (hex bs ++ (10 ∷ [])) ≡ bs
bytes_back [] e = refl
bytes_back (b ∷ bs) e =
    let p = and_parts (ltb b 256) (bytes_only bs) e in
    let l : b < 256 = ltb-true b 256 p.0 in
    let f : digit_of (hex_digit (b / 16)) ≡ b / 16 = digit_back (b / 16) (omega arith) in
    let g : digit_of (hex_digit (b % 16)) ≡ b % 16 = digit_back (b % 16) (omega arith) in
    let s : b / 16 * 16 + b % 16 ≡ b = omega arith in
    let r : bytes_of (hex bs ++ (10 ∷ [])) ≡ bs = bytes_back bs p.1 in
    rw (f, g, s, r)

-- refusals and faults

-- the number behind a space, if there is one
abbrev named_of : List ℕ → Option ℕ
named_of t = cond (eqb (get_or t 0 0) 32) (Some (number_at 0 (drop 1 t)).0) None

abbrev parts_of : ℕ × List ℕ → ℕ × Option ℕ
parts_of p = (p.0, named_of p.1)

-- the number behind `no`, and what else is named
abbrev no_of : List ℕ → ℕ × Option ℕ
no_of ws = parts_of (number_at 0 (drop 3 ws))

no_back : (n : ℕ) (e : Option ℕ) → n < 2 ^ 64 → NamedFits e → no_of (no_words n e ++ (10 ∷ [])) ≡ (n, e)
no_back n None h g = ap parts_of (number_reads n h (10 ∷ []))
no_back n (Some m) h g =
    ap (λ (l : List ℕ). parts_of (number_at 0 l)) (append_assoc (decimal n) (32 ∷ decimal m) (10 ∷ []))
    ∙ ap parts_of (number_reads n h (32 ∷ (decimal m ++ (10 ∷ []))))
    ∙ ap (λ (x : ℕ). (n, Some x)) (number_back m g)

no_first : (n : ℕ) (e : Option ℕ) → eqb (get_or (no_words n e ++ (10 ∷ [])) 0 0) 111 ≡ false
no_first n None = refl
no_first n (Some m) = refl

-- the refusals that name no entry, by their numbers from 0 on; `NoRoom`, which is the last, also fills the numbers of no such refusal
abbrev plain_refusals : List Refusal
plain_refusals = NoRoom ∷ SettingsRange ∷ LimitRange ∷ RowLength ∷ ActiveLimit ∷ NumbersSpent ∷ BookFull ∷ NotActive ∷ NoSetting ∷ OrderForm ∷ NoRoom ∷ NoRoom ∷ Circle ∷ NotFinished ∷ SpacingZero ∷ []

abbrev entry_refusal : ℕ → Option ℕ → Refusal
entry_refusal n None = get_or plain_refusals n NoRoom
entry_refusal n (Some i) = cond (eqb n 8) (EntrySetting i) (cond (eqb n 10) (EntryRepeated i) (EntryValue i))

abbrev refusal_of : ℕ × Option ℕ → Refusal
refusal_of p = entry_refusal p.0 p.1

refusal_known : (r : Refusal) → (refusal_of (refusal_says r) ≡ r) × (number_of r < 2 ^ 64)
refusal_known SettingsRange = (refl, lit< tt)
refusal_known LimitRange = (refl, lit< tt)
refusal_known RowLength = (refl, lit< tt)
refusal_known ActiveLimit = (refl, lit< tt)
refusal_known NumbersSpent = (refl, lit< tt)
refusal_known BookFull = (refl, lit< tt)
refusal_known NotActive = (refl, lit< tt)
refusal_known NoSetting = (refl, lit< tt)
refusal_known OrderForm = (refl, lit< tt)
refusal_known (EntrySetting i) = (refl, lit< tt)
refusal_known (EntryRepeated i) = (refl, lit< tt)
refusal_known (EntryValue i) = (refl, lit< tt)
refusal_known Circle = (refl, lit< tt)
refusal_known NotFinished = (refl, lit< tt)
refusal_known SpacingZero = (refl, lit< tt)
refusal_known NoRoom = (refl, lit< tt)

refusal_back : (r : Refusal) → NamedFits (entry_of r) → refusal_of (no_of (refusal_words r ++ (10 ∷ []))) ≡ r
refusal_back r g = ap refusal_of (no_back (number_of r) (entry_of r) (refusal_known r).1 g) ∙ (refusal_known r).0

abbrev offset_fault : ℕ → Option ℕ → Fault
offset_fault n None = TooLong
offset_fault n (Some at) = cond (eqb n 15) TooLong (cond (eqb n 16) (NoLetter at) (CutShort at))

abbrev fault_of : ℕ × Option ℕ → Fault
fault_of p = offset_fault p.0 p.1

fault_known : (f : Fault) → (fault_of (fault_number f, Some (fault_offset f)) ≡ f) × (fault_number f < 2 ^ 64)
fault_known TooLong = (refl, lit< tt)
fault_known (NoLetter at) = (refl, lit< tt)
fault_known (CutShort at) = (refl, lit< tt)

fault_back : (f : Fault) → fault_offset f < 2 ^ 64 → fault_of (no_of (fault_words f ++ (10 ∷ []))) ≡ f
fault_back f h = ap fault_of (no_back (fault_number f) (Some (fault_offset f)) (fault_known f).1 h) ∙ (fault_known f).0

-- answers

module _ {V : Type 0} where
  -- a value that was read, or d
  abbrev value_or : Answer V → Option V → Answer V
  value_or d (Some v) = answer.Read (Ok v)
  value_or d None = d

  -- a where the words begin as `ok` does, and otherwise b
  abbrev either_of : List ℕ → Answer V → Answer V → Answer V
  either_of ws a b = cond (eqb (get_or ws 0 0) 111) a b

module _ {V : Type 0} (k : Kind V) where
  -- the answer, by its letter and the words behind it; d where the kind has no such value
  abbrev told : Answer V → ℕ → List ℕ → Answer V
  told d c ws =
      let n : ℕ = (number_at 0 (drop 3 ws)).0 in
      let r : Refusal = refusal_of (no_of ws) in
      cond (eqb c begin_letter) (either_of ws (answer.Begin (Ok n)) (answer.Begin (Err r)))
      (cond (eqb c read_letter) (either_of ws (value_or d (k.reading (bytes_of (drop 3 ws)))) (answer.Read (Err r)))
      (cond (eqb c write_letter) (either_of ws (answer.Write (Ok tt)) (answer.Write (Err r)))
      (cond (eqb c withdraw_letter) (either_of ws (answer.Withdraw (Ok tt)) (answer.Withdraw (Err r)))
      (cond (eqb c sweep_letter) (answer.Sweep n) (answer.Fault (fault_of (no_of ws)))))))

  refused_back : (to : Refusal → Answer V) (a : Answer V) (r : Refusal) → NamedFits (entry_of r)
      → either_of (refusal_words r ++ (10 ∷ [])) a (to (refusal_of (no_of (refusal_words r ++ (10 ∷ []))))) ≡ to r
  refused_back to a r h = cond-false _ _ _ (no_first (number_of r) (entry_of r)) ∙ ap to (refusal_back r h)

  told_back : (d a : Answer V) → Fits k a → told d (letter_of a) (answer_words k a ++ (10 ∷ [])) ≡ a
  told_back d (answer.Begin (Ok n)) h = ap (λ (x : ℕ). answer.Begin (Ok x)) (number_back n h)
  told_back d (answer.Begin (Err r)) h = refused_back (λ (x : Refusal). answer.Begin (Err x)) _ r h
  told_back d (answer.Read (Ok v)) h = ap (λ (bs : List ℕ). value_or d (k.reading bs)) (bytes_back (k.writing v) h) ∙ ap (value_or d) (k.reads_back v)
  told_back d (answer.Read (Err r)) h = refused_back (λ (x : Refusal). answer.Read (Err x)) _ r h
  told_back d (answer.Write (Ok t)) h = refl
  told_back d (answer.Write (Err r)) h = refused_back (λ (x : Refusal). answer.Write (Err x)) _ r h
  told_back d (answer.Withdraw (Ok t)) h = refl
  told_back d (answer.Withdraw (Err r)) h = refused_back (λ (x : Refusal). answer.Withdraw (Err x)) _ r h
  told_back d (answer.Sweep n) h = ap answer.Sweep (number_back n h)
  told_back d (answer.Fault f) h = ap answer.Fault (fault_back f h)

  -- what follows the place
  abbrev rest_of : Answer V → List ℕ
  rest_of a = 32 ∷ letter_of a ∷ 32 ∷ (answer_words k a ++ (10 ∷ []))

pub lines_tell_apart : {V : Type 0} → LinesTellApart V
lines_tell_apart k n m a b h l f g e =
    let p : ◌≡◌ {A = ℕ × List ℕ} (n, rest_of k a) (m, rest_of k b) = sym (number_reads n h (rest_of k a)) ∙ ap (number_at 0) e ∙ number_reads m l (rest_of k b) in
    (ap (λ q. q.0) p, sym (told_back k a a f) ∙ ap (λ q. told k a (get_or q.1 1 0) (drop 3 q.1)) p ∙ told_back k a b g)
