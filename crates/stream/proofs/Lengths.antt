-- How long lines are.
use Rattle.std.proofs.Common.{◌≡◌, ℕ, ◌*◌, ◌^◌, ◌<◌, ◌≤◌, List, [], ◌∷◌, ◌++◌, length, Some, None, decimal, sym, refl, subst, arith, length-append}
use Rattle.std.proofs.lemmas.Fmt.{length-decimal-le}
use Rattle.model.specs.declared.faults.Fault.{Fault}
use Rattle.model.specs.declared.faults.Fault.TheVariants.{TooLong, NoLetter, CutShort}
use Rattle.model.specs.Refusals.{fault_number, fault_offset}
use Rattle.model.specs.Kinds.{Kind}
use Rattle.stream.specs.declared.answers.Answer.{Answer}
use Rattle.stream.specs.Lines.{hex, spaced_number, number_words, value_words, no_words, fault_words, letter_of, answer_words, line, line_room, Brief}

pub hex_length : (bytes : List ℕ) → length (hex bytes) ≡ 2 * length bytes
hex_length [] = refl
hex_length (b ∷ bs) = let h = hex_length bs in omega (arith, h)

pub number_brief : (n : ℕ) → n < 2 ^ 64 → length (number_words n) ≤ 23
number_brief n h = let d = length-decimal-le 20 n (omega arith) (omega arith) h in omega (arith, d)

pub value_brief : {V : Type 0} (k : Kind V) (v : V) → length (value_words k v) ≤ 23
value_brief k v = let h = hex_length (k.writing v) in let s = k.sized v in let w = k.narrow.1 in omega (arith, h, s, w)

-- two numbers of few digits
pub no_brief : (n m : ℕ) → n < 256 → m < 65536 → length (no_words n (Some m)) ≤ 23
no_brief n m h l =
    let d = length-decimal-le 3 n (omega arith) (omega arith) (omega arith) in
    let e = length-decimal-le 5 m (omega arith) (omega arith) (omega arith) in
    let a = length-append (decimal n) (spaced_number m) in
    omega (arith, d, e, a)

pub no_brief_alone : (n : ℕ) → n < 256 → length (no_words n None) ≤ 23
no_brief_alone n h = let d = length-decimal-le 3 n (omega arith) (omega arith) (omega arith) in omega (arith, d)

fault_small : (f : Fault) → fault_number f < 256
fault_small TooLong = omega arith
fault_small (NoLetter at) = omega arith
fault_small (CutShort at) = omega arith

pub fault_brief : (f : Fault) → fault_offset f < 65536 → length (fault_words f) ≤ 23
fault_brief f h = no_brief (fault_number f) (fault_offset f) (fault_small f) h

-- of the same answer, by another name
pub brief_same : {V : Type 0} (k : Kind V) (a b : Answer V) → a ≡ b → Brief k b → Brief k a
brief_same k a b e f = subst (λ (x : Answer _). Brief k x) (sym e) f

-- at a place of a stream

pub place_length : (n : ℕ) → n < 65536 → length (decimal n) ≤ 5
place_length n h = length-decimal-le 5 n (omega arith) (omega arith) (omega arith)

pub head_length : (n m : ℕ) → n < 65536 → length (decimal n ++ (32 ∷ m ∷ 32 ∷ [])) ≤ 8
head_length n m h = let l = length-append (decimal n) (32 ∷ m ∷ 32 ∷ []) in omega (arith, l, place_length n h)

module _ {V : Type 0} (k : Kind V) (n : ℕ) (a : Answer V) (h : n < 65536) (b : length (answer_words k a) ≤ 23) where
  -- up to the line feed
  pub front_length : length (decimal n ++ ((32 ∷ letter_of a ∷ 32 ∷ []) ++ answer_words k a)) ≤ line_room
  front_length = let l = length-append (decimal n) (32 ∷ letter_of a ∷ 32 ∷ answer_words k a) in omega (arith, l, place_length n h, b)

  pub line_length : length (line k n a) ≤ line_room
  line_length =
      let l = length-append (decimal n) (32 ∷ letter_of a ∷ 32 ∷ (answer_words k a ++ (10 ∷ []))) in
      let m = length-append (answer_words k a) (10 ∷ []) in
      omega (arith, l, m, place_length n h, b)
