-- What the answers of the calls say, and that each call leads from a book that can exist to one.
use Rattle.std.proofs.Common.{◌≡◌, ℕ, suc, ◌+◌, ◌<◌, Bool, true, false, cond, T, eqb, ltb, List, [], ◌∷◌, length, Some, None, Ok, Err, Option, Result, sym, refl, subst, inl, inr, arith, eqb→eq, ltb→lt}
use Rattle.std.specs.List.{slice_get}
use Rattle.std.proofs.lemmas.Option.{slice_get_past}
use Rattle.std.proofs.lemmas.Bool.{cases_lt}
use Rattle.model.specs.declared.refusals.Refusal.{Refusal}
use Rattle.model.specs.declared.refusals.Refusal.TheVariants.{ActiveLimit, NumbersSpent, BookFull, Circle, RowLength, NotActive, NoSetting, OrderForm, EntrySetting, EntryRepeated, EntryValue}
use Rattle.model.specs.Refusals.{cuts_off}
use Rattle.model.specs.Lists.{among}
use Rattle.model.specs.Kinds.{Kind}
use Rattle.model.specs.Orders.{raw_entries}
use Rattle.model.specs.Book.{Book, is_active, removed}
use Rattle.model.specs.Possible.{Possible}
use Rattle.model.specs.Calls.{named, with_read, with_write, read_closes_circle, write_closes_circle, read_answer, write_answer, order_entries, entries_of, entries_or_none, checked_entries, after_step}
use Rattle.model.specs.Begin.{limit_reached, numbers_spent, is_full, begin_answer_on}
use Rattle.model.specs.Laws.{KeepsPossible}
use Rattle.model.proofs.Tests.{or_e, T_true, eqb_of}
use Rattle.model.proofs.Possible.{possible_removed, possible_read, possible_write}

-- begin

abbrev pub BeginSaid : Book → Book → Result ℕ Refusal → Type 0
BeginSaid b c (Ok n) = (n ≡ b.last + 1) × (T (limit_reached b) → ⊥) × (T (numbers_spent b) → ⊥) × (T (is_full c) → ⊥)
BeginSaid b c (Err r) = Unit {0}

pub begin_said : (b c : Book) → BeginSaid b c (begin_answer_on b c)
begin_said b c = go (limit_reached b) (numbers_spent b) (is_full c) (λ f. f) (λ f. f) (λ f. f)
  where
    go : (x y z : Bool) → ((T x → ⊥) → T (limit_reached b) → ⊥) → ((T y → ⊥) → T (numbers_spent b) → ⊥) → ((T z → ⊥) → T (is_full c) → ⊥)
        → BeginSaid b c (cond x (Err ActiveLimit) (cond y (Err NumbersSpent) (cond z (Err BookFull) (Ok (b.last + 1)))))
    go true y z f g h = tt
    go false true z f g h = tt
    go false false true f g h = tt
    go false false false f g h = (refl, f (λ t. t), g (λ t. t), h (λ t. t))

module _ {V : Type 0} where
  -- read

  abbrev pub ReadSaid : Book → List V → ℕ → ℕ → Result V Refusal → Type 0
  ReadSaid b row j e (Ok v) = T (is_active b j) × (e < b.settings) × (T (read_closes_circle b j e) → ⊥) × (slice_get row e ≡ Some v)
  ReadSaid b row j e (Err r) = T (cuts_off r) → T (is_active b j)

  nth_small : (row : List V) (e : ℕ) (v : V) → slice_get row e ≡ Some v → e < length row
  nth_small row e v p = elim (cases_lt e (length row)) [
    | inl l ↦ l
    | inr g ↦ let past = slice_get_past row e g in let z : ◌≡◌ {A = ℕ} 0 1 = cc in absurd (omega arith)
  ]

  pub read_said : (b : Book) (row : List V) (j e : ℕ) → ReadSaid b row j e (read_answer b row j e)
  read_said b row j e = go (eqb (length row) b.settings) (eqb→eq (length row) b.settings) (is_active b j) (λ t. t) (slice_get row e) (λ v p. p) (read_closes_circle b j e) (λ f t. f t)
    where
      go : (c : Bool) → (T c → length row ≡ b.settings) → (d : Bool) → (T d → T (is_active b j)) → (o : Option V) → ((v : V) → o ≡ Some v → slice_get row e ≡ Some v)
          → (x : Bool) → ((T x → ⊥) → T (read_closes_circle b j e) → ⊥)
          → ReadSaid b row j e (elim c [ false ↦ Err RowLength | true ↦ elim d [ false ↦ Err NotActive | true ↦ elim o [ None ↦ Err NoSetting | Some v ↦ elim x [ true ↦ Err Circle | false ↦ Ok v ] ] ] ])
      go false p d q o r x f = λ t. absurd t
      go true p false q o r x f = λ t. absurd t
      go true p true q None r x f = λ t. absurd t
      go true p true q (Some v) r true f = λ t. q tt
      go true p true q (Some v) r false f = let i = p tt in let k = nth_small row e v (r v refl) in (q tt, omega arith, f (λ t. t), r v refl)

  -- write

  -- accepted entries name settings of the book, and no bad order cuts its job off
  abbrev Small : ℕ → Result (List (ℕ × V)) Refusal → Type 0
  Small e (Ok es) = (d : ℕ) → T (among d (named es)) → d < e
  Small e (Err r) = T (cuts_off r) → ⊥

  checked_small : (reading : List ℕ → Option V) (e i : ℕ) (seen : List ℕ) (raws : List (ℕ × List ℕ)) → Small e (checked_entries reading e i seen raws)
  checked_small reading e i seen [] = λ d t. absurd t
  checked_small reading e i seen (raw ∷ rest) = go (ltb raw.0 e) (ltb→lt raw.0 e) (among raw.0 seen) (reading raw.1) (checked_entries reading e (suc i) (raw.0 ∷ seen) rest) (checked_small reading e (suc i) (raw.0 ∷ seen) rest)
    where
      go : (c : Bool) → (T c → raw.0 < e) → (d : Bool) (o : Option V) (r : Result (List (ℕ × V)) Refusal) → Small e r
          → Small e (elim c [ false ↦ Err (EntrySetting i) | true ↦ elim d [ true ↦ Err (EntryRepeated i) | false ↦ elim o [ None ↦ Err (EntryValue i) | Some v ↦ elim r [ Ok es ↦ Ok ((raw.0, v) ∷ es) | Err x ↦ Err x ] ] ] ])
      go false p d o r h = λ t. t
      go true p true o r h = λ t. t
      go true p false None r h = λ t. t
      go true p false (Some v) (Err x) h = h
      go true p false (Some v) (Ok es) h = λ d t. elim (or_e (eqb d raw.0) (among d (named es)) t) [
        | inl q ↦ subst (λ y. y < e) (sym (eqb→eq d raw.0 q)) (p tt)
        | inr q ↦ h d q
      ]

  abbrev pub WriteSaid : Book → List V → ℕ → List (ℕ × V) → Result (Unit {0}) Refusal → Type 0
  WriteSaid b row j es (Ok t) = T (is_active b j) × ((d : ℕ) → T (among d (named es)) → d < b.settings) × (T (write_closes_circle b j (named es)) → ⊥) × (length row ≡ b.settings)
  WriteSaid b row j es (Err r) = T (cuts_off r) → T (is_active b j)

  module _ (k : Kind V) where
    order_small : (e : ℕ) (bytes : List ℕ) → Small e (order_entries k e bytes)
    order_small e bytes = go (raw_entries k.width bytes)
      where
        go : (o : Option (List (ℕ × List ℕ))) → Small e (elim o [ None ↦ Err OrderForm | Some raws ↦ checked_entries k.reading e 1 [] raws ])
        go None = λ t. t
        go (Some raws) = checked_small k.reading e 1 [] raws

    pub write_said : (b : Book) (row : List V) (j : ℕ) (bytes : List ℕ) → WriteSaid b row j (entries_of k b.settings bytes) (write_answer k b row j bytes)
    write_said b row j bytes = go (eqb (length row) b.settings) (eqb→eq (length row) b.settings) (is_active b j) (λ t. t) (order_entries k b.settings bytes) (order_small b.settings bytes)
      where
        closing : (es : List (ℕ × V)) (x : Bool) → ((T x → ⊥) → T (write_closes_circle b j (named es)) → ⊥) → T (is_active b j) → Small b.settings (Ok es)
            → length row ≡ b.settings → WriteSaid b row j es (elim x [ true ↦ Err Circle | false ↦ Ok tt ])
        closing es true f a h p = λ t. a
        closing es false f a h p = (a, h, f (λ t. t), p)

        go : (c : Bool) → (T c → length row ≡ b.settings) → (d : Bool) → (T d → T (is_active b j)) → (r : Result (List (ℕ × V)) Refusal) → Small b.settings r
            → WriteSaid b row j (entries_or_none r) (elim c [ false ↦ Err RowLength | true ↦ elim d [ false ↦ Err NotActive | true ↦ elim r [ Err x ↦ Err x | Ok es ↦ elim (write_closes_circle b j (named es)) [ true ↦ Err Circle | false ↦ Ok tt ] ] ] ])
        go false p d q r h = λ t. absurd t
        go true p false q r h = λ t. absurd t
        go true p true q (Err x) h = λ t. q tt
        go true p true q (Ok es) h = closing es (write_closes_circle b j (named es)) (λ f t. f t) (q tt) h (p tt)

-- a step that passes the other checks is answered by the test of a closing step

module _ {V : Type 0} (b : Book) (row : List V) (j : ℕ) (long : length row ≡ b.settings) (act : T (is_active b j)) where
  pub read_decides : (e : ℕ) (v : V) → slice_get row e ≡ Some v
      → ◌≡◌ {A = Result V Refusal} (read_answer b row j e) (elim (read_closes_circle b j e) [ true ↦ Err Circle | false ↦ Ok v ])
  read_decides e v at = rw (T_true (eqb (length row) b.settings) (eqb_of (length row) b.settings long), T_true (is_active b j) act, at, read_answer) refl

  pub write_decides : (k : Kind V) (bytes : List ℕ) (es : List (ℕ × V)) → order_entries k b.settings bytes ≡ Ok es
      → ◌≡◌ {A = Result (Unit {0}) Refusal} (write_answer k b row j bytes) (elim (write_closes_circle b j (named es)) [ true ↦ Err Circle | false ↦ Ok tt ])
  write_decides k bytes es at = rw (T_true (eqb (length row) b.settings) (eqb_of (length row) b.settings long), T_true (is_active b j) act, at, write_answer) refl

-- the books that calls lead to

cut_off : (b : Book) (j : ℕ) → Possible b → (c : Bool) → Possible (cond c (removed b j) b)
cut_off b j h true = possible_removed b j h
cut_off b j h false = h

pub keeps_possible : {V : Type 0} (k : Kind V) (b : Book) → Possible b → KeepsPossible k b
keeps_possible {V} k b h = record {
  by_read = λ row j e. read row j e (read_answer b row j e) (read_said b row j e);
  by_write = λ row j bytes. write row j (entries_of k b.settings bytes) (write_answer k b row j bytes) (write_said k b row j bytes);
  by_withdraw = λ j. cut_off b j h (is_active b j);
}
  where
    read : (row : List V) (j e : ℕ) (x : Result V Refusal) → ReadSaid b row j e x → Possible (after_step x b (with_read b j e) j)
    read row j e (Ok v) t = possible_read b j e h t.0 t.1 t.2
    read row j e (Err r) t = cut_off b j h (cuts_off r)

    write : (row : List V) (j : ℕ) (es : List (ℕ × V)) (x : Result (Unit {0}) Refusal) → WriteSaid b row j es x
        → Possible (after_step x b (with_write b j (named es)) j)
    write row j es (Ok u) t = possible_write b j es h t.0 t.1 t.2
    write row j es (Err r) t = cut_off b j h (cuts_off r)
