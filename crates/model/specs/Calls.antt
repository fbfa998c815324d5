-- What opening, reading, writing and withdrawing answer, and what the book and the row then are.
use Rattle.std.specs.Prelude.{ℕ, suc, Bool, true, false, cond, not, ◌&&◌, ◌||◌, List, [], ◌∷◌, length, Some, None, Ok, Err, Option, Result, ◌==◌, nat_le, nat_lt, slice_set}
use Rattle.std.specs.List.{slice_get}
use Rattle.model.specs.declared.refusals.Refusal.{Refusal}
use Rattle.model.specs.declared.refusals.Refusal.TheVariants.{SettingsRange, LimitRange, RowLength, NotActive, NoSetting, OrderForm, EntrySetting, EntryRepeated, EntryValue, Circle}
use Rattle.model.specs.Refusals.{cuts_off}
use Rattle.model.specs.Lists.{some_of, among, map_list}
use Rattle.model.specs.Kinds.{Kind}
use Rattle.model.specs.Orders.{raw_entries}
use Rattle.model.specs.Book.{Job, Book, most_settings, most_active, is_active, written_by, touched_by, held, path, removed}

-- opening

-- a book without jobs
abbrev pub new_book : ℕ → ℕ → Book
new_book e a = record {
  settings = e;
  limit = a;
  last = 0;
  job = λ n. None;
  arrow = λ p q. false;
}

-- the checks in their order: the settings, the limit
abbrev pub opened : ℕ → ℕ → Result Book Refusal
opened e a =
    cond (nat_le 1 e && nat_le e most_settings)
    (cond (nat_le 1 a && nat_le a most_active) (Ok (new_book e a)) (Err LimitRange))
    (Err SettingsRange)

-- the book after a step of job j: as `done` if it was accepted, without j if the refusal cuts it off, else as it was
abbrev pub after_step : {A : Type 0} → Result A Refusal → Book → Book → ℕ → Book
after_step (Ok v) b done j = done
after_step (Err r) b done j = cond (cuts_off r) (removed b j) b

-- reading

-- a read of e by j would close a circle: j reaches another job that wrote e
abbrev pub read_closes_circle : Book → ℕ → ℕ → Bool
read_closes_circle b j e = some_of (λ k. not (k == j) && (written_by b k e && path b j k)) (held b)

-- the job has read the setting
abbrev pub job_after_read : ℕ → Option Job → Option Job
job_after_read e None = None
job_after_read e (Some x) = Some (record { finished = x.finished; has_read = λ d. (d == e) || x.has_read d; has_written = x.has_written })

-- the read is noted, and every other job that wrote the setting has an arrow to j
abbrev pub with_read : Book → ℕ → ℕ → Book
with_read b j e = record {
  settings = b.settings;
  limit = b.limit;
  last = b.last;
  job = λ m. cond (m == j) (job_after_read e (b.job j)) (b.job m);
  arrow = λ p q. b.arrow p q || (q == j && (not (p == j) && written_by b p e));
}

module _ {V : Type 0} where
  -- the checks in their order: the row, the job, the setting, the circle; accepted, a read gives the value
  abbrev pub read_answer : Book → List V → ℕ → ℕ → Result V Refusal
  read_answer b row j e =
      elim (length row == b.settings) [
        | false ↦ Err RowLength
        | true ↦ elim (is_active b j) [
          | false ↦ Err NotActive
          | true ↦ elim (slice_get row e) [
            | None ↦ Err NoSetting
            | Some v ↦ elim (read_closes_circle b j e) [ true ↦ Err Circle | false ↦ Ok v ]
          ]
        ]
      ]

  -- the book after a read
  abbrev pub read_book : Book → List V → ℕ → ℕ → Book
  read_book b row j e = after_step (read_answer b row j e) b (with_read b j e) j

-- writing

-- a write of these settings by j would close a circle: j reaches another job that touched one of them
abbrev pub write_closes_circle : Book → ℕ → List ℕ → Bool
write_closes_circle b j es = some_of (λ k. not (k == j) && (some_of (touched_by b k) es && path b j k)) (held b)

-- the job is finished and has written the settings
abbrev pub job_after_write : List ℕ → Option Job → Option Job
job_after_write es None = None
job_after_write es (Some x) = Some (record { finished = true; has_read = x.has_read; has_written = λ d. among d es })

-- j is finished, and every other job that touched one of the settings has an arrow to j
abbrev pub with_write : Book → ℕ → List ℕ → Book
with_write b j es = record {
  settings = b.settings;
  limit = b.limit;
  last = b.last;
  job = λ m. cond (m == j) (job_after_write es (b.job j)) (b.job m);
  arrow = λ p q. b.arrow p q || (q == j && (not (p == j) && some_of (touched_by b p) es));
}

module _ {V : Type 0} where
  -- the entries with their values, or the refusal of the first bad one, counted from i; `seen` are the settings of earlier ones
  abbrev pub checked_entries : (List ℕ → Option V) → ℕ → ℕ → List ℕ → List (ℕ × List ℕ) → Result (List (ℕ × V)) Refusal
  checked_entries reading e i seen [] = Ok []
  checked_entries reading e i seen (raw ∷ rest) =
      let more = checked_entries reading e (suc i) (raw.0 ∷ seen) rest in
      elim (nat_lt raw.0 e) [
        | false ↦ Err (EntrySetting i)
        | true ↦ elim (among raw.0 seen) [
          | true ↦ Err (EntryRepeated i)
          | false ↦ elim (reading raw.1) [
            | None ↦ Err (EntryValue i)
            | Some v ↦ elim more [ Ok es ↦ Ok ((raw.0, v) ∷ es) | Err r ↦ Err r ]
          ]
        ]
      ]

  -- the settings of entries
  abbrev pub named : List (ℕ × V) → List ℕ
  named es = map_list (λ (en : ℕ × V). en.0) es

  -- the row with entries written to it
  abbrev pub put_all : List V → List (ℕ × V) → List V
  put_all row [] = row
  put_all row (en ∷ es) = put_all (slice_set row en.0 en.1) es

  -- the entries of an order that passed its checks, else none
  abbrev pub entries_or_none : Result (List (ℕ × V)) Refusal → List (ℕ × V)
  entries_or_none (Ok es) = es
  entries_or_none (Err r) = []

  module _ (k : Kind V) where
    -- what the checks of an order make of its bytes, for so many settings: first its form, then its entries in turn
    abbrev pub order_entries : ℕ → List ℕ → Result (List (ℕ × V)) Refusal
    order_entries e bytes = elim (raw_entries k.width bytes) [ None ↦ Err OrderForm | Some raws ↦ checked_entries k.reading e 1 [] raws ]

    -- the entries of an order that passes them
    abbrev pub entries_of : ℕ → List ℕ → List (ℕ × V)
    entries_of e bytes = entries_or_none (order_entries e bytes)

    -- the checks in their order: the row, the job, the order, the circle
    abbrev pub write_answer : Book → List V → ℕ → List ℕ → Result (Unit {0}) Refusal
    write_answer b row j bytes =
        elim (length row == b.settings) [
          | false ↦ Err RowLength
          | true ↦ elim (is_active b j) [
            | false ↦ Err NotActive
            | true ↦ elim (order_entries b.settings bytes) [
              | Err r ↦ Err r
              | Ok es ↦ elim (write_closes_circle b j (named es)) [ true ↦ Err Circle | false ↦ Ok tt ]
            ]
          ]
        ]

    -- the book after a write
    abbrev pub write_book : Book → List V → ℕ → List ℕ → Book
    write_book b row j bytes = after_step (write_answer b row j bytes) b (with_write b j (named (entries_of b.settings bytes))) j

    -- the row after a write: the entries of the order, where it was accepted
    abbrev pub write_row : Book → List V → ℕ → List ℕ → List V
    write_row b row j bytes = elim (write_answer b row j bytes) [ Ok t ↦ put_all row (entries_of b.settings bytes) | Err r ↦ row ]

-- withdrawing

-- only an active job can be withdrawn
abbrev pub withdraw_answer : Book → ℕ → Result (Unit {0}) Refusal
withdraw_answer b j = cond (is_active b j) (Ok tt) (Err NotActive)

-- the book after a withdrawal
abbrev pub withdraw_book : Book → ℕ → Book
withdraw_book b j = cond (is_active b j) (removed b j) b
