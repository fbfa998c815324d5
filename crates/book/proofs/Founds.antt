-- The place of a number.
use Rattle.std.proofs.Common.{◌≡◌, ℕ, zero, suc, ◌<◌, Bool, true, false, cond, T, eqb, Some, None, Option, sym, refl, ap, subst, inl, inr, arith, eqb→eq}
use lib.Dec.{eqb_refl}
use Rattle.std.proofs.lemmas.Bool.{cases_lt, cases_eq}
use Rattle.table.specs.declared.jobs.Job.{Job}
use Rattle.table.specs.declared.tables.Table.{Table}
use Rattle.table.specs.Slots.{slot, passes, taken, numbered, same_number}
use Rattle.table.proofs.Scans.{slot_past}
use Rattle.book.specs.View.{found_below, found, Apart}

-- a job at a place

pub passing_job : (f : Job → Bool) (o : Option Job) → T (passes f o) → (j : Job) × (o ≡ Some j) × T (f j)
passing_job f None t = absurd t
passing_job f (Some j) t = (j, refl, t)

pub passes_taken : (f : Job → Bool) (o : Option Job) → T (passes f o) → T (taken o)
passes_taken f None t = t
passes_taken f (Some j) t = tt

pub job_passes : (f : Job → Bool) (o : Option Job) (j : Job) → o ≡ Some j → T (f j) → T (passes f o)
job_passes f o j e t = subst (λ x. T (passes f x)) (sym e) t

pub numbered_job : (n : ℕ) (o : Option Job) → T (numbered n o) → (j : Job) × (o ≡ Some j) × (j.number ≡ n)
numbered_job n None t = absurd t
numbered_job n (Some j) t = (j, refl, eqb→eq j.number n t)

pub job_numbered : (n : ℕ) (o : Option Job) (j : Job) → o ≡ Some j → j.number ≡ n → T (numbered n o)
job_numbered n o j e f = subst (λ x. T (numbered n x)) (sym e) (subst (λ m. T (eqb j.number m)) f (eqb_refl j.number))

-- a table has 64 places
pub slot_below : (f : Job → Bool) (t : Table) (i : ℕ) → T (passes f (slot t i)) → i < 64
slot_below f t i p = elim (cases_lt i 64) [
  | inl l ↦ l
  | inr l ↦ absurd (subst (λ o. T (passes f o)) (slot_past t.jobs i t.sized l) p)
]

-- the place that is found

some_below : (slots : ℕ → Option Job) (n k i : ℕ) → found_below slots n k ≡ Some i → (i < k) × T (numbered n (slots i))
some_below slots n zero i e = let z : ◌≡◌ {A = ℕ} 0 1 = cc in absurd (omega arith)
some_below slots n (suc k) i e = go (some_below slots n k i) (numbered n (slots k)) refl e
  where
    go : (found_below slots n k ≡ Some i → (i < k) × T (numbered n (slots i)))
        → (v : Bool) → numbered n (slots k) ≡ v → cond v (Some k) (found_below slots n k) ≡ Some i → (i < suc k) × T (numbered n (slots i))
    go ih true f g = let z : k ≡ i = cc in (omega arith, subst (λ m. T (numbered n (slots m))) z (subst T (sym f) tt))
    go ih false f g = let r = ih g in (let l = r.0 in omega arith, r.1)

none_below : (slots : ℕ → Option Job) (n k : ℕ) → found_below slots n k ≡ None → (i : ℕ) → i < k → T (numbered n (slots i)) → ⊥
none_below slots n zero e i l t = omega arith
none_below slots n (suc k) e i l t = go (none_below slots n k) (numbered n (slots k)) refl e
  where
    go : (found_below slots n k ≡ None → (i : ℕ) → i < k → T (numbered n (slots i)) → ⊥) → (v : Bool) → numbered n (slots k) ≡ v → cond v (Some k) (found_below slots n k) ≡ None → ⊥
    go ih true f g = let z : ◌≡◌ {A = ℕ} 0 1 = cc in omega arith
    go ih false f g = elim (cases_eq i k) [
      | inl e ↦ subst T f (subst (λ m. T (numbered n (slots m))) e t)
      | inr d ↦ ih g i (omega arith) t
    ]

pub found_some : (slots : ℕ → Option Job) (n i : ℕ) → found slots n ≡ Some i → T (numbered n (slots i))
unfolding found
found_some slots n i e = (some_below slots n 64 i e).1

pub found_none : (t : Table) (n : ℕ) → found (slot t) n ≡ None → (i : ℕ) → T (numbered n (slot t i)) → ⊥
unfolding found
found_none t n e i p = none_below (slot t) n 64 e i (slot_below (λ j. eqb j.number n) t i p) p

pub found_at : (t : Table) → Apart t → (i : ℕ) (j : Job) → slot t i ≡ Some j → found (slot t) j.number ≡ Some i
found_at t A i j e = go (found (slot t) j.number) refl
  where
    go : (o : Option ℕ) → found (slot t) j.number ≡ o → o ≡ Some i
    go None f = absurd (found_none t j.number f i (job_numbered j.number (slot t i) j e refl))
    go (Some k) f =
        let r = found_some (slot t) j.number k f in
        ap Some (sym (A i k (subst (λ o. T (same_number o (slot t k))) (sym e) r)))
