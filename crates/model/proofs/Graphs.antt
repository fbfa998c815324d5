-- Conflict graphs, of a book or of a log, and the changes that calls make to them.
use Rattle.std.proofs.Common.{◌≡◌, ℕ, Bool, ◌⊎◌, ◌↔◌, sym, subst, inl, inr}
use Rattle.std.proofs.lemmas.Bool.{cases_eq}
use Rattle.model.proofs.Walks.{Way, way_map}
use Rattle.model.proofs.Walks.Way.{last, next}

-- a conflict graph: arrows between jobs, which jobs are here, which of them are done, and which settings each wrote (true) or touched (false)
pub record Graph : Type 1 where
  pub arrow : ℕ → ℕ → Type 0
  pub here : ℕ → Type 0
  pub done : ℕ → Type 0
  pub mark : Bool → ℕ → ℕ → Type 0

-- a tight way: every job strictly between its ends is done
abbrev pub TightWay : Graph → ℕ → ℕ → Type 0
TightWay S p q = Way S.arrow S.done p q

-- any way
abbrev pub AnyWay : Graph → ℕ → ℕ → Type 0
AnyWay S p q = Way S.arrow (λ n. Unit {0}) p q

abbrev pub Active : Graph → ℕ → Type 0
Active S n = S.here n × (S.done n → ⊥)

-- arrows, done jobs and marks are of jobs that are here
pub record Formed (S : Graph) : Type 0 where
  pub arrow_here : (u v : ℕ) → S.arrow u v → S.here u × S.here v
  pub done_here : (n : ℕ) → S.done n → S.here n
  pub mark_here : (m : Bool) (n e : ℕ) → S.mark m n e → S.here n
  pub done_cases : (n : ℕ) → S.done n ⊎ (S.done n → ⊥)

-- two graphs with the same relations
pub record Same (S S' : Graph) : Type 0 where
  pub arrow_is : (u v : ℕ) → S.arrow u v ↔ S'.arrow u v
  pub here_is : (n : ℕ) → S.here n ↔ S'.here n
  pub done_is : (n : ℕ) → S.done n ↔ S'.done n
  pub mark_is : (m : Bool) (n e : ℕ) → S.mark m n e ↔ S'.mark m n e

pub same_refl : (S : Graph) → Same S S
same_refl S = record { arrow_is = λ u v. (λ t. t, λ t. t); here_is = λ n. (λ t. t, λ t. t); done_is = λ n. (λ t. t, λ t. t); mark_is = λ m n e. (λ t. t, λ t. t) }

pub tight_in : {S S' : Graph} → Same S S' → {p q : ℕ} → TightWay S p q → TightWay S' p q
tight_in c w = way_map (λ u v. (c.arrow_is u v).0) (λ n. (c.done_is n).0) w

pub tight_out : {S S' : Graph} → Same S S' → {p q : ℕ} → TightWay S' p q → TightWay S p q
tight_out c w = way_map (λ u v. (c.arrow_is u v).1) (λ n. (c.done_is n).1) w

pub was_active : {S S' : Graph} → Same S S' → (n : ℕ) → Active S' n → Active S n
was_active c n a = ((c.here_is n).1 a.0, λ d. a.1 ((c.done_is n).0 d))

pub formed_same : {S S' : Graph} → Same S S' → Formed S → Formed S'
formed_same c h = record {
  arrow_here = λ u v t. let r = h.arrow_here u v ((c.arrow_is u v).1 t) in ((c.here_is u).0 r.0, (c.here_is v).0 r.1);
  done_here = λ n t. (c.here_is n).0 (h.done_here n ((c.done_is n).1 t));
  mark_here = λ m n e t. (c.here_is n).0 (h.mark_here m n e ((c.mark_is m n e).1 t));
  done_cases = λ n. elim (h.done_cases n) [ inl d ↦ inl ((c.done_is n).0 d) | inr f ↦ inr (λ d. f ((c.done_is n).1 d)) ];
}

-- the ends of a way are here
pub way_ends : {S : Graph} {I : ℕ → Type 0} → Formed S → {p q : ℕ} → Way S.arrow I p q → S.here p × S.here q
way_ends h (last {p} {q} a) = h.arrow_here p q a
way_ends h (next {p} {r} {q} a i w) = ((h.arrow_here p r a).0, (way_ends h w).1)

-- and so are the jobs between them
pub way_here : {S : Graph} → Formed S → {p q : ℕ} → AnyWay S p q → Way S.arrow S.here p q
way_here h (last a) = last a
way_here h (next {p} {r} {q} a i w) = next a (h.arrow_here p r a).1 (way_here h w)

-- no job yet

abbrev pub empty : Graph
empty = record { arrow = λ u v. ⊥; here = λ n. ⊥; done = λ n. ⊥; mark = λ m n e. ⊥ }

pub formed_empty : Formed empty
formed_empty = record { arrow_here = λ u v t. absurd t; done_here = λ n t. t; mark_here = λ m n e t. t; done_cases = λ n. inr (λ t. t) }

-- a new job, without arrows

abbrev pub with_new_job : Graph → ℕ → Graph
with_new_job S i = record { arrow = S.arrow; here = λ n. S.here n ⊎ (n ≡ i); done = S.done; mark = S.mark }

pub formed_new_job : {S : Graph} (i : ℕ) → Formed S → Formed (with_new_job S i)
formed_new_job i h = record {
  arrow_here = λ u v t. let r = h.arrow_here u v t in (inl r.0, inl r.1);
  done_here = λ n t. inl (h.done_here n t);
  mark_here = λ m n e t. inl (h.mark_here m n e t);
  done_cases = h.done_cases;
}

-- a job is removed with all its arrows and marks

abbrev pub without : Graph → ℕ → Graph
without S j = record {
  arrow = λ u v. S.arrow u v × (u ≡ j → ⊥) × (v ≡ j → ⊥);
  here = λ n. S.here n × (n ≡ j → ⊥);
  done = λ n. S.done n × (n ≡ j → ⊥);
  mark = λ m n e. S.mark m n e × (n ≡ j → ⊥);
}

pub formed_without : {S : Graph} (j : ℕ) → Formed S → Formed (without S j)
formed_without {S} j h = record {
  arrow_here = λ u v t. let r = h.arrow_here u v t.0 in ((r.0, t.1), (r.1, t.2));
  done_here = λ n t. (h.done_here n t.0, t.1);
  mark_here = λ m n e t. (h.mark_here m n e t.0, t.1);
  done_cases = λ n. go n (h.done_cases n) (cases_eq n j);
}
  where
    go : (n : ℕ) → S.done n ⊎ (S.done n → ⊥) → (n ≡ j) ⊎ (n ≡ j → ⊥) → (S.done n × (n ≡ j → ⊥)) ⊎ (S.done n × (n ≡ j → ⊥) → ⊥)
    go n (inl d) (inl e) = inr (λ t. t.1 e)
    go n (inl d) (inr f) = inl (d, f)
    go n (inr g) c = inr (λ t. g t.0)

-- the book forgets a done job; the log keeps it

abbrev pub bypassed : Graph → ℕ → Graph
bypassed S i = record {
  arrow = λ u v. (S.arrow u v ⊎ (S.arrow u i × S.arrow i v)) × (u ≡ i → ⊥) × (v ≡ i → ⊥);
  here = λ n. S.here n × (n ≡ i → ⊥);
  done = λ n. S.done n × (n ≡ i → ⊥);
  mark = λ m n e. S.mark m n e × (n ≡ i → ⊥);
}

pub formed_bypassed : {S : Graph} (i : ℕ) → Formed S → Formed (bypassed S i)
formed_bypassed {S} i h = record {
  arrow_here = λ u v t. let r = ends_here u v t.0 in ((r.0, t.1), (r.1, t.2));
  done_here = λ n t. (h.done_here n t.0, t.1);
  mark_here = λ m n e t. (h.mark_here m n e t.0, t.1);
  done_cases = (formed_without i h).done_cases;
}
  where
    ends_here : (u v : ℕ) → S.arrow u v ⊎ (S.arrow u i × S.arrow i v) → S.here u × S.here v
    ends_here u v (inl a) = h.arrow_here u v a
    ends_here u v (inr (a, b)) = ((h.arrow_here u i a).0, (h.arrow_here i v b).1)

-- a job that is in both graphs becomes done

abbrev pub ended : Graph → ℕ → Graph
ended S j = record { arrow = S.arrow; here = S.here; done = λ n. S.done n ⊎ (n ≡ j); mark = S.mark }

pub formed_ended : {S : Graph} (j : ℕ) → S.here j → Formed S → Formed (ended S j)
formed_ended {S} j i h = record {
  arrow_here = h.arrow_here;
  done_here = λ n t. elim t [ inl d ↦ h.done_here n d | inr e ↦ subst S.here (sym e) i ];
  mark_here = h.mark_here;
  done_cases = λ n. go n (h.done_cases n) (cases_eq n j);
}
  where
    go : (n : ℕ) → S.done n ⊎ (S.done n → ⊥) → (n ≡ j) ⊎ (n ≡ j → ⊥) → (S.done n ⊎ (n ≡ j)) ⊎ (S.done n ⊎ (n ≡ j) → ⊥)
    go n (inl d) c = inl (inl d)
    go n (inr f) (inl e) = inl (inr e)
    go n (inr f) (inr g) = inr (λ t. elim t [ inl d ↦ f d | inr e ↦ g e ])

-- a step of an active job j: it conflicts with the jobs that wrote (m = true) or touched (m = false) one of the settings E; M says what it marks

abbrev pub Conflict : Graph → Bool → (ℕ → Type 0) → ℕ → Type 0
Conflict S m E u = (e : ℕ) × E e × S.mark m u e

-- the step closes a circle: it conflicts with another job that j reaches
abbrev pub Closes : Graph → Bool → (ℕ → Type 0) → ℕ → Type 0
Closes L m E j = (x : ℕ) × (x ≡ j → ⊥) × Conflict L m E x × AnyWay L j x

abbrev pub stepped : Graph → Bool → (ℕ → Type 0) → (Bool → ℕ → Type 0) → ℕ → Graph
stepped S m E M j = record {
  arrow = λ u v. S.arrow u v ⊎ ((v ≡ j) × (u ≡ j → ⊥) × Conflict S m E u);
  here = λ n. S.here n ⊎ (n ≡ j);
  done = S.done;
  mark = λ s n e. S.mark s n e ⊎ ((n ≡ j) × M s e);
}

module _ (m : Bool) (E : ℕ → Type 0) (M : Bool → ℕ → Type 0) (j : ℕ) where
  pub formed_stepped : {S : Graph} → Formed S → Formed (stepped S m E M j)
  formed_stepped {S} h = record {
    arrow_here = λ u v t. go u v t;
    done_here = λ n t. inl (h.done_here n t);
    mark_here = λ s n e t. elim t [ inl r ↦ inl (h.mark_here s n e r) | inr r ↦ inr r.0 ];
    done_cases = h.done_cases;
  }
    where
      go : (u v : ℕ) → S.arrow u v ⊎ ((v ≡ j) × (u ≡ j → ⊥) × Conflict S m E u) → (S.here u ⊎ (u ≡ j)) × (S.here v ⊎ (v ≡ j))
      go u v (inl a) = let r = h.arrow_here u v a in (inl r.0, inl r.1)
      go u v (inr (e, f, c)) = (inl (h.mark_here m u c.0 c.2), inr e)
