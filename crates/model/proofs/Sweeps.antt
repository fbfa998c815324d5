-- What a sweep leaves of a book, and what a sweep does under any policy.
use Rattle.std.proofs.Common.{◌≡◌, ℕ, zero, suc, ◌+◌, ◌<◌, ◌≤◌, Bool, true, T, eqb, List, [], ◌∷◌, length, Some, None, filter, Option, sym, refl, ◌∙◌, subst, inl, inr, arith, eqb→eq}
use Rattle.model.specs.Lists.{among, up_to}
use Rattle.model.specs.Book.{Job, Book, places, holds, is_held, held, jobs_that, forgotten}
use Rattle.model.specs.Forgetting.{may_forget}
use Rattle.model.specs.Possible.{Possible}
use Rattle.model.specs.Policies.{Policy, Lawful}
use Rattle.model.specs.Sweeps.{Sweeps, Swept, sweep_from, sweep_forgets, sweep_next, sweep_book, Asked, SweepExact}
use Rattle.model.specs.Sweeps.Sweeps.{none_more, then_more}
use Rattle.model.specs.Sweeps.Asked.{none_named, one_named}
use Rattle.model.proofs.Tests.{or_e, or_l, or_r, eqb_of, filter_filter}
use Rattle.model.proofs.Lists.{member_filter, filter_lt, among_in, among_up_to}
use Rattle.model.proofs.MayForget.{may_finished}
use Rattle.model.proofs.BookGraph.{finished_held}
use Rattle.model.proofs.Changes.{job_apart, gone_e}
use Rattle.model.proofs.Possible.{fewer, possible_forgotten}

-- what a sweep leaves as it was

pub swept_settings : {b c : Book} {ns : List ℕ} → Sweeps b ns c → c.settings ≡ b.settings
swept_settings none_more = refl
swept_settings (then_more f s) = swept_settings s

pub swept_limit : {b c : Book} {ns : List ℕ} → Sweeps b ns c → c.limit ≡ b.limit
swept_limit none_more = refl
swept_limit (then_more f s) = swept_limit s

pub swept_last : {b c : Book} {ns : List ℕ} → Sweeps b ns c → c.last ≡ b.last
swept_last none_more = refl
swept_last (then_more f s) = swept_last s

pub swept_job : {b c : Book} {ns : List ℕ} → Sweeps b ns c → (m : ℕ) → (T (among m ns) → ⊥) → c.job m ≡ b.job m
swept_job none_more m d = refl
swept_job (then_more {b = b} {n = n} {ns = ns} f s) m d =
    swept_job s m (λ x. d (or_r (eqb m n) (among m ns) x)) ∙ job_apart b n m (λ x. d (or_l (eqb m n) (among m ns) (eqb_of m n x)))

-- what is left was there, and was not forgotten
pub swept_left : {b c : Book} {ns : List ℕ} → Sweeps b ns c → (f : Job → Bool) (m : ℕ) → T (holds f (c.job m)) → T (holds f (b.job m)) × (T (among m ns) → ⊥)
swept_left none_more f m t = (t, λ x. x)
swept_left (then_more {b = b} {n = n} {ns = ns} g s) f m t =
    let r = swept_left s f m t in
    let old = gone_e f b n m r.0 in
    (old.0, λ x. elim (or_e (eqb m n) (among m ns) x) [ inl e ↦ old.1 (eqb→eq m n e) | inr y ↦ r.1 y ])

pub swept_possible : {b c : Book} {ns : List ℕ} → Sweeps b ns c → Possible b → Possible c
swept_possible none_more h = h
swept_possible (then_more {b = b} {n = n} f s) h = swept_possible s (possible_forgotten b n h)

-- how many jobs it leaves

fewer_by_one : (f g : ℕ → Bool) → ((m : ℕ) → T (g m) → T (f m)) → (n : ℕ) → T (f n) → (T (g n) → ⊥) → (xs : List ℕ) → T (among n xs)
    → length (filter g xs) < length (filter f xs)
fewer_by_one f g less n is gone xs t = subst (λ ys. length ys < length (filter f xs)) (filter_filter g f less xs) (filter_lt g (member_filter f (among_in n xs t) is) gone)

forgotten_fewer : (b : Book) → Possible b → (n : ℕ) → T (may_forget b n) → length (held (forgotten b n)) < length (held b)
forgotten_fewer b h n t =
    let is : T (is_held b n) = finished_held b n (may_finished b n t) in
    let r = h.proper.ranged n is in
    fewer_by_one (is_held b) (is_held (forgotten b n)) (λ m t. (gone_e (λ x. true) b n m t).0) n is (λ t. (gone_e (λ x. true) b n n t).1 refl) (up_to b.last) (among_up_to b.last n r.0 r.1)

pub swept_fewer : {b c : Book} {ns : List ℕ} → Sweeps b ns c → (f : Job → Bool) → length (jobs_that f c) ≤ length (jobs_that f b)
swept_fewer {b} {c} s f = fewer f b c (swept_last s) (λ n t. (swept_left s f n t).0)

-- each job forgotten is one job less
swept_count : {b c : Book} {ns : List ℕ} → Possible b → Sweeps b ns c → length ns + length (held c) ≤ length (held b)
swept_count h none_more = omega arith
swept_count h (then_more {b = b} {c = c} {n = n} {ns = ns} f s) =
    let now : length (held (forgotten b n)) < length (held b) = forgotten_fewer b h n f in
    let rest : length ns + length (held c) ≤ length (held (forgotten b n)) = swept_count (possible_forgotten b n h) s in
    omega arith

-- a sweep that leaves as many jobs as there were forgot none
pub swept_none : {b c : Book} {ns : List ℕ} → Possible b → Sweeps b ns c → length (held c) ≡ length (held b) → (ns ≡ []) × (c ≡ b)
swept_none h none_more e = (refl, refl)
swept_none {b} {c} h (then_more f s) e = let all = swept_count h (then_more f s) in absurd (omega arith)

-- sweeps under a policy

module _ {S : Type 0} (p : Policy S) (lawful : Lawful p) where
  -- with more questions than jobs, the last is answered none
  asked_from : (fuel : ℕ) (s : S) (b : Book) → Possible b → length (held b) < fuel
      → Asked p s b (sweep_from p fuel s b).0 (sweep_from p fuel s b).1 (sweep_from p fuel s b).2
  unfolding sweep_from
  asked_from zero s b h l = absurd (omega arith)
  asked_from (suc fuel) s b h l = go (p.answer s b) refl (λ n. asked_from fuel (p.next s b) (forgotten b n))
    where
      Ends : List ℕ × S × Book → Type 0
      Ends r = Asked p s b r.0 r.1 r.2

      go : (o : Option ℕ) → p.answer s b ≡ o
          → ((n : ℕ) → Possible (forgotten b n) → length (held (forgotten b n)) < fuel
          → Asked p (p.next s b) (forgotten b n) (sweep_from p fuel (p.next s b) (forgotten b n)).0 (sweep_from p fuel (p.next s b) (forgotten b n)).1 (sweep_from p fuel (p.next s b) (forgotten b n)).2)
          → Ends (elim o [
            | None ↦ ([], p.next s b, b)
            | Some n ↦ (n ∷ (sweep_from p fuel (p.next s b) (forgotten b n)).0, (sweep_from p fuel (p.next s b) (forgotten b n)).1, (sweep_from p fuel (p.next s b) (forgotten b n)).2)
          ])
      go None e ih = none_named h e
      go (Some n) e ih =
          let less : length (held (forgotten b n)) < length (held b) = forgotten_fewer b h n (lawful.may_be s b n h e) in
          one_named h e (ih n (possible_forgotten b n h) (omega arith))

  asked : (s : S) (b : Book) → Possible b → Asked p s b (sweep_forgets p s b) (sweep_next p s b) (sweep_book p s b)
  asked s b h = asked_from (places + 1) s b h (let few = h.held_fit in omega arith)

  -- what was asked until none was answered is a sweep
  asked_swept : {s t : S} {b c : Book} {ns : List ℕ} → Asked p s b ns t c → Swept (p.thorough s) b ns c
  asked_swept (none_named {s = s} {b = b} h e) = (none_more, λ t. lawful.leaves_none s b h t e)
  asked_swept (one_named {s = s} {b = b} {n = n} h e r) =
      let w = asked_swept r in
      (then_more (lawful.may_be s b n h e) w.0, λ t. w.1 (subst T (sym (lawful.unchanged s b h)) t))

  -- there is one way to ask
  abbrev SameEnd : List ℕ → S → Book → List ℕ → S → Book → Type 0
  SameEnd ns t c ns' t' c' = (ns ≡ ns') × (t ≡ t') × (c ≡ c')

  asked_once : {s t t' : S} {b c c' : Book} {ns ns' : List ℕ} → Asked p s b ns t c → Asked p s b ns' t' c' → SameEnd ns t c ns' t' c'
  asked_once (none_named h e) (none_named h' e') = (refl, refl, refl)
  asked_once (none_named h e) (one_named h' e' r') = let z : ◌≡◌ {A = ℕ} 0 1 = cc in absurd (omega arith)
  asked_once (one_named h e r) (none_named h' e') = let z : ◌≡◌ {A = ℕ} 0 1 = cc in absurd (omega arith)
  asked_once {s} {t} {t'} {b} {c} {c'} (one_named {n = n} {ns = ns} h e r) (one_named {n = n'} {ns = ns'} h' e' r') =
      let same : n ≡ n' = cc in
      let rest = asked_once r (subst (λ (m : ℕ). Asked p (p.next s b) (forgotten b m) ns' t' c') (sym same) r') in
      (cc, rest.1, rest.2)

  pub sweep_exact : (s : S) (b : Book) → Possible b → SweepExact p s b
  sweep_exact s b h =
      let all = asked s b h in
      let swept = asked_swept all in
      record {
        asked = all;
        swept = swept;
        few = let all = swept_count h swept.0 in omega arith;
        possible = swept_possible swept.0 h;
        stops = λ e. asked_once all (none_named h e);
        goes_on = λ n e. asked_once all (one_named h e (asked (p.next s b) (forgotten b n) (possible_forgotten b n h)));
      }
