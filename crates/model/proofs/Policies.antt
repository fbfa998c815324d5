-- The six policies are lawful, and so is every policy that acts as a lawful one.
use Rattle.std.proofs.Common.{◌≡◌, ℕ, zero, suc, ◌+◌, ◌<◌, Bool, true, false, cond, not, ◌&&◌, ◌||◌, T, eqb, leb, ◌⊎◌, Some, None, Ok, Err, Option, Result, sym, refl, ap, ◌∙◌, subst, ap₂, inl, inr, arith, le→leb, eqb→eq, T_not}
use Rattle.std.proofs.lemmas.Bool.{false≢true, eq-eqb, ne_eqb, le-leb, lt-leb, cond-true, cond-false}
use Rattle.graph.specs.Walk.Walk.{one}
use Rattle.model.specs.declared.refusals.Refusal.{Refusal}
use Rattle.model.specs.declared.refusals.Refusal.TheVariants.{SpacingZero}
use Rattle.model.specs.Lists.{some_of, first_of, among, up_to, below}
use Rattle.model.specs.Book.{Book, is_finished, read_by, written_by, touched_by, active, finished, path, tight_path}
use Rattle.model.specs.Forgetting.{as_strongly, has_stand_in, may_forget}
use Rattle.model.specs.Possible.{Proper, Possible}
use Rattle.model.specs.Policies.{Policy, Lawful, ActsAs, uncounted, never, unreached, clear, overwritten, stale, thorough_one, pile, Spacing, spacing, passes_on, spaced, count_after, EverySpacedPolicyIsExact}
use Rattle.model.proofs.MayForget.{may_finished, may_forget_i}
use Rattle.model.proofs.Tests.{and_l, and_r, and_i, or_e, or_l, T_true, apart}
use Rattle.model.proofs.Lists.{some_i, some_e, each_e, filter_e, among_in, in_among}
use Rattle.model.proofs.Walks.{way_map, way_join}
use Rattle.model.proofs.Walks.Way.{last}
use Rattle.model.proofs.BookGraph.{finished_held, listed, tight_path_in, tight_path_out, path_in}
use Rattle.model.proofs.First.{First, first_says}

not_some : {Q : Type 0} (o : Option ℕ) (n : ℕ) → o ≡ None → o ≡ Some n → Q
not_some o n e f = let z : ◌≡◌ {A = ℕ} 0 1 = cc in absurd (omega arith)

-- the first finished job of a book that passes a test

module _ (b : Book) (f : ℕ → Bool) where
  first_finished : (n : ℕ) → first_of f (finished b) ≡ Some n → T (is_finished b n) × T (f n)
  first_finished n e =
      let r = subst (First f (finished b)) e (first_says f (finished b)) in
      ((filter_e (is_finished b) (up_to b.last) n (in_among r.0)).1, r.1)

  no_finished : Proper b → first_of f (finished b) ≡ None → (n : ℕ) → T (is_finished b n) → T (f n) → ⊥
  no_finished P e n fin t =
      subst (First f (finished b)) e (first_says f (finished b)) n (among_in n (finished b) (listed b P (is_finished b) n (finished_held b n fin) fin)) t

-- policies that count nothing

-- one that is not thorough need only answer jobs that may be forgotten
modest : (answer : Book → Option ℕ) → ((b : Book) (n : ℕ) → Possible b → answer b ≡ Some n → T (may_forget b n)) → Lawful (uncounted answer false)
modest answer may = record { may_be = λ s b n h e. may b n h e; leaves_none = λ s b h t. absurd t; unchanged = λ s b h. refl }

pub never_lawful : Lawful never
never_lawful = modest (λ b. None) (λ b n h e. not_some None n refl e)

unreached_may : (b : Book) (n : ℕ) → Proper b → T (is_finished b n) → T (unreached b n) → T (may_forget b n)
unreached_may b n P fin t = may_forget_i b n fin (λ j m reached. absurd (T_not (some_of (λ i. path b i n) (active b)) t
    (some_i (λ i. path b i n) (active b) j m (path_in b P (way_map (λ u v a. a) (λ k f. finished_held b k f) (tight_path_out b P reached))))))

pub clear_lawful : Lawful clear
clear_lawful = modest _ (λ b n h e. let r = first_finished b (unreached b) n e in unreached_may b n h.proper r.0 r.1)

overwritten_may : (b : Book) (n : ℕ) → Proper b → T (is_finished b n) → T (overwritten b n) → T (may_forget b n)
overwritten_may b n P fin t = may_forget_i b n fin (λ j m reached e i u. stand_in j reached e (found e i u))
  where
    found : (e : ℕ) → T (among e (below b.settings)) → T (touched_by b n e) → (k : ℕ) × T (among k (finished b)) × T (b.arrow n k && written_by b k e)
    found e i u = elim (or_e (not (touched_by b n e)) (some_of (λ k. b.arrow n k && written_by b k e) (finished b)) (each_e (λ d. not (touched_by b n d) || some_of (λ k. b.arrow n k && written_by b k d) (finished b)) (below b.settings) e t i)) [
      | inl d ↦ absurd (T_not (touched_by b n e) d u)
      | inr w ↦ some_e (λ k. b.arrow n k && written_by b k e) (finished b) w
    ]

    stand_in : (j : ℕ) → T (tight_path b j n) → (e : ℕ) → (k : ℕ) × T (among k (finished b)) × T (b.arrow n k && written_by b k e) → T (has_stand_in b n j e)
    stand_in j reached e (k, m, w) =
        let a : T (b.arrow n k) = and_l (b.arrow n k) (written_by b k e) w in
        let other : k ≡ n → ⊥ = λ p. P.acyclic n (one (subst (λ z. T (b.arrow n z)) p a)) in
        let further : T (tight_path b j k) = tight_path_in b P (way_join (tight_path_out b P reached) fin (last a)) in
        let wrote : T (as_strongly b k n e) = or_l (written_by b k e) (not (written_by b n e) && read_by b k e) (and_r (b.arrow n k) (written_by b k e) w) in
        some_i (λ k. not (eqb k n) && (tight_path b j k && as_strongly b k n e)) (finished b) k m
        (and_i (not (eqb k n)) (tight_path b j k && as_strongly b k n e) (apart k n other) (and_i (tight_path b j k) (as_strongly b k n e) further wrote))

pub stale_lawful : Lawful stale
stale_lawful = modest _ (λ b n h e. let r = first_finished b (overwritten b) n e in overwritten_may b n h.proper r.0 r.1)

pub thorough_lawful : Lawful thorough_one
thorough_lawful = record {
  may_be = λ s b n h e. (first_finished b (may_forget b) n e).1;
  leaves_none = λ s b h t e n f. no_finished b (may_forget b) h.proper e n (may_finished b n f) f;
  unchanged = λ s b h. refl;
}

-- two policies

pub pile_lawful : {S R : Type 0} (p : Policy S) (q : Policy R) → Lawful p → Lawful q → Lawful (pile p q)
pile_lawful {S} {R} p q P Q = record {
  may_be = λ s b n h e. may s b n h (p.answer s.0 b) refl e;
  leaves_none = λ s b h t e. none s b h (or_e (p.thorough s.0) (q.thorough s.1) t) (p.answer s.0 b) refl e;
  unchanged = λ s b h. ap₂ ◌||◌ (P.unchanged s.0 b h) (second s b h (p.answer s.0 b));
}
  where
    may : (s : S × R) (b : Book) (n : ℕ) → Possible b → (o : Option ℕ) → p.answer s.0 b ≡ o
        → ◌≡◌ {A = Option ℕ} (elim o [ Some m ↦ Some m | None ↦ q.answer s.1 b ]) (Some n) → T (may_forget b n)
    may s b n h (Some m) e f = P.may_be s.0 b n h (e ∙ f)
    may s b n h None e f = Q.may_be s.1 b n h f

    none : (s : S × R) (b : Book) → Possible b → T (p.thorough s.0) ⊎ T (q.thorough s.1) → (o : Option ℕ) → p.answer s.0 b ≡ o
        → ◌≡◌ {A = Option ℕ} (elim o [ Some m ↦ Some m | None ↦ q.answer s.1 b ]) None → (n : ℕ) → T (may_forget b n) → ⊥
    none s b h t (Some m) e f = not_some (Some m) m f refl
    none s b h (inl t) None e f = P.leaves_none s.0 b h t e
    none s b h (inr t) None e f = Q.leaves_none s.1 b h t f

    second : (s : S × R) (b : Book) → Possible b → (o : Option ℕ) → q.thorough (elim o [ Some m ↦ s.1 | None ↦ q.next s.1 b ]) ≡ q.thorough s.1
    second s b h (Some m) = refl
    second s b h None = Q.unchanged s.1 b h

-- the last of every so many questions

pub spaced_lawful : {S : Type 0} (p : Policy S) → Lawful p → Lawful (spaced p)
spaced_lawful {S} p P = record {
  may_be = λ c b n h e. may c b n h (passes_on c) e;
  leaves_none = λ c b h t e. P.leaves_none c.under b h (and_r (eqb c.every 1) (p.thorough c.under) t) (sym (passed c b (and_l (eqb c.every 1) (p.thorough c.under) t)) ∙ e);
  unchanged = λ c b h. same c b h (passes_on c);
}
  where
    may : (c : Spacing S) (b : Book) (n : ℕ) → Possible b → (v : Bool) → cond v (p.answer c.under b) None ≡ Some n → T (may_forget b n)
    may c b n h true e = P.may_be c.under b n h e
    may c b n h false e = not_some None n refl e

    passed : (c : Spacing S) (b : Book) → T (eqb c.every 1) → (spaced p).answer c b ≡ p.answer c.under b
    passed c b t =
        let all : c.every ≡ 1 = eqb→eq c.every 1 t in
        ap (λ (v : Bool). cond v (p.answer c.under b) None) (T_true (passes_on c) (le→leb c.every (c.kept + 1) (omega arith)))

    same : (c : Spacing S) (b : Book) → Possible b → (v : Bool)
        → (spaced p).thorough (cond v (record { every = c.every; kept = 0; under = p.next c.under b }) (record { every = c.every; kept = c.kept + 1; under = c.under })) ≡ (spaced p).thorough c
    same c b h true = ap (λ (x : Bool). eqb c.every 1 && x) (P.unchanged c.under b h)
    same c b h false = refl

module _ {S : Type 0} (p : Policy S) (k : ℕ) (s : S) where
  -- a spaced policy that has kept i questions
  abbrev having_kept : ℕ → Spacing S
  having_kept i = record { every = k; kept = i; under = s }

  made : (c : Spacing S) → spacing k s ≡ Ok c → (0 < k) × (c ≡ having_kept 0)
  made c e = go (eqb k 0) (λ z. eq-eqb k 0 z) e
    where
      go : (v : Bool) → (k ≡ 0 → v ≡ true) → ◌≡◌ {A = Result (Spacing S) Refusal} (cond v (Err SpacingZero) (Ok (having_kept 0))) (Ok c)
          → (0 < k) × (c ≡ having_kept 0)
      go true f q = let z : ◌≡◌ {A = ℕ} 0 1 = cc in absurd (omega arith)
      go false f q = (above (λ z. false≢true (f z)), cc)
        where
          above : (k ≡ 0 → ⊥) → 0 < k
          above n = omega arith

  module _ (c : Spacing S) (books : ℕ → Book) (fresh : c ≡ having_kept 0) where
    kept_so_far : (i : ℕ) → i < k → count_after (spaced p) c books i ≡ having_kept i
    kept_so_far zero l = fresh
    kept_so_far (suc i) l =
        let one_more : i + 1 ≡ suc i = omega arith in
        ap (λ (d : Spacing S). (spaced p).next d (books i)) (kept_so_far i (omega arith))
        ∙ (cond-false (leb k (i + 1)) _ _ (lt-leb k (i + 1) (omega arith)) ∙ ap having_kept one_more)

    answer_at : (i : ℕ) → i < k → (spaced p).answer (count_after (spaced p) c books i) (books i) ≡ cond (leb k (i + 1)) (p.answer s (books i)) None
    answer_at i l = ap (λ (d : Spacing S). (spaced p).answer d (books i)) (kept_so_far i l)

    next_at : (i : ℕ) → i + 1 ≡ k → count_after (spaced p) c books k ≡ record { every = k; kept = 0; under = p.next s (books i) }
    next_at i e =
        let last_one : k ≡ suc i = omega arith in
        ap (count_after (spaced p) c books) last_one
        ∙ (ap (λ (d : Spacing S). (spaced p).next d (books i)) (kept_so_far i (omega arith)) ∙ cond-true (leb k (i + 1)) _ _ (le-leb k (i + 1) (omega arith)))

pub spaced_exact : {S : Type 0} → EverySpacedPolicyIsExact S
spaced_exact p k s c e books =
    let m = made p k s c e in
    record {
      keeps = λ i l. answer_at p k s c books m.1 i (omega arith) ∙ cond-false (leb k (i + 1)) _ _ (lt-leb k (i + 1) l);
      passes = λ i l. answer_at p k s c books m.1 i (omega arith) ∙ cond-true (leb k (i + 1)) _ _ (le-leb k (i + 1) (omega arith));
      starts_again = λ i l. cond-false (eqb k 0) _ _ (ne_eqb k 0 (λ z. omega arith)) ∙ ap Ok (sym (next_at p k s c books m.1 i l));
    }

-- a policy that does what another does

pub acting_lawful : {C S : Type 0} (seen : C → S) (p : Policy S) (q : Policy C) → Lawful p → ActsAs seen p q → Lawful q
acting_lawful seen p q P A = record {
  may_be = λ c b n h e. P.may_be (seen c) b n h (sym (A.answers c b h) ∙ e);
  leaves_none = λ c b h t e. P.leaves_none (seen c) b h (subst T (A.as_thorough c) t) (sym (A.answers c b h) ∙ e);
  unchanged = λ c b h. A.as_thorough (q.next c b) ∙ (ap p.thorough (A.goes_on c b h) ∙ (P.unchanged (seen c) b h ∙ sym (A.as_thorough c)));
}
