-- What an iterator over rising numbers has left, past one of them.
use Rattle.std.proofs.Common.{◌≡◌, ℕ, ◌<◌, ◌≤◌, Bool, true, false, cond, T, ltb, List, [], ◌∷◌, filter, Some, None, sym, refl, ap, ◌∙◌, subst, arith, ltb→lt, lt→ltb}
use Rattle.std.specs.Iterator.{AlwaysYields, YieldsFirst}
use Rattle.std.proofs.lemmas.Bool.{le-ltb, ltb-false}
use Rattle.std.proofs.lemmas.Iterator.{YieldsList}
use Rattle.model.specs.Lists.{first_of, up_to}
use Rattle.model.specs.Book as Model
use Rattle.model.proofs.Tests.{false_T, filter_yes, filter_no}
use Rattle.model.proofs.Lists.{In, in_among, filter_e}
use Rattle.model.proofs.Lists.In.{here, there}
use Rattle.model.proofs.First.{First, first_says, Ascending}
use Rattle.book.specs.declared.books.jobs.Jobs.{Jobs}
use Rattle.book.specs.declared.books.jobs.Among.{Among}
use Rattle.book.specs.declared.books.jobs.Among.TheVariants.{Held, Finished}
use Rattle.book.specs.Listed.{numbers, listed, left}
use Rattle.book.specs.State.{model}
use Rattle.book.proofs.Rising.{rising, up_to_from_one}

filter_all : (f : ℕ → Bool) (ns : List ℕ) → ((m : ℕ) → In m ns → T (f m)) → filter f ns ≡ ns
filter_all f [] all = refl
filter_all f (n ∷ ns) all = filter_yes f n ns (all n here) ∙ ap (λ (ms : List ℕ). n ∷ ms) (filter_all f ns (λ m i. all m (there i)))

none_left : (f : ℕ → Bool) (ns : List ℕ) → None ≡ first_of f ns → filter f ns ≡ []
none_left f [] e = refl
none_left f (n ∷ ns) e = go (f n) refl e (none_left f ns)
  where
    go : (v : Bool) → f n ≡ v → None ≡ cond v (Some n) (first_of f ns) → (None ≡ first_of f ns → filter f ns ≡ []) → filter f (n ∷ ns) ≡ []
    go true q p more = let z : ◌≡◌ {A = ℕ} 0 1 = cc in absurd (omega arith)
    go false q p more = filter_no f n ns (false_T (f n) q) ∙ more p

some_left : (a : ℕ) (ns : List ℕ) → Ascending ◌<◌ ns → (n : ℕ) → Some n ≡ first_of (ltb a) ns → filter (ltb a) ns ≡ n ∷ filter (ltb n) ns
some_left a [] up n e = let z : ◌≡◌ {A = ℕ} 0 1 = cc in absurd (omega arith)
some_left a (m ∷ ns) up n e = go (ltb a m) refl e (some_left a ns up.1 n)
  where
    go : (v : Bool) → ltb a m ≡ v → Some n ≡ cond v (Some m) (first_of (ltb a) ns) → (Some n ≡ first_of (ltb a) ns → filter (ltb a) ns ≡ n ∷ filter (ltb n) ns)
        → filter (ltb a) (m ∷ ns) ≡ n ∷ filter (ltb n) (m ∷ ns)
    go true q p more =
        let same : n ≡ m = cc in
        let low : a < m = ltb→lt a m (subst T (sym q) tt) in
        let rest = filter_all (ltb a) ns (λ k i. let far = up.0 k i in lt→ltb a k (omega arith)) in
        let past = filter_no (ltb m) m ns (false_T (ltb m m) (le-ltb m m (omega arith))) ∙ filter_all (ltb m) ns (λ k i. lt→ltb m k (up.0 k i)) in
        filter_yes (ltb a) m ns (subst T (sym q) tt) ∙ ap (λ (ms : List ℕ). m ∷ ms) (rest ∙ sym past) ∙ ap (λ (k : ℕ). k ∷ filter (ltb k) (m ∷ ns)) (sym same)
    go false q p more =
        let low : a < n = ltb→lt a n (subst (First (ltb a) ns) (sym p) (first_says (ltb a) ns)).1 in
        let high : m ≤ a = ltb-false a m q in
        filter_no (ltb a) m ns (false_T (ltb a m) q) ∙ more p ∙ ap (λ (ms : List ℕ). n ∷ ms) (sym (filter_no (ltb n) m ns (false_T (ltb n m) (le-ltb n m (omega arith)))))

module _ (s : Jobs) where
  listed_rise : Ascending ◌<◌ (listed s)
  listed_rise = go s.among
    where
      go : (v : Among) → Ascending ◌<◌ (numbers v (model s.book.now))
      go Held = rising (λ j. true) (model s.book.now)
      go Finished = rising (λ j. j.finished) (model s.book.now)

  pub no_more : None ≡ first_of (ltb s.after) (listed s) → left s ≡ []
  no_more e = none_left (ltb s.after) (listed s) e

  pub one_more : (n : ℕ) → Some n ≡ first_of (ltb s.after) (listed s) → left s ≡ n ∷ filter (ltb n) (listed s)
  one_more n e = some_left s.after (listed s) listed_rise n e

-- at the start all are left
pub all_left : (b : Model.Book) (g : Model.Job → Bool) → filter (ltb 0) (Model.jobs_that g b) ≡ Model.jobs_that g b
all_left b g = filter_all (ltb 0) (Model.jobs_that g b) (λ m i. lt→ltb 0 m (up_to_from_one b.last m (filter_e (λ n. Model.holds g (b.job n)) (up_to b.last) m (in_among i)).0))

-- the items of such an iterator, in calls after one another

gives : (ns : List ℕ) (s : Jobs) → left s ≡ ns → AlwaysYields (YieldsFirst left) (λ n. n) s ns
gives [] s e = λ x j first. let z : ◌≡◌ {A = ℕ} 0 1 = cc in absurd (omega arith)
gives (n ∷ ns) s e = (λ j none. let h = none.0 in let z : ◌≡◌ {A = ℕ} 0 1 = cc in absurd (omega arith), λ x j first. (cc, gives ns j (cc)))

pub YieldsList-from_left : {s : Jobs} (ns : List ℕ) → left s ≡ ns → YieldsList (YieldsFirst left) (λ n. n) s ns
YieldsList-from_left {s} ns e = record { runs = gives ns s e }
