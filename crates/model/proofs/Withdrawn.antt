-- What withdrawals of active jobs leave of a book.
use Rattle.std.proofs.Common.{◌≡◌, ℕ, ◌<◌, Bool, cond, not, T, eqb, ◌⊎◌, List, [], ◌∷◌, sym, refl, ap, ◌∙◌, subst, inl, inr, arith, eqb→eq}
use lib.Dec.{eqb_refl}
use Rattle.model.specs.Lists.{among, Distinct}
use Rattle.model.specs.Book.{Job, Book, holds, is_active, removed}
use Rattle.model.specs.Possible.{Proper}
use Rattle.model.specs.Laws.{Withdraws}
use Rattle.model.specs.Laws.Withdraws.{none_withdrawn, then_withdraws}
use Rattle.model.proofs.Tests.{or_e, or_l, or_r, eqb_of, T_true}
use Rattle.model.proofs.Lists.{among_in}
use Rattle.model.proofs.First.{Ascending}
use Rattle.model.proofs.Changes.{job_apart, gone_e, book_removed}
use Rattle.model.proofs.Possible.{proper_removed}

-- the book without some jobs
abbrev pub withdrawn : Book → List ℕ → Book
withdrawn b [] = b
withdrawn b (n ∷ ns) = withdrawn (removed b n) ns

-- withdrawals of different active jobs lead to it
pub withdraws : (b : Book) (ns : List ℕ) → Distinct ns → ((m : ℕ) → T (among m ns) → T (is_active b m)) → Withdraws b ns (withdrawn b ns)
withdraws b [] d act = none_withdrawn
withdraws b (n ∷ ns) d act =
    let now : T (is_active b n) = act n (or_l (eqb n n) (among n ns) (eqb_refl n)) in
    then_withdraws now (subst (λ (c : Book). Withdraws c ns (withdrawn (removed b n) ns)) (sym (ap (λ (v : Bool). cond v (removed b n) b) (T_true (is_active b n) now)))
    (withdraws (removed b n) ns d.1 (λ m t.
    subst (λ o. T (holds (λ j. not j.finished) o)) (sym (job_apart b n m (λ e. d.0 (subst (λ (x : ℕ). T (among x ns)) e t)))) (act m (or_r (eqb m n) (among m ns) t)))))

-- numbers in rising order are different
pub rising_distinct : (ns : List ℕ) → Ascending ◌<◌ ns → Distinct ns
rising_distinct [] s = tt
rising_distinct (n ∷ ns) s = (λ t. let same : n < n = s.0 n (among_in n ns t) in omega arith, rising_distinct ns s.1)

-- what they leave

pub proper_withdrawn : (b : Book) (ns : List ℕ) → Proper b → Proper (withdrawn b ns)
proper_withdrawn b [] P = P
proper_withdrawn b (n ∷ ns) P = proper_withdrawn (removed b n) ns (proper_removed b n P)

pub withdrawn_settings : (b : Book) (ns : List ℕ) → (withdrawn b ns).settings ≡ b.settings
withdrawn_settings b [] = refl
withdrawn_settings b (n ∷ ns) = withdrawn_settings (removed b n) ns

pub withdrawn_job : (b : Book) (ns : List ℕ) (m : ℕ) → (T (among m ns) → ⊥) → (withdrawn b ns).job m ≡ b.job m
withdrawn_job b [] m d = refl
withdrawn_job b (n ∷ ns) m d =
    withdrawn_job (removed b n) ns m (λ t. d (or_r (eqb m n) (among m ns) t)) ∙ job_apart b n m (λ t. d (or_l (eqb m n) (among m ns) (eqb_of m n t)))

-- what is still there was not withdrawn
pub withdrawn_left : (f : Job → Bool) (b : Book) (ns : List ℕ) (m : ℕ) → T (holds f ((withdrawn b ns).job m)) → T (among m ns) → ⊥
withdrawn_left f b [] m t i = i
withdrawn_left f b (n ∷ ns) m t i = go (or_e (eqb m n) (among m ns) i) (withdrawn_left f (removed b n) ns m t)
  where
    go : T (eqb m n) ⊎ T (among m ns) → (T (among m ns) → ⊥) → ⊥
    go (inl x) later = (gone_e f b n m (subst (λ o. T (holds f o)) (withdrawn_job (removed b n) ns m later) t)).1 (eqb→eq m n x)
    go (inr x) later = later x

pub withdrawn_less : (b : Book) (ns : List ℕ) (p q : ℕ) → T ((withdrawn b ns).arrow p q) → T (b.arrow p q)
withdrawn_less b [] p q t = t
withdrawn_less b (n ∷ ns) p q t = (((book_removed b n).arrow_is p q).1 (withdrawn_less (removed b n) ns p q t)).0

pub withdrawn_more : (b : Book) (ns : List ℕ) (p q : ℕ) → (T (among p ns) → ⊥) → (T (among q ns) → ⊥) → T (b.arrow p q) → T ((withdrawn b ns).arrow p q)
withdrawn_more b [] p q d e t = t
withdrawn_more b (n ∷ ns) p q d e t =
    withdrawn_more (removed b n) ns p q (λ x. d (or_r (eqb p n) (among p ns) x)) (λ x. e (or_r (eqb q n) (among q ns) x))
    (((book_removed b n).arrow_is p q).0 (t, (λ x. d (or_l (eqb p n) (among p ns) (eqb_of p n x))), (λ x. e (or_l (eqb q n) (among q ns) (eqb_of q n x)))))
