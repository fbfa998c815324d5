-- Paths between places are paths between the numbers that they hold.
use Rattle.std.proofs.Common.{◌≡◌, ℕ, Bool, true, not, ◌&&◌, T, eqb, Some, Option, sym, refl, ap, ◌∙◌, subst, ap₂}
use Rattle.graph.specs.Walk.{Walk, anywhere, Answers}
use Rattle.graph.specs.Walk.Walk.{one, more}
use Rattle.graph.specs.declared.place_set.PlaceSet.{PlaceSet}
use Rattle.graph.specs.Members.{has, Shared}
use Rattle.model.specs.Lists.{some_of, among, up_to}
use Rattle.model.specs.Book as Model
use Rattle.model.proofs.Tests.{and_i, and_l, and_r}
use Rattle.model.proofs.Lists.{some_i, some_e, filter_e, filter_i, among_up_to}
use Rattle.model.proofs.BookGraph.{paths_exact}
use Rattle.table.specs.declared.jobs.Job.{Job}
use Rattle.table.specs.Slots.{slot, bit, passes, taken, numbered}
use Rattle.table.proofs.Touches.{same_answer}
use Rattle.book.specs.declared.books.Book.{Book}
use Rattle.book.specs.State.{model}
use Rattle.book.proofs.Founds.{passing_job, numbered_job}
use Rattle.book.proofs.Shows.{Shows, view_shows}
use Rattle.book.proofs.Lifts.{Neat, same_test}
use Rattle.book.proofs.Moves.{lone, neat}
use Rattle.book.proofs.Wholes.{possible}

module _ (slots : ℕ → Option Job) (bits : ℕ → ℕ → Bool) (b : Model.Book) (S : Shows slots bits b) (N : Neat slots bits) (inner inner' : ℕ → Bool) where
  to_numbers : ((l : ℕ) (z : Job) → slots l ≡ Some z → T (inner l) → T (inner' z.number))
      → {i k : ℕ} → Walk bits inner i k → (x y : Job) → slots i ≡ Some x → slots k ≡ Some y → Walk b.arrow inner' x.number y.number
  to_numbers f (one {p = p} {q = q} a) x y e g = one (subst T (sym (S.between p q x y e g)) a)
  to_numbers f (more {p = p} {r = r} {q = q} a t w) x y e g =
      let z = passing_job (λ j. true) (slots r) (N p r a).1 in
      more (subst T (sym (S.between p r x z.0 e z.1)) a) (f r z.0 z.1 t) (to_numbers f w z.0 y z.1 g)

  to_places : ((l : ℕ) (z : Job) → slots l ≡ Some z → T (inner' z.number) → T (inner l))
      → {p q : ℕ} → Walk b.arrow inner' p q → (i k : ℕ) (x y : Job) → slots i ≡ Some x → slots k ≡ Some y → x.number ≡ p → y.number ≡ q → Walk bits inner i k
  to_places f (one a) i k x y e g m n = one (subst T (ap₂ b.arrow (sym m) (sym n) ∙ S.between i k x y e g) a)
  to_places f (more {p = p} {r = r} a t w) i k x y e g m n =
      let z = S.placed r (S.ends p r a).1 in
      more (subst T (ap₂ b.arrow (sym m) (sym z.3) ∙ S.between i z.0 x z.1 e z.2) a)
      (f z.0 z.1 z.2 (subst (λ n. T (inner' n)) (sym z.3) t))
      (to_places f w z.0 k z.1 y z.2 g z.3 n)

-- a book, its places and its numbers

module _ (b : Book) where
  pub shows : Shows (slot b.table) (bit b.table) (model b)
  shows = view_shows b.settings b.limit b.last b.table b.apart

  -- a test of jobs is the same by place and by number
  pub at_job : (f : Model.Job → Bool) (i : ℕ) (x : Job) → slot b.table i ≡ Some x → Model.holds f ((model b).job x.number) ≡ f (Rattle.book.specs.View.content x)
  at_job f i x e = ap (Model.holds f) (shows.here i x e)

  pub held_here : (i : ℕ) (x : Job) → slot b.table i ≡ Some x → T (Model.is_held (model b) x.number)
  held_here i x e = subst T (sym (at_job (λ j. true) i x e)) tt

  -- a job that passes a test is listed
  pub listed : (f : Model.Job → Bool) (n : ℕ) → T (Model.is_held (model b) n) → T (Model.holds f ((model b).job n)) → T (among n (Model.jobs_that f (model b)))
  listed f n h t = let r = (possible b).proper.ranged n h in filter_i (λ m. Model.holds f ((model b).job m)) (up_to b.last) n (among_up_to b.last n r.0 r.1) t

  pub unlisted : (f : Model.Job → Bool) (n : ℕ) → T (among n (Model.jobs_that f (model b))) → T (Model.holds f ((model b).job n))
  unlisted f n t = (filter_e (λ m. Model.holds f ((model b).job m)) (up_to b.last) n t).1

  module _ (i k : ℕ) (x y : Job) (e : slot b.table i ≡ Some x) (f : slot b.table k ≡ Some y) where
    pub walk_path : Walk (bit b.table) anywhere i k → T (Model.path (model b) x.number y.number)
    walk_path w = (paths_exact (model b) (possible b) x.number y.number).any.1
        (to_numbers (slot b.table) (bit b.table) (model b) shows (neat b.table b.clean) anywhere anywhere (λ l z g t. t) w x y e f)

    pub path_walk : T (Model.path (model b) x.number y.number) → Walk (bit b.table) anywhere i k
    path_walk t = to_places (slot b.table) (bit b.table) (model b) shows (neat b.table b.clean) anywhere anywhere (λ l z g t. t)
        ((paths_exact (model b) (possible b) x.number y.number).any.0 t) i k x y e f refl refl

    module _ (done : PlaceSet) (is : (p : ℕ) → has done p ≡ passes (λ j. j.finished) (slot b.table p)) where
      done_is : (l : ℕ) (z : Job) → slot b.table l ≡ Some z → has done l ≡ Model.is_finished (model b) z.number
      done_is l z g = is l ∙ ap (passes (λ j. j.finished)) g ∙ sym (at_job (λ j. j.finished) l z g)

      pub walk_tight : Walk (bit b.table) (has done) i k → T (Model.tight_path (model b) x.number y.number)
      walk_tight w = (paths_exact (model b) (possible b) x.number y.number).tight.1
          (to_numbers (slot b.table) (bit b.table) (model b) shows (neat b.table b.clean) (has done) (Model.is_finished (model b)) (λ l z g t. subst T (done_is l z g) t) w x y e f)

      pub tight_walk : T (Model.tight_path (model b) x.number y.number) → Walk (bit b.table) (has done) i k
      tight_walk t = to_places (slot b.table) (bit b.table) (model b) shows (neat b.table b.clean) (has done) (Model.is_finished (model b)) (λ l z g t. subst T (sym (done_is l z g)) t)
          ((paths_exact (model b) (possible b) x.number y.number).tight.0 t) i k x y e f refl refl

  -- the test of a closing step by the job n at the place k: K says by numbers, and clash by places, who would get an arrow to it
  module _ (n k : ℕ) (at : T (numbered n (slot b.table k))) (K clash : ℕ → Bool)
      (like : (l : ℕ) (z : Job) → slot b.table l ≡ Some z → K z.number ≡ clash l)
      (there : (l : ℕ) → T (clash l) → T (taken (slot b.table l)))
      (reach from : PlaceSet) (r : Bool) (shared : Shared reach from r)
      (ans : (to : ℕ) → Answers (bit b.table) anywhere k to (has reach to))
      (is : (i : ℕ) → has from i ≡ (not (eqb i k) && clash i)) where
    place : (j : Job) × (slot b.table k ≡ Some j) × (j.number ≡ n)
    place = numbered_job n (slot b.table k) at

    test : (l : ℕ) (z : Job) → slot b.table l ≡ Some z → eqb z.number n ≡ eqb l k
    test = same_test (slot b.table) (slot b.table) (bit b.table) (bit b.table) (model b) shows k n (lone b.table b.apart n k at) place.0 place.1 place.2

    yes : T r → T (some_of (λ m. not (eqb m n) && (K m && Model.path (model b) n m)) (Model.held (model b)))
    yes t =
        let s = shared.some t in
        let l : ℕ = s.0 in
        let c : T (not (eqb l k) && clash l) = subst T (is l) s.2 in
        let z = passing_job (λ j. true) (slot b.table l) (there l (and_r (not (eqb l k)) (clash l) c)) in
        let m : ℕ = z.0.number in
        some_i (λ m. not (eqb m n) && (K m && Model.path (model b) n m)) (Model.held (model b)) m (listed (λ j. true) m (held_here l z.0 z.1) (held_here l z.0 z.1))
        (and_i _ _ (subst (λ v. T (not v)) (sym (test l z.0 z.1)) (and_l (not (eqb l k)) (clash l) c))
        (and_i _ _ (subst T (sym (like l z.0 z.1)) (and_r (not (eqb l k)) (clash l) c))
        (subst (λ u. T (Model.path (model b) u m)) place.2 (walk_path k l place.0 z.0 place.1 z.1 ((ans l).0 s.1)))))

    no : T (some_of (λ m. not (eqb m n) && (K m && Model.path (model b) n m)) (Model.held (model b))) → T r
    no t =
        let s = some_e (λ m. not (eqb m n) && (K m && Model.path (model b) n m)) (Model.held (model b)) t in
        let m : ℕ = s.0 in
        let c : T (K m && Model.path (model b) n m) = and_r (not (eqb m n)) (K m && Model.path (model b) n m) s.2 in
        let z = shows.placed m (unlisted (λ j. true) m s.1) in
        let l : ℕ = z.0 in
        let y : Job = z.1 in
        shared.told l
        ((ans l).1 (path_walk k l place.0 y place.1 z.2 (subst (λ u. T (Model.path (model b) u y.number)) (sym place.2) (subst (λ u. T (Model.path (model b) n u)) (sym z.3) (and_r (K m) (Model.path (model b) n m) c)))))
        (subst T (sym (is l)) (and_i _ _ (subst (λ v. T (not v)) (ap (λ u. eqb u n) (sym z.3) ∙ test l y z.2) (and_l (not (eqb m n)) (K m && Model.path (model b) n m) s.2))
        (subst T (ap K (sym z.3) ∙ like l y z.2) (and_l (K m) (Model.path (model b) n m) c))))

    pub closing : r ≡ some_of (λ m. not (eqb m n) && (K m && Model.path (model b) n m)) (Model.held (model b))
    closing = same_answer r (some_of (λ m. not (eqb m n) && (K m && Model.path (model b) n m)) (Model.held (model b))) yes no
