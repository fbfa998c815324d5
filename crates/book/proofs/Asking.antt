-- What a book answers about its jobs.
use Rattle.std.proofs.Common.{◌≡◌, ℕ, ◌≤◌, Bool, true, false, not, ◌&&◌, T, ltb, Some, None, Option, MatchOption, sym, refl, ap, ◌∙◌, subst, ap₂, arith, ltb→lt, lt→ltb}
use Rattle.std.proofs.Math.Bool.{and-false}
use Rattle.graph.specs.declared.place_set.PlaceSet.{PlaceSet}
use Rattle.graph.specs.Members.{has}
use Rattle.graph.proofs.Placing.{made_below, none_past}
use Rattle.graph.specs.Walk.{Walk, anywhere, Answers}
use Rattle.graph.specs.Walk.Walk.{one, more}
use Rattle.model.specs.Lists.{first_of, some_of}
use Rattle.model.specs.Book as Model
use Rattle.model.proofs.Tests.{and_i, and_l, and_r, or_r, T_true, T_false}
use Rattle.model.proofs.Lists.{some_i, some_e}
use Rattle.model.proofs.BookGraph.{active_out, finished_held, paths_exact}
use Rattle.table.specs.declared.jobs.Job.{Job}
use Rattle.table.specs.declared.settings.Setting.{Setting}
use Rattle.table.specs.Named.{setting_of}
use Rattle.table.specs.Slots.{slot, bit, passes, numbered}
use Rattle.table.specs.Touching.{wrote}
use Rattle.table.proofs.Touches.{same_answer}
use Rattle.book.specs.declared.books.Book.{Book}
use Rattle.book.specs.View.{content}
use Rattle.book.specs.Next.{Next}
use Rattle.book.specs.State.{model, StandsAt}
use Rattle.book.proofs.Founds.{passing_job, job_passes, job_numbered}
use Rattle.book.proofs.Gathering.{Gathered, gathered_all}
use Rattle.book.proofs.Paths.{shows, at_job, held_here, listed, unlisted, walk_path, path_walk}
use Rattle.book.proofs.Places.{absent, job_here, test_here}
use Rattle.book.proofs.Rising.{rising, first_none, first_some}
use Rattle.book.proofs.Viewing.{none_later, later, next_listed, next_least}
use Rattle.book.proofs.Wholes.{possible}

-- the next number
module _ (b : Book) (f : Job → Bool) (g : Model.Job → Bool) (like : (j : Job) → g (content j) ≡ f j)
    (set : PlaceSet) (is : (i : ℕ) → has set i ≡ passes f (slot b.table i)) (after : ℕ) where
  pub next_is : (r : Option ℕ) → Next b.table set after r → r ≡ first_of (ltb after) (Model.jobs_that g (model b))
  next_is None h = sym (first_none (ltb after) (Model.jobs_that g (model b)) (λ m i t. none_later b f g like set is after h m i (ltb→lt after m t)))
  next_is (Some n) h =
      let i : ℕ = h.0 in
      let x : Job = h.1 in
      let least : x.number ≡ n = h.3 in
      sym (subst (λ m. first_of (ltb after) (Model.jobs_that g (model b)) ≡ Some m) least
      (first_some (ltb after) (Model.jobs_that g (model b)) (rising g (model b)) x.number (next_listed b f g like set is after i x h.2 h.4)
      (lt→ltb after x.number (later b f g like set is after i x h.2 h.4))
      (λ m t s u. let far = next_least b f g like set is after i x h.2 h.4 m t (ltb→lt after m u) in omega arith)))

-- arrows and paths
module _ (b : Book) where
  pub not_held : (n : ℕ) → ((i : ℕ) → numbered n (slot b.table i) ≡ false) → Model.is_held (model b) n ≡ false
  not_held n none = ap (Model.holds (λ j. true)) (absent b n none)

  walk_ends : {inner : ℕ → Bool} {p q : ℕ} → Walk (model b).arrow inner p q → T (Model.is_held (model b) p) × T (Model.is_held (model b) q)
  walk_ends (one {p = p} {q = q} a) = (shows b).ends p q a
  walk_ends (more {p = p} {r = r} a t w) = (((shows b).ends p r a).0, (walk_ends w).1)

  module _ (p q : ℕ) where
    abbrev both_held : Bool
    both_held = Model.is_held (model b) p && Model.is_held (model b) q

    pub no_arrow : both_held ≡ false → false ≡ (model b).arrow p q
    no_arrow none = sym (T_false _ (λ t. let e = (shows b).ends p q t in subst T none (and_i _ _ e.0 e.1)))

    pub no_path : both_held ≡ false → false ≡ Model.path (model b) p q
    no_path none = sym (T_false _ (λ t. let e = walk_ends ((paths_exact (model b) (possible b) p q).any.0 t) in subst T none (and_i _ _ e.0 e.1)))

    module _ (i k : ℕ) (at : StandsAt b p i) (to : StandsAt b q k) where
      pub arrow_is : bit b.table i k ≡ (model b).arrow p q
      arrow_is =
          let x = job_here b p i at in
          let y = job_here b q k to in
          sym (ap₂ (model b).arrow (sym x.2) (sym y.2) ∙ (shows b).between i k x.0 y.0 x.1 y.1)

      pub path_is : (r : Bool) → Answers (bit b.table) anywhere i k r → r ≡ Model.path (model b) p q
      path_is r ans =
          let x = job_here b p i at in
          let y = job_here b q k to in
          same_answer r (Model.path (model b) x.0.number y.0.number) (λ t. walk_path b i k x.0 y.0 x.1 y.1 (ans.0 t)) (λ t. ans.1 (path_walk b i k x.0 y.0 x.1 y.1 t))
          ∙ ap₂ (Model.path (model b)) x.2 y.2

-- a job is reached from an active one
module _ (b : Book) (n : ℕ) where
  abbrev from_active : Bool
  from_active = some_of (λ j. Model.path (model b) j n) (Model.active (model b))

  pub not_held_not_reached : ((i : ℕ) → numbered n (slot b.table i) ≡ false) → false ≡ from_active
  not_held_not_reached none = sym (T_false _ (λ t.
      let r = some_e (λ j. Model.path (model b) j n) (Model.active (model b)) t in
      subst T (sym (no_path b r.0 n (ap (λ v. Model.is_held (model b) r.0 && v) (not_held b n none) ∙ and-false (Model.is_held (model b) r.0)))) r.2))

  module _ (i : ℕ) (at : StandsAt b n i) where
    abbrev starts : ℕ → Bool
    starts k = passes (λ j. not j.finished) (slot b.table k)

    pub reached_from : (k : ℕ) → T (starts k) → Walk (bit b.table) anywhere k i → true ≡ from_active
    reached_from k t w =
        let x = passing_job (λ j. not j.finished) (slot b.table k) t in
        let y = job_here b n i at in
        sym (T_true _ (some_i (λ j. Model.path (model b) j n) (Model.active (model b)) x.0.number
        (listed b (λ j. not j.finished) x.0.number (held_here b k x.0 x.1) (subst T (sym (at_job b (λ j. not j.finished) k x.0 x.1)) x.2))
        (subst (λ m. T (Model.path (model b) x.0.number m)) y.2 (walk_path b k i x.0 y.0 x.1 y.1 w))))

    pub not_reached_from : ((k : ℕ) → T (starts k) → Walk (bit b.table) anywhere k i → ⊥) → false ≡ from_active
    not_reached_from none = sym (T_false _ (λ t.
        let r = some_e (λ j. Model.path (model b) j n) (Model.active (model b)) t in
        let a = unlisted b (λ j. not j.finished) r.0 r.1 in
        let z = (shows b).placed r.0 (active_out ((model b).job r.0) a).0 in
        let y = job_here b n i at in
        none z.0
        (job_passes (λ j. not j.finished) (slot b.table z.0) z.1 z.2 (subst T (at_job b (λ j. not j.finished) z.0 z.1 z.2) (subst (λ m. T (Model.is_active (model b) m)) (sym z.3) a)))
        (path_walk b z.0 i z.1 y.0 z.2 y.1 (subst (λ m. T (Model.path (model b) m y.0.number)) (sym z.3) (subst (λ m. T (Model.path (model b) r.0 m)) (sym y.2) r.2)))))

-- settings that no book has
module _ (b : Book) (n e : ℕ) (high : 64 ≤ e) where
  pub beyond_touched : false ≡ Model.touched_by (model b) n e
  beyond_touched = sym (T_false _ (λ t. let low = (possible b).touched_fit n e t in let most = (possible b).settings_fit.1 in omega arith))

  pub beyond_written : false ≡ Model.written_by (model b) n e
  beyond_written = sym (T_false _ (λ t.
      let low = (possible b).touched_fit n e (or_r (Model.read_by (model b) n e) (Model.written_by (model b) n e) t) in
      let most = (possible b).settings_fit.1 in
      omega arith))

-- a setting is written after a job
module _ (b : Book) (n e : ℕ) where
  abbrev writes_after : ℕ → Bool
  writes_after k = (model b).arrow n k && Model.written_by (model b) k e

  pub not_held_not_after : ((i : ℕ) → numbered n (slot b.table i) ≡ false) → false ≡ Model.written_after (model b) n e
  not_held_not_after none = sym (T_false _ (λ t.
      let r = some_e writes_after (Model.finished (model b)) t in
      subst T (sym (no_arrow b n r.0 (ap (λ v. v && Model.is_held (model b) r.0) (not_held b n none)))) (and_l ((model b).arrow n r.0) (Model.written_by (model b) r.0 e) r.2)))

  module _ (i : ℕ) (at : StandsAt b n i) (heads : PlaceSet) (are : (k : ℕ) → has heads k ≡ (bit b.table i k && passes (λ j. j.finished) (slot b.table k))) where
    after_in : (k : ℕ) → T (has heads k) → T (passes (wrote e) (slot b.table k)) → T (Model.written_after (model b) n e)
    after_in k m w =
        let h : T (bit b.table i k && passes (λ j. j.finished) (slot b.table k)) = subst T (are k) m in
        let y = passing_job (wrote e) (slot b.table k) w in
        let q : ℕ = y.0.number in
        let fin : T (Model.is_finished (model b) q) =
        subst T (ap (passes (λ j. j.finished)) y.1 ∙ sym (at_job b (λ j. j.finished) k y.0 y.1)) (and_r (bit b.table i k) (passes (λ j. j.finished) (slot b.table k)) h) in
        some_i writes_after (Model.finished (model b)) q (listed b (λ j. j.finished) q (held_here b k y.0 y.1) fin)
        (and_i ((model b).arrow n q) (Model.written_by (model b) q e)
        (subst T (arrow_is b n q i k at (job_numbered q (slot b.table k) y.0 y.1 refl)) (and_l (bit b.table i k) (passes (λ j. j.finished) (slot b.table k)) h))
        (subst T (sym (at_job b (λ j. j.has_written e) k y.0 y.1)) y.2))

    after_out : T (Model.written_after (model b) n e) → (k : ℕ) × T (has heads k) × T (passes (wrote e) (slot b.table k))
    after_out t =
        let r = some_e writes_after (Model.finished (model b)) t in
        let q : ℕ = r.0 in
        let fin : T (Model.is_finished (model b) q) = unlisted b (λ j. j.finished) q r.1 in
        let z = (shows b).placed q (finished_held (model b) q fin) in
        let k : ℕ = z.0 in
        let to : StandsAt b q k = job_numbered q (slot b.table k) z.1 z.2 z.3 in (
          k,
          subst T (sym (are k)) (and_i (bit b.table i k) (passes (λ j. j.finished) (slot b.table k))
              (subst T (sym (arrow_is b n q i k at to)) (and_l ((model b).arrow n q) (Model.written_by (model b) q e) r.2))
              (subst T (test_here b q k to (λ j. j.finished) (λ j. j.finished) (λ j. refl)) fin)),
          subst T (test_here b q k to (wrote e) (λ j. j.has_written e) (λ j. refl)) (and_r ((model b).arrow n q) (Model.written_by (model b) q e) r.2),
        )

    pub after_is : (left : PlaceSet) (got : ℕ → Bool) → Gathered (λ k e. passes (wrote e) (slot b.table k)) heads left got → ((k : ℕ) → has left k ≡ false)
        → got e ≡ Model.written_after (model b) n e
    after_is left got g none = same_answer (got e) (Model.written_after (model b) n e)
        (λ t. let r = g.sound e t in after_in r.0 r.1 r.2)
        (λ t. let r = after_out t in gathered_all (λ k e. passes (wrote e) (slot b.table k)) heads left got g none r.0 e r.1 r.2)

-- a setting that was asked for by its index
asked_is : (by : ℕ → Bool) (e : ℕ) → (64 ≤ e → false ≡ by e) → (s : Option Setting) → s ≡ setting_of e → (r : Bool) {Q : Setting → Type 0} → MatchOption s (r ≡ false) Q
    → ((x : Setting) → Q x → r ≡ by x.index) → r ≡ by e
asked_is by e beyond None made r q asks = q ∙ beyond (none_past e _ made)
asked_is by e beyond (Some s) made r q asks = asks s q ∙ ap (λ (t : Setting). by t.index) (made_below e _ s made).1

module _ (b : Book) (n e : ℕ) where
  pub written_is : (s : Option Setting) → s ≡ setting_of e → (r : Bool) {Q : Setting → Type 0} → MatchOption s (r ≡ false) Q
      → ((x : Setting) → Q x → r ≡ Model.written_by (model b) n x.index) → r ≡ Model.written_by (model b) n e
  written_is = asked_is (Model.written_by (model b) n) e (beyond_written b n e)

  pub touched_is : (s : Option Setting) → s ≡ setting_of e → (r : Bool) {Q : Setting → Type 0} → MatchOption s (r ≡ false) Q
      → ((x : Setting) → Q x → r ≡ Model.touched_by (model b) n x.index) → r ≡ Model.touched_by (model b) n e
  touched_is = asked_is (Model.touched_by (model b) n) e (beyond_touched b n e)
