-- A step is refused for a circle exactly when it closes one in the log.
use Rattle.std.proofs.Common.{◌≡◌, ℕ, Bool, true, false, T, ◌↔◌, List, [], ◌∷◌, ◌++◌, length, is_ok, Some, Ok, Err, Result, sym, ◌∙◌, subst}
use Rattle.std.specs.List.{slice_get}
use Rattle.model.specs.declared.refusals.Refusal.{Refusal}
use Rattle.model.specs.declared.refusals.Refusal.TheVariants.{Circle}
use Rattle.model.specs.Lists.{among}
use Rattle.model.specs.Kinds.{Kind}
use Rattle.model.specs.Conflicts.{Step, precedes, finishes, HasCircle}
use Rattle.model.specs.Conflicts.Step.{reads, writes}
use Rattle.model.specs.Book.{Book, is_active}
use Rattle.model.specs.Calls.{named, read_closes_circle, write_closes_circle, read_answer, write_answer, order_entries}
use Rattle.model.specs.Runs.{Log}
use Rattle.model.specs.Laws.{Exact}
use Rattle.model.proofs.Walks.{way_map, walk_way, way_walk}
use Rattle.model.proofs.Graphs.{AnyWay, Closes, stepped}
use Rattle.model.proofs.Closing.{circle_closes, closes_circle}
use Rattle.model.proofs.LogGraph.{log_graph, touch, log_read, log_write}
use Rattle.model.proofs.States.{read_tells, write_tells}
use Rattle.model.proofs.Answers.{read_decides, write_decides}
use Rattle.model.proofs.Runs.{Kept, agreement}

module _ {V : Type 0} where
  -- an answer by a test that holds exactly of circles is exact
  exact_from : {A : Type 0} (steps : List (Step V)) (r : Result A Refusal) (x : A) (c : Bool)
      → ◌≡◌ {A = Result A Refusal} r (elim c [ true ↦ Err Circle | false ↦ Ok x ])
      → (T c → HasCircle steps) → (HasCircle steps → T c) → Exact r x steps
  exact_from steps r x true p f g = record {
    cut_off = (λ q. f tt, λ q. p);
    accepted = (λ q. absurd (subst (λ z. T (is_ok z)) (sym q ∙ p) tt), λ n. absurd (n (f tt)));
  }
  exact_from steps r x false p f g = record {
    cut_off = (λ q. absurd (subst (λ z. T (is_ok z)) (sym p ∙ q) tt), λ q. absurd (g q));
    accepted = (λ q c. g c, λ n. p);
  }

  -- circles of the log with a last step, by the arrows that the step adds
  circles : (m : Bool) (E : ℕ → Type 0) (M : Bool → ℕ → Type 0) (j : ℕ) (h h' : List (Step V)) → ((u : ℕ) → AnyWay (log_graph h) u u → ⊥)
      → ((u v : ℕ) → (stepped (log_graph h) m E M j).arrow u v ↔ T (precedes h' u v))
      → Closes (log_graph h) m E j ↔ HasCircle h'
  circles m E M j h h' straight is = (
    λ c. let r = closes_circle m E M j (log_graph h) c in (r.0, way_walk (way_map (λ u v. (is u v).0) (λ n t. t) r.1)),
    λ c. circle_closes m E M j (log_graph h) straight c.0 (way_map (λ u v. (is u v).1) (λ n t. t) (walk_way c.1)),
  )

  module _ {b₀ : Book} {row₀ : List V} {b : Book} {row : List V} {l : Log V} (s : Kept b₀ row₀ b row l) (j : ℕ)
      (long : length row ≡ b₀.settings) (held : T (among j l.held)) (unfinished : T (finishes l.steps j) → ⊥) where
    act : T (is_active b j)
    act = ((agreement s).active_agree j).1 (held, unfinished)

    fits : length row ≡ b.settings
    fits = long ∙ sym s.settings_stand

    pub read_exact : (e : ℕ) (v : V) → slice_get row e ≡ Some v → Exact (read_answer b row j e) v (l.steps ++ (reads j e v ∷ []))
    read_exact e v at =
        let t = read_tells j e s.state act in
        let c = circles true (λ d. d ≡ e) (λ m d. T (touch m (reads j e v) d)) j l.steps (l.steps ++ (reads j e v ∷ [])) s.state.inv.straight (log_read l.steps j e v).arrow_is in
        exact_from (l.steps ++ (reads j e v ∷ [])) (read_answer b row j e) v (read_closes_circle b j e) (read_decides b row j fits act e v at) (λ x. c.0 (t.0 x)) (λ x. t.1 (c.1 x))

    pub write_exact : (k : Kind V) (bytes : List ℕ) (es : List (ℕ × V)) → order_entries k b₀.settings bytes ≡ Ok es
        → Exact (write_answer k b row j bytes) tt (l.steps ++ (writes j es ∷ []))
    write_exact k bytes es at =
        let t = write_tells j (named es) s.state act in
        let c = circles false (λ d. T (among d (named es))) (λ m d. T (touch m (writes j es) d)) j l.steps (l.steps ++ (writes j es ∷ [])) s.state.inv.straight (log_write l.steps j es).arrow_is in
        let order : order_entries k b.settings bytes ≡ Ok es = subst (λ (m : ℕ). order_entries k m bytes ≡ Ok es) (sym s.settings_stand) at in
        exact_from (l.steps ++ (writes j es ∷ [])) (write_answer k b row j bytes) tt (write_closes_circle b j (named es)) (write_decides b row j fits act k bytes es order) (λ x. c.0 (t.0 x)) (λ x. t.1 (c.1 x))

  -- the steps of a run have no circle
  pub no_circle : {b₀ : Book} {row₀ : List V} {b : Book} {row : List V} {l : Log V} → Kept b₀ row₀ b row l → HasCircle l.steps → ⊥
  no_circle s c = s.state.inv.straight c.0 (walk_way c.1)
