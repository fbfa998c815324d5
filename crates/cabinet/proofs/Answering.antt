-- From the run of a stream on a new book to its lines.
use Rattle.std.proofs.Common.{◌≡◌, ℕ, true, List, length, take, drop, Some, Ok, Err, Option, Result, MatchResult, sym, ap, ◌∙◌, subst, arith}
use Rattle.std.specs.Result.{is_ok}
use Rattle.std.proofs.lemmas.List.{take_at}
use Rattle.model.specs.declared.refusals.Refusal.{Refusal}
use Rattle.model.specs.Kinds.{Kind}
use Rattle.model.specs.Book.{Book}
use Rattle.model.specs.Calls.{new_book}
use Rattle.model.specs.Policies.{Policy}
use Rattle.model.specs.Runs.{empty_log}
use Rattle.model.specs.Runs.Run.{start}
use Rattle.model.specs.Laws.{Sound, SoundAfter}
use Rattle.commands.specs.Calls.{Call}
use Rattle.stream.specs.declared.endings.Ended.{Ended}
use Rattle.stream.specs.declared.endings.Stop.{Stop}
use Rattle.stream.specs.Lines.{lines_room}
use Rattle.stream.specs.States.{State, state}
use Rattle.stream.specs.Streams.{Progress, ran, Runs}
use Rattle.stream.specs.Laws.{Carried, Follows}
use Rattle.cabinet.specs.Lines.{settings, limit, opening, outcome, Answered}

-- what is accepted is one thing
pub same_ok : {A : Type 0} (x y : A) → ◌≡◌ {A = Result A Refusal} (Ok x) (Ok y) → x ≡ y
same_ok x y e = cc

pub same_some : {A : Type 0} (x y : A) → Some x ≡ Some y → x ≡ y
same_some x y e = cc

-- a result whose error became another is as it was, where it is none
pub was_ok : {A D : Type 0} (E : Type 0) (r : Result A D) (y : A) (Q : D → Type 0) → MatchResult r (λ x. ◌≡◌ {A = Result A E} (Ok y) (Ok x)) Q → true ≡ is_ok r → r ≡ Ok y
was_ok E (Ok x) y Q m e = cc
was_ok E (Err d) y Q m e = cc

module _ {V S : Type 0} (k : Kind V) (p : Policy S) (row : List V) (s : S) (bytes out after : List ℕ) (t : State V S) (r : Ended) where
  -- what the run promises, from this book
  abbrev pub RanOn : Book → Type 0
  RanOn b = Sound k b row × Runs k p bytes (state b row s) t out after r × Follows k p bytes (state b row s) (ran k p (length out) (state b row s) bytes).0.calls t r.stop

  answered_new : length out ≡ lines_room (length bytes) → RanOn (new_book settings limit) → Answered k p row s bytes (take r.length after)
  answered_new h x =
      let z : Progress V S × Option Stop = ran k p (length out) (opening row s) bytes in
      let same : z ≡ outcome k p row s bytes = ap (λ (n : ℕ). ran k p n (opening row s) bytes) h in
      let led = x.2.leads (new_book settings limit) row empty_log start in
      let left : t ≡ (outcome k p row s bytes).0.left = x.1.leaves ∙ ap (λ (y : Progress V S × Option Stop). y.0.left) same in
      record {
        lines =
            ap (take r.length) x.1.lines ∙ take_at z.0.text (drop (length z.0.text) out) r.length (sym x.1.long)
            ∙ ap (λ (y : Progress V S × Option Stop). y.0.text) same;
        roomy = λ e. x.1.roomy (omega (arith, h)) (x.1.stops ∙ ap (λ (y : Progress V S × Option Stop). y.1) same ∙ e);
        log = led.0;
        carried =
            subst (λ (cs : List Call). Carried k p settings (opening row s) empty_log cs (outcome k p row s bytes).0.left led.0) (ap (λ (y : Progress V S × Option Stop). y.0.calls) same)
            (subst (λ (u : State V S). Carried k p settings (opening row s) empty_log z.0.calls u led.0) left led.1);
        sound =
            subst (λ (u : State V S). SoundAfter k (new_book settings limit) row u.book u.row led.0) left (x.0 t.book t.row led.0 led.2);
      }

  pub answered : (b : Book) → b ≡ new_book settings limit → length out ≡ lines_room (length bytes) → RanOn b → Answered k p row s bytes (take r.length after)
  answered b e h x = answered_new h (subst RanOn e x)
