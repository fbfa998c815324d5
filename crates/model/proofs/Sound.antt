-- Every run of an opened book is sound, and every begin and every sweep under a policy is a step of a run.
use Rattle.std.proofs.Common.{◌≡◌, ℕ, ◌≤◌, Bool, true, false, cond, ◌&&◌, T, leb, List, Ok, Err, Result, sym, subst, arith, leb→le}
use Rattle.model.specs.declared.refusals.Refusal.{Refusal}
use Rattle.model.specs.declared.refusals.Refusal.TheVariants.{SettingsRange, LimitRange, BookFull}
use Rattle.model.specs.Lists.{among}
use Rattle.model.specs.Kinds.{Kind}
use Rattle.model.specs.Conflicts.{finishes}
use Rattle.model.specs.Book.{Book, most_settings, most_active}
use Rattle.model.specs.Forgetting.{may_forget}
use Rattle.model.specs.Possible.{Possible}
use Rattle.model.specs.Calls.{new_book, opened}
use Rattle.model.specs.Begin.{BeginSweep, begin_answer_on, begin_answer, begin_forgets, begin_swept}
use Rattle.model.specs.Sweeps.{sweep_forgets}
use Rattle.model.specs.Runs.{Log}
use Rattle.model.specs.Runs.Run.{begin, sweep}
use Rattle.model.specs.Laws.{Sound, Needed, EveryRunIsSound, EveryCallUnderAPolicy}
use Rattle.model.proofs.Tests.{and_l, and_r, T_true}
use Rattle.model.proofs.Possible.{possible_new}
use Rattle.model.proofs.Sweeps.{sweep_exact}
use Rattle.model.proofs.Begin.{refused_stands, full_swept, refused_book, swept_within, begin_exact}
use Rattle.model.proofs.Runs.{Kept, run_kept, agreement}
use Rattle.model.proofs.Exact as Exact
use Rattle.model.proofs.EveryOrder as EveryOrder
use Rattle.model.proofs.SomeOrder as SomeOrder
use Rattle.model.proofs.Needed.{needed_in}

-- an opening that is accepted gives a new book that can exist
opening : (e a : ℕ) (b₀ : Book) → opened e a ≡ Ok b₀ → (new_book e a ≡ b₀) × Possible (new_book e a)
opening e a b₀ p = go (leb 1 e && leb e most_settings) (λ t. t) (leb 1 a && leb a most_active) (λ t. t) p
  where
    range : (n m : ℕ) → T (leb 1 n && leb n m) → (1 ≤ n) × (n ≤ m)
    range n m t = (leb→le 1 n (and_l (leb 1 n) (leb n m) t), leb→le n m (and_r (leb 1 n) (leb n m) t))

    go : (x : Bool) → (T x → T (leb 1 e && leb e most_settings)) → (y : Bool) → (T y → T (leb 1 a && leb a most_active))
        → ◌≡◌ {A = Result Book Refusal} (cond x (cond y (Ok (new_book e a)) (Err LimitRange)) (Err SettingsRange)) (Ok b₀)
        → (new_book e a ≡ b₀) × Possible (new_book e a)
    go true f true g q = (cc, possible_new e a (range e most_settings (f tt)) (range a most_active (g tt)))
    go true f false g q = let z : ◌≡◌ {A = ℕ} 0 1 = cc in absurd (omega arith)
    go false f y g q = let z : ◌≡◌ {A = ℕ} 0 1 = cc in absurd (omega arith)

module _ {V : Type 0} (k : Kind V) where
  -- a begin refused for want of room under a thorough policy
  needed_run : {b₀ : Book} {row₀ : List V} {b : Book} {row : List V} {l : Log V} → Kept b₀ row₀ b row l → (ns : List ℕ) (c : Book) → BeginSweep true b ns c
      → begin_answer_on b c ≡ Err BookFull → (i : ℕ) → T (among i l.held) → T (finishes l.steps i) → Needed k c row i
  needed_run {b = b} {row = row} K ns c w answer i is wrote =
      let P = K.state.possible in
      let same : c ≡ b = (refused_stands true b ns c P w BookFull answer).1 in
      subst (λ (x : Book). Needed k x row i) (sym same)
      (needed_in k b row P.proper (K.row_fits i wrote) i (K.state.inv.done_out i (K.held_in_book i is) wrote)
      (λ m. (full_swept true b ns c P w answer).1 tt i (subst (λ (x : Book). T (may_forget x i)) (sym same) m)))

  sound_new : (e a : ℕ) (row₀ : List V) → Possible (new_book e a) → Sound k (new_book e a) row₀
  sound_new e a row₀ new b row l r =
      let K = run_kept k new r in
      record {
        possible = K.state.possible;
        agrees = agreement K;
        read_exact = λ j d v long held unfinished at. Exact.read_exact K j long held unfinished d v at;
        write_exact = λ j bytes es long held unfinished at. Exact.write_exact K j long held unfinished k bytes es at;
        every_order = EveryOrder.every_order l.steps row₀ row K.executed;
        some_order = SomeOrder.some_order l.steps (Exact.no_circle K);
        needed = λ c ns w. needed_run K ns c w;
      }

pub sound : {V : Type 0} → EveryRunIsSound V
sound k e a b₀ o row₀ = let r = opening e a b₀ o in subst (λ (b : Book). Sound k b row₀) r.0 (sound_new k e a row₀ r.1)

pub under_policy : {V S : Type 0} → EveryCallUnderAPolicy V S
under_policy k b₀ row₀ every b row l r p lawful s =
    let all = every b row l r in
    let h = all.possible in
    let w = swept_within p lawful s b h in
    let x = sweep_exact p lawful s b h in
    record {
      begins = begin (begin_swept p s b) (p.thorough s) (begin_forgets p s b) r w;
      sweeps = sweep (p.thorough s) (sweep_forgets p s b) r x.swept;
      begin_exact = begin_exact p lawful s b h;
      sweep_exact = x;
      needed = λ t full i is wrote.
          subst (λ (c : Book). Needed k c row i) (sym (refused_book (begin_swept p s b) (begin_answer p s b) BookFull full))
          (all.needed (begin_swept p s b) (begin_forgets p s b) (subst (λ (v : Bool). BeginSweep v b (begin_forgets p s b) (begin_swept p s b)) (T_true (p.thorough s) t) w) full i is wrote);
    }
