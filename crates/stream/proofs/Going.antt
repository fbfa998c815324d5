-- The run of a stream, as far as it has come.
use Rattle.std.proofs.Common.{◌≡◌, ℕ, zero, suc, pred, ◌+◌, ◌-◌, ◌*◌, ◌<◌, ◌≤◌, Bool, true, false, cond, ltb, leb, ◌⊎◌, List, [], ◌∷◌, ◌++◌, length, get_or, take, drop, Some, None, Ok, Err, Option, Result, MatchResult, sym, refl, ap, ◌∙◌, subst, inl, inr, append_assoc, arith, length-append, length-drop}
use Rattle.std.specs.Result.{is_err}
use Rattle.std.proofs.lemmas.Bool.{le-leb, lt-leb, lt-ltb, le-ltb, leb-true, leb-false, and_from, cond-true, cond-false}
use Rattle.std.proofs.lemmas.List.{take_at, drop_at, drop-drop, length_push, flat_map_more}
use Rattle.model.specs.declared.faults.Fault.{Fault}
use Rattle.model.specs.Kinds.{Kind}
use Rattle.model.specs.Policies.{Policy}
use Rattle.model.specs.Runs.{Log}
use Rattle.model.specs.Refusals.{fault_offset}
use Rattle.values.specs.Words.{bytes_only}
use Rattle.values.specs.WordLaws.{bytes_behind}
use Rattle.commands.specs.Calls.{Call, command_bytes}
use Rattle.commands.specs.Reading.{Found, next_at, longest}
use Rattle.commands.specs.Reading.Found.{ended, took, stopped}
use Rattle.commands.specs.Laws.{stream_bytes}
use Rattle.commands.proofs.Taken.{taken_less, found_within}
use Rattle.commands.proofs.Back.{writes_back}
use Rattle.commands.proofs.Whole.{ended_empty}
use Rattle.commands.proofs.Answered.{stopped_near}
use Rattle.stream.specs.declared.answers.Answer.{Answer}
use Rattle.stream.specs.declared.answers.Answer.TheVariants as answer
use Rattle.stream.specs.declared.endings.Stop.{Stop}
use Rattle.stream.specs.declared.endings.Stop.TheVariants as stop
use Rattle.stream.specs.declared.output.Output.{Output}
use Rattle.stream.specs.Lines.{line, line_room, lines_room}
use Rattle.stream.specs.States.{State, answer_to, after_call, log_after, Carries}
use Rattle.stream.specs.Streams.{item_first, items_from, Progress, start, place, has_room, with_command, with_fault, run_on, ran, Runs}
use Rattle.stream.specs.Steps.{with_line, Answered, Told, Untold, Finishes}
use Rattle.stream.specs.Laws.{Carried, none_carried, then_carried, Leads, Follows}

-- what stands behind a text, once bytes more stand there
text_more : (text bytes out : List ℕ) → with_line bytes (length text) (text ++ drop (length text) out) ≡ (text ++ bytes) ++ drop (length (text ++ bytes)) out
text_more text bytes out =
    let x : List ℕ = drop (length text) out in
    let n : ℕ = length text + length bytes in
    let t : take (length text) (text ++ x) ≡ text = take_at text x (length text) refl in
    let d : drop n (text ++ x) ≡ drop n out =
    sym (drop-drop (length bytes) (length text) (text ++ x)) ∙ ap (drop (length bytes)) (drop_at text x (length text) refl) ∙ drop-drop (length bytes) (length text) out in
    rw (t, d) (sym (append_assoc text bytes (drop n out)) ∙ ap (λ (m : ℕ). (text ++ bytes) ++ drop m out) (sym (length-append text bytes)))

-- how long it is
text_length : (text out : List ℕ) → length text ≤ length out → length (text ++ drop (length text) out) ≡ length out
text_length text out h = simp (length-append, length-drop) (omega arith)

-- what a slice of bytes holds
pub each_a_byte : (xs : List ℕ) → ((i : ℕ) → get_or xs i 0 < 256) → bytes_only xs ≡ true
each_a_byte [] f = refl
each_a_byte (x ∷ xs) f = and_from (ltb x 256) (bytes_only xs) (lt-ltb x 256 (f 0)) (each_a_byte xs (λ i. f (suc i)))

-- room for a line at least, and for one for each byte of a stream that is not too long

room_most : (n : ℕ) → n ≤ longest → line_room * (n + 1) ≡ lines_room n
room_most n h = sym (cond-true _ _ _ (le-leb n longest h))

room_least : (n : ℕ) → line_room ≤ lines_room n
room_least n = go (leb n longest)
  where
    go : (b : Bool) → line_room ≤ cond b (line_room * (n + 1)) line_room
    go true = omega arith
    go false = omega arith

-- what a result says, by whether it is an error
pub of_err : {A B : Type 0} (P Q : Type 0) (r : Result A B) → MatchResult r (λ _. P) (λ _. Q) → true ≡ is_err r → Q
of_err P Q (Ok a) m e = cc
of_err P Q (Err b) m e = m

pub of_ok : {A B : Type 0} (P Q : Type 0) (r : Result A B) → MatchResult r (λ _. P) (λ _. Q) → false ≡ is_err r → P
of_ok P Q (Ok a) m e = m
of_ok P Q (Err b) m e = cc

-- a stream has nothing behind its last offset
nothing_more : (w at : ℕ) (bs : List ℕ) → at + length bs ≤ longest → longest ≤ at → next_at w at bs ≡ ended
nothing_more w at [] h l = cond-false _ _ _ (le-ltb longest (at + 0) h)
nothing_more w at (x ∷ bs) h l = absurd (omega arith)

pub suc_pred : (m : ℕ) → 0 < m → m ≡ suc (pred m)
suc_pred zero h = absurd (omega arith)
suc_pred (suc m) h = refl

module _ {V S : Type 0} (k : Kind V) (p : Policy S) where
  -- one command more leads on
  leads_more : (s₀ s t : State V S) (cs : List Call) (c : Call) (a : Answer V) → Leads k p s₀ cs s → Carries k p s c a t → Leads k p s₀ (cs ++ (c ∷ [])) t
  leads_more s₀ s t cs c a f x b₀ row₀ l₀ run =
      let y = f b₀ row₀ l₀ run in
      let l : Log V = log_after k p b₀.settings s c y.0 in
      (l, subst (λ (z : State V S). Carried k p b₀.settings s₀ l₀ (cs ++ (c ∷ [])) z l) (sym x.leaves) (then_carried y.1 c), x.runs b₀ row₀ y.0 y.2)

module _ {V S : Type 0} (k : Kind V) (p : Policy S) (bytes : List ℕ) (s₀ : State V S) (out₀ : List ℕ) where
  -- the run has come to the n-th command, at an offset of the stream, with its lines in the output
  pub record Going (n offset : ℕ) (rest : List ℕ) (s : State V S) (o : Output) : Type 0 where
    pub so_far : Progress V S
    pub most : ℕ
    pub enough : length rest ≤ most
    -- what is left of the stream leads on to what the run of the whole does
    pub goes : run_on k p (length out₀) so_far (items_from k.width (suc most) offset rest) ≡ ran k p (length out₀) s₀ bytes
    pub left : so_far.left ≡ s
    pub at_place : n ≡ place so_far
    pub at_end : o.at ≡ length so_far.text
    pub within : o.at ≤ length out₀
    pub stands : o.bytes.now ≡ so_far.text ++ drop (length so_far.text) out₀
    -- no more commands than bytes, of a stream that is not too long
    pub few : n ≤ offset + 1
    pub sum : offset + length rest ≡ length bytes
    pub narrow : o.at + line_room ≤ line_room * n
    pub short : ((n ≡ 1) × (offset ≡ 0)) ⊎ (offset + length rest ≤ longest)
    pub read : stream_bytes k.width so_far.calls ++ rest ≡ bytes
    pub leads : Leads k p s₀ so_far.calls s

  -- at the start
  pub begun : (offset : ℕ) (rest : List ℕ) (o : Output) → offset ≡ 0 → rest ≡ bytes → o.at ≡ 0 → o.bytes.now ≡ out₀ → Going 1 offset rest s₀ o
  begun offset rest o e f a b = record {
    so_far = start s₀;
    most = length bytes;
    enough = omega (arith, ap length f);
    goes = ap (λ (i : ℕ). run_on k p (length out₀) (start s₀) (items_from k.width (suc (length bytes)) i rest)) e ∙ ap (λ (r : List ℕ). run_on k p (length out₀) (start s₀) (items_from k.width (suc (length bytes)) 0 r)) f;
    left = refl;
    at_place = refl;
    at_end = a;
    within = omega (arith, a);
    stands = b;
    few = omega arith;
    sum = omega (arith, e, ap length f);
    narrow = omega (arith, a);
    short = inl (refl, e);
    read = f;
    leads = λ b₀ row₀ l₀ run. (l₀, none_carried, run);
  }

  module _ (n offset : ℕ) (rest : List ℕ) (s : State V S) (o : Output) (x : Going n offset rest s o) where
    long : length o.bytes.now ≡ length out₀
    long = let w = x.within in ap length x.stands ∙ text_length x.so_far.text out₀ (omega (arith, x.at_end))

    -- one line more
    lines_more : (bs : List ℕ) → with_line bs o.at o.bytes.now ≡ (x.so_far.text ++ bs) ++ drop (length (x.so_far.text ++ bs)) out₀
    lines_more bs =
        ap (λ (m : ℕ). with_line bs m o.bytes.now) x.at_end ∙ ap (with_line bs (length x.so_far.text)) x.stands ∙ text_more x.so_far.text bs out₀

    longer : (bs : List ℕ) → o.at + length bs ≡ length (x.so_far.text ++ bs)
    longer bs = ap (λ (m : ℕ). m + length bs) x.at_end ∙ sym (length-append x.so_far.text bs)

    -- what was found is what the run goes on with
    goes_with : (f : Found) → next_at k.width offset rest ≡ f
        → run_on k p (length out₀) x.so_far (item_first f (λ r. items_from k.width x.most (offset + (length rest - length r)) r)) ≡ ran k p (length out₀) s₀ bytes
    goes_with f e =
        ap (λ (g : Found). run_on k p (length out₀) x.so_far (item_first g (λ r. items_from k.width x.most (offset + (length rest - length r)) r))) (sym e) ∙ x.goes

    -- in an output with room for the lines of the stream, there is room for the next
    roomy : lines_room (length bytes) ≤ length out₀ → length out₀ < o.at + line_room → ⊥
    roomy h l = elim x.short [
      | inl z ↦ omega (arith, room_least (length bytes), h, l, x.narrow, z.0)
      | inr z ↦ omega (arith, room_most (length bytes) (omega (arith, z, x.sum)), h, l, x.narrow, x.few, x.sum)
    ]

    -- the run has ended so, at s: what it did, and what it has to do with its commands
    abbrev pub Ends : State V S → Output → Option Stop → Type 0
    Ends t after why =
        Runs k p bytes s₀ t out₀ after.bytes.now (record { length = after.at; stop = why })
        × Follows k p bytes s₀ (ran k p (length out₀) s₀ bytes).0.calls t why

    ended_so : (g : Progress V S) (why : Option Stop) (t : State V S) (after : Output) → (g, why) ≡ ran k p (length out₀) s₀ bytes
        → g.left ≡ x.so_far.left → g.calls ≡ x.so_far.calls → t ≡ s → after.bytes.now ≡ g.text ++ drop (length g.text) out₀ → after.at ≡ length g.text → (why ≡ None → rest ≡ []) → (why ≡ Some stop.NoRoom → length out₀ < o.at + line_room)
        → Ends t after why
    ended_so g why t after e left calls same lines far whole scant = (
      record {
        lines = lines ∙ ap (λ (z : Progress V S × Option Stop). z.0.text ++ drop (length z.0.text) out₀) e;
        long = far ∙ ap (λ (z : Progress V S × Option Stop). length z.0.text) e;
        stops = ap (λ (z : Progress V S × Option Stop). z.1) e;
        leaves = same ∙ sym x.left ∙ sym left ∙ ap (λ (z : Progress V S × Option Stop). z.0.left) e;
        roomy = λ h n. roomy h (scant n);
      },
      subst (λ (cs : List Call). Follows k p bytes s₀ cs t why) (sym calls ∙ ap (λ (z : Progress V S × Option Stop). z.0.calls) e)
          (subst (λ (z : State V S). Follows k p bytes s₀ x.so_far.calls z why) (sym same)
          (record { begins = (rest, x.read, whole); leads = x.leads })),
    )

    -- at the end of the stream
    pub ends_whole : next_at k.width offset rest ≡ ended → (after : Output) → after.at ≡ o.at → after.bytes.now ≡ o.bytes.now → Ends s after None
    ends_whole e after a b =
        ended_so x.so_far None s after (goes_with ended e) refl refl refl (b ∙ x.stands) (a ∙ x.at_end) (λ _. ended_empty k.width offset rest e) (λ n. cc)

    no_room : length o.bytes.now < o.at + line_room → has_room (length out₀) x.so_far ≡ false
    no_room h = lt-leb (length x.so_far.text + line_room) (length out₀) (omega (arith, h, long, x.at_end))

    room : o.at + line_room ≤ length o.bytes.now → has_room (length out₀) x.so_far ≡ true
    room h = le-leb (length x.so_far.text + line_room) (length out₀) (omega (arith, h, long, x.at_end))

    -- where there is no room for the line of a command, or of a fault
    pub ends_short : (f : Found) → next_at k.width offset rest ≡ f → (f ≡ ended → ⊥) → (t : State V S) (after : Output) → t ≡ s → Untold o after → Ends t after (Some stop.NoRoom)
    ends_short f e some t after same y =
        ended_so x.so_far (Some stop.NoRoom) t after (stops_short f some ∙ goes_with f e) refl refl same (y.stands ∙ x.stands) (y.ends ∙ x.at_end) (λ n. cc) (λ _. omega (arith, y.no_room, long))
      where
        stops_short : (f : Found) → (f ≡ ended → ⊥)
            → (x.so_far, Some stop.NoRoom) ≡ run_on k p (length out₀) x.so_far (item_first f (λ r. items_from k.width x.most (offset + (length rest - length r)) r))
        stops_short ended some = absurd (some refl)
        stops_short (took c behind) some = sym (cond-false _ _ _ (no_room y.no_room))
        stops_short (stopped g) some = sym (cond-false _ _ _ (no_room y.no_room))

    -- at a fault, with its line
    pub ends_told : (f : Fault) → next_at k.width offset rest ≡ stopped f → (after : Output) → Told k n f o after → Ends s after (Some (stop.Fault f))
    ends_told f e after told =
        let g : Progress V S = with_fault k p x.so_far f in
        let l : line k n (answer.Fault f) ≡ line k (place x.so_far) (answer.Fault f) = ap (λ (m : ℕ). line k m (answer.Fault f)) x.at_place in
        ended_so g (Some (stop.Fault f)) s after (sym (cond-true _ _ _ (room told.room)) ∙ goes_with (stopped f) e) refl refl refl
        (told.stands ∙ lines_more (line k n (answer.Fault f)) ∙ ap (λ (z : List ℕ). (x.so_far.text ++ z) ++ drop (length (x.so_far.text ++ z)) out₀) l)
        (told.behind ∙ longer (line k n (answer.Fault f)) ∙ ap (λ (z : List ℕ). length (x.so_far.text ++ z)) l)
        (λ n. cc) (λ n. let d : stop.Fault f ≡ stop.NoRoom = cc in cc)

    -- where no command stands
    pub ends : (met : Option Fault) → (met ≡ None → next_at k.width offset rest ≡ ended) → ((f : Fault) → met ≡ Some f → next_at k.width offset rest ≡ stopped f)
        → (after : Output) (why : Option Stop) → Finishes k n met o after why → Ends s after why
    ends None whole at_fault after why z = let y = z.whole refl in subst (Ends s after) (sym y.0) (ends_whole (whole refl) after y.1 y.2)
    ends (Some f) whole at_fault after why z = go (leb (o.at + line_room) (length o.bytes.now)) refl
      where
        go : (b : Bool) → leb (o.at + line_room) (length o.bytes.now) ≡ b → Ends s after why
        go true b = let y = z.told f refl (leb-true (o.at + line_room) (length o.bytes.now) b) in subst (Ends s after) (sym y.0) (ends_told f (at_fault f refl) after y.1)
        go false b =
            let y = z.untold f refl (leb-false (o.at + line_room) (length o.bytes.now) b) in
            subst (Ends s after) (sym y.0) (ends_short (stopped f) (at_fault f refl) (λ e. cc) s after refl y.1)

    -- a fault is met at one of the offsets that a stream can have
    pub near : (f : Fault) → next_at k.width offset rest ≡ stopped f → fault_offset f < 65536
    near f e =
        let o = stopped_near k.width offset rest f e in
        elim x.short [
          | inl h ↦ omega (arith, o, h.1)
          | inr h ↦ omega (arith, o, h)
        ]

    -- a stream ends with its last place
    pub last : 65535 < n → next_at k.width offset rest ≡ ended
    last h = elim x.short [
      | inl z ↦ absurd (omega (arith, z.0))
      | inr z ↦ nothing_more k.width offset rest z (omega (arith, x.few))
    ]

    -- a command was carried out, and its line stands
    module _ (all : bytes_only bytes ≡ true) (c : Call) (rest' : List ℕ) (offset' : ℕ) (e : next_at k.width offset rest ≡ took c rest')
        (q : offset' + length rest' ≡ offset + length rest) (t : State V S) (after : Output) (y : Answered k p n c s t o after) where
      shorter : length rest' < length rest
      shorter = taken_less k.width offset rest rest' c e

      same_line : line k n y.said ≡ line k (place x.so_far) (answer_to k p x.so_far.left c)
      same_line =
          ap (λ (m : ℕ). line k m y.said) x.at_place
          ∙ ap (line k (place x.so_far)) (y.carries.answers ∙ ap (λ (z : State V S). answer_to k p z c) (sym x.left))

      goes_now : run_on k p (length out₀) (with_command k p x.so_far c) (items_from k.width (suc (pred x.most)) offset' rest') ≡ ran k p (length out₀) s₀ bytes
      goes_now =
          let m : x.most ≡ suc (pred x.most) = suc_pred x.most (omega (arith, shorter, x.enough)) in
          let o : offset + (length rest - length rest') ≡ offset' = omega (arith, shorter, q) in
          ap (λ (z : ℕ). run_on k p (length out₀) (with_command k p x.so_far c) (items_from k.width z offset' rest')) (sym m)
          ∙ ap (λ (z : ℕ). run_on k p (length out₀) (with_command k p x.so_far c) (items_from k.width x.most z rest')) (sym o)
          ∙ sym (cond-true _ _ _ (room y.room))
          ∙ goes_with (took c rest') e

      read_now : stream_bytes k.width (x.so_far.calls ++ (c ∷ [])) ++ rest' ≡ bytes
      read_now =
          let w : ℕ = k.width in
          let front : List ℕ = stream_bytes w x.so_far.calls in
          let only : bytes_only rest ≡ true = bytes_behind front rest (ap bytes_only x.read ∙ all) in
          ap (λ (z : List ℕ). z ++ rest') (sym (flat_map_more (command_bytes w) [] x.so_far.calls c))
          ∙ append_assoc front (command_bytes w c) rest'
          ∙ ap (λ (z : List ℕ). front ++ z) (writes_back w offset rest rest' c only e)
          ∙ x.read

      pub goes_on : Going (n + 1) offset' rest' t after
      goes_on = record {
        so_far = with_command k p x.so_far c;
        most = pred x.most;
        enough = omega (arith, shorter, x.enough);
        goes = goes_now;
        left = ap (λ (z : State V S). after_call k p z c) x.left ∙ sym y.carries.leaves;
        at_place = omega (arith, x.at_place, length_push x.so_far.calls c);
        at_end = y.behind ∙ longer (line k n y.said) ∙ ap (λ (z : List ℕ). length (x.so_far.text ++ z)) same_line;
        within = omega (arith, y.behind, y.fits, y.room, long);
        stands = y.stands ∙ lines_more (line k n y.said) ∙ ap (λ (z : List ℕ). (x.so_far.text ++ z) ++ drop (length (x.so_far.text ++ z)) out₀) same_line;
        few = omega (arith, x.few, shorter, q);
        sum = omega (arith, x.sum, q);
        narrow = omega (arith, x.narrow, y.behind, y.fits);
        short = inr (let h = (found_within k.width offset rest rest' c e).0 in omega (arith, h, q));
        read = read_now;
        leads = leads_more k p s₀ s t x.so_far.calls c y.said x.leads y.carries;
      }
