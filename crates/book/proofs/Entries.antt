-- The entries of an order, one after another.
use Rattle.std.proofs.Common.{◌≡◌, ℕ, zero, suc, ◌+◌, ◌*◌, ◌<◌, ◌≤◌, Bool, true, false, cond, ◌||◌, T, eqb, leb, ltb, List, [], ◌∷◌, ◌++◌, length, get_or, drop, set, Some, None, Ok, Err, Option, Result, sym, refl, ap, ◌∙◌, subst, inl, inr, append_assoc, append-nil, add-one, arith, length-append, drop_of_length-le, drop-cons, leb→le}
use lib.Seq.{get_or-append_seam}
use Rattle.std.proofs.lemmas.List.{get_or_append_left}
use Rattle.std.proofs.lemmas.Bool.{cases_eq}
use Rattle.model.specs.declared.refusals.Refusal.{Refusal}
use Rattle.model.specs.declared.refusals.Refusal.TheVariants.{EntrySetting, EntryRepeated, EntryValue}
use Rattle.model.specs.Lists.{among, below, map_list}
use Rattle.model.specs.Orders.{order_formed, most_entries, entry_size, entry_count}
use Rattle.model.specs.Calls.{put_all, checked_entries, named}
use Rattle.model.proofs.Tests.{and_l, and_r}
use Rattle.commands.specs.Writing.{entries_if_formed}
use Rattle.book.specs.Entries.{with_value, valued, settings_of}

module _ {V : Type 0} where
  put_last : (row : List V) (es : List (ℕ × V)) (e : ℕ) (v : V) → put_all row (es ++ ((e, v) ∷ [])) ≡ set (put_all row es) e v
  put_last row [] e v = refl
  put_last row (x ∷ es) e v = put_last (set row x.0 x.1) es e v

  module _ (reading : List ℕ → Option V) (raw : ℕ → ℕ × List ℕ) (row : List V) (i : ℕ) where
    pub put_none : reading (raw i).1 ≡ None → put_all row (valued reading raw (i + 1)) ≡ put_all row (valued reading raw i)
    put_none e = ap (λ (n : ℕ). put_all row (valued reading raw n)) (add-one i) ∙ ap (λ (o : Option V). put_all row (valued reading raw i ++ with_value (raw i).0 o)) e ∙ ap (put_all row) (append-nil (valued reading raw i))

    pub put_some : (v : V) → reading (raw i).1 ≡ Some v → put_all row (valued reading raw (i + 1)) ≡ set (put_all row (valued reading raw i)) (raw i).0 v
    put_some v e = ap (λ (n : ℕ). put_all row (valued reading raw n)) (add-one i) ∙ ap (λ (o : Option V). put_all row (valued reading raw i ++ with_value (raw i).0 o)) e ∙ put_last row (valued reading raw i) (raw i).0 v

-- the checks of the entries

module _ {A : Type 0} (f : ℕ → A) where
  map_last : (xs : List ℕ) (y : ℕ) → map_list f (xs ++ (y ∷ [])) ≡ map_list f xs ++ (f y ∷ [])
  map_last [] y = refl
  map_last (x ∷ xs) y = ap (λ (zs : List A). f x ∷ zs) (map_last xs y)

  length_below : (n : ℕ) → length (map_list f (below n)) ≡ n
  length_below zero = refl
  length_below (suc n) =
      let more = ap length (map_last (below n) n) in
      let sum = length-append (map_list f (below n)) (f n ∷ []) in
      let less = length_below n in
      omega arith

  at_below : (n i : ℕ) (d : A) → i < n → get_or (map_list f (below n)) i d ≡ f i
  at_below zero i d h = absurd (omega arith)
  at_below (suc n) i d h = ap (λ (zs : List A). get_or zs i d) (map_last (below n) n) ∙ elim (cases_eq i n) [
    | inl e ↦
        let same : i ≡ length (map_list f (below n)) = e ∙ sym (length_below n) in
        ap (λ (k : ℕ). get_or (map_list f (below n) ++ (f n ∷ [])) k d) same ∙ get_or-append_seam (map_list f (below n)) (f n) [] d ∙ ap f (sym e)
    | inr ne ↦
        let long = length_below n in
        get_or_append_left (map_list f (below n)) (f n ∷ []) d i (omega arith) ∙ at_below n i d (omega arith)
  ]

  drop_below : (n i : ℕ) → i < n → drop i (map_list f (below n)) ≡ f i ∷ drop (suc i) (map_list f (below n))
  drop_below n i h =
      let long = length_below n in
      drop-cons (map_list f (below n)) i (f i) (omega arith) ∙ ap (λ (x : A). x ∷ drop (suc i) (map_list f (below n))) (at_below n i (f i) h)

abbrev Checked : Type 0 → Type 0
Checked V = Result (List (ℕ × V)) Refusal

module _ {V : Type 0} where
  -- what the checks make of one entry, where `more` is what they make of the rest
  abbrev one_entry : ℕ → ℕ → Bool → Bool → Option V → Checked V → Checked V
  one_entry i x c d o more = elim c [
    | false ↦ Err (EntrySetting i)
    | true ↦ elim d [
      | true ↦ Err (EntryRepeated i)
      | false ↦ elim o [
        | None ↦ Err (EntryValue i)
        | Some v ↦ elim more [ Ok es ↦ Ok ((x, v) ∷ es) | Err r ↦ Err r ]
      ]
    ]
  ]

  -- entries that were checked, in front of what the checks make of the rest
  abbrev pub after : List (ℕ × V) → Checked V → Checked V
  after done (Ok es) = Ok (done ++ es)
  after done (Err r) = Err r

  module _ (reading : List ℕ → Option V) (e : ℕ) (raw : ℕ → ℕ × List ℕ) (n : ℕ) where
    abbrev rest : ℕ → Checked V
    rest i = checked_entries reading e (suc i) (settings_of raw i) (drop i (map_list raw (below n)))

    -- what the checks make of all entries, once the first i have passed
    abbrev pub all_from : ℕ → Checked V
    all_from i = after (valued reading raw i) (rest i)

    pub all_end : all_from n ≡ Ok (valued reading raw n)
    all_end =
        let long = length_below raw n in
        ap (λ (raws : List (ℕ × List ℕ)). after (valued reading raw n) (checked_entries reading e (suc n) (settings_of raw n) raws)) (drop_of_length-le (map_list raw (below n)) (omega arith))
        ∙ ap Ok (append-nil (valued reading raw n))

    module _ (i : ℕ) (h : i < n) where
      split : rest i ≡ one_entry (suc i) (raw i).0 (ltb (raw i).0 e) (among (raw i).0 (settings_of raw i)) (reading (raw i).1) (rest (suc i))
      split = ap (checked_entries reading e (suc i) (settings_of raw i)) (drop_below raw n i h)

      pub no_setting : ltb (raw i).0 e ≡ false → all_from i ≡ Err (EntrySetting (suc i))
      no_setting p = ap (after (valued reading raw i)) (split ∙ ap (λ (c : Bool). one_entry (suc i) (raw i).0 c (among (raw i).0 (settings_of raw i)) (reading (raw i).1) (rest (suc i))) p)

      module _ (low : ltb (raw i).0 e ≡ true) where
        next : rest i ≡ one_entry (suc i) (raw i).0 true (among (raw i).0 (settings_of raw i)) (reading (raw i).1) (rest (suc i))
        next = split ∙ ap (λ (c : Bool). one_entry (suc i) (raw i).0 c (among (raw i).0 (settings_of raw i)) (reading (raw i).1) (rest (suc i))) low

        pub repeated : among (raw i).0 (settings_of raw i) ≡ true → all_from i ≡ Err (EntryRepeated (suc i))
        repeated p = ap (after (valued reading raw i)) (next ∙ ap (λ (d : Bool). one_entry (suc i) (raw i).0 true d (reading (raw i).1) (rest (suc i))) p)

        module _ (new : among (raw i).0 (settings_of raw i) ≡ false) where
          last : rest i ≡ one_entry (suc i) (raw i).0 true false (reading (raw i).1) (rest (suc i))
          last = next ∙ ap (λ (d : Bool). one_entry (suc i) (raw i).0 true d (reading (raw i).1) (rest (suc i))) new

          pub no_value : reading (raw i).1 ≡ None → all_from i ≡ Err (EntryValue (suc i))
          no_value p = ap (after (valued reading raw i)) (last ∙ ap (λ (o : Option V). one_entry (suc i) (raw i).0 true false o (rest (suc i))) p)

          pub passed : (v : V) → reading (raw i).1 ≡ Some v → all_from i ≡ all_from (suc i)
          passed v p =
              ap (after (valued reading raw i)) (last ∙ ap (λ (o : Option V). one_entry (suc i) (raw i).0 true false o (rest (suc i))) p)
              ∙ go (rest (suc i))
              ∙ ap (λ (o : Option V). after (valued reading raw i ++ with_value (raw i).0 o) (rest (suc i))) (sym p)
            where
              go : (r : Checked V) → after (valued reading raw i) (one_entry (suc i) (raw i).0 true false (Some v) r) ≡ after (valued reading raw i ++ (((raw i).0, v) ∷ [])) r
              go (Ok es) = ap Ok (sym (append_assoc (valued reading raw i) (((raw i).0, v) ∷ []) es))
              go (Err r) = refl

-- the settings that were named so far

among_last : (d : ℕ) (xs : List ℕ) (y : ℕ) → among d (xs ++ (y ∷ [])) ≡ (eqb d y || among d xs)
among_last d [] y = refl
among_last d (x ∷ xs) y = ap (λ v. eqb d x || v) (among_last d xs y) ∙ go (eqb d x) (eqb d y) (among d xs)
  where
    go : (u v w : Bool) → (u || (v || w)) ≡ (v || (u || w))
    go true true w = refl
    go true false w = refl
    go false v w = refl

module _ {V : Type 0} where
  named_last : (es : List (ℕ × V)) (e : ℕ) (v : V) → named (es ++ ((e, v) ∷ [])) ≡ named es ++ (e ∷ [])
  named_last [] e v = refl
  named_last (x ∷ es) e v = ap (λ (ds : List ℕ). x.0 ∷ ds) (named_last es e v)

  pub named_more : (reading : List ℕ → Option V) (raw : ℕ → ℕ × List ℕ) (i : ℕ) (v : V) → reading (raw i).1 ≡ Some v
      → ((d : ℕ) → among d (named (valued reading raw i)) ≡ among d (settings_of raw i))
      → (d : ℕ) → among d (named (valued reading raw (suc i))) ≡ among d (settings_of raw (suc i))
  named_more reading raw i v p h d =
      ap (λ (o : Option V). among d (named (valued reading raw i ++ with_value (raw i).0 o))) p
      ∙ ap (among d) (named_last (valued reading raw i) (raw i).0 v)
      ∙ among_last d (named (valued reading raw i)) (raw i).0
      ∙ ap (λ u. eqb d (raw i).0 || u) (h d)

-- an order that is formed has no more entries than may be
pub formed_few : (w : ℕ) (bytes : List ℕ) (n : ℕ) → Some n ≡ entries_if_formed w bytes → entry_count w bytes ≤ most_entries
formed_few w bytes n p = go (order_formed w bytes) refl p
  where
    go : (v : Bool) → order_formed w bytes ≡ v → Some n ≡ cond v (Some (entry_count w bytes)) None → entry_count w bytes ≤ most_entries
    go true e q = leb→le (entry_count w bytes) most_entries (and_l (leb (entry_count w bytes) most_entries) _ (and_r (eqb (entry_count w bytes * entry_size w) (length bytes)) _ (subst T (sym e) tt)))
    go false e q = let z : ◌≡◌ {A = ℕ} 0 1 = cc in absurd (omega arith)
