-- What rows stand in, choices and cases left aside (RFC 7950 section 7.9).
use Rattle.std.proofs.Common.{◌≡◌, ◌∙◌, ◌<◌, ◌≤◌, ◌+◌, inl, inr, ℕ, zero, suc, List, [], ◌∷◌, filter, Bool, true, false, cond, Option, Some, None, slice_get, refl, sym, ap, subst, arith}
use Rattle.std.specs.Prelude.{Contains}
use Rattle.std.specs.List.{range_with_len}
use Rattle.std.proofs.lemmas.Grind.{common_steps}
use Rattle.std.proofs.lemmas.Option.{same_Some}
use Rattle.nm_schema_statements.specs.declared.row.Row.{Row}
use Rattle.nm_schema_statements.specs.declared.word.Word.{Word}
use Rattle.nm_schema_statements.specs.declared.word.Word.TheVariants as word
use Rattle.nm_schema_statements.specs.Rows.{same_parent, those_in, children}
use Rattle.nm_schema_uses.specs.Holding.{is_fork, is_fork_row, is_fork_at, is_part, is_part_row, is_part_at}
use Rattle.nm_schema_names.specs.Clash.{around_in, around, beyond, holder_of}
use Rattle.nm_schema.proofs.Elements.{nothing, first_or_later}

-- ---- numbers that ascend, from n on

abbrev pub Ascend : ℕ → List ℕ → Type 0
Ascend n [] = Unit {0}
Ascend n (k ∷ ks) = (n ≤ k) × Ascend (suc k) ks

ascend_weaker : (n m : ℕ) (ks : List ℕ) → n ≤ m → Ascend m ks → Ascend n ks
ascend_weaker n m [] le are = tt
ascend_weaker n m (k ∷ ks) le are = (omega (arith, le, are.0), are.1)

pub ascend_each : (n : ℕ) (ks : List ℕ) (j : ℕ) → Ascend n ks → Contains ks j → n ≤ j
ascend_each n [] j are c = absurd (nothing j c)
ascend_each n (k ∷ ks) j are c = elim (first_or_later k j ks c) [
  | inl e ↦ omega (arith, e, are.0)
  | inr d ↦ let l = ascend_each (suc k) ks j are.1 d in omega (arith, l, are.0)
]

ascend_put : (n k : ℕ) (ks : List ℕ) (b : Bool) → n ≤ k → Ascend (suc k) ks → Ascend n (cond b (k ∷ ks) ks)
ascend_put n k ks true le are = (le, are)
ascend_put n k ks false le are = ascend_weaker n (suc k) ks (omega (arith, le)) are

pub ascend_filter : (p : ℕ → Bool) (n : ℕ) (ks : List ℕ) → Ascend n ks → Ascend n (filter p ks)
ascend_filter p n [] are = tt
ascend_filter p n (k ∷ ks) are = ascend_put n k (filter p ks) (p k) are.0 (ascend_filter p (suc k) ks are.1)

pub ascend_range : (n m : ℕ) → Ascend n (range_with_len n m)
ascend_range n zero = tt
ascend_range n (suc m) = (omega arith, ascend_weaker (suc n) (n + 1) (range_with_len (n + 1) m) (omega arith) (ascend_range (n + 1) m))

pub ascend_those : (n : ℕ) (parent : Option ℕ) (rows : List Row) → Ascend n (those_in n parent rows)
unfolding those_in
ascend_those n parent [] = tt
ascend_those n parent (r ∷ rows) = by (same_parent r.parent parent) (ascend_those (suc n) parent rows)
  where
    by : (b : Bool) → Ascend (suc n) (those_in (suc n) parent rows) → Ascend n (cond b (n ∷ those_in (suc n) parent rows) (those_in (suc n) parent rows))
    by true rest = (omega arith, rest)
    by false rest = ascend_weaker n (suc n) (those_in (suc n) parent rows) (omega arith) rest

-- ---- what rows stand in

pub parent_is : (p : Option ℕ) (i : ℕ) → same_parent p (Some i) ≡ true → p ≡ Some i
parent_is None i e = absurd (cc)
parent_is (Some j) i e = let h : j ≡ i = grind (arith, common_steps) in ap (λ k. Some k) h

those_stand : (rows : List Row) (i n : ℕ) (rest : List Row) (k : ℕ) → ((j : ℕ) → slice_get rows (n + j) ≡ slice_get rest j) → Contains (those_in n (Some i) rest) k → around rows k ≡ Some i
unfolding those_in
those_stand rows i n [] k same c = absurd (nothing k c)
those_stand rows i n (r ∷ rest) k same c =
    by (same_parent r.parent (Some i)) refl (those_stand rows i (suc n) rest k (λ j. ap (slice_get rows) (omega arith) ∙ same (suc j))) c
  where
    first : slice_get rows n ≡ Some r
    first = ap (slice_get rows) (omega arith) ∙ same 0

    by : (b : Bool) → same_parent r.parent (Some i) ≡ b → (Contains (those_in (suc n) (Some i) rest) k → around rows k ≡ Some i)
        → Contains (cond b (n ∷ those_in (suc n) (Some i) rest) (those_in (suc n) (Some i) rest)) k → around rows k ≡ Some i
    by true is more c = elim (first_or_later n k (those_in (suc n) (Some i) rest) c) [
      | inl at ↦ ap (around rows) (sym at) ∙ ap around_in first ∙ parent_is r.parent i is
      | inr d ↦ more d
    ]
    by false is more c = more c

-- what stands directly in a row has it around it
pub stands_in : (rows : List Row) (i k : ℕ) → Contains (children rows i) k → around rows k ≡ Some i
stands_in rows i k c = those_stand rows i 0 rows k (λ j. ap (slice_get rows) (omega arith)) c

fork_word : (w : Word) → is_fork w ≡ true → is_part w ≡ true
fork_word word.Choice e = refl
fork_word word.Case e = refl
fork_word _ e = absurd (cc)

fork_row : (o : Option Row) → is_fork_row o ≡ true → is_part_row o ≡ true
fork_row None e = absurd (cc)
fork_row (Some r) e = fork_word r.word e

pub fork_part : (rows : List Row) (i : ℕ) → is_fork_at rows i ≡ true → is_part_at rows i ≡ true
unfolding is_fork_at is_part_at
fork_part rows i e = fork_row (slice_get rows i) e

-- each row stands in an earlier one
abbrev pub StandBefore : List Row → Type 0
StandBefore rows = (i p : ℕ) → around rows i ≡ Some p → p < i

beyond_more : (rows : List Row) (steps more : ℕ) (o : Option ℕ) (h : ℕ) → steps ≤ more → beyond steps rows o ≡ Some h → beyond more rows o ≡ Some h
beyond_more rows steps more None h le e = absurd (cc)
beyond_more rows zero more (Some i) h le e = absurd (cc)
beyond_more rows (suc steps) zero (Some i) h le e = absurd (omega (arith, le))
beyond_more rows (suc steps) (suc more) (Some i) h le e = by (is_fork_at rows i) (beyond_more rows steps more (around rows i) h (omega (arith, le))) e
  where
    by : (b : Bool) → (beyond steps rows (around rows i) ≡ Some h → beyond more rows (around rows i) ≡ Some h)
        → cond b (beyond steps rows (around rows i)) (Some i) ≡ Some h → cond b (beyond more rows (around rows i)) (Some i) ≡ Some h
    by true rest f = rest f
    by false rest f = f

beyond_plain : (rows : List Row) (steps : ℕ) (o : Option ℕ) (h : ℕ) → beyond steps rows o ≡ Some h → is_fork_at rows h ≡ false
beyond_plain rows steps None h e = absurd (cc)
beyond_plain rows zero (Some i) h e = absurd (cc)
beyond_plain rows (suc steps) (Some i) h e = by (is_fork_at rows i) refl (beyond_plain rows steps (around rows i) h) e
  where
    by : (b : Bool) → is_fork_at rows i ≡ b → (beyond steps rows (around rows i) ≡ Some h → is_fork_at rows h ≡ false) → cond b (beyond steps rows (around rows i)) (Some i) ≡ Some h → is_fork_at rows h ≡ false
    by true is rest f = rest f
    by false is rest f = ap (is_fork_at rows) (sym (same_Some i h f)) ∙ is

beyond_fork : (rows : List Row) (k p h : ℕ) → p < k → is_fork_at rows p ≡ true → beyond p rows (around rows p) ≡ Some h → beyond k rows (Some p) ≡ Some h
beyond_fork rows zero p h lt fork e = absurd (omega (arith, lt))
beyond_fork rows (suc k) p h lt fork e = ap (λ b. cond b (beyond k rows (around rows p)) (Some p)) fork ∙ beyond_more rows p k (around rows p) h (omega (arith, lt)) e

beyond_first : (rows : List Row) (k p : ℕ) → p < k → is_fork_at rows p ≡ false → beyond k rows (Some p) ≡ Some p
beyond_first rows zero p lt plain = absurd (omega (arith, lt))
beyond_first rows (suc k) p lt plain = ap (λ b. cond b (beyond k rows (around rows p)) (Some p)) plain

part_if : (b : Bool) (o : Option ℕ) (h : ℕ) → cond b o None ≡ Some h → (b ≡ true) × (o ≡ Some h)
part_if true o h e = (refl, e)
part_if false o h e = absurd (cc)

pub held_part : (rows : List Row) (k h : ℕ) → holder_of rows k ≡ Some h → (is_part_at rows k ≡ true) × (beyond k rows (around rows k) ≡ Some h)
unfolding holder_of
held_part rows k h e = part_if (is_part_at rows k) (beyond k rows (around rows k)) h e

part_held : (rows : List Row) (k h : ℕ) → is_part_at rows k ≡ true → beyond k rows (around rows k) ≡ Some h → holder_of rows k ≡ Some h
unfolding holder_of
part_held rows k h part e = ap (λ b. cond b (beyond k rows (around rows k)) None) part ∙ e

-- what holds a row is neither a choice nor a case
pub held_plain : (rows : List Row) (k h : ℕ) → holder_of rows k ≡ Some h → is_fork_at rows h ≡ false
held_plain rows k h e = beyond_plain rows k (around rows k) h (held_part rows k h e).1

module _ (rows : List Row) (before : StandBefore rows) where
  -- what stands in a choice or a case stands where that does
  pub held_inner : (k p h : ℕ) → is_part_at rows k ≡ true → around rows k ≡ Some p → is_fork_at rows p ≡ true → holder_of rows p ≡ Some h → holder_of rows k ≡ Some h
  held_inner k p h part in_p fork e =
      part_held rows k h part (ap (beyond k rows) in_p ∙ beyond_fork rows k p h (before k p in_p) fork (held_part rows p h e).1)

  -- and what stands in another row stands there
  pub held_directly : (k p : ℕ) → is_part_at rows k ≡ true → around rows k ≡ Some p → is_fork_at rows p ≡ false → holder_of rows k ≡ Some p
  held_directly k p part in_p plain = part_held rows k p part (ap (beyond k rows) in_p ∙ beyond_first rows k p (before k p in_p) plain)

  module _ (outer : (i : ℕ) → is_part_at rows i ≡ true → around rows i ≡ None → ⊥) where
    held_below : (n i : ℕ) → i < n → is_part_at rows i ≡ true → (h : ℕ) × (holder_of rows i ≡ Some h)
    held_below zero i lt part = absurd (omega (arith, lt))
    held_below (suc n) i lt part = by (around rows i) refl (λ p less. held_below n p less)
      where
        within : (p : ℕ) (b : Bool) → around rows i ≡ Some p → is_fork_at rows p ≡ b → ((part : is_part_at rows p ≡ true) → (h : ℕ) × (holder_of rows p ≡ Some h)) → (h : ℕ) × (holder_of rows i ≡ Some h)
        within p false in_p plain rest = (p, held_directly i p part in_p plain)
        within p true in_p fork rest = let r = rest (fork_part rows p fork) in (r.0, held_inner i p r.0 part in_p fork r.1)

        by : (o : Option ℕ) → around rows i ≡ o → ((p : ℕ) → p < n → is_part_at rows p ≡ true → (h : ℕ) × (holder_of rows p ≡ Some h)) → (h : ℕ) × (holder_of rows i ≡ Some h)
        by None e below = absurd (outer i part e)
        by (Some p) e below = within p (is_fork_at rows p) e refl (below p (let lower = before i p e in omega (arith, lt, lower)))

    -- each node, uses, choice and case stands in some row
    pub held : (i : ℕ) → is_part_at rows i ≡ true → (h : ℕ) × (holder_of rows i ≡ Some h)
    held i part = held_below (suc i) i (omega arith) part

-- ---- rows below others

-- row k is row p, or stands in it, at any depth
pub data Under (rows : List Row) (p : ℕ) : ℕ → Type 0 where
  itself : Under rows p p
  inner : {k : ℕ} (q : ℕ) → around rows k ≡ Some q → Under rows p q → Under rows p k

pub under_up : (rows : List Row) (p k j : ℕ) → around rows k ≡ Some p → Under rows k j → Under rows p j
under_up rows p k j e itself = inner p e itself
under_up rows p k j e (inner q f u) = inner q f (under_up rows p k q e u)

module _ (rows : List Row) (before : StandBefore rows) where
  under_after : (p k : ℕ) → Under rows p k → p ≤ k
  under_after p k itself = omega arith
  under_after p k (inner q f u) = let low = before k q f in let at = under_after p q u in omega (arith, low, at)

  -- of the rows that stand directly in one, a row is under one
  pub under_one : (i j q k : ℕ) → around rows i ≡ Some q → around rows j ≡ Some q → Under rows i k → Under rows j k → i ≡ j
  under_one i j q k in_i in_j itself itself = refl
  under_one i j q k in_i in_j itself (inner r f u) =
      let same : q ≡ r = same_Some q r (sym in_i ∙ f) in
      let low = before j q in_j in
      let at = under_after j r u in
      absurd (omega (arith, same, low, at))
  under_one i j q k in_i in_j (inner r f u) itself =
      let same : q ≡ r = same_Some q r (sym in_j ∙ f) in
      let low = before i q in_i in
      let at = under_after i r u in
      absurd (omega (arith, same, low, at))
  under_one i j q k in_i in_j (inner r f u) (inner s g v) =
      let same : s ≡ r = same_Some s r (sym g ∙ f) in
      under_one i j q r in_i in_j u (subst (λ (x : ℕ). Under rows j x) same v)
