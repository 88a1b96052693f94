-- What rows stand in, choices and cases left aside.
use Rattle.std.proofs.Common.{◌≡◌, ◌≢◌, ◌<◌, ◌≤◌, ℕ, zero, suc, List, length, true, false, Option, Some, None, IfSome, slice_get, if◌then◌else◌, refl, arith}
use Rattle.std.proofs.lemmas.Option.{IfSome_then}
use Rattle.std.proofs.lemmas.Grind.{common_steps}
use Rattle.nm_schema_statements.specs.declared.word.Word.{Word}
use Rattle.nm_schema_statements.specs.declared.word.Word.TheVariants as word
use Rattle.nm_schema_statements.specs.declared.row.Row.{Row}
use Rattle.nm_schema_statements.specs.Rows.{same_parent, AreRows}
use Rattle.nm_schema_uses.specs.Holding.{is_fork, is_fork_row, is_fork_at, is_part, is_part_row, is_part_at}
use Rattle.nm_schema_names.specs.Clash.{around_in, around, beyond, holder_of}

fork_part : (w : Word) → is_fork w ≡ true → is_part w ≡ true
fork_part word.Choice e = refl
fork_part word.Case e = refl
fork_part _ e = absurd (cc)

fork_part_in : (row : Option Row) → is_fork_row row ≡ true → is_part_row row ≡ true
fork_part_in None e = absurd (cc)
fork_part_in (Some r) e = fork_part r.word e

fork-part : (rows : List Row) (i : ℕ) → is_fork_at rows i ≡ true → is_part_at rows i ≡ true
unfolding is_fork_at is_part_at
fork-part rows i e = fork_part_in (slice_get rows i) e

if_some : (o : Option ℕ) (P : ℕ → Type 0) → ((p : ℕ) → o ≡ Some p → P p) → IfSome o P
if_some None P h = tt
if_some (Some p) P h = h p refl

pub other_row : (h i : ℕ) → i ≢ h → same_parent (Some h) (Some i) ≡ false
other_row h i ne = grind (arith, common_steps)

pub same_row : (h : ℕ) → same_parent (Some h) (Some h) ≡ true
same_row h = grind (arith, common_steps)

pub some_if : (o : Option ℕ) (P : ℕ → Type 0) (p : ℕ) → o ≡ Some p → IfSome o P → P p
some_if None P p e h = absurd (cc)
some_if (Some q) P p e h = let f : p ≡ q = cc in rw f h

module _ (rows : List Row) (laws : AreRows rows) where
  around_before : (i p : ℕ) (row : Option Row) → slice_get rows i ≡ row → around_in row ≡ Some p → p < i
  around_before i p None is e = absurd (cc)
  around_before i p (Some r) is e = laws.parents i p r is e

  around-before : (i n : ℕ) → i ≤ n → IfSome (around rows i) (λ p. p < n)
  around-before i n le = if_some (around rows i) (λ p. p < n) (λ p e. let lt = around_before i p (slice_get rows i) refl e in omega arith)

  -- more steps come no further
  beyond-same : (n m : ℕ) (start : Option ℕ) → IfSome start (λ q. q < n) → n ≤ m → beyond n rows start ≡ beyond m rows start
  beyond-same n m None h le = refl
  beyond-same zero m (Some q) h le = absurd (omega arith)
  beyond-same (suc n) zero (Some q) h le = absurd (omega arith)
  beyond-same (suc n) (suc m) (Some q) h le =
      elim (is_fork_at rows q) as (λ b. (if b then beyond n rows (around rows q) else Some q) ≡ (if b then beyond m rows (around rows q) else Some q)) [
        | true ↦ beyond-same n m (around rows q) (around-before q n (omega arith)) (omega arith)
        | false ↦ refl
      ]

  beyond-before : (n k : ℕ) (start : Option ℕ) → IfSome start (λ q. q < k) → IfSome (beyond n rows start) (λ h. h < k)
  beyond-before n k None h = tt
  beyond-before zero k (Some q) h = tt
  beyond-before (suc n) k (Some q) h =
      elim (is_fork_at rows q) as (λ b. IfSome (if b then beyond n rows (around rows q) else Some q) (λ h. h < k)) [
        | true ↦ beyond-before n k (around rows q) (around-before q k (omega arith))
        | false ↦ h
      ]

  pub holder-before : (i : ℕ) → IfSome (holder_of rows i) (λ h. h < i)
  unfolding holder_of
  holder-before i =
      elim (is_part_at rows i) as (λ b. IfSome (if b then beyond i rows (around rows i) else None) (λ h. h < i)) [
        | true ↦ beyond-before i i (around rows i) (around-before i i (omega arith))
        | false ↦ tt
      ]

  pub held-within : (i : ℕ) (holder : Option ℕ) → i < length rows → holder ≡ holder_of rows i → IfSome holder (λ h. h < length rows)
  held-within i holder lt is = rw is (IfSome_then (holder_of rows i) (holder-before i) (λ h before. omega arith))

  beyond-fork : (steps p : ℕ) → p < steps → is_fork_at rows p ≡ true → beyond p rows (around rows p) ≡ beyond steps rows (Some p)
  beyond-fork zero p lt fork = absurd (omega arith)
  beyond-fork (suc steps) p lt fork = rw fork (beyond-same p steps (around rows p) (around-before p p (omega arith)) (omega arith))

  pub holder-fork : (i p : ℕ) → is_part_at rows i ≡ true → around rows i ≡ Some p → is_fork_at rows p ≡ true → holder_of rows p ≡ holder_of rows i
  unfolding holder_of
  holder-fork i p part is fork = let lt = around_before i p (slice_get rows i) refl is in rw (part, is, fork-part rows p fork) (beyond-fork i p lt fork)
