-- How rows are put one behind the other.
use Rattle.std.proofs.Common.{◌≡◌, ℕ, zero, suc, ◌+◌, ◌<◌, ◌≤◌, List, [], ◌∷◌, ◌++◌, length, get_or, drop, drop-cons, add-one, true, false, Option, Some, None, Result, OnOk, if◌then◌else◌, refl, sym, ap, ◌∙◌, subst, arith, append_assoc, length-append}
use Rattle.std.proofs.lemmas.Grind.{common_steps}
use Rattle.std.proofs.lemmas.List.{append-nil}
use Rattle.std.proofs.lemmas.Result.{on_ok_weaker}
use Rattle.nm_base.specs.declared.fault.NoMemory.{NoMemory}
use Rattle.nm_yang.specs.Tree.{Tree, Trees, statement, more, trees_of, tree_size, trees_size}
use Rattle.nm_yang.specs.Grammar.{keyword_of}
use Rattle.nm_schema_statements.specs.declared.row.Row.{Row}
use Rattle.nm_schema_statements.specs.Word.{word_of}
use Rattle.nm_schema_statements.specs.Rows.{is_skipped, is_opened, row_for, rows_from, rows_within, rows_kept, rows_after, IsIndexed}

-- among the statements of a row, what is there and what is to come make all of them
pub record IsPut (owner parent : ℕ) (old : List Row) (all : List Tree) (now : List Row) (below : List (List ℕ)) (top : List ℕ) (left : List Tree) : Type 0 where
  pub put : now ++ rows_within owner parent (length now) (trees_of left) ≡ old ++ rows_within owner parent (length old) (trees_of all)
  pub indexed : IsIndexed now below top
  pub earlier : parent < length now

pub within-step : (owner parent n : ℕ) (t : Tree) (ts : Trees)
    → rows_within owner parent n (more t ts) ≡ rows_kept owner parent n t ++ rows_within owner parent (n + length (rows_kept owner parent n t)) ts
unfolding rows_within
within-step owner parent n t ts =
    let z : n ≡ n + 0 = omega arith in
    elim (is_skipped (word_of (keyword_of t))) as (λ b.
    (if b then rows_within owner parent n ts else (rows_from owner (Some parent) n t ++ rows_within owner parent (n + length (rows_from owner (Some parent) n t)) ts))
    ≡ (if b then [] else rows_from owner (Some parent) n t) ++ rows_within owner parent (n + length (if b then [] else rows_from owner (Some parent) n t)) ts) [
      | true ↦ ap (λ k. rows_within owner parent k ts) z
      | false ↦ refl
    ]

pub put_step : (owner parent : ℕ) (old : List Row) (all : List Tree) (now next : List Row) (below after : List (List ℕ)) (top tops : List ℕ) (t : Tree) (left : List Tree)
    → IsPut owner parent old all now below top (t ∷ left) → next ≡ now ++ rows_kept owner parent (length now) t → IsIndexed next after tops
    → IsPut owner parent old all next after tops left
put_step owner parent old all now next below after top tops t left h is indexed =
    let kept : List Row = rows_kept owner parent (length now) t in
    let len : length next ≡ length now + length kept = ap (λ (l : List Row). length l) is ∙ length-append now kept in
    let earlier = h.earlier in
    record {
      put =
          ap (λ (l : List Row). l ++ rows_within owner parent (length next) (trees_of left)) is
          ∙ append_assoc now kept (rows_within owner parent (length next) (trees_of left))
          ∙ ap (λ k. now ++ (kept ++ rows_within owner parent k (trees_of left))) len
          ∙ ap (λ (l : List Row). now ++ l) (sym (within-step owner parent (length now) t (trees_of left)))
          ∙ h.put;
      indexed = indexed;
      earlier = omega arith;
    }

pub put_end : (owner parent : ℕ) (old : List Row) (all : List Tree) (now : List Row) (below : List (List ℕ)) (top : List ℕ)
    → IsPut owner parent old all now below top [] → now ≡ old ++ rows_within owner parent (length old) (trees_of all)
unfolding rows_within
put_end owner parent old all now below top h = sym (append-nil now) ∙ h.put

pub from_closed : (owner : ℕ) (parent : Option ℕ) (n : ℕ) (keyword : List ℕ) (argument : Option (List ℕ)) (place : ℕ) (below : Trees) (old now : List Row)
    → is_opened (word_of keyword) ≡ false → now ≡ old ++ row_for owner parent keyword argument place ∷ []
    → now ≡ old ++ rows_from owner parent n (statement keyword argument place below)
unfolding rows_from
from_closed owner parent n keyword argument place below old now closed is = is ∙ rw closed refl

pub from_opened : (owner : ℕ) (parent : Option ℕ) (n : ℕ) (keyword : List ℕ) (argument : Option (List ℕ)) (place : ℕ) (below : Trees) (old out now : List Row)
    → is_opened (word_of keyword) ≡ true → n ≡ length old → out ≡ old ++ row_for owner parent keyword argument place ∷ [] → now ≡ out ++ rows_within owner n (length out) below
    → now ≡ old ++ rows_from owner parent n (statement keyword argument place below)
unfolding rows_from
from_opened owner parent n keyword argument place below old out now opened at is added =
    let row : Row = row_for owner parent keyword argument place in
    let len : length out ≡ length old + 1 = ap (λ (l : List Row). length l) is ∙ length-append old (row ∷ []) in
    let next : length out ≡ suc n = omega arith in
    added ∙ ap (λ k. out ++ rows_within owner n k below) next ∙ ap (λ (l : List Row). l ++ rows_within owner n (suc n) below) is
    ∙ append_assoc old (row ∷ []) (rows_within owner n (suc n) below) ∙ rw opened refl

-- so many modules are put, and the others are to come
pub record ArePut (k : ℕ) (now : List Row) (below : List (List ℕ)) (top : List ℕ) (left all : List Tree) : Type 0 where
  pub put : now ++ rows_after k (length now) left ≡ rows_after 0 0 all
  pub indexed : IsIndexed now below top

pub modules_step : (k : ℕ) (now next : List Row) (below after : List (List ℕ)) (top tops : List ℕ) (t : Tree) (left all : List Tree)
    → ArePut k now below top (t ∷ left) all → next ≡ now ++ rows_from k None (length now) t → IsIndexed next after tops
    → ArePut (k + 1) next after tops left all
unfolding rows_after
modules_step k now next below after top tops t left all h is indexed =
    let these : List Row = rows_from k None (length now) t in
    let len : length next ≡ length now + length these = ap (λ (l : List Row). length l) is ∙ length-append now these in
    let one : k + 1 ≡ suc k = omega arith in
    record {
      put =
          ap (λ (l : List Row). l ++ rows_after (k + 1) (length next) left) is
          ∙ append_assoc now these (rows_after (k + 1) (length next) left)
          ∙ ap (λ i. now ++ (these ++ rows_after (k + 1) i left)) len
          ∙ ap (λ i. now ++ (these ++ rows_after i (length now + length these) left)) one
          ∙ h.put;
      indexed = indexed;
    }

pub modules_end : (k : ℕ) (now : List Row) (below : List (List ℕ)) (top : List ℕ) (all : List Tree) → ArePut k now below top [] all → now ≡ rows_after 0 0 all
unfolding rows_after
modules_end k now below top all h = sym (append-nil now) ∙ h.put

pub modules_start : (all : List Tree) (now : List Row) (below : List (List ℕ)) (top : List ℕ) → now ≡ [] → IsIndexed now below top → ArePut 0 now below top all all
modules_start all now below top empty indexed =
    record { put = rw empty refl; indexed = indexed }

-- ---- at the places of the code

dropped : {X : Type 0} (xs : List X) (i : ℕ) (x : X) → i < length xs → x ≡ get_or xs i x → drop i xs ≡ x ∷ drop (i + 1) xs
dropped xs i x lt is = drop-cons xs i x lt ∙ rw (add-one, ← is) refl

dropped_all : {X : Type 0} (xs : List X) (i : ℕ) → length xs ≤ i → drop i xs ≡ []
dropped_all xs i le = grind (arith, common_steps)

pub put_next : (owner parent : ℕ) (old : List Row) (all : List Tree) (now next : List Row) (below after : List (List ℕ)) (top tops : List ℕ) (i : ℕ) (t : Tree)
    → IsPut owner parent old all now below top (drop i all) → i < length all → t ≡ get_or all i t → next ≡ now ++ rows_kept owner parent (length now) t → IsIndexed next after tops
    → IsPut owner parent old all next after tops (drop (i + 1) all)
put_next owner parent old all now next below after top tops i t h lt at is indexed =
    put_step owner parent old all now next below after top tops t (drop (i + 1) all) (subst (λ l. IsPut owner parent old all now below top l) (dropped all i t lt at) h) is indexed

pub put_all : (owner parent : ℕ) (old : List Row) (all : List Tree) (now : List Row) (below : List (List ℕ)) (top : List ℕ) (i : ℕ)
    → IsPut owner parent old all now below top (drop i all) → length all ≤ i → now ≡ old ++ rows_within owner parent (length old) (trees_of all)
put_all owner parent old all now below top i h le =
    put_end owner parent old all now below top (subst (λ l. IsPut owner parent old all now below top l) (dropped_all all i le) h)

pub modules_next : (now next : List Row) (below after : List (List ℕ)) (top tops : List ℕ) (all : List Tree) (k : ℕ) (t : Tree)
    → ArePut k now below top (drop k all) all → k < length all → t ≡ get_or all k t → next ≡ now ++ rows_from k None (length now) t → IsIndexed next after tops
    → ArePut (k + 1) next after tops (drop (k + 1) all) all
modules_next now next below after top tops all k t h lt at is indexed =
    modules_step k now next below after top tops t (drop (k + 1) all) all (subst (λ l. ArePut k now below top l all) (dropped all k t lt at) h) is indexed

pub modules_all : (now : List Row) (below : List (List ℕ)) (top : List ℕ) (all : List Tree) (k : ℕ)
    → ArePut k now below top (drop k all) all → length all ≤ k → now ≡ rows_after 0 0 all
modules_all now below top all k h le =
    modules_end k now below top all (subst (λ l. ArePut k now below top l all) (dropped_all all k le) h)

pub kept_is : (owner parent n : ℕ) (t : Tree) (old now : List Row)
    → is_skipped (word_of (keyword_of t)) ≡ false → now ≡ old ++ rows_from owner (Some parent) n t → now ≡ old ++ rows_kept owner parent n t
kept_is owner parent n t old now kept is = is ∙ rw kept refl

pub module_put : (owner n : ℕ) (keyword : List ℕ) (argument : Option (List ℕ)) (place : ℕ) (below : Trees) (old out now : List Row)
    → is_opened (word_of keyword) ≡ true → out ≡ old ++ row_for owner None keyword argument place ∷ [] → n ≡ length old → (r : Result (Unit {0}) NoMemory)
    → OnOk r (now ≡ out ++ rows_within owner n (length out) below) → OnOk r (now ≡ old ++ rows_from owner None n (statement keyword argument place below))
module_put owner n keyword argument place below old out now opened is at r put =
    on_ok_weaker r (λ p. from_opened owner None n keyword argument place below old out now opened at is p) put

pub kept_put : (owner parent n : ℕ) (keyword : List ℕ) (argument : Option (List ℕ)) (place : ℕ) (below : Trees) (old out now : List Row)
    → is_skipped (word_of keyword) ≡ false → is_opened (word_of keyword) ≡ true → out ≡ old ++ row_for owner (Some parent) keyword argument place ∷ [] → n ≡ length old → (r : Result (Unit {0}) NoMemory)
    → OnOk r (now ≡ out ++ rows_within owner n (length out) below) → OnOk r (now ≡ old ++ rows_kept owner parent n (statement keyword argument place below))
kept_put owner parent n keyword argument place below old out now kept opened is at r put =
    on_ok_weaker r (λ p. kept_is owner parent n (statement keyword argument place below) old now kept (from_opened owner (Some parent) n keyword argument place below old out now opened at is p)) put

-- no statement is larger than those among which it stands
pub item_size : (ts : List Tree) (i : ℕ) (t : Tree) → i < length ts → t ≡ get_or ts i t → tree_size t ≤ trees_size (trees_of ts)
item_size [] i t lt is = absurd (omega arith)
item_size (u ∷ ts) zero t lt is = let e : tree_size t ≡ tree_size u = ap tree_size is in omega arith
item_size (u ∷ ts) (suc i) t lt is = let h = item_size ts i t (omega arith) is in omega arith
