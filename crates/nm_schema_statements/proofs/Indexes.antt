-- What stands in what, after a row more.
use Rattle.std.proofs.Common.{◌≡◌, ◌≢◌, ◌⊎◌, ℕ, suc, ◌+◌, ◌<◌, ◌≤◌, List, [], ◌∷◌, ◌++◌, length, get_or, set, true, false, Option, Some, None, if◌then◌else◌, refl, sym, ap, ◌∙◌, subst, inl, inr, arith, length-append}
use Rattle.std.proofs.lemmas.Grind.{common_steps}
use Rattle.std.proofs.lemmas.List.{append-nil, length-set, get_or-set_same, get_or-set_other}
use Rattle.nm_schema_statements.specs.declared.row.Row.{Row}
use Rattle.nm_schema_statements.specs.Rows.{same_parent, those_in, children, roots, stands_before, ParentsBefore, IsIndexed}

pub those_in-push : (n : ℕ) (p : Option ℕ) (rows : List Row) (r : Row)
    → those_in n p (rows ++ r ∷ []) ≡ those_in n p rows ++ (if same_parent r.parent p then (n + length rows) ∷ [] else [])
unfolding those_in
those_in-push n p [] r = elim (same_parent r.parent p) as (λ b. (if b then n ∷ [] else []) ≡ [] ++ (if b then (n + 0) ∷ [] else [])) [ true ↦ grind arith | false ↦ refl ]
those_in-push n p (s ∷ rows) r =
    let e : n + length (s ∷ rows) ≡ suc n + length rows = omega arith in
    let h = those_in-push (suc n) p rows r in
    rw e (elim (same_parent s.parent p) as (λ b. (if b then n ∷ those_in (suc n) p (rows ++ r ∷ []) else those_in (suc n) p (rows ++ r ∷ [])) ≡ (if b then n ∷ those_in (suc n) p rows else those_in (suc n) p rows) ++ (if same_parent r.parent p then (suc n + length rows) ∷ [] else [])) [
      | true ↦ ap (λ (l : List ℕ). n ∷ l) h
      | false ↦ h
    ])

other_parent : (n m : ℕ) (p : Option ℕ) → stands_before n p → n ≤ m → same_parent p (Some m) ≡ false
other_parent n m None b le = refl
other_parent n m (Some i) b le = grind (arith, common_steps)

pub none_in : (n m : ℕ) (rows : List Row) → ParentsBefore n rows → n + length rows ≤ m → those_in n (Some m) rows ≡ []
unfolding those_in
none_in n m [] b le = refl
none_in n m (r ∷ rows) b le =
    let e = other_parent n m r.parent b.0 (omega arith) in
    rw e (none_in (suc n) m rows b.1 (omega arith))

pub ParentsBefore-push : (n : ℕ) (rows : List Row) (r : Row) → ParentsBefore n rows → stands_before (n + length rows) r.parent → ParentsBefore n (rows ++ r ∷ [])
ParentsBefore-push n [] r b h =
    let e : n + 0 ≡ n = omega arith in
    (subst (λ k. stands_before k r.parent) e h, tt)
ParentsBefore-push n (s ∷ rows) r b h =
    let e : n + length (s ∷ rows) ≡ suc n + length rows = omega arith in
    (b.0, ParentsBefore-push (suc n) rows r b.1 (subst (λ k. stands_before k r.parent) e h))

-- the rows within row i, after a row that stands elsewhere
children-same : (rows : List Row) (r : Row) (i : ℕ) → same_parent r.parent (Some i) ≡ false → children (rows ++ r ∷ []) i ≡ children rows i
children-same rows r i e =
    let h = those_in-push 0 (Some i) rows r in
    h ∙ rw e (append-nil (children rows i))

children-more : (rows : List Row) (r : Row) (i : ℕ) → same_parent r.parent (Some i) ≡ true → children (rows ++ r ∷ []) i ≡ children rows i ++ length rows ∷ []
children-more rows r i e =
    let h = those_in-push 0 (Some i) rows r in
    let z : 0 + length rows ≡ length rows = omega arith in
    h ∙ rw (e, z) refl

roots-same : (rows : List Row) (r : Row) → same_parent r.parent None ≡ false → roots (rows ++ r ∷ []) ≡ roots rows
roots-same rows r e =
    let h = those_in-push 0 None rows r in
    h ∙ rw e (append-nil (roots rows))

roots-more : (rows : List Row) (r : Row) → same_parent r.parent None ≡ true → roots (rows ++ r ∷ []) ≡ roots rows ++ length rows ∷ []
roots-more rows r e =
    let h = those_in-push 0 None rows r in
    let z : 0 + length rows ≡ length rows = omega arith in
    h ∙ rw (e, z) refl

get_or-front : (ls : List (List ℕ)) (l : List ℕ) (i : ℕ) → i < length ls → get_or (ls ++ l ∷ []) i [] ≡ get_or ls i []
get_or-front ls l i lt = grind (arith, common_steps)

get_or-last : (ls : List (List ℕ)) (l : List ℕ) (i : ℕ) → i ≡ length ls → get_or (ls ++ l ∷ []) i [] ≡ l
get_or-last ls l i e = grind (arith, common_steps)

indexed_split : (i : ℕ) (rows : List Row) (r : Row) → i < length (rows ++ r ∷ []) → (i < length rows) ⊎ (i ≡ length rows)
indexed_split i rows r lt = let e = length-append rows (r ∷ []) in grind (arith, common_steps)

-- a row of its own
pub indexed_root : (rows : List Row) (below : List (List ℕ)) (top : List ℕ) (r : Row) → IsIndexed rows below top → r.parent ≡ None
    → IsIndexed (rows ++ r ∷ []) (below ++ [] ∷ []) (top ++ length rows ∷ [])
indexed_root rows below top r h none =
    let outer : (i : ℕ) → same_parent r.parent (Some i) ≡ false = λ i. rw none refl in
    let top_one : same_parent r.parent None ≡ true = rw none refl in
    let placed : stands_before (0 + length rows) r.parent = rw none tt in
    let count = h.count in
    record {
      parents = ParentsBefore-push 0 rows r h.parents placed;
      count = grind (arith, common_steps);
      below_is = λ i lt. elim (indexed_split i rows r lt) [
        | inl front ↦ get_or-front below [] i (omega arith) ∙ h.below_is i front ∙ sym (children-same rows r i (outer i))
        | inr last ↦ get_or-last below [] i (last ∙ sym count) ∙ sym (children-same rows r i (outer i) ∙ none_in 0 i rows h.parents (omega arith))
      ];
      top_is = ap (λ (l : List ℕ). l ++ length rows ∷ []) h.top_is ∙ sym (roots-more rows r top_one);
    }

parent_is : (p i : ℕ) → (p ≡ i) ⊎ (same_parent (Some p) (Some i) ≡ false)
parent_is p i = grind (arith, common_steps)

parent_same : (p : ℕ) → same_parent (Some p) (Some p) ≡ true
parent_same p = grind (arith, common_steps)

not_parent : (p i : ℕ) → same_parent (Some p) (Some i) ≡ false → i ≢ p
not_parent p i e same = grind (arith, common_steps)

-- a row within an earlier one
pub indexed_below : (rows : List Row) (below : List (List ℕ)) (top : List ℕ) (p : ℕ) (r : Row) → IsIndexed rows below top → p < length rows → r.parent ≡ Some p
    → IsIndexed (rows ++ r ∷ []) (set below p (get_or below p [] ++ length rows ∷ []) ++ [] ∷ []) top
indexed_below rows below top p r h before within =
    let not_top : same_parent r.parent None ≡ false = rw within refl in
    let placed : stands_before (0 + length rows) r.parent = rw within (omega arith) in
    let changed : List (List ℕ) = set below p (get_or below p [] ++ length rows ∷ []) in
    let count : length changed ≡ length rows = length-set below p (get_or below p [] ++ length rows ∷ []) ∙ h.count in
    let h_count = h.count in
    let total : length (changed ++ [] ∷ []) ≡ length (rows ++ r ∷ []) = grind (arith, common_steps) in
    record {
      parents = ParentsBefore-push 0 rows r h.parents placed;
      count = total;
      below_is = λ i lt. elim (indexed_split i rows r lt) [
        | inl front ↦ get_or-front changed [] i (omega arith) ∙ (elim (parent_is p i) [
          | inl same ↦
              let more : same_parent r.parent (Some i) ≡ true = rw (within, same) (parent_same i) in
              ap (λ k. get_or changed k []) (sym same) ∙ get_or-set_same below p (get_or below p [] ++ length rows ∷ []) [] (omega arith)
              ∙ ap (λ (l : List ℕ). l ++ length rows ∷ []) (h.below_is p before ∙ ap (λ k. children rows k) same) ∙ sym (children-more rows r i more)
          | inr other ↦
              let outer : same_parent r.parent (Some i) ≡ false = rw within other in
              get_or-set_other below p i (get_or below p [] ++ length rows ∷ []) [] (not_parent p i other) ∙ h.below_is i front ∙ sym (children-same rows r i outer)
        ])
        | inr last ↦
            let outer : same_parent r.parent (Some i) ≡ false = rw within (other_parent (length rows) i (Some p) before (omega arith)) in
            get_or-last changed [] i (last ∙ sym count) ∙ sym (children-same rows r i outer ∙ none_in 0 i rows h.parents (omega arith))
      ];
      top_is = h.top_is ∙ sym (roots-same rows r not_top);
    }

pub indexed_none : IsIndexed [] [] []
unfolding those_in
indexed_none = record { parents = tt; count = refl; below_is = λ i lt. absurd (omega arith); top_is = refl }
