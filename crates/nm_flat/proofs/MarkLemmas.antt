-- Marks in range, the loop that takes marks away, and the text of marks.
use Rattle.std.specs.Prelude.{◌≡◌, ℕ, ◌+◌, ◌≤◌, Bool, true, false, cond, not, ◌&&◌, ◌||◌, ◌==◌, nat_lt, is_some, List, [], ◌∷◌, ◌++◌, map, decimal, Option, Some, None, refl}
use Rattle.std.proofs.Common.{sym, ◌∙◌, ap, subst, arith, append_assoc}
use Rattle.std.proofs.lemmas.List.{append-nil}
use Rattle.std.proofs.lemmas.Bool.Decides.{nat_tests}
use Rattle.std.specs.List.{flat_map, join_with_byte}
use Rattle.std.specs.Ordering.{nat_cmp, eq_by_cmp}
use Rattle.std.specs.Cmp.{nat_cmp_total, unsigned_tied}
use Rattle.std.specs.FinMap.{FinMap, get, insert, remove, retain_keys, empty, same_map, get-empty, get-insert, get-remove, get-retain_keys, nat_cmp-IsAntisymmetric}
use Rattle.nm_proto.specs.declared.message.Marks.{Marks}
use Rattle.nm_proto.specs.Content.{is_taken}
use Rattle.nm_flat.specs.Flat.{MarksInRange}

abbrev pub MarkSet : Type 0
MarkSet = FinMap nat_cmp (Unit {0})

pub no_marks : (m : MarkSet) → m ≡ empty → MarksInRange m
no_marks m e n h = let none : get m n ≡ None = ap (λ m. get m n) e ∙ get-empty nat_cmp n in
    let no : is_some (get m n) ≡ false = ap is_some none in cc

-- the marks of `old` that go were taken from `now` below the number i
pub record TakenBelow (marks : Marks) (i : ℕ) (old now : MarkSet) : Type 0 where
  pub at : (q : ℕ) → get now q ≡ cond (nat_lt q i && is_taken marks q) None (get old q)

none_below : (q : ℕ) (b : Bool) → (nat_lt q 1 && (nat_lt 0 q && b)) ≡ false
none_below q b = grind (arith, nat_tests)

pub taken_none : (marks : Marks) (old : MarkSet) → TakenBelow marks 1 old old
taken_none marks old = record { at = λ q. ap (λ b. cond b None (get old q)) (sym (none_below q _)) }

below_next : (q i : ℕ) → nat_lt q (i + 1) ≡ (q == i || nat_lt q i)
below_next q i = grind (arith, nat_tests)

one_more : (same less t : Bool) (o : Option (Unit {0})) → (same ≡ true → t ≡ true) → cond same None (cond (less && t) None o) ≡ cond ((same || less) && t) None o
one_more true less t o h = ap (λ b. cond b None o) (sym (h refl))
one_more false less t o h = refl

one_passed : (same less t : Bool) (o : Option (Unit {0})) → (same ≡ true → t ≡ false) → cond (less && t) None o ≡ cond ((same || less) && t) None o
one_passed true true t o h = refl
one_passed true false t o h = ap (λ b. cond b None o) (sym (h refl))
one_passed false less t o h = refl

same_taken : (marks : Marks) (q i : ℕ) (b : Bool) → is_taken marks i ≡ b → (q == i) ≡ true → is_taken marks q ≡ b
same_taken marks q i b t e = let is : q ≡ i = grind (arith, nat_tests) in ap (is_taken marks) is ∙ t

pub taken_one : (marks : Marks) (i : ℕ) (old now : MarkSet) → is_taken marks i ≡ true → TakenBelow marks i old now → TakenBelow marks (i + 1) old (remove now i)
taken_one marks i old now t so_far = record {
  at = λ q.
      get-remove nat_cmp_total now i q
      ∙ ap (λ o. cond (eq_by_cmp nat_cmp q i) None o) (so_far.at q)
      ∙ ap (λ b. cond b None (cond (nat_lt q i && is_taken marks q) None (get old q))) (unsigned_tied q i)
      ∙ one_more (q == i) (nat_lt q i) (is_taken marks q) (get old q) (same_taken marks q i true t)
      ∙ ap (λ b. cond (b && is_taken marks q) None (get old q)) (sym (below_next q i));
}

pub taken_no_more : (marks : Marks) (i : ℕ) (old now : MarkSet) → is_taken marks i ≡ false → TakenBelow marks i old now → TakenBelow marks (i + 1) old now
taken_no_more marks i old now t so_far = record {
  at = λ q.
      so_far.at q
      ∙ one_passed (q == i) (nat_lt q i) (is_taken marks q) (get old q) (same_taken marks q i false t)
      ∙ ap (λ b. cond (b && is_taken marks q) None (get old q)) (sym (below_next q i));
}

all_seen : (less t : Bool) (o : Option (Unit {0})) → (is_some o ≡ true → less ≡ true) → cond (less && t) None o ≡ cond (not t) o None
all_seen true true o h = refl
all_seen true false o h = refl
all_seen false true None h = refl
all_seen false true (Some x) h = let no : false ≡ true = h refl in cc
all_seen false false o h = refl

below_last : (q : ℕ) → q ≤ 64 → nat_lt q 65 ≡ true
below_last q h = grind (arith, nat_tests)

pub taken_all : (marks : Marks) (old now : MarkSet) → MarksInRange old → TakenBelow marks 65 old now → now ≡ retain_keys old (λ n. not (is_taken marks n))
taken_all marks old now range so_far = same_map nat_cmp_total nat_cmp-IsAntisymmetric _ _ (λ q.
    so_far.at q
    ∙ all_seen (nat_lt q 65) (is_taken marks q) (get old q) (λ there. below_last q (range q there).1)
    ∙ sym (get-retain_keys old (λ n. not (is_taken marks n)) q (λ x t. ap (λ k. not (is_taken marks k)) (sym (nat_cmp-IsAntisymmetric q x t)))))

stays_in : (p : Bool) (o : Option (Unit {0})) → is_some (cond p o None) ≡ true → is_some o ≡ true
stays_in true o h = h
stays_in false o h = cc

-- the marks that stay are in range
pub kept_in_range : (marks : Marks) (old now : MarkSet) → MarksInRange old → now ≡ retain_keys old (λ n. not (is_taken marks n)) → MarksInRange now
kept_in_range marks old now range is q there =
    let g : get now q ≡ cond (not (is_taken marks q)) (get old q) None = ap (λ m. get m q) is
    ∙ get-retain_keys old (λ n. not (is_taken marks n)) q (λ x t. ap (λ k. not (is_taken marks k)) (sym (nat_cmp-IsAntisymmetric q x t))) in
    range q (stays_in (not (is_taken marks q)) (get old q) (ap is_some (sym g) ∙ there))

comes_in : (b : Bool) (q k : ℕ) (o : Option (Unit {0})) → (b ≡ true → q ≡ k) → (1 ≤ k) × (k ≤ 64) → (is_some o ≡ true → (1 ≤ q) × (q ≤ 64)) → is_some (cond b (Some tt) o) ≡ true → (1 ≤ q) × (q ≤ 64)
comes_in true q k o is range had h = let e : q ≡ k = is refl in subst (λ (n : ℕ). (1 ≤ n) × (n ≤ 64)) (sym e) range
comes_in false q k o is range had h = had h

-- with one more mark in range they still are
pub insert_in_range : (old now : MarkSet) (k : ℕ) → MarksInRange old → (1 ≤ k) × (k ≤ 64) → now ≡ insert old k tt → MarksInRange now
insert_in_range old now k range one is q there =
    let g : get now q ≡ cond (q == k) (Some tt) (get old q) = ap (λ m. get m q) is ∙ get-insert nat_cmp_total old k tt q ∙ ap (λ b. cond b (Some tt) (get old q)) (unsigned_tied q k) in
    comes_in (q == k) q k (get old q) (λ t. grind (arith, nat_tests)) one (range q) (ap is_some (sym g) ∙ there)

-- a mark after the first, in the text
abbrev pub later_mark : ℕ × Unit {0} → List ℕ
later_mark e = 44 ∷ decimal e.0

pub join_marks : (first : ℕ × Unit {0}) (es : List (ℕ × Unit {0})) → join_with_byte 44 (map decimal (map (λ e. e.0) (first ∷ es))) ≡ decimal first.0 ++ flat_map later_mark es
join_marks first [] = sym (append-nil (decimal first.0))
join_marks first (e ∷ es) = ap (λ rest. decimal first.0 ++ (44 ∷ rest)) (join_marks e es)

-- the text so far, once the first mark is written
pub marks_begin : (out new : List ℕ) (first : ℕ × Unit {0}) (es all : List (ℕ × Unit {0})) → all ≡ first ∷ es → new ≡ out ++ decimal first.0 → new ++ flat_map later_mark es ≡ out ++ join_with_byte 44 (map decimal (map (λ e. e.0) all))
marks_begin out new first es all a n =
    ap (λ t. t ++ flat_map later_mark es) n ∙ append_assoc out (decimal first.0) (flat_map later_mark es)
    ∙ ap (λ t. out ++ t) (sym (join_marks first es)) ∙ ap (λ es. out ++ join_with_byte 44 (map decimal (map (λ e. e.0) es))) (sym a)
