-- The loop that takes marks away.
use Rattle.std.proofs.Common.{◌≡◌, ℕ, ◌+◌, ◌-◌, ◌<◌, ◌≤◌, ◌^◌, List, Bool, true, false, cond, not, ◌&&◌, ◌||◌, ◌==◌, Option, Some, None, if◌then◌else◌, refl, sym, ap, ◌∙◌, arith}
use Rattle.std.specs.Prelude.{nat_lt}
use Rattle.std.proofs.lemmas.Bool.Decides.{nat_tests}
use Rattle.std.proofs.lemmas.Nat.Bits.{bit_at_above}
use Rattle.std.specs.FinMap.{get, same_map}
use Rattle.nm_base.specs.Mask.{mask_contains}
use Rattle.nm_types.specs.Path.{PathStep}
use Rattle.nm_types.specs.PathLaws.{paths_total, path_cmp-IsAntisymmetric}
use Rattle.nm_proto.specs.declared.message.Marks.{Marks}
use Rattle.nm_proto.specs.Content.{is_taken}
use Rattle.nm_config.specs.Rows.{Rows}
use Rattle.nm_config.specs.Under.{without_under}
use Rattle.nm_edit.proofs.After.{get_without}
use Rattle.nm_content.specs.Mark.{mark_path, mark_over, is_given, is_taken_in, goes_with, without_marks}
use Rattle.nm_content.specs.MarkLaws.{under_mark, get-without_marks}

-- of the marks that go those below a number
abbrev pub goes_below : Marks → ℕ → Option ℕ → Bool
goes_below marks i None = false
goes_below marks i (Some n) = nat_lt n i && is_taken marks n

-- the marks of `old` that go were taken from `now` below the number i
pub record TakenBelow (marks : Marks) (i : ℕ) (old now : Rows) : Type 0 where
  pub at : (path : List PathStep) → get now path ≡ cond (goes_below marks i (mark_over path)) None (get old path)

none_below : (n : ℕ) (b : Bool) → (nat_lt n 1 && (nat_lt 0 n && b)) ≡ false
none_below n b = grind (arith, nat_tests)

none_goes : (marks : Marks) (o : Option ℕ) → goes_below marks 1 o ≡ false
none_goes marks None = refl
none_goes marks (Some n) = none_below n _

pub taken_none : (marks : Marks) (old : Rows) → TakenBelow marks 1 old old
taken_none marks old = record { at = λ path. ap (λ b. cond b None (get old path)) (sym (none_goes marks (mark_over path))) }

below_next : (n i : ℕ) → nat_lt n (i + 1) ≡ (n == i || nat_lt n i)
below_next n i = grind (arith, nat_tests)

same_taken : (marks : Marks) (n i : ℕ) (b : Bool) → is_taken marks i ≡ b → (n == i) ≡ true → is_taken marks n ≡ b
same_taken marks n i b t e = let is : n ≡ i = grind (arith, nat_tests) in ap (is_taken marks) is ∙ t

more_by : (same less t : Bool) → (same ≡ true → t ≡ true) → ((same || less) && t) ≡ (same || (less && t))
more_by true less t h = h refl
more_by false less t h = refl

goes_one : (marks : Marks) (i : ℕ) (o : Option ℕ) → is_taken marks i ≡ true → goes_below marks (i + 1) o ≡ (is_given i o || goes_below marks i o)
goes_one marks i None t = refl
goes_one marks i (Some n) t = ap (λ b. b && is_taken marks n) (below_next n i) ∙ more_by (n == i) (nat_lt n i) (is_taken marks n) (same_taken marks n i true t)

either_goes : {X : Type 0} (a b : Bool) (o : Option X) → (if a then None else (cond b None o)) ≡ cond (a || b) None o
either_goes true b o = refl
either_goes false b o = refl

pub taken_one : (marks : Marks) (i : ℕ) (old now : Rows) → is_taken marks i ≡ true → TakenBelow marks i old now → TakenBelow marks (i + 1) old (without_under now (mark_path i))
taken_one marks i old now t so_far = record {
  at = λ path.
      get_without now (mark_path i) path
      ∙ ap (λ b. if b then None else get now path) (under_mark i path)
      ∙ ap (λ o. if is_given i (mark_over path) then None else o) (so_far.at path)
      ∙ either_goes (is_given i (mark_over path)) (goes_below marks i (mark_over path)) (get old path)
      ∙ ap (λ b. cond b None (get old path)) (sym (goes_one marks i (mark_over path) t));
}

passed_by : (same less t : Bool) → (same ≡ true → t ≡ false) → ((same || less) && t) ≡ (less && t)
passed_by true true t h = refl
passed_by true false t h = h refl
passed_by false less t h = refl

goes_passed : (marks : Marks) (i : ℕ) (o : Option ℕ) → is_taken marks i ≡ false → goes_below marks (i + 1) o ≡ goes_below marks i o
goes_passed marks i None t = refl
goes_passed marks i (Some n) t = ap (λ b. b && is_taken marks n) (below_next n i) ∙ passed_by (n == i) (nat_lt n i) (is_taken marks n) (same_taken marks n i false t)

pub taken_no_more : (marks : Marks) (i : ℕ) (old now : Rows) → is_taken marks i ≡ false → TakenBelow marks i old now → TakenBelow marks (i + 1) old now
taken_no_more marks i old now t so_far = record {
  at = λ path. so_far.at path ∙ ap (λ b. cond b None (get old path)) (sym (goes_passed marks i (mark_over path) t));
}

-- a mask of 64 bits has no number above 64
none_above : (mask n : ℕ) → mask < 2 ^ 64 → nat_lt n 65 ≡ false → mask_contains mask n ≡ false
unfolding mask_contains
none_above mask n small above =
    let high : 64 ≤ n - 1 = grind (arith, nat_tests) in
    ap (λ b. b == 1) (bit_at_above mask 64 (n - 1) small high)

and_false : (a b : Bool) → b ≡ false → (a && b) ≡ false
and_false true b e = e
and_false false b e = refl

last_by : (marks : Marks) (n : ℕ) (b : Bool) → marks.remove.0 < 2 ^ 64 → nat_lt n 65 ≡ b → (b && is_taken marks n) ≡ is_taken marks n
last_by marks n true small is = refl
last_by marks n false small is = sym (and_false (nat_lt 0 n) (mask_contains marks.remove.0 n) (none_above marks.remove.0 n small is))

goes_last : (marks : Marks) (o : Option ℕ) → marks.remove.0 < 2 ^ 64 → goes_below marks 65 o ≡ is_taken_in marks o
goes_last marks None small = refl
goes_last marks (Some n) small = last_by marks n (nat_lt n 65) small refl

turned : {X : Type 0} (b : Bool) (o : Option X) → cond b None o ≡ cond (not b) o None
turned true o = refl
turned false o = refl

pub taken_all : (marks : Marks) (old now : Rows) → marks.remove.0 < 2 ^ 64 → TakenBelow marks 65 old now → now ≡ without_marks old marks
taken_all marks old now small so_far = same_map paths_total path_cmp-IsAntisymmetric _ _ (λ path.
    so_far.at path
    ∙ ap (λ b. cond b None (get old path)) (goes_last marks (mark_over path) small)
    ∙ turned (goes_with marks path) (get old path)
    ∙ sym (get-without_marks old marks path))
