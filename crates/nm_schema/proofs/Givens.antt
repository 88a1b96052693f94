-- The given modules have names of their own, and none that of the module that is added to them.
use Rattle.std.proofs.Common.{◌≡◌, ◌∙◌, ◌<◌, ◌≤◌, ◌+◌, inl, inr, ℕ, zero, suc, List, [], ◌∷◌, length, map, get_or, Bool, true, false, cond, Option, Some, None, slice_get, refl, sym, ap, subst, arith}
use Rattle.std.specs.Prelude.{Contains}
use Rattle.std.specs.List.{position_from}
use Rattle.std.proofs.lemmas.Grind.{common_steps}
use Rattle.std.proofs.lemmas.List.Elements.{Contains-get_or}
use Rattle.nm_schema_statements.specs.declared.row.Row.{Row}
use Rattle.nm_schema_statements.specs.declared.word.Word.{Word}
use Rattle.nm_schema_statements.specs.declared.word.Word.TheVariants as word
use Rattle.nm_schema_statements.specs.declared.flaw.Flaw.{Flaw}
use Rattle.nm_schema_statements.specs.declared.flaw.Flaw.TheVariants as flaw
use Rattle.nm_schema_statements.specs.Flaw.{is_module, is_before, text_of, form_fault}
use Rattle.nm_schema_statements.specs.Rows.{same_parent, those_in, roots}
use Rattle.nm_schema_names.specs.declared.key.Reach.TheVariants as reach
use Rattle.nm_schema_names.specs.Named.{has_key, first_keyed, named, is_marker}
use Rattle.nm_schema_names.specs.Flaw.{again_flaw, module_flaw, text_flaw, argument_flaw, row_flaw, name_flaw}
use Rattle.nm_types.specs.Spells.{IsOnce}
use Rattle.nm_schema_uses.specs.Arguments.{argument_at}
use Rattle.nm_path.specs.Form as form
use Rattle.nm_schema_faults.specs.Facts.{Facts}
use Rattle.nm_schema.specs.Choices.{module_names, module_name}
use Rattle.nm_schema.proofs.Elements.{nothing, first_or_later, of_map}
use Rattle.nm_schema.proofs.Onces.{own_bytes}
use Rattle.nm_schema.specs.Faultless.{AreFaultless}
use Rattle.nm_schema.proofs.Naming.{grammar_none, outermost, module_named}

-- ---- which rows stand in a row, or outermost

-- one of some rows, of which the first is row n
pub record IsOneOf (n : ℕ) (parent : Option ℕ) (rest : List Row) (k : ℕ) : Type 0 where
  pub at : ℕ
  pub row : Row
  pub number : k ≡ n + at
  pub there : slice_get rest at ≡ Some row
  pub stands : same_parent row.parent parent ≡ true

one_later : (n : ℕ) (parent : Option ℕ) (r : Row) (rest : List Row) (k : ℕ) → IsOneOf (suc n) parent rest k → IsOneOf n parent (r ∷ rest) k
one_later n parent r rest k one = record { at = suc one.at; row = one.row; number = omega (arith, one.number); there = one.there; stands = one.stands }

one_by : (n : ℕ) (parent : Option ℕ) (r : Row) (rest : List Row) (k : ℕ) (b : Bool) → same_parent r.parent parent ≡ b → (Contains (those_in (suc n) parent rest) k → IsOneOf (suc n) parent rest k)
    → Contains (cond b (n ∷ those_in (suc n) parent rest) (those_in (suc n) parent rest)) k → IsOneOf n parent (r ∷ rest) k
one_by n parent r rest k true is more c = elim (first_or_later n k (those_in (suc n) parent rest) c) [
  | inl same ↦ record { at = 0; row = r; number = omega (arith, same); there = refl; stands = is }
  | inr d ↦ one_later n parent r rest k (more d)
]
one_by n parent r rest k false is more c = one_later n parent r rest k (more c)

pub one_of : (n : ℕ) (parent : Option ℕ) (rest : List Row) (k : ℕ) → Contains (those_in n parent rest) k → IsOneOf n parent rest k
unfolding those_in
one_of n parent [] k c = absurd (nothing k c)
one_of n parent (r ∷ rest) k c = one_by n parent r rest k (same_parent r.parent parent) refl (one_of (suc n) parent rest k) c

pub no_parent : (p : Option ℕ) → same_parent p None ≡ true → p ≡ None
no_parent None e = refl
no_parent (Some i) e = absurd (cc)

pub parent_is : (p : Option ℕ) (i : ℕ) → same_parent p (Some i) ≡ true → p ≡ Some i
parent_is None i e = absurd (cc)
parent_is (Some j) i e = let h : j ≡ i = grind (arith, common_steps) in ap (λ k. Some k) h

-- ---- the first of a name

position_by : {X : Type 0} (f : X → Bool) (n k : ℕ) (z : X) (xs : List X) (b : Bool) → (i : ℕ) × (position_from f (n + 1) xs ≡ Some i) × (i ≤ n + 1 + k) → (j : ℕ) × (cond b (Some n) (position_from f (n + 1) xs) ≡ Some j) × (j ≤ n + suc k)
position_by f n k z xs true (i, is, le) = (n, refl, omega arith)
position_by f n k z xs false (i, is, le) = (i, is, omega (arith, le))

pub position_upto : {X : Type 0} (f : X → Bool) (n k : ℕ) (xs : List X) (x : X) → slice_get xs k ≡ Some x → f x ≡ true → (i : ℕ) × (position_from f n xs ≡ Some i) × (i ≤ n + k)
position_upto f n k [] x is passes = absurd (cc)
position_upto f n zero (z ∷ xs) x is passes =
    let same : z ≡ x = cc in
    let first : f z ≡ true = ap f same ∙ passes in
    (n, ap (λ b. cond b (Some n) (position_from f (n + 1) xs)) first, omega arith)
position_upto f n (suc k) (z ∷ xs) x is passes = position_by f n k z xs (f z) (position_upto f (n + 1) k xs x is passes)

none_again : (b : Bool) (name : List ℕ) → cond b (Some (flaw.Duplicate name)) None ≡ None → b ≡ false
none_again true name e = absurd (cc)
none_again false name e = refl

unmarked : (b : Bool) (name : List ℕ) (o : Option Flaw) → cond b (Some (flaw.Duplicate name)) o ≡ None → (b ≡ false) × (o ≡ None)
unmarked true name o e = absurd (cc)
unmarked false name o e = (refl, e)

only_first : (o : Option ℕ) (i at : ℕ) → o ≡ Some i → i ≤ at → is_before o at ≡ false → o ≡ Some at
only_first o i at is le e =
    let f : is_before (Some i) at ≡ false = sym (ap (λ (x : Option ℕ). is_before x at) is) ∙ e in
    let same : i ≡ at = grind (arith, common_steps) in
    is ∙ ap (λ (x : ℕ). Some x) same

module_word : (w : Word) → is_module w ≡ true → w ≡ word.Module
module_word word.Module e = refl
module_word _ e = absurd (cc)

argued : (w : Word) (argument : Option (List ℕ)) → form_fault w argument ≡ None → argument ≡ Some (text_of argument)
argued w None e = absurd (cc)
argued w (Some text) e = refl

module _ (rows : List Row) (at : ℕ) (r : Row) where
  text_none : (w : Word) (name : List ℕ) → w ≡ word.Module → text_flaw rows at r w name ≡ None → module_flaw rows at name ≡ None
  text_none w name is e = sym (ap (λ (x : Word). text_flaw rows at r x name) is) ∙ e

  flaw_none : (name : List ℕ) → slice_get rows at ≡ Some r → r.argument ≡ Some name → r.word ≡ word.Module → name_flaw rows at ≡ None → module_flaw rows at name ≡ None
  unfolding name_flaw
  flaw_none name is argument w e =
      let a : argument_flaw rows at r r.argument ≡ None = sym (ap (row_flaw rows at) is) ∙ e in
      let b : argument_flaw rows at r (Some name) ≡ None = sym (ap (argument_flaw rows at r) argument) ∙ a in
      text_none r.word name w b

  has_own : (name : List ℕ) → r.parent ≡ None → r.word ≡ word.Module → r.argument ≡ Some name → has_key reach.Statement None 0 name r ≡ true
  has_own name top w argument = rw (top, w, argument, own_bytes name) refl

  -- the first module of its name is the module itself
  first_is : (name : List ℕ) → slice_get rows at ≡ Some r → r.parent ≡ None → r.word ≡ word.Module → r.argument ≡ Some name → module_flaw rows at name ≡ None → (is_marker name ≡ false) × (named rows None word.Module name ≡ Some at)
  unfolding first_keyed
  first_is name is top w argument e =
      let u = unmarked (is_marker name) name (again_flaw (named rows None word.Module name) at name) e in
      let before = none_again (is_before (named rows None word.Module name) at) name u.1 in
      let first = position_upto (has_key reach.Statement None 0 name) 0 at rows r is (has_own name top w argument) in
      (u.0, only_first (named rows None word.Module name) first.0 at first.1 (omega (arith, first.2)) before)

-- a row that stands outermost, as the module that it is
pub record IsModule (rows : List Row) (at : ℕ) : Type 0 where
  pub identifier : form.is_identifier (argument_at rows at) ≡ true
  pub marker : is_marker (argument_at rows at) ≡ false
  pub first : named rows None word.Module (argument_at rows at) ≡ Some at

module _ (rows : List Row) (facts : Facts) (all : AreFaultless rows facts) where
  pub is_a_module : (at : ℕ) (r : Row) → slice_get rows at ≡ Some r → r.parent ≡ None → IsModule rows at
  unfolding argument_at
  is_a_module at r is top =
      let none = all.each at r is in
      let g = grammar_none rows at r is none.grammar in
      let w = module_word r.word (outermost rows r top g.0) in
      let argument = argued r.word r.argument g.1 in
      let name : argument_at rows at ≡ text_of r.argument = rw is refl in
      let first = first_is rows at r (text_of r.argument) is top w argument (flaw_none rows at r (text_of r.argument) is argument w none.name) in
      record {
        identifier = module_named rows facts at r is none top;
        marker = ap is_marker name ∙ first.0;
        first = ap (λ (n : List ℕ). named rows None word.Module n) name ∙ first.1;
      }

  root_row : (n : ℕ) (rest : List Row) (k : ℕ) → ((j : ℕ) → slice_get rows (n + j) ≡ slice_get rest j) → Contains (those_in n None rest) k → IsModule rows k × (n ≤ k)
  root_row n rest k same c =
      let one = one_of n None rest k c in
      let at : slice_get rows k ≡ Some one.row = ap (slice_get rows) one.number ∙ same one.at ∙ one.there in
      (is_a_module k one.row at (no_parent one.row.parent one.stands), omega (arith, one.number))

  roots_by : (n : ℕ) (r : Row) (rest : List Row) (b : Bool) → slice_get rows n ≡ Some r → ((j : ℕ) → slice_get rows (suc n + j) ≡ slice_get rest j) → same_parent r.parent None ≡ b
      → IsOnce (map (argument_at rows) (those_in (suc n) None rest)) → IsOnce (map (argument_at rows) (cond b (n ∷ those_in (suc n) None rest) (those_in (suc n) None rest)))
  roots_by n r rest false is same stands once = once
  roots_by n r rest true is same stands once = (
    λ c. (
        let m = of_map (argument_at rows) (those_in (suc n) None rest) (argument_at rows n) c in
        let other = root_row (suc n) rest m.0 same m.1 in
        let own = is_a_module n r is (no_parent r.parent stands) in
        let both : Some n ≡ Some m.0 = sym own.first ∙ ap (λ (w : List ℕ). named rows None word.Module w) (sym m.2) ∙ other.0.first in
        let equal : n ≡ m.0 = cc in
        omega (arith, equal, other.1)
        ),
    once,
  )

  roots_from : (n : ℕ) (rest : List Row) → ((j : ℕ) → slice_get rows (n + j) ≡ slice_get rest j) → IsOnce (map (argument_at rows) (those_in n None rest))
  unfolding those_in
  roots_from n [] same = tt
  roots_from n (r ∷ rest) same =
      let first : slice_get rows n ≡ Some r = ap (slice_get rows) (omega arith) ∙ same 0 in
      let others : (j : ℕ) → slice_get rows (suc n + j) ≡ slice_get rest j = λ j. ap (slice_get rows) (omega arith) ∙ same (suc j) in
      roots_by n r rest (same_parent r.parent None) first others refl (roots_from (suc n) rest others)

  -- modules have names of their own (RFC 7950 section 5.1)
  pub modules_once : IsOnce (module_names rows)
  unfolding module_names
  modules_once = roots_from 0 rows (λ j. ap (slice_get rows) (omega arith))

  -- a module of the given ones
  pub module_is : (m : ℕ) → m < length (roots rows) → (form.is_identifier (module_name rows m) ≡ true) × (is_marker (module_name rows m) ≡ false)
  unfolding module_names
  module_is m lt =
      let root = get_or (roots rows) m 0 in
      let it = (root_row 0 rows root (λ j. ap (slice_get rows) (omega arith)) (Contains-get_or (roots rows) m 0 lt)).0 in
      let name : module_name rows m ≡ argument_at rows root = get_map (roots rows) m lt in
      (ap form.is_identifier name ∙ it.identifier, ap is_marker name ∙ it.marker)
    where
      get_map : (ks : List ℕ) (m : ℕ) → m < length ks → get_or (map (argument_at rows) ks) m [] ≡ argument_at rows (get_or ks m 0)
      get_map [] m lt = absurd (omega (arith, lt))
      get_map (k ∷ ks) zero lt = refl
      get_map (k ∷ ks) (suc m) lt = get_map ks m (omega (arith, lt))

once_at : (names : List (List ℕ)) (i j : ℕ) → IsOnce names → i < length names → j < length names → get_or names i [] ≡ get_or names j [] → i ≡ j
once_at [] i j once lt lt2 e = absurd (omega (arith, lt))
once_at (n ∷ names) zero zero once lt lt2 e = refl
once_at (n ∷ names) zero (suc j) once lt lt2 e =
    absurd (once.0 (subst (λ (w : List ℕ). Contains names w) (sym e) (Contains-get_or names j [] (omega (arith, lt2)))))
once_at (n ∷ names) (suc i) zero once lt lt2 e =
    absurd (once.0 (subst (λ (w : List ℕ). Contains names w) e (Contains-get_or names i [] (omega (arith, lt)))))
once_at (n ∷ names) (suc i) (suc j) once lt lt2 e = ap suc (once_at names i j once.1 (omega (arith, lt)) (omega (arith, lt2)) e)

map_length : (rows : List Row) (ks : List ℕ) → length (map (argument_at rows) ks) ≡ length ks
map_length rows [] = refl
map_length rows (k ∷ ks) = ap suc (map_length rows ks)

-- of one name is one module
pub one_module : (rows : List Row) (facts : Facts) → AreFaultless rows facts → (m n : ℕ) → m < length (roots rows) → n < length (roots rows) → module_name rows m ≡ module_name rows n → m ≡ n
unfolding module_names
one_module rows facts all m n lt lt2 e =
    let size = map_length rows (roots rows) in
    once_at (map (argument_at rows) (roots rows)) m n (modules_once rows facts all) (omega (arith, size, lt)) (omega (arith, size, lt2)) e
