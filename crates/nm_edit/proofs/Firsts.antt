-- The first refused node stands before all others.
use Rattle.std.proofs.Common.{◌≡◌, zero, suc, List, [], ◌∷◌, ◌++◌, map, true, false, Option, Some, None, if◌then◌else◌, refl, sym, ap, ◌∙◌, subst, arith}
use Rattle.std.specs.Prelude.{Contains, is_some}
use Rattle.std.specs.List.{AllByRecursion, flat_map}
use Rattle.std.specs.List.Sorted.{IsStrictlySortedBy}
use Rattle.std.specs.Ordering.{is_gt}
use Rattle.std.specs.declared.cmp.Ordering.TheVariants.{Less}
use Rattle.std.proofs.lemmas.Cmp.{tied_itself}
use Rattle.nm_base.specs.declared.tag.Tag.{Tag}
use Rattle.nm_types.specs.Path.{PathStep, path_cmp}
use Rattle.nm_types.specs.PathLaws.{paths_total}
use Rattle.nm_proto.specs.Content.{Refusal}
use Rattle.nm_proto.specs.declared.message.DefaultOperation.{DefaultOperation}
use Rattle.nm_schema_tree.specs.Nodes.{SchemaTree}
use Rattle.nm_config.specs.Rows.{Rows}
use Rattle.nm_edit.specs.declared.edit.EditNode.{EditNode}
use Rattle.nm_edit.specs.declared.standing.Standing.{Standing}
use Rattle.nm_edit.specs.declared.act.Act.{Act}
use Rattle.nm_edit.specs.Standing.{Sayings, said, standing}
use Rattle.nm_edit.specs.Acts.{act_of, act_if, acts_at, acts}
use Rattle.nm_edit.specs.Refusals.{refused_at, refusal_or, first_refusal}
use Rattle.nm_edit.specs.EditOf.{IsEditOf, paths}
use Rattle.nm_edit.specs.Laws.{IsLeastRefused}

-- ---- lists

pub of_all : {X : Type 0} (P : X → Type 0) (xs : List X) (x : X) → AllByRecursion P xs → Contains xs x → P x
of_all P [] x h (k, lt, e) = absurd (omega (arith, lt))
of_all P (y ∷ xs) x (p, ps) (zero, lt, e) = subst P e p
of_all P (y ∷ xs) x (p, ps) (suc k, lt, e) = of_all P xs x ps (k, omega (arith, lt), e)

pub at_head : {X : Type 0} (xs : List X) (x : X) → Contains (x ∷ xs) x
at_head xs x = (0, omega arith, refl)

pub in_tail : {X : Type 0} (xs : List X) (y x : X) → Contains xs x → Contains (y ∷ xs) x
in_tail xs y x (k, lt, e) = (suc k, omega (arith, lt), e)

-- ---- order

abbrev done_paths : List Act → List (List PathStep)
done_paths done = map (λ a. a.path) done

below_if : (above : List PathStep) (s : Standing) (n : EditNode) (more : List Act) → path_cmp above n.path ≡ Less → AllByRecursion (λ p. path_cmp above p ≡ Less) (done_paths more)
    → AllByRecursion (λ p. path_cmp above p ≡ Less) (done_paths (act_if s n ++ more))
below_if above s n more e h = elim s.is_cut as (λ b. AllByRecursion (λ p. path_cmp above p ≡ Less) (map (λ (a : Act). a.path) ((if b then [] else act_of n s ∷ []) ++ more))) [
  | true ↦ h
  | false ↦ (e, h)
]

module _ (told : Sayings) (d : DefaultOperation) where
  all_below : (above : List PathStep) (nodes : List EditNode) → AllByRecursion (λ p. path_cmp above p ≡ Less) (paths nodes) → AllByRecursion (λ p. path_cmp above p ≡ Less) (done_paths (flat_map (acts_at told d) nodes))
  all_below above [] h = tt
  all_below above (n ∷ nodes) (e, h) = below_if above (standing told d n.path) n (flat_map (acts_at told d) nodes) e (all_below above nodes h)

  sorted_if : (s : Standing) (n : EditNode) (more : List Act) → AllByRecursion (λ p. path_cmp n.path p ≡ Less) (done_paths more) → IsStrictlySortedBy path_cmp (done_paths more) → IsStrictlySortedBy path_cmp (done_paths (act_if s n ++ more))
  unfolding IsStrictlySortedBy
  sorted_if s n more e h = elim s.is_cut as (λ b. IsStrictlySortedBy path_cmp (map (λ (a : Act). a.path) ((if b then [] else act_of n s ∷ []) ++ more))) [
    | true ↦ h
    | false ↦ (e, h)
  ]

  done_sorted : (nodes : List EditNode) → IsStrictlySortedBy path_cmp (paths nodes) → IsStrictlySortedBy path_cmp (done_paths (flat_map (acts_at told d) nodes))
  unfolding IsStrictlySortedBy
  done_sorted [] h = tt
  done_sorted (n ∷ nodes) (e, h) = sorted_if (standing told d n.path) n (flat_map (acts_at told d) nodes) (all_below n.path nodes e) (done_sorted nodes h)

-- ---- refusals

module _ (t : SchemaTree) (old : Rows) where
  not_before : (path : List PathStep) (done : List Act) (a : Act) → AllByRecursion (λ p. path_cmp path p ≡ Less) (done_paths done) → Contains done a → is_gt (path_cmp path a.path) ≡ false
  not_before path [] a h (k, lt, e) = absurd (omega (arith, lt))
  not_before path (b ∷ done) a (p, ps) (zero, lt, e) = ap (λ (x : Act). is_gt (path_cmp path x.path)) (sym e) ∙ ap is_gt p
  not_before path (b ∷ done) a (p, ps) (suc k, lt, e) = not_before path done a ps (k, omega (arith, lt), e)

  itself : (path : List PathStep) → is_gt (path_cmp path path) ≡ false
  itself path = ap is_gt (tied_itself paths_total path)

  not_before_first : (a : Act) (done : List Act) (other : Act) → AllByRecursion (λ p. path_cmp a.path p ≡ Less) (done_paths done) → Contains (a ∷ done) other → is_gt (path_cmp a.path other.path) ≡ false
  not_before_first a done other below (zero, lt, e) = ap (λ (x : Act). is_gt (path_cmp a.path x.path)) (sym e) ∙ itself a.path
  not_before_first a done other below (suc k, lt, e) = not_before a.path done other below (k, omega (arith, lt), e)

  least_later : (a : Act) (done : List Act) (found other : Act) → refused_at t old a ≡ None → ((x : Act) → Contains done x → is_some (refused_at t old x) ≡ true → is_gt (path_cmp found.path x.path) ≡ false)
      → Contains (a ∷ done) other → is_some (refused_at t old other) ≡ true → is_gt (path_cmp found.path other.path) ≡ false
  least_later a done found other is least (zero, lt, e) refused =
      let one : is_some (refused_at t old a) ≡ false = ap is_some is in
      let both : is_some (refused_at t old a) ≡ is_some (refused_at t old other) = ap (λ (x : Act). is_some (refused_at t old x)) e in
      absurd (cc)
  least_later a done found other is least (suc k, lt, e) refused = least other (k, omega (arith, lt), e) refused

  first_found : (a : Act) (done : List Act) (refusal : Refusal) (o : Option Tag) → refused_at t old a ≡ o → AllByRecursion (λ p. path_cmp a.path p ≡ Less) (done_paths done)
      → (first_refusal t old done ≡ Some refusal → IsLeastRefused t old done refusal) → refusal_or t a.path o (first_refusal t old done) ≡ Some refusal → IsLeastRefused t old (a ∷ done) refusal
  first_found a done refusal None is below more e =
      let h = more e in
      record {
        act = h.act;
        among = in_tail done a h.act h.among;
        tag = h.tag;
        path = h.path;
        least = λ other c refused. least_later a done h.act other is h.least c refused;
      }
  first_found a done refusal (Some tag) is below more e = record {
    act = a;
    among = at_head done a;
    tag = cc;
    path = cc;
    least = λ other c refused. not_before_first a done other below c;
  }

  pub first_of : (done : List Act) (refusal : Refusal) → IsStrictlySortedBy path_cmp (done_paths done) → first_refusal t old done ≡ Some refusal → IsLeastRefused t old done refusal
  unfolding IsStrictlySortedBy
  first_of [] refusal h e = absurd (cc)
  first_of (a ∷ done) refusal (below, sorted) e = first_found a done refusal (refused_at t old a) refl below (first_of done refusal sorted) e

  none_by : (path : List PathStep) (o : Option Tag) (rest : Option Refusal) → refusal_or t path o rest ≡ None → (o ≡ None) × (rest ≡ None)
  none_by path None rest e = (refl, e)
  none_by path (Some tag) rest e = absurd (cc)

  pub none_of : (done : List Act) (a : Act) → first_refusal t old done ≡ None → Contains done a → refused_at t old a ≡ None
  none_of [] a e (k, lt, is) = absurd (omega (arith, lt))
  none_of (b ∷ done) a e (zero, lt, is) = ap (refused_at t old) (sym is) ∙ (none_by b.path (refused_at t old b) (first_refusal t old done) e).0
  none_of (b ∷ done) a e (suc k, lt, is) = none_of done a (none_by b.path (refused_at t old b) (first_refusal t old done) e).1 (k, omega (arith, lt), is)

pub first_is : (t : SchemaTree) (old : Rows) (nodes : List EditNode) (d : DefaultOperation) (refusal : Refusal) → IsEditOf t nodes → first_refusal t old (acts nodes d) ≡ Some refusal → IsLeastRefused t old (acts nodes d) refusal
first_is t old nodes d refusal h e = first_of t old (acts nodes d) refusal (done_sorted (said nodes) d nodes h.ordered) e
