-- Whether cases and guards hold hangs on the rows that are read for that.
use Rattle.std.proofs.Common.{◌≡◌, ℕ, [], ◌∷◌, ◌++◌, Bool, true, false, not, ◌&&◌, ◌||◌, ◌==◌, Option, Some, None, if◌then◌else◌, refl, sym, ap, ◌∙◌}
use Rattle.std.specs.FinMap.{contains_key}
use Rattle.nm_types.specs.Path.{PathStep}
use Rattle.nm_schema_tree.specs.Nodes.{SchemaTree, case_at}
use Rattle.nm_path.specs.Spelling.{node_of}
use Rattle.nm_config.specs.Rows.{Rows}
use Rattle.nm_config.specs.Under.{is_whole}
use Rattle.nm_validate_rules.specs.Standing.{is_own_at}
use Rattle.nm_validate_rules.specs.Cases.{numbers, is_in_case, exists_at, case_holds, is_allowed, has_other}
use Rattle.nm_validate_rules.specs.Guards.{is_allowed_at, is_open_step, holds_below, holds_from, holds_at, stands_from, stands}
use Rattle.nm_validate_rules.specs.Values.{is_same_path}
use Rattle.nm_validate_rules.specs.Violated.{has_beside, is_of_choice, has_node}
use Rattle.nm_validate_rules.specs.Reads.{tells, case_reads, allowed_reads, other_reads, beside_reads, choice_reads, open_reads, guard_reads, holds_reads_from, holds_reads, stands_reads_from, stands_reads}
use Rattle.nm_validate_rules.specs.Reaches.{AgreeOn}
use Rattle.nm_validate_rules.proofs.Lists.{and_never}
use Rattle.nm_validate_rules.proofs.Agreeing.{Path, Test, left, right, and_agrees, any_agrees, any_key_agrees, row_agrees}

never : (h w : Bool) → (h && (w && false)) ≡ false
never true true = refl
never true false = refl
never false w = refl

module _ (t : SchemaTree) (one other : Rows) where
  -- ---- cases

  exists_agrees : (above : Path) (x : ℕ) → AgreeOn (tells t above x) one other → exists_at t one above x ≡ exists_at t other above x
  exists_agrees above x agree = any_key_agrees one other (tells t above x) (tells t above x) (λ row e. e) agree

  pub case_agrees : (above : Path) (c : ℕ) → AgreeOn (case_reads t above c) one other → case_holds t one above c ≡ case_holds t other above c
  unfolding case_holds case_reads
  case_agrees above c agree =
      any_agrees one other (λ x. is_in_case t c x && exists_at t one above x) (λ x. is_in_case t c x && exists_at t other above x) (λ x row. is_in_case t c x && tells t above x row) (numbers t.nodes)
      (λ x. and_agrees one other (is_in_case t c x) (exists_at t one above x) (exists_at t other above x) (tells t above x) (exists_agrees above x)) agree

  pub allowed_agrees : (above : Path) (o : Option ℕ) → AgreeOn (allowed_reads t above o) one other → is_allowed t one above o ≡ is_allowed t other above o
  allowed_agrees above None agree = refl
  allowed_agrees above (Some c) agree = case_agrees above c agree

  other_agrees : (above : Path) (x c : ℕ) → AgreeOn (other_reads t above x c) one other → has_other t one above x c ≡ has_other t other above x c
  unfolding has_other other_reads
  other_agrees above x c agree =
      any_agrees one other (λ y. not (y == x) && is_in_case t c y && exists_at t one above y) (λ y. not (y == x) && is_in_case t c y && exists_at t other above y)
      (λ y row. not (y == x) && is_in_case t c y && tells t above y row) (numbers t.nodes)
      (λ y. and_agrees one other (not (y == x) && is_in_case t c y) (exists_at t one above y) (exists_at t other above y) (tells t above y) (exists_agrees above y)) agree

  pub beside_agrees : (above : Path) (x : ℕ) (o : Option ℕ) → AgreeOn (beside_reads t above x o) one other → has_beside t one above x o ≡ has_beside t other above x o
  beside_agrees above x None agree = refl
  beside_agrees above x (Some c) agree = other_agrees above x c agree

  pub choice_agrees : (above : Path) (k : ℕ) → AgreeOn (choice_reads t above k) one other → has_node t one above k ≡ has_node t other above k
  unfolding has_node choice_reads
  choice_agrees above k agree =
      any_agrees one other (λ x. is_of_choice t k x && exists_at t one above x) (λ x. is_of_choice t k x && exists_at t other above x) (λ x row. is_of_choice t k x && tells t above x row) (numbers t.nodes)
      (λ x. and_agrees one other (is_of_choice t k x) (exists_at t one above x) (exists_at t other above x) (tells t above x) (exists_agrees above x)) agree

  -- ---- guards

  open_by : (f : Test) (h g : Bool) → (AgreeOn f one other → h ≡ g) → (above : Path) (s : PathStep) (w : Bool) (o : Option ℕ) → is_whole s.chosen ≡ w
      → AgreeOn (λ row. open_reads t (f row) above s o row) one other → (h && (w && is_allowed_at t one above o)) ≡ (g && (w && is_allowed_at t other above o))
  open_by f h g given above s w None is agree = never h w ∙ sym (never g w)
  open_by f h g given above s false (Some x) is agree = and_never h ∙ sym (and_never g)
  open_by f h g given above s true (Some x) is agree =
      let both : AgreeOn (λ row. f row || allowed_reads t above (case_at t.nodes x) row) one other = λ row e. agree row (ap (λ w. w && (f row || allowed_reads t above (case_at t.nodes x) row)) is ∙ e) in
      let held = given (left one other f (allowed_reads t above (case_at t.nodes x)) both) in
      let allowed = allowed_agrees above (case_at t.nodes x) (right one other f (allowed_reads t above (case_at t.nodes x)) both) in
      λ i. held i && allowed i

  -- a step at which what is above holds or doesn't
  pub open_agrees : (f : Test) (h g : Bool) → (AgreeOn f one other → h ≡ g) → (above : Path) (s : PathStep)
      → AgreeOn (λ row. open_reads t (f row) above s (node_of t (above ++ s ∷ [])) row) one other → (h && is_open_step t one above s) ≡ (g && is_open_step t other above s)
  open_agrees f h g given above s agree = open_by f h g given above s (is_whole s.chosen) (node_of t (above ++ s ∷ [])) refl agree

  guard_by : (f : Test) (h g : Bool) → (AgreeOn f one other → h ≡ g) → (above : Path) (s : PathStep) (own : Bool)
      → AgreeOn (λ row. if own then is_same_path (above ++ s ∷ []) row else open_reads t (f row) above s (node_of t (above ++ s ∷ [])) row) one other
      → (if own then contains_key one (above ++ s ∷ []) else (h && is_open_step t one above s)) ≡ (if own then contains_key other (above ++ s ∷ []) else (g && is_open_step t other above s))
  guard_by f h g given above s true agree = row_agrees one other (above ++ s ∷ []) agree
  guard_by f h g given above s false agree = open_agrees f h g given above s agree

  guard_agrees : (f : Test) (h g : Bool) → (AgreeOn f one other → h ≡ g) → (above : Path) (s : PathStep) → AgreeOn (λ row. guard_reads t (f row) above s row) one other
      → holds_below t one h above s ≡ holds_below t other g above s
  guard_agrees f h g given above s agree = guard_by f h g given above s (is_own_at t.nodes (node_of t (above ++ s ∷ []))) agree

  holds_from_agrees : (f : Test) (h g : Bool) → (AgreeOn f one other → h ≡ g) → (above ss : Path) → AgreeOn (λ row. holds_reads_from t (f row) above ss row) one other
      → holds_from t one h above ss ≡ holds_from t other g above ss
  holds_from_agrees f h g given above [] agree = given agree
  holds_from_agrees f h g given above (s ∷ ss) agree =
      holds_from_agrees (λ row. guard_reads t (f row) above s row) (holds_below t one h above s) (holds_below t other g above s) (guard_agrees f h g given above s) (above ++ s ∷ []) ss agree

  pub holds_agrees : (above : Path) → AgreeOn (holds_reads t above) one other → holds_at t one above ≡ holds_at t other above
  holds_agrees above agree = holds_from_agrees (λ row. false) true true (λ a. refl) [] above agree

  stands_from_agrees : (f : Test) (h g : Bool) → (AgreeOn f one other → h ≡ g) → (above ss : Path) → AgreeOn (λ row. stands_reads_from t (f row) above ss row) one other
      → stands_from t one h above ss ≡ stands_from t other g above ss
  stands_from_agrees f h g given above [] agree = refl
  stands_from_agrees f h g given above (s ∷ []) agree = open_agrees f h g given above s agree
  stands_from_agrees f h g given above (s ∷ r ∷ ss) agree =
      stands_from_agrees (λ row. guard_reads t (f row) above s row) (holds_below t one h above s) (holds_below t other g above s) (guard_agrees f h g given above s) (above ++ s ∷ []) (r ∷ ss) agree

  pub stands_agrees : (path : Path) → AgreeOn (stands_reads t path) one other → stands t one path ≡ stands t other path
  stands_agrees path agree = stands_from_agrees (λ row. false) true true (λ a. refl) [] path agree
