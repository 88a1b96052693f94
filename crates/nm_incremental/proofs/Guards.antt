-- What is read of guards, from the last step of a path.
use Rattle.std.proofs.Common.{◌≡◌, ℕ, List, [], ◌∷◌, ◌++◌, Bool, true, false, ◌&&◌, ◌||◌, Option, Some, None, if◌then◌else◌, refl, sym, ap, ◌∙◌, append-nil, append_assoc}
use Rattle.nm_types.specs.Path.{PathStep}
use Rattle.nm_schema_tree.specs.Nodes.{SchemaTree, case_at}
use Rattle.nm_path.specs.Spelling.{node_of}
use Rattle.nm_config.specs.Under.{is_whole, is_end}
use Rattle.nm_validate_rules.specs.Standing.{is_own_at}
use Rattle.nm_validate_rules.specs.Guards.{front}
use Rattle.nm_validate_rules.specs.Values.{is_same_path}
use Rattle.nm_validate_rules.specs.Violated.{last_chosen}
use Rattle.nm_validate_rules.proofs.Areas.{ends}
use Rattle.nm_validate_rules.specs.Reads.{allowed_reads, open_reads, guard_reads, holds_reads_from, holds_reads, stands_reads_from, stands_reads}
use Rattle.nm_validate_rules.proofs.Entries.{front_last, chosen_last}
use Rattle.nm_incremental.specs.Guarded.{open_at, open_by}

module _ (t : SchemaTree) (row : List PathStep) where
  holds_last : (so_far : Bool) (at ss : List PathStep) (s : PathStep) → holds_reads_from t so_far at (ss ++ s ∷ []) row ≡ guard_reads t (holds_reads_from t so_far at ss row) (at ++ ss) s row
  holds_last so_far at [] s = ap (λ p. guard_reads t so_far p s row) (sym (append-nil at))
  holds_last so_far at (r ∷ ss) s =
      holds_last (guard_reads t so_far at r row) (at ++ r ∷ []) ss s
      ∙ ap (λ p. guard_reads t (holds_reads_from t (guard_reads t so_far at r row) (at ++ r ∷ []) ss row) p s row) (append_assoc at (r ∷ []) ss)

  stands_last : (so_far : Bool) (at ss : List PathStep) (s : PathStep)
      → stands_reads_from t so_far at (ss ++ s ∷ []) row ≡ open_reads t (holds_reads_from t so_far at ss row) (at ++ ss) s (node_of t ((at ++ ss) ++ s ∷ [])) row
  stands_last so_far at [] s = ap (λ p. open_reads t so_far p s (node_of t (p ++ s ∷ [])) row) (sym (append-nil at))
  stands_last so_far at (r ∷ []) s = refl
  stands_last so_far at (r ∷ q ∷ ss) s =
      stands_last (guard_reads t so_far at r row) (at ++ r ∷ []) (q ∷ ss) s
      ∙ ap (λ p. open_reads t (holds_reads_from t (guard_reads t so_far at r row) (at ++ r ∷ []) (q ∷ ss) row) p s (node_of t (p ++ s ∷ [])) row) (append_assoc at (r ∷ []) (q ∷ ss))

  open_of : (so_far : Bool) (above : List PathStep) (s : PathStep) (o : Option ℕ) → open_reads t so_far above s o row ≡ open_at t so_far (front (above ++ s ∷ [])) (above ++ s ∷ []) o row
  open_of so_far above s None = refl
  open_of so_far above s (Some x) =
      ap (λ c. is_whole c && (so_far || allowed_reads t above (case_at t.nodes x) row)) (sym (chosen_last above s))
      ∙ ap (λ a. is_whole (last_chosen (above ++ s ∷ [])) && (so_far || allowed_reads t a (case_at t.nodes x) row)) (sym (front_last above s))

  open_last : (path above : List PathStep) (s : PathStep) → path ≡ above ++ s ∷ []
      → open_reads t (holds_reads t above row) above s (node_of t (above ++ s ∷ [])) row ≡ open_by t (holds_reads t (front path) row) (front path) path row
  open_last path above s is =
      open_of (holds_reads t above row) above s (node_of t (above ++ s ∷ []))
      ∙ ap (λ a. open_by t (holds_reads t a row) (front (above ++ s ∷ [])) (above ++ s ∷ []) row) (sym (front_last above s))
      ∙ ap (λ p. open_by t (holds_reads t (front p) row) (front p) p row) (sym is)

  -- at the top nothing is read
  pub holds_top : (path : List PathStep) → is_end path ≡ true → holds_reads t path row ≡ false
  holds_top [] e = refl
  holds_top (s ∷ ss) e = absurd (cc)

  pub stands_top : (path : List PathStep) → is_end path ≡ true → stands_reads t path row ≡ false
  stands_top [] e = refl
  stands_top (s ∷ ss) e = absurd (cc)

  -- of a list entry and a container with presence its row
  pub holds_own : (path : List PathStep) → is_end path ≡ false → is_own_at t.nodes (node_of t path) ≡ true → holds_reads t path row ≡ is_same_path path row
  holds_own [] e own = absurd (cc)
  holds_own (s ∷ ss) e own =
      let h = ends s ss in
      ap (λ p. holds_reads t p row) h.is ∙ holds_last false [] h.above h.step
      ∙ ap (λ (b : Bool). if b then is_same_path (h.above ++ h.step ∷ []) row else open_reads t (holds_reads t h.above row) h.above h.step (node_of t (h.above ++ h.step ∷ [])) row)
      (ap (λ p. is_own_at t.nodes (node_of t p)) (sym h.is) ∙ own)
      ∙ ap (λ p. is_same_path p row) (sym h.is)

  -- of another node what is read above it, and its case
  pub holds_other : (path : List PathStep) → is_end path ≡ false → is_own_at t.nodes (node_of t path) ≡ false → holds_reads t path row ≡ open_by t (holds_reads t (front path) row) (front path) path row
  holds_other [] e own = absurd (cc)
  holds_other (s ∷ ss) e own =
      let h = ends s ss in
      ap (λ p. holds_reads t p row) h.is ∙ holds_last false [] h.above h.step
      ∙ ap (λ (b : Bool). if b then is_same_path (h.above ++ h.step ∷ []) row else open_reads t (holds_reads t h.above row) h.above h.step (node_of t (h.above ++ h.step ∷ [])) row)
      (ap (λ p. is_own_at t.nodes (node_of t p)) (sym h.is) ∙ own)
      ∙ open_last (s ∷ ss) h.above h.step h.is

  pub stands_other : (path : List PathStep) → is_end path ≡ false → stands_reads t path row ≡ open_by t (holds_reads t (front path) row) (front path) path row
  stands_other [] e = absurd (cc)
  stands_other (s ∷ ss) e =
      let h = ends s ss in
      ap (λ p. stands_reads t p row) h.is ∙ stands_last false [] h.above h.step ∙ open_last (s ∷ ss) h.above h.step h.is
