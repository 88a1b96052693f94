-- Guards from the last step of a path, and values of leafs from those of rows and keys.
use Rattle.std.proofs.Common.{◌≡◌, ℕ, suc, ◌-◌, ◌<◌, List, [], ◌∷◌, ◌++◌, length, Bool, true, false, ◌&&◌, Option, Some, None, if◌then◌else◌, refl, sym, ap, ◌∙◌, arith}
use Rattle.std.specs.FinMap.{contains_key}
use Rattle.nm_types.specs.Path.{PathStep}
use Rattle.nm_schema_tree.specs.Nodes.{SchemaTree, parent_of}
use Rattle.nm_schema_tree.specs.Levels.{IsTree}
use Rattle.nm_path.specs.Spelling.{node_of}
use Rattle.nm_config.specs.Rows.{Rows}
use Rattle.nm_config.specs.Under.{is_whole, is_end}
use Rattle.nm_validate_rules.specs.Standing.{is_own_at}
use Rattle.nm_validate_rules.specs.Guards.{front, is_allowed_at, is_open_step, holds_at, stands}
use Rattle.nm_validate_rules.specs.Places.{chain}
use Rattle.nm_validate_rules.specs.Violated.{last_chosen}
use Rattle.nm_validate_rules.proofs.Areas.{ends, holds_by_last}
use Rattle.nm_validate_places.specs.Leafs.{is_open}
use Rattle.nm_validate_places.proofs.Below.{top_chain}
use Rattle.nm_validate_places.proofs.Choosing.{front_last, stands_by_last}

last_of : (above : List PathStep) (s : PathStep) → last_chosen (above ++ s ∷ []) ≡ s.chosen
last_of [] s = refl
last_of (r ∷ []) s = refl
last_of (r ∷ q ∷ ss) s = last_of (q ∷ ss) s

less : (path : List PathStep) → is_end path ≡ false → suc (length (front path)) ≡ length path
less [] e = absurd (cc)
less (s ∷ []) e = refl
less (s ∷ r ∷ ss) e = ap suc (less (r ∷ ss) refl)

-- a path has one step more than what is above it
pub front_less : (n : ℕ) (path above : List PathStep) → n ≡ length path → is_end path ≡ false → above ≡ front path → n - 1 ≡ length above
front_less n path above e some is = let h = less path some in let k = ap length is in omega (arith, h, k, e)

pub some_steps : (n : ℕ) (path : List PathStep) → n ≡ length path → is_end path ≡ false → 0 < n
some_steps n [] e some = absurd (cc)
some_steps n (s ∷ ss) e some = omega (arith, e)

module _ (t : SchemaTree) (rows : Rows) where
  pub holds_top : (path : List PathStep) → is_end path ≡ true → holds_at t rows path ≡ true
  holds_top [] e = refl
  holds_top (s ∷ ss) e = absurd (cc)

  pub stands_top : (path : List PathStep) → is_end path ≡ true → stands t rows path ≡ false
  stands_top [] e = refl
  stands_top (s ∷ ss) e = absurd (cc)

  open_last : (above : List PathStep) (s : PathStep) → is_open_step t rows above s ≡ is_open t rows (front (above ++ s ∷ [])) (above ++ s ∷ [])
  open_last above s =
      ap (λ c. is_whole c && is_allowed_at t rows above (node_of t (above ++ s ∷ []))) (sym (last_of above s))
      ∙ ap (λ a. is_whole (last_chosen (above ++ s ∷ [])) && is_allowed_at t rows a (node_of t (above ++ s ∷ []))) (sym (front_last above s))

  both_last : (path : List PathStep) (above : List PathStep) (s : PathStep) → path ≡ above ++ s ∷ [] → (holds_at t rows above && is_open_step t rows above s) ≡ (holds_at t rows (front path) && is_open t rows (front path) path)
  both_last path above s is =
      ap (λ b. holds_at t rows above && b) (open_last above s)
      ∙ ap (λ a. holds_at t rows a && is_open t rows (front (above ++ s ∷ [])) (above ++ s ∷ [])) (sym (front_last above s))
      ∙ ap (λ p. holds_at t rows (front p) && is_open t rows (front p) p) (sym is)

  by_own : (own c o : Bool) (b : Bool) → own ≡ b → (if own then c else o) ≡ (if b then c else o)
  by_own own c o b e = ap (λ x. if x then c else o) e

  -- a list or a container with presence holds by its row
  pub holds_own : (path : List PathStep) → is_end path ≡ false → is_own_at t.nodes (node_of t path) ≡ true → holds_at t rows path ≡ contains_key rows path
  holds_own [] e own = absurd (cc)
  holds_own (s ∷ ss) e own =
      let h = ends s ss in
      ap (holds_at t rows) h.is ∙ holds_by_last t rows true [] h.above h.step
      ∙ by_own (is_own_at t.nodes (node_of t (h.above ++ h.step ∷ []))) (contains_key rows (h.above ++ h.step ∷ [])) (holds_at t rows h.above && is_open_step t rows h.above h.step) true
      (ap (λ p. is_own_at t.nodes (node_of t p)) (sym h.is) ∙ own)
      ∙ ap (contains_key rows) (sym h.is)

  -- another node holds by what is above it
  pub holds_other : (path : List PathStep) → is_end path ≡ false → is_own_at t.nodes (node_of t path) ≡ false → holds_at t rows path ≡ (holds_at t rows (front path) && is_open t rows (front path) path)
  holds_other [] e own = absurd (cc)
  holds_other (s ∷ ss) e own =
      let h = ends s ss in
      ap (holds_at t rows) h.is ∙ holds_by_last t rows true [] h.above h.step
      ∙ by_own (is_own_at t.nodes (node_of t (h.above ++ h.step ∷ []))) (contains_key rows (h.above ++ h.step ∷ [])) (holds_at t rows h.above && is_open_step t rows h.above h.step) false
      (ap (λ p. is_own_at t.nodes (node_of t p)) (sym h.is) ∙ own)
      ∙ both_last (s ∷ ss) h.above h.step h.is

  pub stands_last : (path : List PathStep) → is_end path ≡ false → stands t rows path ≡ (holds_at t rows (front path) && is_open t rows (front path) path)
  stands_last [] e = absurd (cc)
  stands_last (s ∷ ss) e =
      let h = ends s ss in
      ap (stands t rows) h.is ∙ stands_by_last t rows true [] h.above h.step ∙ both_last (s ∷ ss) h.above h.step h.is

pub never : (a b : Bool) → b ≡ false → (a && b) ≡ false
never true b e = e
never false b e = refl

pub as_first : (a b : Bool) → b ≡ true → (a && b) ≡ a
as_first true b e = e
as_first false b e = refl

-- the nodes from the top down to a node
pub chain_more : (t : SchemaTree) → IsTree t.nodes → (x : ℕ) → chain t.nodes (parent_of t.nodes x) ++ x ∷ [] ≡ chain t.nodes (Some x)
chain_more t tree x = ap (λ l. l ++ x ∷ []) (sym (top_chain t tree x (parent_of t.nodes x) refl))
