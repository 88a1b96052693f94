-- The node that is found by a name.
use Rattle.std.proofs.Common.{◌≡◌, ℕ, zero, suc, List, Bool, true, false, Option, Some, None, IfSome, slice_get, refl, sym, ap, ◌∙◌, ◌&&◌, subst, arith}
use Rattle.std.proofs.lemmas.Grind.{common_steps}
use Rattle.std.proofs.lemmas.Slice.Eq.{bytes_eq-Decides}
use Rattle.std.specs.Str.{bytes_eq}
use Rattle.nm_schema_tree.specs.declared.node.Node.{Node}
use Rattle.nm_schema_tree.specs.Nodes.{same_parent, is_named, is_top, first_named, first_top, parent_in, parent_of, module_in, module_at}
use Rattle.nm_schema_tree.proofs.Positions.{Passes, first_passes}

and_first : (a b : Bool) → (a && b) ≡ true → a ≡ true
and_first true b e = refl
and_first false b e = e

parent_is : (o : Option ℕ) (i : ℕ) → same_parent o (Some i) ≡ true → o ≡ Some i
parent_is None i e = grind arith
parent_is (Some j) i e = grind (arith, common_steps)

pub named_parent : (nodes : List Node) (i : ℕ) (name : List ℕ) (o : Option ℕ) → o ≡ first_named nodes i name → IfSome o (λ at. parent_of nodes at ≡ Some i)
unfolding first_named
named_parent nodes i name None e = tt
named_parent nodes i name (Some at) e =
    let h = first_passes (is_named (Some i) name) nodes at (sym e) in
    ap parent_in h.here ∙ parent_is h.x.parent i (and_first (same_parent h.x.parent (Some i)) (bytes_eq h.x.name name) h.passes)

pub top_module : (nodes : List Node) (owner name : List ℕ) (o : Option ℕ) → o ≡ first_top nodes owner name → IfSome o (λ at. module_at nodes at ≡ Some owner)
unfolding first_top
top_module nodes owner name None e = tt
top_module nodes owner name (Some at) e =
    let h = first_passes (is_top owner name) nodes at (sym e) in
    ap module_in h.here ∙ ap Some ((bytes_eq-Decides h.x.«module» owner).0 (and_first (bytes_eq h.x.«module» owner) (is_named None name h.x) h.passes))
