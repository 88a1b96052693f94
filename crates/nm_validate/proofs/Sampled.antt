-- Two leafs of two cases are the nodes of a schema that modules may give.
use Rattle.std.proofs.Common.{◌≡◌, ℕ, zero, suc, codes, map, length, true, Option, Some, None, slice_get, refl, sym, ap, ◌∙◌, subst, arith}
use Rattle.nm_types.specs.LeafType.{TypeOfLeaf, boolean}
use Rattle.nm_types.specs.Spells.{IsOnce, HasDistinctNames}
use Rattle.nm_schema_tree.specs.declared.node.Node.{Node}
use Rattle.nm_schema_tree.specs.Nodes.{type_at, keys_of}
use Rattle.nm_path.specs.Form.{is_identifier, is_start, is_name}
use Rattle.nm_path.specs.Spelling.{name_at}
use Rattle.nm_path.specs.Sound.{AreApart, HasKeys, HasLow, HasHeldBounds, IsSound}
use Rattle.nm_validate.specs.Sample.{leaf_in, two_leafs}

one_node : (a b : Node) → ◌≡◌ {A = Option Node} (Some a) (Some b) → a ≡ b
one_node a b e = cc

one_type : (a b : TypeOfLeaf) → ◌≡◌ {A = Option TypeOfLeaf} (Some a) (Some b) → a ≡ b
one_type a b e = cc

no_node : (b : Node) → ◌≡◌ {A = Option Node} None (Some b) → ⊥
no_node b e = cc

no_type : (b : TypeOfLeaf) → ◌≡◌ {A = Option TypeOfLeaf} None (Some b) → ⊥
no_type b e = cc

no_parent : (p : ℕ) → ◌≡◌ {A = Option ℕ} None (Some p) → ⊥
no_parent p e = cc

each : (P : Node → Type 0) → P (leaf_in 0 (codes "ip")) → P (leaf_in 1 (codes "vpn")) → (i : ℕ) (n : Node) → slice_get two_leafs i ≡ Some n → P n
each P a b zero n e = subst P (one_node (leaf_in 0 (codes "ip")) n e) a
each P a b (suc zero) n e = subst P (one_node (leaf_in 1 (codes "vpn")) n e) b
each P a b (suc (suc i)) n e = absurd (no_node n e)

no_parents : (i p : ℕ) (n : Node) → slice_get two_leafs i ≡ Some n → n.parent ≡ Some p → ⊥
no_parents i p n e parent = each (λ m. m.parent ≡ Some p → ⊥) (no_parent p) (no_parent p) i n e parent

other_names : (n m : Node) → leaf_in 0 (codes "ip") ≡ n → leaf_in 1 (codes "vpn") ≡ m → n.name ≡ m.name → ⊥
other_names n m p q e =
    let names : codes "ip" ≡ codes "vpn" = ap (λ (x : Node). x.name) p ∙ e ∙ sym (ap (λ (x : Node). x.name) q) in
    let lengths = ap length names in
    absurd (omega (arith, lengths))

apart : AreApart two_leafs
apart zero zero n m e f h = refl
apart zero (suc zero) n m e f h = absurd (other_names n m (one_node (leaf_in 0 (codes "ip")) n e) (one_node (leaf_in 1 (codes "vpn")) m f) h.name)
apart zero (suc (suc j)) n m e f h = absurd (no_node m f)
apart (suc zero) zero n m e f h = absurd (other_names m n (one_node (leaf_in 0 (codes "ip")) m f) (one_node (leaf_in 1 (codes "vpn")) n e) (sym h.name))
apart (suc zero) (suc zero) n m e f h = refl
apart (suc zero) (suc (suc j)) n m e f h = absurd (no_node m f)
apart (suc (suc i)) j n m e f h = absurd (no_node n e)

typed : (P : TypeOfLeaf → Type 0) → P (record { kind = boolean; limits = None }) → (i : ℕ) (t : TypeOfLeaf) → type_at two_leafs i ≡ Some t → P t
typed P a zero t e = subst P (one_type (record { kind = boolean; limits = None }) t e) a
typed P a (suc zero) t e = subst P (one_type (record { kind = boolean; limits = None }) t e) a
typed P a (suc (suc i)) t e = absurd (no_type t e)

pub two_sound : IsSound two_leafs
unfolding is_start is_name
two_sound = record {
  named = record {
    names = each (λ n. (is_identifier n.name ≡ true) × (is_identifier n.«module» ≡ true)) (refl, refl) (refl, refl);
    keys = each (λ n. IsOnce (map (λ k. name_at two_leafs k) (keys_of n.kind))) tt tt;
    bits = typed (λ t. HasDistinctNames t.kind) tt;
  };
  apart = apart;
  tree = record { parents = λ i p n e parent. absurd (no_parents i p n e parent); modules = λ i p n e parent. absurd (no_parents i p n e parent) };
  holders = λ i p n e parent. absurd (no_parents i p n e parent);
  keys = λ i n e. each (λ m. HasKeys two_leafs i m.kind) tt tt i n e;
  types = typed (λ t. HasLow t.kind × HasDistinctNames t.kind) (tt, tt);
  bounds = typed (λ t. HasHeldBounds t.kind) tt;
}
