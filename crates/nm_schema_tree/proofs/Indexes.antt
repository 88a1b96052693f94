-- The levels of a tree after a node more, and after a node's kind is another.
use Rattle.std.proofs.Common.{◌≡◌, ◌⊎◌, ℕ, zero, suc, ◌+◌, ◌<◌, List, [], ◌∷◌, ◌++◌, length, set, Bool, true, false, cond, Option, Some, None, if◌then◌else◌, slice_get, refl, sym, ap, ◌∙◌, subst, inl, inr, arith, length-append, String}
use Rattle.std.specs.Option.{option_or}
use Rattle.std.specs.List.{position_from}
use Rattle.std.specs.BTreeMap.{BTreeMap}
use Rattle.std.specs.declared.alloc.Global.{Global}
use Rattle.std.proofs.lemmas.Option.{same_Some, none-some}
use Rattle.std.proofs.lemmas.List.{length-set}
use Rattle.nm_schema_tree.specs.declared.node.Node.{Node}
use Rattle.nm_schema_tree.specs.declared.node.NodeKind.{NodeKind}
use Rattle.nm_schema_tree.specs.declared.node.Reference.{Reference}
use Rattle.nm_schema_tree.specs.declared.level.Level.{Level}
use Rattle.nm_schema_tree.specs.Nodes.{same_parent, is_named, is_top, first_named, first_top, those_in, children, may_follow, module_in, module_at, of_kind, with_reference, referring, with_keys, keying}
use Rattle.nm_schema_tree.specs.Levels.{order_in, found_in, found_top, FindsNone, IsTree, IsIndexed, IsPutBelow, IsPutTop, AreSame, IsSameTop}
use Rattle.nm_schema_tree.proofs.Positions.{shown-push, position-push, push_cases, position-set, set_cases}

those_in-push : (n : ℕ) (p : Option ℕ) (nodes : List Node) (r : Node)
    → those_in n p (nodes ++ r ∷ []) ≡ those_in n p nodes ++ (if same_parent r.parent p then (n + length nodes) ∷ [] else [])
unfolding those_in
those_in-push n p [] r = elim (same_parent r.parent p) as (λ b. (if b then n ∷ [] else []) ≡ [] ++ (if b then (n + 0) ∷ [] else [])) [ true ↦ grind arith | false ↦ refl ]
those_in-push n p (s ∷ nodes) r =
    let e : n + length (s ∷ nodes) ≡ suc n + length nodes = omega arith in
    let h = those_in-push (suc n) p nodes r in
    rw e (elim (same_parent s.parent p) as (λ b. (if b then n ∷ those_in (suc n) p (nodes ++ r ∷ []) else those_in (suc n) p (nodes ++ r ∷ [])) ≡ (if b then n ∷ those_in (suc n) p nodes else those_in (suc n) p nodes) ++ (if same_parent r.parent p then (suc n + length nodes) ∷ [] else [])) [
      | true ↦ ap (λ (l : List ℕ). n ∷ l) h
      | false ↦ h
    ])

pub indexed_push : (nodes : List Node) (levels more : List Level) (top wider : BTreeMap (String Global) Level) (n : Node) (e : Level) → IsIndexed nodes levels top
    → IsPutBelow n (length nodes) levels more → IsPutTop n (length nodes) top wider → e.order.items ≡ [] → FindsNone e → IsIndexed (nodes ++ n ∷ []) (more ++ e ∷ []) wider
unfolding first_named first_top
indexed_push nodes levels more top wider n e h below above empty none =
    let c = h.count in let d = below.count in
    let z : 0 + length nodes ≡ length nodes = omega arith in
    record {
      count = length-append more (e ∷ []) ∙ ap (λ k. k + 1) (d ∙ c) ∙ sym (length-append nodes (n ∷ []));
      order = λ i. shown-push order_in more e i (sym empty) ∙ below.order i ∙ ap (λ (l : List ℕ). l ++ (if same_parent n.parent (Some i) then length nodes ∷ [] else [])) (h.order i) ∙ sym (rw z at (those_in-push 0 (Some i) nodes n));
      first = λ i q. shown-push (λ o. found_in o q) more e i (sym (none q)) ∙ below.first i q ∙ ap (λ o. option_or o (if is_named (Some i) q n then Some (length nodes) else None)) (h.first i q) ∙ sym (rw z at (position-push (is_named (Some i) q) 0 nodes n));
      tops = λ o q. above o q ∙ ap (λ x. option_or x (if is_top o q n then Some (length nodes) else None)) (h.tops o q) ∙ sym (rw z at (position-push (is_top o q) 0 nodes n));
    }

front_module : (nodes : List Node) (n : Node) (p : ℕ) (owner : List ℕ) → module_at nodes p ≡ Some owner → module_at (nodes ++ n ∷ []) p ≡ Some owner
front_module [] n p owner e = absurd (none-some owner e)
front_module (m ∷ nodes) n zero owner e = e
front_module (m ∷ nodes) n (suc p) owner e = front_module nodes n p owner e

module_within : (nodes : List Node) (p : ℕ) (owner : List ℕ) → module_at nodes p ≡ Some owner → p < length nodes
module_within [] p owner e = absurd (none-some owner e)
module_within (m ∷ nodes) zero owner e = omega arith
module_within (m ∷ nodes) (suc p) owner e = let h = module_within nodes p owner e in omega (arith, h)

-- what stands in a node may only follow that node
pub followed : (nodes : List Node) (parent : Option ℕ) (owner : List ℕ) (p : ℕ) → may_follow nodes parent owner → parent ≡ Some p → module_at nodes p ≡ Some owner
followed nodes parent owner p h e = subst (λ (o : Option ℕ). may_follow nodes o owner) e h

pub followed_within : (nodes : List Node) (parent : Option ℕ) (owner : List ℕ) (p : ℕ) → may_follow nodes parent owner → parent ≡ Some p → p < length nodes
followed_within nodes parent owner p h e = module_within nodes p owner (followed nodes parent owner p h e)

pub tree_push : (nodes : List Node) (n : Node) → IsTree nodes → may_follow nodes n.parent n.«module» → IsTree (nodes ++ n ∷ [])
tree_push nodes n tree h = record {
  parents = λ i p m e within. elim (push_cases nodes n m i e) [
    | inl front ↦ tree.parents i p m front within
    | inr last ↦
        let same : n ≡ m = same_Some n m last.1 in
        let lt = followed_within nodes n.parent n.«module» p h (ap (λ (x : Node). x.parent) same ∙ within) in
        let at = last.0 in
        omega (arith, lt, at)
  ];
  modules = λ i p m e within. elim (push_cases nodes n m i e) [
    | inl front ↦ front_module nodes n p m.«module» (tree.modules i p m front within)
    | inr last ↦
        let same : n ≡ m = same_Some n m last.1 in
        front_module nodes n p m.«module» (followed nodes n.parent n.«module» p h (ap (λ (x : Node). x.parent) same ∙ within) ∙ ap (λ (x : Node). Some x.«module») same)
  ];
}

-- ---- another kind

module_at-set : (nodes : List Node) (i p : ℕ) (x y : Node) → slice_get nodes i ≡ Some x → y.«module» ≡ x.«module» → module_at (set nodes i y) p ≡ module_at nodes p
module_at-set [] i p x y e same = refl
module_at-set (z ∷ nodes) zero zero x y e same = ap Some same ∙ ap (λ (n : Node). Some n.«module») (sym (same_Some z x e))
module_at-set (z ∷ nodes) zero (suc p) x y e same = refl
module_at-set (z ∷ nodes) (suc i) zero x y e same = refl
module_at-set (z ∷ nodes) (suc i) (suc p) x y e same = module_at-set nodes i p x y e same

those_in-set : (n : ℕ) (parent : Option ℕ) (nodes : List Node) (i : ℕ) (x y : Node) → slice_get nodes i ≡ Some x → y.parent ≡ x.parent → those_in n parent (set nodes i y) ≡ those_in n parent nodes
unfolding those_in
those_in-set n parent [] i x y e same = refl
those_in-set n parent (z ∷ nodes) zero x y e same =
    ap (λ (p : Option ℕ). if same_parent p parent then n ∷ those_in (suc n) parent nodes else those_in (suc n) parent nodes) (same ∙ ap (λ (m : Node). m.parent) (sym (same_Some z x e)))
those_in-set n parent (z ∷ nodes) (suc i) x y e same =
    ap (λ (l : List ℕ). if same_parent z.parent parent then n ∷ l else l) (those_in-set (suc n) parent nodes i x y e same)

tree_kind : (nodes : List Node) (i : ℕ) (x : Node) (k : NodeKind) → slice_get nodes i ≡ Some x → IsTree nodes → IsTree (set nodes i (of_kind k x))
tree_kind nodes i x k e tree = record {
  parents = λ j p m d within. elim (set_cases nodes i j x (of_kind k x) m e d) [
    | inl kept ↦ tree.parents j p m kept within
    | inr new ↦ tree.parents j p x new.0 (ap (λ (y : Node). y.parent) (same_Some (of_kind k x) m new.1) ∙ within)
  ];
  modules = λ j p m d within. module_at-set nodes i p x (of_kind k x) e refl ∙ elim (set_cases nodes i j x (of_kind k x) m e d) [
    | inl kept ↦ tree.modules j p m kept within
    | inr new ↦
        let same : of_kind k x ≡ m = same_Some (of_kind k x) m new.1 in
        tree.modules j p x new.0 (ap (λ (y : Node). y.parent) same ∙ within) ∙ ap (λ (y : Node). Some y.«module») same
  ];
}

indexed_kind : (nodes : List Node) (levels : List Level) (top : BTreeMap (String Global) Level) (i : ℕ) (x : Node) (k : NodeKind) → slice_get nodes i ≡ Some x
    → IsIndexed nodes levels top → IsIndexed (set nodes i (of_kind k x)) levels top
unfolding first_named first_top
indexed_kind nodes levels top i x k e h = record {
  count = h.count ∙ sym (length-set nodes i (of_kind k x));
  order = λ j. h.order j ∙ sym (those_in-set 0 (Some j) nodes i x (of_kind k x) e refl);
  first = λ j q. h.first j q ∙ sym (position-set (is_named (Some j) q) 0 nodes i x (of_kind k x) e refl);
  tops = λ o q. h.tops o q ∙ sym (position-set (is_top o q) 0 nodes i x (of_kind k x) e refl);
}

pub referred : (nodes : List Node) (levels : List Level) (top : BTreeMap (String Global) Level) (i : ℕ) (to : Option Reference) (o : Option Node) → slice_get nodes i ≡ o
    → IsTree nodes → IsIndexed nodes levels top → IsTree (referring nodes i to o) × IsIndexed (referring nodes i to o) levels top
referred nodes levels top i to None e tree h = (tree, h)
referred nodes levels top i to (Some x) e tree h =
    (tree_kind nodes i x (with_reference to x.kind) e tree, indexed_kind nodes levels top i x (with_reference to x.kind) e h)

pub keyed : (nodes : List Node) (levels : List Level) (top : BTreeMap (String Global) Level) (i : ℕ) (keys : List ℕ) (uniques : List (List ℕ)) (o : Option Node) → slice_get nodes i ≡ o
    → IsTree nodes → IsIndexed nodes levels top → IsTree (keying nodes i keys uniques o) × IsIndexed (keying nodes i keys uniques o) levels top
keyed nodes levels top i keys uniques None e tree h = (tree, h)
keyed nodes levels top i keys uniques (Some x) e tree h =
    (tree_kind nodes i x (with_keys keys uniques x.kind) e tree, indexed_kind nodes levels top i x (with_keys keys uniques x.kind) e h)

pub none_indexed : (top : BTreeMap (String Global) Level) → ((o q : List ℕ) → found_top top o q ≡ None) → IsIndexed [] [] top
unfolding first_named first_top those_in
none_indexed top none = record { count = refl; order = λ i. refl; first = λ i q. refl; tops = none }

pub none_tree : IsTree []
none_tree = record { parents = λ i p n e within. absurd (none-some n e); modules = λ i p n e within. absurd (none-some n e) }

-- a tree whose levels have what they had
pub indexed_same : (nodes : List Node) (levels after : List Level) (top wider : BTreeMap (String Global) Level) → IsIndexed nodes levels top → AreSame levels after → IsSameTop top wider → IsIndexed nodes after wider
indexed_same nodes levels after top wider h same above = record {
  count = same.count ∙ h.count;
  order = λ i. same.order i ∙ h.order i;
  first = λ i q. same.first i q ∙ h.first i q;
  tops = λ o q. above o q ∙ h.tops o q;
}
