-- A search goes on: what it keeps true of the nodes that it has found.
use Rattle.std.proofs.Common.{◌≡◌, ℕ, ◌<◌, ◌≤◌, ◌+◌, Bool, true, false, List, [], ◌∷◌, ◌++◌, length, take, set, get_or, ap, sym, ◌∙◌, refl, subst, inl, inr, ◌⊎◌, arith, Contains, All, cond, count_by, sum_by, get_or-set_same, get_or-set_other, length-set}
use Rattle.std.proofs.lemmas.Bool.{cases_eq}
use Rattle.std.proofs.lemmas.List.{take_all, take_at, take_more, take-take, length_push, length-take}
use Rattle.std.proofs.lemmas.List.Sums.{sum_by-set}
use Rattle.std.proofs.lemmas.List.Elements.{All-push, All-weaker, All-contains, All-cons, All-nil, Contains-push, Contains-append_left, Contains-append_right, Contains-push_cases}
use Rattle.nm_graph.specs.declared.reach.Search.{Search}
use Rattle.nm_graph.specs.Search.{Has, IsSearch, Finds, IsReaching}

-- the node was found already
pub finds-none : (s : Search) (node : ℕ) → Has s node → Finds s (node ∷ []) s
finds-none s node h = record {
  size = refl;
  begins = take_all (length s.nodes.items) s.nodes.items (omega arith);
  longer = omega arith;
  kept = λ i k. k;
  found = All-cons (Has s) node [] h (All-nil (Has s));
  only = λ i k. inl k;
}

module _ (a b : Search) (node : ℕ) (sound : IsSearch a) (within : node < length a.is_found.items) (absent : get_or a.is_found.items node false ≡ false) (marks : b.is_found.items ≡ set a.is_found.items node true) (nodes : b.nodes.items ≡ a.nodes.items ++ node ∷ []) where
  has-node : Has b node
  has-node = rw marks (get_or-set_same a.is_found.items node true false within)

  has-kept : (i : ℕ) → Has a i → Has b i
  has-kept i h = elim (cases_eq i node) [
    | inl e ↦ rw e has-node
    | inr n ↦ rw marks (get_or-set_other a.is_found.items node i true false n ∙ h)
  ]

  has-lists : (i : ℕ) → Has b i → Contains b.nodes.items i
  has-lists i h = elim (cases_eq i node) [
    | inl e ↦ rw nodes (rw e (Contains-push a.nodes.items node))
    | inr n ↦ rw nodes (Contains-append_left a.nodes.items (node ∷ []) i (sound.listed i (sym (get_or-set_other a.is_found.items node i true false n) ∙ ap (λ (l : List Bool). get_or l i false) (sym marks) ∙ h)))
  ]

  has-once : length b.nodes.items ≡ count_by (λ found. found) b.is_found.items
  has-once =
      let s : sum_by (λ found. cond found 1 0) (set a.is_found.items node true) + cond (get_or a.is_found.items node false) 1 0 ≡ count_by (λ found. found) a.is_found.items + 1 = sum_by-set (λ found. cond found 1 0) a.is_found.items node true false within in
      let z : cond {A = ℕ} (get_or a.is_found.items node false) 1 0 ≡ 0 = rw absent refl in
      rw (nodes, marks) (length_push a.nodes.items node ∙ omega (arith, sound.once, s, z))

  pub finds-sound : IsSearch b
  finds-sound = record {
    each = rw nodes (All-push (Has b) a.nodes.items node (All-weaker (Has a) (Has b) has-kept a.nodes.items sound.each) has-node);
    listed = has-lists;
    once = has-once;
  }

  pub finds-one : Finds a (node ∷ []) b
  finds-one = record {
    size = rw marks (search (length-set));
    begins = rw nodes (take_at a.nodes.items (node ∷ []) (length a.nodes.items) refl);
    longer = rw nodes (omega (arith, length_push a.nodes.items node));
    kept = has-kept;
    found = All-cons (Has b) node [] has-node (All-nil (Has b));
    only = λ i h. (let g : Contains (a.nodes.items ++ node ∷ []) i = subst (λ (l : List ℕ). Contains l i) nodes h in
        elim (Contains-push_cases a.nodes.items node i g) [
          | inl c ↦ inl c
          | inr e ↦ inr (rw (sym e) (Contains-push [] node))
        ]);
  }

-- a search goes on and finds one node more
pub finds-then : (a b c : Search) (xs : List ℕ) (y : ℕ) → Finds a xs b → Finds b (y ∷ []) c → Finds a (xs ++ y ∷ []) c
finds-then a b c xs y f g = record {
  size = g.size ∙ f.size;
  begins = sym (take-take (length a.nodes.items) (length b.nodes.items) c.nodes.items f.longer) ∙ ap (take (length a.nodes.items)) g.begins ∙ f.begins;
  longer = omega (arith, f.longer, g.longer);
  kept = λ i h. g.kept i (f.kept i h);
  found = All-push (Has c) xs y (All-weaker (Has b) (Has c) g.kept xs f.found) (g.found 0 y (omega arith));
  only = λ i h. elim (g.only i h) [
    | inl old ↦ elim (f.only i old) [ inl o ↦ inl o | inr m ↦ inr (Contains-append_left xs (y ∷ []) i m) ]
    | inr more ↦ inr (Contains-append_right xs (y ∷ []) i more)
  ];
}

pub finds-begin : (s : Search) → Finds s [] s
finds-begin s = record {
  size = refl;
  begins = take_all (length s.nodes.items) s.nodes.items (omega arith);
  longer = omega arith;
  kept = λ i k. k;
  found = All-nil (Has s);
  only = λ i k. inl k;
}

pub finds-more : (a b c : Search) (xs : List ℕ) (i : ℕ) → i < length xs → Finds a (take i xs) b → Finds b (get_or xs i 0 ∷ []) c → Finds a (take (i + 1) xs) c
finds-more a b c xs i h f g = rw (take_more xs i 0 h) (finds-then a b c (take i xs) (get_or xs i 0) f g)
