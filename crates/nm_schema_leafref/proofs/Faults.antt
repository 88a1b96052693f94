-- Faults of paths, node by node.
use Rattle.std.proofs.Common.{◌≡◌, ◌<◌, ◌≤◌, ◌+◌, ◌∙◌, ◌⊎◌, ◌↔◌, ◌==◌, inl, inr, ℕ, List, [], length, Contains, Bool, true, false, Option, Some, None, MatchOption, slice_index_or, refl, sym, ap, subst, arith, if◌then◌else◌}
use Rattle.std.proofs.lemmas.Bool.{cases_lt, eqb-true}
use Rattle.nm_schema_uses.specs.Config.{LeadsBy, one, further}
use Rattle.nm_schema_nodes.specs.Expansion.{Expanded}
use Rattle.nm_schema_leafref.specs.declared.led.Led.{Led}
use Rattle.nm_schema_leafref.specs.declared.led.Led.TheVariants as led
use Rattle.nm_schema_leafref.specs.declared.fault.PathFault.{PathFault}
use Rattle.nm_schema_leafref.specs.declared.fault.PathFault.TheVariants as fault
use Rattle.nm_schema_leafref.specs.Walk.{path_row, led_to}
use Rattle.nm_schema_leafref.specs.Target.{targets, target_in, IsCircular}
use Rattle.nm_schema_leafref.specs.Fault.{IsFaulty, NoneFaulty, IsFirstFault, HasFault}
use Rattle.nm_schema_leafref.specs.Known.{fault_of, noted}
use Rattle.nm_schema_leafref.proofs.Targets.{path_row-past}

-- the fault of a node, if it has one
pub record IsFaultOf (typedefs : List (Option ℕ)) (t : Expanded) (x : ℕ) (f : Option PathFault) : Type 0 where
  pub right : (v : PathFault) → f ≡ Some v → IsFaulty typedefs t x v
  pub only : (v : PathFault) → IsFaulty typedefs t x v → f ≡ Some v

-- ---- the fault of a node

nothing_there : (i : ℕ) → Contains [] i → ⊥
nothing_there i c = omega (arith, c.1)

pub leads_nowhere : (next : ℕ → List ℕ) (i j : ℕ) → next i ≡ [] → LeadsBy next i j → ⊥
leads_nowhere next i j e (one c) = nothing_there j (rw e at c)
leads_nowhere next i j e (further k c l) = nothing_there k (rw e at c)

none_some : {X : Type 0} (x : X) → None ≡ Some x → ⊥
none_some x e = grind arith

kinds_differ : Some fault.Circular ≡ Some fault.Missing → ⊥
kinds_differ e = grind arith

kinds_differ_too : Some fault.Missing ≡ Some fault.Circular → ⊥
kinds_differ_too e = grind arith

unknown_missing : Some led.Unknown ≡ Some led.Missing → ⊥
unknown_missing e = grind arith

node_missing : (y : ℕ) → Some (led.Node y) ≡ Some led.Missing → ⊥
node_missing y e = grind arith

false_true : false ≡ true → ⊥
false_true e = grind arith

pub no_target : (typedefs : List (Option ℕ)) (t : Expanded) (x : ℕ) (found : Option Led) → led_to typedefs t x ≡ found → target_in found ≡ [] → targets typedefs t x ≡ []
unfolding targets
no_target typedefs t x found e none = ap target_in e ∙ none

module _ (typedefs : List (Option ℕ)) (t : Expanded) (x : ℕ) where
  of_none : led_to typedefs t x ≡ None → IsFaultOf typedefs t x None
  of_none e = record { right = λ v is. absurd (none_some v is); only = only }
    where
      only : (v : PathFault) → IsFaulty typedefs t x v → None ≡ Some v
      only fault.Missing is = absurd (none_some led.Missing (sym e ∙ is))
      only fault.Circular is = absurd (leads_nowhere (targets typedefs t) x x (no_target typedefs t x None e refl) is)

  of_unknown : led_to typedefs t x ≡ Some led.Unknown → IsFaultOf typedefs t x None
  of_unknown e = record { right = λ v is. absurd (none_some v is); only = only }
    where
      only : (v : PathFault) → IsFaulty typedefs t x v → None ≡ Some v
      only fault.Missing is = absurd (unknown_missing (sym e ∙ is))
      only fault.Circular is = absurd (leads_nowhere (targets typedefs t) x x (no_target typedefs t x (Some led.Unknown) e refl) is)

  of_missing : led_to typedefs t x ≡ Some led.Missing → IsFaultOf typedefs t x (Some fault.Missing)
  of_missing e = record { right = right; only = only }
    where
      right : (v : PathFault) → Some fault.Missing ≡ Some v → IsFaulty typedefs t x v
      right fault.Missing is = e
      right fault.Circular is = absurd (kinds_differ_too is)

      only : (v : PathFault) → IsFaulty typedefs t x v → Some fault.Missing ≡ Some v
      only fault.Missing is = refl
      only fault.Circular is = absurd (leads_nowhere (targets typedefs t) x x (no_target typedefs t x (Some led.Missing) e refl) is)

  of_node : (y : ℕ) (b : Bool) → led_to typedefs t x ≡ Some (led.Node y) → (b ≡ true) ↔ IsCircular typedefs t x → IsFaultOf typedefs t x (if b then Some fault.Circular else None)
  of_node y true e is = record { right = right; only = only }
    where
      right : (v : PathFault) → Some fault.Circular ≡ Some v → IsFaulty typedefs t x v
      right fault.Missing differ = absurd (kinds_differ differ)
      right fault.Circular same = is.0 refl

      only : (v : PathFault) → IsFaulty typedefs t x v → Some fault.Circular ≡ Some v
      only fault.Missing missing = absurd (node_missing y (sym e ∙ missing))
      only fault.Circular circular = refl
  of_node y false e is = record { right = λ v none. absurd (none_some v none); only = only }
    where
      only : (v : PathFault) → IsFaulty typedefs t x v → None ≡ Some v
      only fault.Missing missing = absurd (node_missing y (sym e ∙ missing))
      only fault.Circular circular = absurd (false_true (is.1 circular))

  pub fault-is : (found : Option Led) (b : Bool) → led_to typedefs t x ≡ found → (b ≡ true) ↔ IsCircular typedefs t x → IsFaultOf typedefs t x (fault_of found b)
  fault-is None b e is = of_none e
  fault-is (Some (led.Node y)) b e is = of_node y b e is
  fault-is (Some led.Missing) b e is = of_missing e
  fault-is (Some led.Unknown) b e is = of_unknown e

-- ---- the fault of a row by the nodes below a number

abbrev pub HasFaultBelow : List (Option ℕ) → Expanded → ℕ → ℕ → Option PathFault → Type 0
HasFaultBelow typedefs t n p found = MatchOption found (NoneFaulty typedefs t p n) (IsFirstFault typedefs t p)

pub below_none : (typedefs : List (Option ℕ)) (t : Expanded) (p : ℕ) → NoneFaulty typedefs t p 0
below_none typedefs t p = λ x f lt. absurd (omega arith)

none_more : (typedefs : List (Option ℕ)) (t : Expanded) (n p : ℕ) → NoneFaulty typedefs t p n → ((f : PathFault) → path_row typedefs t n ≡ Some p → ¬ (IsFaulty typedefs t n f)) → (x : ℕ) (f : PathFault) → x < n + 1 → path_row typedefs t x ≡ Some p → (x < n) ⊎ (n ≤ x)
    → ¬ (IsFaulty typedefs t x f)
none_more typedefs t n p h new x f lt by (inl under) = h x f under by
none_more typedefs t n p h new x f lt by (inr at) =
    let e : x ≡ n = omega arith in
    λ faulty. new f (subst (λ k. path_row typedefs t k ≡ Some p) e by) (subst (λ k. IsFaulty typedefs t k f) e faulty)

same_row : (a b : ℕ) → Some a ≡ Some b → a ≡ b
same_row a b e = grind arith

other_row : (a b : ℕ) → (a == b) ≡ false → a ≡ b → ⊥
other_row a b e same = grind arith

module _ (typedefs : List (Option ℕ)) (t : Expanded) (n p : ℕ) where
  at_row : (row : ℕ) (f : Option PathFault) → path_row typedefs t n ≡ Some row → IsFaultOf typedefs t n f → NoneFaulty typedefs t p n → row ≡ p → HasFaultBelow typedefs t (n + 1) p f
  at_row row None by is h same = λ x v lt b. none_more typedefs t n p h (λ w c faulty. none_some w (is.only w faulty)) x v lt b (cases_lt x n)
  at_row row (Some f) by is h same = record { node = n; path = by ∙ ap Some same; faulty = is.right f refl; first = h }

  at_other : (row : ℕ) → path_row typedefs t n ≡ Some row → NoneFaulty typedefs t p n → (row ≡ p → ⊥) → HasFaultBelow typedefs t (n + 1) p None
  at_other row by h differ = λ x v lt b. none_more typedefs t n p h (λ w c faulty. differ (same_row row p (sym by ∙ c))) x v lt b (cases_lt x n)

  at_some : (row : ℕ) (f : Option PathFault) (b : Bool) → (row == p) ≡ b → path_row typedefs t n ≡ Some row → IsFaultOf typedefs t n f → NoneFaulty typedefs t p n → HasFaultBelow typedefs t (n + 1) p (if b then f else None)
  at_some row f true e by is h = at_row row f by is h (eqb-true row p e)
  at_some row f false e by is h = at_other row by h (other_row row p e)

  pub noted-more : (row : Option ℕ) (f found : Option PathFault) → path_row typedefs t n ≡ row → IsFaultOf typedefs t n f → HasFaultBelow typedefs t n p found → HasFaultBelow typedefs t (n + 1) p (noted p row f found)
  noted-more None f None by is h = λ x v lt b. none_more typedefs t n p h (λ w c faulty. none_some p (sym by ∙ c)) x v lt b (cases_lt x n)
  noted-more None f (Some earlier) by is h = h
  noted-more (Some row) f (Some earlier) by is h = h
  noted-more (Some row) f None by is h = at_some row f (row == p) refl by is h

sound_at : (typedefs : List (Option ℕ)) (t : Expanded) (p : ℕ) → NoneFaulty typedefs t p (length t.nodes) → (x : ℕ) (f : PathFault) → path_row typedefs t x ≡ Some p → (x < length t.nodes) ⊎ (length t.nodes ≤ x) → ¬ (IsFaulty typedefs t x f)
sound_at typedefs t p h x f by (inl lt) = h x f lt by
sound_at typedefs t p h x f by (inr le) = λ faulty. none_some p (sym (path_row-past typedefs t x le) ∙ by)

-- all nodes are looked at
pub fault-all : (typedefs : List (Option ℕ)) (t : Expanded) (p : ℕ) (found : Option PathFault) → HasFaultBelow typedefs t (length t.nodes) p found → HasFault typedefs t p found
fault-all typedefs t p None h = λ x f by. sound_at typedefs t p h x f by (cases_lt x (length t.nodes))
fault-all typedefs t p (Some f) h = h

-- the faults of rows by the nodes below a number
pub record AreNoted (typedefs : List (Option ℕ)) (t : Expanded) (n : ℕ) (faults : List (Option PathFault)) : Type 0 where
  pub size : length faults ≡ length t.rows
  pub each : (p : ℕ) → p < length t.rows → HasFaultBelow typedefs t n p (slice_index_or faults p None)

-- the fault of one more node is noted
pub noted-all : (typedefs : List (Option ℕ)) (t : Expanded) (n : ℕ) (faults after : List (Option PathFault)) (row : Option ℕ) (f : Option PathFault) → path_row typedefs t n ≡ row → IsFaultOf typedefs t n f → AreNoted typedefs t n faults → length after ≡ length faults
    → ((p : ℕ) → p < length faults → slice_index_or after p None ≡ noted p row f (slice_index_or faults p None)) → AreNoted typedefs t (n + 1) after
noted-all typedefs t n faults after row f by is h size each = record {
  size = size ∙ h.size;
  each = λ p lt. subst (λ (found : Option PathFault). HasFaultBelow typedefs t (n + 1) p found) (sym (each p (omega (arith, h.size)))) (noted-more typedefs t n p row f (slice_index_or faults p None) by is (h.each p lt));
}

pub noted-begin : (typedefs : List (Option ℕ)) (t : Expanded) (faults : List (Option PathFault)) → length faults ≡ length t.rows → ((p : ℕ) → slice_index_or faults p None ≡ None) → AreNoted typedefs t 0 faults
noted-begin typedefs t faults size none = record {
  size = size;
  each = λ p lt. subst (λ (found : Option PathFault). HasFaultBelow typedefs t 0 p found) (sym (none p)) (below_none typedefs t p);
}
