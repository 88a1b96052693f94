-- What is wrong with the path of a row is one answer.
use Rattle.std.proofs.Common.{◌≡◌, ◌<◌, ◌≤◌, ◌⊎◌, inl, inr, ℕ, List, Option, Some, None, refl, ap, subst, arith}
use Rattle.std.proofs.lemmas.Bool.{cases_lt}
use Rattle.nm_schema_nodes.specs.Expansion.{Expanded}
use Rattle.nm_schema_leafref.specs.declared.led.Led.TheVariants as led
use Rattle.nm_schema_leafref.specs.declared.fault.PathFault.{PathFault}
use Rattle.nm_schema_leafref.specs.declared.fault.PathFault.TheVariants as fault
use Rattle.nm_schema_leafref.specs.Walk.{led_to}
use Rattle.nm_schema_leafref.specs.Target.{targets, IsCircular}
use Rattle.nm_schema_leafref.specs.Fault.{IsFaulty, IsFirstFault, HasNoFault, HasFault}
use Rattle.nm_schema_leafref.proofs.Faults.{leads_nowhere, no_target}

module _ (typedefs : List (Option ℕ)) (t : Expanded) where
  -- a node that is led to nothing doesn't lead to itself
  missing-not_circular : (x : ℕ) → led_to typedefs t x ≡ Some led.Missing → IsCircular typedefs t x → ⊥
  missing-not_circular x missing circular = leads_nowhere (targets typedefs t) x x (no_target typedefs t x (Some led.Missing) missing refl) circular

  one-of_node : (x : ℕ) (f g : PathFault) → IsFaulty typedefs t x f → IsFaulty typedefs t x g → f ≡ g
  one-of_node x fault.Missing fault.Missing a b = refl
  one-of_node x fault.Missing fault.Circular a b = absurd (missing-not_circular x a b)
  one-of_node x fault.Circular fault.Missing a b = absurd (missing-not_circular x b a)
  one-of_node x fault.Circular fault.Circular a b = refl

  module _ (p : ℕ) where
    -- of two first nodes neither is before the other
    one-not_later : (f g : PathFault) (a : IsFirstFault typedefs t p f) (b : IsFirstFault typedefs t p g) → b.node ≤ a.node → (b.node < a.node) ⊎ (a.node ≤ b.node) → f ≡ g
    one-not_later f g a b le (inl lt) = absurd (a.first b.node g lt b.path b.faulty)
    one-not_later f g a b le (inr ge) =
        let same : a.node ≡ b.node = omega arith in
        one-of_node b.node f g (subst (λ x. IsFaulty typedefs t x f) same a.faulty) b.faulty

    one-first : (f g : PathFault) (a : IsFirstFault typedefs t p f) (b : IsFirstFault typedefs t p g) → (a.node < b.node) ⊎ (b.node ≤ a.node) → f ≡ g
    one-first f g a b (inl lt) = absurd (b.first a.node f lt a.path a.faulty)
    one-first f g a b (inr le) = one-not_later f g a b le (cases_lt b.node a.node)

    sound-no_first : (f : PathFault) → HasNoFault typedefs t p → IsFirstFault typedefs t p f → ⊥
    sound-no_first f sound first = sound first.node f first.path first.faulty

    pub one-fault : (found other : Option PathFault) → HasFault typedefs t p found → HasFault typedefs t p other → found ≡ other
    one-fault None None a b = refl
    one-fault None (Some g) a b = absurd (sound-no_first g a b)
    one-fault (Some f) None a b = absurd (sound-no_first f b a)
    one-fault (Some f) (Some g) a b = ap Some (one-first f g a b (cases_lt a.node b.node))
