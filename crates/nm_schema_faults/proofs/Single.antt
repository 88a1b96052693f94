-- What is so in rows is one: two of it are the same.
use Rattle.std.proofs.Common.{◌≡◌, ◌↔◌, ℕ, zero, suc, ◌<◌, ◌≤◌, List, [], ◌∷◌, length, get_or, Bool, true, false, nat_lt, Option, Some, None, IfSome, IfNone, Contains, refl, sym, ap, subst, ◌∙◌, arith}
use Rattle.std.proofs.lemmas.Bool.Decides.{nat_tests}
use Rattle.std.proofs.lemmas.List.{ext_get_or}
use Rattle.nm_schema_statements.specs.declared.row.Row.{Row}
use Rattle.nm_schema_uses.specs.Config.{Marks}
use Rattle.nm_schema_keys.specs.Keys.{IsKey}
use Rattle.nm_schema_nodes.specs.Expansion.{expanded}
use Rattle.nm_schema_nodes.proofs.Single.{single}
use Rattle.nm_schema_leafref.specs.Fault.{HasFault}
use Rattle.nm_schema_leafref.proofs.Ones.{one-fault}
use Rattle.nm_schema_faults.specs.Facts.{Facts, AreFacts, IsCycle, definitions, is_marked, standing, tree}

-- ---- cycles

between_by : (x y : ℕ) (a b : Bool) → nat_lt x y ≡ a → nat_lt y x ≡ b → (x < y → ⊥) → (y < x → ⊥) → x ≡ y
between_by x y true b e f never nor = absurd (never (grind (arith, nat_tests, e)))
between_by x y false true e f never nor = absurd (nor (grind (arith, nat_tests, f)))
between_by x y false false e f never nor = grind (arith, nat_tests, e, f)

-- numbers of which neither is below the other
between : (x y : ℕ) → (x < y → ⊥) → (y < x → ⊥) → x ≡ y
between x y never nor = between_by x y _ _ refl refl never nor

one_cycle : (rows : List Row) (x y : Option ℕ) → IsCycle rows x → IsCycle rows y → x ≡ y
one_cycle rows None None a b = refl
one_cycle rows (Some x) None a b = absurd (b.none x a.least.leads)
one_cycle rows None (Some y) a b = absurd (a.none y b.least.leads)
one_cycle rows (Some x) (Some y) a b = ap Some (between x y (λ before. b.least.least x before a.least.leads) (λ before. a.least.least y before b.least.leads))

-- ---- marks

no_truth : false ≡ true → ⊥
no_truth e = cc

one_mark : (P : Type 0) (a b : Bool) → (a ≡ true) ↔ P → (b ≡ true) ↔ P → a ≡ b
one_mark P true true f g = refl
one_mark P false false f g = refl
one_mark P true false f g = absurd (no_truth (g.1 (f.0 refl)))
one_mark P false true f g = absurd (no_truth (f.1 (g.0 refl)))

-- as many marks of the same are the same marks
one_marking : (P : ℕ → Type 0) (xs ys : List Bool) → Marks P xs → Marks P ys → length xs ≡ length ys → xs ≡ ys
one_marking P xs ys a b size = ext_get_or false xs ys size (λ i within. one_mark (P i) _ _ (a i) (b i))

-- ---- all of it

pub one_truth : (rows : List Row) (facts others : Facts) → AreFacts rows facts → AreFacts rows others → facts ≡ others
one_truth rows f g a b =
    let configured : f.configured ≡ g.configured = one_marking _ _ _ a.configured b.configured (a.configured_size ∙ sym b.configured_size) in
    let in_state : f.in_state ≡ g.in_state = one_marking _ _ _ a.in_state b.in_state (a.in_state_size ∙ sym b.in_state_size) in
    let stands : standing f ≡ standing g = λ i. record { configured = is_marked (configured i); in_state = is_marked (in_state i) } in
    let keys : f.keys ≡ g.keys = one_marking _ _ _ (subst (λ s. Marks (IsKey rows (definitions rows) s) f.keys) stands a.keys) b.keys (a.keys_size ∙ sym b.keys_size) in
    let nodes : f.nodes ≡ g.nodes = single rows (definitions rows) f.nodes g.nodes a.nodes b.nodes in
    let trees : tree rows f ≡ tree rows g = ap (λ ns. expanded rows (definitions rows) ns) nodes in
    let paths : f.paths ≡ g.paths = ext_get_or None f.paths g.paths (a.paths_size ∙ sym b.paths_size) (λ p within.
    let inside : p < length rows = subst (λ n. p < n) a.paths_size within in
    one-fault (definitions rows) (tree rows g) p _ _ (subst (λ t. HasFault (definitions rows) t p (get_or f.paths p None)) trees (a.paths p inside)) (b.paths p inside)) in
    λ i. record { cycle = one_cycle rows f.cycle g.cycle a.cycle b.cycle i; configured = configured i; in_state = in_state i; keys = keys i; nodes = nodes i; paths = paths i }
