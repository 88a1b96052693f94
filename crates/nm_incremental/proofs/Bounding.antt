-- The constraints that are judged are reached, each of them once.
use Rattle.std.proofs.Common.{◌≡◌, ◌⊎◌, ◌<◌, ◌≤◌, ◌+◌, ℕ, List, [], ◌∷◌, ◌++◌, map, length, Bool, true, false, if◌then◌else◌, refl, sym, ap, ◌∙◌, subst, inl, inr, arith}
use Rattle.std.proofs.lemmas.Cmp.{tied_itself}
use Rattle.std.specs.Ordering.{is_lt}
use Rattle.std.specs.FinMap.{keys}
use Rattle.nm_types.specs.Path.{PathStep, path_cmp}
use Rattle.nm_types.specs.PathLaws.{paths_total}
use Rattle.nm_schema_tree.specs.Nodes.{SchemaTree}
use Rattle.nm_config.specs.Rows.{Rows}
use Rattle.nm_validate_rules.specs.declared.rule.Rule.{Rule}
use Rattle.nm_validate_rules.specs.Rule.{all_rules, rule_number}
use Rattle.nm_validate_rules.specs.Violation.{Violation}
use Rattle.nm_validate_rules.proofs.Among.{Among, filter_passes, contains_among, among_contains}
use Rattle.nm_validate_rules.proofs.Placed.{key_there}
use Rattle.nm_validate_places.proofs.Counting.{AllAfter, InOrder, in_order}
use Rattle.nm_validate_places.proofs.Gathered.{Gathered, filter_among, flat_among, either}
use Rattle.nm_validate_rules.specs.Reads.{reads}
use Rattle.nm_validate_rules.specs.Candidates.{candidates, has_candidates}
use Rattle.nm_validate_rules.specs.Reaches.{Reaches}
use Rattle.nm_incremental.specs.Bound.{AreApart, IsPlace, IsBounded}
use Rattle.nm_incremental.specs.Differing.{differing}
use Rattle.nm_incremental.specs.Read.{read_at, read_of, read_set, judged_by, all_judged}
use Rattle.nm_incremental.proofs.Sets.{set_from}
use Rattle.nm_incremental.proofs.Mapping.{mapped}
use Rattle.nm_incremental.proofs.Covering.{is_reached, differing_there}
use Rattle.nm_incremental.proofs.Placing.{candidate_placed}

abbrev at : Rule → List PathStep → Violation
at rule path = record { rule = rule; path = path }

-- ---- each once

not_after : (p : List PathStep) (ks : List (List PathStep)) → AllAfter p ks → Among ks p → ⊥
not_after p [] h a = a
not_after p (k ∷ ks) h (inl e) =
    let same : is_lt (path_cmp p p) ≡ false = ap is_lt (tied_itself paths_total p) in
    let less : is_lt (path_cmp p p) ≡ true = ap (λ q. is_lt (path_cmp p q)) e ∙ ap is_lt h.0 in
    absurd (cc)
not_after p (k ∷ ks) h (inr a) = not_after p ks h.1 a

path_of : (rule : Rule) (p q : List PathStep) → at rule p ≡ at rule q → p ≡ q
path_of rule p q e = ap (λ (v : Violation). v.path) e

apart_keys : (rule : Rule) (ks : List (List PathStep)) → InOrder ks → AreApart (map (at rule) ks)
apart_keys rule [] h = tt
apart_keys rule (k ∷ ks) h = (
  λ c. (let m = mapped (at rule) ks (at rule k) (contains_among (map (at rule) ks) (at rule k) c) in not_after k ks h.0 (subst (Among ks) (sym (path_of rule k m.x m.is)) m.among)),
  apart_keys rule ks h.1,
)

apart_append : (xs ys : List Violation) → AreApart xs → AreApart ys → ((z : Violation) → Among xs z → Among ys z → ⊥) → AreApart (xs ++ ys)
apart_append [] ys h k out = k
apart_append (x ∷ xs) ys h k out = (
  λ c. not_in (either xs ys x (contains_among (xs ++ ys) x c)),
  apart_append xs ys h.1 k (λ z a b. out z (inr a) b),
)
  where
    not_in : Among xs x ⊎ Among ys x → ⊥
    not_in (inl a) = h.0 (among_contains xs x a)
    not_in (inr b) = out x (inl refl) b

-- rules in their order
abbrev AreHigher : ℕ → List Rule → Type 0
AreHigher n [] = Unit {0}
AreHigher n (r ∷ rs) = (n < rule_number r) × AreHigher (rule_number r) rs

higher : (n m : ℕ) (rs : List Rule) → n < m → AreHigher m rs → (r : Rule) → Among rs r → n < rule_number r
higher n m (s ∷ rs) lt h r (inl e) = let k = ap rule_number e in let g = h.0 in omega (arith, lt, g, k)
higher n m (s ∷ rs) lt h r (inr a) = higher n (rule_number s) rs (let g = h.0 in omega (arith, lt, g)) h.1 r a
higher n m [] lt h r a = absurd a

module _ (t : SchemaTree) (differing : List (List PathStep)) where
  by_rule : (rule : Rule) (b : Bool) → AreApart (if b then map (at rule) (keys (read_set t rule differing)) else [])
  by_rule rule true = apart_keys rule (keys (read_set t rule differing)) (in_order (read_set t rule differing))
  by_rule rule false = tt

  of_rule_by : (rule : Rule) (b : Bool) (v : Violation) → Among (if b then map (at rule) (keys (read_set t rule differing)) else []) v → v.rule ≡ rule
  of_rule_by rule true v a = ap (λ (w : Violation). w.rule) (mapped (at rule) (keys (read_set t rule differing)) v a).is
  of_rule_by rule false v a = absurd a

  of_rule : (rule : Rule) (v : Violation) → Among (judged_by t differing rule) v → v.rule ≡ rule
  of_rule rule v a = of_rule_by rule (has_candidates rule) v a

  apart_rules : (n : ℕ) (rs : List Rule) → AreHigher n rs → AreApart (all_judged t differing rs)
  apart_rules n [] h = tt
  apart_rules n (r ∷ rs) h = apart_append (judged_by t differing r) (all_judged t differing rs) (by_rule r (has_candidates r)) (apart_rules (rule_number r) rs h.1) (λ z a b. different z a (flat_among (judged_by t differing) rs z b))
    where
      above_all : (ss : List Rule) → AreHigher (rule_number r) ss → (s : Rule) → Among ss s → rule_number r < rule_number s
      above_all [] k s b = absurd b
      above_all (q ∷ ss) k s (inl e) = let m = ap rule_number e in let j = k.0 in omega (arith, j, m)
      above_all (q ∷ ss) k s (inr b) = higher (rule_number r) (rule_number q) ss k.0 k.1 s b

      different : (z : Violation) → Among (judged_by t differing r) z → Gathered (judged_by t differing) rs z → ⊥
      different z a g =
          let lower = above_all rs h.1 g.x g.among in
          let e = ap rule_number (sym (of_rule r z a) ∙ of_rule g.x z g.within) in
          omega (arith, lower, e)

  ordered : AreHigher 0 all_rules
  ordered = (omega arith, (omega arith, (omega arith, (omega arith, (omega arith, (omega arith, (omega arith, (omega arith, (omega arith, tt)))))))))

  pub judged_apart : AreApart (all_judged t differing all_rules)
  judged_apart = apart_rules 0 all_rules ordered

-- ---- each reached

module _ (t : SchemaTree) (base next : Rows) (touched : List (List PathStep)) where
  reached_by : (rule : Rule) (b : Bool) (v : Violation) → Among (if b then map (at rule) (keys (read_set t rule (differing base next touched))) else []) v → Reaches t base next touched v.rule v.path
  reached_by rule false v a = absurd a
  reached_by rule true v a =
      let m = mapped (at rule) (keys (read_set t rule (differing base next touched))) v a in
      let from = set_from (read_of t rule (differing base next touched)) m.x (key_there (read_set t rule (differing base next touched)) m.x m.among) in
      let g = flat_among (read_at t rule) (differing base next touched) m.x from in
      subst (λ (w : Violation). Reaches t base next touched w.rule w.path) (sym m.is)
      (is_reached base next touched t rule m.x g.x g.among (filter_passes (λ path. reads t rule path g.x) (candidates t rule g.x) m.x g.within))

  pub judged_reached : (v : Violation) → Among (all_judged t (differing base next touched) all_rules) v → Reaches t base next touched v.rule v.path
  judged_reached v a =
      let g = flat_among (judged_by t (differing base next touched)) all_rules v a in
      reached_by g.x (has_candidates g.x) v g.within

  placed_by : (rule : Rule) (b : Bool) (v : Violation) → Among (if b then map (at rule) (keys (read_set t rule (differing base next touched))) else []) v → IsPlace base next v.path
  placed_by rule false v a = absurd a
  placed_by rule true v a =
      let m = mapped (at rule) (keys (read_set t rule (differing base next touched))) v a in
      let from = set_from (read_of t rule (differing base next touched)) m.x (key_there (read_set t rule (differing base next touched)) m.x m.among) in
      let g = flat_among (read_at t rule) (differing base next touched) m.x from in
      subst (λ (w : Violation). IsPlace base next w.path) (sym m.is) (record {
        row = g.x;
        there = differing_there base next touched g.x g.among;
        place = candidate_placed t g.x rule m.x (filter_among (λ path. reads t rule path g.x) (candidates t rule g.x) m.x g.within);
      })

  pub judged_placed : (v : Violation) → Among (all_judged t (differing base next touched) all_rules) v → IsPlace base next v.path
  judged_placed v a =
      let g = flat_among (judged_by t (differing base next touched)) all_rules v a in
      placed_by g.x (has_candidates g.x) v g.within

  -- the steps that are taken are bounded by them
  pub bounded : (before after : ℕ) → after ≤ before + length (all_judged t (differing base next touched) all_rules) → IsBounded t base next touched before after
  bounded before after e = record {
    constraints = all_judged t (differing base next touched) all_rules;
    reached = λ c a. judged_reached c (contains_among (all_judged t (differing base next touched) all_rules) c a);
    placed = λ c a. judged_placed c (contains_among (all_judged t (differing base next touched) all_rules) c a);
    apart = judged_apart t (differing base next touched);
    bound = e;
  }

  pub none_taken : (before after : ℕ) → after ≡ before → IsBounded t base next touched before after
  none_taken before after e = bounded before after (omega (arith, e))

  pub bounded_by : (before after : ℕ) (found : List (List PathStep)) → found ≡ differing base next touched → after ≤ before + length (all_judged t found all_rules) → IsBounded t base next touched before after
  bounded_by before after found e h = bounded before after (subst (λ ds. after ≤ before + length (all_judged t ds all_rules)) e h)
