-- What the loops keep: what was read, and what reading the rest gives.
use Rattle.std.proofs.Common.{◌≡◌, ℕ, zero, suc, ◌-◌, ◌<◌, ◌≤◌, true, false, List, [], ◌∷◌, ◌++◌, length, take, drop, get_or, Option, Some, None, refl, sym, ap, ◌∙◌, append_assoc, subst, arith}
use Rattle.std.proofs.lemmas.List.{append-nil}
use Rattle.std.proofs.lemmas.Grind.{common_steps}
use Rattle.nm_path.specs.declared.fault.PathFault.{PathFault}
use Rattle.nm_path.specs.declared.fault.PathFault.TheVariants.{Unknown, BadText, NoMemory}
use Rattle.nm_path.specs.declared.form.Predicate.{Predicate}
use Rattle.nm_types.specs.declared.value.Value.{Value}
use Rattle.nm_types.specs.Path.{PathStep}
use Rattle.nm_schema_tree.specs.declared.node.Node.{Node}
use Rattle.nm_path.specs.declared.place.Place.{Place}
use Rattle.nm_path.specs.declared.place.Place.TheVariants.{Within}
use Rattle.nm_path.specs.Form.{WrittenStep}
use Rattle.nm_path.specs.Spelling.{name_at}
use Rattle.nm_path.specs.Reading.{Fails, with_front, all_with_front, begins, predicate_at, predicates_at, step_at, steps_at, value_of, values_of, next_of, path_from}
use Rattle.nm_path.proofs.Texts.{with_front-both}

-- what fails where another reader does
pub fails_by : {A B : Type 0} (e : PathFault) (r : Option A) (s : Option B) → (r ≡ None → s ≡ None) → Fails e r → Fails e s
fails_by Unknown r s h f = f
fails_by BadText r s h f = h f
fails_by NoMemory r s h f = tt

begins-length : (text : List ℕ) (k : ℕ) → begins text k ≡ true → 0 < length text
begins-length [] k e = absurd cc
begins-length (b ∷ text) k e = omega arith

pub with_front-empty : {X : Type 0} (r : Option (List X × List ℕ)) → with_front [] r ≡ r
with_front-empty None = refl
with_front-empty (Some x) = refl

-- ---- predicates

pub predicates_some : (n : ℕ) (front : List Predicate) (p : Predicate) (text rest : List ℕ) → begins text 91 ≡ true → length text ≤ n → predicate_at text ≡ Some (p, rest)
    → with_front front (predicates_at n text) ≡ with_front (front ++ p ∷ []) (predicates_at (n - 1) rest)
unfolding predicates_at
predicates_some zero front p text rest b le e = let h = begins-length text 91 b in absurd (omega arith)
predicates_some (suc n) front p text rest b le e =
    let m : suc n - 1 ≡ n = omega arith in
    rw (b, e, m) (with_front-both front (p ∷ []) (predicates_at n rest))

pub predicates_fail : (n : ℕ) (front : List Predicate) (text : List ℕ) → begins text 91 ≡ true → length text ≤ n → predicate_at text ≡ None → with_front front (predicates_at n text) ≡ None
unfolding predicates_at
predicates_fail zero front text b le e = let h = begins-length text 91 b in absurd (omega arith)
predicates_fail (suc n) front text b le e = rw (b, e) refl

pub predicates_end : (n : ℕ) (front : List Predicate) (text : List ℕ) → begins text 91 ≡ false → with_front front (predicates_at n text) ≡ Some (front, text)
unfolding predicates_at
predicates_end zero front text b = rw (append-nil front) refl
predicates_end (suc n) front text b = rw (b, append-nil front) refl

-- ---- steps

pub all_front_both : {X : Type 0} (f g : List X) (r : Option (List X)) → all_with_front f (all_with_front g r) ≡ all_with_front (f ++ g) r
all_front_both f g None = refl
all_front_both f g (Some x) = ap Some (sym (append_assoc f g x))

pub all_front_empty : {X : Type 0} (r : Option (List X)) → all_with_front [] r ≡ r
all_front_empty None = refl
all_front_empty (Some x) = refl

pub steps_some : (n : ℕ) (front : List WrittenStep) (s : WrittenStep) (text rest : List ℕ) → length text ≤ n → 0 < length text → step_at text ≡ Some (s, rest)
    → all_with_front front (steps_at n text) ≡ all_with_front (front ++ s ∷ []) (steps_at (n - 1) rest)
unfolding steps_at
steps_some n front s [] rest le some e = absurd (omega arith)
steps_some zero front s (b ∷ text) rest le some e = absurd (omega arith)
steps_some (suc n) front s (b ∷ text) rest le some e =
    let m : suc n - 1 ≡ n = omega arith in
    rw (e, m) (all_front_both front (s ∷ []) (steps_at n rest))

pub steps_fail : (n : ℕ) (front : List WrittenStep) (text : List ℕ) → length text ≤ n → 0 < length text → step_at text ≡ None → all_with_front front (steps_at n text) ≡ None
unfolding steps_at
steps_fail n front [] le some e = absurd (omega arith)
steps_fail zero front (b ∷ text) le some e = absurd (omega arith)
steps_fail (suc n) front (b ∷ text) le some e = rw e refl

pub steps_end : (n : ℕ) (front : List WrittenStep) (text : List ℕ) → length text ≡ 0 → all_with_front front (steps_at n text) ≡ Some front
unfolding steps_at
steps_end n front [] e = rw (append-nil front) refl
steps_end n front (b ∷ text) e = absurd (omega arith)

-- ---- values

module _ (nodes : List Node) (ps : List Predicate) where
  pub values_some : (front : List Value) (v : Value) (rest : List ℕ) (total : Option (List Value)) → 1 ≤ length rest → (name : List ℕ) → name ≡ name_at nodes (get_or rest 0 0) → value_of nodes (get_or rest 0 0) name ps ≡ Some v
      → all_with_front front (values_of nodes rest ps) ≡ total → all_with_front (front ++ v ∷ []) (values_of nodes (take (length rest - 1) (drop 1 rest)) ps) ≡ total
  unfolding values_of
  values_some front v [] total le name n e so_far = absurd (omega arith)
  values_some front v (k ∷ ks) total le name n given so_far =
      let e = rw n at given in
      let all : take (length (k ∷ ks) - 1) ks ≡ ks = grind (arith, common_steps) in
      rw all (sym (all_front_both front (v ∷ []) (values_of nodes ks ps)) ∙ sym (rw e refl) ∙ so_far)

  pub values_fail : (front : List Value) (rest : List ℕ) (total : Option (List Value)) (error : PathFault) → 1 ≤ length rest → (name : List ℕ) → name ≡ name_at nodes (get_or rest 0 0) → Fails error (value_of nodes (get_or rest 0 0) name ps)
      → all_with_front front (values_of nodes rest ps) ≡ total → Fails error total
  unfolding values_of
  values_fail front [] total error le name n e so_far = absurd (omega arith)
  values_fail front (k ∷ ks) total error le name n e so_far = fails_by error (value_of nodes k (name_at nodes k) ps) total (λ none. sym so_far ∙ rw none refl) (rw n at e)

  pub values_end : (front : List Value) (rest : List ℕ) (total : Option (List Value)) → length rest < 1 → all_with_front front (values_of nodes rest ps) ≡ total → total ≡ Some front
  unfolding values_of
  values_end front [] total lt so_far = sym so_far ∙ ap Some (append-nil front)
  values_end front (k ∷ ks) total lt so_far = absurd (omega arith)

-- ---- steps of a path

module _ (nodes : List Node) where
  pub path_some : (front : List PathStep) (place : Place) (at : ℕ) (s : PathStep) (rest : List WrittenStep) (d : WrittenStep) (total : Option (List PathStep)) → 1 ≤ length rest → d ≡ get_or rest 0 d → next_of nodes place d ≡ Some (at, s)
      → all_with_front front (path_from nodes place rest) ≡ total → all_with_front (front ++ s ∷ []) (path_from nodes (Within at) (take (length rest - 1) (drop 1 rest))) ≡ total
  unfolding path_from
  path_some front place at s [] d total le is e so_far = absurd (omega arith)
  path_some front place at s (w ∷ ws) d total le is given so_far =
      let e : next_of nodes place w ≡ Some (at, s) = subst (λ (x : WrittenStep). next_of nodes place x ≡ Some (at, s)) is given in
      let all : take (length (w ∷ ws) - 1) ws ≡ ws = grind (arith, common_steps) in
      rw all (sym (all_front_both front (s ∷ []) (path_from nodes (Within at) ws)) ∙ sym (rw e refl) ∙ so_far)

  pub path_fail : (front : List PathStep) (place : Place) (rest : List WrittenStep) (d : WrittenStep) (total : Option (List PathStep)) (error : PathFault) → 1 ≤ length rest → d ≡ get_or rest 0 d → Fails error (next_of nodes place d)
      → all_with_front front (path_from nodes place rest) ≡ total → Fails error total
  unfolding path_from
  path_fail front place [] d total error le is e so_far = absurd (omega arith)
  path_fail front place (w ∷ ws) d total error le is e so_far = fails_by error (next_of nodes place w) total (λ none. sym so_far ∙ rw none refl) (subst (λ (x : WrittenStep). Fails error (next_of nodes place x)) is e)

  pub path_end : (front : List PathStep) (place : Place) (rest : List WrittenStep) (total : Option (List PathStep)) → length rest < 1 → all_with_front front (path_from nodes place rest) ≡ total → total ≡ Some front
  unfolding path_from
  path_end front place [] total lt so_far = sym so_far ∙ ap Some (append-nil front)
  path_end front place (w ∷ ws) total lt so_far = absurd (omega arith)
