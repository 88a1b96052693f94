-- What rows claim, and the flaws that are found.
use Rattle.std.proofs.Common.{Some, ◌≡◌, ◌<◌, ◌≤◌, ◌∙◌, ◌⊎◌, inl, inr, ℕ, zero, suc, List, length, map, true, false, Option, None, is_some, slice_index_or, get_or, refl, sym, ap, subst, arith}
use Rattle.std.proofs.lemmas.Option.{slice_get_past}
use Rattle.std.specs.Option.{option_and_then, option_or}
use Rattle.nm_schema_statements.specs.declared.row.Row.{Row}
use Rattle.nm_graph.specs.Graph.{Graph}
use Rattle.nm_graph.specs.Value.{strict, all_there, Holds}
use Rattle.nm_schema_uses.specs.Holding.{Draws, is_part_at}
use Rattle.nm_schema_uses.specs.Worth.{worth_within, worth_of, AreWorth}
use Rattle.nm_schema_uses.proofs.Worths.{are_worth}
use Rattle.nm_schema_names.specs.Clash.{known_at, claiming, claim_step, claimed, holder_of, clash_by, choice_of, case_clash, clash_flaw, duplicate, AreClashes}
use Rattle.nm_schema_names.specs.Clashes.{AreAllClashes}
use Rattle.nm_schema_names.proofs.Filling.{filled_read}
use mathlib.Core.Path.{fun_ext}
use Rattle.std.proofs.lemmas.Grind.{common_steps}
use Rattle.std.proofs.lemmas.Bool.{cases_lt}

module _ (rows : List Row) (groupings : List (Option ℕ)) where
  claimed-is : (i : ℕ) → worth_of (claim_step rows groupings) (claiming rows groupings) (length rows) i ≡ claimed rows groupings i
  unfolding claimed
  claimed-is i = refl

  pub claimed-worth : (graph : Graph) (values : List (Option (List ℕ))) → Draws (claiming rows groupings) (length rows) graph → Holds (strict (claim_step rows groupings)) graph values → AreWorth (claimed rows groupings) (length rows) values
  claimed-worth graph values draws holds =
      let h : AreWorth (worth_of (claim_step rows groupings) (claiming rows groupings) (length rows)) (length rows) values = are_worth (claim_step rows groupings) graph (claiming rows groupings) (length rows) values draws.each draws.size holds in
      record { size = h.size; each = λ i lt. h.each i lt ∙ claimed-is i }

  claim_step-past : (i : ℕ) (known : Option (List (List ℕ))) → length rows ≤ i → option_and_then (claim_step rows groupings i) known ≡ None
  unfolding claim_step
  claim_step-past i None le = refl
  claim_step-past i (Some known) le = rw (slice_get_past rows i le) refl

  within-past : (steps i : ℕ) → length rows ≤ i → worth_within (strict (claim_step rows groupings)) (claiming rows groupings) steps i ≡ None
  within-past zero i le = refl
  within-past (suc steps) i le = claim_step-past i (all_there (map (worth_within (strict (claim_step rows groupings)) (claiming rows groupings) steps) (claiming rows groupings i))) le

  claimed-past : (i : ℕ) → length rows ≤ i → claimed rows groupings i ≡ None
  unfolding claimed worth_of
  claimed-past i le = within-past (length rows) i le

  pub known_each : (values : List (Option (List ℕ))) (i : ℕ) → AreWorth (claimed rows groupings) (length rows) values → (i < length rows) ⊎ (length rows ≤ i) → known_at values i ≡ claimed rows groupings i
  unfolding known_at
  known_each values i h (inl lt) = h.each i lt
  known_each values i h (inr le) = let size = h.size in let e : slice_index_or values i None ≡ None = grind (arith, common_steps) in e ∙ sym (claimed-past i le)

  pub clashes-known : (values clashes : List (Option (List ℕ))) → AreWorth (claimed rows groupings) (length rows) values → AreClashes (known_at values) rows clashes → AreClashes (claimed rows groupings) rows clashes
  clashes-known values clashes h are =
      let same : known_at values ≡ claimed rows groupings = fun_ext (λ i. known_each values i h (cases_lt i (length rows))) in
      subst (λ (claims : ℕ → Option (List ℕ)). AreClashes claims rows clashes) same are

  first : (clash other : Option (List ℕ)) → is_some clash ≡ true → clash ≡ option_or clash other
  first None other is = absurd (cc)
  first (Some n) other is = refl

  second : (clash other : Option (List ℕ)) → is_some clash ≡ false → other ≡ option_or clash other
  second None other is = refl
  second (Some n) other is = absurd (cc)

  pub clash-read : (found cases : List (Option (List ℕ))) (i : ℕ) (clash : Option (List ℕ)) → AreAllClashes rows groupings found cases → i < length found → clash ≡ get_or found i clash → is_some clash ≡ true → duplicate clash ≡ clash_flaw rows groupings i
  unfolding clash_flaw
  clash-read found cases i clash h lt at is =
      let size = h.clashes.size in
      let e = filled_read (clash_by (claimed rows groupings) rows) (length rows) i found clash h.clashes (omega arith) at in
      ap duplicate (first clash (case_clash rows i) is ∙ ap (λ (c : Option (List ℕ)). option_or c (case_clash rows i)) e)

  pub case-read : (found cases : List (Option (List ℕ))) (i : ℕ) (clash case : Option (List ℕ)) → AreAllClashes rows groupings found cases → i < length found → clash ≡ get_or found i clash → is_some clash ≡ false → case ≡ get_or cases i case
      → duplicate case ≡ clash_flaw rows groupings i
  unfolding clash_flaw
  case-read found cases i clash case h lt at none here =
      let size = h.clashes.size in
      let e = filled_read (clash_by (claimed rows groupings) rows) (length rows) i found clash h.clashes (omega arith) at in
      let f = filled_read (case_clash rows) (length rows) i cases case h.case_clashes (omega arith) here in
      ap duplicate (f ∙ second clash (case_clash rows i) none ∙ ap (λ (c : Option (List ℕ)). option_or c (case_clash rows i)) e)

  pub clash-past : (i : ℕ) → length rows ≤ i → None ≡ clash_flaw rows groupings i
  unfolding clash_flaw clash_by holder_of is_part_at case_clash choice_of
  clash-past i past = rw (slice_get_past rows i past) refl
