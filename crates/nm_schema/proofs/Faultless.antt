-- Rows of modules in which no fault is found.
use Rattle.std.proofs.Common.{◌≡◌, ◌∙◌, ◌<◌, ◌⊎◌, inl, inr, ℕ, zero, suc, List, [], ◌∷◌, length, map, Bool, true, false, cond, ◌&&◌, Option, Some, None, slice_get, refl, sym, ap, arith}
use Rattle.std.specs.Prelude.{Contains}
use Rattle.std.specs.Option.{option_or}
use Rattle.std.specs.List.{range_with_len}
use Rattle.nm_schema_statements.specs.declared.row.Row.{Row}
use Rattle.nm_schema_statements.specs.declared.flaw.Flaw.{Flaw}
use Rattle.nm_schema_statements.specs.Flaw.{grammar_flaw}
use Rattle.nm_schema_names.specs.Flaw.{name_flaw}
use Rattle.nm_schema_names.specs.Named.{top, row_at}
use Rattle.nm_schema_names.specs.Clash.{clash_flaw}
use Rattle.nm_schema_typing.specs.TypeFlaw.{type_flaw, cycle_flaw}
use Rattle.nm_schema_typing.specs.Listing.{is_at}
use Rattle.nm_schema_keys.specs.Keys.{key_flaw}
use Rattle.nm_schema_keys.specs.Uniques.{unique_flaw}
use Rattle.nm_schema_nodes.specs.Expansion.{first_large}
use Rattle.nm_schema_faults.specs.Facts.{Facts, definitions, standing}
use Rattle.nm_schema_faults.specs.Flaw.{config_flaw, list_flaw, own_flaw, inherited_flaw, path_flaw, misfit_flaw, said_flaw, placed_flaw, listed_flaw, valued_flaw, flaw_at}
use Rattle.nm_schema_faults.specs.Fault.{first_some, flawed, is_last, large_by, large_in, large_at, fault_at, first_fault}
use Rattle.nm_schema.specs.Faultless.{IsFaultless, AreFaultless}
use Rattle.nm_schema.proofs.Elements.{nothing, first_or_later, in_range}

pub or_none : {X : Type 0} (a b : Option X) → option_or a b ≡ None → (a ≡ None) × (b ≡ None)
or_none None b e = (refl, e)
or_none (Some x) b e = absurd (cc)

pub within : {X : Type 0} (xs : List X) (i : ℕ) (x : X) → slice_get xs i ≡ Some x → i < length xs
within [] i x e = absurd (cc)
within (z ∷ xs) zero x e = omega arith
within (z ∷ xs) (suc i) x e = omega (arith, within xs i x e)

first_by : {X : Type 0} (f : ℕ → Option X) (n k : ℕ) (ns : List ℕ) (o : Option X) → f n ≡ o → (first_some (map f ns) ≡ None → Contains ns k → f k ≡ None) → first_some (o ∷ map f ns) ≡ None → (n ≡ k) ⊎ Contains ns k → f k ≡ None
first_by f n k ns (Some x) is rest e c = absurd (cc)
first_by f n k ns None is rest e (inl same) = ap f (sym same) ∙ is
first_by f n k ns None is rest e (inr c) = rest e c

-- where none is the first, there is none
pub first_none : {X : Type 0} (f : ℕ → Option X) (ns : List ℕ) (k : ℕ) → first_some (map f ns) ≡ None → Contains ns k → f k ≡ None
first_none f [] k e c = absurd (nothing k c)
first_none f (n ∷ ns) k e c = first_by f n k ns (f n) refl (first_none f ns k) e (first_or_later n k ns c)

flawed_none : (r : Row) (found : Option Flaw) → flawed (Some r) found ≡ None → found ≡ None
flawed_none r None e = refl
flawed_none r (Some f) e = absurd (cc)

module _ (rows : List Row) (facts : Facts) (at : ℕ) where
  said_none : said_flaw rows facts at ≡ None → (grammar_flaw rows at ≡ None) × (name_flaw rows at ≡ None) × (cycle_flaw rows facts.cycle at ≡ None)
  unfolding said_flaw
  said_none e =
      let a = or_none (grammar_flaw rows at) (option_or (name_flaw rows at) (cycle_flaw rows facts.cycle at)) e in
      let b = or_none (name_flaw rows at) (cycle_flaw rows facts.cycle at) a.1 in
      (a.0, b.0, b.1)

  placed_none : placed_flaw rows facts at ≡ None → (type_flaw rows (definitions rows) at ≡ None) × (clash_flaw rows (definitions rows) at ≡ None) × (config_flaw rows facts at ≡ None) × (list_flaw rows facts at ≡ None)
  unfolding placed_flaw
  placed_none e =
      let a = or_none (type_flaw rows (definitions rows) at) (option_or (clash_flaw rows (definitions rows) at) (option_or (config_flaw rows facts at) (list_flaw rows facts at))) e in
      let b = or_none (clash_flaw rows (definitions rows) at) (option_or (config_flaw rows facts at) (list_flaw rows facts at)) a.1 in
      let c = or_none (config_flaw rows facts at) (list_flaw rows facts at) b.1 in
      (a.0, b.0, c.0, c.1)

  listed_none : listed_flaw rows facts at ≡ None → (key_flaw rows (definitions rows) (standing facts) at ≡ None) × (unique_flaw rows (definitions rows) (standing facts) at ≡ None)
  unfolding listed_flaw
  listed_none e = or_none (key_flaw rows (definitions rows) (standing facts) at) (unique_flaw rows (definitions rows) (standing facts) at) e

  valued_none : valued_flaw rows facts at ≡ None → (own_flaw rows facts at ≡ None) × (inherited_flaw rows facts at ≡ None) × (path_flaw rows facts at ≡ None) × (misfit_flaw rows facts at ≡ None)
  unfolding valued_flaw
  valued_none e =
      let a = or_none (own_flaw rows facts at) (option_or (inherited_flaw rows facts at) (option_or (path_flaw rows facts at) (misfit_flaw rows facts at))) e in
      let b = or_none (inherited_flaw rows facts at) (option_or (path_flaw rows facts at) (misfit_flaw rows facts at)) a.1 in
      let c = or_none (path_flaw rows facts at) (misfit_flaw rows facts at) b.1 in
      (a.0, b.0, c.0, c.1)

  flawless : flaw_at rows facts at ≡ None → IsFaultless rows facts at
  unfolding flaw_at
  flawless e =
      let a = or_none (said_flaw rows facts at) (option_or (placed_flaw rows facts at) (option_or (listed_flaw rows facts at) (valued_flaw rows facts at))) e in
      let b = or_none (placed_flaw rows facts at) (option_or (listed_flaw rows facts at) (valued_flaw rows facts at)) a.1 in
      let c = or_none (listed_flaw rows facts at) (valued_flaw rows facts at) b.1 in
      let said = said_none a.0 in
      let placed = placed_none b.0 in
      let listed = listed_none c.0 in
      let valued = valued_none c.1 in
      record {
        grammar = said.0;
        name = said.1;
        cycle = said.2;
        typed = placed.0;
        clash = placed.1;
        config = placed.2;
        list = placed.3;
        key = listed.0;
        unique = listed.1;
        own = valued.0;
        inherited = valued.1;
        path = valued.2;
        misfit = valued.3;
      }

  no_flaw : IsFaultless rows facts at → flaw_at rows facts at ≡ None
  unfolding flaw_at said_flaw placed_flaw listed_flaw valued_flaw
  no_flaw none = rw (none.grammar, none.name, none.cycle, none.typed, none.clash, none.config, none.list, none.key, none.unique, none.own, none.inherited, none.path, none.misfit) refl

  fault_none : (r : Row) → slice_get rows at ≡ Some r → fault_at rows facts at ≡ None → (flaw_at rows facts at ≡ None) × (large_at rows at ≡ None)
  unfolding fault_at
  fault_none r is e =
      let both = or_none (flawed (slice_get rows at) (flaw_at rows facts at)) (large_at rows at) e in
      (flawed_none r (flaw_at rows facts at) (sym (ap (λ (o : Option Row). flawed o (flaw_at rows facts at)) is) ∙ both.0), both.1)

-- where no first fault is found, no row has one
module _ (rows : List Row) (facts : Facts) (none : first_fault rows facts ≡ None) where
  row_fault : (at : ℕ) (r : Row) → slice_get rows at ≡ Some r → fault_at rows facts at ≡ None
  unfolding first_fault
  row_fault at r is = first_none (fault_at rows facts) (range_with_len 0 (length rows)) at none (in_range (length rows) at (within rows at r is))

  pub each_faultless : (at : ℕ) (r : Row) → slice_get rows at ≡ Some r → IsFaultless rows facts at
  each_faultless at r is = flawless rows facts at (fault_none rows facts at r is (row_fault at r is)).0

  pub untold : (at : ℕ) (r : Row) → slice_get rows at ≡ Some r → large_at rows at ≡ None
  untold at r is = (fault_none rows facts at r is (row_fault at r is)).1

-- and the other way round
not_large : (rows : List Row) (at : ℕ) (o : Option Row) → first_large rows (definitions rows) ≡ None → large_in rows at o ≡ None
not_large rows at None none = refl
not_large rows at (Some r) none = by (is_last rows at) (ap (λ (large : Option ℕ). is_at large r.«module») none)
  where
    by : (b : Bool) → is_at (first_large rows (definitions rows)) r.«module» ≡ false → cond (b && is_at (first_large rows (definitions rows)) r.«module») (large_by r.«module» (row_at rows (top rows r.«module»))) None ≡ None
    by true e = rw e refl
    by false e = refl

unflawed : (o : Option Row) (found : Option Flaw) → ((r : Row) → o ≡ Some r → found ≡ None) → flawed o found ≡ None
unflawed None found none = refl
unflawed (Some r) found none = rw (none r refl) refl

some_none : {X : Type 0} (f : ℕ → Option X) (ns : List ℕ) → ((n : ℕ) → f n ≡ None) → first_some (map f ns) ≡ None
some_none f [] none = refl
some_none f (n ∷ ns) none = rw (none n) (some_none f ns none)

pub no_fault : (rows : List Row) (facts : Facts) → AreFaultless rows facts → first_fault rows facts ≡ None
unfolding first_fault fault_at large_at
no_fault rows facts all = some_none (fault_at rows facts) (range_with_len 0 (length rows)) (λ at. one at)
  where
    one : (at : ℕ) → fault_at rows facts at ≡ None
    one at = rw (unflawed (slice_get rows at) (flaw_at rows facts at) (λ r is. no_flaw rows facts at (all.each at r is))) (not_large rows at (slice_get rows at) all.small)
