-- A fault of modules is in one of them.
use Rattle.std.proofs.Common.{◌≡◌, ℕ, zero, suc, ◌+◌, ◌≤◌, ◌<◌, List, [], ◌∷◌, length, map, Bool, true, false, cond, Option, Some, None, Err, refl, sym, subst, arith}
use Rattle.std.specs.Prelude.{slice_get, ◌&&◌}
use Rattle.std.specs.Option.{option_or}
use Rattle.std.specs.List.{All, range_with_len}
use Rattle.std.proofs.lemmas.List.Elements.{All-nil, All-cons, All-append, All-head, All-tail, All-weaker}
use Rattle.nm_yang.specs.Tree.{Tree, Trees, statement, none, more}
use Rattle.nm_yang.specs.Grammar.{keyword_of}
use Rattle.nm_schema_statements.specs.declared.row.Row.{Row}
use Rattle.nm_schema_statements.specs.declared.flaw.Flaw.{Flaw}
use Rattle.nm_schema_statements.specs.Rows.{is_skipped, is_opened, row_for, rows_from, rows_within, rows_after, rows_of}
use Rattle.nm_schema_statements.specs.Word.{word_of}
use Rattle.nm_schema_names.specs.Named.{row_at, top}
use Rattle.nm_schema_typing.specs.Listing.{is_at}
use Rattle.nm_schema_nodes.specs.Expansion.{first_large}
use Rattle.nm_schema_faults.specs.declared.fault.Fault.{Fault}
use Rattle.nm_schema_faults.specs.Facts.{Facts, definitions}
use Rattle.nm_schema_faults.specs.Flaw.{flaw_at}
use Rattle.nm_schema_faults.specs.Fault.{first_some, flawed, is_last, large_by, large_in, large_at, fault_at, first_fault}
use Rattle.nm_schema.specs.FactsOf.{facts_in}
use Rattle.nm_schema.specs.Built.{outcome, built, built_of}
use Rattle.nm_scenario.specs.Scenario.{module_of}

-- ---- the rows of a module have its number

abbrev IsOf : ℕ → Row → Type 0
IsOf owner row = row.«module» ≡ owner

opened : (b : Bool) (P : Row → Type 0) (rows : List Row) → All P rows → All P (cond b rows [])
opened true P rows all = all
opened false P rows all = All-nil P

skipped : (b : Bool) (P : Row → Type 0) (rows others : List Row) → All P rows → All P others → All P (cond b rows others)
skipped true P rows others all also = all
skipped false P rows others all also = also

mutual
  unfolding rows_from rows_within

  from_is : (t : Tree) (owner : ℕ) (parent : Option ℕ) (n : ℕ) → All (IsOf owner) (rows_from owner parent n t)
  from_is (statement keyword argument place below) owner parent n =
      All-cons (IsOf owner) (row_for owner parent keyword argument place) _ refl (opened (is_opened (word_of keyword)) (IsOf owner) (rows_within owner n (suc n) below) (within_is below owner n (suc n)))

  within_is : (ts : Trees) (owner parent n : ℕ) → All (IsOf owner) (rows_within owner parent n ts)
  within_is none owner parent n = All-nil (IsOf owner)
  within_is (more t ts) owner parent n =
      skipped (is_skipped (word_of (keyword_of t))) (IsOf owner) (rows_within owner parent n ts) _ (within_is ts owner parent n)
      (All-append (IsOf owner) (rows_from owner (Some parent) n t) _ (from_is t owner (Some parent) n) (within_is ts owner parent (n + length (rows_from owner (Some parent) n t))))

abbrev IsBelow : ℕ → Row → Type 0
IsBelow count row = row.«module» < count

after_below : (ts : List Tree) (k n count : ℕ) → k + length ts ≤ count → All (IsBelow count) (rows_after k n ts)
unfolding rows_after
after_below [] k n count fits = All-nil (IsBelow count)
after_below (t ∷ ts) k n count fits =
    All-append (IsBelow count) (rows_from k None n t) _ (All-weaker (IsOf k) (IsBelow count) (λ row is. omega (arith, is)) (rows_from k None n t) (from_is t k None n))
    (after_below ts (suc k) (n + length (rows_from k None n t)) count (omega arith))

found_below : (rows : List Row) (count i : ℕ) (row : Row) → All (IsBelow count) rows → slice_get rows i ≡ Some row → row.«module» < count
found_below [] count i row all e = cc
found_below (r ∷ rows) count zero row all e = let same : r ≡ row = cc in subst (IsBelow count) same (All-head (IsBelow count) r rows all)
found_below (r ∷ rows) count (suc i) row all e = found_below rows count i row (All-tail (IsBelow count) r rows all) e

-- the module of a row
row_below : (modules : List Tree) (i : ℕ) (row : Row) → slice_get (rows_of modules) i ≡ Some row → row.«module» < length modules
row_below modules i row e = found_below (rows_of modules) (length modules) i row (after_below modules 0 0 (length modules) (omega arith)) e

-- ---- the first fault

abbrev InModule : ℕ → Fault → Type 0
InModule count fault = module_of fault < count

-- a fault, if there is one, is in a module
abbrev IfIn : ℕ → Option Fault → Type 0
IfIn count None = Unit {0}
IfIn count (Some fault) = InModule count fault

flawed_in : (count : ℕ) (row : Option Row) (flaw : Option Flaw) → ((r : Row) → row ≡ Some r → r.«module» < count) → IfIn count (flawed row flaw)
flawed_in count None flaw known = tt
flawed_in count (Some r) None known = tt
flawed_in count (Some r) (Some f) known = known r refl

by_in : (count m : ℕ) (row : Option Row) → m < count → IfIn count (large_by m row)
by_in count m None less = tt
by_in count m (Some r) less = less

tested_in : (b : Bool) (count : ℕ) (fault : Option Fault) → IfIn count fault → IfIn count (cond b fault None)
tested_in true count fault is = is
tested_in false count fault is = tt

large_known : (rows : List Row) (count at : ℕ) (row : Option Row) → ((r : Row) → row ≡ Some r → r.«module» < count) → IfIn count (large_in rows at row)
large_known rows count at None known = tt
large_known rows count at (Some r) known =
    tested_in (is_last rows at && is_at (first_large rows (definitions rows)) r.«module») count (large_by r.«module» (row_at rows (top rows r.«module»))) (by_in count r.«module» (row_at rows (top rows r.«module»)) (known r refl))

either_in : (count : ℕ) (one other : Option Fault) → IfIn count one → IfIn count other → IfIn count (option_or one other)
either_in count None other is also = also
either_in count (Some f) other is also = is

at_in : (modules : List Tree) (facts : Facts) (at : ℕ) → IfIn (length modules) (fault_at (rows_of modules) facts at)
unfolding fault_at large_at
at_in modules facts at =
    either_in (length modules) (flawed (slice_get (rows_of modules) at) (flaw_at (rows_of modules) facts at)) (large_in (rows_of modules) at (slice_get (rows_of modules) at))
    (flawed_in (length modules) (slice_get (rows_of modules) at) (flaw_at (rows_of modules) facts at) (λ r e. row_below modules at r e))
    (large_known (rows_of modules) (length modules) at (slice_get (rows_of modules) at) (λ r e. row_below modules at r e))

or_later : (count : ℕ) (found : Option Fault) (later : List (Option Fault)) → IfIn count found → IfIn count (first_some later) → IfIn count (first_some (found ∷ later))
or_later count None later is also = also
or_later count (Some fault) later is also = is

first_in : (count : ℕ) (f : ℕ → Option Fault) (ns : List ℕ) → ((n : ℕ) → IfIn count (f n)) → IfIn count (first_some (map f ns))
first_in count f [] known = tt
first_in count f (n ∷ ns) known = or_later count (f n) (map f ns) (known n) (first_in count f ns known)

first_fault_in : (modules : List Tree) (facts : Facts) → IfIn (length modules) (first_fault (rows_of modules) facts)
unfolding first_fault
first_fault_in modules facts = first_in (length modules) (fault_at (rows_of modules) facts) (range_with_len 0 (length (rows_of modules))) (at_in modules facts)

-- ---- what modules give

outcome_in : (modules : List Tree) (facts : Facts) (first : Option Fault) (fault : Fault) → IfIn (length modules) first → Err fault ≡ outcome (rows_of modules) facts first → module_of fault < length modules
outcome_in modules facts (Some f) fault is e = let same : fault ≡ f = cc in subst (InModule (length modules)) (sym same) is
outcome_in modules facts None fault is e = cc

built_in : (modules : List Tree) (facts : Facts) (fault : Fault) → Err fault ≡ built (rows_of modules) facts → module_of fault < length modules
unfolding built
built_in modules facts fault e = outcome_in modules facts (first_fault (rows_of modules) facts) fault (first_fault_in modules facts) e

-- a fault that modules have is in one of them
pub fault_in_module : (modules : List Tree) (fault : Fault) → built_of modules ≡ Err fault → module_of fault < length modules
unfolding built_of
fault_in_module modules fault e = built_in modules (facts_in (rows_of modules)) fault (sym e)
