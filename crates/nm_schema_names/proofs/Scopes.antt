-- The statements around a row, one after another.
use Rattle.std.proofs.Common.{◌≡◌, ℕ, zero, suc, ◌-◌, ◌<◌, List, Option, Some, None, sym, ap, ◌∙◌, arith}
use Rattle.std.specs.Option.{option_or}
use Rattle.nm_schema_statements.specs.declared.word.Word.{Word}
use Rattle.nm_schema_statements.specs.declared.row.Row.{Row}
use Rattle.nm_schema_names.specs.Named.{named, parent_of}
use Rattle.nm_schema_names.specs.Leads.{enclosing_within, innermost}

-- a statement that has the name ends the search, and another one hands it on
around : (rows : List Row) (w : Word) (name : List ℕ) (steps : ℕ) (i : ℕ) → 0 < steps
    → innermost rows w name (enclosing_within steps rows (Some i)) ≡ option_or (named rows (Some i) w name) (innermost rows w name (enclosing_within (steps - 1) rows (parent_of rows i)))
around rows w name zero i lt = absurd (omega arith)
around rows w name (suc steps) i lt =
    let on : suc steps - 1 ≡ steps = omega arith in
    sym (ap (λ n. option_or (named rows (Some i) w name) (innermost rows w name (enclosing_within n rows (parent_of rows i)))) on)

pub looked : (rows : List Row) (w : Word) (name : List ℕ) (steps i : ℕ) (all : Option ℕ) → 0 < steps
    → all ≡ innermost rows w name (enclosing_within steps rows (Some i)) → named rows (Some i) w name ≡ None
    → all ≡ innermost rows w name (enclosing_within (steps - 1) rows (parent_of rows i))
looked rows w name steps i all lt is none =
    is ∙ around rows w name steps i lt ∙ ap (λ o. option_or o (innermost rows w name (enclosing_within (steps - 1) rows (parent_of rows i)))) none

pub found : (rows : List Row) (w : Word) (name : List ℕ) (steps i at : ℕ) (all : Option ℕ) → 0 < steps
    → all ≡ innermost rows w name (enclosing_within steps rows (Some i)) → named rows (Some i) w name ≡ Some at
    → Some at ≡ all
found rows w name steps i at all lt is some =
    sym (is ∙ around rows w name steps i lt ∙ ap (λ o. option_or o (innermost rows w name (enclosing_within (steps - 1) rows (parent_of rows i)))) some)

pub ended : (rows : List Row) (w : Word) (name : List ℕ) (steps : ℕ) (scope : Option ℕ) (all : Option ℕ) → steps ≡ 0
    → all ≡ innermost rows w name (enclosing_within steps rows scope) → None ≡ all
ended rows w name steps None all none is = sym is
ended rows w name steps (Some i) all none is = sym (is ∙ ap (λ n. innermost rows w name (enclosing_within n rows (Some i))) none)
