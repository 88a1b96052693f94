-- The definitions of all rows.
use Rattle.std.proofs.Common.{◌≡◌, ◌∙◌, ℕ, ◌+◌, ◌<◌, List, [], ◌∷◌, ◌++◌, length, map, Option, IfSome, refl, subst, sym, ap, arith}
use Rattle.std.specs.List.{range_with_len}
use Rattle.std.proofs.lemmas.List.Elements.{All-push, All-nil, All-cons}
use Rattle.std.proofs.lemmas.List.FromFn.{map-range_with_len_more}
use Rattle.nm_schema_statements.specs.declared.row.Row.{Row}
use Rattle.nm_schema_names.specs.Leads.{leads_to}
use Rattle.nm_schema_names.proofs.Within.{found_within}
use Rattle.nm_schema_uses.specs.Holding.{AreNamed}
use Rattle.nm_schema_faults.specs.Facts.{definitions}

-- the definitions of the rows before row n
pub record AreDefined (rows : List Row) (n : ℕ) (found : List (Option ℕ)) : Type 0 where
  pub made : found ≡ map (leads_to rows) (range_with_len 0 n)
  pub named : AreNamed rows found

pub defined_none : (rows : List Row) (found : List (Option ℕ)) → found ≡ [] → AreDefined rows 0 found
defined_none rows found e = record {
  made = e;
  named = subst (λ (l : List (Option ℕ)). AreNamed rows l) (sym e) (All-nil (λ (d : Option ℕ). IfSome d (λ k. k < length rows)));
}

pub defined_more : (rows : List Row) (n : ℕ) (found after : List (Option ℕ)) (d : Option ℕ) → AreDefined rows n found → d ≡ leads_to rows n → IfSome d (λ k. k < length rows) → after ≡ found ++ d ∷ []
    → AreDefined rows (n + 1) after
defined_more rows n found after d are is within pushed = record {
  made = pushed ∙ ap (λ (l : List (Option ℕ)). l ++ d ∷ []) are.made ∙ ap (λ e. map (leads_to rows) (range_with_len 0 n) ++ e ∷ []) is ∙ sym (map-range_with_len_more (leads_to rows) 0 n n (omega arith));
  named = subst (λ (l : List (Option ℕ)). AreNamed rows l) (sym pushed) (All-push (λ (e : Option ℕ). IfSome e (λ k. k < length rows)) found d are.named within);
}

all-named : (rows : List Row) (is : List ℕ) → AreNamed rows (map (leads_to rows) is)
all-named rows [] = All-nil (λ (d : Option ℕ). IfSome d (λ k. k < length rows))
all-named rows (i ∷ is) = All-cons (λ (d : Option ℕ). IfSome d (λ k. k < length rows)) (leads_to rows i) (map (leads_to rows) is) (found_within rows i (leads_to rows i) refl) (all-named rows is)

-- what is defined is a row
pub definitions-named : (rows : List Row) (named : List (Option ℕ)) → named ≡ definitions rows → AreNamed rows named
unfolding definitions
definitions-named rows named e = subst (λ (l : List (Option ℕ)). AreNamed rows l) (sym e) (all-named rows (range_with_len 0 (length rows)))
