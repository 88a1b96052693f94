-- What a row leads to is a row.
use Rattle.std.proofs.Common.{◌≡◌, ℕ, suc, ◌+◌, ◌<◌, List, [], ◌∷◌, length, Bool, true, false, cond, Option, Some, None, sym, subst, arith, slice_get, All}
use Rattle.std.specs.Option.{option_or, option_to_list, IfSome}
use Rattle.std.specs.List.{position_from}
use Rattle.std.proofs.lemmas.Option.{IfSome_then}
use Rattle.std.proofs.lemmas.List.Elements.{All-nil, All-cons, All-head, All-tail, All-filter, All-weaker}
use Rattle.nm_schema_statements.specs.declared.word.Word.{Word}
use Rattle.nm_schema_statements.specs.declared.word.Word.TheVariants as word
use Rattle.nm_schema_statements.specs.declared.row.Row.{Row}
use Rattle.nm_schema_statements.specs.Text.{prefix_of, name_of, is_builtin}
use Rattle.nm_schema_statements.specs.Rows.{same_parent, those_in, children, has_word, first_with, first_below}
use Rattle.nm_schema_names.specs.declared.key.Reach.{Reach}
use Rattle.nm_schema_names.specs.Named.{has_key, first_keyed, named, named_in, is_own, prefix_leads}
use Rattle.nm_schema_names.specs.Leads.{enclosing, innermost, scoped, definition_by, definition_for, definition, text_leads, argument_leads, row_leads, leads_to}
use Rattle.nm_schema_names.specs.Graph.{is_part_at, parts, word_leading, row_leading, leading}

-- the number of a row, if any
abbrev Within : List Row → Option ℕ → Type 0
Within rows o = IfSome o (λ i. i < length rows)

-- numbers of rows
abbrev AllWithin : List Row → List ℕ → Type 0
AllWithin rows is = All (λ i. i < length rows) is

choice : (P : Option ℕ → Type 0) (b : Bool) (x y : Option ℕ) → P x → P y → P (cond b x y)
choice P true x y p q = p
choice P false x y p q = q

either : (P : ℕ → Type 0) (x y : Option ℕ) → IfSome x P → IfSome y P → IfSome (option_or x y) P
either P None y p q = q
either P (Some i) y p q = p

position_from-within : {X : Type 0} (test : X → Bool) (n : ℕ) (xs : List X) → IfSome (position_from test n xs) (λ i. i < n + length xs)
position_from-within test n [] = tt
position_from-within test n (x ∷ xs) =
    choice (λ o. IfSome o (λ i. i < n + suc (length xs))) (test x) (Some n) (position_from test (n + 1) xs) (omega arith)
    (IfSome_then (position_from test (n + 1) xs) (position_from-within test (n + 1) xs) (λ i h. omega arith))

first_keyed-within : (reach : Reach) (rows : List Row) (space : Option ℕ) (number : ℕ) (name : List ℕ) → Within rows (first_keyed reach rows space number name)
unfolding first_keyed
first_keyed-within reach rows space number name =
    IfSome_then (position_from (has_key reach space number name) 0 rows) (position_from-within (has_key reach space number name) 0 rows) (λ i h. omega arith)

named-within : (rows : List Row) (parent : Option ℕ) (w : Word) (name : List ℕ) → Within rows (named rows parent w name)
named-within rows parent w name = first_keyed-within _ rows parent _ name

named_in-within : (rows : List Row) (parent : Option ℕ) (w : Word) (name : List ℕ) → Within rows (named_in rows parent w name)
named_in-within rows None w name = tt
named_in-within rows (Some i) w name = named-within rows (Some i) w name

innermost-within : (rows : List Row) (w : Word) (name is : List ℕ) → Within rows (innermost rows w name is)
innermost-within rows w name [] = tt
innermost-within rows w name (i ∷ is) =
    either (λ i. i < length rows) (named rows (Some i) w name) (innermost rows w name is) (named-within rows (Some i) w name) (innermost-within rows w name is)

scoped-within : (rows : List Row) (at : ℕ) (w : Word) (name : List ℕ) → Within rows (scoped rows at w name)
unfolding scoped
scoped-within rows at w name = innermost-within rows w name (enclosing rows at)

definition_by-within : (rows : List Row) (at : ℕ) (w : Word) (m : ℕ) (prefix : Option (List ℕ)) (name : List ℕ) → Within rows (definition_by rows at w m prefix name)
definition_by-within rows at w m None name = scoped-within rows at w name
definition_by-within rows at w m (Some prefix) name =
    choice (Within rows) (is_own rows m prefix) (scoped rows at w name) (named_in rows (prefix_leads rows m prefix) w name) (scoped-within rows at w name) (named_in-within rows (prefix_leads rows m prefix) w name)

definition_for-within : (rows : List Row) (at : ℕ) (w : Word) (text : List ℕ) (o : Option Row) → Within rows (definition_for rows at w text o)
definition_for-within rows at w text None = tt
definition_for-within rows at w text (Some r) = definition_by-within rows at w r.«module» (prefix_of text) (name_of text)

definition-within : (rows : List Row) (at : ℕ) (w : Word) (text : List ℕ) → Within rows (definition rows at w text)
unfolding definition
definition-within rows at w text = definition_for-within rows at w text (slice_get rows at)

text_leads-within : (rows : List Row) (at : ℕ) (w : Word) (text : List ℕ) → Within rows (text_leads rows at w text)
text_leads-within rows at word.«Type» text = choice (Within rows) (is_builtin text) None (definition rows at word.Typedef text) tt (definition-within rows at word.Typedef text)
text_leads-within rows at word.Uses text = definition-within rows at word.Grouping text
text_leads-within rows at _ text = tt

argument_leads-within : (rows : List Row) (at : ℕ) (w : Word) (argument : Option (List ℕ)) → Within rows (argument_leads rows at w argument)
argument_leads-within rows at w None = tt
argument_leads-within rows at w (Some text) = text_leads-within rows at w text

row_leads-within : (rows : List Row) (at : ℕ) (o : Option Row) → Within rows (row_leads rows at o)
row_leads-within rows at None = tt
row_leads-within rows at (Some r) = argument_leads-within rows at r.word r.argument

leads_to-within : (rows : List Row) (at : ℕ) → Within rows (leads_to rows at)
unfolding leads_to
leads_to-within rows at = row_leads-within rows at (slice_get rows at)

pub found_within : (rows : List Row) (at : ℕ) (o : Option ℕ) → o ≡ leads_to rows at → IfSome o (λ i. i < length rows)
found_within rows at o e = subst (Within rows) (sym e) (leads_to-within rows at)

-- ---- lists of rows

those_in-within : (n : ℕ) (parent : Option ℕ) (rows : List Row) → All (λ i. i < n + length rows) (those_in n parent rows)
unfolding those_in
those_in-within n parent [] = All-nil (λ i. i < n + 0)
those_in-within n parent (r ∷ rows) =
    let rest : All (λ i. i < n + suc (length rows)) (those_in (suc n) parent rows) = All-weaker (λ i. i < suc n + length rows) (λ i. i < n + suc (length rows)) (λ i h. omega arith) (those_in (suc n) parent rows) (those_in-within (suc n) parent rows) in
    let first : n < n + suc (length rows) = omega arith in
    elim (same_parent r.parent parent) as (λ b. All (λ i. i < n + suc (length rows)) (cond b (n ∷ those_in (suc n) parent rows) (those_in (suc n) parent rows))) [
      | true ↦ All-cons (λ i. i < n + suc (length rows)) n (those_in (suc n) parent rows) first rest
      | false ↦ rest
    ]

children-within : (rows : List Row) (i : ℕ) → AllWithin rows (children rows i)
children-within rows i = All-weaker (λ k. k < 0 + length rows) (λ k. k < length rows) (λ k h. omega arith) (children rows i) (those_in-within 0 (Some i) rows)

first_with-within : (rows : List Row) (w : Word) (is : List ℕ) → AllWithin rows is → Within rows (first_with rows w is)
first_with-within rows w [] h = tt
first_with-within rows w (i ∷ is) h =
    choice (Within rows) (has_word w (slice_get rows i)) (Some i) (first_with rows w is) (All-head (λ k. k < length rows) i is h) (first_with-within rows w is (All-tail (λ k. k < length rows) i is h))

parts-within : (rows : List Row) (i : ℕ) → AllWithin rows (parts rows i)
unfolding parts
parts-within rows i = All-filter (is_part_at rows) (λ k. k < length rows) (children rows i) (children-within rows i)

listed-within : (rows : List Row) (o : Option ℕ) → Within rows o → AllWithin rows (option_to_list o)
listed-within rows None h = All-nil (λ k. k < length rows)
listed-within rows (Some i) h = All-cons (λ k. k < length rows) i [] h (All-nil (λ k. k < length rows))

type-within : (rows : List Row) (i : ℕ) → AllWithin rows (option_to_list (first_below rows i word.«Type»))
type-within rows i = listed-within rows (first_below rows i word.«Type») (first_with-within rows word.«Type» (children rows i) (children-within rows i))

word_leading-within : (rows : List Row) (i : ℕ) (w : Word) → AllWithin rows (word_leading rows i w)
word_leading-within rows i word.Module = parts-within rows i
word_leading-within rows i word.Container = parts-within rows i
word_leading-within rows i word.List = parts-within rows i
word_leading-within rows i word.Grouping = parts-within rows i
word_leading-within rows i word.Choice = parts-within rows i
word_leading-within rows i word.Case = parts-within rows i
word_leading-within rows i word.Leaf = type-within rows i
word_leading-within rows i word.LeafList = type-within rows i
word_leading-within rows i word.Typedef = type-within rows i
word_leading-within rows i word.Uses = listed-within rows (leads_to rows i) (leads_to-within rows i)
word_leading-within rows i word.«Type» = listed-within rows (leads_to rows i) (leads_to-within rows i)
word_leading-within rows i _ = All-nil (λ k. k < length rows)

row_leading-within : (rows : List Row) (i : ℕ) (o : Option Row) → AllWithin rows (row_leading rows i o)
row_leading-within rows i None = All-nil (λ k. k < length rows)
row_leading-within rows i (Some r) = word_leading-within rows i r.word

pub leading-within : (rows : List Row) (i : ℕ) → All (λ k. k < length rows) (leading rows i)
unfolding leading
leading-within rows i = row_leading-within rows i (slice_get rows i)
