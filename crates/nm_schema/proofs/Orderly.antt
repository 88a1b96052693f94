-- Rows of modules in which no fault is found stand in order.
use Rattle.std.proofs.Common.{◌≡◌, ◌∙◌, ◌<◌, ◌≤◌, ◌+◌, ◌⊎◌, inl, inr, ℕ, zero, suc, List, [], ◌∷◌, ◌++◌, length, Bool, true, false, cond, ◌==◌, ◌&&◌, Option, Some, None, IfSome, IfNone, if◌then◌else◌, slice_get, refl, sym, ap, subst, arith}
use Rattle.std.specs.Prelude.{Contains, is_some}
use Rattle.std.specs.Option.{option_or}
use Rattle.std.specs.List.{find, position_from}
use Rattle.std.proofs.lemmas.Grind.{common_steps}
use Rattle.std.proofs.lemmas.Bool.{and_parts, cases_lt}
use Rattle.std.proofs.lemmas.List.FromFn.{get_or-map-range_with_len}
use Rattle.std.proofs.lemmas.Option.{same_Some}
use Rattle.nm_yang.specs.Tree.{Tree, Trees, statement, none, more}
use Rattle.nm_yang.specs.Grammar.{keyword_of}
use Rattle.nm_schema_statements.specs.declared.row.Row.{Row}
use Rattle.nm_schema_statements.specs.declared.word.Word.{Word}
use Rattle.nm_schema_statements.specs.declared.word.Word.TheVariants as word
use Rattle.nm_schema_statements.specs.declared.flaw.Flaw.{Flaw}
use Rattle.nm_schema_statements.specs.declared.flaw.Flaw.TheVariants as flaw
use Rattle.nm_schema_statements.specs.Word.{word_of, word_number}
use Rattle.nm_schema_statements.specs.Text.{prefix_of, name_of}
use Rattle.nm_schema_statements.specs.Flaw.{is_module, text_of, form_fault}
use Rattle.nm_schema_statements.specs.Rows.{is_opened, is_skipped, row_for, rows_from, rows_within, rows_after, rows_of, stands_before, ParentsBefore, same_parent, children}
use Rattle.nm_schema_statements.proofs.Words.{same_words}
use Rattle.nm_schema_names.specs.declared.key.Reach.TheVariants as reach
use Rattle.nm_schema_names.specs.Named.{has_key, is_called, first_keyed, named, named_in, is_own, prefix_leads}
use Rattle.nm_schema_names.specs.Leads.{enclosing, innermost, scoped, definition_by, definition_for, definition, argument_leads, row_leads, leads_to}
use Rattle.nm_schema_names.specs.Flaw.{text_flaw, argument_flaw, row_flaw, name_flaw}
use Rattle.nm_schema_names.specs.Graph.{is_part as makes_nodes, is_part_in as named_part_in, is_part_at as named_part_at, parts, listed, word_leading, row_leading, leading}
use Rattle.nm_schema_tree.proofs.Positions.{first_passes}
use Rattle.nm_schema_typing.specs.Listing.{is_at}
use Rattle.nm_schema_typing.specs.Restricting.{argument_at}
use Rattle.nm_schema_typing.specs.TypeFlaw.{cycle_flaw}
use Rattle.nm_schema_uses.specs.Holding.{is_holder, is_part, is_part_row, is_part_at, is_uses, grouping_at, holding, bringing}
use Rattle.nm_schema_uses.specs.Config.{LeadsBy, one, further}
use Rattle.nm_schema_names.specs.Clash.{names_from, around_in, around, holder_of, is_taken, claimed, clash_in, clash_by, case_clash, duplicate, clash_flaw}
use Rattle.nm_schema_leafref.proofs.Faults.{leads_nowhere}
use Rattle.nm_schema_faults.specs.Facts.{Facts, definitions, IsLeastCycle, IsAcyclic, IsCycle}
use Rattle.nm_schema_faults.proofs.Cycling.{leading_past}
use Rattle.nm_schema.proofs.Elements.{here}
use Rattle.nm_schema.specs.Faultless.{AreFaultless}
use Rattle.nm_schema.proofs.Faultless.{or_none, within}
use Rattle.nm_schema.proofs.Naming.{grammar_none, outermost}
use Rattle.nm_schema.proofs.Holders.{StandBefore, held_part}
use Rattle.nm_schema.proofs.Claims.{AreOrderly, part_claimer, in_filter, in_children, uses_word}
use Rattle.nm_schema.proofs.Siblings.{IsStep, inside, used, step_of, of_bringing}

-- ---- each row stands in an earlier one

parents_append : (n : ℕ) (xs ys : List Row) → ParentsBefore n xs → ParentsBefore (n + length xs) ys → ParentsBefore n (xs ++ ys)
parents_append n [] ys a b =
    let at : n + 0 ≡ n = omega arith in
    subst (λ (k : ℕ). ParentsBefore k ys) at b
parents_append n (x ∷ xs) ys a b =
    let at : n + suc (length xs) ≡ suc n + length xs = omega arith in
    (a.0, parents_append (suc n) xs ys a.1 (subst (λ (k : ℕ). ParentsBefore k ys) at b))

mutual
  unfolding rows_from rows_within

  parents_from : (t : Tree) (owner : ℕ) (parent : Option ℕ) (n : ℕ) → stands_before n parent → ParentsBefore n (rows_from owner parent n t)
  parents_from (statement keyword argument place below) owner parent n low =
      elim (is_opened (word_of keyword)) as (λ b. ParentsBefore n (row_for owner parent keyword argument place ∷ (if b then rows_within owner n (suc n) below else []))) [
        | true ↦ (low, parents_within below owner n (suc n) (omega arith))
        | false ↦ (low, tt)
      ]

  parents_within : (ts : Trees) (owner parent n : ℕ) → parent < n → ParentsBefore n (rows_within owner parent n ts)
  parents_within none owner parent n low = tt
  parents_within (more t ts) owner parent n low =
      elim (is_skipped (word_of (keyword_of t))) as (λ b. ParentsBefore n (if b then rows_within owner parent n ts else (rows_from owner (Some parent) n t ++ rows_within owner parent (n + length (rows_from owner (Some parent) n t)) ts))) [
        | true ↦ parents_within ts owner parent n low
        | false ↦
            let first : List Row = rows_from owner (Some parent) n t in
            parents_append n first (rows_within owner parent (n + length first) ts) (parents_from t owner (Some parent) n low) (parents_within ts owner parent (n + length first) (omega (arith, low)))
      ]

pub parents_after : (k n : ℕ) (ts : List Tree) → ParentsBefore n (rows_after k n ts)
unfolding rows_after
parents_after k n [] = tt
parents_after k n (t ∷ ts) =
    let first : List Row = rows_from k None n t in
    parents_append n first (rows_after (suc k) (n + length first) ts) (parents_from t k None n tt) (parents_after (suc k) (n + length first) ts)

before_from : (n : ℕ) (rows : List Row) (i p : ℕ) → ParentsBefore n rows → around rows i ≡ Some p → p < n + i
before_from n [] i p b is = absurd (cc)
before_from n (r ∷ rows) zero p b is =
    let h : p < n = subst (λ (x : Option ℕ). stands_before n x) is b.0 in
    omega (arith, h)
before_from n (r ∷ rows) (suc i) p b is = let h = before_from (suc n) rows i p b.1 is in omega (arith, h)

-- each row of modules stands in an earlier one
pub modules_stand : (modules : List Tree) → StandBefore (rows_of modules)
modules_stand modules i p is = let h = before_from 0 (rows_of modules) i p (parents_after 0 0 modules) is in omega (arith, h)

-- ---- what a name leads to has its word

-- if there is a row, it has the word
abbrev pub HasWord : List Row → Word → Option ℕ → Type 0
HasWord rows w o = IfSome o (λ g. (s : Row) × (slice_get rows g ≡ Some s) × (s.word ≡ w))

choice : (P : Option ℕ → Type 0) (b : Bool) (x y : Option ℕ) → P x → P y → P (cond b x y)
choice P true x y p q = p
choice P false x y p q = q

either : (rows : List Row) (w : Word) (x y : Option ℕ) → HasWord rows w x → HasWord rows w y → HasWord rows w (option_or x y)
either rows w None y p q = q
either rows w (Some i) y p q = p

module _ (rows : List Row) (w : Word) where
  keyed : (parent : Option ℕ) (name : List ℕ) (o : Option ℕ) → position_from (has_key reach.Statement parent (word_number w) name) 0 rows ≡ o → HasWord rows w o
  keyed parent name None is = tt
  keyed parent name (Some g) is =
      let h = first_passes (has_key reach.Statement parent (word_number w) name) rows g is in
      let a = and_parts (same_parent h.x.parent parent) (word_number h.x.word == word_number w && is_called h.x.argument name) h.passes in
      let b = and_parts (word_number h.x.word == word_number w) (is_called h.x.argument name) a.1 in
      (h.x, h.here, same_words h.x.word w b.0)

  named_worded : (parent : Option ℕ) (name : List ℕ) → HasWord rows w (named rows parent w name)
  unfolding first_keyed
  named_worded parent name = keyed parent name (named rows parent w name) refl

  in_worded : (parent : Option ℕ) (name : List ℕ) → HasWord rows w (named_in rows parent w name)
  in_worded None name = tt
  in_worded (Some i) name = named_worded (Some i) name

  innermost_worded : (name is : List ℕ) → HasWord rows w (innermost rows w name is)
  innermost_worded name [] = tt
  innermost_worded name (i ∷ is) = either rows w (named rows (Some i) w name) (innermost rows w name is) (named_worded (Some i) name) (innermost_worded name is)

  scoped_worded : (at : ℕ) (name : List ℕ) → HasWord rows w (scoped rows at w name)
  unfolding scoped
  scoped_worded at name = innermost_worded name (enclosing rows at)

  by_worded : (at m : ℕ) (prefix : Option (List ℕ)) (name : List ℕ) → HasWord rows w (definition_by rows at w m prefix name)
  by_worded at m None name = scoped_worded at name
  by_worded at m (Some prefix) name =
      choice (HasWord rows w) (is_own rows m prefix) (scoped rows at w name) (named_in rows (prefix_leads rows m prefix) w name) (scoped_worded at name) (in_worded (prefix_leads rows m prefix) name)

  for_worded : (at : ℕ) (text : List ℕ) (o : Option Row) → HasWord rows w (definition_for rows at w text o)
  for_worded at text None = tt
  for_worded at text (Some r) = by_worded at r.«module» (prefix_of text) (name_of text)

  pub definition_worded : (at : ℕ) (text : List ℕ) → HasWord rows w (definition rows at w text)
  unfolding definition
  definition_worded at text = for_worded at text (slice_get rows at)

-- what a uses names is a grouping
module _ (rows : List Row) where
  used_grouping : (at : ℕ) (argument : Option (List ℕ)) → HasWord rows word.Grouping (argument_leads rows at word.Uses argument)
  used_grouping at None = tt
  used_grouping at (Some text) = definition_worded rows word.Grouping at text

  -- the grouping of a row is what its name leads to
  pub grouping_is : (i : ℕ) (r : Row) → slice_get rows i ≡ Some r → grouping_at (definitions rows) i ≡ leads_to rows i
  unfolding definitions
  grouping_is i r is = get_or-map-range_with_len (leads_to rows) 0 (length rows) i i None (within rows i r is) (omega arith)

  uses_leads : (i : ℕ) (r : Row) → slice_get rows i ≡ Some r → is_uses r.word ≡ true → leads_to rows i ≡ argument_leads rows i word.Uses r.argument
  unfolding leads_to
  uses_leads i r is uses = ap (row_leads rows i) is ∙ ap (λ (w : Word). argument_leads rows i w r.argument) (uses_word r.word uses)

  uses_grouping : (i g : ℕ) (r : Row) → slice_get rows i ≡ Some r → is_uses r.word ≡ true → grouping_at (definitions rows) i ≡ Some g → (s : Row) × (slice_get rows g ≡ Some s) × (s.word ≡ word.Grouping)
  uses_grouping i g r is uses e =
      let at : argument_leads rows i word.Uses r.argument ≡ Some g = sym (uses_leads i r is uses) ∙ sym (grouping_is i r is) ∙ e in
      subst (λ (o : Option ℕ). HasWord rows word.Grouping o) at (used_grouping i r.argument)

pub argued : (w : Word) (argument : Option (List ℕ)) → form_fault w argument ≡ None → argument ≡ Some (text_of argument)
argued w None e = absurd (cc)
argued w (Some text) e = refl

pub there_is : (b : Bool) (f : Flaw) → cond b None (Some f) ≡ None → b ≡ true
there_is true f e = refl
there_is false f e = absurd (cc)

module_part : (w : Word) → is_module w ≡ true → is_part w ≡ true → ⊥
module_part word.Module e f = absurd (cc)
module_part _ e f = absurd (cc)

-- ---- no row leads to itself

part_word : (w : Word) → is_part w ≡ true → makes_nodes w ≡ true
part_word word.Container e = refl
part_word word.List e = refl
part_word word.Leaf e = refl
part_word word.LeafList e = refl
part_word word.Uses e = refl
part_word word.Choice e = refl
part_word word.Case e = refl
part_word _ e = absurd (cc)

part_row : (o : Option Row) → is_part_row o ≡ true → named_part_in o ≡ true
part_row None e = absurd (cc)
part_row (Some r) e = part_word r.word e

is_itself : (n : ℕ) → (n == n) ≡ true
is_itself n = grind (arith, common_steps)

unmarked_cycle : (rows : List Row) (c : ℕ) → cycle_flaw rows (Some c) c ≡ None → ⊥
unfolding cycle_flaw
unmarked_cycle rows c e =
    let f : cond (is_at (Some c) c) (Some (flaw.Cycle (text_of (argument_at rows (Some c))))) None ≡ None = e in
    let t : is_at (Some c) c ≡ true = is_itself c in
    let no : Some (flaw.Cycle (text_of (argument_at rows (Some c)))) ≡ None = sym (ap (λ b. cond b (Some (flaw.Cycle (text_of (argument_at rows (Some c))))) None) t) ∙ f in
    absurd (cc)

pub row_there : (rows : List Row) (i : ℕ) → i < length rows → (r : Row) × (slice_get rows i ≡ Some r)
row_there [] i lt = absurd (omega (arith, lt))
row_there (r ∷ rows) zero lt = (r, refl)
row_there (r ∷ rows) (suc i) lt = row_there rows i (omega (arith, lt))

module _ (rows : List Row) where
  shown_part : (k : ℕ) → is_part_at rows k ≡ true → named_part_at rows k ≡ true
  unfolding is_part_at
  shown_part k e = part_row (slice_get rows k) e

  holder_leads : (i k : ℕ) (w : Word) → is_holder w ≡ true → Contains (parts rows i) k → Contains (word_leading rows i w) k
  holder_leads i k word.«Module» e c = c
  holder_leads i k word.Container e c = c
  holder_leads i k word.List e c = c
  holder_leads i k word.Grouping e c = c
  holder_leads i k word.Choice e c = c
  holder_leads i k word.Case e c = c
  holder_leads i k _ e c = absurd (cc)

  pub listed_one : (o : Option ℕ) (k : ℕ) → o ≡ Some k → Contains (listed o) k
  listed_one None k e = absurd (cc)
  listed_one (Some i) k e = here i k [] (same_Some i k e)

  in_parts : (i k : ℕ) → Contains (children rows i) k → is_part_at rows k ≡ true → Contains (parts rows i) k
  unfolding parts
  in_parts i k c part = in_filter (named_part_at rows) (children rows i) k c (shown_part k part)

  step_leads : (i k : ℕ) → IsStep rows (definitions rows) i k → Contains (leading rows i) k × (i < length rows)
  unfolding leading
  step_leads i k (inside r is holder part in_i) =
      let c = holder_leads i k r.word holder (in_parts i k (in_children rows i k (slice_get rows k) refl in_i) part) in
      (subst (λ (o : Option Row). Contains (row_leading rows i o) k) (sym is) c, within rows i r is)
  step_leads i k (used r is uses e) =
      let w = uses_word r.word uses in
      let c : Contains (word_leading rows i word.Uses) k = listed_one (leads_to rows i) k (sym (grouping_is rows i r is) ∙ e) in
      let d : Contains (word_leading rows i r.word) k = subst (λ (x : Word). Contains (word_leading rows i x) k) (sym w) c in
      (subst (λ (o : Option Row). Contains (row_leading rows i o) k) (sym is) d, within rows i r is)

  one_leads : (i k : ℕ) → Contains (bringing rows (definitions rows) i) k → Contains (leading rows i) k
  one_leads i k c = (step_leads i k (step_of rows (definitions rows) i k (of_bringing rows (definitions rows) i k c).1)).0

  all_lead : (i j : ℕ) → LeadsBy (bringing rows (definitions rows)) i j → LeadsBy (leading rows) i j
  all_lead i j (one c) = one (one_leads i j c)
  all_lead i j (further k c l) = further k (one_leads i k c) (all_lead k j l)

  held_leads : (i k : ℕ) → Contains (holding rows (definitions rows) i) k → Contains (leading rows i) k
  held_leads i k c = (step_leads i k (step_of rows (definitions rows) i k c)).0

  pub all_held : (i j : ℕ) → LeadsBy (holding rows (definitions rows)) i j → LeadsBy (leading rows) i j
  all_held i j (one c) = one (held_leads i j c)
  all_held i j (further k c l) = further k (held_leads i k c) (all_held k j l)

  -- what leads somewhere is a row
  pub leads_before : (i j : ℕ) → LeadsBy (leading rows) i j → i < length rows
  leads_before i j l = by (cases_lt i (length rows))
    where
      by : (i < length rows) ⊎ (length rows ≤ i) → i < length rows
      by (inl lt) = lt
      by (inr le) = absurd (leads_nowhere (leading rows) i j (leading_past rows i le) l)

  module _ (facts : Facts) (all : AreFaultless rows facts) where
    no_cycle : (cycle : Option ℕ) → facts.cycle ≡ cycle → IfSome cycle (IsLeastCycle rows) → IfNone cycle (IsAcyclic rows) → IsAcyclic rows
    no_cycle None is least free = free
    no_cycle (Some c) is least free =
        let r = row_there rows c (leads_before c c least.leads) in
        let f : cycle_flaw rows (Some c) c ≡ None = sym (ap (λ (o : Option ℕ). cycle_flaw rows o c) is) ∙ (all.each c r.0 r.1).cycle in
        absurd (unmarked_cycle rows c f)

    -- no row leads to itself
    pub acyclic : IsCycle rows facts.cycle → IsAcyclic rows
    acyclic cycle = no_cycle facts.cycle refl cycle.least cycle.none

    no_duplicate : (o : Option (List ℕ)) → duplicate o ≡ None → o ≡ None
    no_duplicate None e = refl
    no_duplicate (Some name) e = absurd (cc)

    clash_none : (at h : ℕ) → holder_of rows at ≡ Some h → find (is_taken (claimed rows (definitions rows)) rows h at) (names_from rows (claimed rows (definitions rows) at)) ≡ None
    unfolding clash_flaw clash_by
    clash_none at h held =
        let c = part_claimer rows at (held_part rows at h held).0 in
        let both = no_duplicate (option_or (clash_by (claimed rows (definitions rows)) rows at) (case_clash rows at)) (all.each at c.row c.there).clash in
        let none = (or_none (clash_by (claimed rows (definitions rows)) rows at) (case_clash rows at) both).0 in
        sym (ap (clash_in (claimed rows (definitions rows)) rows at) held) ∙ none

    uses_known : (i : ℕ) (r : Row) → slice_get rows i ≡ Some r → is_uses r.word ≡ true → is_some (grouping_at (definitions rows) i) ≡ true
    unfolding name_flaw
    uses_known i r is uses =
        let f = all.each i r is in
        let w = uses_word r.word uses in
        let argument = argued r.word r.argument (grammar_none rows i r is f.grammar).1 in
        let text : List ℕ = text_of r.argument in
        let a : argument_flaw rows i r r.argument ≡ None = sym (ap (row_flaw rows i) is) ∙ f.name in
        let b : argument_flaw rows i r (Some text) ≡ None = sym (ap (argument_flaw rows i r) argument) ∙ a in
        let c : text_flaw rows i r word.Uses text ≡ None = sym (ap (λ (x : Word). text_flaw rows i r x text) w) ∙ b in
        let d : is_some (definition rows i word.Grouping text) ≡ true = there_is (is_some (definition rows i word.Grouping text)) (flaw.BadReference text) c in
        let e : leads_to rows i ≡ definition rows i word.Grouping text = uses_leads rows i r is uses ∙ ap (argument_leads rows i word.Uses) argument in
        ap (λ (o : Option ℕ). is_some o) (grouping_is rows i r is ∙ e) ∙ d

    outermost_part : (i : ℕ) (o : Option Row) → slice_get rows i ≡ o → is_part_row o ≡ true → around_in o ≡ None → ⊥
    outermost_part i None is part e = absurd (cc)
    outermost_part i (Some r) is part e = module_part r.word (outermost rows r e (grammar_none rows i r is (all.each i r is).grammar).0) part

    no_outer : (i : ℕ) → is_part_at rows i ≡ true → around rows i ≡ None → ⊥
    unfolding is_part_at
    no_outer i part e = outermost_part i (slice_get rows i) refl part e

    -- rows without a fault stand in order
    pub orderly : IsCycle rows facts.cycle → StandBefore rows → AreOrderly rows (definitions rows)
    orderly cycle before = record {
      before = λ i p e. before i p e;
      outer = λ i part e. no_outer i part e;
      used = λ i r is uses. uses_known i r is uses;
      named = λ i g r is uses e. uses_grouping rows i g r is uses e;
      acyclic = λ i l. acyclic cycle i (all_lead i i l);
      free = λ at h held. clash_none at h held;
    }
