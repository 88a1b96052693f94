-- The names that rows claim where they stand come once (RFC 7950 sections 6.2.1, 7.9 and 7.13).
use Rattle.std.proofs.Common.{◌≡◌, ◌∙◌, ◌<◌, ◌≤◌, ◌+◌, ◌-◌, ◌⊎◌, inl, inr, ℕ, zero, suc, List, [], ◌∷◌, ◌++◌, length, map, filter, Bool, true, false, cond, ◌&&◌, ◌||◌, Option, Some, None, slice_get, refl, sym, ap, subst, arith}
use Rattle.std.specs.Prelude.{Contains, option_to_list, nat_le, is_some, not}
use Rattle.std.specs.Option.{option_and_then}
use Rattle.std.specs.List.{find, concat, range_with_len}
use Rattle.std.proofs.lemmas.Grind.{common_steps}
use Rattle.std.proofs.lemmas.Bool.{cases_lt}
use Rattle.std.proofs.lemmas.Bool.Decides.{nat_tests}
use Rattle.std.proofs.lemmas.Option.{same_Some}
use Rattle.std.proofs.lemmas.List.{map-append}
use Rattle.std.proofs.lemmas.List.Elements.{Contains-append_cases, Contains-append_left, Contains-append_right}
use Rattle.nm_schema_statements.specs.declared.row.Row.{Row}
use Rattle.nm_schema_statements.specs.declared.word.Word.{Word}
use Rattle.nm_schema_statements.specs.declared.word.Word.TheVariants as word
use Rattle.nm_schema_statements.specs.Flaw.{is_data}
use Rattle.nm_schema_statements.specs.Rows.{same_parent, those_in, children}
use Rattle.nm_graph.specs.Value.{strict, all_there}
use Rattle.nm_types.specs.Spells.{IsOnce}
use Rattle.nm_schema_uses.specs.Arguments.{argument_at}
use Rattle.nm_schema_uses.specs.Holding.{is_holder, is_part, is_part_row, is_part_at, is_fork, is_fork_row, is_fork_at, is_node, is_uses, grouping_at, holding, bringing}
use Rattle.nm_schema_uses.specs.Config.{LeadsBy, one, further}
use Rattle.nm_schema_uses.specs.Worth.{worth_within, worth_of}
use Rattle.nm_schema_uses.specs.Members.{gathered, is_astray}
use Rattle.nm_schema_names.specs.Clash.{names_from, has_name, around_in, around, beyond, holder_of, is_taken, is_held, claiming_in, claiming, claim, claim_step, claimed}
use Rattle.nm_schema_nodes.proofs.Unfolding.{split, unfold_one, unfold_within}
use Rattle.nm_schema.proofs.Elements.{here, later, nothing, first_or_later, of_map, in_map, of_filter, in_range, finds_none}
use Rattle.nm_schema.proofs.Onces.{once_both, has_named}
use Rattle.nm_schema.proofs.Faultless.{within}
use Rattle.nm_schema.proofs.Valued.{few_distinct, distinct, IsFounded, is_known}
use Rattle.nm_schema.proofs.Holders.{Ascend, ascend_each, ascend_filter, ascend_range, parent_is, StandBefore, held_part, held_plain, held_inner, held_directly, held, fork_part}

-- ---- elements

in_kept : (p : ℕ → Bool) (z x : ℕ) (xs : List ℕ) (b : Bool) → p z ≡ b → p x ≡ true → (Contains xs x → Contains (filter p xs) x) → (z ≡ x) ⊎ Contains xs x → Contains (cond b (z ∷ filter p xs) (filter p xs)) x
in_kept p z x xs true is t rest (inl e) = here z x (filter p xs) e
in_kept p z x xs true is t rest (inr c) = later z x (filter p xs) (rest c)
in_kept p z x xs false is t rest (inl e) = absurd (let no : false ≡ true = sym is ∙ ap p e ∙ t in cc)
in_kept p z x xs false is t rest (inr c) = rest c

pub in_filter : (p : ℕ → Bool) (xs : List ℕ) (x : ℕ) → Contains xs x → p x ≡ true → Contains (filter p xs) x
in_filter p [] x c t = absurd (nothing x c)
in_filter p (z ∷ xs) x c t = in_kept p z x xs (p z) refl t (λ d. in_filter p xs x d t) (first_or_later z x xs c)

pub of_option : (o : Option ℕ) (g : ℕ) → Contains (option_to_list o) g → o ≡ Some g
of_option None g c = absurd (nothing g c)
of_option (Some x) g c = elim (first_or_later x g [] c) [
  | inl e ↦ ap (λ k. Some k) e
  | inr d ↦ absurd (nothing g d)
]

in_option : (o : Option ℕ) (g : ℕ) → o ≡ Some g → Contains (option_to_list o) g
in_option None g e = absurd (cc)
in_option (Some x) g e = here x g [] (same_Some x g e)

-- ---- what several rows have

-- what two rows have is of different names
abbrev pub AreApart : List Row → (ℕ → Option (List ℕ)) → ℕ → ℕ → Type 0
AreApart rows f k j = (one other : List ℕ) (a b : ℕ) → f k ≡ Some one → f j ≡ Some other → Contains one a → Contains other b → argument_at rows a ≡ argument_at rows b → ⊥

-- and so is what any two of these have
abbrev pub AreSeparate : List Row → (ℕ → Option (List ℕ)) → List ℕ → Type 0
AreSeparate rows f [] = Unit {0}
AreSeparate rows f (k ∷ ks) = ((j : ℕ) → Contains ks j → AreApart rows f k j) × AreSeparate rows f ks

pub separate : (rows : List Row) (f : ℕ → Option (List ℕ)) (n : ℕ) (ks : List ℕ) → Ascend n ks → ((k j : ℕ) → Contains ks k → Contains ks j → k < j → AreApart rows f k j) → AreSeparate rows f ks
separate rows f n [] are apart = tt
separate rows f n (k ∷ ks) are apart = (
  λ j c. apart k j (here k k ks refl) (later k j ks c) (let at = ascend_each (suc k) ks j are.1 c in omega (arith, at)),
  separate rows f (suc k) ks are.1 (λ i j c d lt. apart i j (later k i ks c) (later k j ks d) lt),
)

pub separate_one : (rows : List Row) (f : ℕ → Option (List ℕ)) (o : Option ℕ) → AreSeparate rows f (option_to_list o)
separate_one rows f None = tt
separate_one rows f (Some g) = ((λ j c. absurd (nothing j c)), tt)

-- what one of these rows has
pub record IsOf (f : ℕ → Option (List ℕ)) (ks : List ℕ) (n : ℕ) : Type 0 where
  pub row : ℕ
  pub nodes : List ℕ
  pub among : Contains ks row
  pub known : f row ≡ Some nodes
  pub there : Contains nodes n

pub of_concat : (f : ℕ → Option (List ℕ)) (ks : List ℕ) (known : List (List ℕ)) (n : ℕ) → all_there (map f ks) ≡ Some known → Contains (concat known) n → IsOf f ks n
of_concat f [] known n e c =
    let none : known ≡ [] = cc in
    absurd (nothing n (subst (λ (l : List (List ℕ)). Contains (concat l) n) none c))
of_concat f (k ∷ ks) known n e c =
    let s = split f k ks known e in
    let d : Contains (s.first ++ concat s.others) n = subst (λ (l : List (List ℕ)). Contains (concat l) n) s.known_is c in
    elim (Contains-append_cases s.first (concat s.others) n d) [
      | inl i ↦ record { row = k; nodes = s.first; among = here k k ks refl; known = s.first_is; there = i }
      | inr i ↦ let r = of_concat f ks s.others n s.others_are i in record { row = r.row; nodes = r.nodes; among = later k r.row ks r.among; known = r.known; there = r.there }
    ]

pub in_concat : (f : ℕ → Option (List ℕ)) (ks : List ℕ) (known : List (List ℕ)) (k n : ℕ) (nodes : List ℕ) → all_there (map f ks) ≡ Some known → Contains ks k → f k ≡ Some nodes → Contains nodes n → Contains (concat known) n
in_concat f [] known k n nodes e c is d = absurd (nothing k c)
in_concat f (j ∷ ks) known k n nodes e c is d =
    let s = split f j ks known e in
    let whole : Contains (s.first ++ concat s.others) n = elim (first_or_later j k ks c) [
      | inl same ↦ Contains-append_left s.first (concat s.others) n (subst (λ (l : List ℕ). Contains l n) (same_Some nodes s.first (sym is ∙ ap f (sym same) ∙ s.first_is)) d)
      | inr more ↦ Contains-append_right s.first (concat s.others) n (in_concat f ks s.others k n nodes s.others_are more is d)
    ] in
    subst (λ (l : List (List ℕ)). Contains (concat l) n) (sym s.known_is) whole

pub concat_once : (rows : List Row) (f : ℕ → Option (List ℕ)) → ((k : ℕ) (nodes : List ℕ) → f k ≡ Some nodes → IsOnce (map (argument_at rows) nodes))
    → (ks : List ℕ) (known : List (List ℕ)) → AreSeparate rows f ks → all_there (map f ks) ≡ Some known → IsOnce (map (argument_at rows) (concat known))
concat_once rows f once [] known sep e =
    let none : known ≡ [] = cc in
    subst (λ (l : List (List ℕ)). IsOnce (map (argument_at rows) (concat l))) (sym none) tt
concat_once rows f once (k ∷ ks) known sep e =
    let s = split f k ks known e in
    let both = once_both (map (argument_at rows) s.first) (map (argument_at rows) (concat s.others)) (once k s.first s.first_is) (concat_once rows f once ks s.others sep.1 s.others_are)
    (λ w c d. (
    let a = of_map (argument_at rows) s.first w c in
    let b = of_map (argument_at rows) (concat s.others) w d in
    let r = of_concat f ks s.others b.0 s.others_are b.1 in
    sep.0 r.row r.among s.first r.nodes a.0 b.0 s.first_is r.known a.1 r.there (a.2 ∙ sym b.2)
    )) in
    subst (λ (l : List (List ℕ)). IsOnce (map (argument_at rows) (concat l))) (sym s.known_is)
    (subst (λ (l : List (List ℕ)). IsOnce l) (sym (map-append (argument_at rows) s.first (concat s.others))) both)

-- the list that is taken
pub few : (limit : ℕ) (nodes all : List ℕ) (b : Bool) → cond b (Some nodes) None ≡ Some all → all ≡ nodes
few limit nodes all true e = cc
few limit nodes all false e = absurd (cc)

is_within : (m n : ℕ) → m ≤ n → nat_le m n ≡ true
is_within m n le = grind (arith, nat_tests)

pub gathered_few : (limit : ℕ) (known : List (List ℕ)) → length (concat known) ≤ limit → gathered limit (Some known) ≡ Some (concat known)
gathered_few limit known le = ap (λ b. cond b (Some (concat known)) None) (is_within (length (concat known)) limit le)

-- ---- what is taken

taken_now : (p a b : Bool) → p ≡ true → a ≡ true → ((p && a) || b) ≡ true
taken_now p a b is also = rw (is, also) refl

taken_before : (a b : Bool) → b ≡ true → (a || b) ≡ true
taken_before true b e = refl
taken_before false b e = e

pub same_holder : (h : ℕ) → same_parent (Some h) (Some h) ≡ true
same_holder h = grind (arith, common_steps)

below_or_at : (k n : ℕ) → k < suc n → (k < n) ⊎ (k ≡ n)
below_or_at k n lt = grind (arith, nat_tests)

module _ (rows : List Row) (bringer : ℕ → Option (List ℕ)) (h : ℕ) where
  -- what an earlier row brings is taken
  taken : (k at : ℕ) (name : List ℕ) → k < at → holder_of rows k ≡ Some h → has_name (names_from rows (bringer k)) name ≡ true → is_taken bringer rows h at name ≡ true
  unfolding is_taken
  taken k zero name lt held has = absurd (omega (arith, lt))
  taken k (suc at) name lt held has = by (taken k at name) (below_or_at k at lt)
    where
      by : (k < at → holder_of rows k ≡ Some h → has_name (names_from rows (bringer k)) name ≡ true → is_taken bringer rows h at name ≡ true) → (k < at) ⊎ (k ≡ at)
          → ((same_parent (holder_of rows at) (Some h) && has_name (names_from rows (bringer at)) name) || is_taken bringer rows h at name) ≡ true
      by rest (inl before) = taken_before (same_parent (holder_of rows at) (Some h) && has_name (names_from rows (bringer at)) name) (is_taken bringer rows h at name) (rest before held has)
      by rest (inr same) =
          let first : same_parent (holder_of rows at) (Some h) ≡ true = ap (λ (j : ℕ). same_parent (holder_of rows j) (Some h)) (sym same) ∙ ap (λ (p : Option ℕ). same_parent p (Some h)) held ∙ same_holder h in
          let second : has_name (names_from rows (bringer at)) name ≡ true = ap (λ (j : ℕ). has_name (names_from rows (bringer j)) name) (sym same) ∙ has in
          taken_now (same_parent (holder_of rows at) (Some h)) (has_name (names_from rows (bringer at)) name) (is_taken bringer rows h at name) first second

-- ---- rows in order

-- each row stands in an earlier one, and no node, uses, choice or case outermost; each uses has a grouping, and no row leads to itself; and no row claims
-- a name where it stands that an earlier one claims there
pub record AreOrderly (rows : List Row) (groupings : List (Option ℕ)) : Type 0 where
  pub before : StandBefore rows
  pub outer : (i : ℕ) → is_part_at rows i ≡ true → around rows i ≡ None → ⊥
  pub used : (i : ℕ) (r : Row) → slice_get rows i ≡ Some r → is_uses r.word ≡ true → is_some (grouping_at groupings i) ≡ true
  pub named : (i g : ℕ) (r : Row) → slice_get rows i ≡ Some r → is_uses r.word ≡ true → grouping_at groupings i ≡ Some g → (s : Row) × (slice_get rows g ≡ Some s) × (s.word ≡ word.Grouping)
  pub acyclic : (i : ℕ) → LeadsBy (bringing rows groupings) i i → ⊥
  pub free : (at h : ℕ) → holder_of rows at ≡ Some h → find (is_taken (claimed rows groupings) rows h at) (names_from rows (claimed rows groupings at)) ≡ None

-- a node, uses, choice, case or grouping
pub record IsClaimer (rows : List Row) (i : ℕ) : Type 0 where
  pub row : Row
  pub there : slice_get rows i ≡ Some row
  pub sort : (is_part row.word ≡ true) ⊎ (row.word ≡ word.Grouping)

some_row : (rows : List Row) (i : ℕ) (o : Option Row) → slice_get rows i ≡ o → is_part_row o ≡ true → IsClaimer rows i
some_row rows i None is e = absurd (cc)
some_row rows i (Some r) is e = record { row = r; there = is; sort = inl e }

pub part_claimer : (rows : List Row) (i : ℕ) → is_part_at rows i ≡ true → IsClaimer rows i
unfolding is_part_at
part_claimer rows i e = some_row rows i (slice_get rows i) refl e

-- what is no node and no uses is a case or a grouping
left_word : (w : Word) → is_node w ≡ false → is_uses w ≡ false → (is_part w ≡ true) ⊎ (w ≡ word.Grouping) → (w ≡ word.Case) ⊎ (w ≡ word.Grouping)
left_word word.Case n u s = inl refl
left_word word.Grouping n u s = inr refl
left_word word.Uses n u s = absurd (cc)
left_word word.Choice n u s = absurd (cc)
left_word w n u (inr e) = inr e
left_word word.Container n u (inl e) = absurd (cc)
left_word word.Leaf n u (inl e) = absurd (cc)
left_word word.LeafList n u (inl e) = absurd (cc)
left_word word.List n u (inl e) = absurd (cc)
left_word _ n u (inl e) = absurd (cc)

pub uses_word : (w : Word) → is_uses w ≡ true → w ≡ word.Uses
uses_word word.Uses e = refl
uses_word _ e = absurd (cc)

fork_holder : (w : Word) → is_fork w ≡ true → (is_holder w ≡ true) × (is_data w ≡ false)
fork_holder word.Choice e = (refl, refl)
fork_holder word.Case e = (refl, refl)
fork_holder _ e = absurd (cc)

in_those : (n : ℕ) (parent : Option ℕ) (rest : List Row) (j : ℕ) (r : Row) → slice_get rest j ≡ Some r → same_parent r.parent parent ≡ true → Contains (those_in n parent rest) (n + j)
unfolding those_in
in_those n parent [] j r is e = absurd (cc)
in_those n parent (s ∷ rest) zero r is e =
    let same : s ≡ r = cc in
    let first : same_parent s.parent parent ≡ true = ap (λ (x : Row). same_parent x.parent parent) same ∙ e in
    subst (λ (b : Bool). Contains (cond b (n ∷ those_in (suc n) parent rest) (those_in (suc n) parent rest)) (n + 0)) (sym first) (here n (n + 0) (those_in (suc n) parent rest) (omega arith))
in_those n parent (s ∷ rest) (suc j) r is e =
    let at : suc n + j ≡ n + suc j = omega arith in
    by (same_parent s.parent parent) (subst (λ k. Contains (those_in (suc n) parent rest) k) at (in_those (suc n) parent rest j r is e))
  where
    by : (b : Bool) → Contains (those_in (suc n) parent rest) (n + suc j) → Contains (cond b (n ∷ those_in (suc n) parent rest) (those_in (suc n) parent rest)) (n + suc j)
    by true c = later n (n + suc j) (those_in (suc n) parent rest) c
    by false c = c

-- a row stands directly in the row that is around it
pub in_children : (rows : List Row) (i k : ℕ) (o : Option Row) → slice_get rows k ≡ o → around_in o ≡ Some i → Contains (children rows i) k
in_children rows i k None is e = absurd (cc)
in_children rows i k (Some r) is e =
    let at : 0 + k ≡ k = omega arith in
    subst (λ j. Contains (children rows i) j) at (in_those 0 (Some i) rows k r is (ap (λ (p : Option ℕ). same_parent p (Some i)) e ∙ same_holder i))

module _ (rows : List Row) (groupings : List (Option ℕ)) where
  in_bringing : (i k : ℕ) (r : Row) → slice_get rows i ≡ Some r → is_holder r.word ≡ true → is_data r.word ≡ false → is_part_at rows k ≡ true → around rows k ≡ Some i → Contains (bringing rows groupings i) k
  unfolding bringing holding
  in_bringing i k r is holder data_not part in_i =
      let c : Contains (filter (is_part_at rows) (children rows i)) k = in_filter (is_part_at rows) (children rows i) k (in_children rows i k (slice_get rows k) refl in_i) part in
      rw (is, data_not, holder) c

  in_used : (i g : ℕ) (r : Row) → slice_get rows i ≡ Some r → is_uses r.word ≡ true → is_holder r.word ≡ false → is_data r.word ≡ false → grouping_at groupings i ≡ Some g → Contains (bringing rows groupings i) g
  unfolding bringing holding
  in_used i g r is uses holder data_not e = let c = in_option (grouping_at groupings i) g e in rw (is, data_not, holder, uses) c

  abbrev Leads : ℕ → ℕ → Type 0
  Leads i k = LeadsBy (bringing rows groupings) i k

  leads_on : (i k j : ℕ) → Leads i k → Contains (bringing rows groupings k) j → Leads i j
  leads_on i k j (one c) e = further k c (one e)
  leads_on i k j (further m c l) e = further m c (leads_on m k j l e)

  leads_join : (i k j : ℕ) → Leads i k → Leads k j → Leads i j
  leads_join i k j (one c) m = further k c m
  leads_join i k j (further o c l) m = further o c (leads_join o k j l m)

  abbrev pub claims : ℕ → ℕ → Option (List ℕ)
  claims steps i = worth_within (strict (claim_step rows groupings)) (claiming rows groupings) steps i

  more : (steps i : ℕ) (nodes : List ℕ) → claims steps i ≡ Some nodes → claims (suc steps) i ≡ Some nodes
  more steps i nodes e =
      let u = unfold_within (claim_step rows groupings) (claiming rows groupings) steps i nodes e in
      ap (λ (known : Option (List (List ℕ))). option_and_then (claim_step rows groupings i) known) u.there ∙ u.made

  much_more : (d steps i : ℕ) (nodes : List ℕ) → claims steps i ≡ Some nodes → claims (d + steps) i ≡ Some nodes
  much_more zero steps i nodes e =
      let at : 0 + steps ≡ steps = omega arith in
      ap (λ (n : ℕ). claims n i) at ∙ e
  much_more (suc d) steps i nodes e =
      let at : suc d + steps ≡ suc (d + steps) = omega arith in
      ap (λ (n : ℕ). claims n i) at ∙ more (d + steps) i nodes (much_more d steps i nodes e)

  reaches : (steps i : ℕ) (nodes : List ℕ) → steps ≤ length rows → claims steps i ≡ Some nodes → claimed rows groupings i ≡ Some nodes
  unfolding claimed worth_of
  reaches steps i nodes le e =
      let d : ℕ = length rows - steps in
      let at : d + steps ≡ length rows = omega (arith, le) in
      ap (λ n. claims n i) (sym at) ∙ much_more d steps i nodes e

  -- names that come once, of rows
  abbrev IsFine : List ℕ → Type 0
  IsFine nodes = IsOnce (map (argument_at rows) nodes) × ((n : ℕ) → Contains nodes n → n < length rows)

  fine_few : (nodes : List ℕ) → IsFine nodes → length nodes ≤ length rows
  fine_few nodes fine = few_distinct nodes (length rows) (distinct (argument_at rows) nodes fine.0) fine.1

  concat_fine : (f : ℕ → Option (List ℕ)) → ((k : ℕ) (nodes : List ℕ) → f k ≡ Some nodes → IsFine nodes) → (ks : List ℕ) (known : List (List ℕ)) → AreSeparate rows f ks → all_there (map f ks) ≡ Some known → IsFine (concat known)
  concat_fine f each ks known sep e = (
    concat_once rows f (λ k nodes is. (each k nodes is).0) ks known sep e,
    λ n c. (let r = of_concat f ks known n e c in (each r.row r.nodes r.known).1 n r.there),
  )

  fine_one : (i : ℕ) → i < length rows → IsFine (i ∷ [])
  fine_one i lt = (
    ((λ c. nothing (argument_at rows i) c), tt),
    λ n c. elim (first_or_later i n [] c) [
      | inl e ↦ subst (λ (x : ℕ). x < length rows) e lt
      | inr d ↦ absurd (nothing n d)
    ],
  )

  claim_fine : (i : ℕ) (known : List (List ℕ)) (nodes : List ℕ) (o : Option Row) → slice_get rows i ≡ o → IsFine (concat known) → claim rows groupings i o known ≡ Some nodes → IsFine nodes
  claim_fine i known nodes None is fine e = absurd (cc)
  claim_fine i known nodes (Some r) is fine e = by (is_node r.word) (is_astray groupings i r) e
    where
      by : (d a : Bool) → cond d (Some (i ∷ [])) (cond a None (gathered (length rows) (Some known))) ≡ Some nodes → IsFine nodes
      by true a f = let same : nodes ≡ i ∷ [] = cc in subst (λ (l : List ℕ). IsFine l) (sym same) (fine_one i (within rows i r is))
      by false true f = absurd (cc)
      by false false f =
          let same = few (length rows) (concat known) nodes (nat_le (length (concat known)) (length rows)) f in
          subst (λ (l : List ℕ). IsFine l) (sym same) fine

  module _ (are : AreOrderly rows groupings) where
    -- two rows that stand in one claim no name both
    claims_apart : (f : ℕ → Option (List ℕ)) → ((k : ℕ) (nodes : List ℕ) → f k ≡ Some nodes → claimed rows groupings k ≡ Some nodes) → (h k j : ℕ) → k < j → holder_of rows k ≡ Some h → holder_of rows j ≡ Some h → AreApart rows f k j
    claims_apart f known h k j lt held_k held_j these those a b is_k is_j c d same =
        let g = claimed rows groupings in
        let name = argument_at rows b in
        let first : g k ≡ Some these = known k these is_k in
        let second : g j ≡ Some those = known j those is_j in
        let none : find (is_taken g rows h j) (map (argument_at rows) those) ≡ None = sym (ap (λ (o : Option (List ℕ)). find (is_taken g rows h j) (names_from rows o)) second) ∙ are.free j h held_j in
        let free = finds_none (is_taken g rows h j) (map (argument_at rows) those) name none (in_map (argument_at rows) those b d) in
        let there : Contains (map (argument_at rows) these) name = subst (λ (w : List ℕ). Contains (map (argument_at rows) these) w) same (in_map (argument_at rows) these a c) in
        let has : has_name (names_from rows (g k)) name ≡ true = ap (λ (o : Option (List ℕ)). has_name (names_from rows o) name) first ∙ has_named (map (argument_at rows) these) name there in
        let full = taken rows g h k j name lt held_k has in
        cc

    holds_it : (h k : ℕ) → is_held rows h k ≡ true → holder_of rows k ≡ Some h
    unfolding is_held
    holds_it h k e = parent_is (holder_of rows k) h e

    it_holds : (h k : ℕ) → holder_of rows k ≡ Some h → is_held rows h k ≡ true
    unfolding is_held
    it_holds h k e = ap (λ (p : Option ℕ). same_parent p (Some h)) e ∙ same_holder h

    claiming_separate : (f : ℕ → Option (List ℕ)) → ((k : ℕ) (nodes : List ℕ) → f k ≡ Some nodes → claimed rows groupings k ≡ Some nodes) → (i : ℕ) → AreSeparate rows f (claiming rows groupings i)
    unfolding claiming
    claiming_separate f known i = by_row (slice_get rows i)
      where
        of_held : (k : ℕ) → Contains (filter (is_held rows i) (range_with_len 0 (length rows))) k → holder_of rows k ≡ Some i
        of_held k c = holds_it i k (of_filter (is_held rows i) (range_with_len 0 (length rows)) k c).1

        held_ones : AreSeparate rows f (filter (is_held rows i) (range_with_len 0 (length rows)))
        held_ones =
            separate rows f 0 (filter (is_held rows i) (range_with_len 0 (length rows))) (ascend_filter (is_held rows i) 0 (range_with_len 0 (length rows)) (ascend_range 0 (length rows)))
            (λ k j c d lt. claims_apart f known i k j lt (of_held k c) (of_held j d))

        by : (n u : Bool) → AreSeparate rows f (cond n [] (cond u (option_to_list (grouping_at groupings i)) (filter (is_held rows i) (range_with_len 0 (length rows)))))
        by true u = tt
        by false true = separate_one rows f (grouping_at groupings i)
        by false false = held_ones

        by_row : (o : Option Row) → AreSeparate rows f (claiming_in rows groupings i o)
        by_row None = tt
        by_row (Some r) = by (is_node r.word) (is_uses r.word)

    -- what is claimed has no name twice
    claims_fine : (steps i : ℕ) (nodes : List ℕ) → steps ≤ length rows → claims steps i ≡ Some nodes → IsFine nodes
    unfolding claim_step
    claims_fine zero i nodes le e = absurd (cc)
    claims_fine (suc steps) i nodes le e =
        let u = unfold_one (claim_step rows groupings) (claiming rows groupings) steps i nodes e in
        let fewer : steps ≤ length rows = omega (arith, le) in
        let fine = concat_fine (claims steps) (λ k some is. claims_fine steps k some fewer is) (claiming rows groupings i) u.known (claiming_separate (claims steps) (λ k some is. reaches steps k some fewer is) i) u.there in
        claim_fine i u.known nodes (slice_get rows i) refl fine u.made

    -- ---- each uses, grouping, choice and case claims something, as none leads to itself

    fork_row : (p : ℕ) (o : Option Row) → slice_get rows p ≡ o → is_fork_row o ≡ true → (r : Row) × (slice_get rows p ≡ Some r) × (is_holder r.word ≡ true) × (is_data r.word ≡ false)
    fork_row p None is e = absurd (cc)
    fork_row p (Some r) is e = (r, is, (fork_holder r.word e).0, (fork_holder r.word e).1)

    fork_there : (p : ℕ) → is_fork_at rows p ≡ true → (r : Row) × (slice_get rows p ≡ Some r) × (is_holder r.word ≡ true) × (is_data r.word ≡ false)
    unfolding is_fork_at
    fork_there p e = fork_row p (slice_get rows p) refl e

    -- a grouping leads to what it holds
    leads_held : (n k h : ℕ) (r : Row) → k < n → slice_get rows h ≡ Some r → r.word ≡ word.Grouping → holder_of rows k ≡ Some h → Leads h k
    leads_held zero k h r lt is w e = absurd (omega (arith, lt))
    leads_held (suc n) k h r lt is w e = by (around rows k) refl (λ p less. leads_held n p h r less is w)
      where
        part : is_part_at rows k ≡ true
        part = (held_part rows k h e).0

        within_fork : (p : ℕ) (b : Bool) → around rows k ≡ Some p → is_fork_at rows p ≡ b → (holder_of rows p ≡ Some h → Leads h p) → Leads h k
        within_fork p false in_p plain rest =
            let same : p ≡ h = same_Some p h (sym (held_directly rows are.before k p part in_p plain) ∙ e) in
            one (in_bringing h k r is (ap is_holder w) (ap is_data w) part (in_p ∙ ap (λ x. Some x) same))
        within_fork p true in_p fork rest =
            let g = held rows are.before are.outer p (fork_part rows p fork) in
            let same : g.0 ≡ h = same_Some g.0 h (sym (held_inner rows are.before k p g.0 part in_p fork g.1) ∙ e) in
            let f = fork_there p fork in
            leads_on h p k (rest (g.1 ∙ ap (λ x. Some x) same)) (in_bringing p k f.0 f.1 f.2 f.3 part in_p)

        by : (o : Option ℕ) → around rows k ≡ o → ((p : ℕ) → p < n → holder_of rows p ≡ Some h → Leads h p) → Leads h k
        by None f rest = absurd (let no : None ≡ Some h = sym (ap (beyond k rows) f) ∙ (held_part rows k h e).1 in cc)
        by (Some p) f rest = within_fork p (is_fork_at rows p) f refl (rest p (let low = are.before k p f in omega (arith, low, lt)))

    case_fork : (i : ℕ) (r : Row) → slice_get rows i ≡ Some r → r.word ≡ word.Case → is_fork_at rows i ≡ true
    unfolding is_fork_at
    case_fork i r is w = ap is_fork_row is ∙ ap is_fork w

    -- what a row's claims rest on claims something too, and the row leads to it
    claiming_step : (i : ℕ) → IsClaimer rows i → (k : ℕ) → Contains (claiming rows groupings i) k → IsClaimer rows k × Leads i k
    unfolding claiming
    claiming_step i c k d = by (is_node c.row.word) (is_uses c.row.word) refl refl (subst (λ (o : Option Row). Contains (claiming_in rows groupings i o) k) c.there d)
      where
        of_held : Contains (filter (is_held rows i) (range_with_len 0 (length rows))) k → holder_of rows k ≡ Some i
        of_held e = holds_it i k (of_filter (is_held rows i) (range_with_len 0 (length rows)) k e).1

        left : (c.row.word ≡ word.Case) ⊎ (c.row.word ≡ word.Grouping) → holder_of rows k ≡ Some i → IsClaimer rows k × Leads i k
        left (inl w) e = absurd (let no : true ≡ false = sym (case_fork i c.row c.there w) ∙ held_plain rows k i e in cc)
        left (inr w) e = (part_claimer rows k (held_part rows k i e).0, leads_held (suc k) k i c.row (omega arith) c.there w e)

        by : (n u : Bool) → is_node c.row.word ≡ n → is_uses c.row.word ≡ u → Contains (cond n [] (cond u (option_to_list (grouping_at groupings i)) (filter (is_held rows i) (range_with_len 0 (length rows))))) k → IsClaimer rows k × Leads i k
        by true u node uses e = absurd (nothing k e)
        by false true node uses e =
            let is = of_option (grouping_at groupings i) k e in
            let w = uses_word c.row.word uses in
            let g = are.named i k c.row c.there uses is in
            (record { row = g.0; there = g.1; sort = inr g.2 }, one (in_used i k c.row c.there uses (ap is_holder w) (ap is_data w) is))
        by false false node uses e = left (left_word c.row.word node uses c.sort) (of_held e)

    not_astray : (i : ℕ) (c : IsClaimer rows i) → is_astray groupings i c.row ≡ false
    not_astray i c = by (is_uses c.row.word) refl
      where
        by : (b : Bool) → is_uses c.row.word ≡ b → (b && not (is_some (grouping_at groupings i))) ≡ false
        by true u = ap not (are.used i c.row c.there u)
        by false u = refl

    claim_some : (i : ℕ) (c : IsClaimer rows i) (known : List (List ℕ)) → length (concat known) ≤ length rows → (nodes : List ℕ) × (claim_step rows groupings i known ≡ Some nodes)
    unfolding claim_step
    claim_some i c known le = by (is_node c.row.word) refl
      where
        by : (b : Bool) → is_node c.row.word ≡ b → (nodes : List ℕ) × (claim rows groupings i (slice_get rows i) known ≡ Some nodes)
        by true node = (i ∷ [], rw (c.there, node) refl)
        by false node = (concat known, rw (c.there, node, not_astray i c) (gathered_few (length rows) known le))

    all_claiming : (i j : ℕ) → IsClaimer rows i → LeadsBy (claiming rows groupings) i j → Leads i j
    all_claiming i j c (one d) = (claiming_step i c j d).1
    all_claiming i j c (further k d l) = let s = claiming_step i c k d in leads_join i k j s.1 (all_claiming k j s.0 l)

    founded : IsFounded claims (claiming rows groupings) (length rows) (IsClaimer rows)
    founded = record {
      on = λ i k c d. (claiming_step i c k d).0;
      within = λ i c. within rows i c.row c.there;
      acyclic = λ i c l. are.acyclic i (all_claiming i i c l);
      makes = λ steps i known less c e. (
          let le : steps ≤ length rows = omega (arith, less) in
          let fine = concat_fine (claims steps) (λ k some is. claims_fine steps k some le is) (claiming rows groupings i) known (claiming_separate (claims steps) (λ k some is. reaches steps k some le is) i) e in
          let made = claim_some i c known (fine_few (concat known) fine) in
          (made.0, ap (λ (o : Option (List (List ℕ))). option_and_then (claim_step rows groupings i) o) e ∙ made.1)
          );
    }

    claimed_known : (i : ℕ) → IsClaimer rows i → (nodes : List ℕ) × (claimed rows groupings i ≡ Some nodes)
    claimed_known i c = let k = is_known claims (claiming rows groupings) (length rows) (IsClaimer rows) founded i c in (k.0, reaches (length rows) i k.0 (omega arith) k.1)

    -- ---- names that are claimed

    -- row i claims a name
    pub record Claims (i : ℕ) (name : List ℕ) : Type 0 where
      pub nodes : List ℕ
      pub known : claimed rows groupings i ≡ Some nodes
      pub row : ℕ
      pub among : Contains nodes row
      pub named : argument_at rows row ≡ name

    claim_all : (i : ℕ) (c : IsClaimer rows i) (known : List (List ℕ)) (nodes : List ℕ) → is_node c.row.word ≡ false → claim_step rows groupings i known ≡ Some nodes → nodes ≡ concat known
    unfolding claim_step
    claim_all i c known nodes node e =
        let f : gathered (length rows) (Some known) ≡ Some nodes = sym (rw (c.there, node, not_astray i c) refl) ∙ e in
        few (length rows) (concat known) nodes (nat_le (length (concat known)) (length rows)) f

    claim_itself : (i : ℕ) (c : IsClaimer rows i) (known : List (List ℕ)) (nodes : List ℕ) → is_node c.row.word ≡ true → claim_step rows groupings i known ≡ Some nodes → nodes ≡ i ∷ []
    unfolding claim_step
    claim_itself i c known nodes node e =
        let f : Some (i ∷ []) ≡ Some nodes = sym (rw (c.there, node) refl) ∙ e in
        sym (same_Some (i ∷ []) nodes f)

    -- a row claims what those claim that its claims rest on
    pub claims_up : (i k : ℕ) (c : IsClaimer rows i) (name : List ℕ) → is_node c.row.word ≡ false → Contains (claiming rows groupings i) k → Claims k name → Claims i name
    unfolding claimed worth_of
    claims_up i k c name node d below =
        let mine = claimed_known i c in
        let u = unfold_within (claim_step rows groupings) (claiming rows groupings) (length rows) i mine.0 mine.1 in
        let all = claim_all i c u.known mine.0 node u.made in
        let there = in_concat (claims (length rows)) (claiming rows groupings i) u.known k below.row below.nodes u.there d below.known below.among in
        record { nodes = mine.0; known = mine.1; row = below.row; among = subst (λ (l : List ℕ). Contains l below.row) (sym all) there; named = below.named }

    -- a node and a choice claim their own
    pub claims_own : (i : ℕ) (c : IsClaimer rows i) → is_node c.row.word ≡ true → Claims i (argument_at rows i)
    unfolding claimed worth_of
    claims_own i c node =
        let mine = claimed_known i c in
        let u = unfold_within (claim_step rows groupings) (claiming rows groupings) (length rows) i mine.0 mine.1 in
        let alone = claim_itself i c u.known mine.0 node u.made in
        record { nodes = mine.0; known = mine.1; row = i; among = subst (λ (l : List ℕ). Contains l i) (sym alone) (here i i [] refl); named = refl }

    -- a grouping rests on what it holds
    pub rests_on_held : (i k : ℕ) (c : IsClaimer rows i) → is_node c.row.word ≡ false → is_uses c.row.word ≡ false → holder_of rows k ≡ Some i → Contains (claiming rows groupings i) k
    unfolding claiming
    rests_on_held i k c node uses e =
        let p = part_claimer rows k (held_part rows k i e).0 in
        let lt = within rows k p.row p.there in
        let d : Contains (filter (is_held rows i) (range_with_len 0 (length rows))) k = in_filter (is_held rows i) (range_with_len 0 (length rows)) k (in_range (length rows) k lt) (it_holds i k e) in
        rw (c.there, node, uses) d

    -- and a uses on its grouping
    pub rests_on_used : (i g : ℕ) (c : IsClaimer rows i) → is_uses c.row.word ≡ true → grouping_at groupings i ≡ Some g → Contains (claiming rows groupings i) g
    unfolding claiming
    rests_on_used i g c uses e =
        let d = in_option (grouping_at groupings i) g e in
        let w = uses_word c.row.word uses in
        rw (c.there, ap is_node w, uses) d

    differ : (h k j a b : ℕ) → k < j → holder_of rows k ≡ Some h → holder_of rows j ≡ Some h → Claims k (argument_at rows a) → Claims j (argument_at rows b) → argument_at rows a ≡ argument_at rows b → ⊥
    differ h k j a b lt held_k held_j c d same =
        claims_apart (claimed rows groupings) (λ i nodes is. is) h k j lt held_k held_j c.nodes d.nodes c.row d.row c.known d.known c.among d.among (c.named ∙ same ∙ sym d.named)

    -- of the rows that stand in one, one claims a name
    pub one_claims : (h k j a b : ℕ) → holder_of rows k ≡ Some h → holder_of rows j ≡ Some h → Claims k (argument_at rows a) → Claims j (argument_at rows b) → argument_at rows a ≡ argument_at rows b → k ≡ j
    one_claims h k j a b held_k held_j c d same = by (cases_lt k j) (cases_lt j k)
      where
        by : (k < j) ⊎ (j ≤ k) → (j < k) ⊎ (k ≤ j) → k ≡ j
        by (inl lt) s = absurd (differ h k j a b lt held_k held_j c d same)
        by (inr le) (inl lt) = absurd (differ h j k b a lt held_j held_k d c (sym same))
        by (inr le) (inr ge) = omega (arith, le, ge)
