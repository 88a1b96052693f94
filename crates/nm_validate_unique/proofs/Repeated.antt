-- Entries whose values were seen before are those that repeat the values of an entry before them.
use Rattle.std.proofs.Common.{◌≡◌, ◌⊎◌, ℕ, zero, suc, ◌+◌, ◌-◌, ◌<◌, List, [], ◌∷◌, ◌++◌, map, length, Bool, true, false, cond, ◌&&◌, Option, Some, None, is_some, option_map, if◌then◌else◌, slice_get, refl, sym, ap, ◌∙◌, subst, inl, inr, append_assoc, arith}
use lib.Dec.{T}
use Rattle.std.specs.Prelude.{⊤, filter}
use Rattle.std.specs.List.{list_any, flat_map, range_with_len}
use Rattle.std.specs.Ordering.{is_lt, eq_by_cmp, ordering_reverse}
use Rattle.std.specs.Cmp.Lexicographic.{slice_cmp}
use Rattle.std.specs.FinMap.{get, empty, contains_key, keys, entries, entries_sorted, get-empty, get-insert}
use Rattle.std.specs.FinMap.Entries.{is_sorted, below_all}
use Rattle.std.specs.declared.cmp.Ordering.{Ordering}
use Rattle.std.specs.declared.cmp.Ordering.TheVariants.{Less, Equal, Greater}
use Rattle.std.proofs.lemmas.Cmp.{tied_itself}
use Rattle.nm_types.specs.declared.value.Value.{Value}
use Rattle.nm_types.specs.declared.value.Value.TheVariants.{Present}
use Rattle.nm_types.specs.Value.{value_cmp}
use Rattle.nm_types.specs.Path.{PathStep, whole, keys as by_keys, choice_values, path_cmp}
use Rattle.nm_types.specs.PathLaws.{paths_total, paths_equiv, same_path_decides, same_choice_decides}
use Rattle.nm_schema_tree.specs.Nodes.{SchemaTree, uniques_at}
use Rattle.nm_path.specs.Spelling.{node_of}
use Rattle.nm_config.specs.Rows.{Rows}
use Rattle.nm_validate_rules.specs.declared.rule.Rule.TheVariants.{Unique}
use Rattle.nm_validate_rules.specs.Cases.{bare, numbers}
use Rattle.nm_validate_rules.specs.Guards.{front, is_node, leads_to}
use Rattle.nm_validate_rules.specs.Values.{unique_values, are_values, as_list, is_same_path, is_before, is_repeated}
use Rattle.nm_validate_rules.specs.Violated.{uniques_of_node, violated}
use Rattle.nm_validate_rules.specs.Violation.{least_at}
use Rattle.nm_validate_rules.proofs.Among.{Among, any_passes, both, among_filter, filter_passes, among_left, among_right, among_flat, among_numbers}
use Rattle.nm_validate_rules.proofs.Leading.{node_is, itself, node_last, by_last, bare_is}
use Rattle.nm_validate_rules.proofs.Areas.{key_among, ends}
use Rattle.nm_validate_rules.proofs.Placed.{any_at, key_there, both_true}
use Rattle.nm_validate_places.specs.Groups.{Group, paths_in, in_group, one_if, AreOf}
use Rattle.nm_validate_places.specs.Leafs.{step_of}
use Rattle.nm_validate_places.specs.Least.{least_with}
use Rattle.nm_validate_unique.specs.Repeated.{unique_path, key_of, is_seen, with_seen, repeated, repeated_at}
use Rattle.nm_validate_places.proofs.Choosing.{front_last, one_or, node_within}
use Rattle.nm_validate_places.proofs.Firsts.{first_of, second_of}
use Rattle.nm_validate_places.proofs.Gathered.{filter_among, flat_among, either, same_least}
use Rattle.nm_validate_places.proofs.Leasts.{least_append, least_is_found}

-- ---- paths that rise

abbrev AllAfter : List PathStep → List (List PathStep) → Type 0
AllAfter p qs = (q : List PathStep) → Among qs q → is_lt (path_cmp p q) ≡ true

abbrev Rises : List (List PathStep) → Type 0
Rises [] = ⊤
Rises (p ∷ ps) = AllAfter p ps × Rises ps

is_true : (b : Bool) → T b → b ≡ true
is_true true h = refl
is_true false h = absurd h

after_all : (p : List PathStep) (es : List (List PathStep × Value)) → T (below_all path_cmp p es) → AllAfter p (map (λ e. e.0) es)
after_all p [] h q a = absurd a
after_all p (e ∷ es) h q (inl same) = ap (λ r. is_lt (path_cmp p r)) same ∙ is_true (is_lt (path_cmp p e.0)) (first_of _ _ h)
after_all p (e ∷ es) h q (inr a) = after_all p es (second_of _ _ h) q a

rises_sorted : (es : List (List PathStep × Value)) → T (is_sorted path_cmp es) → Rises (map (λ e. e.0) es)
rises_sorted [] h = tt
rises_sorted (e ∷ es) h = (after_all e.0 es (first_of _ _ h), rises_sorted es (second_of _ _ h))

rises_kept : (b : Bool) (test : List PathStep → Bool) (p : List PathStep) (ps : List (List PathStep)) → AllAfter p ps → Rises (filter test ps) → Rises (cond b (p ∷ filter test ps) (filter test ps))
rises_kept true test p ps all h = ((λ q a. all q (filter_among test ps q a)), h)
rises_kept false test p ps all h = h

rises_filter : (test : List PathStep → Bool) (ps : List (List PathStep)) → Rises ps → Rises (filter test ps)
rises_filter test [] h = tt
rises_filter test (p ∷ ps) h = rises_kept (test p) test p ps h.0 (rises_filter test ps h.1)

rises_on : (ds ps : List (List PathStep)) (p : List PathStep) → Rises (ds ++ p ∷ ps) → AllAfter p ps
rises_on [] ps p h = h.0
rises_on (d ∷ ds) ps p h = rises_on ds ps p h.1

rises_to : (ds ps : List (List PathStep)) (p : List PathStep) → Rises (ds ++ p ∷ ps) → (q : List PathStep) → Among ds q → is_lt (path_cmp q p) ≡ true
rises_to [] ps p h q a = absurd a
rises_to (d ∷ ds) ps p h q (inl same) = ap (λ r. is_lt (path_cmp r p)) same ∙ h.0 p (among_right ds (p ∷ ps) p (inl refl))
rises_to (d ∷ ds) ps p h q (inr a) = rises_to ds ps p h.1 q a

turned : (r : Ordering) → is_lt r ≡ true → is_lt (ordering_reverse r) ≡ true → ⊥
turned Less e f = cc
turned Equal e f = cc
turned Greater e f = cc

not_itself : (p : List PathStep) → is_lt (path_cmp p p) ≡ true → ⊥
not_itself p e = let same : is_lt (path_cmp p p) ≡ false = ap is_lt (tied_itself paths_total p) in cc

not_both : (p q : List PathStep) → is_lt (path_cmp p q) ≡ true → is_lt (path_cmp q p) ≡ true → ⊥
not_both p q e f = turned (path_cmp p q) e (sym (ap is_lt (paths_total.antisymm q p)) ∙ f)

-- what stands before a path among paths that rise is among those before it
before_it : (ds ps : List (List PathStep)) (p q : List PathStep) → Rises (ds ++ p ∷ ps) → Among (ds ++ p ∷ ps) q → is_lt (path_cmp q p) ≡ true → Among ds q
before_it ds ps p q rises a lt = elim (either ds (p ∷ ps) q a) [
  | inl here ↦ here
  | inr more ↦ elim more [
    | inl same ↦ absurd (not_itself p (sym (ap (λ r. is_lt (path_cmp r p)) same) ∙ lt))
    | inr later ↦ absurd (not_both p q (rises_on ds ps p rises q later) lt)
  ]
]

-- ---- what was seen

-- an entry has a path for its values
record SeenBy (key : List PathStep → Option (List PathStep)) (ds : List (List PathStep)) (path : List PathStep) : Type 0 where
  entry : List PathStep
  among : Among ds entry
  is : key entry ≡ Some path

-- the paths that were seen are those of these entries
record Sees (key : List PathStep → Option (List PathStep)) (seen : Rows) (ds : List (List PathStep)) : Type 0 where
  to : (path : List PathStep) → contains_key seen path ≡ true → SeenBy key ds path
  from : (path entry : List PathStep) → Among ds entry → key entry ≡ Some path → contains_key seen path ≡ true

contrary : {A : Type 0} → true ≡ false → A
contrary e = absurd (cc)

sees_none : (key : List PathStep → Option (List PathStep)) → Sees key empty []
sees_none key = record { to = λ path e. contrary (sym e ∙ ap is_some (get-empty {X = Value} path_cmp path)); from = λ path entry a e. absurd a }

pub one_key : (path other : List PathStep) → eq_by_cmp path_cmp path other ≡ true → path ≡ other
one_key path other e = (same_path_decides path other (eq_by_cmp path_cmp path other) refl).0 e

inserted : (b : Bool) (v : Value) (o : Option Value) → is_some (cond b (Some v) o) ≡ true → (b ≡ true) ⊎ (is_some o ≡ true)
inserted true v o e = inl refl
inserted false v o e = inr e

kept_some : (b : Bool) (v : Value) (o : Option Value) → is_some o ≡ true → is_some (cond b (Some v) o) ≡ true
kept_some true v o e = refl
kept_some false v o e = e

module _ (key : List PathStep → Option (List PathStep)) (seen : Rows) (ds : List (List PathStep)) (p : List PathStep) (h : Sees key seen ds) where
  further : (path : List PathStep) → SeenBy key ds path → SeenBy key (ds ++ p ∷ []) path
  further path s = record { entry = s.entry; among = among_left ds (p ∷ []) s.entry s.among; is = s.is }

  key_none : (path entry : List PathStep) → key p ≡ None → entry ≡ p → key entry ≡ Some path → contains_key seen path ≡ true
  key_none path entry e same is = let one : ◌≡◌ {A = Option (List PathStep)} None (Some path) = sym e ∙ sym (ap key same) ∙ is in absurd (cc)

  here_by : (path entry k : List PathStep) → key p ≡ Some k → entry ≡ p → key entry ≡ Some path → is_some (cond (eq_by_cmp path_cmp path k) (Some Present) (get seen path)) ≡ true
  here_by path entry k e same is =
      let both_are : ◌≡◌ {A = Option (List PathStep)} (Some k) (Some path) = sym e ∙ sym (ap key same) ∙ is in
      let one : path ≡ k = cc in
      ap (λ b. is_some (cond b (Some Present) (get seen path))) (ap (λ q. eq_by_cmp path_cmp q k) one ∙ paths_equiv.refl k)

  sees_by : (o : Option (List PathStep)) → key p ≡ o → Sees key (with_seen seen o) (ds ++ p ∷ [])
  sees_by None e = record {
    to = λ path c. further path (h.to path c);
    from = λ path entry a is. elim (either ds (p ∷ []) entry a) [
      | inl here ↦ h.from path entry here is
      | inr more ↦ elim more [ inl same ↦ key_none path entry e same is | inr none ↦ absurd none ]
    ];
  }
  sees_by (Some k) e = record {
    to = λ path c. elim (inserted (eq_by_cmp path_cmp path k) Present (get seen path) (sym (ap is_some (get-insert paths_total seen k Present path)) ∙ c)) [
      | inl one ↦ record { entry = p; among = among_right ds (p ∷ []) p (inl refl); is = e ∙ ap Some (sym (one_key path k one)) }
      | inr more ↦ further path (h.to path more)
    ];
    from = λ path entry a is. ap is_some (get-insert paths_total seen k Present path) ∙ elim (either ds (p ∷ []) entry a) [
      | inl here ↦ kept_some (eq_by_cmp path_cmp path k) Present (get seen path) (h.from path entry here is)
      | inr more ↦ elim more [ inl same ↦ here_by path entry k e same is | inr none ↦ absurd none ]
    ];
  }

-- ---- one after another

module _ (t : SchemaTree) (rows : Rows) (leafs : List ℕ) where
  abbrev repeats : List PathStep → Bool
  repeats p = is_repeated t rows p leafs (unique_values t rows p leafs)

  repeated_by : (all ds ps : List (List PathStep)) (seen : Rows) → Sees (key_of t rows leafs) seen ds
      → ((cs qs : List (List PathStep)) (p : List PathStep) (m : Rows) → cs ++ p ∷ qs ≡ all → Sees (key_of t rows leafs) m cs → is_seen m (key_of t rows leafs p) ≡ repeats p)
      → ds ++ ps ≡ all → repeated t rows leafs seen ps ≡ filter repeats ps
  repeated_by all ds [] seen h each e = refl
  repeated_by all ds (p ∷ ps) seen h each e =
      let k = key_of t rows leafs p in
      let rest = repeated_by all (ds ++ p ∷ []) ps (with_seen seen k) (sees_by (key_of t rows leafs) seen ds p h k refl) each (append_assoc ds (p ∷ []) ps ∙ e) in
      ap (λ (b : Bool). (if b then p ∷ [] else []) ++ repeated t rows leafs (with_seen seen k) ps) (each ds ps p seen e h)
      ∙ ap (λ l. (if repeats p then p ∷ [] else []) ++ l) rest ∙ one_or (repeats p) p (filter repeats ps)

-- an entry more is looked at
pub seen_on : (t : SchemaTree) (rows : Rows) (leafs : List ℕ) (seen more : Rows) (p : List PathStep) (ps : List (List PathStep)) (before after : Option (List PathStep)) (b : Bool)
    → b ≡ is_seen seen (key_of t rows leafs p) → more ≡ with_seen seen (key_of t rows leafs p) → after ≡ least_with before (one_if b p)
    → least_with after (repeated t rows leafs more ps) ≡ least_with before (repeated t rows leafs seen (p ∷ ps))
seen_on t rows leafs seen more p ps before after b told is found =
    let k = key_of t rows leafs p in
    ap (λ o. least_with o (repeated t rows leafs more ps)) found ∙ sym (least_append before (one_if b p) (repeated t rows leafs more ps))
    ∙ ap (λ d. least_with before (one_if d p ++ repeated t rows leafs more ps)) told
    ∙ ap (λ m. least_with before (one_if (is_seen seen k) p ++ repeated t rows leafs m ps)) is

-- ---- entries of one list

whole_step : PathStep → PathStep
whole_step s = record { «module» = s.«module»; name = s.name; chosen = whole }

as_list_last : (above : List PathStep) (s : PathStep) → as_list (above ++ s ∷ []) ≡ above ++ whole_step s ∷ []
unfolding whole_step
as_list_last [] s = refl
as_list_last (r ∷ []) s = refl
as_list_last (r ∷ q ∷ ss) s = ap (λ p. r ∷ p) (as_list_last (q ∷ ss) s)

module _ (t : SchemaTree) where
  -- a path leads where its list does
  list_leads : (p : List PathStep) → node_of t (as_list p) ≡ node_of t p
  unfolding whole_step
  list_leads [] = refl
  list_leads (s ∷ ss) =
      let e = ends s ss in
      ap (λ p. node_of t (as_list p)) e.is ∙ ap (node_of t) (as_list_last e.above e.step) ∙ node_last t e.above (whole_step e.step) ∙ sym (node_last t e.above e.step) ∙ ap (node_of t) (sym e.is)

  front_list : (p : List PathStep) → front (as_list p) ≡ front p
  front_list [] = refl
  front_list (s ∷ ss) =
      let e = ends s ss in
      ap (λ p. front (as_list p)) e.is ∙ ap front (as_list_last e.above e.step) ∙ front_last e.above (whole_step e.step) ∙ sym (front_last e.above e.step) ∙ ap front (sym e.is)

  nowhere : (x : ℕ) → node_of t [] ≡ Some x → ⊥
  unfolding node_of
  nowhere x e = cc

  -- the path of the list of an entry of list x
  list_is : (x : ℕ) (p : List PathStep) → node_of t p ≡ Some x → as_list p ≡ front p ++ bare t.nodes x ∷ []
  unfolding whole_step
  list_is x [] at = absurd (nowhere x at)
  list_is x (s ∷ ss) at =
      let e = ends s ss in
      let leads = by_last t e.above e.step x (ap (node_of t) (sym e.is) ∙ at) in
      ap as_list e.is ∙ as_list_last e.above e.step
      ∙ ap (λ r. e.above ++ r ∷ []) (sym (bare_is t (whole_step e.step) x leads.node leads.there leads.owner_is leads.name_is refl))
      ∙ ap (λ a. a ++ bare t.nodes x ∷ []) (sym (ap front e.is ∙ front_last e.above e.step))

same_values : (vs ws : List Value) → eq_by_cmp (slice_cmp value_cmp) vs ws ≡ true → vs ≡ ws
same_values vs ws e = ap choice_values ((same_choice_decides (by_keys vs) (by_keys ws) (eq_by_cmp (slice_cmp value_cmp) vs ws) refl).0 e)

values_same : (vs ws : List Value) → vs ≡ ws → eq_by_cmp (slice_cmp value_cmp) vs ws ≡ true
values_same vs ws e = (same_choice_decides (by_keys vs) (by_keys ws) (eq_by_cmp (slice_cmp value_cmp) vs ws) refl).1 (ap by_keys e)

both_ways : (a b : Bool) → (a ≡ true → b ≡ true) → (b ≡ true → a ≡ true) → a ≡ b
both_ways true true to from = refl
both_ways true false to from = sym (to refl)
both_ways false true to from = from refl
both_ways false false to from = refl

-- the values in the first step, and the steps behind it
abbrev first_values : List PathStep → List Value
first_values [] = []
first_values (s ∷ ss) = choice_values s.chosen

abbrev behind_first : List PathStep → List PathStep
behind_first [] = []
behind_first (s ∷ ss) = ss

key_front : (p q : List PathStep) (vs ws : List Value) → unique_path p vs ≡ unique_path q ws → front p ≡ front q
key_front p q vs ws e = ap behind_first e

key_values : (p q : List PathStep) (vs ws : List Value) → unique_path p vs ≡ unique_path q ws → vs ≡ ws
key_values p q vs ws e = ap first_values e

some_path : (p q : List PathStep) → ◌≡◌ {A = Option (List PathStep)} (Some p) (Some q) → p ≡ q
some_path p q e = cc

-- the values of an entry that has this path for them
record Valued (q k : List PathStep) (o : Option (List Value)) : Type 0 where
  values : List Value
  there : o ≡ Some values
  is : unique_path q values ≡ k

valued : (q k : List PathStep) (o : Option (List Value)) → option_map (unique_path q) o ≡ Some k → Valued q k o
valued q k None e = absurd (cc)
valued q k (Some ws) e = record { values = ws; there = refl; is = some_path (unique_path q ws) k e }

are_these : (vs : List Value) (o : Option (List Value)) → are_values vs o ≡ true → (ws : List Value) × (o ≡ Some ws) × (vs ≡ ws)
are_these vs None e = absurd (cc)
are_these vs (Some ws) e = (ws, refl, same_values vs ws e)

module _ (t : SchemaTree) (rows : Rows) (leafs : List ℕ) (x : ℕ) where
  abbrev of_list : List (List PathStep)
  of_list = filter (leads_to t x) (keys rows)

  in_list : (q : List PathStep) → Among of_list q → node_of t q ≡ Some x
  in_list q a = node_is x (node_of t q) (filter_passes (leads_to t x) (keys rows) q a)

  rises : Rises of_list
  rises = rises_filter (leads_to t x) (keys rows) (rises_sorted (entries rows) (entries_sorted rows))

  module _ (cs qs : List (List PathStep)) (p : List PathStep) (m : Rows) (e : cs ++ p ∷ qs ≡ of_list) (h : Sees (key_of t rows leafs) m cs) where
    there : (q : List PathStep) → Among (cs ++ p ∷ qs) q → Among of_list q
    there q a = subst (λ l. Among l q) e a

    at : node_of t p ≡ Some x
    at = in_list p (there p (among_right cs (p ∷ qs) p (inl refl)))

    -- an entry before has these values
    forth : (vs : List Value) → is_seen m (Some (unique_path p vs)) ≡ true → is_repeated t rows p leafs (Some vs) ≡ true
    forth vs c =
        let s = h.to (unique_path p vs) c in
        let q = s.entry in
        let v = valued q (unique_path p vs) (unique_values t rows q leafs) s.is in
        let among = there q (among_left cs (p ∷ qs) q s.among) in
        let lists : as_list q ≡ as_list p =
        list_is t x q (in_list q among) ∙ ap (λ a. a ++ bare t.nodes x ∷ []) (key_front q p v.values vs v.is) ∙ sym (list_is t x p at) in
        let lower = rises_to cs qs p (subst (λ l. Rises l) (sym e) rises) q s.among in
        let same = ap (λ l. is_same_path l (as_list p)) lists ∙ paths_equiv.refl (as_list p) in
        let before = both_true (is_lt (path_cmp q p)) (is_same_path (as_list q) (as_list p)) lower same in
        let values = ap (are_values vs) v.there ∙ values_same vs v.values (sym (key_values q p v.values vs v.is)) in
        any_at (λ other. is_before p other && are_values vs (unique_values t rows other leafs)) (keys rows) q (filter_among (leads_to t x) (keys rows) q among)
        (both_true (is_before p q) (are_values vs (unique_values t rows q leafs)) before values)

    back : (vs : List Value) → is_repeated t rows p leafs (Some vs) ≡ true → is_seen m (Some (unique_path p vs)) ≡ true
    back vs c =
        let o = any_passes (λ other. is_before p other && are_values vs (unique_values t rows other leafs)) (keys rows) c in
        let a = both (is_before p o.x) (are_values vs (unique_values t rows o.x leafs)) o.passes in
        let b = both (is_lt (path_cmp o.x p)) (is_same_path (as_list o.x) (as_list p)) a.0 in
        let lists = one_key (as_list o.x) (as_list p) b.1 in
        let leads : node_of t o.x ≡ Some x = sym (list_leads t o.x) ∙ ap (node_of t) lists ∙ list_leads t p ∙ at in
        let fronts : front o.x ≡ front p = sym (front_list t o.x) ∙ ap front lists ∙ front_list t p in
        let among = among_filter (leads_to t x) (keys rows) o.x o.among (ap (is_node x) leads ∙ itself x) in
        let before = before_it cs qs p o.x (subst (λ l. Rises l) (sym e) rises) (subst (λ l. Among l o.x) (sym e) among) b.0 in
        let w = are_these vs (unique_values t rows o.x leafs) a.1 in
        h.from (unique_path p vs) o.x before (ap (option_map (unique_path o.x)) w.1 ∙ ap Some (ap (λ f. step_of w.0 ∷ f) fronts ∙ ap (unique_path p) (sym w.2)))

    by_values : (o : Option (List Value)) → is_seen m (option_map (unique_path p) o) ≡ is_repeated t rows p leafs o
    by_values None = refl
    by_values (Some vs) = both_ways (is_seen m (Some (unique_path p vs))) (is_repeated t rows p leafs (Some vs)) (forth vs) (back vs)

  -- of the entries of list x those that repeat the values of one before
  pub repeated_is : repeated t rows leafs empty of_list ≡ filter (repeats t rows leafs) of_list
  repeated_is = repeated_by t rows leafs of_list [] of_list empty (sees_none (key_of t rows leafs)) (λ cs qs p m e h. by_values cs qs p m e h (unique_values t rows p leafs)) refl

-- ---- all lists

nothing : (t : SchemaTree) (rows : Rows) (statements : List (List ℕ)) → flat_map (λ leafs. repeated t rows leafs empty []) statements ≡ []
nothing t rows [] = refl
nothing t rows (leafs ∷ more) = nothing t rows more

-- there is no such group
pub none_repeated : (t : SchemaTree) (rows : Rows) (groups : List Group) (x : ℕ) → slice_get groups x ≡ None → repeated_at t rows (in_group groups x) x ≡ []
none_repeated t rows groups x e = ap (λ g. repeated_at t rows (paths_in g) x) e ∙ nothing t rows (uniques_at t.nodes x)

pub group_repeated : (t : SchemaTree) (rows : Rows) (groups : List Group) (x : ℕ) (g : Group) → slice_get groups x ≡ Some g
    → flat_map (λ leafs. repeated t rows leafs empty (map (λ entry. entry.now) g.items)) (uniques_at t.nodes x) ≡ repeated_at t rows (in_group groups x) x
group_repeated t rows groups x g e = ap (λ o. repeated_at t rows (paths_in o) x) (sym e)

range_below : (a n k : ℕ) → Among (range_with_len a n) k → k < a + n
range_below a zero k m = absurd m
range_below a (suc n) k (inl same) = omega (arith, same)
range_below a (suc n) k (inr m) = let h = range_below (a + 1) n k m in omega (arith, h)

module _ (t : SchemaTree) (rows : Rows) (groups : List Group) (of : AreOf t (keys rows) groups) where
  -- of list x
  abbrev pub at_list : ℕ → List (List PathStep)
  at_list x = repeated_at t rows (in_group groups x) x

  to_violated : (path : List PathStep) → Among (flat_map at_list (numbers t.nodes)) path → Among (filter (violated t rows Unique) (keys rows)) path
  to_violated path a =
      let g = flat_among at_list (numbers t.nodes) path a in
      let lt : g.x < length t.nodes = let r = range_below 0 (length t.nodes) g.x g.among in omega (arith, r) in
      let s = flat_among (λ leafs. repeated t rows leafs empty (in_group groups g.x)) (uniques_at t.nodes g.x) path g.within in
      let list = filter (leads_to t g.x) (keys rows) in
      let kept : Among (filter (repeats t rows s.x) list) path =
      subst (λ l. Among l path) (ap (repeated t rows s.x empty) (of.each g.x lt) ∙ repeated_is t rows s.x g.x) s.within in
      let among = filter_among (repeats t rows s.x) list path kept in
      let key = filter_among (leads_to t g.x) (keys rows) path among in
      let leads = node_is g.x (node_of t path) (filter_passes (leads_to t g.x) (keys rows) path among) in
      let some = any_at (λ leafs. repeats t rows leafs path) (uniques_at t.nodes g.x) s.x s.among (filter_passes (repeats t rows s.x) list path kept) in
      among_filter (violated t rows Unique) (keys rows) path key
      (both_true (contains_key rows path) (list_any (λ leafs. repeats t rows leafs path) (uniques_of_node t (node_of t path))) (key_there rows path key)
      (ap (λ o. list_any (λ leafs. repeats t rows leafs path) (uniques_of_node t o)) leads ∙ some))

  from_node : (path : List PathStep) → Among (keys rows) path → (o : Option ℕ) → node_of t path ≡ o → list_any (λ leafs. repeats t rows leafs path) (uniques_of_node t o) ≡ true
      → Among (flat_map at_list (numbers t.nodes)) path
  from_node path key None at e = absurd (cc)
  from_node path key (Some x) at e =
      let lt = node_within t rows x path at in
      let s = any_passes (λ leafs. repeats t rows leafs path) (uniques_at t.nodes x) e in
      let list = filter (leads_to t x) (keys rows) in
      let among = among_filter (leads_to t x) (keys rows) path key (ap (is_node x) at ∙ itself x) in
      let kept = among_filter (repeats t rows s.x) list path among s.passes in
      among_flat at_list (numbers t.nodes) x path (among_numbers (length t.nodes) x lt)
      (among_flat (λ leafs. repeated t rows leafs empty (in_group groups x)) (uniques_at t.nodes x) s.x path s.among
      (subst (λ l. Among l path) (sym (ap (repeated t rows s.x empty) (of.each x lt) ∙ repeated_is t rows s.x x)) kept))

  from_violated : (path : List PathStep) → Among (filter (violated t rows Unique) (keys rows)) path → Among (flat_map at_list (numbers t.nodes)) path
  from_violated path a =
      let v = both (contains_key rows path) (list_any (λ leafs. repeats t rows leafs path) (uniques_of_node t (node_of t path))) (filter_passes (violated t rows Unique) (keys rows) path a) in
      from_node path (key_among rows path v.0) (node_of t path) refl v.1

  -- once all nodes are looked at, what is found is the least
  pub all_lists : (i : ℕ) (found : Option (List PathStep)) → length t.nodes - i ≡ 0
      → least_with found (flat_map at_list (range_with_len i (length t.nodes - i))) ≡ least_with None (flat_map at_list (numbers t.nodes)) → found ≡ least_at t rows Unique
  unfolding least_at
  all_lists i found done h =
      ap (λ (k : ℕ). least_with found (flat_map at_list (range_with_len i k))) (sym done) ∙ h ∙ least_is_found (flat_map at_list (numbers t.nodes))
      ∙ same_least (flat_map at_list (numbers t.nodes)) (filter (violated t rows Unique) (keys rows)) to_violated from_violated
