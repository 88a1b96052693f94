-- Paths are put into their groups, one after another.
use Rattle.std.proofs.Common.{◌≡◌, ℕ, zero, suc, ◌+◌, ◌<◌, List, [], ◌∷◌, ◌++◌, map, drop, get_or, length, Bool, true, false, cond, ◌==◌, Some, None, slice_get, slice_set, Bor, refl, sym, ap, ◌∙◌, subst, append-nil, append_assoc, arith}
use Rattle.std.proofs.lemmas.Grind.{common_steps}
use Rattle.std.proofs.lemmas.List.{drop_more}
use Rattle.std.proofs.lemmas.Bool.Decides.{nat_tests}
use Rattle.std.specs.Prelude.{filter, Option}
use Rattle.std.specs.FinMap.{keys, entries}
use Rattle.std.specs.Map.Iter.{deref_pair}
use Rattle.nm_types.specs.declared.value.Value.{Value}
use Rattle.nm_types.specs.Path.{PathStep}
use Rattle.nm_schema_tree.specs.Nodes.{SchemaTree}
use Rattle.nm_path.specs.Spelling.{node_of}
use Rattle.nm_validate_rules.specs.Guards.{is_node, leads_to}
use Rattle.nm_config.specs.Rows.{Rows}
use Rattle.nm_validate_places.specs.declared.areas.Grouped.{Grouped}
use Rattle.nm_validate_places.specs.declared.areas.NodeRow.{NodeRow}
use Rattle.nm_validate_places.specs.Listed.{Row, alone, HaveNodes}
use Rattle.nm_validate_places.specs.Tables.{AreOfCases}
use Rattle.nm_validate_places.specs.Groups.{Group, paths_in, in_group, AreEmpty, one_if, Puts, AreOf, IsGrouped}

-- ---- no groups

none_push : (gs : List Group) (g : Group) (x : ℕ) → ((y : ℕ) → in_group gs y ≡ []) → g.items ≡ [] → in_group (gs ++ g ∷ []) x ≡ []
none_push [] g zero none e = ap (map (λ (p : Bor (List PathStep)). p.now)) e
none_push [] g (suc x) none e = refl
none_push (h ∷ gs) g zero none e = none 0
none_push (h ∷ gs) g (suc x) none e = none_push gs g x (λ y. none (suc y)) e

length_push : (gs : List Group) (g : Group) → length (gs ++ g ∷ []) ≡ length gs + 1
length_push [] g = refl
length_push (h ∷ gs) g = let r = length_push gs g in omega (arith, r)

pub empty_none : AreEmpty 0 []
empty_none = record { count_is = refl; none = λ x. refl }

pub empty_push : (n : ℕ) (gs : List Group) (g : Group) → AreEmpty n gs → g.items ≡ [] → AreEmpty (n + 1) (gs ++ g ∷ [])
empty_push n gs g h e = record { count_is = length_push gs g ∙ ap (λ (k : ℕ). k + 1) h.count_is; none = λ x. none_push gs g x h.none e }

-- ---- one path more

same_suc : (a b : ℕ) → (suc a == suc b) ≡ (a == b)
same_suc a b = grind (arith, common_steps, nat_tests)

never : (x : ℕ) → (0 == suc x) ≡ false
never x = grind (arith, common_steps, nat_tests)

never_back : (x : ℕ) → (suc x == 0) ≡ false
never_back x = grind (arith, common_steps, nat_tests)

no_more : (b : Bool) (ps : List (List PathStep)) (p : List PathStep) → b ≡ false → ps ≡ ps ++ one_if b p
no_more true ps p e = absurd (cc)
no_more false ps p e = sym (append-nil ps)

put_by : (gs : List Group) (at x : ℕ) (old new : Group) (p : List PathStep) → slice_get gs at ≡ Some old → paths_in (Some new) ≡ paths_in (Some old) ++ p ∷ [] → x < length gs
    → in_group (slice_set gs at new) x ≡ in_group gs x ++ one_if (at == x) p
put_by [] at x old new p is e lt = absurd (omega (arith, lt))
put_by (g ∷ gs) zero zero old new p is e lt =
    let same : g ≡ old = cc in
    e ∙ ap (λ (h : Group). paths_in (Some h) ++ p ∷ []) (sym same)
put_by (g ∷ gs) zero (suc x) old new p is e lt = no_more (0 == suc x) (in_group gs x) p (never x)
put_by (g ∷ gs) (suc at) zero old new p is e lt = no_more (suc at == 0) (paths_in (Some g)) p (never_back at)
put_by (g ∷ gs) (suc at) (suc x) old new p is e lt =
    put_by gs at x old new p is e (omega (arith, lt)) ∙ ap (λ b. in_group gs x ++ one_if b p) (sym (same_suc at x))

same_length : (gs : List Group) (at : ℕ) (new : Group) → length (slice_set gs at new) ≡ length gs
same_length [] at new = refl
same_length (g ∷ gs) zero new = refl
same_length (g ∷ gs) (suc at) new = ap suc (same_length gs at new)

map_push : (bs : List (Bor (List PathStep))) (b : Bor (List PathStep)) → map (λ p. p.now) (bs ++ b ∷ []) ≡ map (λ p. p.now) bs ++ b.now ∷ []
map_push [] b = refl
map_push (c ∷ bs) b = ap (λ l. c.now ∷ l) (map_push bs b)

pub at_index : (gs : List Group) (at : ℕ) (g : Group) → at < length gs → g ≡ get_or gs at g → slice_get gs at ≡ Some g
at_index [] at g lt e = absurd (omega (arith, lt))
at_index (h ∷ gs) zero g lt e = ap Some (sym e)
at_index (h ∷ gs) (suc at) g lt e = at_index gs at g (omega (arith, lt)) e

pub put_is : (gs : List Group) (at : ℕ) (old new : Group) (b : Bor (List PathStep)) → at < length gs → old ≡ get_or gs at old → new.items ≡ old.items ++ b ∷ [] → Puts b.now (Some at) gs (slice_set gs at new)
put_is gs at old new b lt is e = record {
  same_count = same_length gs at new;
  put = λ x less. put_by gs at x old new b.now (at_index gs at old lt is) (ap (map (λ (p : Bor (List PathStep)). p.now)) e ∙ map_push old.items b) less;
}

beyond : (gs : List Group) (at x : ℕ) → slice_get gs at ≡ None → x < length gs → (at == x) ≡ false
beyond [] at x is lt = absurd (omega (arith, lt))
beyond (g ∷ gs) zero x is lt = absurd (cc)
beyond (g ∷ gs) (suc at) zero is lt = never_back at
beyond (g ∷ gs) (suc at) (suc x) is lt = same_suc at x ∙ beyond gs at x is (omega (arith, lt))

-- there is no such group
pub put_none : (gs : List Group) (at : ℕ) (p : List PathStep) → slice_get gs at ≡ None → Puts p (Some at) gs gs
put_none gs at p is = record { same_count = refl; put = λ x lt. no_more (at == x) (in_group gs x) p (beyond gs at x is lt) }

-- the path leads to no node
pub put_nowhere : (gs : List Group) (p : List PathStep) → Puts p None gs gs
put_nowhere gs p = record { same_count = refl; put = λ x lt. no_more false (in_group gs x) p refl }

-- ---- all paths

-- what is in the groups and what is left are all paths
pub record AreLeft (t : SchemaTree) (left all : List (List PathStep)) (groups : List Group) : Type 0 where
  pub count : length groups ≡ length t.nodes
  pub each : (x : ℕ) → x < length t.nodes → in_group groups x ++ filter (leads_to t x) left ≡ filter (leads_to t x) all

all_left : (t : SchemaTree) (all : List (List PathStep)) (n : ℕ) (gs : List Group) → AreEmpty n gs → n ≡ length t.nodes → AreLeft t all all gs
all_left t all n gs h e = record { count = h.count_is ∙ e; each = λ x lt. ap (λ l. l ++ filter (leads_to t x) all) (h.none x) }

none_left : (t : SchemaTree) (left all : List (List PathStep)) (gs : List Group) → left ≡ [] → AreLeft t left all gs → AreOf t all gs
none_left t left all gs e h = record {
  count = h.count;
  each = λ x lt. sym (append-nil (in_group gs x)) ∙ ap (λ l. in_group gs x ++ filter (leads_to t x) l) (sym e) ∙ h.each x lt;
}

one_first : (b : Bool) (p : List PathStep) (ps : List (List PathStep)) → one_if b p ++ ps ≡ cond b (p ∷ ps) ps
one_first true p ps = refl
one_first false p ps = refl

-- a path is put into the group of its node
left_put : (t : SchemaTree) (p : List PathStep) (left all : List (List PathStep)) (node : Option ℕ) (before after : List Group) → node ≡ node_of t p → Puts p node before after
    → AreLeft t (p ∷ left) all before → AreLeft t left all after
left_put t p left all node before after is put h = record {
  count = put.same_count ∙ h.count;
  each = λ x lt.
      ap (λ l. l ++ filter (leads_to t x) left) (put.put x (subst (λ (n : ℕ). x < n) (sym h.count) lt))
      ∙ append_assoc (in_group before x) (one_if (is_node x node) p) (filter (leads_to t x) left)
      ∙ ap (λ l. in_group before x ++ l) (one_first (is_node x node) p (filter (leads_to t x) left) ∙ ap (λ o. cond (is_node x o) (p ∷ filter (leads_to t x) left) (filter (leads_to t x) left)) is)
      ∙ h.each x lt;
}

-- ---- all rows

abbrev pub Pair : Type 0
Pair = Bor (List PathStep) × Bor Value

abbrev pub paths_of : List Pair → List (List PathStep)
paths_of pairs = map (λ p. p.0.now) pairs

-- these rows are listed with their nodes and in their groups, and others are left
pub record AreListed (t : SchemaTree) (left all : List Pair) (rows : List NodeRow) (groups : List Group) : Type 0 where
  pub rows_are : map alone rows ++ map deref_pair left ≡ map deref_pair all
  pub nodes_are : HaveNodes t rows
  pub groups_are : AreLeft t (paths_of left) (paths_of all) groups

pub none_listed : (t : SchemaTree) (all left : List Pair) (rows : List NodeRow) (n : ℕ) (gs : List Group) → left ≡ all → rows ≡ [] → AreEmpty n gs → n ≡ length t.nodes → AreListed t left all rows gs
none_listed t all left rows n gs same none h e = record {
  rows_are = ap (λ l. map alone l ++ map deref_pair left) none ∙ ap (map deref_pair) same;
  nodes_are = subst (λ l. HaveNodes t l) (sym none) tt;
  groups_are = subst (λ l. AreLeft t (paths_of l) (paths_of all) gs) (sym same) (all_left t (paths_of all) n gs h e);
}

alone_push : (rows : List NodeRow) (row : NodeRow) → map alone (rows ++ row ∷ []) ≡ map alone rows ++ alone row ∷ []
alone_push [] row = refl
alone_push (r ∷ rows) row = ap (λ l. alone r ∷ l) (alone_push rows row)

have_push : (t : SchemaTree) (rows : List NodeRow) (row : NodeRow) → HaveNodes t rows → row.node ≡ node_of t row.path.now → HaveNodes t (rows ++ row ∷ [])
have_push t [] row h e = (e, tt)
have_push t (r ∷ rows) row h e = (h.0, have_push t rows row h.1 e)

-- a row more is listed
listed_on : (t : SchemaTree) (p : Pair) (left all : List Pair) (rows more : List NodeRow) (before after : List Group) (row : NodeRow) → alone row ≡ deref_pair p → row.node ≡ node_of t row.path.now
    → Puts row.path.now row.node before after → more ≡ rows ++ row ∷ [] → AreListed t (p ∷ left) all rows before → AreListed t left all more after
listed_on t p left all rows more before after row same is put one h =
    let path : p.0.now ≡ row.path.now = ap (λ (r : Row). r.0) (sym same) in
    record {
      rows_are = ap (λ l. map alone l ++ map deref_pair left) one ∙ ap (λ l. l ++ map deref_pair left) (alone_push rows row) ∙ append_assoc (map alone rows) (alone row ∷ []) (map deref_pair left)
          ∙ ap (λ r. map alone rows ++ r ∷ map deref_pair left) same ∙ h.rows_are;
      nodes_are = subst (λ l. HaveNodes t l) (sym one) (have_push t rows row h.nodes_are is);
      groups_are = left_put t row.path.now (paths_of left) (paths_of all) row.node before after is put (subst (λ q. AreLeft t (q ∷ paths_of left) (paths_of all) before) path h.groups_are);
    }

pub listed_turn : (t : SchemaTree) (all : List Pair) (i : ℕ) (p : Pair) (rows more : List NodeRow) (before after : List Group) (row : NodeRow) → i < length all → p ≡ get_or all i p → alone row ≡ deref_pair p
    → row.node ≡ node_of t row.path.now → Puts row.path.now row.node before after → more ≡ rows ++ row ∷ [] → AreListed t (drop i all) all rows before → AreListed t (drop (i + 1) all) all more after
listed_turn t all i p rows more before after row lt item same is put one h =
    listed_on t p (drop (i + 1) all) all rows more before after row same is put one
    (subst (λ l. AreListed t l all rows before) (drop_more all i p lt ∙ ap (λ (x : Pair). x ∷ drop (i + 1) all) (sym item)) h)

paths_are : (all : List Pair) → paths_of all ≡ map (λ e. e.0) (map deref_pair all)
paths_are [] = refl
paths_are (p ∷ ps) = ap (λ l. p.0.now ∷ l) (paths_are ps)

-- once none are left, all are grouped
pub all_listed : (t : SchemaTree) (rows : Rows) (left all : List Pair) (grouped : Grouped) → left ≡ [] → map deref_pair all ≡ entries rows
    → AreListed t left all grouped.rows.items grouped.groups.items → AreOfCases t grouped.cases.items → IsGrouped t rows grouped
all_listed t rows left all grouped none is h cases = record {
  rows_are = sym (append-nil (map alone grouped.rows.items)) ∙ ap (λ l. map alone grouped.rows.items ++ map deref_pair l) (sym none) ∙ h.rows_are ∙ is;
  nodes_are = h.nodes_are;
  groups_are = none_left t (paths_of left) (keys rows) grouped.groups.items (ap paths_of none)
      (subst (λ l. AreLeft t (paths_of left) l grouped.groups.items) (paths_are all ∙ ap (map (λ (e : Row). e.0)) is) h.groups_are);
  cases_are = cases;
}
