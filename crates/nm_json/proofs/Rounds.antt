-- What is written of a configuration is read as that configuration.
use Rattle.std.proofs.Common.{◌≡◌, ◌≤◌, List, [], ◌∷◌, ◌++◌, fold, Bool, true, false, ◌&&◌, cond, Some, None, Result, Ok, Err, String, string_bytes, is_some, inl, inr, ◌⊎◌, Ordering, Less, Equal, Greater, refl, sym, ap, ◌∙◌, subst}
use Rattle.std.specs.Prelude.{IfOk}
use Rattle.std.proofs.lemmas.Bool.{cases_Bool, false_from_ne_true}
use Rattle.std.proofs.lemmas.Cmp.{tied_itself}
use Rattle.std.proofs.lemmas.List.{append-nil}
use Rattle.std.specs.Cmp.Lexicographic.{slice_cmp}
use Rattle.std.specs.Ordering.{eq_by_cmp, is_gt, is_lt, is_eq, ordering_then, ordering_reverse}
use Rattle.std.specs.List.{AllByRecursion}
use Rattle.std.specs.FinMap.{entries, entries_sorted, get, get-entries, get-empty, empty, insert, get-insert}
use Rattle.std.specs.FinMap.Entries.{find, is_sorted, below_all}
use lib.Dec.{T}
use Rattle.std.proofs.lemmas.Str.{IsUtf8-string_bytes}
use Rattle.std.specs.declared.alloc.Global.{Global}
use Rattle.serde_json.specs.Data.{Data, Members, no_members, depth}
use Rattle.serde_json.specs.Read.{read, max_depth}
use Rattle.nm_types.specs.Path.{PathStep, at_top, printed_cmp, step_cmp, path_cmp}
use Rattle.nm_types.specs.PathLaws.{steps_total, paths_total, step_cmp-IsAntisymmetric, path_cmp-IsAntisymmetric, path_cmp-cons, same_step_decides}
use Rattle.nm_types.specs.declared.value.Value.{Value}
use Rattle.nm_types.proofs.OrderLaws.{path_cmp-prefix}
use Rattle.nm_schema_tree.specs.declared.node.Node.{Node}
use Rattle.nm_schema_tree.specs.Nodes.{SchemaTree}
use Rattle.nm_path.specs.declared.place.Place.{Place}
use Rattle.nm_path.specs.declared.place.Place.TheVariants.{Top}
use Rattle.nm_path.specs.Spelling.{found_of, below, node_from, node_of}
use Rattle.nm_path.specs.Sound.{IsSound}
use Rattle.nm_config.specs.Rows.{Rows, with_entries}
use Rattle.nm_config.proofs.Contiguous.{one_step}
use Rattle.nm_config.proofs.Maps.{with_own_entries}
use Rattle.nm_json.specs.Findings.{Finding, row, whole_found}
use Rattle.nm_json.specs.Whole.{rows_of, if_repeated, faults_found, config_read, from_json, text_read}
use Rattle.nm_json.specs.Writing.{put_row, config_data}
use Rattle.nm_json.specs.Laws.{HasRows}
use Rattle.nm_json.specs.Configs.{IsRow, is_own_at, IsConfigOf}
use Rattle.nm_json.proofs.Shuffled as lists
use Rattle.nm_json.proofs.Shuffled.{Shuffled}
use Rattle.nm_json.proofs.AnyOrder.{faults_shuffled, rows_shuffled}
use Rattle.nm_json.proofs.Json.{json_some}
use Rattle.nm_json.proofs.Least.{rows_law}
use Rattle.nm_json.proofs.Tidy.{TidyMembers, plain_found, members_plain}
use Rattle.nm_json.proofs.Placing.{Spine, Leans, Misses, placed, put_steps_tidy}

-- ---- what lies between a path and one below it

-- a path begins with steps
abbrev pub Begins : List PathStep → List PathStep → Type 0
Begins [] p = Unit {0}
Begins (x ∷ xs) [] = ⊥
Begins (x ∷ xs) (y ∷ ys) = (x ≡ y) × Begins xs ys

begins_append : (xs ys : List PathStep) → Begins xs (xs ++ ys)
begins_append [] ys = tt
begins_append (x ∷ xs) ys = (refl, begins_append xs ys)

first_le : (a b : Ordering) → is_gt (ordering_then a b) ≡ false → is_gt a ≡ false
first_le Less b h = refl
first_le Equal b h = refl
first_le Greater b h = h

second_le : (a b : Ordering) → a ≡ Equal → is_gt (ordering_then a b) ≡ false → is_gt b ≡ false
second_le Less b e h = absurd cc
second_le Equal b e h = h
second_le Greater b e h = absurd cc

both_le : (a b : Ordering) → a ≡ ordering_reverse b → is_gt a ≡ false → is_gt b ≡ false → a ≡ Equal
both_le Less Less e p q = absurd cc
both_le Less Equal e p q = absurd cc
both_le Less Greater e p q = absurd cc
both_le Equal b e p q = refl
both_le Greater b e p q = absurd cc

-- a step between a step and that step
record Between (R : PathStep → PathStep → Ordering) (x y z : PathStep) : Type 0 where
  one : R x y ≡ Equal
  two : R y z ≡ Equal

step_between : (R : PathStep → PathStep → Ordering) → ((a b : PathStep) → R a b ≡ ordering_reverse (R b a)) → (x y z : PathStep) → x ≡ z → is_gt (R x y) ≡ false → is_gt (R y z) ≡ false → Between R x y z
step_between R turn x y z e a b =
    let same : R y z ≡ R y x = ap (R y) (sym e) in
    let one : R x y ≡ Equal = both_le (R x y) (R y x) (turn x y) a (sym (ap is_gt same) ∙ b) in
    record { one = one; two = same ∙ turn y x ∙ ap ordering_reverse one }

begins_below : (xs ps qs : List PathStep) → Begins xs qs → is_gt (slice_cmp step_cmp xs ps) ≡ false → is_gt (slice_cmp step_cmp ps qs) ≡ false → Begins xs ps
begins_below [] ps qs b a c = tt
begins_below (x ∷ xs) [] qs b a c = absurd cc
begins_below (x ∷ xs) (y ∷ ps) [] b a c = absurd b
begins_below (x ∷ xs) (y ∷ ps) (z ∷ qs) b a c =
    let tie = step_between step_cmp steps_total.antisymm x y z b.0 (first_le _ _ a) (first_le _ _ c) in
    (step_cmp-IsAntisymmetric x y tie.one, begins_below xs ps qs b.1 (second_le _ _ tie.one a) (second_le _ _ tie.two c))

abbrev top_cmp : PathStep → PathStep → Ordering
top_cmp s t = printed_cmp (at_top s) (at_top t)

alone : (s t : PathStep) → path_cmp (s ∷ []) (t ∷ []) ≡ top_cmp s t
alone s t = path_cmp-cons s t [] [] ∙ end (top_cmp s t)
  where
    end : (o : Ordering) → ordering_then o Equal ≡ o
    end Less = refl
    end Equal = refl
    end Greater = refl

top_turned : (s t : PathStep) → top_cmp s t ≡ ordering_reverse (top_cmp t s)
top_turned s t = sym (alone s t) ∙ paths_total.antisymm (s ∷ []) (t ∷ []) ∙ ap ordering_reverse (alone t s)

top_exact : (s t : PathStep) → top_cmp s t ≡ Equal → s ≡ t
top_exact s t e =
    let g : s ∷ [] ≡ t ∷ [] = path_cmp-IsAntisymmetric (s ∷ []) (t ∷ []) (alone s t ∙ e) in
    cc

-- what stands between steps and a path that begins with them begins with them
begins_between : (xs ps qs : List PathStep) → Begins xs qs → is_gt (path_cmp xs ps) ≡ false → is_gt (path_cmp ps qs) ≡ false → Begins xs ps
unfolding path_cmp
begins_between [] ps qs b a c = tt
begins_between (x ∷ xs) [] qs b a c = absurd cc
begins_between (x ∷ xs) (y ∷ ps) [] b a c = absurd b
begins_between (x ∷ xs) (y ∷ ps) (z ∷ qs) b a c =
    let left : is_gt (ordering_then (top_cmp x y) (slice_cmp step_cmp xs ps)) ≡ false = sym (ap is_gt (path_cmp-cons x y xs ps)) ∙ a in
    let right : is_gt (ordering_then (top_cmp y z) (slice_cmp step_cmp ps qs)) ≡ false = sym (ap is_gt (path_cmp-cons y z ps qs)) ∙ c in
    let tie = step_between top_cmp top_turned x y z b.0 (first_le _ _ left) (first_le _ _ right) in
    (top_exact x y tie.one, begins_below xs ps qs b.1 (second_le _ _ tie.one left) (second_le _ _ tie.two right))

-- ---- the entries and containers above a row

-- each list entry and presence container above a row is above another, too
abbrev Needs : List Node → Place → List PathStep → List PathStep → Type 0
Needs nodes place p q = (front : List PathStep) (s : PathStep) (more : List PathStep) → q ≡ front ++ s ∷ more → is_own_at nodes (node_from nodes place None front) ≡ true → Begins front p

needs_later : (nodes : List Node) (place : Place) (p : List PathStep) (s : PathStep) (q : List PathStep) → Needs nodes place p (s ∷ q) → (front : List PathStep) (x : PathStep) (more : List PathStep) → q ≡ front ++ x ∷ more
    → is_own_at nodes (node_from nodes (below (found_of nodes place s.«module» s.name)) None front) ≡ true → Begins (s ∷ front) p
needs_later nodes place p s q need [] x more e own = absurd cc
needs_later nodes place p s q need (y ∷ front) x more e own = need (s ∷ y ∷ front) x more (ap (λ (l : List PathStep). s ∷ l) e) own

not_step : (u s : PathStep) → eq_by_cmp step_cmp u s ≡ false → s ≡ u → ⊥
not_step u s e same =
    let f : eq_by_cmp step_cmp u s ≡ true = (same_step_decides u s (eq_by_cmp step_cmp u s) refl).1 (sym same) in
    cc

leans_of : (nodes : List Node) (q : List PathStep) (place : Place) (p : List PathStep) → Needs nodes place p q → Leans nodes place p q
leans_of nodes [] place p need = tt
leans_of nodes (s ∷ []) place p need = tt
leans_of nodes (s ∷ r ∷ ss) place [] need = (
  false_from_ne_true _ (λ own. need (s ∷ []) r ss refl own),
  leans_of nodes (r ∷ ss) (below (found_of nodes place s.«module» s.name)) [] (λ front x more e own. absurd (needs_later nodes place [] s (r ∷ ss) need front x more e own)),
)
leans_of nodes (s ∷ r ∷ ss) place (u ∷ us) need =
    elim (cases_Bool (eq_by_cmp step_cmp u s)) [
      | inl e ↦ inl (one_step u s e, leans_of nodes (r ∷ ss) (below (found_of nodes place s.«module» s.name)) us (λ front x more e own. (needs_later nodes place (u ∷ us) s (r ∷ ss) need front x more e own).1))
      | inr e ↦ inr (
        false_from_ne_true _ (λ own. not_step u s e (need (s ∷ []) r ss refl own).0),
        leans_of nodes (r ∷ ss) (below (found_of nodes place s.«module» s.name)) [] (λ front x more f own. absurd (not_step u s e (needs_later nodes place (u ∷ us) s (r ∷ ss) need front x more f own).0)),
      )
    ]

-- ---- rows in their order

abbrev Row : Type 0
Row = List PathStep × Value

abbrev all_rows : List Row → List Finding
all_rows [] = []
all_rows (e ∷ es) = row e.0 e.1 ∷ all_rows es

abbrev IsKeyOf : List PathStep → List Row → Type 0
IsKeyOf q [] = ⊥
IsKeyOf q (e ∷ es) = (q ≡ e.0) ⊎ IsKeyOf q es

first_of : (a b : Bool) → T (a && b) → T a
first_of true b h = tt
first_of false b h = absurd h

second_of : (a b : Bool) → T (a && b) → T b
second_of true b h = h
second_of false b h = absurd h

less : (o : Ordering) → T (is_lt o) → o ≡ Less
less Less h = refl
less Equal h = absurd h
less Greater h = absurd h

no_later : (o : Ordering) → o ≡ Less → is_gt o ≡ false
no_later o e = ap is_gt e

apart : (p q : List PathStep) → path_cmp p q ≡ Less → p ≡ q → ⊥
apart p q e same =
    let tie : path_cmp p q ≡ Equal = ap (path_cmp p) (sym same) ∙ tied_itself paths_total p in
    cc

untied : (p q : List PathStep) → path_cmp p q ≡ Less → eq_by_cmp path_cmp q p ≡ false
untied p q e = ap is_eq (paths_total.antisymm q p ∙ ap ordering_reverse e)

below_key : (p q : List PathStep) (es : List Row) → T (below_all path_cmp p es) → IsKeyOf q es → path_cmp p q ≡ Less
below_key p q [] h k = absurd k
below_key p q (e ∷ es) h (inl same) = ap (path_cmp p) same ∙ less _ (first_of _ _ h)
below_key p q (e ∷ es) h (inr k) = below_key p q es (second_of _ _ h) k

upto_key : (p q : List PathStep) (es : List Row) → AllByRecursion (λ e. is_gt (path_cmp e.0 p) ≡ false) es → IsKeyOf q es → is_gt (path_cmp q p) ≡ false
upto_key p q [] h k = absurd k
upto_key p q (e ∷ es) h (inl same) = ap (λ x. is_gt (path_cmp x p)) same ∙ h.0
upto_key p q (e ∷ es) h (inr k) = upto_key p q es h.1 k

-- a map has these rows
abbrev pub Have : Rows → List Row → Type 0
Have rows es = AllByRecursion (λ e. get rows e.0 ≡ Some e.1) es

haves_later : (e : Row) (es fs : List Row) → T (below_all path_cmp e.0 fs) → AllByRecursion (λ f. find path_cmp f.0 es ≡ Some f.1) fs → AllByRecursion (λ f. find path_cmp f.0 (e ∷ es) ≡ Some f.1) fs
haves_later e es [] b h = tt
haves_later e es (f ∷ fs) b h = (ap (λ x. cond x (Some e.1) (find path_cmp f.0 es)) (untied e.0 f.0 (less _ (first_of _ _ b))) ∙ h.0, haves_later e es fs (second_of _ _ b) h.1)

haves : (es : List Row) → T (is_sorted path_cmp es) → AllByRecursion (λ f. find path_cmp f.0 es ≡ Some f.1) es
haves [] h = tt
haves (e ∷ es) h = (ap (λ x. cond x (Some e.1) (find path_cmp e.0 es)) (ap is_eq (tied_itself paths_total e.0)), haves_later e es es (first_of _ _ h) (haves es (second_of _ _ h)))

have_all : (rows : Rows) (es : List Row) → AllByRecursion (λ f. find path_cmp f.0 (entries rows) ≡ Some f.1) es → Have rows es
have_all rows [] h = tt
have_all rows (e ∷ es) h = (get-entries rows e.0 ∙ h.0, have_all rows es h.1)

-- a map has its entries
pub all_there : (rows : Rows) → Have rows (entries rows)
all_there rows = have_all rows (entries rows) (haves (entries rows) (entries_sorted rows))

-- the rows that are put, and those that are left
record Written (t : SchemaTree) (rows : Rows) (done es : List Row) (p : List PathStep) (ms : Members) : Type 0 where
  found : Shuffled (plain_found t [] None ms) (all_rows done)
  spine : Spine t Top p ms
  tidy : TidyMembers true ms
  upto : AllByRecursion (λ e. is_gt (path_cmp e.0 p) ≡ false) done
  before : AllByRecursion (λ e. T (below_all path_cmp e.0 es)) done
  known : (q : List PathStep) → is_some (get rows q) ≡ true → IsKeyOf q done ⊎ IsKeyOf q es
  next : T (below_all path_cmp p es)

module _ (t : SchemaTree) (sound : IsSound t.nodes) (rows : Rows) (config : IsConfigOf t rows) where
  missed : (q : List PathStep) (es done : List Row) → AllByRecursion (λ e. path_cmp e.0 q ≡ Less) done → AllByRecursion (Misses q) (all_rows done)
  missed q es [] h = tt
  missed q es (e ∷ done) h = (apart e.0 q h.0, missed q es done h.1)

  all_less : (e : Row) (es done : List Row) → AllByRecursion (λ d. T (below_all path_cmp d.0 (e ∷ es))) done → AllByRecursion (λ d. path_cmp d.0 e.0 ≡ Less) done
  all_less e es [] h = tt
  all_less e es (d ∷ done) h = (less _ (first_of _ _ h.0), all_less e es done h.1)

  all_upto : (q : List PathStep) (done : List Row) → AllByRecursion (λ d. path_cmp d.0 q ≡ Less) done → AllByRecursion (λ d. is_gt (path_cmp d.0 q) ≡ false) done
  all_upto q [] h = tt
  all_upto q (d ∷ done) h = (no_later _ h.0, all_upto q done h.1)

  all_before : (e : Row) (es done : List Row) → AllByRecursion (λ d. T (below_all path_cmp d.0 (e ∷ es))) done → AllByRecursion (λ d. T (below_all path_cmp d.0 es)) done
  all_before e es [] h = tt
  all_before e es (d ∷ done) h = (second_of _ _ h.0, all_before e es done h.1)

  known_later : (q : List PathStep) (e : Row) (done es : List Row) → IsKeyOf q done ⊎ IsKeyOf q (e ∷ es) → IsKeyOf q (e ∷ done) ⊎ IsKeyOf q es
  known_later q e done es (inl k) = inl (inr k)
  known_later q e done es (inr (inl same)) = inl (inl same)
  known_later q e done es (inr (inr k)) = inr k

  -- what has a row of its own above the next row stands before the last one
  stands : (q : List PathStep) (e : Row) (done es : List Row) (p : List PathStep) → path_cmp q e.0 ≡ Less → T (below_all path_cmp e.0 es) → AllByRecursion (λ d. is_gt (path_cmp d.0 p) ≡ false) done
      → IsKeyOf q done ⊎ IsKeyOf q (e ∷ es) → is_gt (path_cmp q p) ≡ false
  stands q e done es p before more upto (inl k) = upto_key p q done upto k
  stands q e done es p before more upto (inr (inl same)) = absurd (apart q e.0 before same)
  stands q e done es p before more upto (inr (inr k)) =
      let turned : path_cmp q e.0 ≡ Greater = paths_total.antisymm q e.0 ∙ ap ordering_reverse (below_key e.0 q es more k) in
      absurd cc

  next_leans : (e : Row) (done es : List Row) (p : List PathStep) (ms : Members) → T (below_all path_cmp e.0 es) → get rows e.0 ≡ Some e.1 → Written t rows done (e ∷ es) p ms → Leans t.nodes Top p e.0
  unfolding node_of
  next_leans e done es p ms more has w = leans_of t.nodes e.0 Top p (λ front s rest is own.
      let here : get rows (front ++ s ∷ rest) ≡ Some e.1 = ap (get rows) (sym is) ∙ has in
      let there = config.above front s rest e.1 here own in
      let before : path_cmp front e.0 ≡ Less = ap (path_cmp front) is ∙ path_cmp-prefix front s rest in
      let upto = stands front e done es p before more w.upto (w.known front there) in
      begins_between front p e.0 (subst (Begins front) (sym is) (begins_append front (s ∷ rest))) upto (no_later _ (less _ (first_of _ _ w.next))))

  after_next : (e : Row) (done es : List Row) (p : List PathStep) (ms : Members) → T (below_all path_cmp e.0 es) → get rows e.0 ≡ Some e.1 → Written t rows done (e ∷ es) p ms → Written t rows (e ∷ done) es e.0 (put_row t ms e)
  unfolding put_row
  after_next e done es p ms more has w =
      let one = config.each e.0 e.1 has in
      let lean = next_leans e done es p ms more has w in
      let older = all_less e es done w.before in
      let miss = lists.all_shuffled (Misses e.0) (lists.back w.found) (missed e.0 es done older) in
      let after = placed t sound e.0 Top [] p e.1 ms e.0 one lean w.spine w.tidy refl miss in
      record {
        found = lists.further (row e.0 e.1 ∷ plain_found t [] None ms) after.found (lists.behind w.found);
        spine = after.spine;
        tidy = put_steps_tidy t sound e.0 Top e.1 ms one w.tidy;
        upto = (ap is_gt (tied_itself paths_total e.0), all_upto e.0 done older);
        before = (more, all_before e es done w.before);
        known = λ q has_q. known_later q e done es (w.known q has_q);
        next = more;
      }

  -- all rows are put
  record Whole (ms : Members) (fs : List Finding) : Type 0 where
    found : Shuffled (plain_found t [] None ms) fs
    tidy : TidyMembers true ms

  all_written : (es done : List Row) (p : List PathStep) (ms : Members) → T (is_sorted path_cmp es) → Have rows es → Written t rows done es p ms → Whole (fold (put_row t) ms es) (all_rows done ++ all_rows es)
  all_written [] done p ms sorted have w = record { found = lists.further (all_rows done) w.found (lists.equals (sym (append-nil (all_rows done)))); tidy = w.tidy }
  all_written (e ∷ es) done p ms sorted have w =
      let more = first_of _ _ sorted in
      let later = all_written es (e ∷ done) e.0 (put_row t ms e) (second_of _ _ sorted) have.1 (after_next e done es p ms more have.0 w) in
      record { found = lists.further (all_rows (e ∷ done) ++ all_rows es) later.found (lists.parts (row e.0 e.1 ∷ []) (all_rows done) (all_rows es)); tidy = later.tidy }

  -- ---- the rows of a map

  tied_path : (o : Ordering) → is_eq o ≡ true → o ≡ Equal
  tied_path Less e = absurd cc
  tied_path Equal e = refl
  tied_path Greater e = absurd cc

  key_found : (q : List PathStep) (es : List Row) → is_some (find path_cmp q es) ≡ true → IsKeyOf q es
  key_found q [] h = absurd cc
  key_found q (e ∷ es) h = elim (cases_Bool (eq_by_cmp path_cmp q e.0)) [
    | inl same ↦ inl (path_cmp-IsAntisymmetric q e.0 (tied_path (path_cmp q e.0) same))
    | inr other ↦ inr (key_found q es (sym (ap (λ b. is_some (cond b (Some e.1) (find path_cmp q es))) other) ∙ h))
  ]

  row_first : (q : List PathStep) (v : Value) → IsRow t.nodes Top q v → path_cmp [] q ≡ Less
  unfolding path_cmp
  row_first [] v h = absurd h
  row_first (s ∷ ss) v h = refl

  is_less : (o : Ordering) → o ≡ Less → T (is_lt o)
  is_less Less e = tt
  is_less Equal e = absurd cc
  is_less Greater e = absurd cc

  both_of : (a b : Bool) → T a → T b → T (a && b)
  both_of true b p q = q
  both_of false b p q = absurd p

  all_first : (es : List Row) → Have rows es → T (below_all path_cmp [] es)
  all_first [] h = tt
  all_first (e ∷ es) h = both_of _ _ (is_less _ (row_first e.0 e.1 (config.each e.0 e.1 h.0))) (all_first es h.1)

  written : Whole (fold (put_row t) no_members (entries rows)) (all_rows (entries rows))
  written = all_written (entries rows) [] [] no_members (entries_sorted rows) (all_there rows) (record {
    found = lists.as_before;
    spine = tt;
    tidy = tt;
    upto = tt;
    before = tt;
    known = λ q h. inr (key_found q (entries rows) (sym (ap is_some (get-entries rows q)) ∙ h));
    next = all_first (entries rows) (all_there rows);
  })

  new_keys : (m : Rows) (e : Row) (es : List Row) → T (below_all path_cmp e.0 es) → AllByRecursion (λ f. get m f.0 ≡ None) es → AllByRecursion (λ f. get (insert m e.0 e.1) f.0 ≡ None) es
  new_keys m e [] b h = tt
  new_keys m e (f ∷ es) b h =
      (get-insert paths_total m e.0 e.1 f.0 ∙ ap (λ x. cond x (Some e.1) (get m f.0)) (untied e.0 f.0 (less _ (first_of _ _ b))) ∙ h.0, new_keys m e es (second_of _ _ b) h.1)

  -- rows with paths of their own have no fault
  no_faults : (m : Rows) (es : List Row) → T (is_sorted path_cmp es) → AllByRecursion (λ f. get m f.0 ≡ None) es → faults_found m (all_rows es) ≡ []
  no_faults m [] s h = refl
  no_faults m (e ∷ es) s h =
      ap (λ x. if_repeated (is_some x) e.0 (faults_found (insert m e.0 e.1) (all_rows es))) h.0
      ∙ no_faults (insert m e.0 e.1) es (second_of _ _ s) (new_keys m e es (first_of _ _ s) h.1)

  none_yet : (es : List Row) → AllByRecursion (λ f. get (empty {X = Value} {R = path_cmp}) f.0 ≡ None) es
  none_yet [] = tt
  none_yet (e ∷ es) = (get-empty path_cmp e.0, none_yet es)

  rows_are : (m : Rows) (es : List Row) → rows_of m (all_rows es) ≡ with_entries m es
  rows_are m [] = refl
  rows_are m (e ∷ es) = rows_are (insert m e.0 e.1) es

  found_again : Shuffled (whole_found t (config_data t rows)) (all_rows (entries rows))
  unfolding config_data
  found_again =
      let ms = fold (put_row t) no_members (entries rows) in
      lists.further (plain_found t [] None ms) (lists.equals (members_plain t [] None ms ms written.tidy)) written.found

  again : HasRows t (config_data t rows) rows
  again =
      let none = no_faults empty (entries rows) (entries_sorted rows) (none_yet (entries rows)) in
      let faultless = lists.none_left (faults_shuffled (lists.back found_again) empty) none in
      record {
        faultless = faultless;
        all = sym (rows_shuffled found_again empty faultless ∙ rows_are empty (entries rows) ∙ with_own_entries paths_total path_cmp-IsAntisymmetric rows);
        within = config.few;
      }

pub round_law : (t : SchemaTree) (rows : Rows) → IsSound t.nodes → IsConfigOf t rows → config_read t (config_data t rows) ≡ Ok rows
round_law t rows sound config = (rows_law t (config_data t rows) rows).1 (again t sound rows config)

-- the same of a value that is written, unless memory ran out
pub value_law : {A E : Type 0} (r : Result A E) (seen : A → Data) (t : SchemaTree) (rows : Rows) → IfOk r (λ whole. seen whole ≡ config_data t rows)
    → IfOk r (λ whole. IsSound t.nodes → IsConfigOf t rows → config_read t (seen whole) ≡ Ok rows)
value_law (Ok whole) seen t rows is = λ sound config. ap (config_read t) is ∙ round_law t rows sound config
value_law (Err e) seen t rows is = tt

-- the same of what is written as a text
pub text_law : (s : String Global) (t : SchemaTree) (rows : Rows) (d : Data) → d ≡ config_data t rows → (depth d ≤ max_depth → read (string_bytes s) ≡ Some d)
    → IsSound t.nodes → IsConfigOf t rows → depth (config_data t rows) ≤ max_depth → text_read t (string_bytes s) ≡ Ok rows
text_law s t rows d is back sound config deep =
    ap (from_json t) (json_some (string_bytes s) d (IsUtf8-string_bytes s) (back (subst (λ x. depth x ≤ max_depth) (sym is) deep)))
    ∙ ap (config_read t) is ∙ round_law t rows sound config
