-- What an edit does that says remove or nothing of its nodes, and removes nothing above them.
use Rattle.std.proofs.Common.{◌≡◌, ◌⊎◌, List, [], ◌∷◌, ◌++◌, map as each, fold, Bool, true, false, cond, ◌&&◌, ◌||◌, Option, Some, None, if◌then◌else◌, refl, sym, ap, ◌∙◌, inl, inr, append-nil, append_assoc}
use Rattle.std.specs.List.{list_any, flat_map}
use Rattle.std.specs.Option.{option_or}
use Rattle.std.specs.Ordering.{eq_by_cmp}
use Rattle.std.specs.FinMap.{get, empty, get-empty, get-insert, contains_key, entries, entries_sorted, get-entries, find}
use Rattle.nm_base.specs.declared.tag.Tag.{Tag}
use Rattle.nm_types.specs.Path.{PathStep, path_cmp}
use Rattle.nm_types.specs.PathLaws.{paths_total}
use Rattle.nm_types.specs.declared.value.Value.{Value}
use Rattle.nm_proto.specs.declared.message.DefaultOperation.TheVariants as unsaid
use Rattle.nm_schema_tree.specs.Nodes.{SchemaTree}
use Rattle.nm_path.specs.Spelling.{node_of}
use Rattle.nm_config.specs.Rows.{Rows}
use Rattle.nm_config.specs.Under.{is_under, has_under}
use Rattle.nm_validate_rules.specs.Values.{is_same_path}
use Rattle.nm_validate_rules.proofs.Among.{Among}
use Rattle.nm_validate_rules.proofs.Areas.{ends}
use Rattle.nm_validate_rules.proofs.Lists.{among_append}
use Rattle.nm_overlay.proofs.Order.{Place, one}
use Rattle.nm_overlay.proofs.Sorted.{In_order, head_below, tail_sorted, find_below}
use Rattle.nm_edit.specs.declared.operation.Operation.{Operation}
use Rattle.nm_edit.specs.declared.operation.Operation.TheVariants.{Remove}
use Rattle.nm_edit.specs.declared.operation.Effective.TheVariants.{Merge}
use Rattle.nm_edit.specs.declared.edit.EditNode.{EditNode}
use Rattle.nm_edit.specs.declared.standing.Standing.{Standing}
use Rattle.nm_edit.specs.declared.act.Act.{Act}
use Rattle.nm_edit.specs.Words.{brings, clears}
use Rattle.nm_edit.specs.Standing.{Sayings, with_operation, with_node, said, stepped, standing_from, standing}
use Rattle.nm_edit.specs.Acts.{act_of, act_if, acts_at, acts, rows_if, row_of, coming}
use Rattle.nm_edit.specs.Refusals.{is_passed_at, refused_by, refusal_or, first_refusal}
use Rattle.nm_edit.specs.Edited.{gone_if, gone}
use Rattle.nm_edit.specs.Laws.{last_at, goes}
use Rattle.nm_edit_json.specs.declared.nodes.Told.{Told}
use Rattle.nm_edit_json.specs.Whole.{NodeMap, node_at, nodes_in}
use Rattle.nm_undo.specs.Inverse.{Saying}
use Rattle.nm_undo.proofs.Maps.{or_none, or_if, entry_get, is_there}

-- ---- what is done at a node by itself

-- what stands above a node where nothing is said on the way
abbrev pub clear : Standing
clear = record { operation = Merge; is_explicit = false; is_cut = false }

-- what stands at a node, by what is said of it alone
abbrev pub plain : Option Operation → Standing
plain o = stepped o clear

-- what is done at a node, by what is said of it alone
abbrev pub plain_act : Saying → Act
plain_act e = act_of (node_at e) (plain e.1.operation)

-- what is said of a node itself
abbrev pub operation_of : Option Told → Option Operation
operation_of None = None
operation_of (Some told) = told.operation

-- the value that comes at a path
abbrev pub brought_by : Option Told → Option Value
brought_by None = None
brought_by (Some told) = if brings (plain told.operation).operation then told.value else None

-- a node goes
abbrev pub is_gone : Option Operation → Bool
is_gone o = (plain o).is_explicit && clears (plain o).operation

-- a node goes, and a path is at or below it
abbrev pub gone_over : Place → Saying → Bool
gone_over q e = is_gone e.1.operation && is_under e.0 q

-- ---- what is said of paths

put_said : (told : Sayings) (p : Place) (o : Option Operation) (q : Place) → get (with_operation told p o) q ≡ option_or (if is_same_path q p then o else None) (get told q)
put_said told p None q = by (is_same_path q p)
  where
    by : (b : Bool) → get told q ≡ option_or (if b then None else None) (get told q)
    by true = refl
    by false = refl
put_said told p (Some own) q = get-insert paths_total told p own q ∙ by (eq_by_cmp path_cmp q p)
  where
    by : (b : Bool) → cond b (Some own) (get told q) ≡ option_or (if b then Some own else None) (get told q)
    by true = refl
    by false = refl

said_by : (q : Place) (e : Saying) (es : List Saying) (o : Option Operation) → In_order (e ∷ es) → (b : Bool) → eq_by_cmp path_cmp q e.0 ≡ b
    → option_or (operation_of (find path_cmp q es)) (option_or (if b then e.1.operation else None) o) ≡ option_or (operation_of (cond b (Some e.1) (find path_cmp q es))) o
said_by q e es o s true same =
    let none : find path_cmp q es ≡ None = ap (λ (k : Place). find path_cmp k es) (one q e.0 same) ∙ find_below e.0 es (head_below e es s) in
    ap (λ (f : Option Told). option_or (operation_of f) (option_or e.1.operation o)) none
said_by q e es o s false same = refl

said_found : (es : List Saying) → In_order es → (told : Sayings) (q : Place) → get (fold with_node told (each node_at es)) q ≡ option_or (operation_of (find path_cmp q es)) (get told q)
said_found [] s told q = refl
said_found (e ∷ es) s told q =
    said_found es (tail_sorted e es s) (with_operation told e.0 e.1.operation) q
    ∙ ap (option_or (operation_of (find path_cmp q es))) (put_said told e.0 e.1.operation q)
    ∙ said_by q e es (get told q) s (eq_by_cmp path_cmp q e.0) refl

-- what an edit says of a path is what it says of the node there
pub said_is : (m : NodeMap) (q : Place) → get (said (nodes_in m)) q ≡ operation_of (get m q)
said_is m q =
    said_found (entries m) (entries_sorted m) empty q
    ∙ ap (option_or (operation_of (find path_cmp q (entries m)))) (get-empty path_cmp q)
    ∙ or_none (operation_of (find path_cmp q (entries m)))
    ∙ ap operation_of (sym (get-entries m q))

-- ---- what stands at a path

clear_from : (told : Sayings) (above ss : Place) → ((f r : Place) → above ++ ss ≡ f ++ r → get told f ≡ None) → standing_from told clear above ss ≡ clear
clear_from told above [] quiet = refl
clear_from told above (x ∷ xs) quiet =
    ap (λ (o : Option Operation). standing_from told (stepped o clear) (above ++ x ∷ []) xs) (quiet (above ++ x ∷ []) xs (sym (append_assoc above (x ∷ []) xs)))
    ∙ clear_from told (above ++ x ∷ []) xs (λ f r e. quiet f r (sym (append_assoc above (x ∷ []) xs) ∙ e))

standing_last : (told : Sayings) (s : Standing) (above ss : Place) (step : PathStep)
    → standing_from told s above (ss ++ step ∷ []) ≡ stepped (get told ((above ++ ss) ++ step ∷ [])) (standing_from told s above ss)
standing_last told s above [] step = ap (λ (p : Place). stepped (get told (p ++ step ∷ [])) s) (sym (append-nil above))
standing_last told s above (x ∷ xs) step =
    let next = stepped (get told (above ++ x ∷ [])) s in
    standing_last told next (above ++ x ∷ []) xs step
    ∙ ap (λ (p : Place). stepped (get told (p ++ step ∷ [])) (standing_from told next (above ++ x ∷ []) xs)) (append_assoc above (x ∷ []) xs)

-- nothing is said above the nodes of an edit but that they are merged
abbrev pub IsQuiet : NodeMap → Type 0
IsQuiet m = (p f : Place) (step : PathStep) (more : Place) → contains_key m p ≡ true → p ≡ f ++ step ∷ more → operation_of (get m f) ≡ None

plain_if : (o : Option Operation) (n : EditNode) → act_if (plain o) n ≡ act_of n (plain o) ∷ []
plain_if None n = refl
plain_if (Some own) n = refl

each_flat : (f : EditNode → List Act) (es : List Saying) → ((e : Saying) → Among es e → f (node_at e) ≡ plain_act e ∷ []) → flat_map f (each node_at es) ≡ each plain_act es
each_flat f [] h = refl
each_flat f (e ∷ es) h = λ i. h e (inl refl) i ++ each_flat f es (λ x a. h x (inr a)) i

rest_more : (r : Place) (step : PathStep) → (s : PathStep) × (more : Place) × (r ++ step ∷ [] ≡ s ∷ more)
rest_more [] step = (step, [], refl)
rest_more (x ∷ xs) step = (x, xs ++ step ∷ [], refl)

module _ (m : NodeMap) (quiet : IsQuiet m) (top : get m [] ≡ None) where
  above_clear : (p above : Place) (step : PathStep) → contains_key m p ≡ true → p ≡ above ++ step ∷ [] → standing_from (said (nodes_in m)) clear [] above ≡ clear
  above_clear p above step there e = clear_from (said (nodes_in m)) [] above (λ f r is.
      let h = rest_more r step in
      said_is m f
      ∙ quiet p f h.0 h.1 there (e ∙ ap (λ (x : Place). x ++ step ∷ []) is ∙ append_assoc f r (step ∷ []) ∙ ap (λ (x : Place). f ++ x) h.2))

  stands_at : (e : Saying) → get m e.0 ≡ Some e.1 → (p : Place) → e.0 ≡ p → standing (said (nodes_in m)) unsaid.Merge p ≡ plain e.1.operation
  stands_at e at [] is = let none : None ≡ Some e.1 = sym top ∙ ap (get m) (sym is) ∙ at in absurd (cc)
  stands_at e at (s ∷ ss) is =
      let d = ends s ss in
      let p : e.0 ≡ d.above ++ d.step ∷ [] = is ∙ d.is in
      let there : contains_key m e.0 ≡ true = is_there (get m e.0) e.1 at in
      ap (standing (said (nodes_in m)) unsaid.Merge) d.is
      ∙ standing_last (said (nodes_in m)) clear [] d.above d.step
      ∙ ap (stepped (get (said (nodes_in m)) (d.above ++ d.step ∷ []))) (above_clear e.0 d.above d.step there p)
      ∙ ap (λ (o : Option Operation). stepped o clear) (ap (get (said (nodes_in m))) (sym p) ∙ said_is m e.0 ∙ ap operation_of at)

  -- what is done is what is said of each node by itself
  pub acts_are : acts (nodes_in m) unsaid.Merge ≡ each plain_act (entries m)
  acts_are = each_flat (acts_at (said (nodes_in m)) unsaid.Merge) (entries m) (λ e a.
      let at : get m e.0 ≡ Some e.1 = entry_get m e.0 e.1 a in
      ap (λ (s : Standing). act_if s (node_at e)) (stands_at e at e.0 refl) ∙ plain_if e.1.operation (node_at e))

-- ---- what comes

rows_last : (b : Bool) (p : Place) (v : Option Value) (rest : List (Place × Value)) (q : Place) → last_at (rows_if b p v ++ rest) q ≡ option_or (last_at rest q) (if is_same_path q p then (if b then v else None) else None)
rows_last false p v rest q = sym (or_if (last_at rest q) (is_same_path q p))
rows_last true p None rest q = sym (or_if (last_at rest q) (is_same_path q p))
rows_last true p (Some w) rest q = refl

comes_by : (q : Place) (e : Saying) (es : List Saying) → In_order (e ∷ es) → (b : Bool) → eq_by_cmp path_cmp q e.0 ≡ b
    → option_or (brought_by (find path_cmp q es)) (if b then brought_by (Some e.1) else None) ≡ brought_by (cond b (Some e.1) (find path_cmp q es))
comes_by q e es s true same =
    let none : find path_cmp q es ≡ None = ap (λ (k : Place). find path_cmp k es) (one q e.0 same) ∙ find_below e.0 es (head_below e es s) in
    ap (λ (f : Option Told). option_or (brought_by f) (brought_by (Some e.1))) none
comes_by q e es s false same = or_none (brought_by (find path_cmp q es))

comes_found : (es : List Saying) → In_order es → (q : Place) → last_at (coming (each plain_act es)) q ≡ brought_by (find path_cmp q es)
comes_found [] s q = refl
comes_found (e ∷ es) s q =
    rows_last (brings (plain e.1.operation).operation) e.0 e.1.value (coming (each plain_act es)) q
    ∙ ap (λ (o : Option Value). option_or o (if is_same_path q e.0 then brought_by (Some e.1) else None)) (comes_found es (tail_sorted e es s) q)
    ∙ comes_by q e es s (eq_by_cmp path_cmp q e.0) refl

-- the value that comes at a path is that of its node
pub comes_is : (m : NodeMap) (q : Place) → last_at (coming (each plain_act (entries m))) q ≡ brought_by (get m q)
comes_is m q = comes_found (entries m) (entries_sorted m) q ∙ ap brought_by (sym (get-entries m q))

-- a row that comes is that of a node
pub record Came (es : List Saying) (row : Place × Value) : Type 0 where
  pub saying : Saying
  pub among : Among es saying
  pub at : row.0 ≡ saying.0
  pub worth : brought_by (Some saying.1) ≡ Some row.1

rows_are : (b : Bool) (p : Place) (v : Option Value) (row : Place × Value) → Among (rows_if b p v) row → (row.0 ≡ p) × ((if b then v else None) ≡ Some row.1)
rows_are false p v row a = absurd a
rows_are true p None row a = absurd a
rows_are true p (Some w) row (inl same) = (ap (λ (r : Place × Value). r.0) same, ap (λ (r : Place × Value). Some r.1) (sym same))
rows_are true p (Some w) row (inr a) = absurd a

came_later : (e : Saying) (es : List Saying) (row : Place × Value) → Came es row → Came (e ∷ es) row
came_later e es row h = record { saying = h.saying; among = inr h.among; at = h.at; worth = h.worth }

pub came : (es : List Saying) (row : Place × Value) → Among (coming (each plain_act es)) row → Came es row
came [] row a = absurd a
came (e ∷ es) row a = elim (among_append (row_of (plain_act e)) (coming (each plain_act es)) row a) [
  | inl now ↦
      let h = rows_are (brings (plain e.1.operation).operation) e.0 e.1.value row now in
      record { saying = e; among = inl refl; at = h.0; worth = h.1 }
  | inr later ↦ came_later e es row (came es row later)
]

-- ---- what goes

goes_if : (b : Bool) (p : Place) (rest : List Place) (q : Place) → goes (gone_if b p ++ rest) q ≡ ((b && is_under p q) || goes rest q)
goes_if true p rest q = refl
goes_if false p rest q = refl

-- a path goes where it is at or below a node that does
pub goes_is : (es : List Saying) (q : Place) → goes (gone (each plain_act es)) q ≡ list_any (gone_over q) es
goes_is [] q = refl
goes_is (e ∷ es) q = goes_if (is_gone e.1.operation) e.0 (gone (each plain_act es)) q ∙ ap (λ b. gone_over q e || b) (goes_is es q)

-- ---- what is refused

-- an operation that is never refused
abbrev pub IsMild : Option Operation → Type 0
IsMild o = (o ≡ None) ⊎ (o ≡ Some Remove)

mild_passes : (o : Option Operation) → IsMild o → (exists passed : Bool) → refused_by (plain o).operation exists passed ≡ None
mild_passes o (inl is) exists passed = ap (λ (p : Option Operation). refused_by (plain p).operation exists passed) is
mild_passes o (inr is) exists passed = ap (λ (p : Option Operation). refused_by (plain p).operation exists passed) is

pub none_refused : (t : SchemaTree) (now : Rows) (es : List Saying) → ((e : Saying) → Among es e → IsMild e.1.operation) → first_refusal t now (each plain_act es) ≡ None
none_refused t now [] mild = refl
none_refused t now (e ∷ es) mild =
    ap (λ (o : Option Tag). refusal_or t e.0 o (first_refusal t now (each plain_act es)))
    (mild_passes e.1.operation (mild e (inl refl)) (has_under now e.0) (is_passed_at t.nodes (node_of t e.0)))
    ∙ none_refused t now es (λ x a. mild x (inr a))
