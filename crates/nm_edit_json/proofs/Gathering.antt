-- Findings that are noted one after another.
use Rattle.std.proofs.Common.{◌≡◌, ℕ, ◌+◌, ◌<◌, ◌≤◌, List, [], ◌∷◌, ◌++◌, length, map, drop, get_or, Bool, true, false, ◌==◌, nat_lt, if◌then◌else◌, slice_get, Option, Some, None, option_map, Bor, Result, Ok, Err, String, string_bytes, refl, sym, ap, ◌∙◌, arith, drop-cons, zero, suc}
use Rattle.std.specs.Prelude.{MatchOption}
use Rattle.std.proofs.lemmas.Grind.{fold-append}
use Rattle.std.proofs.lemmas.List.{drop_all, length-map}
use Rattle.std.proofs.lemmas.Bool.Decides.{nat_tests}
use Rattle.std.specs.declared.alloc.Global.{Global}
use Rattle.serde_json.specs.Data.{Data, Members, object, Items, no_items}
use Rattle.serde_json.specs.View.{view, items_view, members_view}
use Rattle.serde_json.specs.declared.value.Value.{Value}
use Rattle.nm_types.specs.Path.{PathStep, keys}
use Rattle.nm_types.specs.LeafType.{TypeOfLeaf}
use Rattle.nm_types.specs.declared.value.Value.{Value as LeafValue}
use Rattle.nm_types.specs.declared.value.Value.TheVariants.{Present}
use Rattle.nm_schema_tree.specs.Nodes.{SchemaTree, is_key}
use Rattle.nm_json.specs.declared.fault.Fault.{Fault as JsonFault}
use Rattle.nm_json.specs.Values.{leaf_value}
use Rattle.nm_json.specs.Findings.{Spot, bare, step_below, node_named, key_read, values_of, entry_path}
use Rattle.nm_edit_json.specs.declared.said.Said.{Said}
use Rattle.nm_edit_json.specs.declared.gathered.Gathered.{Gathered}
use Rattle.nm_edit_json.specs.Noted.{noted, gathered}
use Rattle.nm_edit_json.specs.Findings.{Finding, Around, Wanted, ignored, container, list_item, wanted_at, wanted_of, node_found, presence_value, inside, own_said, held_by, first, later, said_next, is_longer, value_found, values_found, misplaced_found, noted_found, named_found, name_found, annotated, wanted, faults_of, found, items_found, members_found}

pub gathered-none : (g : Gathered) → gathered g [] ≡ g
unfolding gathered
gathered-none g = refl

pub gathered-append : (g : Gathered) (xs ys : List Finding) → gathered g (xs ++ ys) ≡ gathered (gathered g xs) ys
unfolding gathered
gathered-append g xs ys = fold-append noted g xs ys

-- findings, and then others
pub both : (g one two : Gathered) (xs ys : List Finding) → one ≡ gathered g xs → two ≡ gathered one ys → two ≡ gathered g (xs ++ ys)
both g one two xs ys a b = b ∙ ap (λ u. gathered u ys) a ∙ sym (gathered-append g xs ys)

-- what is left, once a part of it is noted
pub further : (g h whole : Gathered) (xs ys : List Finding) → h ≡ gathered g xs → gathered g (xs ++ ys) ≡ whole → gathered h ys ≡ whole
further g h whole xs ys step before = ap (λ u. gathered u ys) step ∙ sym (gathered-append g xs ys) ∙ before

pub drop_next : {A : Type 0} (xs : List A) (i : ℕ) (d : A) → i < length xs → drop i xs ≡ get_or xs i d ∷ drop (i + 1) xs
drop_next xs i d within =
    let one : suc i ≡ i + 1 = omega arith in
    drop-cons xs i d within ∙ ap (λ n. get_or xs i d ∷ drop n xs) one

-- ---- items

-- an item more
pub items_step : (t : SchemaTree) (w : Wanted) (vs : List Value) (i : ℕ) (v : Value) (g h whole : Gathered) → i < length vs → v ≡ get_or vs i v
    → h ≡ gathered g (found t w (view v)) → gathered g (items_found t w (items_view (drop i vs))) ≡ whole
    → gathered h (items_found t w (items_view (drop (i + 1) vs))) ≡ whole
items_step t w vs i v g h whole within is step before =
    let rest = items_found t w (items_view (drop (i + 1) vs)) in
    further g h whole (found t w (view v)) rest step
    (ap (λ u. gathered g (found t w (view u) ++ rest)) is ∙ ap (λ us. gathered g (items_found t w (items_view us))) (sym (drop_next vs i v within)) ∙ before)

-- no item is left
pub items_end : (t : SchemaTree) (w : Wanted) (vs : List Value) (i : ℕ) (g whole : Gathered) → length vs ≤ i → gathered g (items_found t w (items_view (drop i vs))) ≡ whole → g ≡ whole
items_end t w vs i g whole past before =
    sym (gathered-none g) ∙ ap (λ us. gathered g (items_found t w (items_view us))) (sym (drop_all i vs past)) ∙ before

-- ---- keys

abbrev pub Reads : Type 0
Reads = ℕ → Result LeafValue JsonFault

faults_first : (r : Result LeafValue JsonFault) (rs : List (Result LeafValue JsonFault)) → faults_of (r ∷ rs) ≡ faults_of (r ∷ []) ++ faults_of rs
faults_first (Ok v) rs = refl
faults_first (Err f) rs = refl

-- the faults of a key more
pub faults_step : (f : Reads) (ks : List ℕ) (i : ℕ) (g h whole : Gathered) → i < length ks → h ≡ gathered g (faults_of (f (get_or ks i 0) ∷ []))
    → gathered g (faults_of (map f (drop i ks))) ≡ whole → gathered h (faults_of (map f (drop (i + 1) ks))) ≡ whole
faults_step f ks i g h whole within step before =
    let k = get_or ks i 0 in
    further g h whole (faults_of (f k ∷ [])) (faults_of (map f (drop (i + 1) ks))) step
    (ap (gathered g) (sym (faults_first (f k) (map f (drop (i + 1) ks)))) ∙ ap (λ us. gathered g (faults_of (map f us))) (sym (drop_next ks i 0 within)) ∙ before)

-- no key is left
pub faults_end : (f : Reads) (ks : List ℕ) (i : ℕ) (g whole : Gathered) → length ks ≤ i → gathered g (faults_of (map f (drop i ks))) ≡ whole → g ≡ whole
faults_end f ks i g whole past before =
    sym (gathered-none g) ∙ ap (λ us. gathered g (faults_of (map f us))) (sym (drop_all i ks past)) ∙ before

-- ---- members

-- a member more
pub members_step : (t : SchemaTree) (o : Around) (e : String Global × Value) (es fs : List (String Global × Value)) (name : List ℕ) (g h whole : Gathered) → fs ≡ e ∷ es → name ≡ string_bytes e.0
    → h ≡ gathered g (name_found t o name (annotated name) ++ found t (wanted t o name (annotated name)) (view e.1))
    → gathered g (members_found t o (members_view fs)) ≡ whole → gathered h (members_found t o (members_view es)) ≡ whole
members_step t o e es fs name g h whole left n step before =
    let part = λ (x : List ℕ). name_found t o x (annotated x) ++ found t (wanted t o x (annotated x)) (view e.1) in
    further g h whole (part (string_bytes e.0)) (members_found t o (members_view es)) (step ∙ ap (λ x. gathered g (part x)) n)
    (ap (λ us. gathered g (members_found t o (members_view us))) (sym left) ∙ before)

-- no member is left
pub members_end : (t : SchemaTree) (o : Around) (es : List (String Global × Value)) (g whole : Gathered) → es ≡ [] → gathered g (members_found t o (members_view es)) ≡ whole → g ≡ whole
members_end t o es g whole none before = sym (gathered-none g) ∙ ap (λ us. gathered g (members_found t o (members_view us))) (sym none) ∙ before

-- what isn't looked at holds nothing
pub child_ignored : (t : SchemaTree) (w : Wanted) (d : Data) (g : Gathered) → w ≡ ignored → g ≡ gathered g (found t w d)
child_ignored t w d g e = sym (gathered-none g) ∙ ap (λ x. gathered g (found t x d)) (sym e)

pub wanted_nowhere : (t : SchemaTree) (o : Around) (at : Option ℕ) → at ≡ None → wanted_at t o at ≡ ignored
wanted_nowhere t o at e = ap (wanted_at t o) e

pub wanted_key : (t : SchemaTree) (o : Around) (at : Option ℕ) (i : ℕ) → at ≡ Some i → is_key t.nodes i ≡ true → wanted_at t o at ≡ ignored
wanted_key t o at i e key = ap (wanted_at t o) e ∙ ap (λ b. if b then ignored else wanted_of o i (slice_get t.nodes i)) key

pub wanted_past : (t : SchemaTree) (o : Around) (at : Option ℕ) (i : ℕ) → at ≡ Some i → is_key t.nodes i ≡ false → slice_get t.nodes i ≡ None → wanted_at t o at ≡ ignored
wanted_past t o at i e key none =
    ap (wanted_at t o) e ∙ ap (λ b. if b then ignored else wanted_of o i (slice_get t.nodes i)) key ∙ ap (wanted_of o i) none

-- ---- entries of leaf-lists

first_at : (ns : List Value) (i : ℕ) → first (items_view (drop i ns)) ≡ option_map view (slice_get ns i)
first_at [] zero = refl
first_at [] (suc i) = refl
first_at (n ∷ ns) zero = refl
first_at (n ∷ ns) (suc i) = first_at ns i

later_at : (ns : List Value) (i : ℕ) → later (items_view (drop i ns)) ≡ items_view (drop (suc i) ns)
later_at [] zero = refl
later_at [] (suc i) = refl
later_at (n ∷ ns) zero = refl
later_at (n ∷ ns) (suc i) = later_at ns i

-- an entry more
pub entries_step : (s : Spot) (l : TypeOfLeaf) (held : Bool) (vs ns : List Value) (i : ℕ) (v : Value) (there : Option Data) (said : Said) (g h whole : Gathered) → i < length vs → v ≡ get_or vs i v
    → there ≡ option_map view (slice_get ns i) → said ≡ said_next there → h ≡ gathered g (value_found s held said (leaf_value l (view v)))
    → gathered g (values_found s l held (items_view (drop i vs)) (items_view (drop i ns))) ≡ whole
    → gathered h (values_found s l held (items_view (drop (i + 1) vs)) (items_view (drop (i + 1) ns))) ≡ whole
entries_step s l held vs ns i v there said g h whole within is n says step before =
    let one : suc i ≡ i + 1 = omega arith in
    let more = values_found s l held (items_view (drop (i + 1) vs)) (items_view (drop (i + 1) ns)) in
    let this = λ (x : Said) (u : Value). value_found s held x (leaf_value l (view u)) in
    let told : said ≡ said_next (first (items_view (drop i ns))) = says ∙ ap said_next (n ∙ sym (first_at ns i)) in
    let others : items_view (drop (i + 1) ns) ≡ later (items_view (drop i ns)) = ap (λ k. items_view (drop k ns)) (sym one) ∙ sym (later_at ns i) in
    further g h whole (this said v) more step
    (ap (λ u. gathered g (this said u ++ more)) is ∙ ap (λ x. gathered g (this x (get_or vs i v) ++ more)) told
    ∙ ap (λ ys. gathered g (this (said_next (first (items_view (drop i ns)))) (get_or vs i v) ++ values_found s l held (items_view (drop (i + 1) vs)) ys)) others
    ∙ ap (λ us. gathered g (values_found s l held (items_view us) (items_view (drop i ns)))) (sym (drop_next vs i v within)) ∙ before)

-- no entry is left
pub entries_end : (s : Spot) (l : TypeOfLeaf) (held : Bool) (vs ns : List Value) (i : ℕ) (g whole : Gathered) → length vs ≤ i
    → gathered g (values_found s l held (items_view (drop i vs)) (items_view (drop i ns))) ≡ whole → g ≡ whole
entries_end s l held vs ns i g whole past before =
    sym (gathered-none g) ∙ ap (λ us. gathered g (values_found s l held (items_view us) (items_view (drop i ns)))) (sym (drop_all i vs past)) ∙ before

-- what stands at a position, as JSON
pub at_view : (r : Option (Bor Value)) (x : Option Value) → MatchOption r (x ≡ None) (λ v. x ≡ Some v.now) → option_map (λ part. view part.now) r ≡ option_map view x
at_view None x e = sym (ap (option_map view) e)
at_view (Some v) x e = sym (ap (option_map view) e)

-- there are more annotations than entries
longer_by : (ns vs : List Value) → is_longer (items_view ns) (items_view vs) ≡ nat_lt (length vs) (length ns)
longer_by [] [] = refl
longer_by [] (v ∷ vs) = grind (arith, nat_tests)
longer_by (n ∷ ns) [] = grind (arith, nat_tests)
longer_by (n ∷ ns) (v ∷ vs) = longer_by ns vs ∙ steps (length vs) (length ns)
  where
    steps : (a b : ℕ) → nat_lt a b ≡ nat_lt (suc a) (suc b)
    steps a b = grind (arith, nat_tests)

-- entries with annotations that are none
pub none_noted : (s : Spot) (l : TypeOfLeaf) (held : Bool) (ds : Items) (ns : List Value) (g one : Gathered) (notes : Option Items) → notes ≡ None → ns ≡ [] → one ≡ gathered g (misplaced_found (bare s) true)
    → gathered one (values_found s l held ds (items_view ns)) ≡ gathered g (noted_found s l held notes ds)
none_noted s l held ds ns g one notes is none first =
    ap (λ us. gathered one (values_found s l held ds (items_view us))) none
    ∙ both g one _ (misplaced_found (bare s) true) (values_found s l held ds no_items) first refl
    ∙ ap (λ x. gathered g (noted_found s l held x ds)) (sym is)

-- entries with annotations, which may be too many
pub some_noted : (s : Spot) (l : TypeOfLeaf) (held : Bool) (vs ns : List Value) (g one : Gathered) (notes : Option Items) → notes ≡ Some (items_view ns)
    → one ≡ gathered g (misplaced_found (bare s) (nat_lt (length vs) (length ns)))
    → gathered one (values_found s l held (items_view vs) (items_view ns)) ≡ gathered g (noted_found s l held notes (items_view vs))
some_noted s l held vs ns g one notes is first =
    both g one _ (misplaced_found (bare s) (is_longer (items_view ns) (items_view vs))) (values_found s l held (items_view vs) (items_view ns))
    (first ∙ ap (λ b. gathered g (misplaced_found (bare s) b)) (sym (longer_by ns vs))) refl
    ∙ ap (λ x. gathered g (noted_found s l held x (items_view vs))) (sym is)

-- ---- containers and entries

-- a container, and then what is in it
pub container_whole : (t : SchemaTree) (s : Spot) (presence held : Bool) (d : Data) (ms : Members) (g one two : Gathered) (o : Around) → d ≡ object ms → o ≡ inside (bare s) s.number held ms
    → one ≡ gathered g (node_found (bare s) held (own_said ms) (presence_value presence)) → two ≡ gathered one (members_found t o ms) → two ≡ gathered g (found t (container s presence held) d)
container_whole t s presence held d ms g one two o is around first second =
    both g one two (node_found (bare s) held (own_said ms) (presence_value presence)) (members_found t (inside (bare s) s.number held ms) ms) first
    (second ∙ ap (λ x. gathered one (members_found t x ms)) around)
    ∙ ap (λ e. gathered g (found t (container s presence held) e)) (sym is)

abbrev pub reads : SchemaTree → List PathStep → Members → List ℕ → List (Result LeafValue JsonFault)
reads t path ms ks = map (key_read t path ms) ks

same_length : (a b : ℕ) → a ≡ b → (a == b) ≡ true
same_length a b e = grind (arith, nat_tests)

-- an entry whose keys are all there, and then what is in it
pub entry_whole : (t : SchemaTree) (s : Spot) (ks : List ℕ) (held : Bool) (d : Data) (ms : Members) (g one two three : Gathered) (path : List PathStep) (vs : List LeafValue) → d ≡ object ms
    → vs ≡ values_of (reads t (bare s) ms ks) → one ≡ gathered g (faults_of (reads t (bare s) ms ks)) → length vs ≡ length ks → path ≡ step_below s.above s.node (keys vs)
    → two ≡ gathered one (node_found path held (own_said ms) (Some Present)) → three ≡ gathered two (members_found t (inside path s.number held ms) ms)
    → three ≡ gathered g (found t (list_item s ks held) d)
entry_whole t s ks held d ms g one two three path vs is v o l p w u =
    let rs = reads t (bare s) ms ks in
    let there : path ≡ entry_path s rs = p ∙ ap (λ us. step_below s.above s.node (keys us)) v in
    let body = λ (q : List PathStep). node_found q held (own_said ms) (Some Present) ++ members_found t (inside q s.number held ms) ms in
    let count : length (values_of rs) ≡ length rs = ap length (sym v) ∙ l ∙ sym (length-map ks (key_read t (bare s) ms)) in
    both g one three (faults_of rs) (body path) o
    (both one two three (node_found path held (own_said ms) (Some Present)) (members_found t (inside path s.number held ms) ms) w u)
    ∙ ap (λ q. gathered g (faults_of rs ++ body q)) there
    ∙ ap (λ b. gathered g (faults_of rs ++ (if b then body (entry_path s rs) else []))) (sym (same_length _ _ count))
    ∙ ap (λ e. gathered g (found t (list_item s ks held) e)) (sym is)

-- ---- as the code says it

-- a member that is no annotation
pub member_plain : (t : SchemaTree) (o : Around) (name : List ℕ) (at : Option ℕ) (d : Data) (g one : Gathered) → annotated name ≡ None → at ≡ node_named t o.within name → one ≡ gathered g (named_found t o name at)
    → gathered one (found t (wanted_at t o at) d) ≡ gathered g (name_found t o name (annotated name) ++ found t (wanted t o name (annotated name)) d)
member_plain t o name at d g one plain leads first =
    both g one _ (named_found t o name at) (found t (wanted_at t o at) d) first refl
    ∙ ap (λ x. gathered g (named_found t o name x ++ found t (wanted_at t o x) d)) leads
    ∙ ap (λ a. gathered g (name_found t o name a ++ found t (wanted t o name a) d)) (sym plain)

-- an object of a node, by what was asked of it
abbrev Of : List PathStep → ℕ → Bool → Members → Around
Of path number held ms = record { above = path; within = Some number; held = held; all = ms }

of_inside : (path : List PathStep) (number : ℕ) (held h : Bool) (said : Said) (ms : Members) → said ≡ own_said ms → h ≡ held_by held said → Of path number h ms ≡ inside path number held ms
of_inside path number held h said ms says e = ap (λ b. Of path number b ms) (e ∙ ap (held_by held) says)

-- a container, and then what is in it
pub container_all : (t : SchemaTree) (s : Spot) (presence held : Bool) (d : Data) (ms : Members) (g one : Gathered) (said : Said) (value : Option LeafValue) (copied path : List PathStep) (h : Bool)
    → d ≡ object ms → said ≡ own_said ms → value ≡ presence_value presence → path ≡ bare s → copied ≡ path → h ≡ held_by held said → one ≡ gathered g (node_found copied held said value)
    → gathered one (members_found t (Of path s.number h ms) ms) ≡ gathered g (found t (container s presence held) d)
container_all t s presence held d ms g one said value copied path h is says v p c e first =
    let around : Of path s.number h ms ≡ inside (bare s) s.number held ms = of_inside path s.number held h said ms says e ∙ ap (λ q. inside q s.number held ms) p in
    container_whole t s presence held d ms g one _ (Of path s.number h ms) is around
    (first ∙ ap (λ q. gathered g (node_found q held said value)) (c ∙ p) ∙ ap (λ x. gathered g (node_found (bare s) held x value)) says
    ∙ ap (λ u. gathered g (node_found (bare s) held (own_said ms) u)) v) refl

-- an entry whose keys are all there, and then what is in it
pub entry_all : (t : SchemaTree) (s : Spot) (ks : List ℕ) (held : Bool) (d : Data) (ms : Members) (g one two : Gathered) (said : Said) (copied path : List PathStep) (h : Bool) (vs : List LeafValue)
    → d ≡ object ms → vs ≡ values_of (reads t (bare s) ms ks) → one ≡ gathered g (faults_of (reads t (bare s) ms ks)) → length vs ≡ length ks → path ≡ step_below s.above s.node (keys vs) → copied ≡ path
    → said ≡ own_said ms → h ≡ held_by held said → two ≡ gathered one (node_found copied held said (Some Present))
    → gathered two (members_found t (Of path s.number h ms) ms) ≡ gathered g (found t (list_item s ks held) d)
entry_all t s ks held d ms g one two said copied path h vs is v o l p c says e first =
    entry_whole t s ks held d ms g one two _ path vs is v o l p
    (first ∙ ap (λ q. gathered one (node_found q held said (Some Present))) c ∙ ap (λ x. gathered one (node_found path held x (Some Present))) says)
    (ap (λ x. gathered two (members_found t x ms)) (of_inside path s.number held h said ms says e))
