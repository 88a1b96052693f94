-- Findings that are noted one after another.
use Rattle.std.proofs.Common.{◌≡◌, ℕ, ◌+◌, ◌<◌, ◌≤◌, List, [], ◌∷◌, ◌++◌, length, map, drop, get_or, Bool, true, false, ◌==◌, if◌then◌else◌, slice_get, Option, Some, None, Result, Ok, Err, String, string_bytes, refl, sym, ap, ◌∙◌, arith, drop-cons, append_assoc, suc}
use Rattle.std.proofs.lemmas.Grind.{fold-append}
use Rattle.std.proofs.lemmas.List.{append-nil, drop_all, length-map}
use Rattle.std.proofs.lemmas.Bool.Decides.{nat_tests}
use Rattle.std.specs.declared.alloc.Global.{Global}
use Rattle.serde_json.specs.Data.{Data, Members, object}
use Rattle.serde_json.specs.View.{view, items_view, members_view}
use Rattle.serde_json.specs.declared.value.Value.{Value}
use Rattle.nm_types.specs.Path.{PathStep, keys}
use Rattle.nm_types.specs.declared.value.Value.{Value as LeafValue}
use Rattle.nm_types.specs.declared.value.Value.TheVariants.{Present}
use Rattle.nm_schema_tree.specs.Nodes.{SchemaTree, is_key}
use Rattle.nm_json.specs.declared.fault.Fault.{Fault}
use Rattle.nm_json.specs.Noted.{Gathered, noted, gathered}
use Rattle.nm_json.specs.Findings.{Finding, row, Spot, bare, step_below, Wanted, ignored, container, list_item, wanted, wanted_of, presence_found, entry_path, key_read, found, items_found, members_found, named_found, name_found, node_named, is_twice, values_of, faults_of}

pub gathered-none : (g : Gathered) → gathered g [] ≡ g
unfolding gathered
gathered-none g = refl

pub gathered-cons : (g : Gathered) (f : Finding) (fs : List Finding) → gathered g (f ∷ fs) ≡ gathered (noted g f) fs
unfolding gathered
gathered-cons g f fs = refl

pub gathered-append : (g : Gathered) (xs ys : List Finding) → gathered g (xs ++ ys) ≡ gathered (gathered g xs) ys
unfolding gathered
gathered-append g xs ys = fold-append noted g xs ys

drop_next : {A : Type 0} (xs : List A) (i : ℕ) (d : A) → i < length xs → drop i xs ≡ get_or xs i d ∷ drop (i + 1) xs
drop_next xs i d within =
    let one : suc i ≡ i + 1 = omega arith in
    drop-cons xs i d within ∙ ap (λ n. get_or xs i d ∷ drop n xs) one

-- an item more
pub items_step : (t : SchemaTree) (w : Wanted) (vs : List Value) (i : ℕ) (v : Value) (g h whole : Gathered) → i < length vs → v ≡ get_or vs i v
    → h ≡ gathered g (found t w (view v)) → gathered g (items_found t w (items_view (drop i vs))) ≡ whole
    → gathered h (items_found t w (items_view (drop (i + 1) vs))) ≡ whole
items_step t w vs i v g h whole within is step before =
    let next = drop_next vs i v within in
    let here : gathered g (found t w (view v) ++ items_found t w (items_view (drop (i + 1) vs))) ≡ whole =
    ap (λ u. gathered g (found t w (view u) ++ items_found t w (items_view (drop (i + 1) vs)))) is ∙ ap (λ us. gathered g (items_found t w (items_view us))) (sym next) ∙ before in
    ap (λ k. gathered k (items_found t w (items_view (drop (i + 1) vs)))) step ∙ sym (gathered-append g (found t w (view v)) (items_found t w (items_view (drop (i + 1) vs)))) ∙ here

-- no item is left
pub items_end : (t : SchemaTree) (w : Wanted) (vs : List Value) (i : ℕ) (g whole : Gathered) → length vs ≤ i → gathered g (items_found t w (items_view (drop i vs))) ≡ whole → g ≡ whole
items_end t w vs i g whole past before =
    let none : drop i vs ≡ [] = drop_all i vs past in
    sym (gathered-none g) ∙ ap (λ us. gathered g (items_found t w (items_view us))) (sym none) ∙ before

-- ---- keys

abbrev pub Reads : Type 0
Reads = ℕ → Result LeafValue Fault

values_first : (r : Result LeafValue Fault) (rs : List (Result LeafValue Fault)) → values_of (r ∷ rs) ≡ values_of (r ∷ []) ++ values_of rs
values_first (Ok v) rs = refl
values_first (Err f) rs = refl

faults_first : (r : Result LeafValue Fault) (rs : List (Result LeafValue Fault)) → faults_of (r ∷ rs) ≡ faults_of (r ∷ []) ++ faults_of rs
faults_first (Ok v) rs = refl
faults_first (Err f) rs = refl

-- the values of a key more
pub values_step : (f : Reads) (ks : List ℕ) (i : ℕ) (vs ws whole : List LeafValue) → i < length ks → ws ≡ vs ++ values_of (f (get_or ks i 0) ∷ [])
    → vs ++ values_of (map f (drop i ks)) ≡ whole → ws ++ values_of (map f (drop (i + 1) ks)) ≡ whole
values_step f ks i vs ws whole within step before =
    let k = get_or ks i 0 in
    let rest = values_of (map f (drop (i + 1) ks)) in
    ap (λ us. us ++ rest) step ∙ append_assoc vs (values_of (f k ∷ [])) rest ∙ ap (λ us. vs ++ us) (sym (values_first (f k) (map f (drop (i + 1) ks))))
    ∙ ap (λ us. vs ++ values_of (map f us)) (sym (drop_next ks i 0 within)) ∙ before

-- the faults of a key more
pub faults_step : (f : Reads) (ks : List ℕ) (i : ℕ) (g h whole : Gathered) → i < length ks → h ≡ gathered g (faults_of (f (get_or ks i 0) ∷ []))
    → gathered g (faults_of (map f (drop i ks))) ≡ whole → gathered h (faults_of (map f (drop (i + 1) ks))) ≡ whole
faults_step f ks i g h whole within step before =
    let k = get_or ks i 0 in
    let rest = faults_of (map f (drop (i + 1) ks)) in
    ap (λ u. gathered u rest) step ∙ sym (gathered-append g (faults_of (f k ∷ [])) rest) ∙ ap (gathered g) (sym (faults_first (f k) (map f (drop (i + 1) ks))))
    ∙ ap (λ us. gathered g (faults_of (map f us))) (sym (drop_next ks i 0 within)) ∙ before

-- no key is left
pub faults_end : (f : Reads) (ks : List ℕ) (i : ℕ) (g whole : Gathered) → length ks ≤ i → gathered g (faults_of (map f (drop i ks))) ≡ whole → g ≡ whole
faults_end f ks i g whole past before =
    let none : drop i ks ≡ [] = drop_all i ks past in
    sym (gathered-none g) ∙ ap (λ us. gathered g (faults_of (map f us))) (sym none) ∙ before

-- ---- members

-- a member more
pub members_step : (t : SchemaTree) (above : List PathStep) (within : Option ℕ) (all : Members) (e : String Global × Value) (es : List (String Global × Value)) (g one two whole : Gathered)
    → one ≡ gathered g (name_found t above within all (string_bytes e.0)) → two ≡ gathered one (found t (wanted t above (node_named t within (string_bytes e.0))) (view e.1))
    → gathered g (members_found t above within all (members_view (e ∷ es))) ≡ whole → gathered two (members_found t above within all (members_view es)) ≡ whole
members_step t above within all e es g one two whole first second before =
    let name = name_found t above within all (string_bytes e.0) in
    let value = found t (wanted t above (node_named t within (string_bytes e.0))) (view e.1) in
    let rest = members_found t above within all (members_view es) in
    let both : two ≡ gathered g (name ++ value) = second ∙ ap (λ u. gathered u value) first ∙ sym (gathered-append g name value) in
    ap (λ u. gathered u rest) both ∙ sym (gathered-append g (name ++ value) rest) ∙ before

-- the same, by what was asked of the member's name
pub members_next : (t : SchemaTree) (above : List PathStep) (within : Option ℕ) (all : Members) (e : String Global × Value) (es fs : List (String Global × Value)) (g one two whole : Gathered)
    (name : List ℕ) (twice : Bool) (at : Option ℕ) → fs ≡ e ∷ es → name ≡ string_bytes e.0 → twice ≡ is_twice within name all → at ≡ node_named t within name
    → one ≡ gathered g (named_found t above twice name at) → two ≡ gathered one (found t (wanted t above at) (view e.1))
    → gathered g (members_found t above within all (members_view fs)) ≡ whole → gathered two (members_found t above within all (members_view es)) ≡ whole
members_next t above within all e es fs g one two whole name twice at left n w a first second before =
    let named : one ≡ gathered g (name_found t above within all (string_bytes e.0)) =
    first ∙ ap (λ b. gathered g (named_found t above b name at)) w ∙ ap (λ x. gathered g (named_found t above (is_twice within name all) name x)) a
    ∙ ap (λ q. gathered g (name_found t above within all q)) n in
    let read : two ≡ gathered one (found t (wanted t above (node_named t within (string_bytes e.0))) (view e.1)) =
    second ∙ ap (λ x. gathered one (found t (wanted t above x) (view e.1))) (a ∙ ap (node_named t within) n) in
    members_step t above within all e es g one two whole named read (ap (λ us. gathered g (members_found t above within all (members_view us))) (sym left) ∙ before)

-- no member is left
pub members_end : (t : SchemaTree) (above : List PathStep) (within : Option ℕ) (all : Members) (es : List (String Global × Value)) (g whole : Gathered) → es ≡ []
    → gathered g (members_found t above within all (members_view es)) ≡ whole → g ≡ whole
members_end t above within all es g whole none before =
    sym (gathered-none g) ∙ ap (λ us. gathered g (members_found t above within all (members_view us))) (sym none) ∙ before

-- what isn't looked at holds nothing
pub member_ignored : (t : SchemaTree) (w : Wanted) (d : Data) (g : Gathered) → w ≡ ignored → g ≡ gathered g (found t w d)
member_ignored t w d g e = sym (gathered-none g) ∙ ap (λ u. gathered g (found t u d)) (sym e)

pub wanted_nowhere : (t : SchemaTree) (above : List PathStep) (at : Option ℕ) → at ≡ None → wanted t above at ≡ ignored
wanted_nowhere t above at e = ap (wanted t above) e

pub wanted_key : (t : SchemaTree) (above : List PathStep) (at : Option ℕ) (i : ℕ) → at ≡ Some i → is_key t.nodes i ≡ true → wanted t above at ≡ ignored
wanted_key t above at i e key = ap (wanted t above) e ∙ ap (λ b. if b then ignored else wanted_of above i (slice_get t.nodes i)) key

pub wanted_past : (t : SchemaTree) (above : List PathStep) (at : Option ℕ) (i : ℕ) → at ≡ Some i → is_key t.nodes i ≡ false → slice_get t.nodes i ≡ None → wanted t above at ≡ ignored
wanted_past t above at i e key none =
    ap (wanted t above) e ∙ ap (λ b. if b then ignored else wanted_of above i (slice_get t.nodes i)) key ∙ ap (wanted_of above i) none

-- ---- containers and entries

-- the row of a container, and then what is in it
pub container_whole : (t : SchemaTree) (s : Spot) (presence : Bool) (d : Data) (ms : Members) (g one : Gathered) (path : List PathStep) → d ≡ object ms
    → one ≡ gathered g (presence_found s presence) → path ≡ bare s → gathered one (members_found t path (Some s.number) ms ms) ≡ gathered g (found t (container s presence) d)
container_whole t s presence d ms g one path is first p =
    let inner = members_found t (bare s) (Some s.number) ms ms in
    ap (λ q. gathered one (members_found t q (Some s.number) ms ms)) p ∙ ap (λ u. gathered u inner) first ∙ sym (gathered-append g (presence_found s presence) inner)
    ∙ ap (λ e. gathered g (found t (container s presence) e)) (sym is)

abbrev pub reads : SchemaTree → List PathStep → Members → List ℕ → List (Result LeafValue Fault)
reads t path ms ks = map (key_read t path ms) ks

entry_complete : (t : SchemaTree) (s : Spot) (ks : List ℕ) (ms : Members) (g : Gathered) → (length (values_of (reads t (bare s) ms ks)) == length (reads t (bare s) ms ks)) ≡ true
    → gathered (noted (gathered g (faults_of (reads t (bare s) ms ks))) (row (entry_path s (reads t (bare s) ms ks)) Present)) (members_found t (entry_path s (reads t (bare s) ms ks)) (Some s.number) ms ms)
    ≡ gathered g (found t (list_item s ks) (object ms))
entry_complete t s ks ms g complete =
    let rs = reads t (bare s) ms ks in
    let path = entry_path s rs in
    let inner = members_found t path (Some s.number) ms ms in
    sym (gathered-cons (gathered g (faults_of rs)) (row path Present) inner) ∙ sym (gathered-append g (faults_of rs) (row path Present ∷ inner))
    ∙ ap (λ b. gathered g (faults_of rs ++ (if b then row path Present ∷ inner else []))) (sym complete)

other_length : (a b : ℕ) → (a ≡ b → ⊥) → (a == b) ≡ false
other_length a b e = grind (arith, nat_tests)

same_length : (a b : ℕ) → a ≡ b → (a == b) ≡ true
same_length a b e = grind (arith, nat_tests)

-- the row of an entry whose keys are all there, and then what is in it
pub entry_whole : (t : SchemaTree) (s : Spot) (ks : List ℕ) (d : Data) (ms : Members) (g one two : Gathered) (at path : List PathStep) (vs : List LeafValue) → d ≡ object ms → at ≡ bare s
    → vs ≡ values_of (reads t at ms ks) → one ≡ gathered g (faults_of (reads t at ms ks)) → length vs ≡ length ks → path ≡ step_below s.above s.node (keys vs) → two ≡ noted one (row path Present)
    → gathered two (members_found t path (Some s.number) ms ms) ≡ gathered g (found t (list_item s ks) d)
entry_whole t s ks d ms g one two at path vs is a v o l p w =
    let rs = reads t (bare s) ms ks in
    let values : vs ≡ values_of rs = v ∙ ap (λ q. values_of (reads t q ms ks)) a in
    let first : one ≡ gathered g (faults_of rs) = o ∙ ap (λ q. gathered g (faults_of (reads t q ms ks))) a in
    let there : path ≡ entry_path s rs = p ∙ ap (λ us. step_below s.above s.node (keys us)) values in
    let second : two ≡ noted (gathered g (faults_of rs)) (row (entry_path s rs) Present) =
    w ∙ ap (λ u. noted u (row path Present)) first ∙ ap (λ q. noted (gathered g (faults_of rs)) (row q Present)) there in
    let count : length (values_of rs) ≡ length rs = ap length (sym values) ∙ l ∙ sym (length-map ks (key_read t (bare s) ms)) in
    ap (λ u. gathered u (members_found t path (Some s.number) ms ms)) second
    ∙ ap (λ q. gathered (noted (gathered g (faults_of rs)) (row (entry_path s rs) Present)) (members_found t q (Some s.number) ms ms)) there
    ∙ entry_complete t s ks ms g (same_length _ _ count) ∙ ap (λ e. gathered g (found t (list_item s ks) e)) (sym is)

-- an entry that lacks a key has the faults of its keys alone
pub entry_lacking : (t : SchemaTree) (s : Spot) (ks : List ℕ) (ms : Members) (g one : Gathered) (at : List PathStep) (vs : List LeafValue) → at ≡ bare s
    → vs ≡ values_of (reads t at ms ks) → one ≡ gathered g (faults_of (reads t at ms ks)) → (length vs ≡ length ks → ⊥)
    → one ≡ gathered g (found t (list_item s ks) (object ms))
entry_lacking t s ks ms g one at vs a v o l =
    let rs = reads t (bare s) ms ks in
    let rest = row (entry_path s rs) Present ∷ members_found t (entry_path s rs) (Some s.number) ms ms in
    let values : vs ≡ values_of rs = v ∙ ap (λ q. values_of (reads t q ms ks)) a in
    let first : one ≡ gathered g (faults_of rs) = o ∙ ap (λ q. gathered g (faults_of (reads t q ms ks))) a in
    let count : (length (values_of rs) ≡ length rs → ⊥) = λ (e : length (values_of rs) ≡ length rs). l (ap length values ∙ e ∙ length-map ks (key_read t (bare s) ms)) in
    first ∙ ap (gathered g) (sym (append-nil (faults_of rs))) ∙ ap (λ b. gathered g (faults_of rs ++ (if b then rest else []))) (sym (other_length _ _ count))
