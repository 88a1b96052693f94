-- What noting findings one after another gives, and what is answered of that.
use Rattle.std.proofs.Common.{◌≡◌, ℕ, ◌+◌, ◌≤◌, List, [], ◌∷◌, ◌++◌, length, suc, fold, Bool, true, false, if◌then◌else◌, Option, None, is_some, refl, sym, ap, ◌∙◌, arith, append_assoc}
use Rattle.std.proofs.lemmas.Grind.{fold-append}
use Rattle.std.proofs.lemmas.List.{append-nil}
use Rattle.std.specs.FinMap.{insert, get, empty, len, len-insert, len-empty}
use Rattle.serde_json.specs.Data.{Data}
use Rattle.nm_types.specs.Path.{PathStep, path_cmp}
use Rattle.nm_types.specs.PathLaws.{paths_total}
use Rattle.nm_types.specs.declared.value.Value.{Value}
use Rattle.nm_schema_tree.specs.Nodes.{SchemaTree}
use Rattle.nm_config.specs.Rows.{Rows, with_entries}
use Rattle.nm_json.specs.declared.fault.JsonKind.TheVariants.{Repeated}
use Rattle.nm_json.specs.declared.fault.Fault.{Fault}
use Rattle.nm_json.specs.Places.{lesser}
use Rattle.nm_json.specs.Findings.{Finding, row, bad, fault_at, whole_found}
use Rattle.nm_json.specs.Noted.{Gathered, noted, nothing, gathered, with_row, repeated}
use Rattle.nm_json.specs.Whole.{rows_of, if_repeated, faults_found, answered, config_read}
use Rattle.nm_json.proofs.Shuffled.{Shuffled, as_before, behind, further, later, back}
use Rattle.nm_json.proofs.AnyOrder.{tied_at, same_answer}

abbrev pub Row : Type 0
Row = List PathStep × Value

-- ---- what was noted

-- the rows among findings
abbrev rows_in : List Finding → List Row
rows_in [] = []
rows_in (row path value ∷ fs) = (path, value) ∷ rows_in fs
rows_in (bad fault ∷ fs) = rows_in fs

-- the faults among findings
abbrev faults_in : List Finding → List Fault
faults_in [] = []
faults_in (row path value ∷ fs) = faults_in fs
faults_in (bad fault ∷ fs) = fault ∷ faults_in fs

abbrev Both : List Row → Option Fault → Gathered
Both rows least = record { rows = rows; least = least }

-- findings that are noted one after another: their rows, and the least of their faults
gathered_is : (g : Gathered) (fs : List Finding) → gathered g fs ≡ Both (g.rows ++ rows_in fs) (fold lesser g.least (faults_in fs))
unfolding gathered
gathered_is g [] = ap (λ rows. Both rows g.least) (sym (append-nil g.rows))
gathered_is g (row path value ∷ fs) =
    gathered_is (noted g (row path value)) fs ∙ ap (λ rows. Both rows (fold lesser g.least (faults_in fs))) (append_assoc g.rows ((path, value) ∷ []) (rows_in fs))
gathered_is g (bad fault ∷ fs) = gathered_is (noted g (bad fault)) fs

rows_all : (m : Rows) (fs : List Finding) → with_entries m (rows_in fs) ≡ rows_of m fs
rows_all m [] = refl
rows_all m (row path value ∷ fs) = rows_all (insert m path value) fs
rows_all m (bad fault ∷ fs) = rows_all m fs

behind_faults : (b : Bool) (p : List PathStep) (us vs ws : List Fault) → Shuffled (us ++ vs) ws → Shuffled (us ++ if_repeated b p vs) (if_repeated b p ws)
behind_faults true p us vs ws s = further (fault_at p Repeated ∷ (us ++ vs)) (back (later (fault_at p Repeated) us vs)) (behind s)
behind_faults false p us vs ws s = s

-- the faults, and behind them those of repeated rows, are all faults in another order
faults_all : (m : Rows) (fs : List Finding) → Shuffled (faults_in fs ++ repeated m (rows_in fs)) (faults_found m fs)
faults_all m [] = as_before
faults_all m (row path value ∷ fs) = behind_faults (is_some (get m path)) path (faults_in fs) _ _ (faults_all (insert m path value) fs)
faults_all m (bad fault ∷ fs) = behind (faults_all m fs)

-- ---- answers

-- the answer of what was noted is that of the value
pub whole_is : (t : SchemaTree) (d : Data) (rows : List Row) (least : Option Fault) → Both rows least ≡ gathered nothing (whole_found t d)
    → answered t (fold lesser least (repeated empty rows)) (with_entries empty rows) ≡ config_read t d
whole_is t d rows least e =
    let fs = whole_found t d in
    let is : Both rows least ≡ Both (rows_in fs) (fold lesser None (faults_in fs)) = e ∙ gathered_is nothing fs in
    let all = faults_all empty fs in
    ap (λ g. answered t (fold lesser g.least (repeated empty g.rows)) (with_entries empty g.rows)) is
    ∙ ap (λ x. answered t x (with_entries empty (rows_in fs))) (sym (fold-append lesser None (faults_in fs) (repeated empty (rows_in fs))))
    ∙ same_answer t _ _ _ _ (tied_at _ _ _ _ all (back all) refl refl) (λ none. rows_all empty fs)

record AllNew (m : Rows) (rs : List Row) : Type 0 where
  most : len (with_entries m rs) ≤ len m + length rs
  none : len (with_entries m rs) ≡ len m + length rs → repeated m rs ≡ []

all_new_by : (b : Bool) (m n : Rows) (p : List PathStep) (k : ℕ) (faults : List Fault) (all : ℕ) → len n ≡ (if b then len m else len m + 1) → all ≤ len n + k → (all ≡ len n + k → faults ≡ [])
    → (all ≤ len m + suc k) × (all ≡ len m + suc k → if_repeated b p faults ≡ [])
all_new_by true m n p k faults all size most none = (omega (arith, size, most), λ e. absurd (omega (arith, size, most, e)))
all_new_by false m n p k faults all size most none = (omega (arith, size, most), λ e. none (omega (arith, size, e)))

all_new : (m : Rows) (rs : List Row) → AllNew m rs
all_new m [] = record { most = omega arith; none = λ e. refl }
all_new m (r ∷ rs) =
    let n = insert m r.0 r.1 in
    let rest = all_new n rs in
    let here = all_new_by (is_some (get m r.0)) m n r.0 (length rs) (repeated n rs) (len (with_entries n rs)) (len-insert paths_total m r.0 r.1) rest.most rest.none in
    record { most = here.0; none = here.1 }

-- where as many rows are in the map as were put into it, none is repeated
pub none_repeated : (rows : List Row) (all : Rows) → all ≡ with_entries empty rows → len all ≡ length rows → repeated empty rows ≡ []
none_repeated rows all is count =
    let new = all_new empty rows in
    let none = len-empty path_cmp Value in
    let same = ap len (sym is) in
    new.none (omega (arith, none, same, count))

put_by : (b : Bool) (least : Option Fault) (path : List PathStep) (fs : List Fault)
    → fold lesser (if b then lesser least (fault_at path Repeated) else least) fs ≡ fold lesser least (if_repeated b path fs)
put_by true least path fs = refl
put_by false least path fs = refl

-- a row more that is put behind others
pub put_next : (m : Rows) (least : Option Fault) (p : List PathStep) (v : Value) (rs : List Row)
    → fold lesser (with_row m least p) (repeated (insert m p v) rs) ≡ fold lesser least (repeated m ((p, v) ∷ rs))
put_next m least p v rs = put_by (is_some (get m p)) least p (repeated (insert m p v) rs)
