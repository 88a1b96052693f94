-- The least of faults.
use Rattle.std.proofs.Common.{◌≡◌, ℕ, ◌≤◌, List, [], ◌∷◌, fold, nat_lt, Bool, true, false, if◌then◌else◌, Option, Some, None, Result, Ok, Err, Ordering, Less, Equal, Greater, refl, sym, ap, subst, ◌∙◌, arith, ◌↔◌, ◌⊎◌, inl, inr}
use Rattle.std.proofs.lemmas.Bool.Decides.{nat_tests}
use Rattle.std.proofs.lemmas.Cmp.{on_total, then_total, nat_cmp_total, lists_total, tied_itself}
use Rattle.std.specs.Cmp.{IsTotalOrder}
use Rattle.std.specs.List.{AllByRecursion}
use Rattle.std.specs.Ordering.{is_lt, ordering_reverse}
use Rattle.std.specs.FinMap.{empty, len}
use Rattle.serde_json.specs.Data.{Data}
use Rattle.nm_types.specs.PathLaws.{steps_total}
use Rattle.nm_schema_tree.specs.Nodes.{SchemaTree}
use Rattle.nm_config.specs.Rows.{Rows}
use Rattle.nm_json.specs.declared.fault.JsonKind.{JsonKind}
use Rattle.nm_json.specs.declared.fault.JsonFault.{JsonFault}
use Rattle.nm_json.specs.declared.fault.JsonFault.TheVariants.{Bad, TooManyRows}
use Rattle.nm_json.specs.declared.fault.Fault.{Fault}
use Rattle.nm_json.specs.Places.{fault_cmp, place_steps, kind_rank, lesser, place_text}
use Rattle.nm_json.specs.Findings.{whole_found}
use Rattle.nm_json.specs.Whole.{rows_of, least_of, answered, config_read, row_limit}
use Rattle.nm_json.specs.Laws.{all_faults, IsAmong, IsUpto, IsLeast, HasLeast, HasRows}

-- ---- the order of faults

pub faults_total : IsTotalOrder fault_cmp
unfolding fault_cmp
faults_total = then_total (on_total (λ f. place_steps f.place) (lists_total steps_total)) (on_total (λ f. kind_rank f.kind) nat_cmp_total)

pub itself : (f : Fault) → IsUpto f f
itself f = ap is_lt (tied_itself faults_total f)

less : (o : Ordering) → is_lt o ≡ true → o ≡ Less
less Less e = refl
less Equal e = absurd cc
less Greater e = absurd cc

not_less : (o : Ordering) → o ≡ Less → is_lt o ≡ false → ⊥
not_less Less e h = cc
not_less Equal e h = cc
not_less Greater e h = cc

-- of three faults: b isn't before a, and c isn't before b, so c isn't before a
chain_at : (a b c : Fault) (o p : Ordering) → fault_cmp b a ≡ o → fault_cmp c a ≡ p → IsUpto a b → IsUpto b c → is_lt p ≡ false
chain_at a b c o Equal e f x y = refl
chain_at a b c o Greater e f x y = refl
chain_at a b c Less Less e f x y = absurd (not_less _ e x)
chain_at a b c Equal Less e f x y =
    let same : fault_cmp a b ≡ Equal = faults_total.antisymm a b ∙ ap ordering_reverse e in
    let flipped : fault_cmp a c ≡ fault_cmp b c = faults_total.congr a b c same in
    let one : fault_cmp c b ≡ Less = faults_total.antisymm c b ∙ ap ordering_reverse (sym flipped) ∙ sym (faults_total.antisymm c a) ∙ f in
    absurd (not_less _ one y)
chain_at a b c Greater Less e f x y =
    let one : fault_cmp a b ≡ Less = faults_total.antisymm a b ∙ ap ordering_reverse e in
    absurd (not_less _ (faults_total.trans c a b f one) y)

pub chain : (a b c : Fault) → IsUpto a b → IsUpto b c → IsUpto a c
chain a b c x y = chain_at a b c _ _ refl refl x y

pub after_less : (g m : Fault) → is_lt (fault_cmp g m) ≡ true → IsUpto g m
after_less g m e = ap is_lt (faults_total.antisymm m g ∙ ap ordering_reverse (less _ e))

-- ---- the least

record Found (m : Fault) (fs : List Fault) (f : Fault) : Type 0 where
  among : (f ≡ m) ⊎ IsAmong f fs
  first : IsUpto f m
  others : AllByRecursion (IsUpto f) fs

some_is : {A : Type 0} (a b : A) → ◌≡◌ {A = Option A} (Some a) (Some b) → a ≡ b
some_is a b e = cc

further : {A B C : Type 0} → A ⊎ B → A ⊎ (C ⊎ B)
further (inl a) = inl a
further (inr b) = inr (inr b)

least_by : (b : Bool) (m g : Fault) (fs : List Fault) (f : Fault) → is_lt (fault_cmp g m) ≡ b → (fold lesser (Some g) fs ≡ Some f → Found g fs f) → (fold lesser (Some m) fs ≡ Some f → Found m fs f)
    → fold lesser (if b then Some g else Some m) fs ≡ Some f → Found m (g ∷ fs) f
least_by true m g fs f e ours theirs h =
    let found = ours h in
    record { among = inr found.among; first = chain f g m found.first (after_less g m e); others = (found.first, found.others) }
least_by false m g fs f e ours theirs h =
    let found = theirs h in
    record { among = further found.among; first = found.first; others = (chain f m g found.first e, found.others) }

least_from : (m : Fault) (fs : List Fault) (f : Fault) → fold lesser (Some m) fs ≡ Some f → Found m fs f
least_from m [] f e =
    let same = some_is m f e in
    record { among = inl (sym same); first = ap (λ x. is_lt (fault_cmp m x)) (sym same) ∙ itself m; others = tt }
least_from m (g ∷ fs) f e = least_by (is_lt (fault_cmp g m)) m g fs f refl (least_from g fs f) (least_from m fs f) e

-- the fault that is kept of faults is the least of them
pub least_is : (fs : List Fault) (f : Fault) → least_of fs ≡ Some f → IsLeast f fs
least_is [] f e = absurd cc
least_is (g ∷ fs) f e =
    let found = least_from g fs f e in
    record { among = found.among; least = (found.first, found.others) }

stays_by : (b : Bool) (m g : Fault) (fs : List Fault) → (fold lesser (Some g) fs ≡ None → ⊥) → (fold lesser (Some m) fs ≡ None → ⊥) → fold lesser (if b then Some g else Some m) fs ≡ None → ⊥
stays_by true m g fs ours theirs h = ours h
stays_by false m g fs ours theirs h = theirs h

stays : (m : Fault) (fs : List Fault) → fold lesser (Some m) fs ≡ None → ⊥
stays m [] e = cc
stays m (g ∷ fs) e = stays_by (is_lt (fault_cmp g m)) m g fs (stays g fs) (stays m fs) e

-- only no faults have no least one
pub no_least : (fs : List Fault) → least_of fs ≡ None → fs ≡ []
no_least [] e = refl
no_least (g ∷ fs) e = absurd (stays g fs e)

-- ---- answers

record Refused (t : SchemaTree) (least : Option Fault) (kind : JsonKind) (text : List ℕ) : Type 0 where
  fault : Fault
  is : least ≡ Some fault
  kind_is : fault.kind ≡ kind
  text_is : place_text t fault.place ≡ text

not_refused : (b : Bool) (rows : Rows) (kind : JsonKind) (text : List ℕ) → ◌≡◌ {A = Result Rows JsonFault} (if b then Err TooManyRows else Ok rows) (Err (Bad kind text)) → ⊥
not_refused true rows kind text e = cc
not_refused false rows kind text e = cc

refused : (t : SchemaTree) (least : Option Fault) (rows : Rows) (kind : JsonKind) (text : List ℕ) → answered t least rows ≡ Err (Bad kind text) → Refused t least kind text
refused t None rows kind text e = absurd (not_refused (nat_lt row_limit (len rows)) rows kind text e)
refused t (Some f) rows kind text e = record { fault = f; is = refl; kind_is = cc; text_is = cc }

pub fault_law : (t : SchemaTree) (d : Data) (kind : JsonKind) (text : List ℕ) → config_read t d ≡ Err (Bad kind text) → HasLeast t (all_faults t d) kind text
fault_law t d kind text e =
    let found = refused t (least_of (all_faults t d)) (rows_of empty (whole_found t d)) kind text e in
    record { fault = found.fault; least = least_is (all_faults t d) found.fault found.is; kind_is = found.kind_is; text_is = found.text_is }

record Taken (least : Option Fault) (all rows : Rows) : Type 0 where
  none : least ≡ None
  same : all ≡ rows
  within : len all ≤ row_limit

taken_by : (b : Bool) (all rows : Rows) → nat_lt row_limit (len all) ≡ b → ◌≡◌ {A = Result Rows JsonFault} (if b then Err TooManyRows else Ok all) (Ok rows) → Taken None all rows
taken_by true all rows is e = absurd cc
taken_by false all rows is e = record { none = refl; same = cc; within = grind (arith, nat_tests, is) }

taken : (t : SchemaTree) (least : Option Fault) (all rows : Rows) → answered t least all ≡ Ok rows → Taken least all rows
taken t None all rows e = taken_by (nat_lt row_limit (len all)) all rows refl e
taken t (Some f) all rows e = absurd cc

fits : (n : ℕ) → n ≤ row_limit → nat_lt row_limit n ≡ false
fits n h = grind (arith, nat_tests, h)

pub rows_law : (t : SchemaTree) (d : Data) (rows : Rows) → (config_read t d ≡ Ok rows) ↔ HasRows t d rows
rows_law t d rows = (
  (λ e.
      let found = taken t (least_of (all_faults t d)) (rows_of empty (whole_found t d)) rows e in
      record { faultless = no_least (all_faults t d) found.none; all = sym found.same; within = subst (λ r. len r ≤ row_limit) found.same found.within }),
  (λ h.
      let all = rows_of empty (whole_found t d) in
      let few : nat_lt row_limit (len all) ≡ false = ap (λ r. nat_lt row_limit (len r)) (sym h.all) ∙ fits (len rows) h.within in
      ap (λ fs. answered t (least_of fs) all) h.faultless ∙ ap (λ b. if b then Err TooManyRows else Ok all) few ∙ ap Ok (sym h.all)),
)
