-- A case is the nearer guard: where it holds, what guards its place holds too.
use Rattle.std.proofs.Common.{◌≡◌, ℕ, zero, suc, ◌<◌, List, [], ◌∷◌, ◌++◌, length, Bool, true, false, ◌&&◌, ◌||◌, ◌==◌, Option, Some, None, if◌then◌else◌, slice_get, refl, sym, ap, ◌∙◌, subst, append-nil, append_assoc, arith}
use Rattle.std.proofs.lemmas.Grind.{common_steps}
use Rattle.std.proofs.lemmas.Option.{same_Some}
use Rattle.std.specs.List.{list_any}
use Rattle.std.specs.Ordering.{eq_by_cmp}
use Rattle.std.specs.Prelude.{nat_eq}
use Rattle.std.specs.Cmp.Lexicographic.{pointwise}
use Rattle.std.specs.FinMap.{contains_key, keys}
use Rattle.nm_base.specs.Numbers.{is_among}
use Rattle.nm_types.specs.Path.{PathStep, Choice, whole, keys as by_keys, entry, choice_cmp, step_cmp}
use Rattle.nm_types.specs.PathLaws.{same_step_decides, steps_equiv}
use Rattle.nm_schema_tree.specs.declared.node.Node.{Node}
use Rattle.nm_schema_tree.specs.declared.node.NodeKind.{NodeKind}
use Rattle.nm_schema_tree.specs.declared.node.NodeKind.TheVariants.{Container, Leaf, LeafList, List as ListOf}
use Rattle.nm_schema_tree.specs.Nodes.{SchemaTree, case_at, is_guard, is_guard_in, outer_case}
use Rattle.nm_path.specs.Sound.{is_holder, IsSound}
use Rattle.nm_path.specs.Spelling.{node_of}
use Rattle.nm_config.specs.Rows.{Rows}
use Rattle.nm_config.specs.Under.{is_whole, takes_in, stands_for, goes_along, is_end, is_under, has_under}
use Rattle.nm_validate_rules.specs.Standing.{is_chosen, is_chosen_in, is_chosen_at, is_own_at, is_row_from, is_row_path, StandsIn}
use Rattle.nm_validate_rules.specs.Cases.{bare, numbers, outwards, cases_over, is_in_case, exists_at, case_holds, is_allowed, HaveCases}
use Rattle.nm_validate_rules.specs.Guards.{is_allowed_at, is_open_step, holds_from, holds_at}
use Rattle.nm_validate_rules.specs.Violated.{is_area_of}
use Rattle.nm_validate_rules.proofs.Among.{Among, any_passes, both, among_numbers}
use Rattle.nm_validate_rules.proofs.Leading.{by_last, bare_is, node_is}
use Rattle.nm_validate_rules.proofs.Areas.{whole_is}
use Rattle.nm_validate_rules.proofs.Looked.{get_within}
use Rattle.nm_validate_rules.proofs.Placed.{any_at, key_there, both_true}

-- ---- below a place

-- a row goes on behind the steps of a place
record Below (above r : List PathStep) : Type 0 where
  step : PathStep
  more : List PathStep
  is : r ≡ above ++ step ∷ more

not_end : (ss : List PathStep) (b : PathStep) → is_end (ss ++ b ∷ []) ≡ false
not_end [] b = refl
not_end (s ∷ ss) b = refl

longer : (a : PathStep) (past r : List PathStep) → Below past r → Below (a ∷ past) (a ∷ r)
longer a past r h = record { step = h.step; more = h.more; is = ap (λ (p : List PathStep). a ∷ p) h.is }

under_below : (above : List PathStep) (b : PathStep) (r : List PathStep) → is_under (above ++ b ∷ []) r ≡ true → Below above r
unfolding is_under
under_below [] b [] e = absurd (cc)
under_below [] b (o ∷ r) e = record { step = o; more = r; is = refl }
under_below (a ∷ past) b [] e = absurd (cc)
under_below (a ∷ past) b (o ∷ r) e =
    let h = both (goes_along (is_end (past ++ b ∷ [])) a o) (is_under (past ++ b ∷ []) r) e in
    let along : eq_by_cmp step_cmp a o ≡ true = ap (λ x. goes_along x a o) (sym (not_end past b)) ∙ h.0 in
    let same : a ≡ o = (same_step_decides a o (eq_by_cmp step_cmp a o) refl).0 along in
    subst (λ (s : PathStep). Below (a ∷ past) (s ∷ r)) same (longer a past r (under_below past b r h.1))

same_numbers : (xs : List ℕ) → pointwise nat_eq xs xs ≡ true
same_numbers [] = refl
same_numbers (x ∷ xs) = let h = same_numbers xs in let e : nat_eq x x ≡ true = grind (arith, common_steps) in both_true (nat_eq x x) (pointwise nat_eq xs xs) e h

stands_itself : (s : PathStep) → is_whole s.chosen ≡ true → stands_for s s ≡ true
stands_itself s e =
    both_true (pointwise nat_eq s.«module» s.«module» && pointwise nat_eq s.name s.name) (takes_in s.chosen s.chosen)
    (both_true (pointwise nat_eq s.«module» s.«module») (pointwise nat_eq s.name s.name) (same_numbers s.«module») (same_numbers s.name)) (ap (λ w. w || eq_by_cmp choice_cmp s.chosen s.chosen) e)

under_front : (at : List PathStep) (s : PathStep) (more : List PathStep) → is_whole s.chosen ≡ true → is_under (at ++ s ∷ []) (at ++ s ∷ more) ≡ true
unfolding is_under
under_front [] s more e = both_true (stands_for s s) (is_under [] more) (stands_itself s e) refl
under_front (a ∷ past) s more e =
    both_true (goes_along (is_end (past ++ s ∷ [])) a a) (is_under (past ++ s ∷ []) (past ++ s ∷ more))
    (ap (λ x. goes_along x a a) (not_end past s) ∙ steps_equiv.refl a) (under_front past s more e)

-- ---- the nodes on the way to a row

chosen_on_way : (t : SchemaTree) (ab at : List PathStep) (s : PathStep) (rest : List PathStep) → is_row_from t ab (at ++ s ∷ rest) ≡ true
    → is_chosen_at t.nodes (node_of t ((ab ++ at) ++ s ∷ [])) s.chosen ≡ true
chosen_on_way t ab [] s rest e =
    ap (λ (p : List PathStep). is_chosen_at t.nodes (node_of t (p ++ s ∷ [])) s.chosen) (append-nil ab)
    ∙ (both (is_chosen_at t.nodes (node_of t (ab ++ s ∷ [])) s.chosen) (is_row_from t (ab ++ s ∷ []) rest) e).0
chosen_on_way t ab (a ∷ past) s rest e =
    ap (λ (p : List PathStep). is_chosen_at t.nodes (node_of t (p ++ s ∷ [])) s.chosen) (sym (append_assoc ab (a ∷ []) past))
    ∙ chosen_on_way t (ab ++ a ∷ []) past s rest (both (is_chosen_at t.nodes (node_of t (ab ++ a ∷ [])) a.chosen) (is_row_from t (ab ++ a ∷ []) (past ++ s ∷ rest)) e).1

-- a node that is chosen is there
record IsThere (t : SchemaTree) (path : List PathStep) (chosen : Choice) : Type 0 where
  at : ℕ
  node : Node
  leads : node_of t path ≡ Some at
  there : slice_get t.nodes at ≡ Some node
  chosen_is : is_chosen node.kind chosen ≡ true

there_by : (t : SchemaTree) (path : List PathStep) (chosen : Choice) (x : ℕ) (o : Option Node) → node_of t path ≡ Some x → slice_get t.nodes x ≡ o → is_chosen_in o chosen ≡ true → IsThere t path chosen
there_by t path chosen x None leads there e = absurd (cc)
there_by t path chosen x (Some n) leads there e = record { at = x; node = n; leads = leads; there = there; chosen_is = e }

is_there : (t : SchemaTree) (path : List PathStep) (chosen : Choice) (o : Option ℕ) → node_of t path ≡ o → is_chosen_at t.nodes o chosen ≡ true → IsThere t path chosen
is_there t path chosen None leads e = absurd (cc)
is_there t path chosen (Some x) leads e = there_by t path chosen x (slice_get t.nodes x) leads refl e

-- a holder that isn't a guard is a container, of which nothing is chosen
plain_whole : (k : NodeKind) (c : Choice) → is_holder k ≡ true → is_guard k ≡ false → is_chosen k c ≡ true → is_whole c ≡ true
plain_whole (Container p) whole holder guard e = refl
plain_whole (Container p) (by_keys vs) holder guard e = absurd (cc)
plain_whole (Container p) (entry v) holder guard e = absurd (cc)
plain_whole (Leaf ty d m r) c holder guard e = absurd (cc)
plain_whole (LeafList ty r es) c holder guard e = absurd (cc)
plain_whole (ListOf ks u es) c holder guard e = absurd (cc)

no_top : (t : SchemaTree) (at : List PathStep) (s : PathStep) → is_area_of t None (at ++ s ∷ []) ≡ true → ⊥
no_top t [] s e = cc
no_top t (a ∷ past) s e = cc

holder_by : (t : SchemaTree) → IsSound t.nodes → (at : List PathStep) (s : PathStep) (z x : ℕ) (m k : Node) → node_of t (at ++ s ∷ []) ≡ Some z → slice_get t.nodes z ≡ Some m → slice_get t.nodes x ≡ Some k
    → (o : Option ℕ) → k.parent ≡ o → is_area_of t o (at ++ s ∷ []) ≡ true → is_holder m.kind ≡ true
holder_by t sound at s z x m k leads there there_k None parent area = absurd (no_top t at s area)
holder_by t sound at s z x m k leads there there_k (Some q) parent area =
    let same : z ≡ q = same_Some z q (sym leads ∙ node_is q (node_of t (at ++ s ∷ [])) area) in
    let h = sound.holders x q k there_k parent in
    let node : h.node ≡ m = same_Some h.node m (sym h.there ∙ ap (slice_get t.nodes) (sym same) ∙ there) in
    ap (λ (n : Node). is_holder n.kind) (sym node) ∙ h.holder

-- ---- the cases of the nodes on the way

among_first : (c : ℕ) (cs : List ℕ) → is_among c (c ∷ cs) ≡ true
unfolding is_among
among_first c cs = let e : (c == c) ≡ true = grind (arith, common_steps) in ap (λ b. b || list_any (λ j. j == c) cs) e

some_fuel : (n c : ℕ) → c < n → (m : ℕ) × (n ≡ suc m)
some_fuel zero c lt = absurd (omega (arith, lt))
some_fuel (suc m) c lt = (m, refl)

in_own_case : (t : SchemaTree) → HaveCases t → (x c : ℕ) → case_at t.nodes x ≡ Some c → is_in_case t c x ≡ true
unfolding cases_over
in_own_case t have x c e =
    let fuel = some_fuel (length t.cases) c (have x c e) in
    ap (λ (n : ℕ). is_among c (outwards t n (case_at t.nodes x))) fuel.1 ∙ ap (λ (o : Option ℕ). is_among c (outwards t (suc fuel.0) o)) e
    ∙ among_first c (outwards t fuel.0 (outer_case t.choices t.cases c))

-- a row below a node shows that the node exists
exists_by : (t : SchemaTree) (rows : Rows) (at : List PathStep) (s : PathStep) (more : List PathStep) (x : ℕ) → contains_key rows (at ++ s ∷ more) ≡ true → Among (keys rows) (at ++ s ∷ more) → is_whole s.chosen ≡ true
    → bare t.nodes x ≡ s → exists_at t rows at x ≡ true
exists_by t rows at s more x there a e is =
    ap (λ (b : PathStep). has_under rows (at ++ b ∷ [])) is ∙ any_at (is_under (at ++ s ∷ [])) (keys rows) (at ++ s ∷ more) a (under_front at s more e)

allowed_by : (t : SchemaTree) (rows : Rows) → HaveCases t → (at : List PathStep) (x : ℕ) → x < length t.nodes → exists_at t rows at x ≡ true → (o : Option ℕ) → case_at t.nodes x ≡ o → is_allowed t rows at o ≡ true
unfolding case_holds
allowed_by t rows have at x lt there None e = refl
allowed_by t rows have at x lt there (Some c) e =
    any_at (λ y. is_in_case t c y && exists_at t rows at y) (numbers t.nodes) x (among_numbers (length t.nodes) x lt)
    (both_true (is_in_case t c x) (exists_at t rows at x) (in_own_case t have x c e) there)

module _ (t : SchemaTree) (rows : Rows) (sound : IsSound t.nodes) (have : HaveCases t) (stand : StandsIn t rows) (r : List PathStep) (there : contains_key rows r ≡ true) (among : Among (keys rows) r) where
  -- each step on the way to a row hands on
  open_by : (g : Bool) (at : List PathStep) (s next : PathStep) (more : List PathStep) → r ≡ at ++ s ∷ next ∷ more → is_own_at t.nodes (node_of t (at ++ s ∷ [])) ≡ g
      → (if g then contains_key rows (at ++ s ∷ []) else (true && is_open_step t rows at s)) ≡ true
  open_by true at s next more is own =
      stand.above (at ++ s ∷ []) next more (ap (contains_key rows) (append_assoc at (s ∷ []) (next ∷ more) ∙ sym is) ∙ there) own
  open_by false at s next more is own =
      let row : is_row_from t [] (at ++ s ∷ next ∷ more) ≡ true = ap (is_row_path t) (sym is) ∙ stand.each r there in
      let here = is_there t (at ++ s ∷ []) s.chosen (node_of t (at ++ s ∷ [])) refl (chosen_on_way t [] at s (next ∷ more) row) in
      let row_next : is_row_from t [] ((at ++ s ∷ []) ++ next ∷ more) ≡ true = ap (is_row_from t []) (append_assoc at (s ∷ []) (next ∷ more)) ∙ row in
      let below = is_there t ((at ++ s ∷ []) ++ next ∷ []) next.chosen (node_of t ((at ++ s ∷ []) ++ next ∷ [])) refl (chosen_on_way t [] (at ++ s ∷ []) next more row_next) in
      let leads = by_last t (at ++ s ∷ []) next below.at below.leads in
      let holder = holder_by t sound at s here.at below.at here.node leads.node here.leads here.there leads.there leads.node.parent refl leads.area in
      let guard : is_guard here.node.kind ≡ false = ap is_guard_in (sym here.there) ∙ sym (ap (is_own_at t.nodes) here.leads) ∙ own in
      let bare_whole = plain_whole here.node.kind s.chosen holder guard here.chosen_is in
      let by = by_last t at s here.at here.leads in
      let is_bare = bare_is t s here.at by.node by.there by.owner_is by.name_is (whole_is s.chosen bare_whole) in
      let exists = exists_by t rows at s (next ∷ more) here.at (ap (contains_key rows) (sym is) ∙ there) (subst (λ (p : List PathStep). Among (keys rows) p) is among) bare_whole is_bare in
      let allowed = allowed_by t rows have at here.at (get_within t.nodes here.at here.node here.there) exists (case_at t.nodes here.at) refl in
      both_true (is_whole s.chosen) (is_allowed_at t rows at (node_of t (at ++ s ∷ []))) bare_whole (ap (is_allowed_at t rows at) here.leads ∙ allowed)

  hands_on : (at ss : List PathStep) (last : PathStep) (more : List PathStep) → r ≡ at ++ (ss ++ last ∷ more) → holds_from t rows true at ss ≡ true
  hands_on at [] last more is = refl
  hands_on at (s ∷ []) last more is =
      open_by (is_own_at t.nodes (node_of t (at ++ s ∷ []))) at s last more is refl
  hands_on at (s ∷ q ∷ ss) last more is =
      ap (λ b. holds_from t rows b (at ++ s ∷ []) (q ∷ ss)) (open_by (is_own_at t.nodes (node_of t (at ++ s ∷ []))) at s q (ss ++ last ∷ more) is refl)
      ∙ hands_on (at ++ s ∷ []) (q ∷ ss) last more (is ∙ sym (append_assoc at (s ∷ []) ((q ∷ ss) ++ last ∷ more)))

holds_by_row : (t : SchemaTree) (rows : Rows) (above : List PathStep) (x : ℕ) → IsSound t.nodes → HaveCases t → StandsIn t rows → exists_at t rows above x ≡ true → holds_at t rows above ≡ true
holds_by_row t rows above x sound have stand e =
    let h = any_passes (is_under (above ++ bare t.nodes x ∷ [])) (keys rows) e in
    let b = under_below above (bare t.nodes x) h.x h.passes in
    hands_on t rows sound have stand h.x (key_there rows h.x h.among) h.among [] above b.step b.more b.is

-- where a case holds, what guards its place holds
pub case_tells : (t : SchemaTree) (rows : Rows) (above : List PathStep) (c : ℕ) → IsSound t.nodes → HaveCases t → StandsIn t rows → case_holds t rows above c ≡ true → holds_at t rows above ≡ true
unfolding case_holds
case_tells t rows above c sound have stand e =
    let h = any_passes (λ y. is_in_case t c y && exists_at t rows above y) (numbers t.nodes) e in
    holds_by_row t rows above h.x sound have stand (both (is_in_case t c h.x) (exists_at t rows above h.x) h.passes).1
