-- Faults that their order doesn't tell apart are told alike.
use Rattle.std.proofs.Common.{◌≡◌, ℕ, List, [], ◌∷◌, ◌++◌, Option, Some, None, refl, sym, ap, ◌∙◌, arith, append_assoc, Ordering, Less, Equal, Greater}
use Rattle.std.proofs.lemmas.List.{append_cancel_left, append-nil}
use Rattle.std.specs.Ordering.{is_lt, ordering_reverse}
use Rattle.std.specs.FinMap.{slice_cmp-IsAntisymmetric, nat_cmp-IsAntisymmetric}
use Rattle.nm_types.specs.Path.{PathStep, Choice, whole, keys, entry}
use Rattle.nm_types.specs.PathLaws.{step_cmp-IsAntisymmetric}
use Rattle.nm_types.specs.ValueLaws.{then_parts}
use Rattle.nm_schema_tree.specs.declared.node.Node.{Node}
use Rattle.nm_schema_tree.specs.Nodes.{SchemaTree}
use Rattle.nm_path.specs.declared.place.Place.TheVariants.{Top}
use Rattle.nm_path.specs.Form.{step_text, steps_text}
use Rattle.nm_path.specs.Spelling.{found_of, below}
use Rattle.nm_path.specs.Written.{written_step, written, path_text}
use Rattle.nm_json.specs.declared.fault.JsonKind.{JsonKind}
use Rattle.nm_json.specs.declared.fault.JsonKind.TheVariants.{Unknown, BadForm, BadValue, MissingKey, Repeated}
use Rattle.nm_json.specs.declared.fault.Fault.{Fault}
use Rattle.nm_json.specs.Places.{printed_at_top, printed, name_steps, place_steps, kind_rank, fault_cmp, below_text, place_text}
use Rattle.nm_json.specs.Laws.{IsUpto}
use Rattle.nm_json.proofs.Least.{faults_total}

-- ---- the order of faults

tied_at : (f g : Fault) (o : Ordering) → fault_cmp f g ≡ o → IsUpto f g → IsUpto g f → fault_cmp f g ≡ Equal
tied_at f g Less e x y = let a : is_lt (fault_cmp f g) ≡ is_lt Less = ap is_lt e in absurd cc
tied_at f g Equal e x y = e
tied_at f g Greater e x y =
    let b : is_lt (fault_cmp g f) ≡ is_lt Less = ap is_lt (faults_total.antisymm g f ∙ ap ordering_reverse e) in
    absurd cc

-- of two faults neither stands before the other
pub tied : (f g : Fault) → IsUpto f g → IsUpto g f → fault_cmp f g ≡ Equal
tied f g x y = tied_at f g (fault_cmp f g) refl x y

one_kind : (k l : JsonKind) → kind_rank k ≡ kind_rank l → k ≡ l
one_kind Unknown Unknown e = refl
one_kind BadForm BadForm e = refl
one_kind BadValue BadValue e = refl
one_kind MissingKey MissingKey e = refl
one_kind Repeated Repeated e = refl
one_kind _ _ e = absurd (omega arith)

pub same_kind : (f g : Fault) → fault_cmp f g ≡ Equal → f.kind ≡ g.kind
unfolding fault_cmp
same_kind f g e = one_kind f.kind g.kind (nat_cmp-IsAntisymmetric _ _ (then_parts _ _ e).1)

same_steps : (f g : Fault) → fault_cmp f g ≡ Equal → place_steps f.place ≡ place_steps g.place
unfolding fault_cmp
same_steps f g e = slice_cmp-IsAntisymmetric step_cmp-IsAntisymmetric _ _ (then_parts _ _ e).0

-- ---- texts

-- the steps of a path, and the name below it as one more
abbrev longer : List PathStep → Option (List ℕ) → List PathStep
longer ss a = ss ++ name_steps a

one_step : (s u : PathStep) → printed_at_top s ≡ printed_at_top u → s ≡ u
one_step s u e =
    let m : s.«module» ≡ u.«module» = ap (λ p. p.module) e in
    let c : s.chosen ≡ u.chosen = ap (λ p. p.chosen) e in
    let p : s.«module» ++ 58 ∷ s.name ≡ u.«module» ++ 58 ∷ u.name = ap (λ p. p.name) e in
    let q : s.«module» ++ 58 ∷ s.name ≡ s.«module» ++ 58 ∷ u.name = p ∙ ap (λ (n : List ℕ). n ++ 58 ∷ u.name) (sym m) in
    let r : 58 ∷ s.name ≡ 58 ∷ u.name = append_cancel_left s.«module» (58 ∷ s.name) (58 ∷ u.name) q in
    let n : s.name ≡ u.name = cc in
    λ i. record { «module» = m i; name = n i; chosen = c i }

no_predicates : (n : List ℕ) → n ++ [] ++ [] ≡ n
no_predicates n = append-nil (n ++ []) ∙ append-nil n

-- a name more below the top is a slash and the name
below_name : (nodes : List Node) (at : Option ℕ) (ss : List PathStep) (a : Option (List ℕ)) → steps_text (written nodes (below at) (longer ss a)) ≡ steps_text (written nodes (below at) ss) ++ below_text a
below_name nodes None [] None = refl
below_name nodes (Some i) [] None = refl
below_name nodes None [] (Some n) = ap (λ m. 47 ∷ m) (no_predicates n)
below_name nodes (Some i) [] (Some n) = ap (λ m. 47 ∷ m) (no_predicates n)
below_name nodes at (s ∷ ss) a =
    let next = found_of nodes (below at) s.«module» s.name in
    ap (λ m. step_text (written_step nodes (below at) next s) ++ m) (below_name nodes next ss a)
    ∙ sym (append_assoc (step_text (written_step nodes (below at) next s)) (steps_text (written nodes (below next) ss)) (below_text a))

longer_text : (t : SchemaTree) (s : PathStep) (ss : List PathStep) (a : Option (List ℕ)) → path_text t (s ∷ longer ss a) ≡ path_text t (s ∷ ss) ++ below_text a
unfolding path_text
longer_text t s ss a =
    let next = found_of t.nodes Top s.«module» s.name in
    ap (λ m. step_text (written_step t.nodes Top next s) ++ m) (below_name t.nodes next ss a)
    ∙ sym (append_assoc (step_text (written_step t.nodes Top next s)) (steps_text (written t.nodes (below next) ss)) (below_text a))

-- a name at the root, and a step that is printed as it
top_by : (t : SchemaTree) (n owner name : List ℕ) (choice : Choice) → n ≡ owner ++ 58 ∷ name → owner ≡ [] → choice ≡ whole
    → 47 ∷ n ≡ path_text t (record { «module» = owner; name = name; chosen = choice } ∷ [])
unfolding path_text
top_by t n [] name whole e m c = ap (λ m. 47 ∷ m) (e ∙ sym (ap (λ m. 58 ∷ m) (no_predicates name)))
top_by t n [] name (keys vs) e m c = absurd cc
top_by t n [] name (entry v) e m c = absurd cc
top_by t n (b ∷ owner) name choice e m c = absurd cc

top_text : (t : SchemaTree) (a : Option (List ℕ)) (u : PathStep) (us : List PathStep) (b : Option (List ℕ)) → name_steps a ≡ printed_at_top u ∷ longer us b → below_text a ≡ path_text t (u ∷ us) ++ below_text b
top_text t None u us b e = absurd cc
top_text t (Some n) u [] None e =
    let s : record { «module» = []; name = n; chosen = whole } ≡ printed_at_top u = cc in
    top_by t n u.«module» u.name u.chosen (ap (λ p. p.name) s) (sym (ap (λ p. p.module) s)) (sym (ap (λ p. p.chosen) s)) ∙ sym (append-nil (path_text t (u ∷ [])))
top_text t (Some n) u [] (Some m) e = absurd cc
top_text t (Some n) u (v ∷ us) b e = absurd cc

one_name : (t : SchemaTree) (a b : Option (List ℕ)) → name_steps a ≡ name_steps b → path_text t [] ++ below_text a ≡ path_text t [] ++ below_text b
one_name t None None e = refl
one_name t None (Some m) e = absurd cc
one_name t (Some n) None e = absurd cc
one_name t (Some n) (Some m) e =
    let s : ◌≡◌ {A = PathStep} (record { «module» = []; name = n; chosen = whole }) (record { «module» = []; name = m; chosen = whole }) = cc in
    ap (λ (p : PathStep). path_text t [] ++ 47 ∷ p.name) s

one_text : (t : SchemaTree) (ss us : List PathStep) (a b : Option (List ℕ)) → printed ss ++ name_steps a ≡ printed us ++ name_steps b → path_text t ss ++ below_text a ≡ path_text t us ++ below_text b
unfolding path_text
one_text t [] [] a b e = one_name t a b e
one_text t [] (u ∷ us) a b e = top_text t a u us b e
one_text t (s ∷ ss) [] a b e = sym (top_text t b s ss a (sym e))
one_text t (s ∷ ss) (u ∷ us) a b e =
    let first : printed_at_top s ≡ printed_at_top u = cc in
    let others : longer ss a ≡ longer us b = cc in
    let step = one_step s u first in
    sym (longer_text t s ss a) ∙ (λ i. path_text t (step i ∷ others i)) ∙ longer_text t u us b

pub same_text : (t : SchemaTree) (f g : Fault) → fault_cmp f g ≡ Equal → place_text t f.place ≡ place_text t g.place
same_text t f g e = one_text t f.place.path g.place.path f.place.below g.place.below (same_steps f g e)
