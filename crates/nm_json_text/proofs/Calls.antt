-- What calls of the pass write, as it is said of the calls around them.
use Rattle.std.proofs.Common.{◌≡◌, ℕ, suc, ◌+◌, List, [], ◌∷◌, ◌++◌, drop, take, length, ◌==◌, true, false, Option, Some, OnOk, Result, Ok, Err, refl, sym, ap, ◌∙◌, subst, append_assoc, arith}
use Rattle.std.proofs.Common.{map as each}
use Rattle.std.proofs.lemmas.Bool.{eqb-true}
use Rattle.std.specs.List.{list_all}
use Rattle.json.specs.Token.{Token, begin_object}
use Rattle.json.specs.Tree.{members_tokens}
use Rattle.serde_json.specs.Data.{array, no_items, Members, no_members}
use Rattle.serde_json.specs.Written.{members_outline}
use Rattle.nm_types.specs.Path.{PathStep, keys}
use Rattle.nm_types.specs.declared.value.Value.{Value}
use Rattle.nm_schema_tree.specs.Nodes.{SchemaTree, keys_at}
use Rattle.nm_path.specs.declared.place.Place.{Place}
use Rattle.nm_path.specs.Spelling.{found_of, below}
use Rattle.nm_json.specs.Writing.{key_members, member_name}
use Rattle.nm_json_text.specs.Passing.{Rest, rests, front_length, members_of, is_whole, is_alike, are_alike, is_below, front, join, held, taken, left_over, is_later, is_before_all, group_data, object_of, whole_data, items_after, tokens_of, WritesItem}
use Rattle.nm_json_text.proofs.Behind.{above_held, held_parts, taken_below}
use Rattle.nm_json_text.proofs.Groups.{AllNamed, all_named, group_whole, group_items}
use Rattle.nm_json_text.proofs.Lists.{inner_deeper, below_all, front_rests, split_rests, counted_pass}
use Rattle.nm_json_text.proofs.Passed.{Passed, passed_on}

pub on_ok : {A E P Q : Type 0} (r : Result A E) → (P → Q) → OnOk r P → OnOk r Q
on_ok (Ok a) f p = f p
on_ok (Err e) f p = tt

-- an object with its rows a step further
pub object_text : (t : SchemaTree) (at : Option ℕ) (place : Place) (d deeper : ℕ) (hs ms : Members) (rows : List Rest) (out mid : List Token) → mid ≡ out ++ begin_object ∷ [] → place ≡ below at
    → deeper ≡ d + 1 → hs ≡ ms → mid ++ members_tokens (members_outline (members_of t place hs (rests deeper rows))) ≡ out ++ tokens_of (object_of t at ms (rests d rows))
object_text t at place d deeper hs ms rows out mid m p e h =
    let one : deeper ≡ suc d = omega (arith, e) in
    ap (λ ts. ts ++ members_tokens (members_outline (members_of t place hs (rests deeper rows)))) m
    ∙ append_assoc out (begin_object ∷ []) (members_tokens (members_outline (members_of t place hs (rests deeper rows))))
    ∙ ap (λ q. out ++ begin_object ∷ members_tokens (members_outline (members_of t q hs (rests deeper rows)))) p
    ∙ ap (λ ns. out ++ begin_object ∷ members_tokens (members_outline (members_of t (below at) ns (rests deeper rows)))) h
    ∙ ap (λ n. out ++ begin_object ∷ members_tokens (members_outline (members_of t (below at) ms (rests n rows)))) one
    ∙ ap (λ rs. out ++ begin_object ∷ members_tokens (members_outline (members_of t (below at) ms rs))) (sym (inner_deeper d rows))

-- the first of some rows
pub first_rest : (d : ℕ) (rows : List Rest) (r : Rest) (rest : List Rest) (ss : List PathStep) → rows ≡ r ∷ rest → drop d r.0 ≡ ss → rests d rows ≡ (ss, r.1) ∷ rests d rest
first_rest d rows r rest ss rows_are steps_are = ap (rests d) rows_are ∙ ap (λ xs. (xs, r.1) ∷ rests d rest) steps_are

module _ (t : SchemaTree) (place : Place) (at : Option ℕ) (s : PathStep) (us : List PathStep) (v : Value) (qs rs : List Rest) where
  pub is_container : rs ≡ (s ∷ us, v) ∷ qs → at ≡ found_of t.nodes place s.«module» s.name → is_whole s.chosen ≡ true → are_alike rs ≡ true → whole_data t at rs ≡ group_data t place rs
  is_container e a w h =
      let alike = ap are_alike (sym e) ∙ h in
      ap (whole_data t at) e ∙ ap (λ x. whole_data t x ((s ∷ us, v) ∷ qs)) a ∙ sym (group_whole t place s us v qs w alike) ∙ ap (group_data t place) (sym e)

  pub is_list : rs ≡ (s ∷ us, v) ∷ qs → at ≡ found_of t.nodes place s.«module» s.name → is_whole s.chosen ≡ false → are_alike rs ≡ true → array (items_after t at no_items rs) ≡ group_data t place rs
  is_list e a w h =
      let alike = ap are_alike (sym e) ∙ h in
      ap (λ xs. array (items_after t at no_items xs)) e ∙ ap (λ x. array (items_after t x no_items ((s ∷ us, v) ∷ qs))) a ∙ sym (group_items t place s us v qs w alike)
      ∙ ap (group_data t place) (sym e)

no_steps : (us : List PathStep) → (length us == 0) ≡ true → us ≡ []
no_steps [] h = refl
no_steps (u ∷ us) h = absurd (omega (arith, eqb-true (length (u ∷ us)) 0 h))

-- an entry of a list with the rows below it
pub entry_item : (t : SchemaTree) (at : Option ℕ) (ss : List PathStep) (s : PathStep) (us : List PathStep) (vs : List Value) (inner : List Rest) (out new : List Token) → ss ≡ s ∷ us
    → (length us == 0) ≡ true → s.chosen ≡ keys vs → list_all is_below inner ≡ true
    → new ≡ out ++ tokens_of (object_of t at (key_members t.nodes (keys_at t.nodes at) vs no_members) inner) → WritesItem t at ss inner out new
entry_item t at ss s us vs inner out new steps_are none chosen below text =
    let ms = key_members t.nodes (keys_at t.nodes at) vs no_members in
    let first : ss ≡ record s { chosen = keys vs } ∷ [] = steps_are ∙ ap (λ xs. s ∷ xs) (no_steps us none) ∙ ap (λ c. record s { chosen = c } ∷ []) chosen in
    record {
      data_written = object_of t at ms inner;
      text = text;
      one = λ v ds. ap (λ xs. items_after t at ds ((xs, v) ∷ inner)) first ∙ below_all t at inner ds ms below;
    }

-- a container with a row of its own
pub own_row : {X : Type 0} (f : X → Rest) (t : SchemaTree) (at : Option ℕ) (d : ℕ) (rows : List Rest) (r : Rest) (others : List X) (s : PathStep) (us : List PathStep) → rows ≡ r ∷ each f others
    → drop d r.0 ≡ s ∷ us → (length us == 0) ≡ true → (length others == 0) ≡ false → object_of t at no_members (rests d (each f others)) ≡ whole_data t at (rests d rows)
own_row f t at d rows r [] s us rows_are steps_are none some = absurd cc
own_row f t at d rows r (x ∷ others) s us rows_are steps_are none some =
    sym (ap (whole_data t at) (first_rest d rows r (each f (x ∷ others)) (s ∷ []) rows_are (steps_are ∙ ap (λ xs. s ∷ xs) (no_steps us none))))

-- the group of a row and those alike
pub group_alike : {X : Type 0} (f : X → Rest) (d n k : ℕ) (rows : List X) (x : X) (more : List X) (s : PathStep) (us : List PathStep) → n ≡ 1 + k → rows ≡ x ∷ more → drop d (f x).0 ≡ s ∷ us
    → k ≡ front_length (is_alike s) (rests d (each f more)) → are_alike (rests d (each f (take n rows))) ≡ true
group_alike f d n k rows x more s us n_is rows_are steps_are e =
    ap are_alike (front_rests f d n k rows x more (s ∷ us) n_is rows_are steps_are) ∙ counted_pass f d (is_alike s) k more e

-- a group of rows is written behind the keys before it
pub group_passed : {X : Type 0} (f : X → Rest) (t : SchemaTree) (place : Place) (d : ℕ) (all : Members) (start now : List Token) (last : Option (List ℕ)) (ks : List ℕ) (vs : List Value) (ks_left : List ℕ) (vs_left : List Value)
    (done n k : ℕ) (every rows : List X) (x : X) (more taken_rows : List X) (s : PathStep) (us : List PathStep) (name : List ℕ) (keys_now named_now group_now : List Token)
    → Passed t place all start now last (held t.nodes ks vs) (rests d (each f (drop done every)))
    → rows ≡ drop done every → n ≡ 1 + k → rows ≡ x ∷ more → drop d (f x).0 ≡ s ∷ us → k ≡ front_length (is_alike s) (rests d (each f more)) → taken_rows ≡ take n rows
    → name ≡ member_name place s → is_later last name ≡ true
    → keys_now ≡ now ++ front (taken t.nodes name ks vs) → held t.nodes ks_left vs_left ≡ left_over t.nodes name ks vs → is_before_all t.nodes name ks_left ≡ true
    → named_now ≡ keys_now ++ Token.key name ∷ [] → group_now ≡ named_now ++ tokens_of (group_data t place (rests d (each f taken_rows)))
    → Passed t place all start group_now (Some name) (held t.nodes ks_left vs_left) (rests d (each f (drop (done + n) every)))
group_passed f t place d all start now last ks vs ks_left vs_left done n k every rows x more taken_rows s us name keys_now named_now group_now p are n_is rows_are steps_are count taken_are name_is late kt left later nt gt =
    let nodes = t.nodes in
    let parts : held nodes ks vs ≡ join (taken nodes name ks vs) (held nodes ks_left vs_left) = held_parts nodes name ks vs ∙ ap (join (taken nodes name ks vs)) (sym left) in
    let rs = rests d (each f (take k more)) in
    let split = split_rests f d done n k every rows x more (s ∷ us) are n_is rows_are steps_are in
    let rest_named : AllNamed place (member_name place s) rs = all_named place s rs (counted_pass f d (is_alike s) k more count) in
    let named : AllNamed place name (((s ∷ us), (f x).1) ∷ rs) = subst (λ q. AllNamed place q (((s ∷ us), (f x).1) ∷ rs)) (sym name_is) (refl, rest_named) in
    let group = ap (λ xs. rests d (each f xs)) taken_are ∙ front_rests f d n k rows x more (s ∷ us) n_is rows_are steps_are in
    passed_on t place all start now last (held nodes ks vs) (rests d (each f (drop done every))) p name late keys_now (taken nodes name ks vs) (held nodes ks_left vs_left) kt parts
    (taken_below nodes name ks vs) (above_held nodes name ks_left vs_left later) (s ∷ us, (f x).1) rs (rests d (each f (drop (done + n) every))) split named named_now group_now nt
    (gt ∙ ap (λ xs. named_now ++ tokens_of (group_data t place xs)) group)
