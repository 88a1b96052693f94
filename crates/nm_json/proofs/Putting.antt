-- Members and items that are put into JSON values.
use Rattle.std.proofs.Common.{◌≡◌, ℕ, List, [], ◌∷◌, ◌++◌, length, get_or, drop, take, ◌-◌, ◌≤◌, false, ◌==◌, Option, Some, Ordering, Less, Equal, Greater, nat_cmp, refl, sym, ap, ◌∙◌, arith}
use Rattle.std.proofs.lemmas.Cmp.{nat_list_cmp_total, tied_itself}
use Rattle.std.proofs.lemmas.List.{take_all}
use Rattle.std.specs.Cmp.Lexicographic.{slice_cmp}
use Rattle.std.specs.Ordering.{match_ordering}
use Rattle.serde_json.specs.Data.{Data, null, array, item, Members, no_members, member, put}
use Rattle.serde_json.specs.Find.{get_member}
use Rattle.serde_json.specs.View.{view, items_view}
use Rattle.serde_json.specs.declared.value.Value.{Value}
use Rattle.nm_types.specs.Path.{PathStep, keys}
use Rattle.nm_types.specs.declared.value.Value.{Value as LeafValue}
use Rattle.nm_schema_tree.specs.declared.node.Node.{Node}
use Rattle.nm_schema_tree.specs.Nodes.{SchemaTree}
use Rattle.nm_path.specs.declared.place.Place.{Place}
use Rattle.nm_path.specs.Spelling.{found_of, below}
use Rattle.nm_json.specs.Writing.{append, in_last, object_after, items_in, step_data, put_steps, member_name}

same_text : (xs : List ℕ) → slice_cmp nat_cmp xs xs ≡ Equal
same_text xs = tied_itself nat_list_cmp_total xs

put_twice_at : (o : Ordering) (k l : List ℕ) (d e x : Data) (ms : Members) → slice_cmp nat_cmp k l ≡ o → put k d (put k e ms) ≡ put k d ms
    → put k d (match_ordering o (member k e (member l x ms)) (member l e ms) (member l x (put k e ms))) ≡ match_ordering o (member k d (member l x ms)) (member l d ms) (member l x (put k d ms))
put_twice_at Less k l d e x ms is later = rw (same_text k) refl
put_twice_at Equal k l d e x ms is later = rw is refl
put_twice_at Greater k l d e x ms is later = rw is (ap (member l x) later)

-- the last value of a member stands
pub put_twice : (k : List ℕ) (d e : Data) (ms : Members) → put k d (put k e ms) ≡ put k d ms
put_twice k d e no_members = rw (same_text k) refl
put_twice k d e (member l x ms) = put_twice_at _ k l d e x ms refl (put_twice k d e ms)

-- an item more
pub items_push : (vs : List Value) (v : Value) → items_view (vs ++ v ∷ []) ≡ append (items_view vs) (view v)
items_push [] v = refl
items_push (u ∷ vs) v = ap (item (view u)) (items_push vs v)

-- the last item is an object into which something is put
pub in_last_push : (f : Members → Members) (vs : List Value) (v : Value) → in_last f (items_view (vs ++ v ∷ [])) ≡ append (items_view vs) (object_after f (Some (view v)))
in_last_push f [] v = refl
in_last_push f (u ∷ []) v = refl
in_last_push f (u ∷ w ∷ vs) v = ap (item (view u)) (in_last_push f (w ∷ vs) v)

-- the entries of a list once a row is put into the last of them
pub entries_after : (nodes : List Node) (at : Option ℕ) (ks : List LeafValue) (ss : List PathStep) (v : LeafValue) (before : Option Data) (f : Members → Members) (all old : List Value) (last part : Value)
    → (length ss == 0) ≡ false → items_view all ≡ items_in before → all ≡ old ++ last ∷ [] → view part ≡ object_after f (Some (view last))
    → array (append (items_view old) (view part)) ≡ step_data nodes at (keys ks) ss v before f
entries_after nodes at ks [] v before f all old last part some is split into = absurd cc
entries_after nodes at ks (s ∷ ss) v before f all old last part some is split into =
    ap (λ d. array (append (items_view old) d)) into ∙ ap array (sym (in_last_push f old last))
    ∙ ap (λ us. array (in_last f (items_view us))) (sym split) ∙ ap (λ ds. array (in_last f ds)) is

-- the members of an object once a row is put there, by the steps of the code
pub put_whole : (t : SchemaTree) (place : Place) (s : PathStep) (ss steps : List PathStep) (v : LeafValue) (ms mid : Members) (name : List ℕ) (at : Option ℕ) (before : Option Data) (part : Data)
    → steps ≡ s ∷ ss → name ≡ member_name place s → at ≡ found_of t.nodes place s.«module» s.name → before ≡ get_member name ms → mid ≡ put name null ms
    → part ≡ step_data t.nodes at s.chosen ss v before (put_steps t (below at) ss v) → put name part mid ≡ put_steps t place steps v ms
put_whole t place s ss steps v ms mid name at before part is n a b m p =
    let data_of : List ℕ → Option ℕ → Data = λ q x. step_data t.nodes x s.chosen ss v (get_member q ms) (put_steps t (below x) ss v) in
    let here : part ≡ data_of name at = p ∙ ap (λ d. step_data t.nodes at s.chosen ss v d (put_steps t (below at) ss v)) b in
    ap (put name part) m ∙ put_twice name part null ms ∙ ap (λ d. put name d ms) here ∙ ap (λ x. put name (data_of name x) ms) a
    ∙ ap (λ q. put q (data_of q (found_of t.nodes place s.«module» s.name)) ms) n ∙ ap (λ us. put_steps t place us v ms) (sym is)

-- what stands behind the first element
abbrev pub behind : List PathStep → List PathStep
behind ss = take (length ss - 1) (drop 1 ss)

-- a list that begins with an element
pub begins_with : (ss : List PathStep) (s : PathStep) → 1 ≤ length ss → s ≡ get_or ss 0 s → ss ≡ s ∷ behind ss
begins_with [] s some e = absurd (omega arith)
begins_with (t ∷ ss) s some e =
    let long : length ss ≤ length (t ∷ ss) - 1 = omega arith in
    let rest : take (length (t ∷ ss) - 1) ss ≡ ss = take_all (length (t ∷ ss) - 1) ss long in
    ap (λ x. x ∷ ss) (sym e) ∙ ap (λ us. s ∷ us) (sym rest)
