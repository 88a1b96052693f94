-- Members that stand behind some and before others.
use Rattle.std.proofs.Common.{◌≡◌, ℕ, List, [], ◌∷◌, ◌++◌, Bool, true, false, cond, Some, None, Ordering, Less, Equal, Greater, nat_cmp, refl, sym, ap, ◌∙◌, append_assoc}
use Rattle.std.proofs.lemmas.Bool.{and_parts}
use Rattle.std.proofs.lemmas.Cmp.{nat_list_cmp_total}
use Rattle.std.specs.Cmp.Lexicographic.{slice_cmp}
use Rattle.std.specs.Ordering.{is_lt, match_ordering, ordering_reverse}
use Rattle.json.specs.Token.{Token, end_object}
use Rattle.json.specs.Tree.{members_tokens}
use Rattle.serde_json.specs.Data.{Data, Members, no_members, member, put}
use Rattle.serde_json.specs.Find.{get_member}
use Rattle.serde_json.specs.Written.{members_outline}
use Rattle.nm_types.specs.declared.value.Value.{Value}
use Rattle.nm_schema_tree.specs.declared.node.Node.{Node}
use Rattle.nm_path.specs.Spelling.{name_at}
use Rattle.nm_json.specs.Writing.{value_data, narrow_at, key_members}
use Rattle.nm_json_text.specs.Passing.{tokens_of, front, join, held, taken, left_over, ascends, is_before_all, Below, Above}

pub less : (o : Ordering) → is_lt o ≡ true → o ≡ Less
less Less h = refl
less Equal h = absurd cc
less Greater h = absurd cc

pub greater : (k l : List ℕ) → is_lt (slice_cmp nat_cmp k l) ≡ true → slice_cmp nat_cmp l k ≡ Greater
greater k l h = nat_list_cmp_total.antisymm l k ∙ ap ordering_reverse (less _ h)

later : (k l m : List ℕ) → is_lt (slice_cmp nat_cmp k l) ≡ true → is_lt (slice_cmp nat_cmp l m) ≡ true → is_lt (slice_cmp nat_cmp k m) ≡ true
later k l m g h = ap is_lt (nat_list_cmp_total.trans k l m (less _ g) (less _ h))

pub join_assoc : (xs ys zs : Members) → join (join xs ys) zs ≡ join xs (join ys zs)
join_assoc no_members ys zs = refl
join_assoc (member k d xs) ys zs = ap (member k d) (join_assoc xs ys zs)

pub join_none : (xs : Members) → join xs no_members ≡ xs
join_none no_members = refl
join_none (member k d xs) = ap (member k d) (join_none xs)

pub below_join : (n : List ℕ) (xs ys : Members) → Below n xs → Below n ys → Below n (join xs ys)
below_join n no_members ys g h = h
below_join n (member k d xs) ys g h = (g.0, below_join n xs ys g.1 h)

pub below_later : (n m : List ℕ) (xs : Members) → is_lt (slice_cmp nat_cmp n m) ≡ true → Below n xs → Below m xs
below_later n m no_members l h = tt
below_later n m (member k d xs) l h = (later k n m h.0 l, below_later n m xs l h.1)

-- a member is put between those before it and those after it
pub put_between : (n : List ℕ) (d : Data) (done ms : Members) → Below n done → Above n ms → put n d (join done ms) ≡ join done (member n d ms)
put_between n d no_members no_members b a = refl
put_between n d no_members (member l e ms) b a =
    ap (λ o. match_ordering o (member n d (member l e ms)) (member l d ms) (member l e (put n d ms))) (less _ a.0)
put_between n d (member k e done) ms b a =
    ap (λ o. match_ordering o (member n d (member k e (join done ms))) (member k d (join done ms)) (member k e (put n d (join done ms)))) (greater k n b.0)
    ∙ ap (member k e) (put_between n d done ms b.1 a)

-- there is no member of its name yet
pub none_between : (n : List ℕ) (done ms : Members) → Below n done → Above n ms → get_member n (join done ms) ≡ None
none_between n no_members no_members b a = refl
none_between n no_members (member l e ms) b a =
    ap (λ o. match_ordering o (get_member n ms) (Some e) (get_member n ms)) (less _ a.0) ∙ none_between n no_members ms b a.1
none_between n (member k e done) ms b a =
    ap (λ o. match_ordering o (get_member n (join done ms)) (Some e) (get_member n (join done ms))) (greater k n b.0) ∙ none_between n done ms b.1 a

-- ---- tokens

pub front_join : (xs ys : Members) → front (join xs ys) ≡ front xs ++ front ys
front_join no_members ys = refl
front_join (member k d xs) ys =
    ap (λ ts. Token.key k ∷ ts) (ap (λ ts. tokens_of d ++ ts) (front_join xs ys) ∙ sym (append_assoc (tokens_of d) (front xs) (front ys)))

pub with_end : (ms : Members) → members_tokens (members_outline ms) ≡ front ms ++ end_object ∷ []
with_end no_members = refl
with_end (member k d ms) =
    ap (λ ts. Token.key k ∷ ts) (ap (λ ts. tokens_of d ++ ts) (with_end ms) ∙ sym (append_assoc (tokens_of d) (front ms) (end_object ∷ [])))

-- ---- keys

pub above_held : (nodes : List Node) (n : List ℕ) (ks : List ℕ) (vs : List Value) → is_before_all nodes n ks ≡ true → Above n (held nodes ks vs)
above_held nodes n [] vs h = tt
above_held nodes n (k ∷ ks) [] h = tt
above_held nodes n (k ∷ ks) (v ∷ vs) h = let p = and_parts _ _ h in (p.0, above_held nodes n ks vs p.1)

-- members stand before the names of keys
abbrev BeforeKeys : List Node → Members → List ℕ → Type 0
BeforeKeys nodes done [] = Unit {0}
BeforeKeys nodes done (k ∷ ks) = Below (name_at nodes k) done × BeforeKeys nodes done ks

one_more : (nodes : List Node) (done : Members) (n : List ℕ) (d : Data) (ks : List ℕ) → BeforeKeys nodes done ks → is_before_all nodes n ks ≡ true → BeforeKeys nodes (join done (member n d no_members)) ks
one_more nodes done n d [] b h = tt
one_more nodes done n d (k ∷ ks) b h =
    let p = and_parts _ _ h in
    (below_join (name_at nodes k) done (member n d no_members) b.0 (p.0, tt), one_more nodes done n d ks b.1 p.1)

held_from : (nodes : List Node) (ks : List ℕ) (vs : List Value) (done : Members) → ascends nodes ks ≡ true → BeforeKeys nodes done ks → key_members nodes ks vs done ≡ join done (held nodes ks vs)
held_from nodes [] vs done a b = sym (join_none done)
held_from nodes (k ∷ ks) [] done a b = sym (join_none done)
held_from nodes (k ∷ ks) (v ∷ vs) done a b =
    let n = name_at nodes k in
    let d = value_data (narrow_at nodes (Some k)) v in
    let p = and_parts _ _ a in
    let one : put n d done ≡ join done (member n d no_members) = ap (put n d) (sym (join_none done)) ∙ put_between n d done no_members b.0 tt in
    ap (key_members nodes ks vs) one ∙ held_from nodes ks vs (join done (member n d no_members)) p.1 (one_more nodes done n d ks b.1 p.0)
    ∙ join_assoc done (member n d no_members) (held nodes ks vs)

before_none : (nodes : List Node) (ks : List ℕ) → BeforeKeys nodes no_members ks
before_none nodes [] = tt
before_none nodes (k ∷ ks) = (tt, before_none nodes ks)

-- keys in the order of their names are the members of an entry
pub held_members : (nodes : List Node) (ks : List ℕ) (vs : List Value) → ascends nodes ks ≡ true → held nodes ks vs ≡ key_members nodes ks vs no_members
held_members nodes ks vs a = sym (held_from nodes ks vs no_members a (before_none nodes ks))

abbrev key_member : List Node → ℕ → Value → Members → Members
key_member nodes k v ms = member (name_at nodes k) (value_data (narrow_at nodes (Some k)) v) ms

parts_by : (nodes : List Node) (n : List ℕ) (k : ℕ) (ks : List ℕ) (v : Value) (vs : List Value) (b : Bool) → held nodes ks vs ≡ join (taken nodes n ks vs) (left_over nodes n ks vs)
    → held nodes (k ∷ ks) (v ∷ vs) ≡ join (cond b (key_member nodes k v (taken nodes n ks vs)) no_members) (cond b (left_over nodes n ks vs) (held nodes (k ∷ ks) (v ∷ vs)))
parts_by nodes n k ks v vs true h = ap (key_member nodes k v) h
parts_by nodes n k ks v vs false h = refl

-- the keys before a name, and those behind them
pub held_parts : (nodes : List Node) (n : List ℕ) (ks : List ℕ) (vs : List Value) → held nodes ks vs ≡ join (taken nodes n ks vs) (left_over nodes n ks vs)
held_parts nodes n [] vs = refl
held_parts nodes n (k ∷ ks) [] = refl
held_parts nodes n (k ∷ ks) (v ∷ vs) = parts_by nodes n k ks v vs (is_lt (slice_cmp nat_cmp (name_at nodes k) n)) (held_parts nodes n ks vs)

taken_by : (nodes : List Node) (n : List ℕ) (k : ℕ) (ks : List ℕ) (v : Value) (vs : List Value) (b : Bool) → is_lt (slice_cmp nat_cmp (name_at nodes k) n) ≡ b → Below n (taken nodes n ks vs)
    → Below n (cond b (key_member nodes k v (taken nodes n ks vs)) no_members)
taken_by nodes n k ks v vs true e h = (e, h)
taken_by nodes n k ks v vs false e h = tt

pub taken_below : (nodes : List Node) (n : List ℕ) (ks : List ℕ) (vs : List Value) → Below n (taken nodes n ks vs)
taken_below nodes n [] vs = tt
taken_below nodes n (k ∷ ks) [] = tt
taken_below nodes n (k ∷ ks) (v ∷ vs) = taken_by nodes n k ks v vs _ refl (taken_below nodes n ks vs)
