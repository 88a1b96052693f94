-- Rows of one node that are put into an object: one member is put.
use Rattle.std.proofs.Common.{◌≡◌, ℕ, ℤ, cond, List, [], ◌∷◌, ◌++◌, Bool, true, false, not, ◌&&◌, Option, Some, None, Ordering, Less, Equal, Greater, nat_cmp, refl, sym, ap, ap₂, ◌∙◌, bytes_eq}
use Rattle.std.proofs.lemmas.Bool.{and_parts}
use Rattle.std.proofs.lemmas.Cmp.{nat_list_cmp_total, tied_itself}
use Rattle.std.proofs.lemmas.Slice.Eq.{bytes_eq-Decides}
use Rattle.std.specs.List.{list_all}
use Rattle.std.specs.Cmp.Lexicographic.{slice_cmp}
use Rattle.std.specs.Ordering.{match_ordering}
use Rattle.serde_json.specs.Data.{Data, object, array, Items, no_items, Members, no_members, member, put}
use Rattle.serde_json.specs.Find.{get_member}
use Rattle.nm_types.specs.Path.{PathStep, Choice, whole, keys, entry}
use Rattle.nm_types.specs.declared.value.Value.{Value}
use Rattle.nm_types.specs.declared.value.Value.TheVariants.{Int, Decimal, Text, Name, Bits, Empty, Present, Bool as Flag}
use Rattle.nm_schema_tree.specs.Nodes.{SchemaTree}
use Rattle.nm_path.specs.declared.place.Place.{Place}
use Rattle.nm_path.specs.declared.place.Place.TheVariants.{Top, Within, Nowhere}
use Rattle.nm_path.specs.Spelling.{found_of, below}
use Rattle.nm_json.specs.Writing.{is_small, integer_data, value_data, narrow_at, member_name, members_in, items_in, step_data, put_steps}
use Rattle.nm_json.proofs.Putting.{put_twice}
use Rattle.nm_json_text.specs.Passing.{Rest, members_of, put_rest, is_whole, is_end, goes_alike, leads_alike, is_alike, after, data_of, group_data, inner_rests, whole_data, chosen_after, items_after, join, Below, Above}
use Rattle.nm_json_text.proofs.Behind.{put_between, none_between}

-- ---- one name

-- steps begin with one of this member's name
abbrev pub Named : Place → List ℕ → List PathStep → Type 0
Named place n [] = ⊥
Named place n (s ∷ ss) = member_name place s ≡ n

abbrev pub AllNamed : Place → List ℕ → List Rest → Type 0
AllNamed place n [] = Unit {0}
AllNamed place n (r ∷ rs) = Named place n r.0 × AllNamed place n rs

same_text : (xs : List ℕ) → slice_cmp nat_cmp xs xs ≡ Equal
same_text xs = tied_itself nat_list_cmp_total xs

get_put_at : (o : Ordering) (n l : List ℕ) (d e : Data) (ms : Members) → slice_cmp nat_cmp n l ≡ o → get_member n (put n d ms) ≡ Some d
    → get_member n (match_ordering o (member n d (member l e ms)) (member l d ms) (member l e (put n d ms))) ≡ Some d
get_put_at Less n l d e ms is further = rw (same_text n) refl
get_put_at Equal n l d e ms is further = rw is refl
get_put_at Greater n l d e ms is further = rw is further

get_put : (n : List ℕ) (d : Data) (ms : Members) → get_member n (put n d ms) ≡ Some d
get_put n d no_members = rw (same_text n) refl
get_put n d (member l e ms) = get_put_at _ n l d e ms refl (get_put n d ms)

module _ (t : SchemaTree) (place : Place) where
  put_named : (n : List ℕ) (ss : List PathStep) (v : Value) (ms : Members) → Named place n ss → put_steps t place ss v ms ≡ put n (after t place (get_member n ms) ss v) ms
  put_named n [] v ms e = absurd e
  put_named n (s ∷ ss) v ms e = ap (λ q. put q (after t place (get_member q ms) (s ∷ ss) v) ms) e

  put_more : (n : List ℕ) (d : Data) (rs : List Rest) (ms : Members) → AllNamed place n rs → members_of t place (put n d ms) rs ≡ put n (data_of t place d rs) ms
  put_more n d [] ms e = refl
  put_more n d (r ∷ rs) ms e =
      let d₁ = after t place (Some d) r.0 r.1 in
      let one : put_steps t place r.0 r.1 (put n d ms) ≡ put n d₁ ms =
      put_named n r.0 r.1 (put n d ms) e.0 ∙ ap (λ b. put n (after t place b r.0 r.1) (put n d ms)) (get_put n d ms) ∙ put_twice n d₁ d ms in
      ap (λ ns. members_of t place ns rs) one ∙ put_more n d₁ rs ms e.1

  members_append : (rs us : List Rest) (ms : Members) → members_of t place ms (rs ++ us) ≡ members_of t place (members_of t place ms rs) us
  members_append [] us ms = refl
  members_append (r ∷ rs) us ms = members_append rs us (put_rest t place ms r)

  -- the rows of a node are one member more between others
  pub group_between : (n : List ℕ) (r : Rest) (rs us : List Rest) (done ms : Members) → AllNamed place n (r ∷ rs) → Below n done → Above n ms
      → members_of t place (join done ms) ((r ∷ rs) ++ us) ≡ members_of t place (join done (member n (group_data t place (r ∷ rs)) ms)) us
  group_between n r rs us done ms e b a =
      let d = after t place None r.0 r.1 in
      let first : put_steps t place r.0 r.1 (join done ms) ≡ put n d (join done ms) =
      put_named n r.0 r.1 (join done ms) e.0 ∙ ap (λ x. put n (after t place x r.0 r.1) (join done ms)) (none_between n done ms b a) in
      let all : members_of t place (join done ms) (r ∷ rs) ≡ join done (member n (group_data t place (r ∷ rs)) ms) =
      ap (λ ns. members_of t place ns rs) first ∙ put_more n d rs (join done ms) e.1 ∙ put_between n (group_data t place (r ∷ rs)) done ms b a in
      members_append (r ∷ rs) us (join done ms) ∙ ap (λ ns. members_of t place ns us) all

-- ---- rows that lead alike

same_bytes : (xs ys : List ℕ) → bytes_eq xs ys ≡ true → xs ≡ ys
same_bytes xs ys h = (bytes_eq-Decides xs ys).0 h

-- steps that lead to or below the node of a step
record Leads (s u : PathStep) (us : List PathStep) : Type 0 where
  name : u.name ≡ s.name
  owner : u.«module» ≡ s.«module»
  alike : goes_alike s.chosen u.chosen us ≡ true

leads : (s u : PathStep) (us : List PathStep) → leads_alike s (u ∷ us) ≡ true → Leads s u us
leads s u us h =
    let p = and_parts _ _ h in
    let q = and_parts _ _ p.1 in
    record { name = same_bytes _ _ p.0; owner = same_bytes _ _ q.0; alike = q.1 }

same_member : (place : Place) (s u : PathStep) → u.name ≡ s.name → u.«module» ≡ s.«module» → member_name place u ≡ member_name place s
same_member Top s u e f = ap₂ (λ (a b : List ℕ). a ++ 58 ∷ b) f e
same_member (Within i) s u e f = e
same_member Nowhere s u e f = e

alike_named : (place : Place) (s : PathStep) (ss : List PathStep) → leads_alike s ss ≡ true → Named place (member_name place s) ss
alike_named place s [] h = absurd cc
alike_named place s (u ∷ us) h = let l = leads s u us h in same_member place s u l.name l.owner

pub all_named : (place : Place) (s : PathStep) (rs : List Rest) → list_all (is_alike s) rs ≡ true → AllNamed place (member_name place s) rs
all_named place s [] h = tt
all_named place s (r ∷ rs) h = let p = and_parts _ _ h in (alike_named place s r.0 p.0, all_named place s rs p.1)

-- a value has no members
no_integer : (narrow : Bool) (z : ℤ) → members_in (Some (integer_data narrow z)) ≡ no_members
no_integer true z = refl
no_integer false z = refl

no_object : (narrow : Bool) (v : Value) → members_in (Some (value_data narrow v)) ≡ no_members
no_object narrow (Int z) = no_integer (narrow && is_small z) z
no_object narrow (Flag b) = refl
no_object narrow Empty = refl
no_object narrow Present = refl
no_object narrow (Decimal z digits) = refl
no_object narrow (Text text) = refl
no_object narrow (Name text) = refl
no_object narrow (Bits text) = refl

is_whole_only : (c : Choice) → is_whole c ≡ true → c ≡ whole
is_whole_only whole h = refl
is_whole_only (keys ks) h = absurd cc
is_whole_only (entry w) h = absurd cc

not_so : (b : Bool) → not b ≡ true → b ≡ false
not_so false h = refl
not_so true h = absurd cc

module _ (t : SchemaTree) (place : Place) (s : PathStep) where
  abbrev here : Option ℕ
  here = found_of t.nodes place s.«module» s.name

  after_alike : (u : PathStep) (us : List PathStep) (v : Value) (before : Option Data) → u.name ≡ s.name → u.«module» ≡ s.«module»
      → after t place before (u ∷ us) v ≡ step_data t.nodes here u.chosen us v before (put_steps t (below here) us v)
  after_alike u us v before e f =
      ap (λ at. step_data t.nodes at u.chosen us v before (put_steps t (below at) us v)) (ap₂ (λ (m n : List ℕ). found_of t.nodes place m n) f e)

  -- ---- containers

  whole_steps : (c : Choice) (us : List PathStep) (v : Value) (before : Option Data) → (is_whole c && not (is_end us)) ≡ true
      → step_data t.nodes here c us v before (put_steps t (below here) us v) ≡ object (put_steps t (below here) us v (members_in before))
  whole_steps whole [] v before h = absurd cc
  whole_steps whole (w ∷ us) v before h = refl
  whole_steps (keys ks) us v before h = absurd cc
  whole_steps (entry w) us v before h = absurd cc

  whole_row : (r : Rest) (before : Option Data) (rs : List Rest) → is_whole s.chosen ≡ true → is_alike s r ≡ true
      → after t place before r.0 r.1 ≡ object (members_of t (below here) (members_in before) (inner_rests (r ∷ [])))
  whole_row ([], v) before rs w h = absurd cc
  whole_row (u ∷ us, v) before rs w h =
      let l = leads s u us h in
      let goes : (is_whole u.chosen && not (is_end us)) ≡ true = sym (ap (λ b. cond b (is_whole u.chosen && not (is_end us)) (not (is_whole u.chosen))) w) ∙ l.alike in
      after_alike u us v before l.name l.owner ∙ whole_steps u.chosen us v before goes

  whole_more : (rs : List Rest) (ms : Members) → is_whole s.chosen ≡ true → list_all (is_alike s) rs ≡ true
      → data_of t place (object ms) rs ≡ object (members_of t (below here) ms (inner_rests rs))
  whole_more [] ms w h = refl
  whole_more (r ∷ rs) ms w h =
      let p = and_parts _ _ h in
      ap (λ d. data_of t place d rs) (whole_row r (Some (object ms)) rs w p.0) ∙ whole_more rs (members_of t (below here) ms (inner_rests (r ∷ []))) w p.1

  -- the value of a leaf, or a container
  pub group_whole : (ss : List PathStep) (v : Value) (rs : List Rest) → is_whole s.chosen ≡ true → list_all (is_alike s) rs ≡ true
      → group_data t place ((s ∷ ss, v) ∷ rs) ≡ whole_data t here ((s ∷ ss, v) ∷ rs)
  group_whole [] v [] w h = ap (λ c. step_data t.nodes here c [] v None (put_steps t (below here) [] v)) (is_whole_only s.chosen w)
  group_whole [] v (r ∷ rs) w h =
      let p = and_parts _ _ h in
      let value : after t place None (s ∷ []) v ≡ value_data (narrow_at t.nodes here) v = ap (λ c. step_data t.nodes here c [] v None (put_steps t (below here) [] v)) (is_whole_only s.chosen w) in
      let bare : members_in (Some (after t place None (s ∷ []) v)) ≡ no_members = ap (λ d. members_in (Some d)) value ∙ no_object (narrow_at t.nodes here) v in
      ap (λ d. data_of t place d rs) (whole_row r (Some (after t place None (s ∷ []) v)) rs w p.0
      ∙ ap (λ ms. object (members_of t (below here) ms (inner_rests (r ∷ [])))) bare)
      ∙ whole_more rs (members_of t (below here) no_members (inner_rests (r ∷ []))) w p.1
  group_whole (x ∷ ss) v rs w h =
      let goes : (is_whole s.chosen && not (is_end (x ∷ ss))) ≡ true = ap (λ b. b && true) w in
      ap (λ d. data_of t place d rs) (whole_steps s.chosen (x ∷ ss) v None goes) ∙ whole_more rs (put_steps t (below here) (x ∷ ss) v no_members) w h

  -- ---- lists

  items_steps : (c : Choice) (us : List PathStep) (v : Value) (before : Option Data) → is_whole c ≡ false
      → step_data t.nodes here c us v before (put_steps t (below here) us v) ≡ array (chosen_after t here (items_in before) c us v)
  items_steps whole us v before h = absurd cc
  items_steps (keys ks) [] v before h = refl
  items_steps (keys ks) (w ∷ us) v before h = refl
  items_steps (entry w) us v before h = refl

  items_row : (r : Rest) (before : Option Data) → is_whole s.chosen ≡ false → is_alike s r ≡ true → after t place before r.0 r.1 ≡ array (items_after t here (items_in before) (r ∷ []))
  items_row ([], v) before w h = absurd cc
  items_row (u ∷ us, v) before w h =
      let l = leads s u us h in
      let other : is_whole u.chosen ≡ false = not_so _ (sym (ap (λ b. cond b (is_whole u.chosen && not (is_end us)) (not (is_whole u.chosen))) w) ∙ l.alike) in
      after_alike u us v before l.name l.owner ∙ items_steps u.chosen us v before other

  items_more : (rs : List Rest) (ds : Items) → is_whole s.chosen ≡ false → list_all (is_alike s) rs ≡ true → data_of t place (array ds) rs ≡ array (items_after t here ds rs)
  items_more [] ds w h = refl
  items_more (r ∷ rs) ds w h =
      let p = and_parts _ _ h in
      ap (λ d. data_of t place d rs) (items_row r (Some (array ds)) w p.0) ∙ items_more rs (items_after t here ds (r ∷ [])) w p.1

  -- the entries of a list or a leaf-list
  pub group_items : (ss : List PathStep) (v : Value) (rs : List Rest) → is_whole s.chosen ≡ false → list_all (is_alike s) rs ≡ true
      → group_data t place ((s ∷ ss, v) ∷ rs) ≡ array (items_after t here no_items ((s ∷ ss, v) ∷ rs))
  group_items ss v rs w h =
      ap (λ d. data_of t place d rs) (items_steps s.chosen ss v None w) ∙ items_more rs (chosen_after t here no_items s.chosen ss v) w h
