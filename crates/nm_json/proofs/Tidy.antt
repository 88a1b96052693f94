-- Members that are put into objects, and what is found in them.
use Rattle.std.proofs.Common.{◌≡◌, ℕ, List, [], ◌∷◌, ◌++◌, Bool, true, false, ◌&&◌, Option, Some, None, Ordering, Less, Equal, Greater, nat_cmp, refl, sym, ap, ◌∙◌, subst, append_assoc, is_some}
use Rattle.std.proofs.lemmas.Cmp.{nat_list_cmp_total}
use Rattle.std.proofs.lemmas.List.{append-nil}
use Rattle.std.proofs.lemmas.Map.Lookups.{exact_bytes}
use Rattle.std.specs.Cmp.Lexicographic.{slice_cmp}
use Rattle.std.specs.List.{AllByRecursion, after_first}
use Rattle.std.specs.Ordering.{match_ordering, ordering_reverse}
use Rattle.serde_json.specs.Data.{Data, null, boolean, number, string, array, object, Items, no_items, item, Members, no_members, member, put}
use Rattle.serde_json.specs.Find.{get_member}
use Rattle.nm_types.specs.Path.{PathStep}
use Rattle.nm_schema_tree.specs.Nodes.{SchemaTree}
use Rattle.nm_json.specs.Findings.{Finding, is_colon, has_colon, is_twice, named_found, node_named, wanted, found, members_found}
use Rattle.nm_json.proofs.Shuffled as lists
use Rattle.nm_json.proofs.Shuffled.{Shuffled}

-- ---- tidy values

-- a name below the top has no colon
abbrev pub IsBareName : Bool → List ℕ → Type 0
IsBareName true k = Unit {0}
IsBareName false k = has_colon k ≡ false

-- the names of members stand after a name
abbrev pub Above : List ℕ → Members → Type 0
Above l no_members = Unit {0}
Above l (member k d ms) = (slice_cmp nat_cmp l k ≡ Less) × Above l ms

abbrev mutual
  -- in each object the names stand in their order, and below the top none has a colon
  pub TidyData : Data → Type 0
  TidyData null = Unit {0}
  TidyData (boolean b) = Unit {0}
  TidyData (number n) = Unit {0}
  TidyData (string s) = Unit {0}
  TidyData (array ds) = TidyItems ds
  TidyData (object ms) = TidyMembers false ms

  pub TidyItems : Items → Type 0
  TidyItems no_items = Unit {0}
  TidyItems (item d ds) = TidyData d × TidyItems ds

  pub TidyMembers : Bool → Members → Type 0
  TidyMembers top no_members = Unit {0}
  TidyMembers top (member k d ms) = IsBareName top k × Above k ms × TidyData d × TidyMembers top ms

turned : (k l : List ℕ) → slice_cmp nat_cmp k l ≡ Greater → slice_cmp nat_cmp l k ≡ Less
turned k l e = nat_list_cmp_total.antisymm l k ∙ ap ordering_reverse e

above_trans : (k l : List ℕ) (ms : Members) → slice_cmp nat_cmp k l ≡ Less → Above l ms → Above k ms
above_trans k l no_members e h = tt
above_trans k l (member m d ms) e h = (nat_list_cmp_total.trans k l m e h.0, above_trans k l ms e h.1)

above_none : (k l : List ℕ) (ms : Members) → slice_cmp nat_cmp k l ≡ Less → Above l ms → get_member k ms ≡ None
above_none k l no_members e h = refl
above_none k l (member m d ms) e h =
    let rest = get_member k ms in
    ap (λ o. match_ordering o rest (Some d) rest) (nat_list_cmp_total.trans k l m e h.0) ∙ above_none k l ms e h.1

by_order : (P : Members → Type 0) (o : Ordering) (a b c : Members) → (o ≡ Less → P a) → (o ≡ Equal → P b) → (o ≡ Greater → P c) → P (match_ordering o a b c)
by_order P Less a b c f g h = f refl
by_order P Equal a b c f g h = g refl
by_order P Greater a b c f g h = h refl

put_above : (l k : List ℕ) (d : Data) (ms : Members) → slice_cmp nat_cmp l k ≡ Less → Above l ms → Above l (put k d ms)
put_above l k d no_members e h = (e, tt)
put_above l k d (member m x ms) e h =
    by_order (Above l) (slice_cmp nat_cmp k m) (member k d (member m x ms)) (member m d ms) (member m x (put k d ms)) (λ o. (e, h)) (λ o. h) (λ o. (h.0, put_above l k d ms e h.1))

-- a member more
pub put_tidy : (top : Bool) (k : List ℕ) (d : Data) (ms : Members) → IsBareName top k → TidyData d → TidyMembers top ms → TidyMembers top (put k d ms)
put_tidy top k d no_members b t h = (b, tt, t, tt)
put_tidy top k d (member l x ms) b t h =
    by_order (TidyMembers top) (slice_cmp nat_cmp k l) (member k d (member l x ms)) (member l d ms) (member l x (put k d ms))
    (λ o. (b, (o, above_trans k l ms o h.1), t, h)) (λ o. (h.0, h.1, t, h.3)) (λ o. (h.0, put_above l k d ms (turned k l o) h.1, h.2, put_tidy top k d ms b t h.3))

-- what a member holds is tidy
abbrev pub TidyMember : Option Data → Type 0
TidyMember None = Unit {0}
TidyMember (Some d) = TidyData d

tidy_by : (o : Ordering) (d : Data) (x : Option Data) → TidyData d → TidyMember x → TidyMember (match_ordering o x (Some d) x)
tidy_by Less d x t h = h
tidy_by Equal d x t h = t
tidy_by Greater d x t h = h

pub tidy_member : (top : Bool) (k : List ℕ) (ms : Members) → TidyMembers top ms → TidyMember (get_member k ms)
tidy_member top k no_members h = tt
tidy_member top k (member l d ms) h = tidy_by (slice_cmp nat_cmp k l) d (get_member k ms) h.2 (tidy_member top k ms h.3)

-- ---- what is found in members

-- what is found in a member whose name no other member stands for
abbrev pub member_found : SchemaTree → List PathStep → Option ℕ → List ℕ → Data → List Finding
member_found t above within k d = named_found t above false k (node_named t within k) ++ found t (wanted t above (node_named t within k)) d

-- what is found in members whose names no other members stand for
abbrev pub plain_found : SchemaTree → List PathStep → Option ℕ → Members → List Finding
plain_found t above within no_members = []
plain_found t above within (member k d ms) = member_found t above within k d ++ plain_found t above within ms

-- what is found in a member, if it is there
abbrev pub before_found : SchemaTree → List PathStep → Option ℕ → List ℕ → Option Data → List Finding
before_found t above within k None = []
before_found t above within k (Some d) = member_found t above within k d

abbrev pub is_top : Option ℕ → Bool
is_top None = true
is_top (Some i) = false

once : (within : Option ℕ) (k : List ℕ) (all : Members) → IsBareName (is_top within) k → is_twice within k all ≡ false
unfolding is_twice
once None k all h = refl
once (Some i) k all h = ap (λ b. b && is_some (get_member (after_first is_colon k) all)) h

-- among tidy members no name stands for another
pub members_plain : (t : SchemaTree) (above : List PathStep) (within : Option ℕ) (all ms : Members) → TidyMembers (is_top within) ms → members_found t above within all ms ≡ plain_found t above within ms
members_plain t above within all no_members h = refl
members_plain t above within all (member k d ms) h =
    let one = once within k all h.0 in
    let rest = members_plain t above within all ms h.3 in
    λ i. (named_found t above (one i) k (node_named t within k) ++ found t (wanted t above (node_named t within k)) d) ++ rest i

module _ (t : SchemaTree) (above : List PathStep) (within : Option ℕ) where
  put_found_at : (o : Ordering) (k l : List ℕ) (d x : Data) (ms : Members) (new : List Finding) → slice_cmp nat_cmp k l ≡ o → Above l ms
      → Shuffled (member_found t above within k d) (new ++ before_found t above within k (match_ordering o (get_member k ms) (Some x) (get_member k ms)))
      → (Shuffled (member_found t above within k d) (new ++ before_found t above within k (get_member k ms)) → Shuffled (plain_found t above within (put k d ms)) (new ++ plain_found t above within ms))
      → Shuffled (plain_found t above within (match_ordering o (member k d (member l x ms)) (member l d ms) (member l x (put k d ms)))) (new ++ plain_found t above within (member l x ms))
  put_found_at Less k l d x ms new e h s later =
      let rest = plain_found t above within (member l x ms) in
      let none : before_found t above within k (get_member k ms) ≡ [] = ap (before_found t above within k) (above_none k l ms e h) in
      let front : Shuffled (member_found t above within k d) new = subst (λ fs. Shuffled (member_found t above within k d) fs) (ap (λ fs. new ++ fs) none ∙ append-nil new) s in
      lists.before_all rest front
  put_found_at Equal k l d x ms new e h s later =
      let rest = plain_found t above within ms in
      let same : k ≡ l = exact_bytes k l e in
      let here : Shuffled (member_found t above within l d) (new ++ member_found t above within l x) = subst (λ q. Shuffled (member_found t above within q d) (new ++ member_found t above within q x)) same s in
      lists.further ((new ++ member_found t above within l x) ++ rest) (lists.before_all rest here) (lists.equals (append_assoc new (member_found t above within l x) rest))
  put_found_at Greater k l d x ms new e h s later =
      let first = member_found t above within l x in
      lists.further (first ++ (new ++ plain_found t above within ms)) (lists.after_all first (later s)) (lists.parts first new (plain_found t above within ms))

  -- what is found once a member is put, by what is found in it
  pub put_found : (top : Bool) (k : List ℕ) (d : Data) (ms : Members) (new : List Finding) → TidyMembers top ms
      → Shuffled (member_found t above within k d) (new ++ before_found t above within k (get_member k ms)) → Shuffled (plain_found t above within (put k d ms)) (new ++ plain_found t above within ms)
  put_found top k d no_members new h s =
      lists.further ((new ++ []) ++ []) (lists.before_all [] s) (lists.equals (append-nil (new ++ [])))
  put_found top k d (member l x ms) new h s = put_found_at (slice_cmp nat_cmp k l) k l d x ms new refl h.1 s (λ r. put_found top k d ms new h.3 r)

-- ---- what holds of all that is found

pub all_left : {A : Type 0} (P : A → Type 0) (xs ys : List A) → AllByRecursion P (xs ++ ys) → AllByRecursion P xs
all_left P [] ys h = tt
all_left P (x ∷ xs) ys h = (h.0, all_left P xs ys h.1)

pub all_right : {A : Type 0} (P : A → Type 0) (xs ys : List A) → AllByRecursion P (xs ++ ys) → AllByRecursion P ys
all_right P [] ys h = h
all_right P (x ∷ xs) ys h = all_right P xs ys h.1

module _ (t : SchemaTree) (above : List PathStep) (within : Option ℕ) (P : Finding → Type 0) where
  all_before_at : (o : Ordering) (k l : List ℕ) (x : Data) (y : Option Data) → slice_cmp nat_cmp k l ≡ o → AllByRecursion P (member_found t above within l x) → AllByRecursion P (before_found t above within k y)
      → AllByRecursion P (before_found t above within k (match_ordering o y (Some x) y))
  all_before_at Less k l x y e h r = r
  all_before_at Equal k l x y e h r = subst (λ q. AllByRecursion P (member_found t above within q x)) (sym (exact_bytes k l e)) h
  all_before_at Greater k l x y e h r = r

  -- what holds of all that is found in members holds of what is found in one
  pub all_before : (k : List ℕ) (ms : Members) → AllByRecursion P (plain_found t above within ms) → AllByRecursion P (before_found t above within k (get_member k ms))
  all_before k no_members h = tt
  all_before k (member l x ms) h =
      all_before_at (slice_cmp nat_cmp k l) k l x (get_member k ms) refl (all_left P (member_found t above within l x) (plain_found t above within ms) h)
      (all_before k ms (all_right P (member_found t above within l x) (plain_found t above within ms) h))
