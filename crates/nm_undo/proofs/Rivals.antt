-- In a valid configuration no row is of another case than a row beside which it stands.
use Rattle.std.proofs.Common.{◌≡◌, ◌⊎◌, ℕ, zero, suc, ◌+◌, ◌<◌, ◌≤◌, List, [], ◌∷◌, ◌++◌, take, length, Bool, true, false, cond, not, ◌&&◌, ◌==◌, Option, Some, None, slice_get, nat_lt, if◌then◌else◌, refl, sym, ap, subst, ◌∙◌, append_assoc, inl, inr, arith, length-append}
use Rattle.std.proofs.lemmas.Grind.{common_steps}
use Rattle.std.proofs.lemmas.Bool.Decides.{nat_tests}
use Rattle.std.specs.List.{list_any, find, range_with_len}
use Rattle.std.proofs.lemmas.List.Folds.{list_any-append}
use Rattle.std.specs.FinMap.{contains_key, keys}
use Rattle.nm_types.specs.Path.{PathStep}
use Rattle.nm_schema_tree.specs.declared.node.Node.{Node}
use Rattle.nm_schema_tree.specs.Nodes.{SchemaTree, AreNested, same_parent, parent_in, parent_of, case_of, case_at, choice_at, around_case, outer_case}
use Rattle.nm_path.specs.Spelling.{node_of}
use Rattle.nm_path.specs.Sound.{IsSound}
use Rattle.nm_config.specs.Rows.{Rows}
use Rattle.nm_config.specs.Under.{is_under}
use Rattle.nm_config.proofs.Meaning.{under-means}
use Rattle.nm_validate_rules.specs.declared.rule.Rule.TheVariants.{OneCase}
use Rattle.nm_validate_rules.specs.Standing.{StandsIn}
use Rattle.nm_validate_rules.specs.Cases.{bare_in, bare, numbers, outwards, cases_over, is_choice, case_of_choice}
use Rattle.nm_validate_rules.specs.Guards.{front}
use Rattle.nm_validate_rules.specs.Violated.{Child, child_by, case_of_node, child_over, children_of, first_other, is_path_of, violated}
use Rattle.nm_validate_rules.proofs.Among.{Among, both, any_passes, among_given, among_numbers}
use Rattle.nm_validate_rules.proofs.Agreeing.{same_path}
use Rattle.nm_validate_rules.proofs.Areas.{key_among}
use Rattle.nm_validate_rules.proofs.Chains.{area_node}
use Rattle.nm_validate_rules.proofs.Entries.{front_last, entry_is}
use Rattle.nm_validate_rules.proofs.Leading.{by_last}
use Rattle.nm_validate_rules.proofs.Lists.{either, among_filter_map, not_true}
use Rattle.nm_validate_rules.proofs.Local.{first_among}
use Rattle.nm_validate_rules.proofs.Placed.{any_at, both_true, key_there}
use Rattle.nm_edit.specs.Rivals.{is_one_choice, is_other_case, is_in_other, are_rivals, rival_at, rivals_of, rivals_at, ousted_from, ousted_by}
use Rattle.nm_edit.specs.Laws.{goes}
use Rattle.nm_overlay.proofs.Order.{Place}
use Rattle.nm_undo.proofs.Maps.{from_flat, some_is}
use Rattle.nm_undo.proofs.Below.{goes_on, chosen_on, some_chosen, front_goes}

-- ---- what has to go where a row comes

-- at a step of a row node x stands, and what is at or below a rival of it has to go
record Ousts (t : SchemaTree) (row q : Place) : Type 0 where
  place : Place
  step : PathStep
  more : Place
  x : ℕ
  y : ℕ
  is : row ≡ place ++ step ∷ more
  leads : node_of t (place ++ step ∷ []) ≡ Some x
  rivals : are_rivals t x y ≡ true
  below : is_under (place ++ bare t.nodes y ∷ []) q ≡ true

rival_is : (t : SchemaTree) (above : Place) (x y : ℕ) (b : Bool) (p : Place) → are_rivals t x y ≡ b → Among (if b then (above ++ bare t.nodes y ∷ []) ∷ [] else []) p
    → (are_rivals t x y ≡ true) × (p ≡ above ++ bare t.nodes y ∷ [])
rival_is t above x y true p is (inl same) = (is, same)
rival_is t above x y true p is (inr a) = absurd a
rival_is t above x y false p is a = absurd a

ousts_here : (t : SchemaTree) (row above : Place) (s : PathStep) (ss q : Place) → row ≡ above ++ s ∷ ss → (o : Option ℕ) → node_of t (above ++ s ∷ []) ≡ o → goes (rivals_at t above o) q ≡ true → Ousts t row q
ousts_here t row above s ss q e None at h = absurd (cc)
ousts_here t row above s ss q e (Some x) at h =
    let p = any_passes (λ node. is_under node q) (rivals_of t above x) h in
    let f = from_flat (rival_at t above x) (numbers t.nodes) p.x p.among in
    let r = rival_is t above x f.x (are_rivals t x f.x) p.x refl f.of in
    record { place = above; step = s; more = ss; x = x; y = f.x; is = e; leads = at; rivals = r.0; below = ap (λ (n : Place). is_under n q) (sym r.1) ∙ p.passes }

ousts : (t : SchemaTree) (row above ss q : Place) → row ≡ above ++ ss → goes (ousted_from t above ss) q ≡ true → Ousts t row q
ousts t row above [] q e h = absurd (cc)
ousts t row above (s ∷ ss) q e h =
    let here = rivals_at t above (node_of t (above ++ s ∷ [])) in
    let on = ousted_from t (above ++ s ∷ []) ss in
    elim (either (goes here q) (goes on q) (sym (list_any-append (λ node. is_under node q) here on) ∙ h)) [
      | inl now ↦ ousts_here t row above s ss q e (node_of t (above ++ s ∷ [])) refl now
      | inr later ↦ ousts t row (above ++ s ∷ []) ss q (e ∙ sym (append_assoc above (s ∷ []) ss)) later
    ]

-- ---- two cases of one choice

-- two nodes stand in other cases of a choice
record InTwoCases (t : SchemaTree) (x y : ℕ) : Type 0 where
  choice : ℕ
  one : ℕ
  other : ℕ
  apart : (other == one) ≡ false
  one_of : choice_at t.cases one ≡ Some choice
  other_of : choice_at t.cases other ≡ Some choice
  over_x : Among (cases_over t x) one
  over_y : Among (cases_over t y) other

not_is : (b : Bool) → not b ≡ true → b ≡ false
not_is true e = absurd (cc)
not_is false e = refl

same_number : (a b : ℕ) → (a == b) ≡ true → a ≡ b
same_number a b e = grind (arith, common_steps)

number_itself : (a : ℕ) → (a == a) ≡ true
number_itself a = grind (arith, common_steps)

one_choice : (o p : Option ℕ) → is_one_choice o p ≡ true → (k : ℕ) × (o ≡ Some k) × (p ≡ Some k)
one_choice (Some k) (Some j) e = (k, refl, ap Some (sym (same_number k j e)))
one_choice (Some k) None e = absurd (cc)
one_choice None None e = absurd (cc)
one_choice None (Some j) e = absurd (cc)

same_parents : (o p : Option ℕ) → same_parent o p ≡ true → o ≡ p
same_parents None None e = refl
same_parents None (Some j) e = absurd (cc)
same_parents (Some i) None e = absurd (cc)
same_parents (Some i) (Some j) e = ap Some (same_number i j e)

module _ (t : SchemaTree) (x y : ℕ) where
  in_other : (c : ℕ) → Among (cases_over t x) c → is_in_other t y c ≡ true → InTwoCases t x y
  unfolding is_in_other
  in_other c a e =
      let p = any_passes (is_other_case t c) (cases_over t y) e in
      let h = both (not (p.x == c)) (is_one_choice (choice_at t.cases c) (choice_at t.cases p.x)) p.passes in
      let k = one_choice (choice_at t.cases c) (choice_at t.cases p.x) h.1 in
      record { choice = k.0; one = c; other = p.x; apart = not_is (p.x == c) h.0; one_of = k.1; other_of = k.2; over_x = a; over_y = p.among }

  two_cases : are_rivals t x y ≡ true → (parent_of t.nodes x ≡ parent_of t.nodes y) × InTwoCases t x y
  unfolding are_rivals
  two_cases e =
      let h = both (same_parent (parent_of t.nodes x) (parent_of t.nodes y)) (list_any (is_in_other t y) (cases_over t x)) e in
      let p = any_passes (is_in_other t y) (cases_over t x) h.1 in
      (same_parents (parent_of t.nodes x) (parent_of t.nodes y) h.0, in_other p.x p.among p.passes)

-- a node that stands in a case is there
case_node : (t : SchemaTree) (x c : ℕ) → Among (cases_over t x) c → (o : Option Node) → slice_get t.nodes x ≡ o → (n : Node) × (slice_get t.nodes x ≡ Some n)
unfolding cases_over
case_node t x c a (Some n) is = (n, is)
case_node t x c a None is = absurd (subst (λ (o : Option Node). Among (outwards t (length t.cases) (case_of o)) c) is a)

-- outwards the numbers of cases fall, so that of the cases outwards of one only one is of a choice
module _ (t : SchemaTree) (nested : AreNested t.choices t.cases) where
  at_most_by : (n b c : ℕ) → ((d : ℕ) → Among (outwards t n (Some d)) c → c ≤ d) → (o : Option ℕ) → outer_case t.choices t.cases b ≡ o → Among (outwards t n o) c → c ≤ b
  at_most_by n b c more None is a = absurd a
  at_most_by n b c more (Some d) is a = let lower = nested.outwards b d is in let upto = more d a in omega (arith, lower, upto)

  at_most : (n b c : ℕ) → Among (outwards t n (Some b)) c → c ≤ b
  at_most zero b c a = absurd a
  at_most (suc n) b c (inl same) = omega (arith, same)
  at_most (suc n) b c (inr a) = at_most_by n b c (λ d h. at_most n d c h) (outer_case t.choices t.cases b) refl a

  not_outwards : (n c : ℕ) (o : Option ℕ) → outer_case t.choices t.cases c ≡ o → Among (outwards t n o) c → ⊥
  not_outwards n c None is a = a
  not_outwards n c (Some d) is a = let lower = nested.outwards c d is in let upto = at_most n d c a in absurd (omega (arith, lower, upto))

  abbrev of_choice : ℕ → ℕ → Bool
  of_choice k d = is_choice k (choice_at t.cases d)

  choice_is : (k : ℕ) (o : Option ℕ) → is_choice k o ≡ true → o ≡ Some k
  choice_is k None e = absurd (cc)
  choice_is k (Some j) e = ap Some (same_number j k e)

  only_by : (n b k c : ℕ) (v : Bool) → of_choice k b ≡ v → choice_at t.cases c ≡ Some k → (Among (outwards t n (outer_case t.choices t.cases b)) c → find (of_choice k) (outwards t n (outer_case t.choices t.cases b)) ≡ Some c)
      → (c ≡ b) ⊎ Among (outwards t n (outer_case t.choices t.cases b)) c → cond v (Some b) (find (of_choice k) (outwards t n (outer_case t.choices t.cases b))) ≡ Some c
  only_by n b k c true is at more (inl same) = ap Some (sym same)
  only_by n b k c true is at more (inr later) =
      let around : outer_case t.choices t.cases b ≡ outer_case t.choices t.cases c = ap (around_case t.choices) (choice_is k (choice_at t.cases b) is ∙ sym at) in
      absurd (not_outwards n c (outer_case t.choices t.cases c) refl (subst (λ (o : Option ℕ). Among (outwards t n o) c) around later))
  only_by n b k c false is at more (inl same) =
      let own : of_choice k b ≡ true = ap (λ (d : ℕ). of_choice k d) (sym same) ∙ ap (is_choice k) at ∙ number_itself k in
      absurd (cc)
  only_by n b k c false is at more (inr later) = more later

  only_case : (n : ℕ) (o : Option ℕ) (k c : ℕ) → choice_at t.cases c ≡ Some k → Among (outwards t n o) c → find (of_choice k) (outwards t n o) ≡ Some c
  only_case n None k c at a = absurd a
  only_case zero (Some b) k c at a = absurd a
  only_case (suc n) (Some b) k c at a = only_by n b k c (of_choice k b) refl at (only_case n (outer_case t.choices t.cases b) k c at) a

  -- the case of a choice that a node stands in
  case_is : (x k c : ℕ) → choice_at t.cases c ≡ Some k → Among (cases_over t x) c → case_of_choice t k x ≡ Some c
  unfolding case_of_choice cases_over
  case_is x k c at a = only_case (length t.cases) (case_at t.nodes x) k c at a

-- ---- children

length_last : (place : Place) (s : PathStep) → length (place ++ s ∷ []) ≡ suc (length place)
length_last place s = length-append place (s ∷ []) ∙ omega arith

less_is : (a b : ℕ) → a < b → nat_lt a b ≡ true
less_is a b e = grind (arith, nat_tests)

less : (a b : ℕ) → nat_lt a b ≡ true → a < b
less a b e = grind (arith, nat_tests)

longer : (row place rest : Place) (s : PathStep) → row ≡ place ++ s ∷ rest → length place < length row
longer row place rest s e = let n : length row ≡ length place + suc (length rest) = ap length e ∙ length-append place (s ∷ rest) in omega (arith, n)

-- the front of a row by a place and a step more
front_taken : (t : SchemaTree) (row place rest : Place) (s : PathStep) → row ≡ place ++ s ∷ rest → take (suc (length place)) row ≡ place ++ s ∷ []
front_taken t row place rest s e =
    ap (λ (n : ℕ). take n row) (sym (length_last place s))
    ∙ entry_is t row (place ++ s ∷ []) (record { rest = rest; begins = e ∙ sym (append_assoc place (s ∷ []) rest) })

child_if : (b : Bool) (p : Place) (o : Option ℕ) (e : Child) → (if b then child_by p o else None) ≡ Some e → (b ≡ true) × (p ≡ e.path)
child_if true p None e given = absurd (cc)
child_if true p (Some c) e given = (refl, ap (λ (d : Child). d.path) (some_is (record { path = p; case_is = c }) e given))
child_if false p o e given = absurd (cc)

some_found : {X : Type 0} (test : X → Bool) (xs : List X) (x : X) → Among xs x → test x ≡ true → (y : X) × (find test xs ≡ Some y)
some_found test [] x a e = absurd a
some_found {X} test (z ∷ zs) x a e = by (test z) refl (λ later. some_found test zs x later e) a
  where
    by : (b : Bool) → test z ≡ b → (Among zs x → (y : X) × (find test zs ≡ Some y)) → (x ≡ z) ⊎ Among zs x → (y : X) × (cond b (Some z) (find test zs) ≡ Some y)
    by true is more a = (z, refl)
    by false is more (inl same) = let yes : test z ≡ true = ap test (sym same) ∙ e in absurd (cc)
    by false is more (inr later) = more later

other_found : (d : Child) (ds : List Child) (c : Child) → (c.case_is == d.case_is) ≡ false → (c ≡ d) ⊎ Among ds c → (e : Child) × (first_other (d ∷ ds) ≡ Some e)
other_found d ds c apart (inl same) = let yes : (c.case_is == d.case_is) ≡ true = ap (λ (x : Child). x.case_is == d.case_is) same ∙ number_itself d.case_is in absurd (cc)
other_found d ds c apart (inr a) = some_found (λ (other : Child). not (other.case_is == d.case_is)) ds c a (ap not apart)

two_children : (es : List Child) (one other : Child) → Among es one → Among es other → (other.case_is == one.case_is) ≡ false → (e : Child) × (first_other es ≡ Some e)
two_children [] one other a b apart = absurd a
two_children (d ∷ ds) one other a b apart = by (one.case_is == d.case_is) refl
  where
    by : (v : Bool) → (one.case_is == d.case_is) ≡ v → (e : Child) × (first_other (d ∷ ds) ≡ Some e)
    by false is = other_found d ds one is a
    by true is = other_found d ds other (ap (λ (n : ℕ). other.case_is == n) (sym (same_number one.case_is d.case_is is)) ∙ apart) b

module _ (t : SchemaTree) (rows : Rows) (stands : StandsIn t rows) where
  child_there : (k c x : ℕ) (place : Place) (s : PathStep) (rest row : Place) → contains_key rows row ≡ true → row ≡ place ++ s ∷ rest → node_of t (place ++ s ∷ []) ≡ Some x → case_of_choice t k x ≡ Some c
      → Among (children_of t rows k place) (record { path = place ++ s ∷ []; case_is = c })
  unfolding children_of
  child_there k c x place s rest row there e leads case_of =
      let path = place ++ s ∷ [] in
      let taken = front_taken t row place rest s e in
      let tests = both_true (is_under place row) (nat_lt (length place) (length row)) ((under-means place row).1 (inl (record { rest = s ∷ rest; begins = e }))) (less_is (length place) (length row) (longer row place rest s e)) in
      let gives : child_over t k place row ≡ Some (record { path = path; case_is = c }) =
      (λ i. if tests i then child_by (taken i) (case_of_node t k (node_of t (taken i))) else None)
      ∙ ap (λ (o : Option ℕ). child_by path (case_of_node t k o)) leads
      ∙ ap (child_by path) case_of in
      among_filter_map (child_over t k place) (keys rows) row (record { path = path; case_is = c }) (key_among rows row there) gives

  -- a child at a place that a row is below stands there
  child_stands : (k : ℕ) (place : Place) (s : PathStep) (rest row : Place) (e : Child) → contains_key rows row ≡ true → row ≡ place ++ s ∷ rest → Among (children_of t rows k place) e → front e.path ≡ place
  unfolding children_of
  child_stands k place s rest row e there is a =
      let g = among_given (child_over t k place) (keys rows) e a in
      let h = child_if (is_under place g.x && nat_lt (length place) (length g.x)) (take (suc (length place)) g.x) (case_of_node t k (node_of t (take (suc (length place)) g.x))) e g.gives in
      let tests = both (is_under place g.x) (nat_lt (length place) (length g.x)) h.0 in
      let goes = front_goes t row g.x (stands.each row there) (stands.each g.x (key_there rows g.x g.among)) place (s ∷ rest) is tests.0 in
      ap front (sym h.1) ∙ at g.x goes.rest goes.begins (less (length place) (length g.x) tests.1)
    where
      at : (other more : Place) → other ≡ place ++ more → length place < length other → front (take (suc (length place)) other) ≡ place
      at other [] begins lt = let n : length other ≡ length place + 0 = ap length begins ∙ length-append place [] in absurd (omega (arith, lt, n))
      at other (r ∷ more) begins lt = ap front (front_taken t other place more r begins) ∙ front_last place r

  -- two rows that stand in other cases of a choice at one place violate the rule of one case
  module _ (nested : AreNested t.choices t.cases) (valid : (path : Place) → violated t rows OneCase path ≡ false) where
    one_case : (x y : ℕ) (place : Place) (s r : PathStep) (more rest row q : Place) → contains_key rows row ≡ true → contains_key rows q ≡ true → row ≡ place ++ s ∷ more → q ≡ place ++ r ∷ rest
        → node_of t (place ++ s ∷ []) ≡ Some x → node_of t (place ++ r ∷ []) ≡ Some y → InTwoCases t x y → ⊥
    one_case x y place s r more rest row q row_there q_there row_is q_is at_x at_y two =
        let k = two.choice in
        let one = child_there k two.one x place s more row row_there row_is at_x (case_is t nested x k two.one two.one_of two.over_x) in
        let other = child_there k two.other y place r rest q q_there q_is at_y (case_is t nested y k two.other two.other_of two.over_y) in
        let children = children_of t rows k place in
        let found = two_children children (record { path = place ++ s ∷ []; case_is = two.one }) (record { path = place ++ r ∷ []; case_is = two.other }) one other two.apart in
        let e = found.0 in
        let front_is = child_stands k place s more row e row_there row_is (first_among children e found.1) in
        let told : is_path_of e.path (first_other (children_of t rows k (front e.path))) ≡ true =
        ap (λ (p : Place). is_path_of e.path (first_other (children_of t rows k p))) front_is ∙ ap (is_path_of e.path) found.1 ∙ same_path e.path in
        let bad : violated t rows OneCase e.path ≡ true =
        any_at (λ j. is_path_of e.path (first_other (children_of t rows j (front e.path)))) (range_with_len 0 (length t.choices)) k (among_numbers (length t.choices) k (nested.of_choices two.one k two.one_of)) told in
        let good = valid e.path in
        cc

    -- ---- the whole

    apart_by : IsSound t.nodes → (row q : Place) → contains_key rows row ≡ true → contains_key rows q ≡ true → Ousts t row q → ⊥
    apart_by sound row q row_there q_there h =
        let two = two_cases t h.x h.y h.rivals in
        let ny = case_node t h.y two.1.other two.1.over_y (slice_get t.nodes h.y) refl in
        let on = goes_on h.place (bare t.nodes h.y) q h.below in
        let z = some_chosen t (node_of t (h.place ++ on.step ∷ [])) on.step.chosen (chosen_on t q h.place on.step on.rest (stands.each q q_there) on.begins) in
        let leads_z = by_last t h.place on.step z.0 z.1 in
        let leads_x = by_last t h.place h.step h.x h.leads in
        let parent_z : node_of t h.place ≡ leads_z.node.parent = area_node t leads_z.node.parent h.place leads_z.area in
        let parent_x : node_of t h.place ≡ leads_x.node.parent = area_node t leads_x.node.parent h.place leads_x.area in
        let parents : leads_z.node.parent ≡ ny.0.parent = sym parent_z ∙ parent_x ∙ sym (ap parent_in leads_x.there) ∙ two.0 ∙ ap parent_in ny.1 in
        let bare_is : bare t.nodes h.y ≡ bare_in (Some ny.0) = ap bare_in ny.1 in
        let modules : leads_z.node.«module» ≡ ny.0.«module» = leads_z.owner_is ∙ sym on.same_module ∙ ap (λ (s : PathStep). s.module) bare_is in
        let names : leads_z.node.name ≡ ny.0.name = leads_z.name_is ∙ sym on.same_name ∙ ap (λ (s : PathStep). s.name) bare_is in
        let same : z.0 ≡ h.y = sound.apart z.0 h.y leads_z.node ny.0 leads_z.there ny.1 (record { parent = parents; «module» = modules; name = names }) in
        one_case h.x h.y h.place h.step on.step h.more on.rest row q row_there q_there h.is on.begins h.leads (z.1 ∙ ap Some same) two.1

    -- no row of a valid configuration has to go where another of its rows comes
    pub rivals_are_two_cases : IsSound t.nodes → (row q : Place) → contains_key rows row ≡ true → contains_key rows q ≡ true → goes (ousted_by t row) q ≡ false
    rivals_are_two_cases sound row q row_there q_there = not_true (goes (ousted_by t row) q) (λ e. apart_by sound row q row_there q_there (ousts t row [] row q refl e))
