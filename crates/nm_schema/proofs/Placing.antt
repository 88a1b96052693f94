-- The choices of a place and their cases, put one after another.
use Rattle.std.proofs.Common.{◌≡◌, ◌∙◌, ◌<◌, ◌≤◌, ◌+◌, ◌-◌, ◌^◌, ℕ, zero, suc, List, [], ◌∷◌, ◌++◌, length, map, take, drop, get_or, Bool, true, false, Option, Some, None, IfSome, Result, Ok, Err, OnOk, slice_get, slice_range, if◌then◌else◌, refl, sym, ap, arith, length-append, append-nil}
use Rattle.std.specs.Prelude.{nat_lt}
use Rattle.std.proofs.lemmas.Bool.Decides.{nat_tests}
use Rattle.std.proofs.lemmas.List.{length-map, length-take, get_or-take, get_or-drop, map-append, append_assoc, take_more, take_all}
use Rattle.std.proofs.lemmas.Option.{slice_get-get_or}
use Rattle.nm_schema_statements.specs.declared.row.Row.{Row}
use Rattle.nm_schema_tree.specs.declared.choice.ChoiceNode.{ChoiceNode}
use Rattle.nm_schema_tree.specs.declared.choice.CaseNode.{CaseNode}
use Rattle.nm_schema_tree.specs.Nodes.{SchemaTree, with_choice}
use Rattle.nm_schema_nodes.specs.declared.fork.Fork.{Fork}
use Rattle.nm_schema_nodes.specs.declared.fork.Branch.{Branch}
use Rattle.nm_schema_nodes.specs.Forks.{Forking, IsWalked, IsRoom, shifted, case_in_of, choice_of}
use Rattle.nm_schema.specs.Choices.{Place, choice_node, case_node, with_cases, with_place, until, AreOfChoices, AreRoom}

-- a tree has so many choices of a place more, and so many of their cases
pub record IsPlacing (rows : List Row) (p : Place) (f : Forking) (before : SchemaTree) (n done : ℕ) (t : SchemaTree) : Type 0 where
  pub few : done ≤ length f.cases
  pub modules : t.modules ≡ before.modules
  pub nodes : t.nodes ≡ before.nodes
  pub choices : t.choices ≡ before.choices ++ map (choice_node rows p (length before.cases)) (take n f.choices)
  pub cases : t.cases ≡ before.cases ++ map (case_node rows (length before.choices)) (take done f.cases)

pub some_by : {X : Type 0} (P : X → Type 0) (o : Option X) → ((x : X) → o ≡ Some x → P x) → IfSome o P
some_by P None given = tt
some_by P (Some x) given = given x refl

pub on_ok : {T E : Type 0} (P Q : Type 0) (r : Result T E) → (P → Q) → OnOk r P → OnOk r Q
on_ok P Q (Ok x) given p = given p
on_ok P Q (Err e) given p = tt

take_nil : {X : Type 0} (k : ℕ) (xs : List X) → xs ≡ [] → xs ≡ take k xs
take_nil zero xs e = e
take_nil (suc k) [] e = refl
take_nil (suc k) (x ∷ xs) e = absurd (cc)

-- what comes up to n, and then up to m
take_further : {X : Type 0} (n m : ℕ) (xs : List X) → n ≤ m → take m xs ≡ take n xs ++ slice_range xs n m
take_further zero m xs le = ap (λ (k : ℕ). take k xs) (omega arith)
take_further (suc n) zero xs le = absurd (omega (arith, le))
take_further (suc n) (suc m) [] le = take_nil (suc m - suc n) [] refl
take_further (suc n) (suc m) (x ∷ xs) le = ap (λ l. x ∷ l) (take_further n m xs (omega (arith, le)) ∙ ap (λ (k : ℕ). take n xs ++ take k (drop n xs)) (omega arith))

-- ---- how many cases come before a choice

until_by : (b : Bool) (done c n : ℕ) → nat_lt c done ≡ b → done ≤ n → c < n → (done ≤ (if b then done else c + 1)) × ((if b then done else c + 1) ≤ n) × (c < (if b then done else c + 1))
until_by true done c n is few lt = (omega arith, few, grind (arith, nat_tests))
until_by false done c n is few lt = (grind (arith, nat_tests), omega (arith, lt), omega arith)

-- it is no less than so far, no more than all, and more than that of the choice
pub until_bounds : (done n : ℕ) (o : Option ℕ) → done ≤ n → ((c : ℕ) → o ≡ Some c → c < n) → (done ≤ until done o) × (until done o ≤ n) × ((c : ℕ) → o ≡ Some c → c < until done o)
until_bounds done n None few there = (omega arith, few, λ c e. absurd (cc))
until_bounds done n (Some d) few there =
    let bounds = until_by (nat_lt d done) done d n refl few (there d refl) in
    (bounds.0, bounds.1, λ c e. (let same : d ≡ c = cc in omega (arith, same, bounds.2)))

upto_by : (b : Bool) (done c d : ℕ) → nat_lt c done ≡ b → done ≤ d → d < (if b then done else c + 1) → d ≤ c
upto_by true done c d is le lt = absurd (omega (arith, le, lt))
upto_by false done c d is le lt = omega (arith, lt)

-- a case that comes after those so far comes up to that of the choice
upto : (done d : ℕ) (o : Option ℕ) → done ≤ d → d < until done o → (c : ℕ) × (o ≡ Some c) × (d ≤ c)
upto done d None le lt = absurd (omega (arith, le, lt))
upto done d (Some c) le lt = (c, refl, upto_by (nat_lt c done) done c d refl le lt)

module _ (f : Forking) (walked : IsWalked f) where
  case_is : (i : ℕ) (fork : Fork) (c : ℕ) → i < length f.choices → (get_or f.choices i fork).case_in ≡ Some c → case_in_of (slice_get f.choices i) ≡ Some c
  case_is i fork c lt e = ap case_in_of (slice_get-get_or f.choices i fork lt) ∙ e

  -- the case of a choice is there
  pub case_there : (i : ℕ) (fork : Fork) (c : ℕ) → i < length f.choices → (get_or f.choices i fork).case_in ≡ Some c → c < length f.cases
  case_there i fork c lt e = walked.within i c (case_is i fork c lt e)

  pub case_room : (i n : ℕ) (fork : Fork) → i < length f.choices → n + length f.cases ≤ 2 ^ 64 → IsRoom n (get_or f.choices i fork).case_in
  case_room i n fork lt few = some_by (λ d. n + d < 2 ^ 64) (get_or f.choices i fork).case_in (λ c e. omega (arith, few, case_there i fork c lt e))

  pub next_room : (i : ℕ) (fork : Fork) → i < length f.choices → length f.cases < 2 ^ 64 → IsRoom 1 (get_or f.choices i fork).case_in
  next_room i fork lt few = some_by (λ d. 1 + d < 2 ^ 64) (get_or f.choices i fork).case_in (λ c e. omega (arith, few, case_there i fork c lt e))

  pub fork_bounds : (i done : ℕ) (fork : Fork) → i < length f.choices → done ≤ length f.cases
      → (done ≤ until done (get_or f.choices i fork).case_in) × (until done (get_or f.choices i fork).case_in ≤ length f.cases) × ((c : ℕ) → (get_or f.choices i fork).case_in ≡ Some c → c < until done (get_or f.choices i fork).case_in)
  fork_bounds i done fork lt few = until_bounds done (length f.cases) (get_or f.choices i fork).case_in few (λ c e. case_there i fork c lt e)

  -- a case is of a choice that is there
  branch_there : (d : ℕ) (b : Branch) → d < length f.cases → (get_or f.cases d b).choice < length f.choices
  branch_there d b lt = walked.of_choices d (get_or f.cases d b).choice (ap choice_of (slice_get-get_or f.cases d b lt))

  in_range : (from to k : ℕ) (b : Branch) → to ≤ length f.cases → k < length (slice_range f.cases from to) → (from + k < to) × (get_or (slice_range f.cases from to) k b ≡ get_or f.cases (from + k) b)
  in_range from to k b few lt =
      let long : k < to - from = omega (arith, lt, length-take (to - from) (drop from f.cases)) in
      (omega (arith, long), get_or-take (to - from) (drop from f.cases) k b long ∙ get_or-drop from f.cases k b)

  -- the cases up to that of a choice are of choices before it
  pub next_cases : (i done n m : ℕ) (fork : Fork) → i < length f.choices → done ≤ length f.cases → m ≡ n + i → AreOfChoices n m (slice_range f.cases done (until done (get_or f.choices i fork).case_in))
  next_cases i done n m fork lt few size = λ k b within. (
      let to = until done (get_or f.choices i fork).case_in in
      let bounds = fork_bounds i done fork lt few in
      let at = in_range done to k b bounds.1 within in
      let last = upto done (done + k) (get_or f.choices i fork).case_in (omega arith) at.0 in
      let there : done + k < length f.cases = omega (arith, at.0, bounds.1) in
      let before = walked.before i last.0 (done + k) (get_or f.cases (done + k) b).choice (case_is i fork last.0 lt last.1) last.2 (ap choice_of (slice_get-get_or f.cases (done + k) b there)) in
      let same : (get_or (slice_range f.cases done to) k b).choice ≡ (get_or f.cases (done + k) b).choice = ap (λ (x : Branch). x.choice) at.1 in
      omega (arith, before, same, size)
      )

  -- all cases are of choices that are there
  pub last_cases : (done n m : ℕ) → m ≡ n + length f.choices → AreOfChoices n m (slice_range f.cases done (length f.cases))
  last_cases done n m size = λ k b within. (
      let at = in_range done (length f.cases) k b (omega arith) within in
      let there = branch_there (done + k) b at.0 in
      let same : (get_or (slice_range f.cases done (length f.cases)) k b).choice ≡ (get_or f.cases (done + k) b).choice = ap (λ (x : Branch). x.choice) at.1 in
      omega (arith, there, same, size)
      )

  -- numbers of cases are small, behind others too
  pub spots_room : (n : ℕ) → n + length f.cases ≤ 2 ^ 64 → AreRoom n f.spots
  spots_room n few = λ k o within. room (get_or f.spots k o) (walked.of_nodes k o within)
    where
      room : (o : Option ℕ) → IfSome o (λ c. c < length f.cases) → IsRoom n o
      room None there = tt
      room (Some c) there = omega (arith, there, few)

-- ---- a choice more

module _ (rows : List Row) (p : Place) (f : Forking) (before : SchemaTree) where
  pub placing_none : IsPlacing rows p f before 0 0 before
  placing_none = record { few = omega arith; modules = refl; nodes = refl; choices = sym (append-nil before.choices); cases = sym (append-nil before.cases) }

  cases_further : (n done to : ℕ) (t : SchemaTree) → IsPlacing rows p f before n done t → done ≤ to → t.cases ++ map (case_node rows (length before.choices)) (slice_range f.cases done to) ≡ before.cases ++ map (case_node rows (length before.choices)) (take to f.cases)
  cases_further n done to t are le =
      let g = case_node rows (length before.choices) in
      ap (λ (l : List CaseNode). l ++ map g (slice_range f.cases done to)) are.cases
      ∙ append_assoc before.cases (map g (take done f.cases)) (map g (slice_range f.cases done to))
      ∙ ap (λ (l : List CaseNode). before.cases ++ l) (sym (map-append g (take done f.cases) (slice_range f.cases done to)) ∙ ap (map g) (sym (take_further done to f.cases le)))

  pub placing_next : (i done to : ℕ) (fork : Fork) (t further after : SchemaTree) (choice : ChoiceNode) → IsPlacing rows p f before i done t → i < length f.choices → done ≤ to → to ≤ length f.cases
      → further ≡ with_cases t (map (case_node rows (length before.choices)) (slice_range f.cases done to)) → choice ≡ choice_node rows p (length before.cases) (get_or f.choices i fork) → after ≡ with_choice further choice
      → IsPlacing rows p f before (i + 1) to after
  placing_next i done to fork t further after choice are lt le few is made put =
      let g = choice_node rows p (length before.cases) in
      let last : further.choices ++ choice ∷ [] ≡ (before.choices ++ map g (take i f.choices)) ++ g (get_or f.choices i fork) ∷ [] =
      ap (λ (l : List ChoiceNode). l ++ choice ∷ []) (ap (λ (s : SchemaTree). s.choices) is ∙ are.choices) ∙ ap (λ (n : ChoiceNode). (before.choices ++ map g (take i f.choices)) ++ n ∷ []) made in
      record {
        few = few;
        modules = ap (λ (s : SchemaTree). s.modules) put ∙ ap (λ (s : SchemaTree). s.modules) is ∙ are.modules;
        nodes = ap (λ (s : SchemaTree). s.nodes) put ∙ ap (λ (s : SchemaTree). s.nodes) is ∙ are.nodes;
        choices =
            ap (λ (s : SchemaTree). s.choices) put ∙ last ∙ append_assoc before.choices (map g (take i f.choices)) (g (get_or f.choices i fork) ∷ [])
            ∙ ap (λ (l : List ChoiceNode). before.choices ++ l) (sym (map-append g (take i f.choices) (get_or f.choices i fork ∷ [])) ∙ ap (map g) (sym (take_more f.choices i fork lt)));
        cases = ap (λ (s : SchemaTree). s.cases) put ∙ ap (λ (s : SchemaTree). s.cases) is ∙ cases_further i done to t are le;
      }

  -- how many choices there are
  pub placing_size : (i done : ℕ) (t : SchemaTree) → IsPlacing rows p f before i done t → i ≤ length f.choices → length t.choices ≡ length before.choices + i
  placing_size i done t are le =
      let g = choice_node rows p (length before.cases) in
      ap (λ (l : List ChoiceNode). length l) are.choices ∙ length-append before.choices (map g (take i f.choices)) ∙ ap (λ (k : ℕ). length before.choices + k) (length-map (take i f.choices) g ∙ long)
    where
      long : length (take i f.choices) ≡ i
      long = omega (arith, le, length-take i f.choices)

  -- how many cases there are once some are put
  pub placing_room : (i done to c : ℕ) (t further : SchemaTree) → IsPlacing rows p f before i done t → done ≤ to → to ≤ length f.cases
      → further ≡ with_cases t (map (case_node rows (length before.choices)) (slice_range f.cases done to)) → c < to → length before.cases + c < length further.cases
  placing_room i done to c t further are le few is lt =
      let g = case_node rows (length before.choices) in
      let size : length further.cases ≡ length (before.cases ++ map g (take to f.cases)) = ap (λ (s : SchemaTree). length s.cases) is ∙ ap (λ (l : List CaseNode). length l) (cases_further i done to t are le) in
      omega (arith, size, length-append before.cases (map g (take to f.cases)), length-map (take to f.cases) g, length-take to f.cases, lt, few)

  -- the case of a choice is there before the choice
  pub choice_stands : (i done : ℕ) (fork : Fork) (t further : SchemaTree) (choice : ChoiceNode) → IsWalked f → IsPlacing rows p f before i done t → i < length f.choices
      → further ≡ with_cases t (map (case_node rows (length before.choices)) (slice_range f.cases done (until done (get_or f.choices i fork).case_in)))
      → choice ≡ choice_node rows p (length before.cases) (get_or f.choices i fork) → IfSome choice.case_in (λ case. case < length further.cases)
  unfolding choice_node
  choice_stands i done fork t further choice walked are lt is made =
      let bounds = fork_bounds f walked i done fork lt are.few in
      let around : choice.case_in ≡ shifted (length before.cases) (get_or f.choices i fork).case_in = ap (λ (n : ChoiceNode). n.case_in) made in
      rw around (by (get_or f.choices i fork).case_in (λ c e. placing_room i done (until done (get_or f.choices i fork).case_in) c t further are bounds.0 bounds.1 is (bounds.2 c e)))
    where
      by : (o : Option ℕ) → ((c : ℕ) → o ≡ Some c → length before.cases + c < length further.cases) → IfSome (shifted (length before.cases) o) (λ case. case < length further.cases)
      by None there = tt
      by (Some c) there = there c refl

  -- all is put
  pub placing_all : (i done : ℕ) (t after : SchemaTree) → IsPlacing rows p f before i done t → length f.choices ≤ i
      → after ≡ with_cases t (map (case_node rows (length before.choices)) (slice_range f.cases done (length f.cases))) → after ≡ with_place rows p f before
  placing_all i done t after are all is =
      let whole : take (length f.cases) f.cases ≡ f.cases = take_all (length f.cases) f.cases (omega arith) in
      let cases : t.cases ++ map (case_node rows (length before.choices)) (slice_range f.cases done (length f.cases)) ≡ before.cases ++ map (case_node rows (length before.choices)) f.cases =
      cases_further i done (length f.cases) t are are.few ∙ ap (λ (l : List Branch). before.cases ++ map (case_node rows (length before.choices)) l) whole in
      let choices : t.choices ≡ before.choices ++ map (choice_node rows p (length before.cases)) f.choices = are.choices ∙ ap (λ (l : List Fork). before.choices ++ map (choice_node rows p (length before.cases)) l) (take_all i f.choices all) in
      is ∙ (rw (are.modules, are.nodes, choices, cases) refl)
