-- Choices and cases put behind others: each still comes after what it stands in.
use Rattle.std.proofs.Common.{◌≡◌, ◌<◌, ◌≤◌, ◌+◌, ◌-◌, ◌^◌, ◌∙◌, ◌⊎◌, inl, inr, ℕ, zero, suc, List, [], ◌∷◌, ◌++◌, length, map, slice_get, slice_index_or, All, Option, Some, None, IfSome, option_map, refl, sym, ap, subst, arith, append_assoc, length-append}
use Rattle.std.proofs.lemmas.Bool.{cases_lt}
use Rattle.std.proofs.lemmas.List.{length-map}
use Rattle.std.proofs.lemmas.Option.{slice_get-map, slice_get-get_or}
use Rattle.std.proofs.lemmas.List.Elements.{All-append, All-map, All-weaker, All-nil}
use Rattle.nm_schema_nodes.specs.declared.fork.Fork.{Fork}
use Rattle.nm_schema_nodes.specs.declared.fork.Branch.{Branch}
use Rattle.nm_schema_nodes.specs.Forks.{Forking, forking, shifted, moved_fork, moved_branch, joined, inner, inner_fork, with_case, choice_alone, case_in_of, choice_of, IsWalked, IsRoom, ForksHaveRoom, BranchesHaveRoom, SpotsHaveRoom, HaveRoom}

get-left : {X : Type 0} (xs ys : List X) (k : ℕ) → k < length xs → slice_get (xs ++ ys) k ≡ slice_get xs k
get-left [] ys k lt = absurd (omega arith)
get-left (x ∷ xs) ys zero lt = refl
get-left (x ∷ xs) ys (suc k) lt = get-left xs ys k (omega arith)

get-right : {X : Type 0} (xs ys : List X) (k j : ℕ) → k ≡ length xs + j → slice_get (xs ++ ys) k ≡ slice_get ys j
get-right [] ys k j e = let f : k ≡ j = omega arith in rw f refl
get-right (x ∷ xs) ys zero j e = absurd (omega arith)
get-right (x ∷ xs) ys (suc k) j e = get-right xs ys k j (omega arith)

-- a case is one of others, behind m
pub record IsBehind (m : ℕ) (o : Option ℕ) (c : ℕ) : Type 0 where
  pub less : ℕ
  pub was : o ≡ Some less
  pub is : c ≡ m + less

same_some : (a b : ℕ) → Some a ≡ Some b → a ≡ b
same_some a b e = grind arith

none_some : (c : ℕ) → None ≡ Some c → ⊥
none_some c e = grind arith

shifted-back : (m : ℕ) (o : Option ℕ) (c : ℕ) → shifted m o ≡ Some c → IsBehind m o c
shifted-back m None c e = absurd (none_some c e)
shifted-back m (Some d) c e = record { less = d; was = refl; is = sym (same_some (m + d) c e) }

moved-back : (n : ℕ) (o : Option Branch) (h : ℕ) → choice_of (option_map (moved_branch n) o) ≡ Some h → IsBehind n (choice_of o) h
unfolding moved_branch
moved-back n None h e = absurd (none_some h e)
moved-back n (Some b) h e = record { less = b.choice; was = refl; is = sym (same_some (n + b.choice) h e) }

module _ (a b : Forking) (g : Fork → Fork) (G : Option ℕ → Option ℕ) (wa : IsWalked a) (wb : IsWalked b) (is : (f : Fork) → (g f).case_in ≡ G f.case_in)
    (back : (o : Option ℕ) (c : ℕ) → G o ≡ Some c → (c < length a.cases) ⊎ IsBehind (length a.cases) o c) where
  fork-back : (o : Option Fork) (c : ℕ) → case_in_of (option_map g o) ≡ Some c → (c < length a.cases) ⊎ IsBehind (length a.cases) (case_in_of o) c
  fork-back None c e = absurd (none_some c e)
  fork-back (Some f) c e = back f.case_in c (sym (is f) ∙ e)

  choice-left : (k : ℕ) → k < length a.choices → case_in_of (slice_get (a.choices ++ map g b.choices) k) ≡ case_in_of (slice_get a.choices k)
  choice-left k lt = ap case_in_of (get-left a.choices (map g b.choices) k lt)

  choice-right : (k j : ℕ) → k ≡ length a.choices + j → case_in_of (slice_get (a.choices ++ map g b.choices) k) ≡ case_in_of (option_map g (slice_get b.choices j))
  choice-right k j e = ap case_in_of (get-right a.choices (map g b.choices) k j e ∙ slice_get-map g b.choices j)

  case-left : (d : ℕ) → d < length a.cases → choice_of (slice_get (a.cases ++ map (moved_branch (length a.choices)) b.cases) d) ≡ choice_of (slice_get a.cases d)
  case-left d lt = ap choice_of (get-left a.cases (map (moved_branch (length a.choices)) b.cases) d lt)

  case-right : (d j : ℕ) → d ≡ length a.cases + j → choice_of (slice_get (a.cases ++ map (moved_branch (length a.choices)) b.cases) d) ≡ choice_of (option_map (moved_branch (length a.choices)) (slice_get b.cases j))
  case-right d j e = ap choice_of (get-right a.cases (map (moved_branch (length a.choices)) b.cases) d j e ∙ slice_get-map (moved_branch (length a.choices)) b.cases j)

  -- where the case of a choice stands
  found : (k c : ℕ) → case_in_of (slice_get (a.choices ++ map g b.choices) k) ≡ Some c → length a.choices ≤ k → (c < length a.cases) ⊎ IsBehind (length a.cases) (case_in_of (slice_get b.choices (k - length a.choices))) c
  found k c e le = fork-back (slice_get b.choices (k - length a.choices)) c (sym (choice-right k (k - length a.choices) (omega arith)) ∙ e)

  -- where the choice of a case stands
  of-back : (d h : ℕ) → choice_of (slice_get (a.cases ++ map (moved_branch (length a.choices)) b.cases) d) ≡ Some h → length a.cases ≤ d → IsBehind (length a.choices) (choice_of (slice_get b.cases (d - length a.cases))) h
  of-back d h e le = moved-back (length a.choices) (slice_get b.cases (d - length a.cases)) h (sym (case-right d (d - length a.cases) (omega arith)) ∙ e)

  all_cases : length (a.cases ++ map (moved_branch (length a.choices)) b.cases) ≡ length a.cases + length b.cases
  all_cases = length-append a.cases (map (moved_branch (length a.choices)) b.cases) ∙ ap (λ n. length a.cases + n) (length-map b.cases (moved_branch (length a.choices)))

  all_choices : length (a.choices ++ map g b.choices) ≡ length a.choices + length b.choices
  all_choices = length-append a.choices (map g b.choices) ∙ ap (λ n. length a.choices + n) (length-map b.choices g)

  within-behind : (k c : ℕ) → (c < length a.cases) ⊎ IsBehind (length a.cases) (case_in_of (slice_get b.choices k)) c → c < length a.cases + length b.cases
  within-behind k c (inl lt) = omega arith
  within-behind k c (inr h) = omega (arith, h.is, wb.within k h.less h.was)

  within_all : (k c : ℕ) → case_in_of (slice_get (a.choices ++ map g b.choices) k) ≡ Some c → (k < length a.choices) ⊎ (length a.choices ≤ k) → c < length a.cases + length b.cases
  within_all k c e (inl lt) = omega (arith, wa.within k c (sym (choice-left k lt) ∙ e))
  within_all k c e (inr le) = within-behind (k - length a.choices) c (found k c e le)

  before-behind : (k c d h : ℕ) → (c < length a.cases) ⊎ IsBehind (length a.cases) (case_in_of (slice_get b.choices k)) c → d ≤ c → length a.cases ≤ d → IsBehind (length a.choices) (choice_of (slice_get b.cases (d - length a.cases))) h → h < length a.choices + k
  before-behind k c d h (inl lt) le past of = absurd (omega arith)
  before-behind k c d h (inr at) le past of = omega (arith, of.is, wb.before k at.less (d - length a.cases) of.less at.was (omega (arith, at.is)) of.was)

  before-last : (k c d h : ℕ) → case_in_of (slice_get (a.choices ++ map g b.choices) k) ≡ Some c → d ≤ c → choice_of (slice_get (a.cases ++ map (moved_branch (length a.choices)) b.cases) d) ≡ Some h → length a.choices ≤ k → (d < length a.cases) ⊎ (length a.cases ≤ d) → h < k
  before-last k c d h e le of past (inl lt) = omega (arith, wa.of_choices d h (sym (case-left d lt) ∙ of))
  before-last k c d h e le of past (inr more) = omega (arith, before-behind (k - length a.choices) c d h (found k c e past) le more (of-back d h of more))

  before_all : (k c d h : ℕ) → case_in_of (slice_get (a.choices ++ map g b.choices) k) ≡ Some c → d ≤ c → choice_of (slice_get (a.cases ++ map (moved_branch (length a.choices)) b.cases) d) ≡ Some h → (k < length a.choices) ⊎ (length a.choices ≤ k) → h < k
  before_all k c d h e le of (inl lt) =
      let at : case_in_of (slice_get a.choices k) ≡ Some c = sym (choice-left k lt) ∙ e in
      wa.before k c d h at le (sym (case-left d (omega (arith, wa.within k c at))) ∙ of)
  before_all k c d h e le of (inr past) = before-last k c d h e le of past (cases_lt d (length a.cases))

  of-all : (d h : ℕ) → choice_of (slice_get (a.cases ++ map (moved_branch (length a.choices)) b.cases) d) ≡ Some h → (d < length a.cases) ⊎ (length a.cases ≤ d) → h < length a.choices + length b.choices
  of-all d h e (inl lt) = omega (arith, wa.of_choices d h (sym (case-left d lt) ∙ e))
  of-all d h e (inr past) = let of = of-back d h e past in omega (arith, of.is, wb.of_choices (d - length a.cases) of.less of.was)

  spot-behind : (o : Option ℕ) (c : ℕ) → IfSome o (λ d. d < length b.cases) → (c < length a.cases) ⊎ IsBehind (length a.cases) o c → c < length a.cases + length b.cases
  spot-behind o c h (inl lt) = omega arith
  spot-behind o c h (inr at) = let lt : at.less < length b.cases = subst (λ (p : Option ℕ). IfSome p (λ d. d < length b.cases)) at.was h in omega (arith, at.is)

  spot-at : (o p : Option ℕ) → G o ≡ p → IfSome o (λ d. d < length b.cases) → IfSome p (λ c. c < length a.cases + length b.cases)
  spot-at o None e h = tt
  spot-at o (Some c) e h = spot-behind o c h (back o c e)

  spot-more : (o : Option ℕ) → IfSome o (λ c. c < length a.cases) → IfSome o (λ c. c < length a.cases + length b.cases)
  spot-more None h = tt
  spot-more (Some c) h = omega arith

  pub walked-with : IsWalked (forking (a.choices ++ map g b.choices) (a.cases ++ map (moved_branch (length a.choices)) b.cases) (a.spots ++ map G b.spots))
  walked-with = record {
    within = λ k c e. rw all_cases (within_all k c e (cases_lt k (length a.choices)));
    before = λ k c d h e le of. before_all k c d h e le of (cases_lt k (length a.choices));
    of_choices = λ d h e. rw all_choices (of-all d h e (cases_lt d (length a.cases)));
    of_nodes = rw all_cases (All-append (λ (o : Option ℕ). IfSome o (λ c. c < length a.cases + length b.cases)) a.spots (map G b.spots)
        (All-weaker (λ (o : Option ℕ). IfSome o (λ c. c < length a.cases)) (λ (o : Option ℕ). IfSome o (λ c. c < length a.cases + length b.cases)) spot-more a.spots wa.of_nodes)
        (All-map (λ (o : Option ℕ). IfSome o (λ c. c < length a.cases + length b.cases)) G b.spots
        (All-weaker (λ (o : Option ℕ). IfSome o (λ d. d < length b.cases)) (λ (o : Option ℕ). IfSome (G o) (λ c. c < length a.cases + length b.cases)) (λ o h. spot-at o (G o) refl h) b.spots wb.of_nodes)));
  }

moved-is : (m : ℕ) (f : Fork) → (moved_fork m f).case_in ≡ shifted m f.case_in
unfolding moved_fork
moved-is m f = refl

pub joined-walked : (a b : Forking) → IsWalked a → IsWalked b → IsWalked (joined a b)
joined-walked a b wa wb = walked-with a b (moved_fork (length a.cases)) (shifted (length a.cases)) wa wb (moved-is (length a.cases)) (λ o c e. inr (shifted-back (length a.cases) o c e))

pub joined-made : (a b : Forking) (choices : List Fork) (cases : List Branch) (spots : List (Option ℕ)) (m n : ℕ) (forks : List Fork) (branches : List Branch) (others : List (Option ℕ)) → IsWalked a → IsWalked b
    → m ≡ length a.cases → n ≡ length a.choices → forks ≡ b.choices → branches ≡ b.cases → others ≡ b.spots
    → choices ≡ a.choices ++ map (moved_fork m) forks → cases ≡ a.cases ++ map (moved_branch n) branches → spots ≡ a.spots ++ map (shifted m) others → IsWalked (forking choices cases spots)
joined-made a b choices cases spots m n forks branches others wa wb em en ef eb es ec ed eo = rw (ec, ed, eo, ef, eb, es, em, en) (joined-walked a b wa wb)

inner-is : (c : ℕ) (f : Fork) → (inner_fork c f).case_in ≡ inner c f.case_in
unfolding inner_fork
inner-is c f = refl

inner-back : (outer m : ℕ) (o : Option ℕ) (c : ℕ) → m ≡ outer + 1 → inner outer o ≡ Some c → (c < m) ⊎ IsBehind m o c
inner-back outer m None c is e = let f = same_some outer c e in inl (omega arith)
inner-back outer m (Some d) c is e = let f = same_some (outer + 1 + d) c e in inr (record { less = d; was = refl; is = omega arith })

-- ---- a case more of the first choice

abbrev pub first_case : ℕ → Branch
first_case row = record { choice = 0; row = row }

module _ (a : Forking) (row : ℕ) (some : 0 < length a.choices) (wa : IsWalked a) where
  all_more : length (a.cases ++ record { choice = 0; row = row } ∷ []) ≡ length a.cases + 1
  all_more = length-append a.cases (record { choice = 0; row = row } ∷ [])

  zero-last : (j h : ℕ) → choice_of (slice_get (first_case row ∷ []) j) ≡ Some h → 0 ≡ h
  zero-last zero h e = same_some 0 h e
  zero-last (suc j) h e = absurd (none_some h e)

  of-case : (d h : ℕ) → choice_of (slice_get (a.cases ++ first_case row ∷ []) d) ≡ Some h → (d < length a.cases) ⊎ (length a.cases ≤ d) → (choice_of (slice_get a.cases d) ≡ Some h) ⊎ (0 ≡ h)
  of-case d h e (inl lt) = inl (sym (ap choice_of (get-left a.cases (first_case row ∷ []) d lt)) ∙ e)
  of-case d h e (inr le) = inr (zero-last (d - length a.cases) h (sym (ap choice_of (get-right a.cases (first_case row ∷ []) d (d - length a.cases) (omega arith))) ∙ e))

  of-more : (d h : ℕ) → (choice_of (slice_get a.cases d) ≡ Some h) ⊎ (0 ≡ h) → h < length a.choices
  of-more d h (inl e) = wa.of_choices d h e
  of-more d h (inr e) = omega arith

  before-more : (k c d h : ℕ) → case_in_of (slice_get a.choices k) ≡ Some c → d ≤ c → choice_of (slice_get (a.cases ++ first_case row ∷ []) d) ≡ Some h → h < k
  before-more k c d h e le of = wa.before k c d h e le (sym (ap choice_of (get-left a.cases (first_case row ∷ []) d (omega (arith, wa.within k c e)))) ∙ of)

  spot-one : (o : Option ℕ) → IfSome o (λ c. c < length a.cases) → IfSome o (λ c. c < length a.cases + 1)
  spot-one None h = tt
  spot-one (Some c) h = omega arith

  case_walked : IsWalked (forking a.choices (a.cases ++ first_case row ∷ []) a.spots)
  case_walked = record {
    within = λ k c e. rw all_more (omega (arith, wa.within k c e));
    before = before-more;
    of_choices = λ d h e. of-more d h (of-case d h e (cases_lt d (length a.cases)));
    of_nodes = rw all_more (All-weaker (λ (o : Option ℕ). IfSome o (λ c. c < length a.cases)) (λ (o : Option ℕ). IfSome o (λ c. c < length a.cases + 1)) spot-one a.spots wa.of_nodes);
  }

  pub case-walked : (b : Forking) → IsWalked b → IsWalked (with_case a row b)
  case-walked b wb =
      let w = walked-with (forking a.choices (a.cases ++ first_case row ∷ []) a.spots) b (inner_fork (length a.cases)) (inner (length a.cases)) case_walked wb (inner-is (length a.cases)) (λ o c e. inner-back (length a.cases) (length (a.cases ++ first_case row ∷ [])) o c all_more e) in
      subst (λ (cases : List Branch). IsWalked (forking (a.choices ++ map (inner_fork (length a.cases)) b.choices) cases (a.spots ++ map (inner (length a.cases)) b.spots))) (append_assoc a.cases (first_case row ∷ []) (map (moved_branch (length a.choices)) b.cases)) w

pub case-made : (a b : Forking) (row : ℕ) (choices : List Fork) (pushed cases : List Branch) (spots : List (Option ℕ)) (m n : ℕ) (forks : List Fork) (branches : List Branch) (others : List (Option ℕ)) → 0 < length a.choices → IsWalked a → IsWalked b
    → m ≡ length a.cases → n ≡ length a.choices → forks ≡ b.choices → branches ≡ b.cases → others ≡ b.spots
    → choices ≡ a.choices ++ map (inner_fork m) forks → pushed ≡ a.cases ++ first_case row ∷ [] → cases ≡ pushed ++ map (moved_branch n) branches → spots ≡ a.spots ++ map (inner m) others → IsWalked (forking choices cases spots)
case-made a b row choices pushed cases spots m n forks branches others some wa wb em en ef eb es ec ep ed eo =
    rw (ec, ed, ep, eo, ef, eb, es, em, en) (subst (λ (l : List Branch). IsWalked (forking (a.choices ++ map (inner_fork (length a.cases)) b.choices) l (a.spots ++ map (inner (length a.cases)) b.spots)))
    (sym (append_assoc a.cases (first_case row ∷ []) (map (moved_branch (length a.choices)) b.cases))) (case-walked a row some wa b wb))

-- ---- numbers as they are kept

room-at : (n : ℕ) (o : Option ℕ) → ((c : ℕ) → o ≡ Some c → n + c < 2 ^ 64) → IsRoom n o
room-at n None h = tt
room-at n (Some c) h = h c refl

forks-room : (b : Forking) (n : ℕ) → IsWalked b → n + length b.cases ≤ 2 ^ 64 → ForksHaveRoom n b.choices
forks-room b n w le = λ k d lt. room-at n (slice_index_or b.choices k d).case_in (λ c e.
    let at : case_in_of (slice_get b.choices k) ≡ Some c = ap case_in_of (slice_get-get_or b.choices k d lt) ∙ e in
    omega (arith, w.within k c at))

branches-room : (b : Forking) (n : ℕ) → IsWalked b → n + length b.choices ≤ 2 ^ 64 → BranchesHaveRoom n b.cases
branches-room b n w le = λ k d lt.
    let at : choice_of (slice_get b.cases k) ≡ Some (slice_index_or b.cases k d).choice = ap choice_of (slice_get-get_or b.cases k d lt) in
    let of = w.of_choices k (slice_index_or b.cases k d).choice at in
    omega arith

spot-room : (n m : ℕ) (o : Option ℕ) → n + m ≤ 2 ^ 64 → IfSome o (λ c. c < m) → IsRoom n o
spot-room n m None le h = tt
spot-room n m (Some c) le h = omega arith

spots-room : (b : Forking) (n : ℕ) → IsWalked b → n + length b.cases ≤ 2 ^ 64 → SpotsHaveRoom n b.spots
spots-room b n w le = All-weaker (λ (o : Option ℕ). IfSome o (λ c. c < length b.cases)) (IsRoom n) (λ o h. spot-room n (length b.cases) o le h) b.spots w.of_nodes

pub have-room : (a b : Forking) → IsWalked b → length a.choices + length b.choices ≤ 2 ^ 64 → length a.cases + 1 + length b.cases ≤ 2 ^ 64 → HaveRoom a b
have-room a b w few_choices few_cases = record {
  forks = λ n le. forks-room b n w (omega arith);
  branches = λ n le. branches-room b n w (omega arith);
  of_spots = λ n le. spots-room b n w (omega arith);
}
