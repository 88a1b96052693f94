-- Choices and cases after one more.
use Rattle.std.proofs.Common.{◌≡◌, ◌⊎◌, ℕ, zero, suc, ◌+◌, ◌<◌, List, [], ◌∷◌, ◌++◌, length, Option, Some, None, IfSome, slice_get, refl, sym, ap, ◌∙◌, subst, inl, inr, arith, length-append}
use Rattle.std.proofs.lemmas.Option.{same_Some, none-some}
use Rattle.nm_schema_tree.specs.declared.choice.ChoiceNode.{ChoiceNode}
use Rattle.nm_schema_tree.specs.declared.choice.CaseNode.{CaseNode}
use Rattle.nm_schema_tree.specs.Nodes.{choice_of, choice_at, around_choice, around_case, outer_case, AreNested}

-- an element of a list with one more at its end is one of the list, or the last
push_get : {X : Type 0} (xs : List X) (x : X) (i : ℕ) → (slice_get (xs ++ x ∷ []) i ≡ slice_get xs i) ⊎ ((i ≡ length xs) × (slice_get (xs ++ x ∷ []) i ≡ Some x))
push_get [] x zero = inr (refl, refl)
push_get [] x (suc i) = inl refl
push_get (y ∷ xs) x zero = inl refl
push_get (y ∷ xs) x (suc i) = elim (push_get xs x i) [
  | inl front ↦ inl front
  | inr last ↦ inr (ap suc last.0, last.1)
]

get_left : {X : Type 0} (xs : List X) (x : X) (i : ℕ) → i < length xs → slice_get (xs ++ x ∷ []) i ≡ slice_get xs i
get_left [] x i lt = absurd (omega (arith, lt))
get_left (y ∷ xs) x zero lt = refl
get_left (y ∷ xs) x (suc i) lt = get_left xs x i (omega (arith, lt))

pub none_nested : AreNested [] []
none_nested = record {
  of_choices = λ c k e. absurd (none-some k e);
  within = λ k c e. absurd (none-some c e);
  outwards = λ c o e. absurd (none-some o e);
}

-- ---- a choice more

around_left : (choices : List ChoiceNode) (n : ChoiceNode) (o : Option ℕ) → ((k : ℕ) → o ≡ Some k → k < length choices) → around_case (choices ++ n ∷ []) o ≡ around_case choices o
around_left choices n None h = refl
around_left choices n (Some k) h = ap around_choice (get_left choices n k (h k refl))

case_there : (cases : List CaseNode) (o : Option ℕ) (c : ℕ) → o ≡ Some c → IfSome o (λ d. d < length cases) → c < length cases
case_there cases None c e h = absurd (none-some c e)
case_there cases (Some d) c e h = subst (λ (x : ℕ). x < length cases) (same_Some d c e) h

pub nested_choice : (choices : List ChoiceNode) (cases : List CaseNode) (n : ChoiceNode) → AreNested choices cases → IfSome n.case_in (λ c. c < length cases) → AreNested (choices ++ n ∷ []) cases
nested_choice choices cases n h there = record {
  of_choices = λ c k e. let lt = h.of_choices c k e in let more = length-append choices (n ∷ []) in omega (arith, lt, more);
  within = λ k c e. elim (push_get choices n k) [
    | inl front ↦ h.within k c (sym (ap around_choice front) ∙ e)
    | inr last ↦ case_there cases n.case_in c (sym (ap around_choice last.1) ∙ e) there
  ];
  outwards = λ c o e. h.outwards c o (sym (around_left choices n (choice_at cases c) (h.of_choices c)) ∙ e);
}

-- ---- a case more

pub nested_case : (choices : List ChoiceNode) (cases : List CaseNode) (n : CaseNode) → AreNested choices cases → n.choice < length choices → AreNested choices (cases ++ n ∷ [])
nested_case choices cases n h there = record {
  of_choices = λ c k e. elim (push_get cases n c) [
    | inl front ↦ h.of_choices c k (sym (ap choice_of front) ∙ e)
    | inr last ↦ subst (λ (x : ℕ). x < length choices) (same_Some n.choice k (sym (ap choice_of last.1) ∙ e)) there
  ];
  within = λ k c e. let lt = h.within k c e in let more = length-append cases (n ∷ []) in omega (arith, lt, more);
  outwards = λ c o e. elim (push_get cases n c) [
    | inl front ↦ h.outwards c o (sym (ap (λ (x : Option CaseNode). around_case choices (choice_of x)) front) ∙ e)
    | inr last ↦
        let lt : o < length cases = h.within n.choice o (sym (ap (λ (x : Option CaseNode). around_case choices (choice_of x)) last.1) ∙ e) in
        let at = last.0 in
        omega (arith, lt, at)
  ];
}

-- what falls at each number that is there
pub falls_by : (o : Option ℕ) (n : ℕ) → ((k : ℕ) → o ≡ Some k → k < n) → IfSome o (λ k. k < n)
falls_by None n h = tt
falls_by (Some k) n h = h k refl
