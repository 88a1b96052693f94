-- What `is_under` tells.
use Rattle.std.proofs.Common.{◌≡◌, Bool, true, false, List, [], ◌∷◌, ◌++◌, refl, sym, ap, ◌∙◌, ◌⊎◌, inl, inr}
use Rattle.std.specs.Prelude.{◌↔◌, IsTrue}
use Rattle.std.specs.Ordering.{eq_by_cmp, is_eq}
use Rattle.std.proofs.lemmas.Cmp.{tied_itself}
use Rattle.nm_types.specs.Path.{Choice, whole, keys, entry, choice_cmp, PathStep, step_cmp}
use Rattle.nm_types.specs.PathLaws.{steps_total, same_choice_decides}
use Rattle.nm_config.specs.Under.{takes_in, stands_for, goes_along, is_end, is_under, Continues, EntersList}
use Rattle.nm_config.proofs.Contiguous.{Stands, stands_parts, stands_again, first_holds, second_holds, both_hold, one_step}

same_choice : (x y : Choice) → eq_by_cmp choice_cmp x y ≡ true → x ≡ y
same_choice x y h = (same_choice_decides x y (eq_by_cmp choice_cmp x y) refl).0 h

choice_itself : (x : Choice) → eq_by_cmp choice_cmp x x ≡ true
choice_itself x = (same_choice_decides x x (eq_by_cmp choice_cmp x x) refl).1 refl

takes_itself : (x : Choice) → takes_in x x ≡ true
takes_itself whole = refl
takes_itself (keys vs) = choice_itself (keys vs)
takes_itself (entry v) = choice_itself (entry v)

step_itself : (s : PathStep) → eq_by_cmp step_cmp s s ≡ true
step_itself s = ap is_eq (tied_itself steps_total s)

along_itself : (last : Bool) (s : PathStep) → goes_along last s s ≡ true
along_itself true s = stands_again s s (record { module_same = refl; name_same = refl; taken = takes_itself s.chosen })
along_itself false s = step_itself s

below-continues : (node rest : List PathStep) → is_under node (node ++ rest) ≡ true
unfolding is_under
below-continues [] rest = refl
below-continues (s ∷ ss) rest = both_hold _ _ (along_itself (is_end ss) s) (below-continues ss rest)

below-list : (above : List PathStep) (list one : PathStep) (rest : List PathStep) → stands_for list one ≡ true → is_under (above ++ list ∷ []) (above ++ one ∷ rest) ≡ true
unfolding is_under
below-list [] list one rest h = both_hold _ _ h refl
below-list (a ∷ []) list one rest h = both_hold _ _ (step_itself a) (below-list [] list one rest h)
below-list (a ∷ b ∷ above) list one rest h = both_hold _ _ (step_itself a) (below-list (b ∷ above) list one rest h)

stands-whole : (list one : PathStep) → list.chosen ≡ whole → list.module ≡ one.module → list.name ≡ one.name → stands_for list one ≡ true
stands-whole list one w m n = stands_again list one (record { module_same = m; name_same = n; taken = ap (λ c. takes_in c one.chosen) w })

step_of : (s t : PathStep) → s.module ≡ t.module → s.name ≡ t.name → s.chosen ≡ t.chosen → s ≡ t
step_of s t m n c = λ i. record { «module» = m i; name = n i; chosen = c i }

what_chosen : (x y : Choice) → takes_in x y ≡ true → (x ≡ whole) ⊎ (x ≡ y)
what_chosen whole y h = inl refl
what_chosen (keys vs) y h = inr (same_choice (keys vs) y h)
what_chosen (entry v) y h = inr (same_choice (entry v) y h)

at_last : (s t : PathStep) (ts : List PathStep) → Stands s t → (s.chosen ≡ whole) ⊎ (s.chosen ≡ t.chosen) → Continues (s ∷ []) (t ∷ ts) ⊎ EntersList (s ∷ []) (t ∷ ts)
at_last s t ts h (inl w) = inr (record { above = []; list = s; entry = t; rest = ts; ends = refl; as_whole = w; same_module = h.module_same; same_name = h.name_same; begins = refl })
at_last s t ts h (inr c) = inl (record { rest = ts; begins = ap (λ (x : PathStep). x ∷ ts) (sym (step_of s t h.module_same h.name_same c)) })

one_more : (s t : PathStep) (ss ts : List PathStep) → s ≡ t → Continues ss ts ⊎ EntersList ss ts → Continues (s ∷ ss) (t ∷ ts) ⊎ EntersList (s ∷ ss) (t ∷ ts)
one_more s t ss ts e (inl h) = inl (record { rest = h.rest; begins = λ i. sym e i ∷ h.begins i })
one_more s t ss ts e (inr h) = inr (record {
  above = s ∷ h.above;
  list = h.list;
  entry = h.entry;
  rest = h.rest;
  ends = ap (λ (l : List PathStep). s ∷ l) h.ends;
  as_whole = h.as_whole;
  same_module = h.same_module;
  same_name = h.same_name;
  begins = λ i. sym e i ∷ h.begins i;
})

meaning : (ss ts : List PathStep) → is_under ss ts ≡ true → Continues ss ts ⊎ EntersList ss ts
unfolding is_under
meaning [] ts h = inl (record { rest = ts; begins = refl })
meaning (s ∷ ss) [] h = cc
meaning (s ∷ []) (t ∷ ts) h = let p = stands_parts s t (first_holds _ _ h) in at_last s t ts p (what_chosen s.chosen t.chosen p.taken)
meaning (s ∷ r ∷ ss) (t ∷ ts) h = one_more s t (r ∷ ss) ts (one_step s t (first_holds _ _ h)) (meaning (r ∷ ss) ts (second_holds _ _ h))

told : (node path : List PathStep) → Continues node path ⊎ EntersList node path → is_under node path ≡ true
told node path (inl h) = ap (is_under node) h.begins ∙ below-continues node h.rest
told node path (inr h) =
    let e : is_under node path ≡ is_under (h.above ++ h.list ∷ []) (h.above ++ h.entry ∷ h.rest) = λ i. is_under (h.ends i) (h.begins i) in
    e ∙ below-list h.above h.list h.entry h.rest (stands-whole h.list h.entry h.as_whole h.same_module h.same_name)

-- the test tells what continues the node's path, or that of an entry
pub under-means : (node path : List PathStep) → IsTrue (is_under node path) ↔ (Continues node path ⊎ EntersList node path)
under-means node path = (meaning node path, told node path)
