-- The steps of a path, one after another, and whether they go along those of another.
use Rattle.std.proofs.Common.{◌≡◌, ℕ, zero, suc, ◌+◌, ◌<◌, ◌≤◌, Bool, true, false, List, [], ◌∷◌, length, get_or, drop, refl, sym, ap, ◌∙◌, arith}
use Rattle.std.specs.Prelude.{◌↔◌, ◌&&◌, ◌||◌, IsTrue, nat_eq}
use Rattle.std.specs.Bool.{one_answer}
use Rattle.std.specs.Ordering.{eq_by_cmp}
use Rattle.std.proofs.lemmas.List.{drop_more, drop_all}
use Rattle.std.proofs.lemmas.Bool.Decides.{nat_tests}
use Rattle.nm_types.specs.Path.{Choice, choice_cmp, PathStep}
use Rattle.nm_types.specs.PathLaws.{same_choice_decides}
use Rattle.nm_config.specs.Under.{is_whole, takes_in, goes_along, is_end, is_under}

-- a choice that is no whole takes in what is the same
pub taken_same : (x y : Choice) (w b : Bool) → w ≡ is_whole x → w ≡ false → (IsTrue b ↔ (x ≡ y)) → b ≡ takes_in x y
taken_same x y w b e n h =
    one_answer _ _ h (same_choice_decides x y (eq_by_cmp choice_cmp x y) refl) ∙ ap (λ k. k || eq_by_cmp choice_cmp x y) (sym n ∙ e)

same_test : (m n : ℕ) → nat_eq m n ≡ nat_eq (suc m) (suc n)
same_test m n = grind (arith, nat_tests)

end_by_length : (d : ℕ) (ss : List PathStep) → d ≤ length ss → is_end (drop d ss) ≡ nat_eq d (length ss)
end_by_length zero [] h = refl
end_by_length zero (s ∷ ss) h = grind (arith, nat_tests)
end_by_length (suc d) [] h = absurd (omega arith)
end_by_length (suc d) (s ∷ ss) h = end_by_length d ss (omega arith) ∙ same_test d (length ss)

-- one step more
pub is_under-step : (d : ℕ) (ss ts : List PathStep) (s t : PathStep) → d < length ss → d < length ts → s ≡ get_or ss d s → t ≡ get_or ts d t
    → is_under (drop d ss) (drop d ts) ≡ (goes_along (nat_eq (d + 1) (length ss)) s t && is_under (drop (d + 1) ss) (drop (d + 1) ts))
unfolding is_under
is_under-step d ss ts s t a b p q =
    let e : drop d ss ≡ s ∷ drop (d + 1) ss = drop_more ss d s a ∙ ap (λ x. x ∷ drop (d + 1) ss) (sym p) in
    let f : drop d ts ≡ t ∷ drop (d + 1) ts = drop_more ts d t b ∙ ap (λ x. x ∷ drop (d + 1) ts) (sym q) in
    let g : is_under (drop d ss) (drop d ts) ≡ is_under (s ∷ drop (d + 1) ss) (t ∷ drop (d + 1) ts) = λ i. is_under (e i) (f i) in
    g ∙ ap (λ last. goes_along last s t && is_under (drop (d + 1) ss) (drop (d + 1) ts)) (end_by_length (d + 1) ss (omega arith))

-- where the path ends first
pub is_under-short : (d : ℕ) (ss ts : List PathStep) (s : PathStep) → d < length ss → length ts ≤ d → is_under (drop d ss) (drop d ts) ≡ false
unfolding is_under
is_under-short d ss ts s a b =
    let e : drop d ss ≡ get_or ss d s ∷ drop (d + 1) ss = drop_more ss d s a in
    let f : drop d ts ≡ [] = drop_all d ts b in
    let g : is_under (drop d ss) (drop d ts) ≡ is_under (get_or ss d s ∷ drop (d + 1) ss) [] = λ i. is_under (e i) (f i) in
    g

-- where the node's path ends
pub is_under-done : (d : ℕ) (ss ts : List PathStep) → length ss ≤ d → is_under (drop d ss) ts ≡ true
unfolding is_under
is_under-done d ss ts h = ap (λ l. is_under l ts) (drop_all d ss h)

-- a turn of the walk along the steps
pub is_under-turn : (d : ℕ) (node path items front : List PathStep) (n : ℕ) (s t : PathStep) (b : Bool) → items ≡ node → front ≡ path → n ≡ length node
    → d < length items → d < length front → s ≡ get_or items d s → t ≡ get_or front d t → b ≡ goes_along (nat_eq (d + 1) n) s t
    → is_under (drop d node) (drop d path) ≡ is_under node path → (b && is_under (drop (d + 1) node) (drop (d + 1) path)) ≡ is_under node path
is_under-turn d node path items front n s t b e f g a1 b1 p q h r =
    let a2 : d < length node = omega (arith, ap length e) in
    let b2 : d < length path = omega (arith, ap length f) in
    let p2 : s ≡ get_or node d s = p ∙ ap (λ (l : List PathStep). get_or l d s) e in
    let q2 : t ≡ get_or path d t = q ∙ ap (λ (l : List PathStep). get_or l d t) f in
    let h2 : b ≡ goes_along (nat_eq (d + 1) (length node)) s t = h ∙ ap (λ k. goes_along (nat_eq (d + 1) k) s t) g in
    ap (λ x. x && is_under (drop (d + 1) node) (drop (d + 1) path)) h2 ∙ sym (is_under-step d node path s t a2 b2 p2 q2) ∙ r

-- a false test ends the walk
pub stops : (b rest whole : Bool) → b ≡ false → (b && rest) ≡ whole → false ≡ whole
stops true rest whole e h = cc
stops false rest whole e h = h

pub goes_on : (b rest whole : Bool) → b ≡ true → (b && rest) ≡ whole → rest ≡ whole
goes_on true rest whole e h = h
goes_on false rest whole e h = cc
