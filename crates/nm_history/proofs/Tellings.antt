-- What the entries tell at which something became of a commit.
use Rattle.std.proofs.Common.{◌≡◌, ℕ, ◌+◌, ◌<◌, ◌≤◌, List, [], ◌∷◌, ◌++◌, length, drop, get_or, Bool, true, false, cond, refl, sym, ap, ◌∙◌, append-nil, append_assoc}
use Rattle.std.specs.Prelude.{filter}
use Rattle.std.proofs.lemmas.List.{drop_all, drop_more}
use Rattle.nm_history.specs.declared.event.Noted.{Noted}
use Rattle.nm_history.specs.Effect.{Effect, noted_effect, is_effect, tells}
use Rattle.nm_history.specs.Effect.Effect.{Begins, Ends, Undoes, Neither}
use Rattle.nm_history.specs.Outcome.{Standing, standing_after, standing_from}
use Rattle.nm_history.proofs.Standings.{standing_after-neither}

-- an entry at which nothing became of a commit changes no standing
still : (token : List ℕ) (before : Standing) (effect : Effect) → is_effect effect ≡ false → standing_after token before.outcome before.other effect ≡ before
still token before (Begins persist) h = cc
still token before Ends h = cc
still token before (Undoes by) h = cc
still token before Neither h = standing_after-neither token before.outcome before.other

-- with one entry more in front, which tells or doesn't
put_first : (token : List ℕ) (before : Standing) (entry : Noted) (history : List Noted) (b : Bool) → tells entry ≡ b
    → ((s : Standing) → standing_from token s (filter tells history) ≡ standing_from token s history)
    → standing_from token before (filter tells (entry ∷ history)) ≡ standing_from token before (entry ∷ history)
put_first token before entry history true h rest =
    ap (λ b. standing_from token before (cond b (entry ∷ filter tells history) (filter tells history))) h
    ∙ rest (standing_after token before.outcome before.other (noted_effect entry))
put_first token before entry history false h rest =
    ap (λ b. standing_from token before (cond b (entry ∷ filter tells history) (filter tells history))) h
    ∙ rest before ∙ ap (λ s. standing_from token s history) (sym (still token before (noted_effect entry) h))

-- what the entries tell at which something became of a commit is what all of them tell
pub told_alike : (token : List ℕ) (before : Standing) (history : List Noted) → standing_from token before (filter tells history) ≡ standing_from token before history
told_alike token before [] = refl
told_alike token before (entry ∷ history) = put_first token before entry history (tells entry) refl (λ s. told_alike token s history)

-- a list is gone through, and each item put behind those before it
pub one_copied : {X : Type 0} (xs : List X) (i : ℕ) (x : X) (before after whole : List X) → i < length xs → x ≡ get_or xs i x → after ≡ before ++ x ∷ []
    → before ++ drop i xs ≡ whole → after ++ drop (i + 1) xs ≡ whole
one_copied xs i x before after whole lt is made so_far =
    ap (λ ys. ys ++ drop (i + 1) xs) made ∙ append_assoc before (x ∷ []) (drop (i + 1) xs)
    ∙ ap (λ us. before ++ us) (sym (drop_more xs i x lt ∙ ap (λ y. y ∷ drop (i + 1) xs) (sym is))) ∙ so_far

pub all_copied : {X : Type 0} (xs : List X) (i : ℕ) (before whole : List X) → length xs ≤ i → before ++ drop i xs ≡ whole → before ≡ whole
all_copied xs i before whole past so_far = sym (append-nil before) ∙ ap (λ us. before ++ us) (sym (drop_all i xs past)) ∙ so_far
