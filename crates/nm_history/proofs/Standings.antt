-- The reading of a history, where an entry has no effect.
use Rattle.std.proofs.Common.{◌≡◌, ℕ, ◌+◌, ◌<◌, List, [], ◌∷◌, length, drop, get_or, map, Bool, true, false, refl, sym, ap, ◌∙◌}
use Rattle.std.proofs.lemmas.List.{drop_more}
use Rattle.nm_history.specs.declared.event.Noted.{Noted}
use Rattle.nm_history.specs.Effect.{noted_effect}
use Rattle.nm_history.specs.declared.outcome.Outcome.{Outcome}
use Rattle.nm_history.specs.declared.outcome.Outcome.TheVariants.{Never, Pending, Confirmed, Undone}
use Rattle.nm_history.specs.Outcome.{Standing, standing_after, standing_from, is_final}
use Rattle.nm_history.specs.Effect.Effect.{Neither}

pub standing_after-neither : (token : List ℕ) (outcome : Outcome) (other : Bool) → standing_after token outcome other Neither ≡ record { outcome = outcome; other = other }
standing_after-neither token Never true = refl
standing_after-neither token Never false = refl
standing_after-neither token Pending other = refl
standing_after-neither token Confirmed other = refl
standing_after-neither token (Undone by) other = refl

pub ruleset neithers = (standing_after-neither)

-- the reading goes one entry on
pub read_on : (token : List ℕ) (before after : Standing) (history : List Noted) (i : ℕ) (entry : Noted) (all : Outcome) → i < length history → entry ≡ get_or history i entry
    → after.outcome ≡ (standing_after token before.outcome before.other (noted_effect entry)).outcome → after.other ≡ (standing_after token before.outcome before.other (noted_effect entry)).other
    → (standing_from token before (drop i history)).outcome ≡ all → (standing_from token after (drop (i + 1) history)).outcome ≡ all
read_on token before after history i entry all within is outcome other so_far =
    let next : after ≡ standing_after token before.outcome before.other (noted_effect entry) = both after (standing_after token before.outcome before.other (noted_effect entry)) outcome other in
    let e : drop i history ≡ entry ∷ drop (i + 1) history = drop_more history i entry within ∙ ap (λ (x : Noted). x ∷ drop (i + 1) history) (sym is) in
    ap (λ (s : Standing). (standing_from token s (drop (i + 1) history)).outcome) next ∙ sym (ap (λ l. (standing_from token before l).outcome) e) ∙ so_far
  where
    both : (one two : Standing) → one.outcome ≡ two.outcome → one.other ≡ two.other → one ≡ two
    both one two h k = ap (λ (o : Outcome). record { outcome = o; other = one.other }) h ∙ ap (λ (b : Bool). record { outcome = two.outcome; other = b }) k

-- the same of items that each have an entry
pub read_one : {X : Type 0} (token : List ℕ) (before after : Standing) (entry_of : X → Noted) (items : List X) (i : ℕ) (item : X) (all : Outcome) → i < length items → item ≡ get_or items i item
    → after.outcome ≡ (standing_after token before.outcome before.other (noted_effect (entry_of item))).outcome → after.other ≡ (standing_after token before.outcome before.other (noted_effect (entry_of item))).other
    → (standing_from token before (map entry_of (drop i items))).outcome ≡ all → (standing_from token after (map entry_of (drop (i + 1) items))).outcome ≡ all
read_one token before after entry_of items i item all within is outcome other so_far =
    let next : after ≡ standing_after token before.outcome before.other (noted_effect (entry_of item)) =
    ap (λ (o : Outcome). record { outcome = o; other = after.other }) outcome ∙ ap (λ (b : Bool). record { outcome = (standing_after token before.outcome before.other (noted_effect (entry_of item))).outcome; other = b }) other in
    let e : drop i items ≡ item ∷ drop (i + 1) items = drop_more items i item within ∙ ap (λ x. x ∷ drop (i + 1) items) (sym is) in
    ap (λ (s : Standing). (standing_from token s (map entry_of (drop (i + 1) items))).outcome) next ∙ sym (ap (λ l. (standing_from token before (map entry_of l)).outcome) e) ∙ so_far

-- what is final stays
pub final_stays : (token : List ℕ) (outcome : Outcome) (other : Bool) (history : List Noted) → is_final outcome ≡ true → (standing_from token (record { outcome = outcome; other = other }) history).outcome ≡ outcome
final_stays token outcome other [] h = refl
final_stays token Never other (entry ∷ history) h = cc
final_stays token Pending other (entry ∷ history) h = cc
final_stays token Confirmed other (entry ∷ history) h = final_stays token Confirmed other history refl
final_stays token (Undone by) other (entry ∷ history) h = final_stays token (Undone by) other history refl
