-- Entries more, one by one.
use Rattle.std.proofs.Common.{◌≡◌, ℕ, List, [], ◌∷◌, ◌++◌, refl, sym, ap, ◌∙◌}
use Rattle.nm_history.specs.declared.event.Noted.{Noted}
use Rattle.nm_history.specs.Effect.{noted_effect}
use Rattle.nm_chronicle.specs.Board.{ChronicleState}
use Rattle.nm_chronicle.specs.Phases.{PhasesState, went, called, call_of, went_along, called_along}

went_push : (s : PhasesState) (entries : List Noted) (entry : Noted) → went_along s (entries ++ entry ∷ []) ≡ went (went_along s entries) (noted_effect entry)
went_push s [] entry = refl
went_push s (first ∷ entries) entry = went_push (went s (noted_effect first)) entries entry

called_push : (s : PhasesState) (board : ChronicleState) (device : ℕ) (entries : List Noted) (entry : Noted)
    → called_along s board device (entries ++ entry ∷ []) ≡ called (called_along s board device entries) (call_of (went_along s entries) device (noted_effect entry))
called_push s board device [] entry = refl
called_push s board device (first ∷ entries) entry =
    called_push (went s (noted_effect first)) (called board (call_of s device (noted_effect first))) device entries entry

module _ (s now : PhasesState) (so_far next : List Noted) (entry : Noted) (e : next ≡ so_far ++ entry ∷ []) (is : now ≡ went_along s so_far) where
  -- the phases went along one more
  pub went_more : (new : PhasesState) → new ≡ went now (noted_effect entry) → new ≡ went_along s next
  went_more new goes = goes ∙ ap (λ t. went t (noted_effect entry)) is ∙ sym (went_push s so_far entry) ∙ ap (went_along s) (sym e)

  -- and the board
  pub called_more : (board before after : ChronicleState) (device : ℕ) → before ≡ called_along s board device so_far
      → after ≡ called before (call_of now device (noted_effect entry)) → after ≡ called_along s board device next
  called_more board before after device before_is goes =
      goes
      ∙ ap (λ b. called b (call_of now device (noted_effect entry))) before_is
      ∙ ap (λ t. called (called_along s board device so_far) (call_of t device (noted_effect entry))) is
      ∙ sym (called_push s board device so_far entry)
      ∙ ap (called_along s board device) (sym e)
