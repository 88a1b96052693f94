-- Fronts of texts that are written piece by piece, and cut.
use Rattle.std.proofs.Common.{◌≡◌, ℕ, zero, suc, ◌+◌, ◌≤◌, ◌<◌, List, [], ◌∷◌, ◌++◌, length, take, get_or, Bool, true, false, cond, refl, ap, ◌∙◌, arith, append_assoc}
use Rattle.std.proofs.lemmas.List.{append-nil, take_all, take_at, get_or-take, take-take}
use Rattle.nm_scenario_form.specs.declared.fault.Step.{Step}
use Rattle.nm_scenario_form.specs.Pointer.{begins_character, cut_place, cut_text, pointer_of, way_text}

take_within : (room : ℕ) (front rest : List ℕ) → take room (take room front ++ rest) ≡ take room (front ++ rest)
take_within zero front rest = refl
take_within (suc room) [] rest = refl
take_within (suc room) (x ∷ front) rest = ap (λ xs. x ∷ xs) (take_within room front rest)

-- a piece more was written, of which there was room for some
pub piece_more : (room : ℕ) (front more piece rest : List ℕ) → more ≡ take room (front ++ piece) → take room (more ++ rest) ≡ take room (front ++ (piece ++ rest))
piece_more room front more piece rest is = ap (λ xs. take room (xs ++ rest)) is ∙ (take_within room (front ++ piece) rest ∙ ap (take room) (append_assoc front piece rest))

-- there is no more room
pub room_over : (room : ℕ) (front rest : List ℕ) → length front ≤ room → room ≤ length front → take room (front ++ rest) ≡ front
room_over room front rest short full = take_at front rest room (omega arith)

-- nothing is left to be written
pub all_written : (room : ℕ) (front : List ℕ) → length front ≤ room → take room (front ++ []) ≡ front
all_written room front short = ap (take room) (append-nil front) ∙ take_all room front short

-- a front of more than n bytes is cut at n where the whole is
cut_place-take : (room : ℕ) (text : List ℕ) (n : ℕ) → n < room → cut_place (take room text) n ≡ cut_place text n
cut_place-take room text zero less = refl
cut_place-take room text (suc n) less =
    ap (λ byte. cond (begins_character byte) (suc n) (cut_place (take room text) n)) (get_or-take room text (suc n) 0 less)
    ∙ ap (λ place. cond (begins_character (get_or text (suc n) 0)) (suc n) place) (cut_place-take room text n (omega arith))

choice_le : (ends : Bool) (n place : ℕ) → place ≤ n → cond ends (suc n) place ≤ suc n
choice_le true n place le = omega arith
choice_le false n place le = omega arith

pub cut_place_le : (text : List ℕ) (n : ℕ) → cut_place text n ≤ n
cut_place_le text zero = omega arith
cut_place_le text (suc n) = choice_le (begins_character (get_or text (suc n) 0)) n (cut_place text n) (cut_place_le text n)

-- a front of one byte more than the limit is cut as the whole is
cut_front : (limit : ℕ) (text : List ℕ) → cut_text limit (take (limit + 1) text) ≡ cut_text limit text
unfolding cut_text
cut_front limit text =
    ap (λ n. take n (take (limit + 1) text)) (cut_place-take (limit + 1) text limit (omega arith))
    ∙ take-take (cut_place text limit) (limit + 1) text (omega (arith, cut_place_le text limit))

pub cut_pointer : (place : List Step) → cut_text 4096 (take 4097 (way_text place)) ≡ pointer_of place
unfolding pointer_of
cut_pointer place = cut_front 4096 (way_text place)
