-- Links that are left open, looked for at one side after another.
use Rattle.std.proofs.Common.{◌≡◌, ℕ, ◌+◌, ◌<◌, ◌≤◌, ◌==◌, ◌&&◌, List, Bool, true, false, cond, Option, Some, None, IfNone, is_some, length, get_or, slice_get, ◌⊎◌, inl, inr, refl, sym, ap, ◌∙◌, arith}
use Rattle.std.proofs.lemmas.Bool.{cases_lt}
use Rattle.std.proofs.lemmas.Option.{slice_get_past, slice_get-get_or}
use Rattle.nm_wire.specs.Wire.{no_links, is_open_link, is_left_open}
use Rattle.nm_manager.specs.Slot.{SideState, wire_of_side, IsNoneLeft}

-- none of the first sides has such a link
abbrev pub NoneBefore : List SideState → ℕ → Type 0
NoneBefore sides n = (place : ℕ) → place < n → (link : ℕ) → is_left_open (wire_of_side (slice_get sides place)) link ≡ false

pub none_first : (sides : List SideState) → NoneBefore sides 0
none_first sides place below link = absurd (omega (arith, below))

-- where nothing is found, what holds then holds
pub found_none : (found : Option ℕ) (P : Type 0) → is_some found ≡ false → IfNone found P → P
found_none None P h p = p
found_none (Some x) P h p = absurd cc

-- no more has the next side
pub none_next : (sides : List SideState) (n : ℕ) (side : SideState) → n < length sides → side ≡ get_or sides n side → NoneBefore sides n
    → ((link : ℕ) → is_left_open side.wire link ≡ false) → NoneBefore sides (n + 1)
none_next sides n side within is before this place below link = by (cases_lt place n) where
  by : (place < n) ⊎ (n ≤ place) → is_left_open (wire_of_side (slice_get sides place)) link ≡ false
  by (inl less) = before place less link
  by (inr least) =
      let same : place ≡ n = omega (arith, below, least) in
      let at : slice_get sides place ≡ Some side = ap (slice_get sides) same ∙ slice_get-get_or sides n side within ∙ ap Some (sym is) in
      ap (λ found. is_left_open (wire_of_side found) link) at ∙ this link

no_link : (b : Bool) → (is_open_link (cond b None None) && true) ≡ false
no_link true = refl
no_link false = refl

no_links_left : (link : ℕ) → is_left_open no_links link ≡ false
no_links_left link = no_link (link == 0)

-- none of all of them
pub none_left : (sides : List SideState) (n : ℕ) → length sides ≤ n → NoneBefore sides n → IsNoneLeft sides
none_left sides n all before place link = by (cases_lt place n) where
  by : (place < n) ⊎ (n ≤ place) → is_left_open (wire_of_side (slice_get sides place)) link ≡ false
  by (inl less) = before place less link
  by (inr past) = ap (λ found. is_left_open (wire_of_side found) link) (slice_get_past sides place (omega (arith, all, past))) ∙ no_links_left link
