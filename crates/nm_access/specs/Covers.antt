-- The rows at and below the path of a rule (RFC 8341 section 5, `node-instance-identifier`).
use Rattle.std.specs.Prelude.{◌≡◌, ◌++◌, List, [], ◌∷◌, Bool, true, false, ◌&&◌, ⊤}
use Rattle.nm_types.specs.Path.{PathStep}
use Rattle.nm_config.specs.Under.{stands_for}

-- a path is over a row, step by step: a list or a leaf-list without its keys stands for all its entries, wherever in the path it is
abbrev pub covers : List PathStep → List PathStep → Bool
covers [] row = true
covers (step ∷ steps) [] = false
covers (step ∷ steps) (other ∷ row) = stands_for step other && covers steps row

-- ---- the same in words of its own

-- steps stand for as many others, one for one
abbrev pub StandFor : List PathStep → List PathStep → Type 0
StandFor [] [] = ⊤
StandFor (step ∷ steps) (other ∷ others) = (stands_for step other ≡ true) × StandFor steps others
StandFor _ _ = ⊥

-- a row begins with steps for which those of a path stand
pub record IsOver (path row : List PathStep) : Type 0 where
  pub front : List PathStep
  pub rest : List PathStep
  pub begins : row ≡ front ++ rest
  pub each : StandFor path front
