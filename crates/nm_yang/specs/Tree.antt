-- What a statement is, apart from where it lies in memory (RFC 7950 section 6.3).
use Rattle.std.specs.Prelude.{◌≡◌, ℕ, zero, suc, ◌+◌, ◌≤◌, List, [], ◌∷◌, ◌++◌, Option, None, refl}
use Rattle.std.specs.Coded.{Coded, code_by, coded×, coded_ℕ, coded_list, coded_option}
use Rattle.std.proofs.Common.{arith, ap, sym, ◌∙◌, append_assoc}
use Rattle.std.proofs.lemmas.List.{append-nil}
use denote.Param.Weighed.{most}

-- a keyword, an argument, the place of the keyword in bytes, and the statements within, in order
mutual
  pub data Tree : Type 0 where
    statement : List ℕ → Option (List ℕ) → ℕ → Trees → Tree

  -- statements beside one another
  pub data Trees : Type 0 where
    none : Trees
    more : Tree → Trees → Trees

-- the statements of a list
abbrev pub trees_of : List Tree → Trees
trees_of [] = none
trees_of (t ∷ ts) = more t (trees_of ts)

-- how many statements a statement is, itself among them
abbrev mutual
  pub tree_size : Tree → ℕ
  tree_size (statement keyword argument place below) = suc (trees_size below)

  -- how many these are, with all that is within them
  pub trees_size : Trees → ℕ
  trees_size none = 0
  trees_size (more t ts) = tree_size t + trees_size ts

-- no statement is larger than all of its list together
pub most_le-trees_size : (kids : List Tree) → most (λ t. tree_size t + 1) kids ≤ trees_size (trees_of kids) + 1
most_le-trees_size [] = omega arith
most_le-trees_size (t ∷ ts) = omega (arith, most_le-trees_size ts)

-- ---- a statement as rows from the outside in, each with how many statements are within: rows tell statements apart

-- a statement by itself: its keyword, its argument, its place, and how many statements stand directly within it
abbrev pub Row : Type 0
Row = List ℕ × Option (List ℕ) × ℕ × ℕ

-- how many statements stand beside one another, those within them not counted
abbrev pub count : Trees → ℕ
count none = 0
count (more t ts) = suc (count ts)

-- the rows of a statement and of what is within it, each statement before what is within it, in the order of the text
abbrev mutual
  pub rows_of : Tree → List Row
  rows_of (statement keyword argument place below) = (keyword, argument, place, count below) ∷ rows_of_all below

  -- the rows of statements beside one another, with all that is within them
  pub rows_of_all : Trees → List Row
  rows_of_all none = []
  rows_of_all (more t ts) = rows_of t ++ rows_of_all ts

-- the first n of some statements
abbrev pub first : ℕ → Trees → Trees
first zero ts = none
first (suc n) none = none
first (suc n) (more t ts) = more t (first n ts)

-- some statements without the first n
abbrev pub others : ℕ → Trees → Trees
others zero ts = ts
others (suc n) none = none
others (suc n) (more t ts) = others n ts

-- the statements that rows were made of: each row takes as many of those that follow as it says
abbrev pub of_rows : List Row → Trees
of_rows [] = none
of_rows (r ∷ rs) = more (statement r.0 r.1 r.2 (first r.3 (of_rows rs))) (others r.3 (of_rows rs))

-- the first of some statements; where there is none, one that says nothing
abbrev pub head_of : Trees → Tree
head_of none = statement [] None 0 none
head_of (more t ts) = t

-- some statements, and then others
abbrev pub joined : Trees → Trees → Trees
joined none us = us
joined (more t ts) us = more t (joined ts us)

first-joined : (ts us : Trees) → first (count ts) (joined ts us) ≡ ts
first-joined none us = refl
first-joined (more t ts) us = ap (λ x. more t x) (first-joined ts us)

others-joined : (ts us : Trees) → others (count ts) (joined ts us) ≡ us
others-joined none us = refl
others-joined (more t ts) us = others-joined ts us

mutual
  of_rows-rows_of : (t : Tree) (rs : List Row) → of_rows (rows_of t ++ rs) ≡ more t (of_rows rs)
  of_rows-rows_of (statement keyword argument place below) rs =
      rw (of_rows-rows_of_all below rs, first-joined below (of_rows rs), others-joined below (of_rows rs)) refl

  of_rows-rows_of_all : (ts : Trees) (rs : List Row) → of_rows (rows_of_all ts ++ rs) ≡ joined ts (of_rows rs)
  of_rows-rows_of_all none rs = refl
  of_rows-rows_of_all (more t ts) rs =
      ap of_rows (append_assoc (rows_of t) (rows_of_all ts) rs) ∙ of_rows-rows_of t (rows_of_all ts ++ rs) ∙ ap (λ x. more t x) (of_rows-rows_of_all ts rs)

-- the rows of a statement tell which it is
pub tree_back : (t : Tree) → head_of (of_rows (rows_of t)) ≡ t
tree_back t = ap (λ rs. head_of (of_rows rs)) (sym (append-nil (rows_of t))) ∙ ap head_of (of_rows-rows_of t [])

-- how a proof tells rows of statements apart: by the four parts
abbrev pub row_code : Coded Row
row_code = code_by (List ℕ × (Option (List ℕ) × (ℕ × ℕ)))
    (coded× (coded_list coded_ℕ) (coded× (coded_option (coded_list coded_ℕ)) (coded× coded_ℕ coded_ℕ)))
    (λ r. (r.0, (r.1, (r.2, r.3)))) (λ p. (p.0, p.1.0, p.1.1.0, p.1.1.1)) (λ _. refl)

-- how a proof tells statements apart: by their rows
abbrev pub tree_code : Coded Tree
tree_code = code_by (List Row) (coded_list row_code) rows_of (λ rs. head_of (of_rows rs)) tree_back
