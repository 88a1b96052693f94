-- What is written of a list of statements.
use Rattle.std.proofs.Common.{◌≡◌, ℕ, ◌<◌, List, [], ◌∷◌, ◌++◌, length, Option, refl, sym, ap, ◌∙◌, append_assoc, arith}
use Rattle.std.proofs.lemmas.List.Concat.{flat_map-cons}
use Rattle.std.specs.List.{flat_map}
use Rattle.nm_yang.specs.Tree.{Tree, trees_of, statement}
use Rattle.nm_yang.specs.Written.{written, written_end, written_each, written_argument, spaced}

pub written_each-trees_of : (ts : List Tree) → written_each (trees_of ts) ≡ flat_map spaced ts
unfolding written_each
written_each-trees_of [] = refl
written_each-trees_of (t ∷ ts) = rw (written_each-trees_of ts, flat_map-cons) (sym (append_assoc (written t) (32 ∷ []) (flat_map spaced ts)))

pub written_end-trees_of : (ts : List Tree) → 0 < length ts → written_end (trees_of ts) ≡ (32 ∷ 123 ∷ 32 ∷ []) ++ (flat_map spaced ts ++ 125 ∷ [])
unfolding written_end
written_end-trees_of [] lt = absurd (omega arith)
written_end-trees_of (t ∷ ts) lt =
    let e = ap (λ (l : List ℕ). l ++ 125 ∷ []) (flat_map-cons spaced t ts) ∙ append_assoc (spaced t) (flat_map spaced ts) (125 ∷ []) ∙ append_assoc (written t) (32 ∷ []) (flat_map spaced ts ++ 125 ∷ []) in
    rw (written_each-trees_of ts) (ap (λ (l : List ℕ). 32 ∷ 123 ∷ 32 ∷ l) (sym e))

pub written_empty : (keyword : List ℕ) (argument : Option (List ℕ)) (place : ℕ) (ts : List Tree) (old out now : List ℕ) → length ts ≡ 0 → out ≡ (old ++ keyword) ++ written_argument argument → now ≡ out ++ 59 ∷ []
    → now ≡ old ++ written (statement keyword argument place (trees_of ts))
unfolding written written_end
written_empty keyword argument place [] old out now len is e =
    e ∙ ap (λ (l : List ℕ). l ++ 59 ∷ []) is ∙ append_assoc (old ++ keyword) (written_argument argument) (59 ∷ []) ∙ append_assoc old keyword (written_argument argument ++ 59 ∷ [])
written_empty keyword argument place (t ∷ ts) old out now len is e = absurd (omega arith)

pub written_within : (keyword : List ℕ) (argument : Option (List ℕ)) (place : ℕ) (ts : List Tree) (old out opened all now : List ℕ) → 0 < length ts → out ≡ (old ++ keyword) ++ written_argument argument → opened ≡ out ++ (32 ∷ 123 ∷ 32 ∷ []) → all ≡ opened ++ flat_map spaced ts → now ≡ all ++ 125 ∷ []
    → now ≡ old ++ written (statement keyword argument place (trees_of ts))
unfolding written
written_within keyword argument place ts old out opened all now lt is o a e =
    let tail : List ℕ = flat_map spaced ts ++ 125 ∷ [] in
    let w = written_end-trees_of ts lt in
    e ∙ ap (λ (l : List ℕ). l ++ 125 ∷ []) a ∙ append_assoc opened (flat_map spaced ts) (125 ∷ []) ∙ ap (λ (l : List ℕ). l ++ tail) o ∙ append_assoc out (32 ∷ 123 ∷ 32 ∷ []) tail ∙ ap (λ (l : List ℕ). l ++ ((32 ∷ 123 ∷ 32 ∷ []) ++ tail)) is
    ∙ append_assoc (old ++ keyword) (written_argument argument) ((32 ∷ 123 ∷ 32 ∷ []) ++ tail) ∙ append_assoc old keyword (written_argument argument ++ ((32 ∷ 123 ∷ 32 ∷ []) ++ tail)) ∙ ap (λ (l : List ℕ). old ++ (keyword ++ (written_argument argument ++ l))) (sym w)
