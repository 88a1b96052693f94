use Rattle.std.proofs.Common.{arith, length, length-drop, take, ◌-◌, ◌≡◌, refl, sym, ◌∙◌, ap, subst, map, drop, IfOk, Option, None, ℕ, zero, suc, List, Bor}
use Rattle.std.specs.List.{drop-map}
use Rattle.std.proofs.lemmas.List.{take_all}
use Rattle.nm_schema_typing.specs.Leafref as spec
use Rattle.nm_schema_typing.specs.declared.leafref.Start.TheVariants.{Up}
use Rattle.nm_schema_typing.proofs.leafref.relative_path.Goals as goal

-- a path that goes up so many nodes first
goes_up : (pieces : List (Bor (List ℕ))) (n : ℕ) → n ≡ spec.ups (map (λ (piece : Bor (List ℕ)). piece.now) pieces) → ¬ (n ≡ 0) → spec.path_along (Up n) (map (λ (piece : Bor (List ℕ)). piece.now) (take (length pieces - n) (drop n pieces))) ≡ spec.relative_path (map (λ (piece : Bor (List ℕ)). piece.now) pieces)
unfolding spec.relative_path
goes_up pieces zero e differ = absurd (differ refl)
goes_up pieces (suc n) e differ = rw (take_all (length pieces - suc n) (drop (suc n) pieces) (omega (arith, length-drop (suc n) pieces)), sym e, sym (drop-map (λ (piece : Bor (List ℕ)). piece.now) (suc n) pieces)) refl

-- a path that doesn't go up
stays : (pieces : List (List ℕ)) (n : ℕ) → n ≡ spec.ups pieces → n ≡ 0 → None ≡ spec.relative_path pieces
unfolding spec.relative_path
stays pieces n e none = rw (sym e ∙ none) refl

pub returns-then-count-eq0 : goal.returns-then-count-eq0
returns-then-count-eq0 c = stays _ _ c.ups-count.ensures.count c.if-count-eq0.true

pub returns : goal.returns
returns c = subst (λ (p : Option spec.LeafrefPath). IfOk c.path_along.result (λ path. path ≡ p)) (goes_up c.args.pieces.now c.ups-count.result c.ups-count.ensures.count c.if-count-eq0.false) c.path_along.ensures
