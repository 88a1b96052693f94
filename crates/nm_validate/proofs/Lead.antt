-- Places with the nodes that they lead to, one more at a time and each of them.
use Rattle.std.proofs.Common.{◌≡◌, ℕ, zero, suc, ◌+◌, ◌<◌, List, [], ◌∷◌, ◌++◌, drop, length, get_or, refl, sym, ap, ◌∙◌, subst, append_assoc, arith}
use Rattle.std.proofs.lemmas.List.{drop_more}
use Rattle.nm_types.specs.Path.{PathStep}
use Rattle.nm_schema_tree.specs.Nodes.{SchemaTree}
use Rattle.nm_path.specs.Spelling.{node_of}
use Rattle.nm_validate.specs.declared.places.NodePlace.{NodePlace}
use Rattle.nm_validate.specs.Led.{paths_of, AreLed}

paths_push : (places : List NodePlace) (place : NodePlace) → paths_of (places ++ place ∷ []) ≡ paths_of places ++ place.path.now ∷ []
paths_push [] place = refl
paths_push (p ∷ places) place = ap (λ l. p.path.now ∷ l) (paths_push places place)

led_push : (t : SchemaTree) (places : List NodePlace) (place : NodePlace) → AreLed t places → place.node ≡ node_of t place.path.now → AreLed t (places ++ place ∷ [])
led_push t [] place h e = (e, tt)
led_push t (p ∷ places) place h e = (h.0, led_push t places place h.1 e)

-- these places and the paths that are left are all paths
pub record AreMet (t : SchemaTree) (left all : List (List PathStep)) (places : List NodePlace) : Type 0 where
  pub paths : paths_of places ++ left ≡ all
  pub led : AreLed t places

-- a place more has its node
pub met_on : (t : SchemaTree) (all : List (List PathStep)) (i : ℕ) (path : List PathStep) (before after : List NodePlace) (place : NodePlace) → i < length all → path ≡ get_or all i path → place.path.now ≡ path
    → place.node ≡ node_of t place.path.now → after ≡ before ++ place ∷ [] → AreMet t (drop i all) all before → AreMet t (drop (i + 1) all) all after
met_on t all i path before after place lt item same is e h = record {
  paths = ap (λ l. paths_of l ++ drop (i + 1) all) e ∙ ap (λ l. l ++ drop (i + 1) all) (paths_push before place) ∙ append_assoc (paths_of before) (place.path.now ∷ []) (drop (i + 1) all)
      ∙ ap (λ p. paths_of before ++ p ∷ drop (i + 1) all) (same ∙ item) ∙ ap (λ l. paths_of before ++ l) (sym (drop_more all i path lt)) ∙ h.paths;
  led = subst (AreLed t) (sym e) (led_push t before place h.led is);
}

-- each of these has the node that its path leads to
pub led_at : (t : SchemaTree) (places : List NodePlace) (i : ℕ) (place : NodePlace) → i < length places → place ≡ get_or places i place → AreLed t places → place.node ≡ node_of t place.path.now
led_at t [] i place lt is h = absurd (omega (arith, lt))
led_at t (p ∷ places) zero place lt is h = ap (λ (q : NodePlace). q.node) is ∙ h.0 ∙ ap (λ (q : NodePlace). node_of t q.path.now) (sym is)
led_at t (p ∷ places) (suc i) place lt is h = led_at t places i place (omega (arith, lt)) is h.1
