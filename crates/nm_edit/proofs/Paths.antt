-- What rows are once it is so what moves say of them.
use Rattle.std.proofs.Common.{◌≡◌, List, [], ◌∷◌, ◌++◌, Bool, true, false, cond, ◌&&◌, ◌||◌, if◌then◌else◌, refl, sym, ap, ◌∙◌}
use Rattle.std.specs.Prelude.{Option, Some, None, is_some, map as each, filter}
use Rattle.std.specs.Ordering.{eq_by_cmp}
use Rattle.std.specs.List.{list_any, flat_map}
use Rattle.std.specs.FinMap.{get, insert, empty, keys, same_map, get-empty, get-insert, contains_key-keys}
use Rattle.std.proofs.lemmas.Map.Views.{any-filter_same}
use Rattle.nm_types.specs.Path.{path_cmp}
use Rattle.nm_types.specs.PathLaws.{paths_total, path_cmp-IsAntisymmetric}
use Rattle.nm_types.specs.declared.value.Value.{Value}
use Rattle.nm_config.specs.Rows.{Rows, with_entries}
use Rattle.nm_config.specs.Under.{is_under}
use Rattle.nm_edit.specs.Edited.{all_without, RowMoves, moved}
use Rattle.nm_edit.specs.Laws.{goes}
use Rattle.nm_edit.proofs.After.{get_all_without}
use Rattle.nm_overlay.specs.Differences.{Changes, overridden}
use Rattle.nm_overlay.specs.Places.{Pair, gone_at}
use Rattle.nm_overlay.proofs.Order.{Place, one}
use Rattle.nm_overlay.proofs.Changed.{seen, get_overridden, overridden-put}
use Rattle.nm_edit.specs.Said.{gone_below, there, said}

with_append : (w : Changes) (es fs : List Pair) → with_entries w (es ++ fs) ≡ with_entries (with_entries w es) fs
with_append w [] fs = refl
with_append w (e ∷ es) fs = with_append (insert w e.0 e.1) es fs

-- ---- what is gone

either_gone : (later here : Bool) (o : Option (Option Value)) → cond later (Some None) (cond here (Some None) o) ≡ cond (here || later) (Some None) o
either_gone true true o = refl
either_gone true false o = refl
either_gone false true o = refl
either_gone false false o = refl

get_gone : (ps : List Place) (w : Changes) (q : Place) → get (with_entries w (each gone_at ps)) q ≡ cond (list_any (eq_by_cmp path_cmp q) ps) (Some None) (get w q)
get_gone [] w q = refl
get_gone (p ∷ ps) w q =
    get_gone ps (insert w p None) q
    ∙ ap (cond (list_any (eq_by_cmp path_cmp q) ps) (Some None)) (get-insert paths_total w p None q)
    ∙ either_gone (list_any (eq_by_cmp path_cmp q) ps) (eq_by_cmp path_cmp q p) (get w q)

-- the paths of rows at or below a node
among : (old : Rows) (node q : Place) → list_any (eq_by_cmp path_cmp q) (filter (is_under node) (keys old)) ≡ (is_under node q && is_some (get old q))
among old node q =
    any-filter_same (eq_by_cmp path_cmp q) (is_under node) (is_under node q) (λ k t. ap (is_under node) (sym (one q k t))) (keys old)
    ∙ ap (λ b. is_under node q && b) (sym (contains_key-keys old q))

both_gone : (later here there : Bool) (o : Option (Option Value))
    → cond (later && there) (Some None) (cond (here && there) (Some None) o) ≡ cond ((here || later) && there) (Some None) o
both_gone true true true o = refl
both_gone true true false o = refl
both_gone true false true o = refl
both_gone true false false o = refl
both_gone false true true o = refl
both_gone false true false o = refl
both_gone false false there o = refl

get_all_gone : (old : Rows) (nodes : List Place) (w : Changes) (q : Place)
    → get (with_entries w (flat_map (gone_below old) nodes)) q ≡ cond (goes nodes q && is_some (get old q)) (Some None) (get w q)
get_all_gone old [] w q = refl
get_all_gone old (node ∷ nodes) w q =
    let here = with_entries w (gone_below old node) in
    ap (λ (m : Changes). get m q) (with_append w (gone_below old node) (flat_map (gone_below old) nodes))
    ∙ get_all_gone old nodes here q
    ∙ ap (cond (goes nodes q && is_some (get old q)) (Some None)) (
    get_gone (filter (is_under node) (keys old)) w q ∙ ap (λ b. cond b (Some None) (get w q)) (among old node q))
    ∙ both_gone (goes nodes q) (is_under node q) (is_some (get old q)) (get w q)

out : (b : Bool) (o : Option Value) → seen (cond (b && is_some o) (Some None) None) o ≡ (if b then None else o)
out true None = refl
out true (Some v) = refl
out false o = refl

gone_rows : (old : Rows) (nodes : List Place) → overridden old (with_entries empty (flat_map (gone_below old) nodes)) ≡ all_without old nodes
gone_rows old nodes = same_map paths_total path_cmp-IsAntisymmetric _ _ (λ q.
    get_overridden old (with_entries empty (flat_map (gone_below old) nodes)) q
    ∙ ap (λ o. seen o (get old q)) (
    get_all_gone old nodes empty q ∙ ap (cond (goes nodes q && is_some (get old q)) (Some None)) (get-empty path_cmp q))
    ∙ out (goes nodes q) (get old q) ∙ sym (get_all_without old nodes q))

-- ---- what is there

put_there : (old : Rows) (w : Changes) (rows : List (Place × Value)) → overridden old (with_entries w (each there rows)) ≡ with_entries (overridden old w) rows
put_there old w [] = refl
put_there old w (row ∷ rows) = put_there old (insert w row.0 (Some row.1)) rows ∙ ap (λ (m : Rows). with_entries m rows) (overridden-put old w row.0 row.1)

-- rows with what moves say of them are what the moves make
pub said_makes : (old : Rows) (moves : RowMoves) → overridden old (with_entries empty (said old moves)) ≡ moved old moves
said_makes old moves =
    let gone = flat_map (gone_below old) moves.goes in
    let less : Changes = with_entries empty gone in
    ap (overridden old) (
    with_append empty (gone ++ each there moves.held) (each there moves.comes)
    ∙ ap (λ (w : Changes). with_entries w (each there moves.comes)) (with_append empty gone (each there moves.held)))
    ∙ put_there old (with_entries less (each there moves.held)) moves.comes
    ∙ ap (λ (m : Rows). with_entries m moves.comes) (
    put_there old less moves.held ∙ ap (λ (m : Rows). with_entries m moves.held) (gone_rows old moves.goes))
