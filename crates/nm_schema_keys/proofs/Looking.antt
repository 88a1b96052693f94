-- Maps of names, as they are filled from the last node to the first.
use Rattle.std.proofs.Common.{◌≡◌, ◌∙◌, ◌<◌, ◌≤◌, ◌+◌, ℕ, List, [], length, get_or, drop, true, cond, Option, Some, None, is_some, unwrap_or, refl, sym, ap, subst, drop-cons, add-one, arith, Bor}
use Rattle.std.proofs.lemmas.Grind.{common_steps}
use Rattle.std.specs.List.{find}
use Rattle.std.specs.Str.{bytes_eq}
use Rattle.std.specs.BTreeMap.{BTreeMap}
use Rattle.nm_schema_statements.specs.declared.row.Row.{Row}
use Rattle.nm_schema_uses.specs.Arguments.{argument_at}
use Rattle.nm_schema_keys.specs.declared.found.Found.TheVariants as found
use Rattle.nm_schema_keys.specs.Found.{is_called, row_or_missing, found_among}
use Rattle.nm_schema_keys.specs.Membership.{Membership, membership, Leads, led}

drop_past : (nodes : List ℕ) (at : ℕ) → length nodes ≤ at → drop at nodes ≡ []
drop_past nodes at past = grind (arith, common_steps)

-- what a name finds among some nodes
find-drop : (rows : List Row) (nodes : List ℕ) (at : ℕ) (name : List ℕ) → at < length nodes
    → find (is_called rows name) (drop at nodes) ≡ cond (bytes_eq (argument_at rows (get_or nodes at 0)) name) (Some (get_or nodes at 0)) (find (is_called rows name) (drop (at + 1) nodes))
unfolding is_called
find-drop rows nodes at name lt = rw (drop-cons nodes at 0 lt, add-one) refl

-- a node more in front
pub filled : (rows : List Row) (nodes : List ℕ) (at next : ℕ) (old new : BTreeMap (Bor (List ℕ)) ℕ) → at < length nodes → next ≡ at + 1 → Leads rows (drop next nodes) old
    → ((name : List ℕ) → led new name ≡ cond (bytes_eq (argument_at rows (get_or nodes at 0)) name) (Some (get_or nodes at 0)) (led old name)) → Leads rows (drop at nodes) new
unfolding Leads
filled rows nodes at next old new lt on before put = λ name.
    put name
    ∙ ap (λ o. cond (bytes_eq (argument_at rows (get_or nodes at 0)) name) (Some (get_or nodes at 0)) o) (before name)
    ∙ ap (λ n. cond (bytes_eq (argument_at rows (get_or nodes at 0)) name) (Some (get_or nodes at 0)) (find (is_called rows name) (drop n nodes))) on
    ∙ sym (find-drop rows nodes at name lt)

-- what a look-up finds
pub found_missing : (m : Membership) (rows : List Row) (nodes : Option (List ℕ)) (map : BTreeMap (Bor (List ℕ)) ℕ) (name : List ℕ) → membership rows nodes ≡ m → is_some nodes ≡ true
    → Leads rows (unwrap_or nodes []) map → None ≡ led map name → found.Missing ≡ found_among m.rows m.nodes name
unfolding Leads
found_missing m rows None map name e there leads is = cc
found_missing m rows (Some nodes) map name e there leads is = subst (λ (m : Membership). found.Missing ≡ found_among m.rows m.nodes name) e (ap row_or_missing (is ∙ leads name))

pub found_row : (m : Membership) (rows : List Row) (nodes : Option (List ℕ)) (map : BTreeMap (Bor (List ℕ)) ℕ) (name : List ℕ) (i : ℕ) → membership rows nodes ≡ m → is_some nodes ≡ true
    → Leads rows (unwrap_or nodes []) map → Some i ≡ led map name → found.Row i ≡ found_among m.rows m.nodes name
unfolding Leads
found_row m rows None map name i e there leads is = cc
found_row m rows (Some nodes) map name i e there leads is = subst (λ (m : Membership). found.Row i ≡ found_among m.rows m.nodes name) e (ap row_or_missing (is ∙ leads name))

-- nothing is put in yet
pub unfilled : (rows : List Row) (nodes : List ℕ) (at : ℕ) (map : BTreeMap (Bor (List ℕ)) ℕ) → length nodes ≤ at → ((name : List ℕ) → led map name ≡ None) → Leads rows (drop at nodes) map
unfolding Leads
unfilled rows nodes at map past none = λ name. none name ∙ sym (ap (λ (l : List ℕ). find (is_called rows name) l) (drop_past nodes at past))
