-- What is read of the other nodes of a case, and rows that are put one after another.
use Rattle.std.proofs.Common.{◌≡◌, ℕ, List, [], ◌∷◌, ◌++◌, map, not, ◌&&◌, ◌==◌, Option, Some, None, Vec, refl, sym, ap, ◌∙◌, append_assoc}
use Rattle.std.specs.Prelude.{filter}
use Rattle.std.specs.List.{list_any}
use Rattle.std.specs.declared.alloc.Global.{Global}
use Rattle.nm_types.specs.declared.value.Value.{Value}
use Rattle.nm_types.specs.Path.{PathStep}
use Rattle.nm_schema_tree.specs.Nodes.{SchemaTree}
use Rattle.nm_validate_rules.specs.declared.rule.Rule.{Rule}
use Rattle.nm_validate_rules.specs.Cases.{numbers, is_in_case}
use Rattle.nm_validate_places.specs.Members.{AreOthers}
use Rattle.nm_validate_places.proofs.Below.{any_kept}
use Rattle.nm_validate_rules.specs.Reads.{tells, other_reads, beside_reads, reads}
use Rattle.nm_validate_rules.specs.Candidates.{candidates}
use Rattle.nm_incremental.specs.Read.{present, read_at, read_of}

pub beside_of : (t : SchemaTree) (above : List PathStep) (x : ℕ) (row : List PathStep) (case : Option ℕ) (others : Vec ℕ Global) → AreOthers t x case (Some others)
    → list_any (λ (y : ℕ). tells t above y row) others.items ≡ beside_reads t above x case row
unfolding other_reads
beside_of t above x row None others h = absurd h
beside_of t above x row (Some c) others h =
    ap (list_any (λ (y : ℕ). tells t above y row)) h ∙ any_kept (λ (y : ℕ). not (y == x) && is_in_case t c y) (λ (y : ℕ). tells t above y row) (numbers t.nodes)

map_append : {X Y : Type 0} (f : X → Y) (xs ys : List X) → map f (xs ++ ys) ≡ map f xs ++ map f ys
map_append f [] ys = refl
map_append f (x ∷ xs) ys = ap (λ l. f x ∷ l) (map_append f xs ys)

-- one row more was looked at
pub read_more : (t : SchemaTree) (rule : Rule) (row : List PathStep) (rest paths : List (List PathStep)) (before after : List (List PathStep × Value)) → paths ≡ candidates t rule row
    → after ≡ before ++ map present (filter (λ (path : List PathStep). reads t rule path row) paths)
    → after ++ map present (read_of t rule rest) ≡ before ++ map present (read_of t rule (row ∷ rest))
read_more t rule row rest paths before after is put =
    ap (λ l. l ++ map present (read_of t rule rest)) (put ∙ ap (λ l. before ++ map present (filter (λ (path : List PathStep). reads t rule path row) l)) is)
    ∙ append_assoc before (map present (read_at t rule row)) (map present (read_of t rule rest))
    ∙ ap (λ l. before ++ l) (sym (map_append present (read_at t rule row) (read_of t rule rest)))
