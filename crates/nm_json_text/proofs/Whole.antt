-- The text of the whole.
use Rattle.std.proofs.Common.{◌≡◌, ℕ, List, [], ◌∷◌, ◌++◌, fold, refl, ap, ◌∙◌}
use Rattle.std.specs.FinMap.{entries, empty}
use Rattle.json.specs.Print.{print}
use Rattle.json.specs.Token.{Token, begin_object}
use Rattle.json.specs.Tree.{members_tokens}
use Rattle.serde_json.proofs.Texts.{print-outline}
use Rattle.serde_json.specs.Data.{object, Members, no_members}
use Rattle.serde_json.specs.Written.{members_outline, compact_text}
use Rattle.nm_schema_tree.specs.Nodes.{SchemaTree}
use Rattle.nm_path.specs.declared.place.Place.TheVariants.{Top}
use Rattle.nm_types.specs.PathLaws.{paths_total, path_cmp-IsAntisymmetric}
use Rattle.nm_config.specs.Rows.{Rows, with_entries}
use Rattle.nm_config.proofs.Maps.{with_own_entries}
use Rattle.nm_json.specs.Writing.{put_row, config_data}
use Rattle.nm_json_text.specs.Passing.{Rest, rests, members_of}

put_rows : (t : SchemaTree) (rows : List Rest) (ms : Members) → members_of t Top ms (rests 0 rows) ≡ fold (put_row t) ms rows
unfolding put_row
put_rows t [] ms = refl
put_rows t (r ∷ rows) ms = put_rows t rows (put_row t ms r)

pub whole_text : (t : SchemaTree) (rows : List Rest) (text : List ℕ) (none begun all : List Token) → none ≡ [] → begun ≡ none ++ begin_object ∷ []
    → all ≡ begun ++ members_tokens (members_outline (members_of t Top no_members (rests 0 rows))) → text ≡ print all → text ≡ compact_text (object (fold (put_row t) no_members rows))
whole_text t rows text none begun all e b a is =
    let ms = members_of t Top no_members (rests 0 rows) in
    is ∙ ap print (a ∙ ap (λ ts. ts ++ members_tokens (members_outline ms)) (b ∙ ap (λ ts. ts ++ begin_object ∷ []) e)) ∙ print-outline (object ms)
    ∙ ap (λ ns. compact_text (object ns)) (put_rows t rows no_members)

-- the text of rows in path order, as it is said of all rows
pub listed_text : (t : SchemaTree) (rows : Rows) (listed : List Rest) (text : List ℕ) → listed ≡ entries rows → text ≡ compact_text (object (fold (put_row t) no_members listed)) → text ≡ compact_text (config_data t rows)
unfolding config_data
listed_text t rows listed text all is = is ∙ ap (λ rs. compact_text (object (fold (put_row t) no_members rs))) all

-- rows by themselves are the rows that were listed
pub again_text : (t : SchemaTree) (rows : Rows) (listed : List Rest) → listed ≡ entries rows → compact_text (config_data t (with_entries empty listed)) ≡ compact_text (config_data t rows)
again_text t rows listed all = ap (λ ms. compact_text (config_data t ms)) (ap (with_entries empty) all ∙ with_own_entries paths_total path_cmp-IsAntisymmetric rows)
