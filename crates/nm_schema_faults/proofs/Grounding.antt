-- What is known, put together.
use Rattle.std.proofs.Common.{◌≡◌, ◌∙◌, ℕ, List, length, Bool, false, Option, None, is_some, slice_index_or, ap, subst}
use Rattle.nm_schema_statements.specs.declared.row.Row.{Row}
use Rattle.nm_schema_uses.specs.Outline.{Outline, outline}
use Rattle.nm_schema_uses.specs.Config.{Marks, IsConfiguration, IsInState}
use Rattle.nm_schema_typing.specs.Cycle.{Typings}
use Rattle.nm_schema_typing.specs.Flaws.{AreMeanings}
use Rattle.nm_schema_typing.specs.Listing.{AreJudgements}
use Rattle.nm_schema_typing.specs.declared.listing.Judgement.{Judgement}
use Rattle.nm_schema_typing.specs.Defaults.{joined, default_of}
use Rattle.nm_schema_keys.specs.ConfigUse.{ConfigUse, IsConfigUse}
use Rattle.nm_schema_keys.specs.Keys.{keys_of, IsKey}
use Rattle.nm_schema_keys.specs.Uniques.{unique_flaw}
use Rattle.nm_schema_nodes.specs.Expansion.{Expanded, expanded, IsExpansion}
use Rattle.nm_schema_leafref.specs.Known.{Known, AreLeafrefs}
use Rattle.nm_schema_faults.specs.Facts.{Facts, facts_of, IsCycle, definitions, standing, tree}
use Rattle.nm_schema_faults.specs.Grounded.{AreGrounds}
use Rattle.nm_schema_faults.proofs.Standings.{marks-standing, by_standing}

pub are_grounds : (rows : List Row) (named : List (Option ℕ)) (shape clashes : Outline) (expansion : Expanded) (types : Typings) (judgements : List Judgement) (texts : List (Option (Option (List ℕ)))) (known : Known) (keys : List (Option (List ℕ))) (cycle : Option ℕ) (configured in_state is_key flawed : List Bool)
    → named ≡ definitions rows → shape ≡ outline rows named → clashes ≡ outline rows named → expansion.rows ≡ rows → expansion.groupings ≡ named
    → AreMeanings rows named types.meanings → AreJudgements rows named judgements → ((i : ℕ) → joined (slice_index_or texts i None) ≡ default_of rows named i) → AreLeafrefs named expansion known
    → ((s : ConfigUse) → IsConfigUse shape.rows shape.groupings s → (i : ℕ) → slice_index_or keys i None ≡ keys_of shape.rows shape.groupings s i)
    → ((s : ConfigUse) → IsConfigUse shape.rows shape.groupings s → Marks (IsKey shape.rows shape.groupings s) is_key)
    → ((s : ConfigUse) → IsConfigUse shape.rows shape.groupings s → (i : ℕ) → slice_index_or flawed i false ≡ is_some (unique_flaw shape.rows shape.groupings s i))
    → Marks (IsConfiguration shape.rows shape.groupings) configured → Marks (IsInState shape.rows shape.groupings) in_state
    → IsCycle rows cycle → IsExpansion expansion.rows expansion.groupings expansion.nodes
    → length configured ≡ length shape.rows → length in_state ≡ length shape.rows → length is_key ≡ length shape.rows → length known.faults ≡ length expansion.rows
    → AreGrounds rows (facts_of cycle configured in_state is_key expansion.nodes known.faults) named shape clashes expansion types judgements texts known keys flawed
are_grounds rows named shape clashes expansion types judgements texts known keys cycle configured in_state is_key flawed named_is shape_by clashes_by rows_is groupings_is meanings judged texts_are leafrefs keys_are marks flaws config state cycle_is nodes configured_size state_size key_size faults_size =
    let facts : Facts = facts_of cycle configured in_state is_key expansion.nodes known.faults in
    let defs : List (Option ℕ) = definitions rows in
    let shape_is : shape ≡ outline rows defs = subst (λ (n : List (Option ℕ)). shape ≡ outline rows n) named_is shape_by in
    let tree_is : expansion ≡ tree rows facts =
    ap (λ (r : List Row). expanded r expansion.groupings expansion.nodes) rows_is ∙ ap (λ (g : List (Option ℕ)). expanded rows g expansion.nodes) (groupings_is ∙ named_is) in
    let config_is : Marks (IsConfiguration rows defs) configured = subst (λ (o : Outline). Marks (IsConfiguration o.rows o.groupings) configured) shape_is config in
    let state_is : Marks (IsInState rows defs) in_state = subst (λ (o : Outline). Marks (IsInState o.rows o.groupings) in_state) shape_is state in
    let stands : IsConfigUse rows defs (standing facts) = marks-standing rows defs facts config_is state_is in
    let leafrefs_are : AreLeafrefs defs (tree rows facts) known =
    subst (λ (t : Expanded). AreLeafrefs defs t known) tree_is (subst (λ (n : List (Option ℕ)). AreLeafrefs n expansion known) named_is leafrefs) in
    let shape_rows : length shape.rows ≡ length rows = ap (λ (o : Outline). length o.rows) shape_is in
    record {
      named_are = named_is;
      shape_is = shape_is;
      clashes_are = subst (λ (n : List (Option ℕ)). clashes ≡ outline rows n) named_is clashes_by;
      tree_is = tree_is;
      meanings = subst (λ (n : List (Option ℕ)). AreMeanings rows n types.meanings) named_is meanings;
      judgements_are = subst (λ (n : List (Option ℕ)). AreJudgements rows n judgements) named_is judged;
      defaults = λ i. texts_are i ∙ ap (λ (n : List (Option ℕ)). default_of rows n i) named_is;
      leafrefs = leafrefs_are;
      keys_are = by_standing (λ r g s. (i : ℕ) → slice_index_or keys i None ≡ keys_of r g s i) rows defs (standing facts) shape shape_is stands keys_are;
      flawed_are = by_standing (λ r g s. (i : ℕ) → slice_index_or flawed i false ≡ is_some (unique_flaw r g s i)) rows defs (standing facts) shape shape_is stands flaws;
      facts_are = record {
        cycle = cycle_is;
        configured = config_is;
        configured_size = configured_size ∙ shape_rows;
        in_state = state_is;
        in_state_size = state_size ∙ shape_rows;
        keys = by_standing (λ r g s. Marks (IsKey r g s) is_key) rows defs (standing facts) shape shape_is stands marks;
        keys_size = key_size ∙ shape_rows;
        nodes = subst (λ (t : Expanded). IsExpansion t.rows t.groupings t.nodes) tree_is nodes;
        paths = leafrefs_are.fault;
        paths_size = faults_size ∙ ap length rows_is;
      };
    }
