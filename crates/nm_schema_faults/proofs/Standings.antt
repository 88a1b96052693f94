-- What holds by how rows are used.
use Rattle.std.proofs.Common.{◌≡◌, ℕ, List, Option, sym, subst}
use Rattle.nm_schema_statements.specs.declared.row.Row.{Row}
use Rattle.nm_schema_uses.specs.Outline.{Outline, outline}
use Rattle.nm_schema_uses.specs.Config.{Marks, IsConfiguration, IsInState}
use Rattle.nm_schema_keys.specs.ConfigUse.{ConfigUse, IsConfigUse}
use Rattle.nm_schema_faults.specs.Facts.{Facts, AreFacts, definitions, is_marked, standing}

-- the marks tell how rows are used
pub marks-standing : (rows : List Row) (groupings : List (Option ℕ)) (facts : Facts) → Marks (IsConfiguration rows groupings) facts.configured → Marks (IsInState rows groupings) facts.in_state → IsConfigUse rows groupings (standing facts)
unfolding is_marked
marks-standing rows groupings facts configured in_state = record { configured = λ i. configured i; in_state = λ i. in_state i }

-- what holds by each standing of a shape holds by that of the facts
pub by_standing : (P : List Row → List (Option ℕ) → ConfigUse → Type 0) (rows : List Row) (groupings : List (Option ℕ)) (standing : ConfigUse) (shape : Outline)
    → shape ≡ outline rows groupings → IsConfigUse rows groupings standing → ((s : ConfigUse) → IsConfigUse shape.rows shape.groupings s → P shape.rows shape.groupings s) → P rows groupings standing
by_standing P rows groupings standing shape is stands given =
    subst (λ (o : Outline). P o.rows o.groupings standing) is (given standing (subst (λ (o : Outline). IsConfigUse o.rows o.groupings standing) (sym is) stands))

pub by_facts : (P : List Row → List (Option ℕ) → ConfigUse → Type 0) (rows : List Row) (facts : Facts) (shape : Outline)
    → shape ≡ outline rows (definitions rows) → AreFacts rows facts → ((s : ConfigUse) → IsConfigUse shape.rows shape.groupings s → P shape.rows shape.groupings s) → P rows (definitions rows) (standing facts)
by_facts P rows facts shape is so given =
    by_standing P rows (definitions rows) (standing facts) shape is (marks-standing rows (definitions rows) facts so.configured so.in_state) given
