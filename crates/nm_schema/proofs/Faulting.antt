-- Modules give a tree where nothing is wrong with them, and there alone.
use Rattle.std.proofs.Common.{◌≡◌, ◌↔◌, ◌∙◌, List, Option, Some, None, Result, Ok, Err, OnOk, refl, sym, ap, subst}
use Rattle.nm_yang.specs.Tree.{Tree}
use Rattle.nm_schema_statements.specs.declared.row.Row.{Row}
use Rattle.nm_schema_statements.specs.Rows.{rows_of}
use Rattle.nm_schema_tree.specs.Nodes.{SchemaTree}
use Rattle.nm_schema_faults.specs.declared.fault.Fault.{Fault}
use Rattle.nm_schema_faults.specs.declared.fault.Fault.TheVariants as fault
use Rattle.nm_schema_faults.specs.Facts.{Facts, AreFacts}
use Rattle.nm_schema_faults.proofs.Single.{one_truth}
use Rattle.nm_schema_faults.specs.Fault.{first_fault}
use Rattle.nm_schema.specs.declared.fault.SchemaFault.{SchemaFault}
use Rattle.nm_schema.specs.declared.fault.SchemaFault.TheVariants as schema
use Rattle.nm_schema.specs.FactsOf.{facts_in}
use Rattle.nm_schema.specs.Faultless.{AreFaultless, HaveNoFault}
use Rattle.nm_schema.specs.Built.{tree_of, outcome, built, built_of, AreBuilt, Builds, HaveTree, Gives, Answered, IsRefusal}
use Rattle.nm_schema.proofs.Faultless.{no_fault}
use Rattle.nm_schema.proofs.Known.{rows_laws, faultless}
use Rattle.nm_schema.proofs.FactsAre.{facts_are}
use Rattle.nm_schema.proofs.Single.{one_given}

-- what a fault says is no tree
none_found : (rows : List Row) (facts : Facts) (t : SchemaTree) (f : Option Fault) → first_fault rows facts ≡ f → Ok t ≡ outcome rows facts f → first_fault rows facts ≡ None
none_found rows facts t None is e = is
none_found rows facts t (Some f) is e = absurd (cc)

-- what is so in the rows of modules is what the function says
given_facts : (modules : List Tree) (facts : Facts) → AreFacts (rows_of modules) facts → facts ≡ facts_in (rows_of modules)
given_facts modules facts are = one_truth (rows_of modules) facts (facts_in (rows_of modules)) are (facts_are (rows_of modules) (rows_laws modules))

tree_faultless : (modules : List Tree) (t : SchemaTree) → Builds modules (Ok t) → HaveNoFault modules
unfolding built
tree_faultless modules t b =
    let rows = rows_of modules in
    let all = faultless modules b.facts (none_found rows b.facts t (first_fault rows b.facts) refl b.given_is) in
    subst (λ (f : Facts). AreFaultless rows f) (given_facts modules b.facts b.facts_are) all

faultless_tree : (modules : List Tree) → HaveNoFault modules → HaveTree modules
unfolding built
faultless_tree modules all =
    let rows = rows_of modules in
    let facts = facts_in rows in
    (tree_of rows facts, record { facts = facts; facts_are = facts_are rows (rows_laws modules); given_is = sym (ap (outcome rows facts) (no_fault rows facts all)) })

-- what modules give is what the function makes of them
pub builds_given : (modules : List Tree) (given : Result SchemaTree Fault) → Builds modules given ↔ (given ≡ built_of modules)
unfolding built_of
builds_given modules given = (
  λ b. b.given_is ∙ ap (built (rows_of modules)) (given_facts modules b.facts b.facts_are),
  λ e. record { facts = facts_in (rows_of modules); facts_are = facts_are (rows_of modules) (rows_laws modules); given_is = e },
)

answered_given : (modules : List Tree) (rows : List Row) (given : Result SchemaTree Fault) → rows ≡ rows_of modules → AreBuilt rows given → built_of modules ≡ given
answered_given modules rows given is a = sym ((builds_given modules given).0 (subst (λ (r : List Row). AreBuilt r given) is a))

pub answer_built : (modules : List Tree) (rows : List Row) (answer : Result SchemaTree SchemaFault) → rows ≡ rows_of modules → Answered rows answer → Gives answer (built_of modules)
answer_built modules rows (Ok t) is a = answered_given modules rows (Ok t) is a
answer_built modules rows (Err (schema.Flawed f m place)) is a = answered_given modules rows (Err (fault.Flawed f m place)) is a
answer_built modules rows (Err (schema.TooLarge m place)) is a = answered_given modules rows (Err (fault.TooLarge m place)) is a
answer_built modules rows (Err schema.NoMemory) is a = tt

-- faultless modules give a tree, and modules that give one are faultless
pub modules_faultless : (modules : List Tree) → HaveNoFault modules ↔ HaveTree modules
modules_faultless modules = (faultless_tree modules, λ h. tree_faultless modules h.0 h.1)

-- modules that give a tree as an answer are faultless
pub answer_faultless : (modules : List Tree) (rows : List Row) (answer : Result SchemaTree SchemaFault) → rows ≡ rows_of modules → Answered rows answer → OnOk answer (HaveNoFault modules)
answer_faultless modules rows (Ok t) is a = tree_faultless modules t (subst (λ (r : List Row). AreBuilt r (Ok t)) is a)
answer_faultless modules rows (Err f) is a = tt

not_both : (modules : List Tree) (f : Fault) → Builds modules (Err f) → HaveNoFault modules → ⊥
not_both modules f b h =
    let t = faultless_tree modules h in
    let no = one_given modules (Ok t.0) (Err f) t.1 b in
    absurd (cc)

-- modules that are refused aren't
pub answer_refused : (modules : List Tree) (rows : List Row) (answer : Result SchemaTree SchemaFault) → rows ≡ rows_of modules → Answered rows answer → IsRefusal answer → ¬ (HaveNoFault modules)
answer_refused modules rows (Ok t) is a r = absurd r
answer_refused modules rows (Err (schema.Flawed f m place)) is a r = λ h. not_both modules (fault.Flawed f m place) (subst (λ (x : List Row). AreBuilt x (Err (fault.Flawed f m place))) is a) h
answer_refused modules rows (Err (schema.TooLarge m place)) is a r = λ h. not_both modules (fault.TooLarge m place) (subst (λ (x : List Row). AreBuilt x (Err (fault.TooLarge m place))) is a) h
answer_refused modules rows (Err schema.NoMemory) is a r = absurd r
