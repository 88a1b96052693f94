-- The modules of a head that is said.
use Rattle.std.proofs.Common.{◌≡◌, ◌≤◌, List, length, Bool, true, false, codes, subst}
use Rattle.serde_json.specs.Data.{Data}
use Rattle.serde_json.specs.Find.{get}
use Rattle.nm_scenario_form.specs.Words.{item_count}
use Rattle.nm_scenario_form.specs.Form.{object, leaf, chosen}
use Rattle.nm_scenario_form.specs.Says.{Says}
use Rattle.nm_scenario.specs.declared.head.Head.TheVariants.{Flat, Yang}
use Rattle.nm_scenario.specs.declared.head.ReadModule.{ReadModule}
use Rattle.nm_scenario.specs.Counts.{count_in}
use Rattle.nm_scenario.specs.Head.{has_word, any_name, module_said, module_limit, modules_form, plain_parts, flat_parts, yang_parts, head_form}
use Rattle.nm_scenario_laws.proofs.Lists.{ListKeeps, list_keeps, optional_list}

-- modules that were read
abbrev AreRead : Data → List ReadModule → Type 0
AreRead whole modules = ListKeeps (λ m. Unit {0}) 0 module_limit (count_in (codes "modules") whole) modules

modules_are : (part : Data) (modules : List ReadModule) → Says modules_form part modules → ListKeeps (λ m. Unit {0}) 0 module_limit (item_count part) modules
unfolding modules_form
modules_are part modules says = list_keeps (λ m. Unit {0}) 0 module_limit (λ n. leaf module_said) (λ n child x said. tt) part modules says

yang_is : (whole : Data) (modules : List ReadModule) → Says (object any_name yang_parts (λ version contents modules. Yang modules)) whole (Yang modules)
    → AreRead whole modules
unfolding Says
yang_is whole modules says =
    let parts = says.parts in
    let found : AreRead whole parts.2.2.0 =
    optional_list (λ m. Unit {0}) module_limit (λ part b. Says modules_form part b) modules_are (get (codes "modules") whole) parts.2.2.0 parts.2.2.1 in
    let made : Yang parts.2.2.0 ≡ Yang modules = parts.2.2.2 in
    let same : parts.2.2.0 ≡ modules = cc in
    subst (AreRead whole) same found

flat_none : (whole : Data) (modules : List ReadModule) → Says (object any_name flat_parts (λ version contents modules. Flat)) whole (Yang modules) → ⊥
unfolding Says
flat_none whole modules says = let made : Flat ≡ Yang modules = says.parts.2.2.2 in cc

plain_none : (whole : Data) (modules : List ReadModule) → Says (object any_name plain_parts (λ version contents. Flat)) whole (Yang modules) → ⊥
unfolding Says
plain_none whole modules says = let made : Flat ≡ Yang modules = says.parts.2.2 in cc

by_contents : (whole : Data) (modules : List ReadModule) (yang flat : Bool)
    → Says (chosen yang (object any_name yang_parts (λ version contents modules. Yang modules))
    (chosen flat (object any_name flat_parts (λ version contents modules. Flat)) (object any_name plain_parts (λ version contents. Flat)))) whole (Yang modules)
    → AreRead whole modules
by_contents whole modules true flat says = yang_is whole modules says
by_contents whole modules false true says = absurd (flat_none whole modules says)
by_contents whole modules false false says = absurd (plain_none whole modules says)

pub modules_read : (whole : Data) (modules : List ReadModule) → Says head_form whole (Yang modules) → AreRead whole modules
unfolding Says head_form
modules_read whole modules says =
    by_contents whole modules (has_word (codes "contents") (codes "yang") whole) (has_word (codes "contents") (codes "flat") whole) says

pub few_modules : (whole : Data) (modules : List ReadModule) → Says head_form whole (Yang modules) → length modules ≤ module_limit
few_modules whole modules says = let are : AreRead whole modules = modules_read whole modules says in are.most

-- as many as stand there
pub count_modules : (whole : Data) (modules : List ReadModule) → Says head_form whole (Yang modules) → length modules ≡ count_in (codes "modules") whole
count_modules whole modules says = let are : AreRead whole modules = modules_read whole modules says in are.count_is
