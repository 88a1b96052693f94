-- Loops over elements of which some are left.
use Rattle.std.proofs.Common.{◌≡◌, ◌∙◌, ℕ, List, [], ◌∷◌, ◌++◌, length, map, ◌==◌, Bor, Bool, false, cond, Option, Some, None, refl, sym, ap, subst, append_assoc}
use Rattle.std.specs.Option.{option_map, option_or}
use Rattle.std.specs.List.{find}
use Rattle.nm_graph.specs.Value.{all_there}
use Rattle.nm_schema_uses.specs.Outline.{Outline}
use Rattle.nm_schema_statements.specs.declared.flaw.Flaw.{Flaw}
use Rattle.nm_schema_statements.specs.declared.flaw.Flaw.TheVariants as flaw
use Rattle.nm_schema_keys.specs.declared.found.Found.{Found}
use Rattle.nm_schema_keys.specs.Keys.{row_found, word_flaw, words_flaw, leafs_named}
use Rattle.nm_schema_keys.specs.ConfigUse.{ConfigUse, IsConfigUse}
use Rattle.nm_schema_keys.specs.Uniques.{leads_nowhere, way_of, unique_words_flaw, unique_at}
use Rattle.nm_schema_keys.proofs.Ways.{in_front}

in_front_more : {Y : Type 0} (front : List Y) (y : Y) (o : Option (List Y)) → in_front (front ++ y ∷ []) o ≡ in_front front (option_map (λ others. y ∷ others) o)
in_front_more front y None = refl
in_front_more front y (Some ys) = ap (λ l. Some l) (append_assoc front (y ∷ []) ys)

-- a value more goes to the front
pub front_step : {X Y : Type 0} (f : X → Option Y) (x : X) (rest : List X) (front : List Y) (y : Y) → Some y ≡ f x → in_front (front ++ y ∷ []) (all_there (map f rest)) ≡ in_front front (all_there (map f (x ∷ rest)))
front_step f x rest front y is = in_front_more front y (all_there (map f rest)) ∙ ap (λ o. in_front front (all_there (o ∷ map f rest))) is

-- a value that isn't there is missing in all
pub front_none : {X Y : Type 0} (f : X → Option Y) (x : X) (rest : List X) (front : List Y) → f x ≡ None → None ≡ in_front front (all_there (map f (x ∷ rest)))
front_none f x rest front none = sym (ap (λ o. in_front front (all_there (o ∷ map f rest))) none)

-- an element more isn't what is looked for
pub find_step : {X : Type 0} (p : X → Bool) (x : X) (rest : List X) → p x ≡ false → find p rest ≡ find p (x ∷ rest)
find_step p x rest is = sym (ap (λ b. cond b (Some x) (find p rest)) is)

-- what is told of the same rows
pub leads_told : (o n : Outline) (loses : Bool) (owner list : ℕ) (word : List ℕ) (b : Bool) → o ≡ n → b ≡ leads_nowhere o.rows o.groupings loses owner list word → b ≡ false → leads_nowhere n.rows n.groupings loses owner list word ≡ false
leads_told o n loses owner list word b same told is = ap (λ (p : Outline). leads_nowhere p.rows p.groupings loses owner list word) (sym same) ∙ sym told ∙ is

pub way_told : (o n : Outline) (loses : Bool) (owner list : ℕ) (word : List ℕ) (f : Option (List ℕ)) (way : List ℕ) → o ≡ n → f ≡ way_of o.rows o.groupings loses owner list word → f ≡ Some way → Some way ≡ way_of n.rows n.groupings loses owner list word
way_told o n loses owner list word f way same told is = sym is ∙ told ∙ ap (λ (p : Outline). way_of p.rows p.groupings loses owner list word) same

pub no_way_told : (o n : Outline) (loses : Bool) (owner list : ℕ) (word : List ℕ) (f : Option (List ℕ)) → o ≡ n → f ≡ way_of o.rows o.groupings loses owner list word → f ≡ None → way_of n.rows n.groupings loses owner list word ≡ None
no_way_told o n loses owner list word f same told none = ap (λ (p : Outline). way_of p.rows p.groupings loses owner list word) (sym same) ∙ sym told ∙ none

pub unique_told : (o n : Outline) (at : ℕ) (f : Option (List (List ℕ))) (unique : List (List ℕ)) → o ≡ n → ((standing : ConfigUse) → IsConfigUse o.rows o.groupings standing → f ≡ unique_at o.rows o.groupings standing at) → f ≡ Some unique
    → (standing : ConfigUse) → IsConfigUse n.rows n.groupings standing → Some unique ≡ unique_at n.rows n.groupings standing at
unique_told o n at f unique same told is = λ standing used. sym is ∙ subst (λ (p : Outline). (standing : ConfigUse) → IsConfigUse p.rows p.groupings standing → f ≡ unique_at p.rows p.groupings standing at) same told standing used

-- a word of a key more, which has no flaw
pub key_step : (leaf : List ℕ → Found) (taken after text : List ℕ) (rest : List (List ℕ)) (found : Found) (f : Option Flaw) → found ≡ leaf text → f ≡ word_flaw taken text found → f ≡ None → after ≡ taken ++ row_found found
    → words_flaw leaf after rest ≡ words_flaw leaf taken (text ∷ rest)
key_step leaf taken after text rest found f is told nothing pushed =
    let none : word_flaw taken text (leaf text) ≡ None = ap (λ g. word_flaw taken text g) (sym is) ∙ sym told ∙ nothing in
    ap (λ l. words_flaw leaf l rest) (pushed ∙ ap (λ g. taken ++ row_found g) is)
    ∙ sym (ap (λ o. option_or o (words_flaw leaf (taken ++ row_found (leaf text)) rest)) none)

pub leafs_step : (leaf : List ℕ → Found) (taken after text : List ℕ) (rest : List (List ℕ)) (found : Found) → found ≡ leaf text → after ≡ taken ++ row_found found
    → after ++ leafs_named leaf rest ≡ taken ++ leafs_named leaf (text ∷ rest)
leafs_step leaf taken after text rest found is pushed =
    ap (λ l. l ++ leafs_named leaf rest) (pushed ∙ ap (λ g. taken ++ row_found g) is)
    ∙ append_assoc taken (row_found (leaf text)) (leafs_named leaf rest)

-- what is wrong with some words, by the first that leads to nothing
pub first_flaw : (astray : List ℕ → Bool) (words : List (Bor (List ℕ))) (first found : Option (List ℕ)) → (length words == 0) ≡ false → first ≡ find astray (map (λ (t : Bor (List ℕ)). t.now) words) → first ≡ found
    → option_map flaw.BadReference found ≡ unique_words_flaw astray (map (λ (t : Bor (List ℕ)). t.now) words)
first_flaw astray [] first found some told is = cc
first_flaw astray (word ∷ words) first found some told is = ap (λ (o : Option (List ℕ)). option_map flaw.BadReference o) (sym is ∙ told)

pub no_unique_told : (o n : Outline) (at : ℕ) (f : Option (List (List ℕ))) → o ≡ n → ((standing : ConfigUse) → IsConfigUse o.rows o.groupings standing → f ≡ unique_at o.rows o.groupings standing at) → f ≡ None
    → (standing : ConfigUse) → IsConfigUse n.rows n.groupings standing → unique_at n.rows n.groupings standing at ≡ None
no_unique_told o n at f same told none = λ standing used.
    sym (subst (λ (p : Outline). (standing : ConfigUse) → IsConfigUse p.rows p.groupings standing → f ≡ unique_at p.rows p.groupings standing at) same told standing used) ∙ none
