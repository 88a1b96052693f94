-- What is read of texts that differ in the order of members.
use Rattle.std.proofs.Common.{◌≡◌, ℕ, ◌≤◌, List, length, true, false, cond, Option, Some, None, option_map, option_and_then, Result, Ok, Err, Ordering, Less, Equal, Greater, refl, ap, sym, subst, ◌∙◌, arith}
use Rattle.std.specs.Prelude.{nat_lt}
use Rattle.std.specs.Str.{is_utf8}
use Rattle.std.specs.Ordering.{nat_cmp, ordering_reverse, is_eq}
use Rattle.std.specs.Cmp.Lexicographic.{slice_cmp}
use Rattle.std.proofs.lemmas.Bool.Decides.{nat_tests}
use Rattle.std.proofs.lemmas.Cmp.{nat_list_cmp_total, tied_itself}
use Rattle.std.proofs.lemmas.Map.Text.{is_eq-slice_cmp}
use Rattle.std.proofs.lemmas.Slice.Eq.{bytes_eq-Decides}
use Rattle.json.specs.Json as json
use Rattle.serde_json.specs.Data.{Data, array, object, Items, item, Members, no_members, member, put}
use Rattle.serde_json.specs.Read.{of_json, of_items, of_members, read}
use Rattle.nm_proto.specs.declared.kind.ScenarioKind.TheVariants as kind
use Rattle.nm_scenario_form.specs.declared.fault.Fault.{Fault}
use Rattle.nm_scenario_form.specs.Reading.{plain}
use Rattle.nm_scenario_form.specs.Order.{IsFirst}
use Rattle.nm_scenario.specs.declared.scenario.Scenario.{Scenario}
use Rattle.nm_scenario.specs.Scenario.{byte_limit, json_of, parsed, whole_of, SaysValue, WrongValue, ReadsBytes}
use Rattle.nm_scenario_laws.specs.Order.{spelled, Reordered, ReorderedItems, ReorderedMembers, same, in_array, in_object, no_more, another, as_before, neighbours, within, further, Spells}

-- ---- two members of different names are put in either order

equal_names : (k l : List ℕ) → slice_cmp nat_cmp k l ≡ Equal → k ≡ l
equal_names k l e = (bytes_eq-Decides k l).0 (sym (is_eq-slice_cmp k l) ∙ ap is_eq e)

turned : (k l : List ℕ) (o : Ordering) → slice_cmp nat_cmp k l ≡ o → slice_cmp nat_cmp l k ≡ ordering_reverse o
turned k l o e = nat_list_cmp_total.antisymm l k ∙ ap ordering_reverse e

same_name : (k : List ℕ) → slice_cmp nat_cmp k k ≡ Equal
same_name k = tied_itself nat_list_cmp_total k

swap_none : (k l : List ℕ) (d e : Data) (c : Ordering) → slice_cmp nat_cmp k l ≡ c → (k ≡ l → ⊥) → put l e (put k d no_members) ≡ put k d (put l e no_members)
swap_none k l d e Less c apart = rw (c, turned k l Less c)
swap_none k l d e Equal c apart = absurd (apart (equal_names k l c))
swap_none k l d e Greater c apart = rw (c, turned k l Greater c)

swap_at : (k l m : List ℕ) (d e f : Data) (ms : Members) (a b c : Ordering) → slice_cmp nat_cmp k m ≡ a → slice_cmp nat_cmp l m ≡ b → slice_cmp nat_cmp k l ≡ c → (k ≡ l → ⊥) → put l e (put k d ms) ≡ put k d (put l e ms)
    → put l e (put k d (member m f ms)) ≡ put k d (put l e (member m f ms))
swap_at k l m d e f ms Less Less Less a b c apart later = simp (a, b, c, turned k l Less c)
swap_at k l m d e f ms Less Less Equal a b c apart later = absurd (apart (equal_names k l c))
swap_at k l m d e f ms Less Less Greater a b c apart later = simp (a, b, c, turned k l Greater c)
swap_at k l m d e f ms Less Equal o a b c apart later =
    let below : slice_cmp nat_cmp k l ≡ Less = ap (slice_cmp nat_cmp k) (equal_names l m b) ∙ a in simp (a, b, turned k l Less below)
swap_at k l m d e f ms Less Greater o a b c apart later =
    let below : slice_cmp nat_cmp k l ≡ Less = nat_list_cmp_total.trans k m l a (turned l m Greater b) in simp (a, b, turned k l Less below)
swap_at k l m d e f ms Equal Less o a b c apart later =
    let below : slice_cmp nat_cmp l k ≡ Less = ap (slice_cmp nat_cmp l) (equal_names k m a) ∙ b in simp (a, b, turned l k Less below)
swap_at k l m d e f ms Equal Equal o a b c apart later = absurd (apart (equal_names k m a ∙ sym (equal_names l m b)))
swap_at k l m d e f ms Equal Greater o a b c apart later = simp (a, b)
swap_at k l m d e f ms Greater Less o a b c apart later =
    let below : slice_cmp nat_cmp l k ≡ Less = nat_list_cmp_total.trans l m k b (turned k m Greater a) in simp (a, b, turned l k Less below)
swap_at k l m d e f ms Greater Equal o a b c apart later = simp (a, b)
swap_at k l m d e f ms Greater Greater o a b c apart later = simp (a, b) (ap (member m f) later)

put_swap : (k l : List ℕ) (d e : Data) (ms : Members) → (k ≡ l → ⊥) → put l e (put k d ms) ≡ put k d (put l e ms)
put_swap k l d e no_members apart = swap_none k l d e (slice_cmp nat_cmp k l) refl apart
put_swap k l d e (member m f ms) apart = swap_at k l m d e f ms (slice_cmp nat_cmp k m) (slice_cmp nat_cmp l m) (slice_cmp nat_cmp k l) refl refl refl apart (put_swap k l d e ms apart)

-- ---- values

swapped : (name other : List ℕ) (rest : json.Members) (first second : Option Data) (found : Members) → (name ≡ other → ⊥)
    → option_and_then (λ d. option_and_then (λ e. of_members rest (put other e (put name d found))) second) first ≡ option_and_then (λ e. option_and_then (λ d. of_members rest (put name d (put other e found))) first) second
swapped name other rest None None found apart = refl
swapped name other rest None (Some e) found apart = refl
swapped name other rest (Some d) None found apart = refl
swapped name other rest (Some d) (Some e) found apart = ap (of_members rest) (put_swap name other d e found apart)

item_read : (first second : Option Data) (rest others : Option Items) → first ≡ second → rest ≡ others → option_and_then (λ d. option_map (item d) rest) first ≡ option_and_then (λ d. option_map (item d) others) second
item_read first second rest others e f = ap (λ o. option_and_then (λ d. option_map (item d) rest) o) e ∙ ap (λ o. option_and_then (λ d. option_map (item d) o) second) f

member_read : (name : List ℕ) (rest others : json.Members) (first second : Option Data) (found : Members) → first ≡ second → ((more : Members) → of_members rest more ≡ of_members others more)
    → option_and_then (λ d. of_members rest (put name d found)) first ≡ option_and_then (λ d. of_members others (put name d found)) second
member_read name rest others None second found e f = ap (option_and_then (λ d. of_members others (put name d found))) e
member_read name rest others (Some d) second found e f = f (put name d found) ∙ ap (option_and_then (λ x. of_members others (put name x found))) e

mutual
  value_same : {value other : json.Json} → Reordered value other → of_json value ≡ of_json other
  value_same same = refl
  value_same (in_array r) = ap (option_map array) (items_same r)
  value_same (in_object r) = ap (option_map object) (members_same r no_members)

  items_same : {values others : json.Items} → ReorderedItems values others → of_items values ≡ of_items others
  items_same no_more = refl
  items_same (another {value = value} {other = other} {values = values} {others = others} r rs) = item_read (of_json value) (of_json other) (of_items values) (of_items others) (value_same r) (items_same rs)

  members_same : {members others : json.Members} → ReorderedMembers members others → (found : Members) → of_members members found ≡ of_members others found
  members_same as_before found = refl
  members_same (neighbours {name = name} {other = other} {value = value} {another = second} {rest = rest} apart) found = swapped name other rest (of_json value) (of_json second) found apart
  members_same (within {name = name} {value = value} {other = other} {rest = rest} {others = others} r rs) found =
      member_read name rest others (of_json value) (of_json other) found (value_same r) (λ more. members_same rs more)
  members_same (further between r s) found = members_same r found ∙ members_same s found

-- texts that differ in the order of members are read as one value
pub read_same : (one other : List ℕ) (value second : json.Json) → spelled one ≡ Some value → spelled other ≡ Some second → Reordered value second → read one ≡ read other
read_same one other value second e f r = ap (option_and_then of_json) e ∙ (value_same r ∙ sym (ap (option_and_then of_json) f))

-- ---- scenarios

json_of_is : (bytes : List ℕ) → is_utf8 bytes ≡ true → json_of bytes ≡ read bytes
json_of_is bytes utf8 = ap (λ b. cond b (read bytes) None) utf8

short : (bytes : List ℕ) → length bytes ≤ byte_limit → nat_lt byte_limit (length bytes) ≡ false
short bytes fits = grind (arith, nat_tests)

whole_is : (bytes : List ℕ) → is_utf8 bytes ≡ true → length bytes ≤ byte_limit → whole_of bytes ≡ parsed (read bytes)
unfolding whole_of
whole_is bytes utf8 fits = ap (λ b. cond b (Err (plain kind.TooLong)) (parsed (json_of bytes))) (short bytes fits) ∙ ap parsed (json_of_is bytes utf8)

whole_same : (one other : List ℕ) (value second : json.Json) → Spells one value → Spells other second → Reordered value second → whole_of one ≡ whole_of other
whole_same one other value second s t r = whole_is one s.utf8 s.within ∙ (ap parsed (read_same one other value second s.is t.is r) ∙ sym (whole_is other t.utf8 t.within))

pub outcome_same : (one other : List ℕ) (value second : json.Json) → Spells one value → Spells other second → Reordered value second
    → (outcome : Result Scenario Fault) → ReadsBytes one outcome → ReadsBytes other outcome
outcome_same one other value second s t r (Ok scenario) says = subst (λ found. SaysValue found scenario) (whole_same one other value second s t r) says
outcome_same one other value second s t r (Err fault) first = subst (λ found. IsFirst (WrongValue found) fault) (whole_same one other value second s t r) first
