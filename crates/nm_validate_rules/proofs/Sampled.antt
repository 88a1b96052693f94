-- What is told of the sample's configurations.
use Rattle.std.proofs.Common.{◌≡◌, [], codes, Some, None, refl}
use Rattle.std.specs.FinMap.{entries, get-entries, from_sorted, entries-from_sorted}
use Rattle.std.specs.Str.{chars}
use Rattle.nm_base.specs.Numbers.{is_among}
use Rattle.nm_types.specs.Canonical.{canonical}
use Rattle.nm_types.specs.Reading.{spelled, are_characters}
use Rattle.nm_types.specs.Value.{value_cmp}
use Rattle.nm_types.specs.Path.{printed_cmp, path_cmp}
use Rattle.nm_schema_tree.specs.Nodes.{first_named, first_top}
use Rattle.nm_path.specs.Spelling.{node_of}
use Rattle.nm_config.specs.Rows.{Rows}
use Rattle.nm_config.specs.Under.{is_under}
use Rattle.nm_validate_rules.specs.declared.rule.Rule.TheVariants.{ValueType, Key, Mandatory, Leafref, Unique, MinElements, MaxElements, MandatoryChoice, OneCase}
use Rattle.nm_validate_rules.specs.Cases.{cases_over, case_of_choice, case_holds, has_other}
use Rattle.nm_validate_rules.specs.Places.{places, choice_places}
use Rattle.nm_validate_rules.specs.Violated.{is_of_type, has_node, children_of}
use Rattle.nm_validate_rules.specs.Violation.{least_at, violation}
use Rattle.nm_validate_rules.specs.Sample.{told_of, tells, sample_tree, in_addr, two_rows, listed_tree, uplink, iface, lost_rows, doubled_rows, guarded_tree, must, in_box, srv, bare_rows, few_rows, same_rows, valid_rows}

none-typed : (rows : Rows) → entries rows ≡ [] → least_at sample_tree rows ValueType ≡ None
unfolding least_at places choice_places has_node case_of_choice case_holds cases_over has_other children_of is_of_type canonical spelled are_characters chars value_cmp is_among is_under node_of first_named first_top sample_tree path_cmp printed_cmp
none-typed rows e = simp (get-entries, e)

none-keyed : (rows : Rows) → entries rows ≡ [] → least_at sample_tree rows Key ≡ None
unfolding least_at places choice_places has_node case_of_choice case_holds cases_over has_other children_of is_of_type canonical spelled are_characters chars value_cmp is_among is_under node_of first_named first_top sample_tree path_cmp printed_cmp
none-keyed rows e = simp (get-entries, e)

none-mandatory : (rows : Rows) → entries rows ≡ [] → least_at sample_tree rows Mandatory ≡ None
unfolding least_at places choice_places has_node case_of_choice case_holds cases_over has_other children_of is_of_type canonical spelled are_characters chars value_cmp is_among is_under node_of first_named first_top sample_tree path_cmp printed_cmp
none-mandatory rows e = simp (get-entries, e)

none-reached : (rows : Rows) → entries rows ≡ [] → least_at sample_tree rows Leafref ≡ None
unfolding least_at places choice_places has_node case_of_choice case_holds cases_over has_other children_of is_of_type canonical spelled are_characters chars value_cmp is_among is_under node_of first_named first_top sample_tree path_cmp printed_cmp
none-reached rows e = simp (get-entries, e)

none-unique : (rows : Rows) → entries rows ≡ [] → least_at sample_tree rows Unique ≡ None
unfolding least_at places choice_places has_node case_of_choice case_holds cases_over has_other children_of is_of_type canonical spelled are_characters chars value_cmp is_among is_under node_of first_named first_top sample_tree path_cmp printed_cmp
none-unique rows e = simp (get-entries, e)

none-enough : (rows : Rows) → entries rows ≡ [] → least_at sample_tree rows MinElements ≡ None
unfolding least_at places choice_places has_node case_of_choice case_holds cases_over has_other children_of is_of_type canonical spelled are_characters chars value_cmp is_among is_under node_of first_named first_top sample_tree path_cmp printed_cmp
none-enough rows e = simp (get-entries, e)

none-few_enough : (rows : Rows) → entries rows ≡ [] → least_at sample_tree rows MaxElements ≡ None
unfolding least_at places choice_places has_node case_of_choice case_holds cases_over has_other children_of is_of_type canonical spelled are_characters chars value_cmp is_among is_under node_of first_named first_top sample_tree path_cmp printed_cmp
none-few_enough rows e = simp (get-entries, e)

none-chosen : (rows : Rows) → entries rows ≡ [] → least_at sample_tree rows MandatoryChoice ≡ Some (in_addr (codes "how"))
unfolding least_at places choice_places has_node case_of_choice case_holds cases_over has_other children_of is_of_type canonical spelled are_characters chars value_cmp is_among is_under node_of first_named first_top sample_tree path_cmp printed_cmp
none-chosen rows e = simp (get-entries, e)

none-is : (rows : Rows) → entries rows ≡ [] → violation sample_tree rows ≡ tells MandatoryChoice (in_addr (codes "how"))
unfolding violation
none-is rows e = rw (none-typed rows e, none-keyed rows e, none-mandatory rows e, none-reached rows e, none-unique rows e, none-enough rows e, none-few_enough rows e, none-chosen rows e)

pub none-told : told_of sample_tree [] ≡ tells MandatoryChoice (in_addr (codes "how"))
unfolding path_cmp printed_cmp value_cmp
none-told = none-is (from_sorted []) (entries-from_sorted path_cmp [] tt)

two-typed : (rows : Rows) → entries rows ≡ two_rows → least_at sample_tree rows ValueType ≡ None
unfolding least_at places choice_places has_node case_of_choice case_holds cases_over has_other children_of is_of_type canonical spelled are_characters chars value_cmp is_among is_under node_of first_named first_top sample_tree path_cmp printed_cmp
two-typed rows e = simp (get-entries, e)

two-keyed : (rows : Rows) → entries rows ≡ two_rows → least_at sample_tree rows Key ≡ None
unfolding least_at places choice_places has_node case_of_choice case_holds cases_over has_other children_of is_of_type canonical spelled are_characters chars value_cmp is_among is_under node_of first_named first_top sample_tree path_cmp printed_cmp
two-keyed rows e = simp (get-entries, e)

two-mandatory : (rows : Rows) → entries rows ≡ two_rows → least_at sample_tree rows Mandatory ≡ None
unfolding least_at places choice_places has_node case_of_choice case_holds cases_over has_other children_of is_of_type canonical spelled are_characters chars value_cmp is_among is_under node_of first_named first_top sample_tree path_cmp printed_cmp
two-mandatory rows e = simp (get-entries, e)

two-reached : (rows : Rows) → entries rows ≡ two_rows → least_at sample_tree rows Leafref ≡ None
unfolding least_at places choice_places has_node case_of_choice case_holds cases_over has_other children_of is_of_type canonical spelled are_characters chars value_cmp is_among is_under node_of first_named first_top sample_tree path_cmp printed_cmp
two-reached rows e = simp (get-entries, e)

two-unique : (rows : Rows) → entries rows ≡ two_rows → least_at sample_tree rows Unique ≡ None
unfolding least_at places choice_places has_node case_of_choice case_holds cases_over has_other children_of is_of_type canonical spelled are_characters chars value_cmp is_among is_under node_of first_named first_top sample_tree path_cmp printed_cmp
two-unique rows e = simp (get-entries, e)

two-enough : (rows : Rows) → entries rows ≡ two_rows → least_at sample_tree rows MinElements ≡ None
unfolding least_at places choice_places has_node case_of_choice case_holds cases_over has_other children_of is_of_type canonical spelled are_characters chars value_cmp is_among is_under node_of first_named first_top sample_tree path_cmp printed_cmp
two-enough rows e = simp (get-entries, e)

two-few_enough : (rows : Rows) → entries rows ≡ two_rows → least_at sample_tree rows MaxElements ≡ None
unfolding least_at places choice_places has_node case_of_choice case_holds cases_over has_other children_of is_of_type canonical spelled are_characters chars value_cmp is_among is_under node_of first_named first_top sample_tree path_cmp printed_cmp
two-few_enough rows e = simp (get-entries, e)

two-chosen : (rows : Rows) → entries rows ≡ two_rows → least_at sample_tree rows MandatoryChoice ≡ None
unfolding least_at places choice_places has_node case_of_choice case_holds cases_over has_other children_of is_of_type canonical spelled are_characters chars value_cmp is_among is_under node_of first_named first_top sample_tree path_cmp printed_cmp
two-chosen rows e = simp (get-entries, e)

two-one_case : (rows : Rows) → entries rows ≡ two_rows → least_at sample_tree rows OneCase ≡ Some (in_addr (codes "ip"))
unfolding least_at places choice_places has_node case_of_choice case_holds cases_over has_other children_of is_of_type canonical spelled are_characters chars value_cmp is_among is_under node_of first_named first_top sample_tree path_cmp printed_cmp
two-one_case rows e = simp (get-entries, e)

two-is : (rows : Rows) → entries rows ≡ two_rows → violation sample_tree rows ≡ tells OneCase (in_addr (codes "ip"))
unfolding violation
two-is rows e = rw (two-typed rows e, two-keyed rows e, two-mandatory rows e, two-reached rows e, two-unique rows e, two-enough rows e, two-few_enough rows e, two-chosen rows e, two-one_case rows e)

pub two-told : told_of sample_tree two_rows ≡ tells OneCase (in_addr (codes "ip"))
unfolding path_cmp printed_cmp value_cmp
two-told = two-is (from_sorted two_rows) (entries-from_sorted path_cmp two_rows tt)

lost-typed : (rows : Rows) → entries rows ≡ lost_rows → least_at listed_tree rows ValueType ≡ None
unfolding least_at places choice_places has_node case_of_choice case_holds cases_over has_other children_of is_of_type canonical spelled are_characters chars value_cmp is_among is_under node_of first_named first_top listed_tree path_cmp printed_cmp
lost-typed rows e = simp (get-entries, e)

lost-keyed : (rows : Rows) → entries rows ≡ lost_rows → least_at listed_tree rows Key ≡ None
unfolding least_at places choice_places has_node case_of_choice case_holds cases_over has_other children_of is_of_type canonical spelled are_characters chars value_cmp is_among is_under node_of first_named first_top listed_tree path_cmp printed_cmp
lost-keyed rows e = simp (get-entries, e)

lost-mandatory : (rows : Rows) → entries rows ≡ lost_rows → least_at listed_tree rows Mandatory ≡ None
unfolding least_at places choice_places has_node case_of_choice case_holds cases_over has_other children_of is_of_type canonical spelled are_characters chars value_cmp is_among is_under node_of first_named first_top listed_tree path_cmp printed_cmp
lost-mandatory rows e = simp (get-entries, e)

lost-reached : (rows : Rows) → entries rows ≡ lost_rows → least_at listed_tree rows Leafref ≡ Some (uplink)
unfolding least_at places choice_places has_node case_of_choice case_holds cases_over has_other children_of is_of_type canonical spelled are_characters chars value_cmp is_among is_under node_of first_named first_top listed_tree path_cmp printed_cmp
lost-reached rows e = simp (get-entries, e)

lost-is : (rows : Rows) → entries rows ≡ lost_rows → violation listed_tree rows ≡ tells Leafref (uplink)
unfolding violation
lost-is rows e = rw (lost-typed rows e, lost-keyed rows e, lost-mandatory rows e, lost-reached rows e)

pub lost-told : told_of listed_tree lost_rows ≡ tells Leafref (uplink)
unfolding path_cmp printed_cmp value_cmp
lost-told = lost-is (from_sorted lost_rows) (entries-from_sorted path_cmp lost_rows tt)

doubled-typed : (rows : Rows) → entries rows ≡ doubled_rows → least_at listed_tree rows ValueType ≡ None
unfolding least_at places choice_places has_node case_of_choice case_holds cases_over has_other children_of is_of_type canonical spelled are_characters chars value_cmp is_among is_under node_of first_named first_top listed_tree path_cmp printed_cmp
doubled-typed rows e = simp (get-entries, e)

doubled-keyed : (rows : Rows) → entries rows ≡ doubled_rows → least_at listed_tree rows Key ≡ None
unfolding least_at places choice_places has_node case_of_choice case_holds cases_over has_other children_of is_of_type canonical spelled are_characters chars value_cmp is_among is_under node_of first_named first_top listed_tree path_cmp printed_cmp
doubled-keyed rows e = simp (get-entries, e)

doubled-mandatory : (rows : Rows) → entries rows ≡ doubled_rows → least_at listed_tree rows Mandatory ≡ None
unfolding least_at places choice_places has_node case_of_choice case_holds cases_over has_other children_of is_of_type canonical spelled are_characters chars value_cmp is_among is_under node_of first_named first_top listed_tree path_cmp printed_cmp
doubled-mandatory rows e = simp (get-entries, e)

doubled-reached : (rows : Rows) → entries rows ≡ doubled_rows → least_at listed_tree rows Leafref ≡ None
unfolding least_at places choice_places has_node case_of_choice case_holds cases_over has_other children_of is_of_type canonical spelled are_characters chars value_cmp is_among is_under node_of first_named first_top listed_tree path_cmp printed_cmp
doubled-reached rows e = simp (get-entries, e)

doubled-unique : (rows : Rows) → entries rows ≡ doubled_rows → least_at listed_tree rows Unique ≡ Some (iface (codes "b"))
unfolding least_at places choice_places has_node case_of_choice case_holds cases_over has_other children_of is_of_type canonical spelled are_characters chars value_cmp is_among is_under node_of first_named first_top listed_tree path_cmp printed_cmp
doubled-unique rows e = simp (get-entries, e)

doubled-is : (rows : Rows) → entries rows ≡ doubled_rows → violation listed_tree rows ≡ tells Unique (iface (codes "b"))
unfolding violation
doubled-is rows e = rw (doubled-typed rows e, doubled-keyed rows e, doubled-mandatory rows e, doubled-reached rows e, doubled-unique rows e)

pub doubled-told : told_of listed_tree doubled_rows ≡ tells Unique (iface (codes "b"))
unfolding path_cmp printed_cmp value_cmp
doubled-told = doubled-is (from_sorted doubled_rows) (entries-from_sorted path_cmp doubled_rows tt)

nothing-typed : (rows : Rows) → entries rows ≡ [] → least_at guarded_tree rows ValueType ≡ None
unfolding least_at places choice_places has_node case_of_choice case_holds cases_over has_other children_of is_of_type canonical spelled are_characters chars value_cmp is_among is_under node_of first_named first_top guarded_tree path_cmp printed_cmp
nothing-typed rows e = simp (get-entries, e)

nothing-keyed : (rows : Rows) → entries rows ≡ [] → least_at guarded_tree rows Key ≡ None
unfolding least_at places choice_places has_node case_of_choice case_holds cases_over has_other children_of is_of_type canonical spelled are_characters chars value_cmp is_among is_under node_of first_named first_top guarded_tree path_cmp printed_cmp
nothing-keyed rows e = simp (get-entries, e)

nothing-mandatory : (rows : Rows) → entries rows ≡ [] → least_at guarded_tree rows Mandatory ≡ None
unfolding least_at places choice_places has_node case_of_choice case_holds cases_over has_other children_of is_of_type canonical spelled are_characters chars value_cmp is_among is_under node_of first_named first_top guarded_tree path_cmp printed_cmp
nothing-mandatory rows e = simp (get-entries, e)

nothing-reached : (rows : Rows) → entries rows ≡ [] → least_at guarded_tree rows Leafref ≡ None
unfolding least_at places choice_places has_node case_of_choice case_holds cases_over has_other children_of is_of_type canonical spelled are_characters chars value_cmp is_among is_under node_of first_named first_top guarded_tree path_cmp printed_cmp
nothing-reached rows e = simp (get-entries, e)

nothing-unique : (rows : Rows) → entries rows ≡ [] → least_at guarded_tree rows Unique ≡ None
unfolding least_at places choice_places has_node case_of_choice case_holds cases_over has_other children_of is_of_type canonical spelled are_characters chars value_cmp is_among is_under node_of first_named first_top guarded_tree path_cmp printed_cmp
nothing-unique rows e = simp (get-entries, e)

nothing-enough : (rows : Rows) → entries rows ≡ [] → least_at guarded_tree rows MinElements ≡ None
unfolding least_at places choice_places has_node case_of_choice case_holds cases_over has_other children_of is_of_type canonical spelled are_characters chars value_cmp is_among is_under node_of first_named first_top guarded_tree path_cmp printed_cmp
nothing-enough rows e = simp (get-entries, e)

nothing-few_enough : (rows : Rows) → entries rows ≡ [] → least_at guarded_tree rows MaxElements ≡ None
unfolding least_at places choice_places has_node case_of_choice case_holds cases_over has_other children_of is_of_type canonical spelled are_characters chars value_cmp is_among is_under node_of first_named first_top guarded_tree path_cmp printed_cmp
nothing-few_enough rows e = simp (get-entries, e)

nothing-chosen : (rows : Rows) → entries rows ≡ [] → least_at guarded_tree rows MandatoryChoice ≡ None
unfolding least_at places choice_places has_node case_of_choice case_holds cases_over has_other children_of is_of_type canonical spelled are_characters chars value_cmp is_among is_under node_of first_named first_top guarded_tree path_cmp printed_cmp
nothing-chosen rows e = refl

nothing-one_case : (rows : Rows) → entries rows ≡ [] → least_at guarded_tree rows OneCase ≡ None
unfolding least_at places choice_places has_node case_of_choice case_holds cases_over has_other children_of is_of_type canonical spelled are_characters chars value_cmp is_among is_under node_of first_named first_top guarded_tree path_cmp printed_cmp
nothing-one_case rows e = simp (get-entries, e)

nothing-is : (rows : Rows) → entries rows ≡ [] → violation guarded_tree rows ≡ None
unfolding violation
nothing-is rows e = rw (nothing-typed rows e, nothing-keyed rows e, nothing-mandatory rows e, nothing-reached rows e, nothing-unique rows e, nothing-enough rows e, nothing-few_enough rows e, nothing-chosen rows e, nothing-one_case rows e)

pub nothing-told : told_of guarded_tree [] ≡ None
unfolding path_cmp printed_cmp value_cmp
nothing-told = nothing-is (from_sorted []) (entries-from_sorted path_cmp [] tt)

bare-typed : (rows : Rows) → entries rows ≡ bare_rows → least_at guarded_tree rows ValueType ≡ None
unfolding least_at places choice_places has_node case_of_choice case_holds cases_over has_other children_of is_of_type canonical spelled are_characters chars value_cmp is_among is_under node_of first_named first_top guarded_tree path_cmp printed_cmp
bare-typed rows e = simp (get-entries, e)

bare-keyed : (rows : Rows) → entries rows ≡ bare_rows → least_at guarded_tree rows Key ≡ None
unfolding least_at places choice_places has_node case_of_choice case_holds cases_over has_other children_of is_of_type canonical spelled are_characters chars value_cmp is_among is_under node_of first_named first_top guarded_tree path_cmp printed_cmp
bare-keyed rows e = simp (get-entries, e)

bare-mandatory : (rows : Rows) → entries rows ≡ bare_rows → least_at guarded_tree rows Mandatory ≡ Some (must)
unfolding least_at places choice_places has_node case_of_choice case_holds cases_over has_other children_of is_of_type canonical spelled are_characters chars value_cmp is_among is_under node_of first_named first_top guarded_tree path_cmp printed_cmp
bare-mandatory rows e = simp (get-entries, e)

bare-is : (rows : Rows) → entries rows ≡ bare_rows → violation guarded_tree rows ≡ tells Mandatory (must)
unfolding violation
bare-is rows e = rw (bare-typed rows e, bare-keyed rows e, bare-mandatory rows e)

pub bare-told : told_of guarded_tree bare_rows ≡ tells Mandatory (must)
unfolding path_cmp printed_cmp value_cmp
bare-told = bare-is (from_sorted bare_rows) (entries-from_sorted path_cmp bare_rows tt)

few-typed : (rows : Rows) → entries rows ≡ few_rows → least_at guarded_tree rows ValueType ≡ None
unfolding least_at places choice_places has_node case_of_choice case_holds cases_over has_other children_of is_of_type canonical spelled are_characters chars value_cmp is_among is_under node_of first_named first_top guarded_tree path_cmp printed_cmp
few-typed rows e = simp (get-entries, e)

few-keyed : (rows : Rows) → entries rows ≡ few_rows → least_at guarded_tree rows Key ≡ None
unfolding least_at places choice_places has_node case_of_choice case_holds cases_over has_other children_of is_of_type canonical spelled are_characters chars value_cmp is_among is_under node_of first_named first_top guarded_tree path_cmp printed_cmp
few-keyed rows e = simp (get-entries, e)

few-mandatory : (rows : Rows) → entries rows ≡ few_rows → least_at guarded_tree rows Mandatory ≡ None
unfolding least_at places choice_places has_node case_of_choice case_holds cases_over has_other children_of is_of_type canonical spelled are_characters chars value_cmp is_among is_under node_of first_named first_top guarded_tree path_cmp printed_cmp
few-mandatory rows e = simp (get-entries, e)

few-reached : (rows : Rows) → entries rows ≡ few_rows → least_at guarded_tree rows Leafref ≡ None
unfolding least_at places choice_places has_node case_of_choice case_holds cases_over has_other children_of is_of_type canonical spelled are_characters chars value_cmp is_among is_under node_of first_named first_top guarded_tree path_cmp printed_cmp
few-reached rows e = simp (get-entries, e)

few-unique : (rows : Rows) → entries rows ≡ few_rows → least_at guarded_tree rows Unique ≡ None
unfolding least_at places choice_places has_node case_of_choice case_holds cases_over has_other children_of is_of_type canonical spelled are_characters chars value_cmp is_among is_under node_of first_named first_top guarded_tree path_cmp printed_cmp
few-unique rows e = simp (get-entries, e)

few-enough : (rows : Rows) → entries rows ≡ few_rows → least_at guarded_tree rows MinElements ≡ Some (in_box (codes "srv"))
unfolding least_at places choice_places has_node case_of_choice case_holds cases_over has_other children_of is_of_type canonical spelled are_characters chars value_cmp is_among is_under node_of first_named first_top guarded_tree path_cmp printed_cmp
few-enough rows e = simp (get-entries, e)

few-is : (rows : Rows) → entries rows ≡ few_rows → violation guarded_tree rows ≡ tells MinElements (in_box (codes "srv"))
unfolding violation
few-is rows e = rw (few-typed rows e, few-keyed rows e, few-mandatory rows e, few-reached rows e, few-unique rows e, few-enough rows e)

pub few-told : told_of guarded_tree few_rows ≡ tells MinElements (in_box (codes "srv"))
unfolding path_cmp printed_cmp value_cmp
few-told = few-is (from_sorted few_rows) (entries-from_sorted path_cmp few_rows tt)

same-typed : (rows : Rows) → entries rows ≡ same_rows → least_at guarded_tree rows ValueType ≡ None
unfolding least_at places choice_places has_node case_of_choice case_holds cases_over has_other children_of is_of_type canonical spelled are_characters chars value_cmp is_among is_under node_of first_named first_top guarded_tree path_cmp printed_cmp
same-typed rows e = simp (get-entries, e)

same-keyed : (rows : Rows) → entries rows ≡ same_rows → least_at guarded_tree rows Key ≡ None
unfolding least_at places choice_places has_node case_of_choice case_holds cases_over has_other children_of is_of_type canonical spelled are_characters chars value_cmp is_among is_under node_of first_named first_top guarded_tree path_cmp printed_cmp
same-keyed rows e = simp (get-entries, e)

same-mandatory : (rows : Rows) → entries rows ≡ same_rows → least_at guarded_tree rows Mandatory ≡ None
unfolding least_at places choice_places has_node case_of_choice case_holds cases_over has_other children_of is_of_type canonical spelled are_characters chars value_cmp is_among is_under node_of first_named first_top guarded_tree path_cmp printed_cmp
same-mandatory rows e = simp (get-entries, e)

same-reached : (rows : Rows) → entries rows ≡ same_rows → least_at guarded_tree rows Leafref ≡ None
unfolding least_at places choice_places has_node case_of_choice case_holds cases_over has_other children_of is_of_type canonical spelled are_characters chars value_cmp is_among is_under node_of first_named first_top guarded_tree path_cmp printed_cmp
same-reached rows e = simp (get-entries, e)

same-unique : (rows : Rows) → entries rows ≡ same_rows → least_at guarded_tree rows Unique ≡ Some (srv (codes "b"))
unfolding least_at places choice_places has_node case_of_choice case_holds cases_over has_other children_of is_of_type canonical spelled are_characters chars value_cmp is_among is_under node_of first_named first_top guarded_tree path_cmp printed_cmp
same-unique rows e = simp (get-entries, e)

same-is : (rows : Rows) → entries rows ≡ same_rows → violation guarded_tree rows ≡ tells Unique (srv (codes "b"))
unfolding violation
same-is rows e = rw (same-typed rows e, same-keyed rows e, same-mandatory rows e, same-reached rows e, same-unique rows e)

pub same-told : told_of guarded_tree same_rows ≡ tells Unique (srv (codes "b"))
unfolding path_cmp printed_cmp value_cmp
same-told = same-is (from_sorted same_rows) (entries-from_sorted path_cmp same_rows tt)

valid-typed : (rows : Rows) → entries rows ≡ valid_rows → least_at guarded_tree rows ValueType ≡ None
unfolding least_at places choice_places has_node case_of_choice case_holds cases_over has_other children_of is_of_type canonical spelled are_characters chars value_cmp is_among is_under node_of first_named first_top guarded_tree path_cmp printed_cmp
valid-typed rows e = simp (get-entries, e)

valid-keyed : (rows : Rows) → entries rows ≡ valid_rows → least_at guarded_tree rows Key ≡ None
unfolding least_at places choice_places has_node case_of_choice case_holds cases_over has_other children_of is_of_type canonical spelled are_characters chars value_cmp is_among is_under node_of first_named first_top guarded_tree path_cmp printed_cmp
valid-keyed rows e = simp (get-entries, e)

valid-mandatory : (rows : Rows) → entries rows ≡ valid_rows → least_at guarded_tree rows Mandatory ≡ None
unfolding least_at places choice_places has_node case_of_choice case_holds cases_over has_other children_of is_of_type canonical spelled are_characters chars value_cmp is_among is_under node_of first_named first_top guarded_tree path_cmp printed_cmp
valid-mandatory rows e = simp (get-entries, e)

valid-reached : (rows : Rows) → entries rows ≡ valid_rows → least_at guarded_tree rows Leafref ≡ None
unfolding least_at places choice_places has_node case_of_choice case_holds cases_over has_other children_of is_of_type canonical spelled are_characters chars value_cmp is_among is_under node_of first_named first_top guarded_tree path_cmp printed_cmp
valid-reached rows e = simp (get-entries, e)

valid-unique : (rows : Rows) → entries rows ≡ valid_rows → least_at guarded_tree rows Unique ≡ None
unfolding least_at places choice_places has_node case_of_choice case_holds cases_over has_other children_of is_of_type canonical spelled are_characters chars value_cmp is_among is_under node_of first_named first_top guarded_tree path_cmp printed_cmp
valid-unique rows e = simp (get-entries, e)

valid-enough : (rows : Rows) → entries rows ≡ valid_rows → least_at guarded_tree rows MinElements ≡ None
unfolding least_at places choice_places has_node case_of_choice case_holds cases_over has_other children_of is_of_type canonical spelled are_characters chars value_cmp is_among is_under node_of first_named first_top guarded_tree path_cmp printed_cmp
valid-enough rows e = simp (get-entries, e)

valid-few_enough : (rows : Rows) → entries rows ≡ valid_rows → least_at guarded_tree rows MaxElements ≡ None
unfolding least_at places choice_places has_node case_of_choice case_holds cases_over has_other children_of is_of_type canonical spelled are_characters chars value_cmp is_among is_under node_of first_named first_top guarded_tree path_cmp printed_cmp
valid-few_enough rows e = simp (get-entries, e)

valid-chosen : (rows : Rows) → entries rows ≡ valid_rows → least_at guarded_tree rows MandatoryChoice ≡ None
unfolding least_at places choice_places has_node case_of_choice case_holds cases_over has_other children_of is_of_type canonical spelled are_characters chars value_cmp is_among is_under node_of first_named first_top guarded_tree path_cmp printed_cmp
valid-chosen rows e = refl

valid-one_case : (rows : Rows) → entries rows ≡ valid_rows → least_at guarded_tree rows OneCase ≡ None
unfolding least_at places choice_places has_node case_of_choice case_holds cases_over has_other children_of is_of_type canonical spelled are_characters chars value_cmp is_among is_under node_of first_named first_top guarded_tree path_cmp printed_cmp
valid-one_case rows e = simp (get-entries, e)

valid-is : (rows : Rows) → entries rows ≡ valid_rows → violation guarded_tree rows ≡ None
unfolding violation
valid-is rows e = rw (valid-typed rows e, valid-keyed rows e, valid-mandatory rows e, valid-reached rows e, valid-unique rows e, valid-enough rows e, valid-few_enough rows e, valid-chosen rows e, valid-one_case rows e)

pub valid-told : told_of guarded_tree valid_rows ≡ None
unfolding path_cmp printed_cmp value_cmp
valid-told = valid-is (from_sorted valid_rows) (entries-from_sorted path_cmp valid_rows tt)
