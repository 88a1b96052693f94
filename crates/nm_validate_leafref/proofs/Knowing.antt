-- What is kept of a target is what claims reach.
use Rattle.std.proofs.Common.{◌≡◌, ℕ, List, [], ◌∷◌, take, length, Bool, true, false, ◌&&◌, ◌||◌, ◌==◌, Option, Some, None, is_some, if◌then◌else◌, refl, sym, ap, ◌∙◌}
use Rattle.std.specs.Prelude.{nat_lt}
use Rattle.std.specs.List.{list_any}
use Rattle.std.specs.FinMap.{get, insert, empty, contains_key, get-empty}
use Rattle.nm_types.specs.declared.value.Value.{Value}
use Rattle.nm_types.specs.declared.value.Value.TheVariants.{Present}
use Rattle.nm_types.specs.Value.{is_same_value}
use Rattle.nm_types.specs.Path.{PathStep, path_cmp}
use Rattle.nm_schema_tree.specs.Nodes.{SchemaTree}
use Rattle.nm_config.specs.Rows.{Rows}
use Rattle.nm_config.specs.Under.{is_whole, is_under}
use Rattle.nm_validate_rules.specs.Places.{places}
use Rattle.nm_validate_rules.specs.Values.{Claim, key_in_entry, default_in_use, row_values, key_values, as_list, is_same_path, is_reached}
use Rattle.nm_validate_rules.specs.Violated.{last_chosen}
use Rattle.nm_validate_rules.proofs.Among.{both}
use Rattle.nm_validate_leafref.specs.Kept.{kept_at, mark_of, with_kept, with_value, with_values}
use Rattle.nm_validate_leafref.specs.Known.{rows_of, entries_of, gives, has_below, with_target, with_known, Knows}
use Rattle.nm_validate_leafref.proofs.Paths.{number_is, number_same, same_kept, kept_no_mark, mark_no_kept, same_mark, put_then, bare_list, under_is, never_under}
use Rattle.nm_validate_leafref.proofs.Reaching.{by_rows, by_keys, by_defaults}

-- ---- tests

none_hit : (b d u g m : Bool) → (d && u) ≡ false → m ≡ ((b && (d && (u && g))) || m)
none_hit false d u g m e = refl
none_hit true false u g m e = refl
none_hit true true false g m e = refl
none_hit true true true g m e = absurd (cc)

join : (b l p v m : Bool) → ((b && (l && v)) || ((b && (p && v)) || m)) ≡ ((b && ((p || l) && v)) || m)
join false l p v m = refl
join true false true v m = refl
join true false false v m = refl
join true true true true m = refl
join true true false true m = refl
join true true true false m = refl
join true true false false m = refl

twice : (b : Bool) → b ≡ (b || b)
twice true = refl
twice false = refl

inside : (b d u v m : Bool) → ((b && ((d && u) && v)) || m) ≡ ((b && (d && (u && v))) || m)
inside b true u v m = refl
inside b false u v m = refl

never_given : (b d u m : Bool) → m ≡ ((b && (d && (u && false))) || m)
never_given false d u m = refl
never_given true false u m = refl
never_given true true false m = refl
never_given true true true m = refl

one_more : (b d r a m : Bool) → ((b && (d && r)) || ((b && (d && a)) || m)) ≡ ((b && (d && (a || r))) || m)
one_more false d r a m = refl
one_more true false r a m = refl
one_more true true true true m = refl
one_more true true true false m = refl
one_more true true false true m = refl
one_more true true false false m = refl

none_more : (b d m : Bool) → m ≡ ((b && (d && false)) || m)
none_more false d m = refl
none_more true true m = refl
none_more true false m = refl

-- ---- what is kept

module _ (x d : ℕ) (c : List PathStep) (y : ℕ) (v : Value) where
  abbrev there : Rows → Bool
  there kept = contains_key kept (kept_at c y v)

  kept_then : (kept : Rows) (p : List PathStep) (w : Value) → there (insert kept (kept_at p x w) Present) ≡ (((y == x) && (is_same_path c p && is_same_value v w)) || there kept)
  kept_then kept p w = put_then kept (kept_at p x w) (kept_at c y v) ∙ ap (λ b. b || there kept) (same_kept c y v p x w)

  whole_value : (kept : Rows) (place : List PathStep) (w : Value) (whole : Bool) → is_whole (last_chosen place) ≡ whole
      → there (if whole then insert kept (kept_at place x w) Present else insert (insert kept (kept_at place x w) Present) (kept_at (as_list place) x w) Present)
      ≡ (((y == x) && ((is_same_path c place || is_same_path c (as_list place)) && is_same_value v w)) || there kept)
  whole_value kept place w true e =
      kept_then kept place w
      ∙ ap (λ b. ((y == x) && (b && is_same_value v w)) || there kept) (twice (is_same_path c place) ∙ ap (λ l. is_same_path c place || is_same_path c l) (sym (bare_list place e)))
  whole_value kept place w false e =
      let same = is_same_value v w in
      kept_then (insert kept (kept_at place x w) Present) (as_list place) w
      ∙ ap (λ b. ((y == x) && (is_same_path c (as_list place) && same)) || b) (kept_then kept place w)
      ∙ join (y == x) (is_same_path c (as_list place)) (is_same_path c place) same (there kept)

  long_value : (kept : Rows) (path : List PathStep) (w : Value) (short : Bool) → nat_lt (length path) d ≡ short
      → there (if short then kept else with_kept x w kept (take d path)) ≡ (((y == x) && ((length c == d) && (is_under c path && is_same_value v w))) || there kept)
  long_value kept path w true e = none_hit (y == x) (length c == d) (is_under c path) (is_same_value v w) (there kept) (never_under c path d e)
  long_value kept path w false e =
      whole_value kept (take d path) w (is_whole (last_chosen (take d path))) refl
      ∙ ap (λ b. ((y == x) && (b && is_same_value v w)) || there kept) (under_is c path d e)
      ∙ inside (y == x) (length c == d) (is_under c path) (is_same_value v w) (there kept)

  value_kept : (kept : Rows) (path : List PathStep) (o : Option Value) → there (with_value x d kept path o) ≡ (((y == x) && ((length c == d) && (is_under c path && gives v o))) || there kept)
  value_kept kept path None = never_given (y == x) (length c == d) (is_under c path) (there kept)
  value_kept kept path (Some w) = long_value kept path w (nat_lt (length path) d) refl

  values_kept : (value : List PathStep → Option Value) (kept : Rows) (paths : List (List PathStep))
      → there (with_values x d value kept paths) ≡ (((y == x) && ((length c == d) && list_any (has_below c v value) paths)) || there kept)
  values_kept value kept [] = none_more (y == x) (length c == d) (there kept)
  values_kept value kept (p ∷ ps) =
      let rest = list_any (has_below c v value) ps in
      values_kept value (with_value x d kept p (value p)) ps
      ∙ ap (λ b. ((y == x) && ((length c == d) && rest)) || b) (value_kept kept p (value p))
      ∙ one_more (y == x) (length c == d) rest (has_below c v value p) (there kept)

  three : (b n p q r m : Bool) → ((b && (n && r)) || ((b && (n && q)) || ((b && (n && p)) || m))) ≡ ((b && (n && (p || q || r))) || m)
  three false n p q r m = refl
  three true false p q r m = refl
  three true true true true true m = refl
  three true true true true false m = refl
  three true true true false true m = refl
  three true true true false false m = refl
  three true true false true true m = refl
  three true true false true false m = refl
  three true true false false true m = refl
  three true true false false false m = refl

  module _ (t : SchemaTree) (rows : Rows) where
    abbrev claim_on : ℕ → Claim
    claim_on target = record { target = target; context = c; value = v }

    for_target : (b n : Bool) (m : Bool) → ((y == x) ≡ b) → ((b && (n && is_reached t rows (claim_on x))) || m) ≡ ((b && (n && is_reached t rows (claim_on y))) || m)
    for_target false n m e = refl
    for_target true n m e = ap (λ (k : ℕ). (n && is_reached t rows (claim_on k)) || m) (sym (number_is y x e))

    -- all values of a target are kept
    target_kept : (kept : Rows) → there (with_target t rows x d kept) ≡ (((y == x) && ((length c == d) && is_reached t rows (claim_on y))) || there kept)
    target_kept kept =
        let b = (y == x) in
        let n = (length c == d) in
        let by_row = with_values x d (get rows) kept (rows_of t rows x) in
        let by_key = with_values x d (key_in_entry t x) by_row (entries_of t rows x) in
        let one = list_any (has_below c v (get rows)) (rows_of t rows x) in
        let two = list_any (has_below c v (key_in_entry t x)) (entries_of t rows x) in
        let last = list_any (has_below c v (λ path. default_in_use t rows path x)) (places t rows x) in
        values_kept (λ path. default_in_use t rows path x) by_key (places t rows x)
        ∙ ap (λ m. (b && (n && last)) || m) (values_kept (key_in_entry t x) by_row (entries_of t rows x)
        ∙ ap (λ m. (b && (n && two)) || m) (values_kept (get rows) kept (rows_of t rows x)))
        ∙ three b n one two last (there kept)
        ∙ ap (λ r. (b && (n && (r || two || last))) || there kept) (by_rows t rows c x v)
        ∙ ap (λ r. (b && (n && (list_any (is_same_value v) (row_values t rows c x) || r || last))) || there kept) (by_keys t rows c x v)
        ∙ ap (λ r. (b && (n && (list_any (is_same_value v) (row_values t rows c x) || list_any (is_same_value v) (key_values t rows c x) || r))) || there kept) (by_defaults t rows c x v)
        ∙ for_target b n (there kept) refl

-- ---- marks

module _ (x d y n : ℕ) where
  abbrev marked : Rows → Bool
  marked kept = contains_key kept (mark_of y n)

  no_mark : (kept : Rows) (p : List PathStep) (w : Value) → marked (insert kept (kept_at p x w) Present) ≡ marked kept
  no_mark kept p w = put_then kept (kept_at p x w) (mark_of y n) ∙ ap (λ b. b || marked kept) (mark_no_kept y n p x w)

  whole_mark : (kept : Rows) (place : List PathStep) (w : Value) (whole : Bool)
      → marked (if whole then insert kept (kept_at place x w) Present else insert (insert kept (kept_at place x w) Present) (kept_at (as_list place) x w) Present) ≡ marked kept
  whole_mark kept place w true = no_mark kept place w
  whole_mark kept place w false = no_mark (insert kept (kept_at place x w) Present) (as_list place) w ∙ no_mark kept place w

  long_mark : (kept : Rows) (path : List PathStep) (w : Value) (short : Bool) → marked (if short then kept else with_kept x w kept (take d path)) ≡ marked kept
  long_mark kept path w true = refl
  long_mark kept path w false = whole_mark kept (take d path) w (is_whole (last_chosen (take d path)))

  value_mark : (kept : Rows) (path : List PathStep) (o : Option Value) → marked (with_value x d kept path o) ≡ marked kept
  value_mark kept path None = refl
  value_mark kept path (Some w) = long_mark kept path w (nat_lt (length path) d)

  values_mark : (value : List PathStep → Option Value) (kept : Rows) (paths : List (List PathStep)) → marked (with_values x d value kept paths) ≡ marked kept
  values_mark value kept [] = refl
  values_mark value kept (p ∷ ps) = values_mark value (with_value x d kept p (value p)) ps ∙ value_mark kept p (value p)

  target_mark : (t : SchemaTree) (rows kept : Rows) → marked (with_target t rows x d kept) ≡ marked kept
  target_mark t rows kept =
      let by_row = with_values x d (get rows) kept (rows_of t rows x) in
      let by_key = with_values x d (key_in_entry t x) by_row (entries_of t rows x) in
      values_mark (λ path. default_in_use t rows path x) by_key (places t rows x) ∙ values_mark (key_in_entry t x) by_row (entries_of t rows x) ∙ values_mark (get rows) kept (rows_of t rows x)

  -- a mark more is there
  put_mark : (kept : Rows) → marked (insert kept (mark_of x d) Present) ≡ (((y == x) && (n == d)) || marked kept)
  put_mark kept = put_then kept (mark_of x d) (mark_of y n) ∙ ap (λ b. b || marked kept) (same_mark y n x d)

-- ---- what is known

module _ (t : SchemaTree) (rows : Rows) where
  pub knows_nothing : Knows t rows empty
  knows_nothing = record {
    each = λ claim.
        ap is_some (get-empty {X = Value} path_cmp (kept_at claim.context claim.target claim.value))
        ∙ sym (ap (λ o. is_some o && is_reached t rows claim) (get-empty {X = Value} path_cmp (mark_of claim.target (length claim.context))));
  }

  again : (b n m : Bool) → ((b && n) ≡ true → m ≡ true) → ((b && n) || m) ≡ m
  again true true m h = sym (h refl)
  again true false m h = refl
  again false n m h = refl

  first : (b n m r : Bool) → ((b && n) ≡ true → m ≡ false) → ((b && (n && r)) || (m && r)) ≡ (((b && n) || m) && r)
  first true true true r h = absurd (let e = h refl in cc)
  first true true false true h = refl
  first true true false false h = refl
  first true false m r h = refl
  first false n m r h = refl

  module _ (x d : ℕ) (kept : Rows) (h : Knows t rows kept) (claim : Claim) where
    abbrev path : List PathStep
    path = kept_at claim.context claim.target claim.value

    abbrev mark : List PathStep
    mark = mark_of claim.target (length claim.context)

    as_marked : (b : Bool) → contains_key kept (mark_of x d) ≡ b → ((claim.target == x) && (length claim.context == d)) ≡ true → contains_key kept mark ≡ b
    as_marked b e same =
        let a = both (claim.target == x) (length claim.context == d) same in
        ap (λ (k : ℕ). contains_key kept (mark_of k (length claim.context))) (number_is claim.target x a.0)
        ∙ ap (λ (k : ℕ). contains_key kept (mark_of x k)) (number_is (length claim.context) d a.1) ∙ e

    with_mark : contains_key (insert kept (mark_of x d) Present) path ≡ contains_key kept path
    with_mark = put_then kept (mark_of x d) path ∙ ap (λ b. b || contains_key kept path) (kept_no_mark claim.context claim.target claim.value x d)

    known_by : (b : Bool) → contains_key kept (mark_of x d) ≡ b
        → contains_key (if b then insert kept (mark_of x d) Present else with_target t rows x d (insert kept (mark_of x d) Present)) path
        ≡ (contains_key (if b then insert kept (mark_of x d) Present else with_target t rows x d (insert kept (mark_of x d) Present)) mark && is_reached t rows claim)
    known_by true e =
        with_mark ∙ h.each claim
        ∙ ap (λ m. m && is_reached t rows claim)
        (sym (put_mark x d claim.target (length claim.context) kept ∙ again (claim.target == x) (length claim.context == d) (contains_key kept mark) (as_marked true e)))
    known_by false e =
        let marked_too = insert kept (mark_of x d) Present in
        let b = (claim.target == x) in
        let n = (length claim.context == d) in
        target_kept x d claim.context claim.target claim.value t rows marked_too
        ∙ ap (λ m. (b && (n && is_reached t rows claim)) || m) (with_mark ∙ h.each claim)
        ∙ first b n (contains_key kept mark) (is_reached t rows claim) (as_marked false e)
        ∙ ap (λ m. m && is_reached t rows claim) (sym (target_mark x d claim.target (length claim.context) t rows marked_too ∙ put_mark x d claim.target (length claim.context) kept))

  -- once the values of one target more are kept, as much is known as before
  pub knows_more : (x d : ℕ) (kept : Rows) → Knows t rows kept → Knows t rows (with_known t rows x d kept)
  knows_more x d kept h = record { each = λ claim. known_by x d kept h claim (contains_key kept (mark_of x d)) refl }

  mark_itself : (x d : ℕ) (m : Bool) → (((x == x) && (d == d)) || m) ≡ true
  mark_itself x d m = ap (λ b. (b && (d == d)) || m) (number_same x) ∙ ap (λ b. b || m) (number_same d)

  marked_put : (x d : ℕ) (kept : Rows) → contains_key (insert kept (mark_of x d) Present) (mark_of x d) ≡ true
  marked_put x d kept = put_mark x d x d kept ∙ mark_itself x d (contains_key kept (mark_of x d))

  marked_by : (x d : ℕ) (kept : Rows) (b : Bool) → contains_key (if b then insert kept (mark_of x d) Present else with_target t rows x d (insert kept (mark_of x d) Present)) (mark_of x d) ≡ true
  marked_by x d kept true = marked_put x d kept
  marked_by x d kept false = target_mark x d x d t rows (insert kept (mark_of x d) Present) ∙ marked_put x d kept

  -- the values of a target are kept that weren't yet
  pub known_new : (x d : ℕ) (kept : Rows) → contains_key kept (mark_of x d) ≡ false → with_target t rows x d (insert kept (mark_of x d) Present) ≡ with_known t rows x d kept
  known_new x d kept e = sym (ap (λ b. if b then insert kept (mark_of x d) Present else with_target t rows x d (insert kept (mark_of x d) Present)) e)

  by_both : (m r : Bool) → true ≡ (m && r) → true ≡ r
  by_both true r e = e
  by_both false r e = absurd (cc)

  -- what is kept is reached
  pub kept_reached : (kept : Rows) (context : List PathStep) (target : ℕ) (v : Value) → Knows t rows kept → contains_key kept (kept_at context target v) ≡ true
      → true ≡ is_reached t rows (record { target = target; context = context; value = v })
  kept_reached kept context target v h e =
      by_both (contains_key kept (mark_of target (length context))) (is_reached t rows (record { target = target; context = context; value = v }))
      (sym e ∙ h.each (record { target = target; context = context; value = v }))

  -- what is asked then is told by what is kept
  pub told_by : (kept : Rows) (context : List PathStep) (target : ℕ) (v : Value) (d : ℕ) → Knows t rows kept → d ≡ length context
      → contains_key (with_known t rows target d kept) (kept_at context target v) ≡ is_reached t rows (record { target = target; context = context; value = v })
  told_by kept context target v d h long =
      (knows_more target d kept h).each (record { target = target; context = context; value = v })
      ∙ ap (λ (n : ℕ). contains_key (with_known t rows target d kept) (mark_of target n) && is_reached t rows (record { target = target; context = context; value = v })) (sym long)
      ∙ ap (λ b. b && is_reached t rows (record { target = target; context = context; value = v })) (marked_by target d kept (contains_key kept (mark_of target d)))
