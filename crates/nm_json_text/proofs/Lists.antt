-- Rows that stand beside each other, and the entries of a list.
use Rattle.std.proofs.Common.{◌≡◌, ℕ, zero, suc, ◌+◌, List, [], ◌∷◌, ◌++◌, drop, take, map as each, cond, Bool, true, false, Option, Some, refl, sym, ap, ap₂, arith, ◌∙◌, append_assoc, append-nil}
use Rattle.std.proofs.Math.Seq.{drop-nil}
use Rattle.std.proofs.lemmas.Bool.{and_parts}
use Rattle.std.proofs.lemmas.List.{take-append-drop}
use Rattle.std.specs.List.{list_all}
use Rattle.json.specs.Token.{Token, begin_array, end_array}
use Rattle.json.specs.Tree.{items_tokens}
use Rattle.serde_json.specs.Data.{Data, object, array, Items, no_items, item, Members}
use Rattle.serde_json.specs.Written.{items_outline}
use Rattle.nm_types.specs.Path.{PathStep, Choice, whole, keys, entry}
use Rattle.nm_types.specs.declared.value.Value.{Value}
use Rattle.nm_schema_tree.specs.Nodes.{SchemaTree}
use Rattle.nm_path.specs.Spelling.{below}
use Rattle.nm_json.specs.Writing.{append, in_last, object_after, put_steps}
use Rattle.nm_json_text.specs.Passing.{Rest, rest_at, rests, front_length, members_of, goes_below, is_below, behind_first, inner_rests, chosen_after, items_after, tokens_of, items_front, WritesItem}

-- ---- parts of rows

front_at : (test : Rest → Bool) (r : Rest) (rs : List Rest) (b : Bool) → test r ≡ b → list_all test (take (front_length test rs) rs) ≡ true
    → list_all test (take (cond b (suc (front_length test rs)) 0) (r ∷ rs)) ≡ true
front_at test r rs true e h = rw (e, h) refl
front_at test r rs false e h = refl

-- rows at the front that pass a test pass it
pub all_front : (test : Rest → Bool) (rs : List Rest) → list_all test (take (front_length test rs) rs) ≡ true
all_front test [] = refl
all_front test (r ∷ rs) = front_at test r rs (test r) refl (all_front test rs)

drop_more : {X : Type 0} (done n : ℕ) (xs : List X) → drop (done + n) xs ≡ drop n (drop done xs)
drop_more zero n xs = let same : 0 + n ≡ n = omega arith in ap (λ m. drop m xs) same
drop_more (suc done) n [] = drop-nil (suc done + n) ∙ sym (drop-nil n)
drop_more (suc done) n (x ∷ xs) = let same : suc done + n ≡ suc (done + n) = omega arith in ap (λ m. drop m (x ∷ xs)) same ∙ drop_more done n xs

module _ {X : Type 0} (f : X → Rest) (d : ℕ) where
  rests_take : (n : ℕ) (xs : List X) → rests d (each f (take n xs)) ≡ take n (rests d (each f xs))
  rests_take zero xs = refl
  rests_take (suc n) [] = refl
  rests_take (suc n) (x ∷ xs) = ap (λ rs. rest_at d (f x) ∷ rs) (rests_take n xs)

  rests_drop : (n : ℕ) (xs : List X) → rests d (each f (drop n xs)) ≡ drop n (rests d (each f xs))
  rests_drop zero xs = refl
  rests_drop (suc n) [] = refl
  rests_drop (suc n) (x ∷ xs) = rests_drop n xs

  rests_parts : (n : ℕ) (xs : List X) → rests d (each f xs) ≡ rests d (each f (take n xs)) ++ rests d (each f (drop n xs))
  rests_parts n xs = sym (ap₂ (λ (rs us : List Rest). rs ++ us) (rests_take n xs) (rests_drop n xs) ∙ take-append-drop n (rests d (each f xs)))

  -- some rows at the front, the first apart
  pub front_rests : (n k : ℕ) (rows : List X) (x : X) (more : List X) (ss : List PathStep) → n ≡ 1 + k → rows ≡ x ∷ more → drop d (f x).0 ≡ ss
      → rests d (each f (take n rows)) ≡ (ss, (f x).1) ∷ rests d (each f (take k more))
  front_rests n k rows x more ss n_is rows_are steps_are =
      let one : n ≡ suc k = omega (arith, n_is) in
      ap (λ m. rests d (each f (take m rows))) one ∙ ap (λ xs. rests d (each f (take (suc k) xs))) rows_are ∙ ap (λ us. (us, (f x).1) ∷ rests d (each f (take k more))) steps_are

  -- the rows behind some, as some at their front and the others
  pub split_rests : (done n k : ℕ) (all rows : List X) (x : X) (more : List X) (ss : List PathStep) → rows ≡ drop done all → n ≡ 1 + k → rows ≡ x ∷ more → drop d (f x).0 ≡ ss
      → rests d (each f (drop done all)) ≡ ((ss, (f x).1) ∷ rests d (each f (take k more))) ++ rests d (each f (drop (done + n) all))
  split_rests done n k all rows x more ss are n_is rows_are steps_are =
      ap (λ xs. rests d (each f xs)) (sym are) ∙ rests_parts n rows
      ∙ ap₂ (λ (rs us : List Rest). rs ++ us) (front_rests n k rows x more ss n_is rows_are steps_are)
      (ap (λ xs. rests d (each f (drop n xs))) are ∙ ap (λ xs. rests d (each f xs)) (sym (drop_more done n all)))

  -- rows that were counted pass the test
  pub counted_pass : (test : Rest → Bool) (k : ℕ) (more : List X) → k ≡ front_length test (rests d (each f more)) → list_all test (rests d (each f (take k more))) ≡ true
  counted_pass test k more e =
      ap (list_all test) (rests_take k more ∙ ap (λ n. take n (rests d (each f more))) e) ∙ all_front test (rests d (each f more))

behind_drop : (d : ℕ) (ss : List PathStep) → behind_first (drop d ss) ≡ drop (suc d) ss
behind_drop zero [] = refl
behind_drop zero (s ∷ ss) = refl
behind_drop (suc d) [] = refl
behind_drop (suc d) (s ∷ ss) = behind_drop d ss

-- rows by their steps behind one more
pub inner_deeper : (d : ℕ) (rs : List Rest) → inner_rests (rests d rs) ≡ rests (suc d) rs
inner_deeper d [] = refl
inner_deeper d (r ∷ rs) = λ i. (behind_drop d r.0 i, r.1) ∷ inner_deeper d rs i

-- ---- items

last_put : (f : Members → Members) (ds : Items) (d : Data) → in_last f (append ds d) ≡ append ds (object_after f (Some d))
last_put f no_items d = refl
last_put f (item e no_items) d = refl
last_put f (item e (item g ds)) d = ap (item e) (last_put f (item g ds) d)

module _ (t : SchemaTree) (at : Option ℕ) where
  below_one : (c : Choice) (us : List PathStep) (v : Value) (ds : Items) (ms : Members) → goes_below c us ≡ true
      → chosen_after t at (append ds (object ms)) c us v ≡ append ds (object (put_steps t (below at) us v ms))
  below_one whole us v ds ms h = absurd cc
  below_one (entry w) us v ds ms h = absurd cc
  below_one (keys ks) [] v ds ms h = absurd cc
  below_one (keys ks) (w ∷ us) v ds ms h = last_put (put_steps t (below at) (w ∷ us) v) ds (object ms)

  below_row : (r : Rest) (ds : Items) (ms : Members) → is_below r ≡ true → items_after t at (append ds (object ms)) (r ∷ []) ≡ append ds (object (members_of t (below at) ms (inner_rests (r ∷ []))))
  below_row ([], v) ds ms h = absurd cc
  below_row (u ∷ us, v) ds ms h = below_one u.chosen us v ds ms h

  -- rows below an entry are put into its object
  pub below_all : (rs : List Rest) (ds : Items) (ms : Members) → list_all is_below rs ≡ true → items_after t at (append ds (object ms)) rs ≡ append ds (object (members_of t (below at) ms (inner_rests rs)))
  below_all [] ds ms h = refl
  below_all (r ∷ rs) ds ms h =
      let p = and_parts _ _ h in
      ap (λ es. items_after t at es rs) (below_row r ds ms p.0) ∙ below_all rs ds (members_of t (below at) ms (inner_rests (r ∷ []))) p.1

  pub items_append : (rs us : List Rest) (ds : Items) → items_after t at ds (rs ++ us) ≡ items_after t at (items_after t at ds rs) us
  items_append [] us ds = refl
  items_append (r ∷ rs) us ds = items_append rs us (items_after t at ds (r ∷ []))

pub front_append : (ds : Items) (d : Data) → items_front (append ds d) ≡ items_front ds ++ tokens_of d
front_append no_items d = append-nil (tokens_of d)
front_append (item e ds) d = ap (λ ts. tokens_of e ++ ts) (front_append ds d) ∙ sym (append_assoc (tokens_of e) (items_front ds) (tokens_of d))

pub items_end : (ds : Items) → items_tokens (items_outline ds) ≡ items_front ds ++ end_array ∷ []
items_end no_items = refl
items_end (item e ds) = ap (λ ts. tokens_of e ++ ts) (items_end ds) ∙ sym (append_assoc (tokens_of e) (items_front ds) (end_array ∷ []))

regroup : (o : List Token) (b : Token) (f e : List Token) → ((o ++ b ∷ []) ++ f) ++ e ≡ o ++ b ∷ (f ++ e)
regroup o b f e = append_assoc (o ++ b ∷ []) f e ∙ append_assoc o (b ∷ []) (f ++ e)

-- items are written, and rows are left
pub record Itemed (t : SchemaTree) (at : Option ℕ) (all : Items) (start now : List Token) (left : List Rest) : Type 0 where
  done : Items
  text : now ≡ start ++ items_front done
  whole : all ≡ items_after t at done left

module _ (t : SchemaTree) (at : Option ℕ) where
  pub itemed_start : (rs : List Rest) (start : List Token) → Itemed t at (items_after t at no_items rs) start start rs
  itemed_start rs start = record { done = no_items; text = sym (append-nil start); whole = refl }

  pub itemed_on : (all : Items) (start now : List Token) (left : List Rest) → Itemed t at all start now left
      → (ss : List PathStep) (v : Value) (inner taken us : List Rest) (now₁ : List Token) → left ≡ ((ss, v) ∷ inner) ++ us → taken ≡ inner → WritesItem t at ss taken now now₁
      → Itemed t at all start now₁ us
  itemed_on all start now left p ss v inner taken us now₁ split is w = record {
    done = append p.done w.data_written;
    text =
        w.text ∙ ap (λ ts. ts ++ tokens_of w.data_written) p.text ∙ append_assoc start (items_front p.done) (tokens_of w.data_written)
        ∙ ap (λ ts. start ++ ts) (sym (front_append p.done w.data_written));
    whole =
        p.whole ∙ ap (items_after t at p.done) (split ∙ ap (λ xs. ((ss, v) ∷ xs) ++ us) (sym is)) ∙ items_append t at ((ss, v) ∷ taken) us p.done ∙ ap (λ ds. items_after t at ds us) (w.one v p.done);
  }

  pub itemed_end : (all : Items) (old start now : List Token) (left : List Rest) → start ≡ old ++ begin_array ∷ [] → Itemed t at all start now left → left ≡ [] → now ++ end_array ∷ [] ≡ old ++ tokens_of (array all)
  itemed_end all old start now left from p none =
      ap (λ ts. ts ++ end_array ∷ []) (p.text ∙ ap (λ ts. ts ++ items_front p.done) from)
      ∙ regroup old begin_array (items_front p.done) (end_array ∷ []) ∙ ap (λ ts. old ++ begin_array ∷ ts) (sym (items_end p.done)) ∙ ap (λ ds. old ++ tokens_of (array ds)) (sym (p.whole ∙ ap (items_after t at p.done) none))
