-- The leafs that the key of a list names.
use Rattle.std.proofs.Common.{◌≡◌, ◌∙◌, ◌<◌, inl, inr, ℕ, List, [], ◌∷◌, ◌++◌, length, map, Bool, true, false, cond, not, ◌&&◌, ◌||◌, ◌==◌, Option, Some, None, slice_get, refl, sym, ap, subst, arith}
use Rattle.std.specs.Prelude.{Contains, is_some, is_none}
use Rattle.std.specs.List.{find}
use Rattle.std.proofs.lemmas.Grind.{common_steps}
use Rattle.std.proofs.lemmas.Bool.{and_parts}
use Rattle.nm_schema_statements.specs.declared.row.Row.{Row}
use Rattle.nm_schema_statements.specs.declared.word.Word.{Word}
use Rattle.nm_schema_statements.specs.declared.word.Word.TheVariants as word
use Rattle.nm_schema_statements.specs.declared.flaw.Flaw.{Flaw}
use Rattle.nm_schema_statements.specs.Word.{same_word}
use Rattle.nm_schema_statements.specs.Flaw.{text_of}
use Rattle.nm_schema_statements.specs.Rows.{has_word, first_with, first_below, children}
use Rattle.nm_types.specs.Spells.{IsOnce}
use Rattle.nm_schema_uses.specs.Arguments.{argument_at}
use Rattle.nm_schema_uses.specs.Passing.{plain_members}
use Rattle.nm_schema_keys.specs.declared.found.Found.{Found}
use Rattle.nm_schema_keys.specs.declared.found.Found.TheVariants as found
use Rattle.nm_schema_keys.specs.ConfigUse.{ConfigUse, loses_state, is_lost}
use Rattle.nm_schema_keys.specs.Words.{own_name, words_of}
use Rattle.nm_schema_keys.specs.Found.{is_called, row_or_missing, is_fit, fitting, named_among, fit_among}
use Rattle.nm_schema_keys.specs.Said.{Said, said_within, said_in, said_at}
use Rattle.nm_schema_keys.specs.Keys.{key_leaf, has_row, word_flaw, row_found, words_flaw, leafs_named, key_words_flaw, key_words_leafs, said_keys, keys_at, keys_of}
use Rattle.nm_schema.proofs.Elements.{here, later, nothing, first_or_later, of_map, finds_some}
use Rattle.nm_schema.proofs.Onces.{same_bytes}
use Rattle.nm_schema.proofs.Faultless.{or_none}
use Rattle.nm_schema.proofs.Givens.{one_of, parent_is}

-- ---- the statement

first_by : (rows : List Row) (w : Word) (k i : ℕ) (ks : List ℕ) (b : Bool) → (first_with rows w ks ≡ Some i → Contains ks i) → cond b (Some k) (first_with rows w ks) ≡ Some i → Contains (k ∷ ks) i
first_by rows w k i ks true more e = let same : k ≡ i = cc in here k i ks same
first_by rows w k i ks false more e = later k i ks (more e)

pub first_among : (rows : List Row) (w : Word) (ks : List ℕ) (i : ℕ) → first_with rows w ks ≡ Some i → Contains ks i
first_among rows w [] i e = absurd (cc)
first_among rows w (k ∷ ks) i e = first_by rows w k i ks (has_word w (slice_get rows k)) (first_among rows w ks i) e

said_one : (rows : List Row) (r : Row) (l : ℕ) (s : Said) (c : Bool) → cond c (Some (record { list = l; owner = r.«module»; text = text_of r.argument })) None ≡ Some s → s.list ≡ l
said_one rows r l s true e =
    let made : Said = record { list = l; owner = r.«module»; text = text_of r.argument } in
    let same : made ≡ s = cc in
    ap (λ (x : Said). x.list) (sym same)
said_one rows r l s false e = absurd (cc)

said_by : (rows : List Row) (r : Row) (l : ℕ) (s : Said) (b : Bool) → cond b (said_within rows r (Some l)) None ≡ Some s → s.list ≡ l
said_by rows r l s true e = said_one rows r l s (has_word word.List (slice_get rows l)) e
said_by rows r l s false e = absurd (cc)

-- a statement that stands in list l is that of list l
pub said_in_list : (rows : List Row) (w : Word) (l i : ℕ) (s : Said) → Contains (children rows l) i → said_at rows w i ≡ Some s → s.list ≡ l
unfolding said_at
said_in_list rows w l i s among e =
    let one = one_of 0 (Some l) rows i among in
    let at : slice_get rows i ≡ Some one.row = ap (slice_get rows) (one.number ∙ omega arith) ∙ one.there in
    let f : said_in rows w (Some one.row) ≡ Some s = sym (ap (said_in rows w) at) ∙ e in
    let g : cond (same_word one.row.word w) (said_within rows one.row (Some l)) None ≡ Some s = sym (ap (λ (p : Option ℕ). cond (same_word one.row.word w) (said_within rows one.row p) None) (parent_is one.row.parent l one.stands)) ∙ f in
    said_by rows one.row l s (same_word one.row.word w) g

said_list : (rows : List Row) (l i : ℕ) (s : Said) → first_below rows l word.Key ≡ Some i → said_at rows word.Key i ≡ Some s → s.list ≡ l
said_list rows l i s first e = said_in_list rows word.Key l i s (first_among rows word.Key (children rows l) i first) e

-- ---- the words

-- row k is a leaf, and the first of some nodes that has its name
pub record IsLeafRow (rows : List Row) (nodes : List ℕ) (k : ℕ) : Type 0 where
  pub among : Contains nodes k
  pub leaf : has_word word.Leaf (slice_get rows k) ≡ true
  pub first : find (is_called rows (argument_at rows k)) nodes ≡ Some k

has_append : (xs ys : List ℕ) (k : ℕ) → has_row (xs ++ ys) k ≡ (has_row xs k || has_row ys k)
has_append [] ys k = refl
has_append (x ∷ xs) ys k = rw (has_append xs ys k) (or_turn (k == x) (has_row xs k) (has_row ys k))
  where
    or_turn : (a b c : Bool) → (a || (b || c)) ≡ ((a || b) || c)
    or_turn true b c = refl
    or_turn false b c = refl

left_false : (a b : Bool) → (a || b) ≡ false → a ≡ false
left_false true b e = absurd (cc)
left_false false b e = refl

not_before : (taken more : List ℕ) (k : ℕ) → has_row (taken ++ more) k ≡ false → has_row taken k ≡ false
not_before taken more k e = left_false (has_row taken k) (has_row more k) (sym (has_append taken more k) ∙ e)

has_last : (taken : List ℕ) (i : ℕ) → has_row (taken ++ i ∷ []) i ≡ true
has_last taken i = has_append taken (i ∷ []) i ∙ right (has_row taken i) (i == i) (grind (arith, common_steps))
  where
    right : (a b : Bool) → b ≡ true → (a || (b || false)) ≡ true
    right true b e = refl
    right false true e = refl
    right false false e = e

free : (b : Bool) (f : Flaw) → cond b (Some f) None ≡ None → b ≡ false
free true f e = absurd (cc)
free false f e = refl

module _ (leaf : List ℕ → Found) where
  not_taken : (texts : List (List ℕ)) (taken : List ℕ) (k : ℕ) → words_flaw leaf taken texts ≡ None → Contains (leafs_named leaf texts) k → has_row taken k ≡ false
  not_taken [] taken k e c = absurd (nothing k c)
  not_taken (t ∷ ts) taken k e c = by (leaf t) (λ more. not_taken ts more k) (or_none (word_flaw taken t (leaf t)) (words_flaw leaf (taken ++ row_found (leaf t)) ts) e) c
    where
      by : (f : Found) → ((more : List ℕ) → words_flaw leaf more ts ≡ None → Contains (leafs_named leaf ts) k → has_row more k ≡ false)
          → (word_flaw taken t f ≡ None) × (words_flaw leaf (taken ++ row_found f) ts ≡ None) → Contains (row_found f ++ leafs_named leaf ts) k → has_row taken k ≡ false
      by (found.Row i) rest (a, b) d = elim (first_or_later i k (leafs_named leaf ts) d) [
        | inl same ↦ ap (has_row taken) (sym same) ∙ free (has_row taken i) _ a
        | inr g ↦ not_before taken (i ∷ []) k (rest (taken ++ i ∷ []) b g)
      ]
      by found.Missing rest (a, b) d = absurd (cc)
      by found.Unknown rest (a, b) d = not_before taken [] k (rest (taken ++ []) b d)

  -- a leaf that is named is that of a word
  pub named_by : (texts : List (List ℕ)) (k : ℕ) → Contains (leafs_named leaf texts) k → (text : List ℕ) × (leaf text ≡ found.Row k)
  named_by [] k c = absurd (nothing k c)
  named_by (t ∷ ts) k c = by (leaf t) refl (named_by ts k) c
    where
      by : (f : Found) → leaf t ≡ f → (Contains (leafs_named leaf ts) k → (text : List ℕ) × (leaf text ≡ found.Row k)) → Contains (row_found f ++ leafs_named leaf ts) k → (text : List ℕ) × (leaf text ≡ found.Row k)
      by (found.Row i) is rest d = elim (first_or_later i k (leafs_named leaf ts) d) [
        | inl same ↦ (t, is ∙ ap (λ (n : ℕ). found.Row n) same)
        | inr g ↦ rest g
      ]
      by found.Missing is rest d = rest d
      by found.Unknown is rest d = rest d

  words_none : (text : List ℕ) (texts : List (List ℕ)) (taken : List ℕ) → words_flaw leaf taken (text ∷ texts) ≡ None → ¬ (leaf text ≡ found.Unknown) → 0 < length (leafs_named leaf (text ∷ texts))
  words_none text texts taken e known = by (leaf text) refl (or_none (word_flaw taken text (leaf text)) (words_flaw leaf (taken ++ row_found (leaf text)) texts) e).0
    where
      by : (f : Found) → leaf text ≡ f → word_flaw taken text f ≡ None → 0 < length (row_found f ++ leafs_named leaf texts)
      by (found.Row i) is g = omega arith
      by found.Missing is g = absurd (cc)
      by found.Unknown is g = absurd (known is)

  module _ (rows : List Row) (nodes : List ℕ) (each : (text : List ℕ) (k : ℕ) → leaf text ≡ found.Row k → IsLeafRow rows nodes k) where
    one_row : (i j : ℕ) → IsLeafRow rows nodes i → IsLeafRow rows nodes j → argument_at rows j ≡ argument_at rows i → i ≡ j
    one_row i j one other e =
        let both : Some i ≡ Some j = sym one.first ∙ ap (λ (w : List ℕ). find (is_called rows w) nodes) (sym e) ∙ other.first in
        cc

    leafs_once : (texts : List (List ℕ)) (taken : List ℕ) → words_flaw leaf taken texts ≡ None → IsOnce (map (argument_at rows) (leafs_named leaf texts))
    leafs_once [] taken e = tt
    leafs_once (t ∷ ts) taken e = by (leaf t) refl (λ more. leafs_once ts more) (or_none (word_flaw taken t (leaf t)) (words_flaw leaf (taken ++ row_found (leaf t)) ts) e)
      where
        by : (f : Found) → leaf t ≡ f → ((more : List ℕ) → words_flaw leaf more ts ≡ None → IsOnce (map (argument_at rows) (leafs_named leaf ts)))
            → (word_flaw taken t f ≡ None) × (words_flaw leaf (taken ++ row_found f) ts ≡ None) → IsOnce (map (argument_at rows) (row_found f ++ leafs_named leaf ts))
        by (found.Row i) is rest (a, b) = (
          λ c. (
              let r = of_map (argument_at rows) (leafs_named leaf ts) (argument_at rows i) c in
              let named = named_by ts r.0 r.1 in
              let same = one_row i r.0 (each t i is) (each named.0 r.0 named.1) r.2 in
              let out = not_taken ts (taken ++ i ∷ []) r.0 b r.1 in
              let no : has_row (taken ++ i ∷ []) i ≡ false = ap (has_row (taken ++ i ∷ [])) same ∙ out in
              let yes = has_last taken i in
              cc
              ),
          rest (taken ++ i ∷ []) b,
        )
        by found.Missing is rest (a, b) = absurd (cc)
        by found.Unknown is rest (a, b) = rest (taken ++ []) b

-- ---- what a word names

module _ (rows : List Row) (nodes : List ℕ) (loses : Bool) (m : ℕ) where
  fits : (i k : ℕ) (name : List ℕ) (b : Bool) → is_fit rows loses word.Leaf i ≡ b → find (is_called rows name) nodes ≡ Some i → cond b (found.Row i) found.Missing ≡ found.Row k → IsLeafRow rows nodes k
  unfolding is_fit is_called
  fits i k name false fit is e = absurd (cc)
  fits i k name true fit is e =
      let same : i ≡ k = cc in
      let c = finds_some (is_called rows name) nodes i is in
      let called : argument_at rows i ≡ name = same_bytes (argument_at rows i) name c.1 in
      let leaf_word : has_word word.Leaf (slice_get rows i) ≡ true = (and_parts (has_word word.Leaf (slice_get rows i)) (not (is_lost rows loses i)) fit).0 in
      let it : IsLeafRow rows nodes i = record { among = c.0; leaf = leaf_word; first = ap (λ (w : List ℕ). find (is_called rows w) nodes) called ∙ is } in
      subst (λ (j : ℕ). IsLeafRow rows nodes j) same it

  found_row : (name : List ℕ) (o : Option ℕ) (k : ℕ) → find (is_called rows name) nodes ≡ o → fitting rows loses word.Leaf (row_or_missing o) ≡ found.Row k → IsLeafRow rows nodes k
  found_row name None k is e = absurd (cc)
  found_row name (Some i) k is e = fits i k name (is_fit rows loses word.Leaf i) refl is e

  named_row : (o : Option (List ℕ)) (k : ℕ) → fitting rows loses word.Leaf (named_among rows (Some nodes) o) ≡ found.Row k → IsLeafRow rows nodes k
  named_row None k e = absurd (cc)
  named_row (Some name) k e = found_row name (find (is_called rows name) nodes) k refl e

  leaf_row : (text : List ℕ) (k : ℕ) → key_leaf rows (Some nodes) loses m text ≡ found.Row k → IsLeafRow rows nodes k
  unfolding key_leaf fit_among
  leaf_row text k e = named_row (own_name rows m text) k e

  fit_known : (b : Bool) (i : ℕ) → cond b (found.Row i) found.Missing ≡ found.Unknown → ⊥
  fit_known true i e = cc
  fit_known false i e = cc

  found_known : (o : Option ℕ) → fitting rows loses word.Leaf (row_or_missing o) ≡ found.Unknown → ⊥
  found_known None e = cc
  found_known (Some i) e = fit_known (is_fit rows loses word.Leaf i) i e

  named_known : (o : Option (List ℕ)) → fitting rows loses word.Leaf (named_among rows (Some nodes) o) ≡ found.Unknown → ⊥
  named_known None e = cc
  named_known (Some name) e = found_known (find (is_called rows name) nodes) e

  leaf_known : (text : List ℕ) → key_leaf rows (Some nodes) loses m text ≡ found.Unknown → ⊥
  unfolding key_leaf fit_among
  leaf_known text e = named_known (own_name rows m text) e

-- ---- the key of a list

-- the key leafs of a list: members of it that stand in no choice, each by a name of its own
pub record HasKeyRows (rows : List Row) (groupings : List (Option ℕ)) (l : ℕ) (leafs : List ℕ) : Type 0 where
  pub nodes : List ℕ
  pub known : plain_members rows groupings l ≡ Some nodes
  pub some : 0 < length leafs
  pub each : (k : ℕ) → Contains leafs k → IsLeafRow rows nodes k
  pub once : IsOnce (map (argument_at rows) leafs)

none_is : (o : Option Flaw) (b : Bool) (leafs found : List ℕ) → cond (is_none o && b) (Some found) None ≡ Some leafs → (o ≡ None) × (b ≡ true) × (leafs ≡ found)
none_is None true leafs found e = (refl, refl, cc)
none_is None false leafs found e = absurd (cc)
none_is (Some f) b leafs found e = absurd (cc)

module _ (rows : List Row) (groupings : List (Option ℕ)) (l : ℕ) (leafs : List ℕ) where
  leafs_known : (nodes : List ℕ) (loses : Bool) (m : ℕ) (texts : List (List ℕ)) → plain_members rows groupings l ≡ Some nodes → key_words_flaw (key_leaf rows (Some nodes) loses m) texts ≡ None
      → leafs ≡ leafs_named (key_leaf rows (Some nodes) loses m) texts → HasKeyRows rows groupings l leafs
  leafs_known nodes loses m [] known e is = absurd (cc)
  leafs_known nodes loses m (text ∷ texts) known e is =
      let leaf = key_leaf rows (Some nodes) loses m in
      let it : HasKeyRows rows groupings l (leafs_named leaf (text ∷ texts)) = record {
        nodes = nodes;
        known = known;
        some = words_none leaf text texts [] e (leaf_known rows nodes loses m text);
        each = λ k c. (let n = named_by leaf (text ∷ texts) k c in leaf_row rows nodes loses m n.0 k n.1);
        once = leafs_once leaf rows nodes (leaf_row rows nodes loses m) (text ∷ texts) [] e;
      } in
      subst (λ (ls : List ℕ). HasKeyRows rows groupings l ls) (sym is) it

  leafs_in : (o : Option (List ℕ)) (loses : Bool) (m : ℕ) (texts : List (List ℕ)) → plain_members rows groupings l ≡ o → key_words_leafs (key_leaf rows o loses m) (is_some o) texts ≡ Some leafs → HasKeyRows rows groupings l leafs
  leafs_in None loses m texts known e =
      let n = none_is (key_words_flaw (key_leaf rows None loses m) texts) false leafs (leafs_named (key_leaf rows None loses m) texts) e in
      let no = n.1 in
      absurd (cc)
  leafs_in (Some nodes) loses m texts known e =
      let n = none_is (key_words_flaw (key_leaf rows (Some nodes) loses m) texts) true leafs (leafs_named (key_leaf rows (Some nodes) loses m) texts) e in
      leafs_known nodes loses m texts known n.0 n.2

  module _ (standing : ConfigUse) where
    said_leafs : (o : Option Said) → ((s : Said) → o ≡ Some s → s.list ≡ l) → said_keys rows groupings standing o ≡ Some leafs → HasKeyRows rows groupings l leafs
    said_leafs None of e = absurd (cc)
    said_leafs (Some s) of e =
        let f : said_keys rows groupings standing (Some (record { list = l; owner = s.owner; text = s.text })) ≡ Some leafs =
        sym (ap (λ (n : ℕ). said_keys rows groupings standing (Some (record { list = n; owner = s.owner; text = s.text }))) (of s refl)) ∙ e in
        leafs_in (plain_members rows groupings l) (loses_state standing l) s.owner (words_of s.text) refl f

    at_leafs : (o : Option ℕ) → first_below rows l word.Key ≡ o → keys_at rows groupings standing o ≡ Some leafs → HasKeyRows rows groupings l leafs
    at_leafs None is e = absurd (cc)
    at_leafs (Some i) is e = said_leafs (said_at rows word.Key i) (λ s at. said_list rows l i s is at) e

    -- the key leafs of list l
    pub key_rows : keys_of rows groupings standing l ≡ Some leafs → HasKeyRows rows groupings l leafs
    unfolding keys_of
    key_rows e = at_leafs (first_below rows l word.Key) refl e
