-- The keys of lists and the leafs of unique statements are known where no fault is found (RFC 7950 sections 7.8.2 and 7.8.3).
use Rattle.std.proofs.Common.{◌≡◌, ◌∙◌, ℕ, List, [], ◌∷◌, filter, fold, Bool, true, false, cond, ◌&&◌, ◌||◌, ◌==◌, Option, Some, None, slice_get, slice_index_or, refl, sym, ap, subst, arith}
use Rattle.std.specs.Prelude.{Contains, is_some, not, unwrap_or, ⊤, option_map}
use Rattle.std.specs.List.{find}
use Rattle.std.proofs.lemmas.Bool.Decides.{nat_tests}
use Rattle.std.proofs.lemmas.Option.{same_Some}
use Rattle.nm_schema_statements.specs.declared.row.Row.{Row}
use Rattle.nm_schema_statements.specs.declared.word.Word.{Word}
use Rattle.nm_schema_statements.specs.declared.word.Word.TheVariants as word
use Rattle.nm_schema_statements.specs.declared.flaw.Flaw.TheVariants as flaw
use Rattle.nm_schema_statements.specs.Word.{same_word}
use Rattle.nm_schema_statements.specs.Flaw.{is_there, text_of}
use Rattle.nm_schema_statements.specs.Rows.{has_word, children, first_below}
use Rattle.nm_schema_statements.proofs.Words.{same_itself}
use Rattle.nm_schema_uses.specs.Config.{IsConfiguration, is_state, is_keyless_in, is_keyless}
use Rattle.nm_schema_uses.specs.Members.{members}
use Rattle.nm_schema_uses.specs.Passing.{kept_members, plain_members}
use Rattle.nm_schema_keys.specs.declared.found.Found.{Found}
use Rattle.nm_schema_keys.specs.declared.found.Found.TheVariants as found
use Rattle.nm_schema_keys.specs.declared.passage.Passage.{Passage}
use Rattle.nm_schema_keys.specs.declared.passage.Passage.TheVariants as passage
use Rattle.nm_schema_keys.specs.ConfigUse.{loses_state, is_lost}
use Rattle.nm_schema_keys.specs.Words.{words_of, pieces_of, own_name}
use Rattle.nm_schema_keys.specs.Found.{is_called, row_or_missing, found_among, agreed, seen_among, is_fit, fitting, named_among, member_called, fit_member, fit_among}
use Rattle.nm_schema_keys.specs.Said.{said_within, said_in, said_at}
use Rattle.nm_schema_keys.specs.Keys.{key_leaf, key_words_flaw, key_words_leafs, leafs_named, said_key_flaw, key_flaw, said_keys, keys_at, keys_of}
use Rattle.nm_schema_keys.specs.Uniques.{word_before, next_row, behind, passage_from, passage_along, passage_of, is_missing, leads_nowhere, way_through, way_of, unique_words_flaw, unique_words_ways, said_unique_flaw, unique_flaw, said_unique, unique_at, is_unique, uniques_of}
use Rattle.nm_schema_nodes.specs.declared.instance.Instance.{Instance}
use Rattle.nm_schema_nodes.specs.Expansion.{kept_below, IsExpansion}
use Rattle.nm_schema_faults.specs.Facts.{Facts, AreFacts, definitions, is_marked, standing}
use Rattle.nm_schema_faults.specs.Flaw.{bad_if, list_flaw}
use Rattle.nm_schema.specs.Faultless.{AreFaultless}
use Rattle.nm_schema.specs.Kind.{named_as, nodes_named, keys_in, further as further_node, reached, group_in, groups_of, groups_in}
use Rattle.nm_schema.proofs.Elements.{of_filter, finds_none, finds_some}
use Rattle.nm_schema.proofs.Claims.{AreOrderly}
use Rattle.nm_schema.proofs.Keys.{key_rows, named_by}
use Rattle.nm_schema.proofs.Uniques.{all_of}
use Rattle.nm_schema.proofs.Valued.{all_known}
use Rattle.nm_schema.proofs.Listings.{StandsIn, stands, first_stands}
use Rattle.nm_schema.proofs.Membered.{members_known, kept_known, plain_known}
use Rattle.nm_schema.proofs.Configured.{plain_kept, configured, IsChild, child_found}

-- ---- where names lead

module _ (rows : List Row) (loses : Bool) where
  fit_kept : (wanted : Word) (f : Found) (k : ℕ) → fitting rows loses wanted f ≡ found.Row k → is_lost rows loses k ≡ false
  unfolding is_fit
  fit_kept wanted found.Missing k e = absurd (cc)
  fit_kept wanted found.Unknown k e = absurd (cc)
  fit_kept wanted (found.Row j) k e = by (has_word wanted (slice_get rows j)) (is_lost rows loses j) refl e
    where
      by : (a b : Bool) → is_lost rows loses j ≡ b → cond (a && not b) (found.Row j) found.Missing ≡ found.Row k → is_lost rows loses k ≡ false
      by true false lost f = let same : j ≡ k = cc in subst (λ (x : ℕ). is_lost rows loses x ≡ false) same lost
      by true true lost f = absurd (cc)
      by false b lost f = absurd (cc)

  abbrev IsSure : Found → Type 0
  IsSure (found.Row i) = ⊤
  IsSure found.Missing = ⊤
  IsSure found.Unknown = ⊥

  row_sure : (o : Option ℕ) → IsSure (row_or_missing o)
  row_sure None = tt
  row_sure (Some i) = tt

  agreed_sure : (a b : Found) → IsSure a → IsSure b → IsSure (agreed a b)
  agreed_sure (found.Row i) (found.Row j) x y = by (i == j)
    where
      by : (c : Bool) → IsSure (cond c (found.Row i) found.Missing)
      by true = tt
      by false = tt
  agreed_sure (found.Row i) found.Missing x y = tt
  agreed_sure (found.Row i) found.Unknown x y = absurd y
  agreed_sure found.Missing b x y = tt
  agreed_sure found.Unknown b x y = absurd x

  among_sure : (o : Option (List ℕ)) (nodes name : List ℕ) → o ≡ Some nodes → IsSure (found_among rows o name)
  among_sure o nodes name e = subst (λ (x : Option (List ℕ)). IsSure (found_among rows x name)) (sym e) (row_sure (find (is_called rows name) nodes))

  seen_sure : (o p : Option (List ℕ)) (nodes kept name : List ℕ) → o ≡ Some nodes → p ≡ Some kept → IsSure (seen_among rows loses o p name)
  seen_sure o p nodes kept name e f = by loses
    where
      by : (b : Bool) → IsSure (cond b (agreed (found_among rows o name) (found_among rows p name)) (found_among rows o name))
      by true = agreed_sure (found_among rows o name) (found_among rows p name) (among_sure o nodes name e) (among_sure p kept name f)
      by false = among_sure o nodes name e

  fitting_sure : (wanted : Word) (f : Found) → IsSure f → IsSure (fitting rows loses wanted f)
  fitting_sure wanted (found.Row i) s = by (is_fit rows loses wanted i)
    where
      by : (b : Bool) → IsSure (cond b (found.Row i) found.Missing)
      by true = tt
      by false = tt
  fitting_sure wanted found.Missing s = tt
  fitting_sure wanted found.Unknown s = absurd s

eqb_is : (x y : ℕ) → (x == y) ≡ true → x ≡ y
eqb_is x y e = grind (arith, nat_tests)

abbrev IsSurePassage : Passage → Type 0
IsSurePassage (passage.Through way) = ⊤
IsSurePassage passage.Missing = ⊤
IsSurePassage passage.Unknown = ⊥

behind_sure : (front : List ℕ) (p : Passage) → IsSurePassage p → IsSurePassage (behind front p)
behind_sure front (passage.Through way) s = tt
behind_sure front passage.Missing s = tt
behind_sure front passage.Unknown s = absurd s

-- ---- the rows of keys and unique statements

module _ (rows : List Row) (facts : Facts) (are : AreFacts rows facts) (all : AreFaultless rows facts) (order : AreOrderly rows (definitions rows)) (expansion : IsExpansion rows (definitions rows) facts.nodes) where
  abbrev defs : List (Option ℕ)
  defs = definitions rows

  said_is : (l k : ℕ) (r : Row) (w : Word) → slice_get rows l ≡ Some r → r.word ≡ word.List → (s : StandsIn rows l k w) → said_at rows w k ≡ Some (record { list = l; owner = s.row.«module»; text = text_of s.row.argument })
  unfolding said_at
  said_is l k r w is list s =
      let its : same_word s.row.word w ≡ true = same_itself s.row.word w s.word_is in
      let above : has_word word.List (slice_get rows l) ≡ true = ap (has_word word.List) is ∙ same_itself r.word word.List list in
      ap (said_in rows w) s.there
      ∙ ap (λ (b : Bool). cond b (said_within rows s.row s.row.parent) None) its
      ∙ ap (said_within rows s.row) s.parent
      ∙ ap (λ (b : Bool). cond b (Some (record { list = l; owner = s.row.«module»; text = text_of s.row.argument })) None) above

  -- a list of configuration has a key
  key_there : (l : ℕ) (r : Row) → slice_get rows l ≡ Some r → r.word ≡ word.List → IsConfiguration rows defs l → (k : ℕ) × (first_below rows l word.Key ≡ Some k)
  unfolding list_flaw is_keyless is_marked
  key_there l r is list config = by (first_below rows l word.Key) refl
    where
      its : same_word r.word word.List ≡ true
      its = same_itself r.word word.List list

      marked : slice_index_or facts.configured l false ≡ true
      marked = (are.configured l).1 config

      by : (o : Option ℕ) → first_below rows l word.Key ≡ o → (k : ℕ) × (first_below rows l word.Key ≡ Some k)
      by (Some k) first = (k, first)
      by None first =
          let e : bad_if (is_keyless_in rows l (slice_get rows l) && slice_index_or facts.configured l false) word.Key ≡ None = (all.each l r is).list in
          let keyless : is_keyless_in rows l (slice_get rows l) ≡ true = ap (is_keyless_in rows l) is ∙ ap (λ (b : Bool). b && not (is_there (first_below rows l word.Key))) its ∙ ap (λ (o : Option ℕ). not (is_there o)) first in
          let no : bad_if (true && true) word.Key ≡ None = sym (ap (λ (b : Bool). bad_if (b && slice_index_or facts.configured l false) word.Key) keyless ∙ ap (λ (b : Bool). bad_if (true && b) word.Key) marked) ∙ e in
          absurd (cc)

  -- state is lost in it
  loses : (l : ℕ) → IsConfiguration rows defs l → loses_state (standing facts) l ≡ true
  unfolding is_marked
  loses l config = ap (λ (b : Bool). b || not (slice_index_or facts.in_state l false)) ((are.configured l).1 config)

  module _ (l : ℕ) (r : Row) (is : slice_get rows l ≡ Some r) (list : r.word ≡ word.List) (config : IsConfiguration rows defs l) where
    abbrev lost : Bool
    lost = loses_state (standing facts) l

    -- ---- keys

    leafs_there : (leaf : List ℕ → Found) (known : Bool) (texts : List (List ℕ)) → key_words_flaw leaf texts ≡ None → known ≡ true → key_words_leafs leaf known texts ≡ Some (leafs_named leaf texts)
    leafs_there leaf known texts none e = rw (none, e) refl

    -- the key leafs of the list are known, and kept
    pub keys_known : (leafs : List ℕ) × (keys_of rows defs (standing facts) l ≡ Some leafs) × ((k : ℕ) → Contains leafs k → Contains (kept_below rows defs l) k)
    unfolding keys_of key_flaw key_leaf fit_among is_lost
    keys_known = (leafs, known, kept)
      where
        key : (k : ℕ) × (first_below rows l word.Key ≡ Some k)
        key = key_there l r is list config

        s : StandsIn rows l key.0 word.Key
        s = first_stands rows l key.0 word.Key key.1

        texts : List (List ℕ)
        texts = words_of (text_of s.row.argument)

        leaf : List ℕ → Found
        leaf = key_leaf rows (plain_members rows defs l) lost s.row.«module»

        leafs : List ℕ
        leafs = leafs_named leaf texts

        none : key_words_flaw leaf texts ≡ None
        none = sym (ap (said_key_flaw rows defs (standing facts)) (said_is l key.0 r word.Key is list s)) ∙ (all.each key.0 s.row s.there).key

        known : keys_at rows defs (standing facts) (first_below rows l word.Key) ≡ Some leafs
        known =
            ap (keys_at rows defs (standing facts)) key.1
            ∙ ap (said_keys rows defs (standing facts)) (said_is l key.0 r word.Key is list s)
            ∙ leafs_there leaf (is_some (plain_members rows defs l)) texts none (ap (λ (o : Option (List ℕ)). is_some o) (plain_known rows defs order l).1)

        kept : (k : ℕ) → Contains leafs k → Contains (kept_below rows defs l) k
        kept k c =
            let h = key_rows rows defs l leafs (standing facts) known in
            let t = named_by leaf texts k c in
            let not_lost : is_lost rows lost k ≡ false = fit_kept rows lost word.Leaf (named_among rows (plain_members rows defs l) (own_name rows s.row.«module» t.0)) k t.1 in
            let state : is_state rows k ≡ false = sym (ap (λ (b : Bool). b && is_state rows k) (loses l config)) ∙ not_lost in
            plain_kept rows defs order l k h.nodes h.known (h.each k c).among state

    -- ---- unique statements

    module _ (m : ℕ) where
      next_sure : (i : ℕ) (piece : List ℕ) (pieces : List (List ℕ)) → IsSure rows lost (next_row rows defs lost m i piece pieces)
      unfolding next_row fit_member
      next_sure i piece pieces = fitting_sure rows lost (word_before pieces) (member_called rows defs lost i (own_name rows m piece)) (by (own_name rows m piece))
        where
          by : (o : Option (List ℕ)) → IsSure rows lost (member_called rows defs lost i o)
          by None = tt
          by (Some name) = let a = members_known rows defs order i in let b = kept_known rows defs order i in seen_sure rows lost (members rows defs i) (kept_members rows defs i) a.0 b.0 name a.1 b.1

      along_sure : (pieces : List (List ℕ)) (i : ℕ) → IsSurePassage (passage_along rows defs lost m i pieces)
      along_sure [] i = tt
      along_sure (piece ∷ pieces) i = by (next_row rows defs lost m i piece pieces) (next_sure i piece pieces) (along_sure pieces)
        where
          by : (f : Found) → IsSure rows lost f → ((j : ℕ) → IsSurePassage (passage_along rows defs lost m j pieces)) → IsSurePassage (passage_from f (λ j. passage_along rows defs lost m j pieces))
          by (found.Row j) s rest = behind_sure (j ∷ []) (passage_along rows defs lost m j pieces) (rest j)
          by found.Missing s rest = tt
          by found.Unknown s rest = absurd s

      way_there : (text : List ℕ) → leads_nowhere rows defs lost m l text ≡ false → (way : List ℕ) × (way_of rows defs lost m l text ≡ Some way)
      unfolding leads_nowhere way_of passage_of
      way_there text e = by (passage_along rows defs lost m l (pieces_of text)) (along_sure (pieces_of text) l) e
        where
          by : (p : Passage) → IsSurePassage p → is_missing p ≡ false → (way : List ℕ) × (way_through p ≡ Some way)
          by (passage.Through way) s f = (way, refl)
          by passage.Missing s f = absurd (cc)
          by passage.Unknown s f = absurd s

      -- ---- and lead through what is kept

      both_agreed : (a b : Found) (i : ℕ) → agreed a b ≡ found.Row i → b ≡ found.Row i
      both_agreed (found.Row j) (found.Row k) i e = by (j == k) refl e
        where
          by : (c : Bool) → (j == k) ≡ c → cond c (found.Row j) found.Missing ≡ found.Row i → found.Row k ≡ found.Row i
          by true is f = let same : j ≡ k = eqb_is j k is in ap (λ (x : ℕ). found.Row x) (sym same) ∙ f
          by false is f = absurd (cc)
      both_agreed (found.Row j) found.Missing i e = absurd (cc)
      both_agreed (found.Row j) found.Unknown i e = absurd (cc)
      both_agreed found.Missing b i e = absurd (cc)
      both_agreed found.Unknown b i e = absurd (cc)

      found_kept : (i j : ℕ) (o : Option (List ℕ)) (name : List ℕ) → kept_members rows defs i ≡ o → found_among rows o name ≡ found.Row j → Contains (kept_below rows defs i) j
      unfolding kept_below
      found_kept i j None name is e = absurd (cc)
      found_kept i j (Some nodes) name is e = by (find (is_called rows name) nodes) refl e
        where
          by : (o : Option ℕ) → find (is_called rows name) nodes ≡ o → row_or_missing o ≡ found.Row j → Contains (unwrap_or (kept_members rows defs i) []) j
          by None at f = absurd (cc)
          by (Some k) at f =
              let same : k ≡ j = cc in
              subst (λ (x : Option (List ℕ)). Contains (unwrap_or x []) j) (sym is) (finds_some (is_called rows name) nodes j (at ∙ ap (λ (x : ℕ). Some x) same)).0

      fitting_is : (wanted : Word) (f : Found) (j : ℕ) → fitting rows lost wanted f ≡ found.Row j → f ≡ found.Row j
      fitting_is wanted (found.Row k) j e = by (is_fit rows lost wanted k) e
        where
          by : (b : Bool) → cond b (found.Row k) found.Missing ≡ found.Row j → found.Row k ≡ found.Row j
          by true f = f
          by false f = absurd (cc)
      fitting_is wanted found.Missing j e = absurd (cc)
      fitting_is wanted found.Unknown j e = absurd (cc)

      next_kept : (i j : ℕ) (piece : List ℕ) (pieces : List (List ℕ)) → next_row rows defs lost m i piece pieces ≡ found.Row j → Contains (kept_below rows defs i) j
      unfolding next_row fit_member
      next_kept i j piece pieces e = by (own_name rows m piece) (fitting_is (word_before pieces) (member_called rows defs lost i (own_name rows m piece)) j e)
        where
          by : (o : Option (List ℕ)) → member_called rows defs lost i o ≡ found.Row j → Contains (kept_below rows defs i) j
          by None f = absurd (cc)
          by (Some name) f =
              let seen : agreed (found_among rows (members rows defs i) name) (found_among rows (kept_members rows defs i) name) ≡ found.Row j = sym (ap (λ (b : Bool). seen_among rows b (members rows defs i) (kept_members rows defs i) name) (loses l config)) ∙ f in
              found_kept i j (kept_members rows defs i) name refl (both_agreed (found_among rows (members rows defs i) name) (found_among rows (kept_members rows defs i) name) j seen)

      -- rows that stand one in another
      abbrev IsKeptWay : ℕ → List ℕ → Type 0
      IsKeptWay i [] = ⊤
      IsKeptWay i (j ∷ way) = Contains (kept_below rows defs i) j × IsKeptWay j way

      behind_is : (j : ℕ) (p : Passage) (way : List ℕ) → behind (j ∷ []) p ≡ passage.Through way → (rest : List ℕ) × (p ≡ passage.Through rest) × (j ∷ rest ≡ way)
      behind_is j (passage.Through rest) way e = (rest, refl, cc)
      behind_is j passage.Missing way e = absurd (cc)
      behind_is j passage.Unknown way e = absurd (cc)

      way_kept : (pieces : List (List ℕ)) (i : ℕ) (way : List ℕ) → passage_along rows defs lost m i pieces ≡ passage.Through way → IsKeptWay i way
      way_kept [] i way e = let none : [] ≡ way = cc in subst (λ (w : List ℕ). IsKeptWay i w) none tt
      way_kept (piece ∷ pieces) i way e = by (next_row rows defs lost m i piece pieces) refl e (way_kept pieces)
        where
          by : (f : Found) → next_row rows defs lost m i piece pieces ≡ f → passage_from f (λ j. passage_along rows defs lost m j pieces) ≡ passage.Through way → ((j : ℕ) (rest : List ℕ) → passage_along rows defs lost m j pieces ≡ passage.Through rest → IsKeptWay j rest) → IsKeptWay i way
          by (found.Row j) at f more =
              let b = behind_is j (passage_along rows defs lost m j pieces) way f in
              subst (λ (w : List ℕ). IsKeptWay i w) b.2 (next_kept i j piece pieces at, more j b.0 b.1)
          by found.Missing at f more = absurd (cc)
          by found.Unknown at f more = absurd (cc)

      through : (p : Passage) (way : List ℕ) → way_through p ≡ Some way → p ≡ passage.Through way
      through (passage.Through w) way e = ap passage.Through (same_Some w way e)
      through passage.Missing way e = absurd (cc)
      through passage.Unknown way e = absurd (cc)

      text_kept : (text way : List ℕ) → way_of rows defs lost m l text ≡ Some way → IsKeptWay l way
      unfolding way_of passage_of
      text_kept text way e = way_kept (pieces_of text) l way (through (passage_along rows defs lost m l (pieces_of text)) way e)

    unflawed : (o : Option (List ℕ)) → option_map flaw.BadReference o ≡ None → o ≡ None
    unflawed None e = refl
    unflawed (Some text) e = absurd (cc)

    words_known : (m : ℕ) (texts : List (List ℕ)) → unique_words_flaw (leads_nowhere rows defs lost m l) texts ≡ None → (ways : List (List ℕ)) × (unique_words_ways (way_of rows defs lost m l) texts ≡ Some ways) × ((way : List ℕ) → Contains ways way → IsKeptWay m l way)
    words_known m [] e = absurd (cc)
    words_known m (text ∷ texts) e =
        let none = unflawed (find (leads_nowhere rows defs lost m l) (text ∷ texts)) e in
        let a = all_known (way_of rows defs lost m l) (text ∷ texts) (λ t c. way_there m t (finds_none (leads_nowhere rows defs lost m l) (text ∷ texts) t none c)) in
        (a.0, a.1, λ way c. (let t = all_of (way_of rows defs lost m l) (text ∷ texts) a.0 way a.1 c in text_kept m t.0 way t.2))

    -- the ways of a list's unique statements are known, and go through what is kept
    abbrev AreKeptWays : List (List ℕ) → Type 0
    AreKeptWays ways = (way : List ℕ) → Contains ways way → IsKeptWay 0 l way

    unique_known : (u : ℕ) → Contains (filter (is_unique rows) (children rows l)) u → (ways : List (List ℕ)) × (unique_at rows defs (standing facts) u ≡ Some ways) × AreKeptWays ways
    unfolding unique_at unique_flaw is_unique
    unique_known u c =
        let f = of_filter (λ i. has_word word.Unique (slice_get rows i)) (children rows l) u c in
        let s = stands rows l u word.Unique f.0 f.1 in
        let said = said_is l u r word.Unique is list s in
        let none : unique_words_flaw (leads_nowhere rows defs lost s.row.«module» l) (words_of (text_of s.row.argument)) ≡ None = sym (ap (said_unique_flaw rows defs (standing facts)) said) ∙ (all.each u s.row s.there).unique in
        let w = words_known s.row.«module» (words_of (text_of s.row.argument)) none in
        (w.0, ap (said_unique rows defs (standing facts)) said ∙ w.1, λ way d. w.2 way d)

    uniques_known : (uniques : List (List (List ℕ))) × (uniques_of rows defs (standing facts) l ≡ Some uniques) × ((ways : List (List ℕ)) → Contains uniques ways → AreKeptWays ways)
    unfolding uniques_of
    uniques_known =
        let these = filter (is_unique rows) (children rows l) in
        let a = all_known (unique_at rows defs (standing facts)) these (λ u c. (let k = unique_known u c in (k.0, k.1))) in (
          a.0,
          a.1,
          λ ways c. (
              let u = all_of (unique_at rows defs (standing facts)) these a.0 ways a.1 c in
              let k = unique_known u.0 u.1 in
              subst AreKeptWays (same_Some k.0 ways (sym k.1 ∙ u.2)) k.2
              ),
        )

  -- ---- nodes

  named_node : (x k : ℕ) (a : Instance) → slice_get facts.nodes x ≡ Some a → Contains (kept_below rows defs a.row) k → (y : ℕ) × (named_as rows facts x k ≡ Some y) × IsChild rows facts all order expansion x k y
  unfolding named_as
  named_node x k a at c = child_found rows facts all order expansion x k a at c

  module _ (x : ℕ) (a : Instance) (at : slice_get facts.nodes x ≡ Some a) (r : Row) (is : slice_get rows a.row ≡ Some r) (list : r.word ≡ word.List) where
    abbrev config : IsConfiguration rows defs a.row
    config = configured rows facts all order expansion x a at

    pub list_keys : (keys : List ℕ) × (keys_in rows facts x a.row ≡ Some keys)
    unfolding keys_in
    list_keys =
        let k = keys_known a.row r is list config in
        let n = all_known (named_as rows facts x) k.0 (λ i c. (let y = named_node x i a at (k.2 i c) in (y.0, y.1))) in
        (n.0, ap (nodes_named rows facts x) k.1 ∙ n.1)

    way_reached : (way : List ℕ) (z : ℕ) (c : Instance) (i : ℕ) → slice_get facts.nodes z ≡ Some c → c.row ≡ i → IsKeptWay a.row r is list config 0 i way → (y : ℕ) × (fold (further_node rows facts) (Some z) way ≡ Some y)
    way_reached [] z c i there row kept = (z, refl)
    way_reached (j ∷ way) z c i there row kept =
        let n = named_node z j c there (subst (λ (k : ℕ). Contains (kept_below rows defs k) j) (sym row) kept.0) in
        let y = way_reached way n.0 n.2.place j n.2.there n.2.row_is kept.1 in
        (y.0, ap (λ (o : Option ℕ). fold (further_node rows facts) o way) n.1 ∙ y.1)

    group_known : (ways : List (List ℕ)) → AreKeptWays a.row r is list config ways → (group : List ℕ) × (group_in rows facts x ways ≡ Some group)
    unfolding group_in reached
    group_known ways kept = all_known (reached rows facts x) ways (λ way c. way_reached way x a a.row at refl (kept way c))

    pub list_groups : (groups : List (List ℕ)) × (groups_in rows facts x a.row ≡ Some groups)
    unfolding groups_in
    list_groups =
        let u = uniques_known a.row r is list config in
        let g = all_known (group_in rows facts x) u.0 (λ ways c. group_known ways (u.2 ways c)) in
        (g.0, ap (groups_of rows facts x) u.1 ∙ g.1)
