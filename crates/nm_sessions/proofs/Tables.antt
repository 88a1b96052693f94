-- A slab of sessions as a list in ascending order of the ids.
use Rattle.std.proofs.Common.{◌≡◌, ◌≢◌, ◌⊎◌, ℕ, zero, suc, ◌+◌, ◌<◌, ◌≤◌, Bool, true, false, cond, not, ◌==◌, List, [], ◌∷◌, ◌++◌, length, get_or, Option, Some, None, is_some, filter, refl, sym, ap, ◌∙◌, inl, inr, arith}
use Rattle.std.proofs.lemmas.Bool.Decides.{nat_tests}
use Rattle.std.proofs.lemmas.Bool.{cases_eq, eqb-true, eqb-false, eq-eqb, ne_eqb}
use Rattle.std.proofs.lemmas.List.{length-append}
use Rattle.std.proofs.lemmas.Option.{same_Some}
use Rattle.std.specs.Option.{IfSome, IfNone}
use lib.Dec.{T}
use Rattle.std.specs.declared.cmp.Ordering.TheVariants.{Greater}
use Rattle.std.specs.Ordering.{nat_cmp, eq_by_cmp}
use Rattle.std.specs.Cmp.{nat_cmp_total, nat_cmp_is, unsigned_tied}
use Rattle.std.specs.FinMap.{nat_cmp-IsAntisymmetric}
use Rattle.std.specs.FinMap.Entries.{find, put, is_sorted, by_order, is_sorted-put, find-put, find-where_key, is_sorted-where_key, length_without, same_entries}
use Rattle.slab.specs.Slab.{Slab, get, Updates, slab_len}
use Rattle.nm_sessions.specs.Sessions.{without, IsTable, session_limit, id_after}
use Rattle.nm_sessions.specs.Table.{users_in, AreDistinct, IsSound}

abbrev Session : Type 0
Session = ℕ × List ℕ

same_option : {A : Type 0} (a b : Option A) → ((v : A) → a ≡ Some v → b ≡ Some v) → ((v : A) → b ≡ Some v → a ≡ Some v) → a ≡ b
same_option None None f g = refl
same_option None (Some y) f g = g y refl
same_option (Some x) b f g = sym (f x refl)

at_key : (q k : ℕ) → eq_by_cmp nat_cmp q k ≡ true → q ≡ k
at_key q k t = eqb-true q k (sym (unsigned_tied q k) ∙ t)

at_other : (q k : ℕ) → (q ≡ k → ⊥) → eq_by_cmp nat_cmp q k ≡ false
at_other q k apart = unsigned_tied q k ∙ ne_eqb q k apart

at_itself : (q k : ℕ) → q ≡ k → eq_by_cmp nat_cmp q k ≡ true
at_itself q k same = unsigned_tied q k ∙ eq-eqb q k same

later : (slot : Option Session) (slots : List (Option Session)) → AreDistinct (slot ∷ slots) → AreDistinct slots
later slot slots distinct j k a b x y z = let e : suc j ≡ suc k = distinct (suc j) (suc k) a b x y z in omega arith

-- what is found in the list lies in a slot
pub lies_in : (slots : List (Option Session)) (q : ℕ) (v : List ℕ) → find nat_cmp q (users_in slots) ≡ Some v → (k : ℕ) × (get_or slots k None ≡ Some (q, v))
unfolding users_in
lies_in [] q v e = absurd (cc)
lies_in (None ∷ slots) q v e = let there = lies_in slots q v e in (suc there.0, there.1)
lies_in (Some s ∷ slots) q v e =
    elim (eq_by_cmp nat_cmp q s.0) as (λ b. eq_by_cmp nat_cmp q s.0 ≡ b → cond b (Some s.1) (find nat_cmp q (users_in slots)) ≡ Some v → (k : ℕ) × (get_or (Some s ∷ slots) k None ≡ Some (q, v))) [
      | true ↦ λ t f. (zero, λ i. Some ((sym (at_key q s.0 t)) i, (same_Some s.1 v f) i))
      | false ↦ λ t f. let there = lies_in slots q v f in (suc there.0, there.1)
    ] refl (sym (find-put nat_cmp nat_cmp_total q s.0 s.1 (users_in slots)) ∙ e)

-- what lies in a slot is found in the list
pub is_found : (slots : List (Option Session)) → AreDistinct slots → (k q : ℕ) (v : List ℕ) → get_or slots k None ≡ Some (q, v) → find nat_cmp q (users_in slots) ≡ Some v
unfolding users_in
is_found [] distinct k q v e = absurd (cc)
is_found (None ∷ slots) distinct zero q v e = absurd (cc)
is_found (None ∷ slots) distinct (suc k) q v e = is_found slots (later None slots distinct) k q v e
is_found (Some s ∷ slots) distinct zero q v e =
    let here : s ≡ (q, v) = same_Some s (q, v) e in
    find-put nat_cmp nat_cmp_total q s.0 s.1 (users_in slots)
    ∙ ap (λ b. cond b (Some s.1) (find nat_cmp q (users_in slots))) (at_itself q s.0 (sym (ap (λ p. p.0) here)))
    ∙ ap (λ p. Some p.1) here
is_found (Some s ∷ slots) distinct (suc k) q v e =
    find-put nat_cmp nat_cmp_total q s.0 s.1 (users_in slots)
    ∙ ap (λ b. cond b (Some s.1) (find nat_cmp q (users_in slots))) (at_other q s.0 (λ same. let no : zero ≡ suc k = distinct zero (suc k) s (q, v) refl e (sym same) in omega arith))
    ∙ is_found slots (later (Some s) slots distinct) k q v e

pub users_sorted : (slots : List (Option Session)) → T (is_sorted nat_cmp (users_in slots))
unfolding users_in
users_sorted [] = tt
users_sorted (None ∷ slots) = users_sorted slots
users_sorted (Some s ∷ slots) = is_sorted-put nat_cmp nat_cmp_total s.0 s.1 (users_in slots) (users_sorted slots)

-- a greater key goes to the end
kept_some : (b : Bool) (x : List ℕ) (o : Option (List ℕ)) → is_some o ≡ true → is_some (cond b (Some x) o) ≡ true
kept_some true x o h = refl
kept_some false x o h = h

pub put_last : (k : ℕ) (v : List ℕ) (es : List Session) → ((q : ℕ) → is_some (find nat_cmp q es) ≡ true → q < k) → put nat_cmp k v es ≡ es ++ (k, v) ∷ []
put_last k v [] below = refl
put_last k v (e ∷ es) below =
    let here : e.0 < k = below e.0 (ap (λ b. is_some (cond b (Some e.1) (find nat_cmp e.0 es))) (at_itself e.0 e.0 refl)) in
    ap (λ o. by_order o ((k, v) ∷ e ∷ es) ((e.0, v) ∷ es) (e ∷ put nat_cmp k v es)) (sym (nat_cmp_is k e.0 Greater here))
    ∙ ap (λ rest. e ∷ rest) (put_last k v es (λ q h. below q (kept_some (eq_by_cmp nat_cmp q e.0) e.1 (find nat_cmp q es) h)))

module _ (old new : Slab Session) (key last : ℕ) (sound : IsSound old.slots last) where
  module _ (id : ℕ) (user : List ℕ) (above : last < id) (updates : Updates old new key (Some (id, user))) (vacant : get old key ≡ None) where
    after_put : (k : ℕ) (a : Session) → get new k ≡ Some a → ((k ≡ key) × (a ≡ (id, user))) ⊎ ((k ≡ key → ⊥) × (get old k ≡ Some a))
    after_put k a e = elim (cases_eq k key) [
      | inl same ↦ inl (same, same_Some _ _ (sym e ∙ ap (get new) same ∙ updates.changed))
      | inr apart ↦ inr (apart, sym (updates.others k apart) ∙ e)
    ]

    before_put : (k : ℕ) (a : Session) → get old k ≡ Some a → get new k ≡ Some a
    before_put k a e = updates.others k (λ same. let no : None ≡ Some a = sym vacant ∙ ap (get old) (sym same) ∙ e in cc) ∙ e

    put_distinct : AreDistinct new.slots
    put_distinct j k a b x y z = elim (after_put j a x) [
      | inl one ↦ elim (after_put k b y) [
        | inl two ↦ one.0 ∙ sym two.0
        | inr two ↦ let range = (sound.in_range k b two.1).1 in let same : id ≡ b.0 = sym (ap (λ p. p.0) one.1) ∙ z in absurd (omega arith)
      ]
      | inr one ↦ elim (after_put k b y) [
        | inl two ↦ let range = (sound.in_range j a one.1).1 in let same : a.0 ≡ id = z ∙ ap (λ p. p.0) two.1 in absurd (omega arith)
        | inr two ↦ sound.distinct j k a b one.1 two.1 z
      ]
    ]

    put_found : (q : ℕ) → find nat_cmp q (users_in new.slots) ≡ find nat_cmp q (put nat_cmp id user (users_in old.slots))
    put_found q = same_option _ _
        (λ v e. let there = lies_in new.slots q v e in
        find-put nat_cmp nat_cmp_total q id user (users_in old.slots) ∙ elim (after_put there.0 (q, v) there.1) [
          | inl here ↦ ap (λ b. cond b (Some user) (find nat_cmp q (users_in old.slots))) (at_itself q id (ap (λ p. p.0) here.1)) ∙ ap (λ p. Some p.1) (sym here.1)
          | inr other ↦
              let range = (sound.in_range there.0 (q, v) other.1).1 in
              ap (λ b. cond b (Some user) (find nat_cmp q (users_in old.slots))) (at_other q id (λ same. omega arith)) ∙ is_found old.slots sound.distinct there.0 q v other.1
        ])
        (λ v e. elim (eq_by_cmp nat_cmp q id) as (λ b. eq_by_cmp nat_cmp q id ≡ b → cond b (Some user) (find nat_cmp q (users_in old.slots)) ≡ Some v → find nat_cmp q (users_in new.slots) ≡ Some v) [
          | true ↦ λ t f. is_found new.slots put_distinct key q v (updates.changed ∙ (λ i. Some ((sym (at_key q id t)) i, (same_Some user v f) i)))
          | false ↦ λ t f. let there = lies_in old.slots q v f in is_found new.slots put_distinct there.0 q v (before_put there.0 (q, v) there.1)
        ] refl (sym (find-put nat_cmp nat_cmp_total q id user (users_in old.slots)) ∙ e))

    none_above : (q : ℕ) → is_some (find nat_cmp q (users_in old.slots)) ≡ true → q < id
    none_above q = elim (find nat_cmp q (users_in old.slots)) as (λ o. find nat_cmp q (users_in old.slots) ≡ o → is_some o ≡ true → q < id) [
      | None ↦ λ e h. absurd (cc)
      | Some v ↦ λ e h. let there = lies_in old.slots q v e in let range = (sound.in_range there.0 (q, v) there.1).1 in omega arith
    ] refl

    -- a session with a greater id comes last
    pub put_users : users_in new.slots ≡ users_in old.slots ++ (id, user) ∷ []
    put_users = same_entries nat_cmp nat_cmp_total nat_cmp-IsAntisymmetric _ _ (users_sorted new.slots) (is_sorted-put nat_cmp nat_cmp_total id user (users_in old.slots) (users_sorted old.slots)) put_found
        ∙ put_last id user (users_in old.slots) none_above

    pub put_sound : 1 ≤ id → slab_len new ≡ slab_len old + 1 → slab_len old < session_limit → IsSound new.slots id
    put_sound least more few = record {
      distinct = put_distinct;
      in_range = λ k a e. elim (after_put k a e) [
        | inl here ↦ let same : a.0 ≡ id = ap (λ p. p.0) here.1 in (omega arith, omega arith)
        | inr other ↦ let range = sound.in_range k a other.1 in (range.0, omega arith)
      ];
      counted = omega (arith, sound.counted, ap length put_users, length-append (users_in old.slots) ((id, user) ∷ []));
      few = omega arith;
    }

  module _ (id : ℕ) (user : List ℕ) (held : get old key ≡ Some (id, user)) (updates : Updates old new key None) where
    after_take : (k : ℕ) (a : Session) → get new k ≡ Some a → (k ≡ key → ⊥) × (get old k ≡ Some a)
    after_take k a e =
        let apart : k ≡ key → ⊥ = λ same. let no : None ≡ Some a = sym updates.changed ∙ ap (get new) (sym same) ∙ e in cc in
        (apart, sym (updates.others k apart) ∙ e)

    take_distinct : AreDistinct new.slots
    take_distinct j k a b x y z = sound.distinct j k a b (after_take j a x).1 (after_take k b y).1 z

    take_found : (q : ℕ) → find nat_cmp q (users_in new.slots) ≡ find nat_cmp q (without (users_in old.slots) id)
    unfolding without
    take_found q =
        let kept = find-where_key nat_cmp (λ x. not (id == x)) q (λ x t. ap (λ x. not (id == x)) (sym (nat_cmp-IsAntisymmetric q x t))) (users_in old.slots) in
        same_option _ _
        (λ v e. let there = lies_in new.slots q v e in
        let was = after_take there.0 (q, v) there.1 in
        kept ∙ ap (λ b. cond (not b) (find nat_cmp q (users_in old.slots)) None) (ne_eqb id q (λ same. was.0 (sound.distinct there.0 key (q, v) (id, user) was.1 held (sym same))))
        ∙ is_found old.slots sound.distinct there.0 q v was.1)
        (λ v e. elim (id == q) as (λ b. (id == q) ≡ b → cond (not b) (find nat_cmp q (users_in old.slots)) None ≡ Some v → find nat_cmp q (users_in new.slots) ≡ Some v) [
          | true ↦ λ t f. absurd (cc)
          | false ↦ λ t f.
              let there = lies_in old.slots q v f in
              is_found new.slots take_distinct there.0 q v (updates.others there.0 (λ same. eqb-false id q t (sym (ap (λ p. p.0) (same_Some (q, v) (id, user) (sym there.1 ∙ ap (get old) same ∙ held))))) ∙ there.1)
        ] refl (sym kept ∙ e))

    without_sorted : T (is_sorted nat_cmp (without (users_in old.slots) id))
    unfolding without
    without_sorted = is_sorted-where_key nat_cmp (λ x. not (id == x)) (users_in old.slots) (users_sorted old.slots)

    -- a session that is taken away is the only one with its id
    pub take_users : users_in new.slots ≡ without (users_in old.slots) id
    take_users = same_entries nat_cmp nat_cmp_total nat_cmp-IsAntisymmetric _ _ (users_sorted new.slots) without_sorted take_found

    one_less : length (without (users_in old.slots) id) + 1 ≡ length (users_in old.slots)
    unfolding without
    one_less =
        let kept = λ (p : ℕ → Bool). filter (λ (e : Session). p e.0) (users_in old.slots) in
        let same : kept (λ x. not (id == x)) ≡ kept (λ x. not (eq_by_cmp nat_cmp id x)) = ap kept (λ i. λ x. not (sym (unsigned_tied id x) i)) in
        let there : find nat_cmp id (users_in old.slots) ≡ Some user = is_found old.slots sound.distinct key id user held in
        let all = length_without nat_cmp nat_cmp_total id (users_in old.slots) (users_sorted old.slots) in
        omega (arith, ap length same, rw there at all)

    pub take_sound : slab_len new + 1 ≡ slab_len old → IsSound new.slots last
    take_sound less = record {
      distinct = take_distinct;
      in_range = λ k a e. sound.in_range k a (after_take k a e).1;
      counted = omega (arith, sound.counted, ap length take_users, one_less);
      few = omega (arith, sound.few);
    }

-- no session lies in an empty slab
pub empty_sound : (last : ℕ) → IsSound [] last
unfolding users_in
empty_sound last = record {
  distinct = λ j k a b x y z. absurd (cc);
  in_range = λ k a e. absurd (cc);
  counted = refl;
  few = omega arith;
}

-- a session that lies in no slot isn't open
pub nowhere_found : (slots : List (Option Session)) (q : ℕ) → ((key : ℕ) (user : List ℕ) → get_or slots key None ≢ Some (q, user)) → find nat_cmp q (users_in slots) ≡ None
nowhere_found slots q nowhere = elim (find nat_cmp q (users_in slots)) as (λ o. find nat_cmp q (users_in slots) ≡ o → o ≡ None) [
  | None ↦ λ e. refl
  | Some v ↦ λ e. let there = lies_in slots q v e in absurd (nowhere there.0 v there.1)
] refl

range_of : (slots : List (Option Session)) (last q : ℕ) → IsSound slots last → is_some (find nat_cmp q (users_in slots)) ≡ true → (1 ≤ q) × (q ≤ last)
range_of slots last q sound = elim (find nat_cmp q (users_in slots)) as (λ o. find nat_cmp q (users_in slots) ≡ o → is_some o ≡ true → (1 ≤ q) × (q ≤ last)) [
  | None ↦ λ e h. absurd (cc)
  | Some v ↦ λ e h. let there = lies_in slots q v e in sound.in_range there.0 (q, v) there.1
] refl

-- no id above the last is in use
pub above_last : (slots : List (Option Session)) (last q : ℕ) → IsSound slots last → last < q → find nat_cmp q (users_in slots) ≡ None
above_last slots last q sound above = elim (find nat_cmp q (users_in slots)) as (λ o. find nat_cmp q (users_in slots) ≡ o → o ≡ None) [
  | None ↦ λ e. refl
  | Some v ↦ λ e. let there = lies_in slots q v e in let range = (sound.in_range there.0 (q, v) there.1).1 in absurd (omega arith)
] refl

pub is_true : (b : Bool) → T b → b ≡ true
is_true true h = refl
is_true false h = absurd h

pub table_of : (slots : List (Option Session)) (last : ℕ) → IsSound slots last → IsTable (record { users = users_in slots; last = last })
table_of slots last sound = record {
  ascending = is_true _ (users_sorted slots);
  in_range = λ q h. range_of slots last q sound h;
  few = omega (arith, sound.counted, sound.few);
}

-- a key tells that the session is open, and no key that it isn't
pub key_tells : (slots : List (Option Session)) (last : ℕ) (result : Option ℕ) (q : ℕ) → IsSound slots last → IfSome result (λ key. (user : List ℕ) × (get_or slots key None ≡ Some (q, user))) → IfNone result ((key : ℕ) (user : List ℕ) → get_or slots key None ≢ Some (q, user)) → is_some result ≡ is_some (find nat_cmp q (users_in slots))
key_tells slots last None q sound found absent = ap is_some (sym (nowhere_found slots q absent))
key_tells slots last (Some key) q sound found absent = ap is_some (sym (is_found slots sound.distinct key q found.0 found.1))

dropped_none : (b : Bool) (x : List ℕ) (o : Option (List ℕ)) → cond b (Some x) o ≡ None → (b ≡ false) × (o ≡ None)
dropped_none true x o e = absurd (cc)
dropped_none false x o e = (refl, e)

-- a session that isn't open takes none away
pub without_absent : (es : List Session) (q : ℕ) → find nat_cmp q es ≡ None → without es q ≡ es
unfolding without
without_absent [] q e = refl
without_absent (s ∷ es) q e =
    let parts = dropped_none (eq_by_cmp nat_cmp q s.0) s.1 (find nat_cmp q es) e in
    ap (λ b. cond (not b) (s ∷ without es q) (without es q)) (sym (unsigned_tied q s.0) ∙ parts.0)
    ∙ ap (λ rest. s ∷ rest) (without_absent es q parts.1)

-- where an id is given, it is one above the last, and fewer sessions are open than may be
pub next_is : (count last id : ℕ) → Some id ≡ id_after count last → (id ≡ last + 1) × (count < session_limit)
next_is count last id e = grind (arith, nat_tests)
