-- What a session that opens or ends changes, for the layers above.
use Rattle.std.proofs.Common.{◌≡◌, ℕ, ◌+◌, suc, ◌≤◌, Bool, true, false, cond, not, ◌==◌, List, [], ◌∷◌, ◌++◌, length, Some, None, is_some, refl, sym, ap, subst, ◌∙◌, arith}
use Rattle.std.proofs.lemmas.Bool.{eqb-true, eq-eqb, eqb-false, ne_eqb}
use Rattle.std.proofs.lemmas.List.{length-append}
use lib.Dec.{T}
use Rattle.std.specs.Ordering.{nat_cmp}
use Rattle.std.specs.Cmp.{nat_cmp_total, unsigned_tied}
use Rattle.std.specs.FinMap.{nat_cmp-IsAntisymmetric}
use Rattle.std.specs.FinMap.Entries.{put, is_sorted, find-append, find-where_key, is_sorted-put, is_sorted-where_key}
use Rattle.nm_sessions.specs.Sessions.{SessionsState, no_sessions, user_of, next_id, entered, without, left, cleared, IsTable}
use Rattle.nm_sessions.proofs.Tables.{put_last, next_is, is_true}

-- the id that is given next isn't in use
pub next_is_fresh : (s : SessionsState) → IsTable s → user_of s (s.last + 1) ≡ None
next_is_fresh s table = elim (user_of s (s.last + 1)) as (λ o. user_of s (s.last + 1) ≡ o → o ≡ None) [
  | None ↦ λ e. refl
  | Some user ↦ λ e. let range = (table.in_range (s.last + 1) (ap is_some e)).1 in absurd (omega arith)
] refl

-- a session that opens has its user, and the others keep theirs
pub user_of-entered : (s : SessionsState) (user : List ℕ) (q : ℕ) → user_of s (s.last + 1) ≡ None → user_of (entered s user) q ≡ cond (q == s.last + 1) (Some user) (user_of s q)
user_of-entered s user q fresh = find-append nat_cmp nat_cmp_total s.users (s.last + 1) user q fresh ∙ ap (λ b. cond b (Some user) (user_of s q)) (unsigned_tied q (s.last + 1))

turned : {A : Type 0} (b : Bool) (x y : A) → cond (not b) x y ≡ cond b y x
turned true x y = refl
turned false x y = refl

swapped : (a b : ℕ) → (a == b) ≡ (b == a)
swapped a b = elim (b == a) as (λ t. (b == a) ≡ t → (a == b) ≡ t) [
  | true ↦ λ t. eq-eqb a b (sym (eqb-true b a t))
  | false ↦ λ t. ne_eqb a b (λ same. eqb-false b a t (sym same))
] refl

-- a session that ends has no user, and the others keep theirs
pub user_of-left : (s : SessionsState) (session q : ℕ) → user_of (left s session) q ≡ cond (q == session) None (user_of s q)
unfolding without
user_of-left s session q =
    find-where_key nat_cmp (λ x. not (session == x)) q (λ x t. ap (λ x. not (session == x)) (sym (nat_cmp-IsAntisymmetric q x t))) s.users
    ∙ turned (session == q) (user_of s q) None ∙ ap (λ b. cond b None (user_of s q)) (swapped session q)

pub IsTable-none : IsTable no_sessions
IsTable-none = record { ascending = refl; in_range = λ q h. absurd (cc); few = omega arith }

pub IsTable-cleared : (s : SessionsState) → IsTable (cleared s)
IsTable-cleared s = record { ascending = refl; in_range = λ q h. absurd (cc); few = omega arith }

pub IsTable-entered : (s : SessionsState) (user : List ℕ) (id : ℕ) → next_id s ≡ Some id → IsTable s → IsTable (entered s user)
IsTable-entered s user id next table =
    let room = next_is (length s.users) s.last id (sym next) in
    let last : put nat_cmp (s.last + 1) user s.users ≡ s.users ++ (s.last + 1, user) ∷ [] =
    put_last (s.last + 1) user s.users (λ q h. let range = (table.in_range q h).1 in omega arith) in
    record {
      ascending = is_true _ (subst (λ users. T (is_sorted nat_cmp users)) last (is_sorted-put nat_cmp nat_cmp_total (s.last + 1) user s.users (subst T (sym table.ascending) tt)));
      in_range = λ q h. elim (q == s.last + 1) as (λ b. (q == s.last + 1) ≡ b → is_some (cond b (Some user) (user_of s q)) ≡ true → (1 ≤ q) × (q ≤ s.last + 1)) [
        | true ↦ λ t h. let same = eqb-true q (s.last + 1) t in (omega arith, omega arith)
        | false ↦ λ t h. let range = table.in_range q h in (range.0, omega arith)
      ] refl (ap is_some (sym (user_of-entered s user q (next_is_fresh s table))) ∙ h);
      few = omega (arith, length-append s.users ((s.last + 1, user) ∷ []));
    }

shorter : (users : List (ℕ × List ℕ)) (session : ℕ) → length (without users session) ≤ length users
unfolding without
shorter [] session = omega arith
shorter (u ∷ users) session = let rest = shorter users session in
    elim (session == u.0) as (λ b. length (cond (not b) (u ∷ without users session) (without users session)) ≤ suc (length users)) [
      | true ↦ omega arith
      | false ↦ omega arith
    ]

pub IsTable-left : (s : SessionsState) (session : ℕ) → IsTable s → IsTable (left s session)
unfolding without
IsTable-left s session table = record {
  ascending = is_true _ (is_sorted-where_key nat_cmp (λ x. not (session == x)) s.users (subst T (sym table.ascending) tt));
  in_range = λ q h. elim (q == session) as (λ b. is_some (cond b None (user_of s q)) ≡ true → (1 ≤ q) × (q ≤ s.last)) [
    | true ↦ λ h. absurd (cc)
    | false ↦ λ h. table.in_range q h
  ] (ap is_some (sym (user_of-left s session q)) ∙ h);
  few = omega (arith, shorter s.users session, table.few);
}
