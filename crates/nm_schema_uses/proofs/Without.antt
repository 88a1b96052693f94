-- Where no row is state, or none is a choice or a case, nothing is left out.
use Rattle.std.proofs.Common.{◌≡◌, ◌<◌, ◌≤◌, ◌+◌, ◌∙◌, ◌⊎◌, inl, inr, ℕ, List, [], ◌∷◌, length, filter, Bool, true, false, Option, refl, sym, ap, arith}
use Rattle.std.proofs.lemmas.Bool.{cases_lt}
use Rattle.std.proofs.lemmas.Option.{slice_get_past}
use Rattle.nm_schema_statements.specs.declared.row.Row.{Row}
use Rattle.nm_schema_uses.specs.Holding.{is_fork_at, bringing}
use Rattle.nm_schema_uses.specs.Worth.{AreWorth}
use Rattle.nm_schema_uses.specs.Members.{brought}
use Rattle.nm_schema_uses.specs.Config.{is_state, is_kept, kept_of}
use Rattle.nm_schema_uses.specs.Passing.{is_plain, plain_of, brought_along, AreWithoutState, ArePlain}
use Rattle.nm_schema_uses.proofs.Bringing.{brought-is}
use mathlib.Core.Path.{fun_ext}

-- no row below a number passes a test
abbrev pub NoneUntil : (ℕ → Bool) → ℕ → Type 0
NoneUntil test n = (i : ℕ) → i < n → test i ≡ false

none_next : (test : ℕ → Bool) (n : ℕ) → NoneUntil test n → test n ≡ false → (i : ℕ) → i < n + 1 → (i < n) ⊎ (n ≤ i) → test i ≡ false
none_next test n h is i lt (inl under) = h i under
none_next test n h is i lt (inr past) = let e : i ≡ n = omega arith in rw e is

pub none_more : (test : ℕ → Bool) (n : ℕ) → NoneUntil test n → test n ≡ false → NoneUntil test (n + 1)
none_more test n h is = λ i lt. none_next test n h is i lt (cases_lt i n)

none_at : (test : ℕ → Bool) (n count : ℕ) → NoneUntil test n → count ≤ n → ((i : ℕ) → count ≤ i → test i ≡ false) → (i : ℕ) → (i < count) ⊎ (count ≤ i) → test i ≡ false
none_at test n count h le past i (inl lt) = h i (omega arith)
none_at test n count h le past i (inr over) = past i over

state-past : (rows : List Row) (i : ℕ) → length rows ≤ i → is_state rows i ≡ false
unfolding is_state
state-past rows i le = rw (slice_get_past rows i le) refl

fork-past : (rows : List Row) (i : ℕ) → length rows ≤ i → is_fork_at rows i ≡ false
unfolding is_fork_at
fork-past rows i le = rw (slice_get_past rows i le) refl

pub no-state : (rows : List Row) (n : ℕ) → NoneUntil (is_state rows) n → length rows ≤ n → (i : ℕ) → is_state rows i ≡ false
no-state rows n h le i = none_at (is_state rows) n (length rows) h le (state-past rows) i (cases_lt i (length rows))

pub no-fork : (rows : List Row) (n : ℕ) → NoneUntil (is_fork_at rows) n → length rows ≤ n → (i : ℕ) → is_fork_at rows i ≡ false
no-fork rows n h le i = none_at (is_fork_at rows) n (length rows) h le (fork-past rows) i (cases_lt i (length rows))

filter-all : (test : ℕ → Bool) (nodes : List ℕ) → ((i : ℕ) → test i ≡ true) → filter test nodes ≡ nodes
filter-all test [] h = refl
filter-all test (node ∷ nodes) h = rw (h node, filter-all test nodes h) refl

all-kept : (rows : List Row) → ((i : ℕ) → is_state rows i ≡ false) → (i : ℕ) → is_kept rows i ≡ true
unfolding is_kept
all-kept rows h i = rw (h i) refl

all-plain : (rows : List Row) → ((i : ℕ) → is_fork_at rows i ≡ false) → (i : ℕ) → is_plain rows i ≡ true
unfolding is_plain
all-plain rows h i = rw (h i) refl

kept-all : (next : ℕ → List ℕ) (rows : List Row) → ((i : ℕ) → is_state rows i ≡ false) → (i : ℕ) → next i ≡ kept_of next rows i
unfolding kept_of
kept-all next rows h i = sym (filter-all (is_kept rows) (next i) (all-kept rows h))

plain-all : (next : ℕ → List ℕ) (rows : List Row) → ((i : ℕ) → is_fork_at rows i ≡ false) → (i : ℕ) → next i ≡ plain_of next rows i
unfolding plain_of
plain-all next rows h i = sym (filter-all (is_plain rows) (next i) (all-plain rows h))

brought-same : (rows : List Row) (groupings : List (Option ℕ)) (next : ℕ → List ℕ) (values known : List (Option (List ℕ))) → AreWorth (brought rows groupings) (length rows) known → values ≡ known → ((i : ℕ) → bringing rows groupings i ≡ next i)
    → AreWorth (brought_along rows groupings next) (length rows) values
brought-same rows groupings next values known h e same = rw e (record {
  size = h.size;
  each = λ i lt. h.each i lt ∙ sym (brought-is rows groupings i) ∙ ap (λ (n : ℕ → List ℕ). brought_along rows groupings n i) (fun_ext same);
})

pub kept-same : (rows : List Row) (groupings : List (Option ℕ)) (values known : List (Option (List ℕ))) → AreWorth (brought rows groupings) (length rows) known → values ≡ known → ((i : ℕ) → is_state rows i ≡ false) → AreWithoutState rows groupings values
kept-same rows groupings values known h e none = brought-same rows groupings (kept_of (bringing rows groupings) rows) values known h e (kept-all (bringing rows groupings) rows none)

pub plain-same : (rows : List Row) (groupings : List (Option ℕ)) (values known : List (Option (List ℕ))) → AreWorth (brought rows groupings) (length rows) known → values ≡ known → ((i : ℕ) → is_fork_at rows i ≡ false) → ArePlain rows groupings values
plain-same rows groupings values known h e none = brought-same rows groupings (plain_of (bringing rows groupings) rows) values known h e (plain-all (bringing rows groupings) rows none)
