-- Runs that are counted one after the other.
use Rattle.std.proofs.Common.{◌≡◌, ◌<◌, ℕ, ◌+◌, ◌^◌, List, [], ◌++◌, length, Bool, refl, sym, ap, subst, ◌∙◌, arith, length-append}
use Rattle.std.specs.Prelude.{map}
use Rattle.std.proofs.lemmas.List.{map-append}
use Rattle.std.proofs.lemmas.List.Sums.{fold-append}
use Rattle.nm_explore_ways.specs.declared.put.Put.{Put}
use Rattle.nm_explore_groups.specs.declared.group.Group.{Group}
use Rattle.nm_explore_groups.specs.Groups.{added, merged, runs_in}
use Rattle.nm_explore_each.specs.Game.{Game, IsCounted, run_on}

add_none : (n : ℕ) → n ≡ n + 0
add_none n = omega arith

together : (a b c : ℕ) → a + b + c ≡ a + (b + c)
together a b c = omega arith

module _ {End : Type 0} (alike : End → End → Bool) (game : Game End) where
  -- no run
  none : (gs : List (Group End)) → IsCounted alike game gs gs []
  none gs = record { groups = refl; runs = add_none (runs_in gs) }

  -- some runs, and then more
  pub then : (a b c : List (Group End)) (xs ys : List (List Put)) → IsCounted alike game a b xs → IsCounted alike game b c ys
      → IsCounted alike game a c (xs ++ ys)
  then a b c xs ys p q = record {
    groups =
        q.groups ∙ ap (λ gs. merged alike gs (map (run_on game) ys)) p.groups
        ∙ sym (fold-append (added alike) a (map (run_on game) xs) (map (run_on game) ys)) ∙ ap (merged alike a) (sym (map-append (run_on game) xs ys));
    runs = q.runs ∙ ap (λ n. n + length ys) p.runs ∙ together (runs_in a) (length xs) (length ys) ∙ ap (λ n. runs_in a + n) (sym (length-append xs ys));
  }

  -- what is left to go, while a loop goes ways
  pub record GoesOn (first now : List (Group End)) (rest all : List (List Put)) : Type 0 where
    pub done : (last : List (Group End)) → IsCounted alike game now last rest → IsCounted alike game first last all
    pub room : runs_in now + length rest < 2 ^ 64

  pub goes_first : (gs : List (Group End)) (all rest : List (List Put)) → rest ≡ all → runs_in gs + length all < 2 ^ 64 → GoesOn gs gs rest all
  goes_first gs all rest e room = record {
    done = λ last counted. subst (IsCounted alike game gs last) e counted;
    room = subst (λ ways. runs_in gs + length ways < 2 ^ 64) (sym e) room;
  }

  fits : (a b c d n m : ℕ) → a + b < n → b ≡ c + d → m ≡ a + c → m + d < n
  fits a b c d n m lt e f = omega arith

  pub goes_more : (first now next : List (Group End)) (rest xs later all : List (List Put)) → rest ≡ xs ++ later → GoesOn first now rest all
      → IsCounted alike game now next xs → GoesOn first next later all
  goes_more first now next rest xs later all e goes counted = record {
    done = λ last more. goes.done last (subst (IsCounted alike game now last) (sym e) (then now next last xs later counted more));
    room = fits (runs_in now) (length rest) (length xs) (length later) (2 ^ 64) (runs_in next) goes.room (ap (λ (ways : List (List Put)). length ways) e ∙ length-append xs later) counted.runs;
  }

  pub goes_last : (first now : List (Group End)) (rest all : List (List Put)) → rest ≡ [] → GoesOn first now rest all → IsCounted alike game first now all
  goes_last first now rest all e goes = goes.done now (subst (IsCounted alike game now now) (sym e) (none now))

  -- what a part of what is left needs
  pub room_for : (first now : List (Group End)) (rest xs later all : List (List Put)) → rest ≡ xs ++ later → GoesOn first now rest all
      → runs_in now + length xs < 2 ^ 64
  room_for first now rest xs later all e goes = part (runs_in now) (length rest) (length xs) (length later) (2 ^ 64) goes.room (ap (λ (ways : List (List Put)). length ways) e ∙ length-append xs later)
    where
      part : (a b c d n : ℕ) → a + b < n → b ≡ c + d → a + c < n
      part a b c d n lt e = omega arith
