-- What stands in a row goes in order: choices after the cases up to theirs, cases after their choices.
use Rattle.std.proofs.Common.{◌≡◌, ◌∙◌, ◌<◌, inl, inr, ℕ, zero, suc, List, [], ◌∷◌, length, map, fold, Bool, true, false, cond, Option, Some, None, IfSome, slice_get, refl, sym, ap, subst, arith, length-append}
use Rattle.std.specs.Prelude.{Contains}
use Rattle.std.specs.Option.{option_and_then}
use Rattle.std.proofs.lemmas.List.Elements.{All-nil, All-cons}
use Rattle.nm_schema_statements.specs.declared.row.Row.{Row}
use Rattle.nm_schema_statements.specs.declared.word.Word.TheVariants as word
use Rattle.nm_schema_statements.specs.Word.{same_word}
use Rattle.nm_schema_statements.specs.Flaw.{is_data}
use Rattle.nm_graph.specs.Value.{strict, all_there}
use Rattle.nm_schema_uses.specs.Holding.{bringing}
use Rattle.nm_schema_uses.specs.Config.{kept_of, configuring}
use Rattle.nm_schema_uses.specs.Members.{is_astray}
use Rattle.nm_schema_uses.specs.Worth.{worth_within, worth_of}
use Rattle.nm_schema_nodes.proofs.Unfolding.{split, unfold_one}
use Rattle.nm_schema_nodes.specs.Forks.{Forking, no_forks, lone_node, joined, with_case, with_cases, choice_alone, choice_with, is_within, limited, all_joined, case_in_of, inner_fork, IsWalked}
use Rattle.nm_schema_nodes.specs.Choices.{fork_in, fork_step, forked, forks_of}
use Rattle.nm_schema_nodes.proofs.Walks.{joined-walked, case-walked}
use Rattle.nm_schema.proofs.Elements.{here, later, nothing, first_or_later}

-- ---- some of them

pub none_walked : IsWalked no_forks
none_walked = record {
  within = λ k c e. absurd (cc);
  before = λ k c d h e le of. absurd (cc);
  of_choices = λ d h e. absurd (cc);
  of_nodes = All-nil (λ (o : Option ℕ). IfSome o (λ c. c < 0));
}

lone_walked : IsWalked lone_node
lone_walked = record {
  within = λ k c e. absurd (cc);
  before = λ k c d h e le of. absurd (cc);
  of_choices = λ d h e. absurd (cc);
  of_nodes = All-cons (λ (o : Option ℕ). IfSome o (λ c. c < 0)) None [] tt (All-nil (λ (o : Option ℕ). IfSome o (λ c. c < 0)));
}

no_case : (row k c : ℕ) → case_in_of (slice_get (choice_alone row).choices k) ≡ Some c → ⊥
no_case row zero c e = cc
no_case row (suc k) c e = cc

alone_walked : (row : ℕ) → IsWalked (choice_alone row)
alone_walked row = record {
  within = λ k c e. absurd (no_case row k c e);
  before = λ k c d h e le of. absurd (no_case row k c e);
  of_choices = λ d h e. absurd (cc);
  of_nodes = All-nil (λ (o : Option ℕ). IfSome o (λ c. c < 0));
}

joined_walked : (fs : List Forking) (a : Forking) → IsWalked a → ((f : Forking) → Contains fs f → IsWalked f) → IsWalked (fold joined a fs)
joined_walked [] a walked each = walked
joined_walked (f ∷ fs) a walked each = joined_walked fs (joined a f) (joined-walked a f walked (each f (here f f fs refl))) (λ g c. each g (later f g fs c))

cased_walked : (rows : List ℕ) (fs : List Forking) (a : Forking) → 0 < length a.choices → IsWalked a → ((f : Forking) → Contains fs f → IsWalked f) → IsWalked (with_cases a rows fs)
cased_walked [] fs a some walked each = walked
cased_walked (row ∷ rows) [] a some walked each = walked
cased_walked (row ∷ rows) (f ∷ fs) a some walked each =
    let more : 0 < length (with_case a row f).choices = omega (arith, some, length-append a.choices (map (inner_fork (length a.cases)) f.choices)) in
    cased_walked rows fs (with_case a row f) more (case-walked a row some walked f (each f (here f f fs refl))) (λ g c. each g (later f g fs c))

limited_by : (b : Bool) (f g : Forking) → cond b (Some f) None ≡ Some g → g ≡ f
limited_by true f g e = cc
limited_by false f g e = absurd (cc)

limited_walked : (limit : ℕ) (f g : Forking) → IsWalked f → limited limit f ≡ Some g → IsWalked g
limited_walked limit f g walked e = subst (λ (h : Forking). IsWalked h) (sym (limited_by (is_within limit f) f g e)) walked

-- ---- what rows bring

of_known : (value : ℕ → Option Forking) (js : List ℕ) (known : List Forking) (f : Forking) → all_there (map value js) ≡ Some known → Contains known f → (j : ℕ) × (value j ≡ Some f)
of_known value [] known f e c =
    let none : known ≡ [] = cc in
    absurd (nothing f (subst (λ (l : List Forking). Contains l f) none c))
of_known value (j ∷ js) known f e c =
    let s = split value j js known e in
    elim (first_or_later s.first f s.others (subst (λ (l : List Forking). Contains l f) s.known_is c)) [
      | inl same ↦ (j, s.first_is ∙ ap (λ (g : Forking). Some g) same)
      | inr d ↦ of_known value js s.others f s.others_are d
    ]

module _ (rows : List Row) (groupings : List (Option ℕ)) where
  step_by : (i : ℕ) (known : List Forking) (f : Forking) (data_row choice astray : Bool) → ((g : Forking) → Contains known g → IsWalked g)
      → cond data_row (Some lone_node) (cond choice (limited (length rows) (choice_with i (kept_of (bringing rows groupings) rows i) known)) (cond astray None (limited (length rows) (all_joined known)))) ≡ Some f → IsWalked f
  step_by i known f true choice astray each e = let same : f ≡ lone_node = cc in subst (λ (g : Forking). IsWalked g) (sym same) lone_walked
  step_by i known f false true astray each e =
      limited_walked (length rows) (choice_with i (kept_of (bringing rows groupings) rows i) known) f (cased_walked (kept_of (bringing rows groupings) rows i) known (choice_alone i) (omega arith) (alone_walked i) each) e
  step_by i known f false false true each e = absurd (cc)
  step_by i known f false false false each e = limited_walked (length rows) (all_joined known) f (joined_walked known no_forks none_walked each) e

  step_walked : (i : ℕ) (known : List Forking) (f : Forking) (o : Option Row) → ((g : Forking) → Contains known g → IsWalked g) → fork_in rows groupings i o known ≡ Some f → IsWalked f
  step_walked i known f None each e = absurd (cc)
  step_walked i known f (Some r) each e = step_by i known f (is_data r.word) (same_word r.word word.Choice) (is_astray groupings i r) each e

  within_walked : (steps i : ℕ) (f : Forking) → worth_within (strict (fork_step rows groupings)) (kept_of (bringing rows groupings) rows) steps i ≡ Some f → IsWalked f
  unfolding fork_step
  within_walked zero i f e = absurd (cc)
  within_walked (suc steps) i f e =
      let next = kept_of (bringing rows groupings) rows in
      let u = unfold_one (fork_step rows groupings) next steps i f e in
      step_walked i u.known f (slice_get rows i) (λ g c. (let r = of_known (worth_within (strict (fork_step rows groupings)) next steps) (next i) u.known g u.there c in within_walked steps r.0 g r.1)) u.made

  forked_walked : (i : ℕ) (f : Forking) → forked rows groupings i ≡ Some f → IsWalked f
  unfolding forked worth_of
  forked_walked i f e = within_walked (length rows) i f e

  all_walked : (js : List ℕ) (known : Option (List Forking)) (f : Forking) → all_there (map (forked rows groupings) js) ≡ known → option_and_then (λ fs. limited (length rows) (all_joined fs)) known ≡ Some f → IsWalked f
  all_walked js None f is e = absurd (cc)
  all_walked js (Some known) f is e =
      limited_walked (length rows) (all_joined known) f (joined_walked known no_forks none_walked (λ g c. (let r = of_known (forked rows groupings) js known g is c in forked_walked r.0 g r.1))) e

  -- what stands in a row goes in order
  pub forks_walked : (i : ℕ) (f : Forking) → forks_of rows groupings i ≡ Some f → IsWalked f
  unfolding forks_of
  forks_walked i f e = all_walked (configuring rows groupings i) (all_there (map (forked rows groupings) (configuring rows groupings i))) f refl e
