use Rattle.std.proofs.Common.{◌≡◌, ◌↔◌, ℕ, Bool, true, refl, sym, ◌∙◌}
use Rattle.nm_proto.specs.Sameness.{IsSameness}
use Rattle.nm_proto.proofs.laws.sameness_is_equality.Goals as goal

-- a test that tells whether two values have equal parts
by_parts : {A B : Type 0} (same : A → A → Bool) (part : A → B) → ((x y : A) → (same x y ≡ true) ↔ (part x ≡ part y)) → IsSameness same
by_parts same part tells = record {
  itself = λ x. (tells x x).1 refl;
  turned = λ x y h. (tells y x).1 (sym ((tells x y).0 h));
  over = λ x y z h k. (tells x z).1 ((tells x y).0 h ∙ (tells y z).0 k);
}

-- a test that tells whether two values answer each question alike
by_answers : {A : Type 0} (same : A → A → Bool) (has : A → ℕ → Bool) → ((x y : A) → (same x y ≡ true) ↔ ((n : ℕ) → has x n ≡ has y n)) → IsSameness same
by_answers same has tells = record {
  itself = λ x. (tells x x).1 (λ n. refl);
  turned = λ x y h. (tells y x).1 (λ n. sym ((tells x y).0 h n));
  over = λ x y z h k. (tells x z).1 (λ n. (tells x y).0 h n ∙ (tells y z).0 k n);
}

pub returns-clause-at_nodes : goal.returns-clause-at_nodes
returns-clause-at_nodes g c node = let m = g.C.Content.meaning c.args.content.now in
    by_parts (λ one other. m.same_at one other node) (λ config. m.part config node) (λ one other. (g.met.C.Content.laws c.args.content.now).same_parts one other node)

pub returns-clause-of_marks : goal.returns-clause-of_marks
returns-clause-of_marks g c = let m = g.C.Content.meaning c.args.content.now in
    by_answers m.same_marks m.has_mark (g.met.C.Content.laws c.args.content.now).same_numbers
