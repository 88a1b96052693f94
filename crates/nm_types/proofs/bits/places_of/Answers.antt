use Rattle.std.proofs.Common.{nat_cmp, sym, ◌∙◌, refl}
use Rattle.std.specs.BTreeSet.{contains}
use Rattle.nm_types.proofs.ChosenBits.{word_more, word_again, unknown_word, place_more, bits_none, chosen_none, added_new, not_added}
use Rattle.nm_types.proofs.bits.places_of.Goals as goal

pub loop-word-init : goal.loop-word-init
loop-word-init c = record {
  bits = bits_none c.args.names.now;
  places = λ i. (let empty = c.new-places.ensures.empty in rw empty refl) ∙ chosen_none c.args.names.now i;
  ordered = c.new-places.ensures.ordered;
}

pub returns-in_default-clause-bits : goal.returns-in_default-clause-bits
returns-in_default-clause-bits c =
    sym (unknown_word c.args.names.now c.args.words.now c.loop-word.word-index _ c.in_ok-label.label c.loop-word-test.true c.in_ok-label.ensures (sym c.place.ensures.place ∙ c.in_default.is))

pub returns-then-not-branch-clause-bits : goal.returns-then-not-branch-clause-bits
returns-then-not-branch-clause-bits c =
    let place = sym c.place.ensures.place ∙ c.in-Some.is in
    let there = not_added _ _ c.in_ok-insert.ensures.added c.if-not-branch.true in
    sym (word_again c.args.names.now c.args.words.now c.loop-word.word-index _ c.in_ok-label.label c.loop-word-test.true c.in_ok-label.ensures c.in-Some.place place (sym (c.loop-word.invariant.places c.in-Some.place) ∙ there))

pub loop-word-preserved : goal.loop-word-preserved
loop-word-preserved c =
    let place = sym c.place.ensures.place ∙ c.in-Some.is in
    let new = added_new _ _ c.in_ok-insert.ensures.added c.if-not-branch.false in
    record {
      bits = word_more c.args.names.now c.args.words.now c.loop-word.word-index _ c.in_ok-label.label c.loop-word-test.true c.in_ok-label.ensures c.in-Some.place place (sym (c.loop-word.invariant.places c.in-Some.place) ∙ new) c.loop-word.invariant.bits;
      places = λ i. place_more c.args.names.now c.args.words.now c.loop-word.word-index _ c.in_ok-label.label c.in-Some.place i (contains nat_cmp c.loop-word.places i) (contains nat_cmp c.insert.new.self i) c.loop-word-test.true c.in_ok-label.ensures c.place.ensures.once place (c.in_ok-insert.ensures.updates.0 i) (c.loop-word.invariant.places i);
      ordered = c.in_ok-insert.ensures.ordered;
    }
