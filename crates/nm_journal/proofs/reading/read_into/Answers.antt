use Rattle.std.proofs.Common.{◌≡◌, Some, None, Err, ◌*◌, ◌<◌, length, take, drop, ◌++◌, ◌∷◌, [], vec_len, vec_capacity, sym, ◌∙◌, ap, subst, arith, rules, length-append}
use Rattle.std.proofs.lemmas.List.{take_rest}
use Rattle.nm_journal.specs.Record.{entry_of}
use Rattle.nm_journal.specs.Entries.{next_entry, if_follows, IsInOrder}
use Rattle.nm_journal.proofs.Loop.{reads_bad, reads_more, reads_end, found_follows}
use Rattle.nm_journal.proofs.Reach.{is_short}
use Rattle.nm_journal.proofs.Bound.{at_most, order_push}
use Rattle.nm_journal.proofs.reading.read_into.Goals as goal

pub unwrap-requires : goal.unwrap-requires
unwrap-requires c =
    let entries = c.loop-rest.entries.items in
    let found = entry_of (take 15 (drop 1 c.loop-rest.rest.now)) in
    let next : next_entry entries c.loop-rest.rest.now ≡ Some c.in-Some.entry = ap (λ l. if_follows l found) (sym c.deref.ensures.value) ∙ sym c.next_entry.ensures ∙ c.in-Some.is in
    let full = at_most (entries ++ c.in-Some.entry ∷ []) (order_push entries c.in-Some.entry c.loop-rest.invariant.in_order (found_follows entries found c.in-Some.entry next)) in
    let few : length entries < 192 = omega (arith, length-append entries (c.in-Some.entry ∷ [])) in
    let room : vec_len c.loop-rest.entries < vec_capacity c.loop-rest.entries = omega (arith, c.loop-rest.invariant.room) in
    search rules

pub returns-in-None-clause-damaged : goal.returns-in-None-clause-damaged
returns-in-None-clause-damaged c =
    let entries = c.loop-rest.entries.items in
    let next : next_entry entries c.loop-rest.rest.now ≡ None = ap (λ l. if_follows l (entry_of (take 15 (drop 1 c.loop-rest.rest.now)))) (sym c.deref.ensures.value) ∙ sym c.next_entry.ensures ∙ c.in-None.is in
    let bad = reads_bad (length c.args.bytes.now) entries c.args.bytes.now c.loop-rest.rest.now c.loop-rest.invariant.goes_on c.loop-rest-test.true c.if-rest-ne0.true next in
    let size : c.len.result ≡ length entries = search rules in
    bad ∙ ap (λ n. Err (16 * n)) (sym size)

pub loop-rest-preserved : goal.loop-rest-preserved
loop-rest-preserved c =
    let entries = c.loop-rest.entries.items in
    let rest = c.loop-rest.rest.now in
    let found = entry_of (take 15 (drop 1 rest)) in
    let next : next_entry entries rest ≡ Some c.in-Some.entry = ap (λ l. if_follows l found) (sym c.deref.ensures.value) ∙ sym c.next_entry.ensures ∙ c.in-Some.is in
    let more = reads_more (length c.args.bytes.now) entries c.args.bytes.now rest c.in-Some.entry c.loop-rest.invariant.goes_on c.loop-rest-test.true c.if-rest-ne0.true next in
    let follows = found_follows entries found c.in-Some.entry next in
    let pushed : c.push.new.self.items ≡ entries ++ c.in-Some.entry ∷ [] = search rules in
    record {
      goes_on = rw (pushed, take_rest rest 16) more;
      in_order = subst IsInOrder (sym pushed) (order_push entries c.in-Some.entry c.loop-rest.invariant.in_order follows);
      room = search rules;
    }

pub returns-after-loop-rest-clause-entries : goal.returns-after-loop-rest-clause-entries
returns-after-loop-rest-clause-entries c = reads_end (length c.args.bytes.now) c.loop-rest.entries.items c.args.bytes.now c.loop-rest.rest.now c.loop-rest.invariant.goes_on (is_short c.loop-rest.rest.now (omega (arith, c.loop-rest-test.false)))
