use Rattle.std.proofs.Common.{◌≡◌, ◌<◌, ◌++◌, length, ◌∙◌, rules}
use Rattle.std.specs.List.{flat_map}
use Rattle.nm_yang.specs.Written.{written_argument, spaced}
use Rattle.nm_yang.proofs.Writes.{written_empty, written_within}
use Rattle.nm_yang.proofs.writing.+write.Goals as goal

pub put_statement-returns-then-is_empty : goal.put_statement-returns-then-is_empty
put_statement-returns-then-is_empty t c =
    let s = c.statement.inside in
    let n : length s.below.items ≡ 0 = search rules in
    let k = c.as_bytes.ensures.value ∙ c.as_str.ensures in
    let e = c.in_ok-extend_from_slice.ensures.items in
    let a = c.in_ok-put_argument.ensures in
    let p = c.in_ok-push.ensures.items in
    let is : c.put_argument.new.out.items ≡ (c.args.out.now.items ++ s.keyword) ++ written_argument s.argument = cc in
    rw (← c.statement.view_is) (written_empty s.keyword s.argument s.place s.below.items c.args.out.now.items c.put_argument.new.out.items c.push.new.self.items n is p)

pub put_statement-returns : goal.put_statement-returns
put_statement-returns t c =
    let s = c.statement.inside in
    let n : 0 < length s.below.items = search rules in
    let k = c.as_bytes.ensures.value ∙ c.as_str.ensures in
    let e = c.in_ok-extend_from_slice.ensures.items in
    let a = c.in_ok-put_argument.ensures in
    let o = c.in_ok-extend_from_slice-2.ensures.items in
    let d = c.deref.ensures.value in
    let w = c.in_ok-put_each.ensures in
    let p = c.in_ok-push-2.ensures.items in
    let is : c.put_argument.new.out.items ≡ (c.args.out.now.items ++ s.keyword) ++ written_argument s.argument = cc in
    let all : c.put_each.new.out.items ≡ c.extend_from_slice-2.new.self.items ++ flat_map spaced s.below.items = cc in
    rw (← c.statement.view_is) (written_within s.keyword s.argument s.place s.below.items c.args.out.now.items c.put_argument.new.out.items c.extend_from_slice-2.new.self.items c.put_each.new.out.items c.push-2.new.self.items n is o all p)
