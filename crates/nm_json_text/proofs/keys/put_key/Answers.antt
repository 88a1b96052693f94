use Rattle.std.proofs.Common.{sym, ap, ◌∙◌, slice_get}
use Rattle.nm_path.specs.Spelling.{name_at}
use Rattle.nm_json_text.specs.Passing.{front_keys, is_before_key}
use Rattle.nm_json_text.proofs.Sorted.{put_placed}
use Rattle.nm_json_text.proofs.keys.put_key.Goals as goal

pub returns-clause-members : goal.returns-clause-members
returns-clause-members c =
    let nodes = c.args.schema.now.nodes in
    let ks = c.args.sorted.now.keys.items in
    let place = c.place_of-place.result in
    let at = c.place_of-place.ensures.value ∙ ap (λ n. front_keys nodes n c.deref.result.now) c.name_of-name.ensures ∙ ap (front_keys nodes (name_at nodes c.args.key)) c.deref.ensures.value in
    let next = ap (λ n. is_before_key nodes n (slice_get ks place)) (sym c.name_of-name.ensures) ∙ ap (λ xs. is_before_key nodes c.name_of-name.result.now (slice_get xs place)) (sym c.deref-2.ensures.value)
    ∙ sym c.is_before_at.ensures ∙ c.if-not-is_before_at.false in
    put_placed nodes c.args.key c.args.value ks c.args.sorted.now.values.items place c.insert.new.self.items c.insert-2.new.self.items c.requires at next c.in_ok-insert.ensures.items
    c.in_ok-insert-2.ensures.items
