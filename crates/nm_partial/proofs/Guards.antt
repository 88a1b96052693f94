-- What it says that no partial lock guards against a change.
use Rattle.std.proofs.Common.{◌≡◌, ◌↔◌, ℕ, ◌==◌, false}
use Rattle.std.specs.List.{list_any}
use Rattle.nm_proto.specs.Content.{Meaning, Laws}
use Rattle.nm_partial.specs.Partial.{PartialState, forbids, differs_at, guards, KeepsOthers}
use Rattle.nm_partial.proofs.Failing.{none_passes, opposite, unless, same_number}

pub guards_keep : {Config TheEdit Node : Type 0} (m : Meaning Config TheEdit Node) → Laws m → (partials : PartialState Node) (session : ℕ) (old new : Config)
    → (guards m partials session old new ≡ false) ↔ KeepsOthers m partials session old new
guards_keep m laws partials session old new =
    none_passes (forbids m session old new) _
    (λ lock. unless (lock.session == session) (list_any (differs_at m old new) lock.nodes) (same_number lock.session session)
    (none_passes (differs_at m old new) (λ node. m.part old node ≡ m.part new node)
    (λ node. opposite (m.same_at old new node) (laws.same_parts old new node)) lock.nodes))
    partials.locks
