-- Who committed under what is pending after a commit: who did before, and who commits.
use Rattle.std.proofs.Common.{◌≡◌, ℕ, ◌==◌, List, Bool, true, false, ◌||◌, Option, Some, None, refl, sym, ◌∙◌}
use Rattle.nm_pending.specs.Pending.{PendingState}
use Rattle.nm_pending.proofs.Follows.{author_followed}
use Rattle.nm_device.specs.Device.{DeviceState}
use Rattle.nm_device.specs.Commit.{pending_after}
use Rattle.nm_device_laws.specs.Numbered.{has_author}

or_false : (a : Bool) → (a || false) ≡ a
or_false true = refl
or_false false = refl

pub either_true : (a b : Bool) → (a || b) ≡ true → b ≡ false → a ≡ true
either_true true b e f = refl
either_true false b e f = cc

pub author_more : {Config Node : Type 0} (s : DeviceState Config Node) (session t : ℕ) (confirmed : Bool) (persist : Option (List ℕ)) (deadline : ℕ) (pending : Option (PendingState Config))
    → has_author (pending_after s session confirmed persist deadline pending) t ≡ true → (has_author pending t || (session == t)) ≡ true
author_more s session t false persist deadline pending e = cc
author_more s session t true persist deadline None e = sym (or_false (session == t)) ∙ e
author_more s session t true persist deadline (Some p) e = sym (author_followed p session persist deadline t) ∙ e
