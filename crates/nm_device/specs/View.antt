-- What is told of a pending commit: that it is pending, and who began it.
use Rattle.std.specs.Prelude.{Option, Some, None}
use Rattle.nm_pending.specs.Pending.{PendingState}
use Rattle.nm_device.specs.declared.view.PendingView.{PendingView}
use Rattle.nm_device.specs.declared.view.PendingView.TheVariants as view

-- what is pending, by the session that began it alone (RFC 6241 section 8.4)
abbrev pub view_of : {Before : Type 0} → Option (PendingState Before) → PendingView
view_of None = view.None
view_of (Some pending) = view.Standing pending.issuer
