use Rattle.std.proofs.Common.{◌≡◌, ◌++◌, ◌-◌}
use Rattle.nm_make.specs.Drawn.{seeded, changes_drawn}
use Rattle.nm_make.proofs.draw.draw_changes.Given as goal

-- what is drawn and what the generator draws from here on make all
abbrev pub invariant-loop : goal.invariant-loop
invariant-loop l = l.changes.items ++ changes_drawn (64 - l.counter) l.generator ≡ changes_drawn 64 (seeded l.number)
