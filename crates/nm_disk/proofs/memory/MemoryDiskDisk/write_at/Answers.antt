use Rattle.std.proofs.Common.{◌≡◌, List, length, reverse, sym, subst, arith}
use Rattle.std.proofs.lemmas.Grind.{common_steps}
use Rattle.nm_disk.specs.Image.{ImageStep, IsTorn}
use Rattle.nm_disk.specs.Memory.{memory_state, noted, wrote}
use Rattle.nm_disk.specs.declared.memory.Call.{Call}
use Rattle.nm_disk.proofs.Images.{wrote_step}
use Rattle.nm_disk.proofs.memory.MemoryDiskDisk.write_at.Goals as goal

pub returns-clause-crash : goal.returns-clause-crash
returns-clause-crash c =
    let disk = c.args.self.now in
    let same : reverse c.push.new.self.items ≡ (noted disk (wrote c.args.at c.args.piece.now)).calls = grind (arith, common_steps) in
    subst (λ (calls : List Call). ImageStep (IsTorn c.args.at (length c.args.piece.now)) (memory_state disk) (memory_state (record disk { calls = calls }))) (sym same) (wrote_step disk c.args.at c.args.piece.now c.requires)
