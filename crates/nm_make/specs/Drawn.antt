-- What the made scenario of a number draws (this project's own): words of the generator PCG32 (O'Neill, "PCG: a family of simple fast
-- space-efficient statistically good algorithms for random number generation"), one after the other.
use Rattle.std.specs.Prelude.{ℕ, zero, suc, ◌+◌, ◌%◌, min, max, List, [], ◌∷◌, ◌==◌, Some, None, cond}
use Rattle.rand_core.specs.Pcg32Seed.{pcg32_seed}
use Rattle.rand_pcg.specs.Lcg.{Lcg}
use Rattle.rand_pcg.specs.Pcg.{pcg32, pcg32_of_seed}
use Rattle.nm_make.specs.declared.draw.MadeEdit.{MadeEdit}
use Rattle.nm_make.specs.declared.draw.MadeChange.{MadeChange}

-- the generator that a number seeds
unfoldable pub seeded : ℕ → Lcg
seeded number = pcg32_of_seed (pcg32_seed 16 number)

-- one of so many numbers from the least on, by the next word, and the generator behind that word
abbrev pub drawn : ℕ → ℕ → Lcg → ℕ × Lcg
drawn least count generator = (least + (pcg32 generator).0 % count, (pcg32 generator).1)

-- an edit of a device: first its interface, one of 400, then the MTU that this gets
unfoldable pub edit_drawn : ℕ → Lcg → MadeEdit × Lcg
edit_drawn device generator =
    let interface = drawn 1 400 generator in
    let mtu = drawn 68 9000 interface.1 in
    (record { device = device; interface = interface.0; mtu = mtu.0 }, mtu.1)

-- a change set that is drawn with one device
abbrev pub alone : MadeEdit × Lcg → MadeChange × Lcg
alone first = (record { first = first.0; second = None }, first.1)

-- one with a second device behind the first
abbrev pub joined : MadeEdit → MadeEdit × Lcg → MadeChange × Lcg
joined first second = (record { first = first; second = Some second.0 }, second.1)

-- a change set over two devices, which come in ascending order
abbrev pub paired : ℕ → MadeEdit × Lcg → MadeChange × Lcg
paired other first = joined first.0 (edit_drawn other first.1)

-- a change set over the devices that were drawn; both may be one
abbrev pub change_over : ℕ → ℕ → Lcg → MadeChange × Lcg
change_over one other generator =
    cond (one == other) (alone (edit_drawn one generator)) (paired (max one other) (edit_drawn (min one other) generator))

-- a change set: first its two devices, of 32, then their edits
unfoldable pub change_drawn : Lcg → MadeChange × Lcg
change_drawn generator =
    let one = drawn 1 32 generator in
    let other = drawn 1 32 one.1 in
    change_over one.0 other.0 other.1

-- so many change sets
unfoldable pub changes_drawn : ℕ → Lcg → List MadeChange
changes_drawn zero generator = []
changes_drawn (suc more) generator = (change_drawn generator).0 ∷ changes_drawn more (change_drawn generator).1
