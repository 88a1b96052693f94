use Rattle.std.proofs.Common.{◌≡◌, ◌++◌, List, ℕ, Bor, map, drop}
use Rattle.nm_schema_keys.specs.Keys as spec
use Rattle.nm_schema_keys.proofs.key.words_flaw.Given as goal

-- the words that are left decide, after the leafs so far
abbrev pub invariant-loop-word : goal.invariant-loop-word
invariant-loop-word l = record {
  flaw : spec.words_flaw (spec.key_leaf l.members.rows l.members.nodes l.loses l.owner) l.keys (map (λ (t : Bor (List ℕ)). t.now) (drop l.word-index l.words)) ≡ spec.words_flaw (spec.key_leaf l.members.rows l.members.nodes l.loses l.owner) l.initial.keys (map (λ (t : Bor (List ℕ)). t.now) l.words);
  keys : l.keys ++ spec.leafs_named (spec.key_leaf l.members.rows l.members.nodes l.loses l.owner) (map (λ (t : Bor (List ℕ)). t.now) (drop l.word-index l.words)) ≡ l.initial.keys ++ spec.leafs_named (spec.key_leaf l.members.rows l.members.nodes l.loses l.owner) (map (λ (t : Bor (List ℕ)). t.now) l.words);
}
