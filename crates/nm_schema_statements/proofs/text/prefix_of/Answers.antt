use Rattle.std.proofs.Common.{◌≡◌, ◌==◌, length, false, refl, lit<}
use Rattle.std.specs.List.{position_or_len, list_any}
use Rattle.nm_schema_statements.specs.Text.{prefix_of}
use Rattle.nm_schema_statements.proofs.Colons.{any-past}
use Rattle.nm_schema_statements.proofs.text.prefix_of.Goals as goal

pub returns-in-None : goal.returns-in-None
unfolding prefix_of
returns-in-None c =
    let past : position_or_len (λ b. b == 58) c.args.text.now ≡ length c.args.text.now = c.in-None.ensures.byte (lit< tt) (λ w o h. h) in
    let none : list_any (λ b. b == 58) c.args.text.now ≡ false = any-past (λ b. b == 58) c.args.text.now past in
    rw none refl
