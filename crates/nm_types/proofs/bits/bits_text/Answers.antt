use Rattle.std.proofs.Common.{rules, ◌≡◌, ◌<◌, ℕ, List, All, length, get_or, sym, subst}
use Rattle.nm_types.proofs.bits.bits_text.Goals as goal

pub text_at-requires : goal.text_at-requires
text_at-requires c =
    let keys : c.deref.result.now ≡ c.args.places.now.keys = search rules in
    let names : c.as_slice.result.now ≡ c.args.names.now = c.as_slice.ensures.value in
    let within : All (λ place. place < length c.args.names.now) c.args.places.now.keys = λ k d l. c.requires (get_or c.args.places.now.keys k d) (c.iter.ensures.found k d l) in
    subst (λ (l : List (List ℕ)). All (λ place. place < length l) c.deref.result.now) (sym names) (subst (λ (l : List ℕ). All (λ place. place < length c.args.names.now) l) (sym keys) within)
